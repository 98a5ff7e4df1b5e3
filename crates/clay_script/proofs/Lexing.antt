-- What the lexer takes is the first token of what is left.
use Rattle.std.proofs.Common.{◌≡◌, ℕ, suc, ◌-◌, ◌≤◌, Bool, true, false, ◌||◌, ◌==◌, inl, inr, List, [], ◌∷◌, take, length, refl, sym, ap, ◌∙◌, arith, cond}
use Rattle.std.specs.List.{prefix_len}
use Rattle.std.proofs.lemmas.List.Sums.{prefix_len-le-length}
use Rattle.suite_base.specs.declared.places.Place.{Place}
use Rattle.suite_base.specs.declared.numbers.NumberRead.{NumberRead}
use Rattle.suite_base.specs.declared.numbers.NumberRead.TheVariants as read
use Rattle.suite_base.specs.Numbers.{number_read}
use Rattle.suite_base.proofs.LineCuts.{bool_tells}
use Rattle.clay_script.specs.declared.tokens.Token.{Token}
use Rattle.clay_script.specs.declared.tokens.Lexeme.{Lexeme}
use Rattle.suite_base.specs.Bytes.{is_letter}
use Rattle.suite_base.specs.Places.{after_byte}
use Rattle.clay_script.specs.Lexemes.{is_gap, begins_number, sign_token, number_token, token_of, token_length, lexemes}
use Rattle.clay_script.specs.Taking.{left_after, Takes, BeginsToken}

pub prefix_within : (p : ℕ → Bool) (s : List ℕ) → prefix_len p s ≤ length s
prefix_within p s = prefix_len-le-length p s

number_goes_on : (n : NumberRead) (rest : List Lexeme) → left_after (number_token n) rest ≡ rest
number_goes_on (read.Value z) rest = refl
number_goes_on read.TooLarge rest = refl
number_goes_on read.NotNumber rest = refl

-- of two answers that both leave the rest, the test takes one
either : (b : Bool) (x y : Token) (rest : List Lexeme) → left_after x rest ≡ rest → left_after y rest ≡ rest → left_after (cond b x y) rest ≡ rest
either true x y rest e f = e
either false x y rest e f = f

sign_goes_on : (b : ℕ) (rest : List Lexeme) → left_after (sign_token b) rest ≡ rest
sign_goes_on b rest =
    either (b == 40) _ _ rest refl (either (b == 41) _ _ rest refl (either (b == 91) _ _ rest refl (either (b == 93) _ _ rest refl (either (b == 44) _ _ rest refl (either (b == 59) _ _ rest refl refl)))))

-- the token that some bytes are is not the end
pub goes_on : (b : ℕ) (word : List ℕ) (rest : List Lexeme) → left_after (token_of (b ∷ word)) rest ≡ rest
goes_on b word rest = either (is_letter b) _ _ rest refl (either (begins_number b) _ _ rest (number_goes_on (number_read (b ∷ word)) rest) (sign_goes_on b rest))

pub some_length : (b : ℕ) (rest : List ℕ) → token_length (b ∷ rest) ≡ suc (token_length (b ∷ rest) - 1)
some_length b rest =
    elim (bool_tells (is_letter b)) [
      | inl e ↦ simp e (omega arith)
      | inr e ↦ elim (bool_tells (begins_number b)) [
        | inl f ↦ simp (e, f) (omega arith)
        | inr f ↦ simp (e, f) (omega arith)
      ]
    ]

neither : (a b : Bool) → (a || b) ≡ false → (a ≡ false) × (b ≡ false)
neither true b h = absurd cc
neither false b h = (refl, h)

abbrev pub lexeme_of : ℕ → Place → List ℕ → Lexeme
lexeme_of k at s = record { token = token_of (take k s); place = at }

pub lexemes_at : (at : Place) (b : ℕ) (s : List ℕ) → is_gap b ≡ false → (b == 35) ≡ false
    → lexemes 0 at (b ∷ s) ≡ lexeme_of (token_length (b ∷ s)) at (b ∷ s) ∷ lexemes (token_length (b ∷ s) - 1) (after_byte at b) s
lexemes_at at b s e f = rw (e, f) refl

pub taken : (at : Place) (s : List ℕ) (after : List Lexeme) → BeginsToken s → after ≡ lexemes (token_length s) at s
    → Takes (lexeme_of (token_length s) at s) (lexemes 0 at s) after
taken at [] after begins e = refl
taken at (b ∷ s) after begins e =
    let none = neither (is_gap b) (b == 35) begins in
    let k : ℕ = token_length (b ∷ s) - 1 in
    let size : token_length (b ∷ s) ≡ suc k = some_length b s in
    let left : after ≡ lexemes k (after_byte at b) s = e ∙ ap (λ n. lexemes n at (b ∷ s)) size in
    let whole : left_after (token_of (take (token_length (b ∷ s)) (b ∷ s))) after ≡ after = ap (λ n. left_after (token_of (take n (b ∷ s))) after) size ∙ goes_on b (take k s) after in
    lexemes_at at b s none.0 none.1 ∙ ap (λ (l : List Lexeme). lexeme_of (token_length (b ∷ s)) at (b ∷ s) ∷ l) (sym left ∙ sym whole)
