-- Places go on with the bytes that are read.
use Rattle.std.proofs.Common.{◌≡◌, ℕ, ◌+◌, ◌-◌, ◌≤◌, ◌<◌, ◌==◌, inl, inr, Bool, true, false, List, [], ◌∷◌, length, take, drop, Option, Some, None, Ok, Err, if◌then◌else◌, refl, ap, subst, sym, ◌∙◌, arith, length-take, length-take-le, add-zero}
use Rattle.std.proofs.Math.Seq.{take-add, drop-length}
use Rattle.std.proofs.lemmas.Bool.{eqb-true}
use Rattle.std.proofs.lemmas.Bool.Decides.{eqb_tells}
use Rattle.suite_base.specs.declared.places.Place.{Place}
use Rattle.suite_base.proofs.LineCuts.{bool_tells}
use Rattle.suite_base.specs.Places.{after_byte, after_bytes, place_at}
use Rattle.c_lexer.specs.declared.tokens.TokenKind.{TokenKind}
use Rattle.c_lexer.specs.declared.tokens.Token.{Token}
use Rattle.c_lexer.specs.Tokens.{gap, token_at}
use Rattle.c_lexer.specs.Readings.{Reading, Lexeme, IsToken, slice, start, lexeme_at, lexeme_of, next_from, next}
use Rattle.c_lexer.proofs.PlaceLemmas.{after_append, place_of}

-- n bytes move the place by at most n lines and n columns
pub record Near (place : Place) (n : ℕ) (new : Place) : Type 0 where
  pub line : new.line ≤ place.line + n
  pub column : new.column ≤ place.column + n

near_byte : (place : Place) (b : ℕ) → Near place 1 (after_byte place b)
near_byte place b = elim (bool_tells (b == 10)) [
  | inl e ↦ simp e (record { line = omega arith; column = omega arith })
  | inr e ↦ simp e (record { line = omega arith; column = omega arith })
]

pub near : (place : Place) (bytes : List ℕ) → Near place (length bytes) (after_bytes place bytes)
near place [] = record { line = omega arith; column = omega arith }
near place (b ∷ bytes) =
    let one : Near place 1 (after_byte place b) = near_byte place b in
    let more : Near (after_byte place b) (length bytes) (after_bytes (after_byte place b) bytes) = near (after_byte place b) bytes in
    record { line = omega (arith, one.line, more.line); column = omega (arith, one.column, more.column) }

pub near_start : (text : List ℕ) (at : ℕ) → Near (place_of 1 1) at (place_at text at)
near_start text at =
    let n : Near (place_of 1 1) (length (take at text)) (place_at text at) = near (place_of 1 1) (take at text) in
    record { line = omega (arith, n.line, length-take at text); column = omega (arith, n.column, length-take at text) }

pub places_go_on : (text : List ℕ) (at n : ℕ) → after_bytes (place_at text at) (take n (drop at text)) ≡ place_at text (at + n)
places_go_on text at n = sym (ap (λ x. after_bytes (place_of 1 1) x) (take-add at n text) ∙ after_append (place_of 1 1) (take at text) (take n (drop at text)))

pub place_then : (text : List ℕ) (at : ℕ) (place after : Place) (bytes : List ℕ) → place ≡ place_at text at → bytes ≡ take (length bytes) (drop at text)
    → after ≡ after_bytes place bytes → after ≡ place_at text (at + length bytes)
place_then text at place after bytes e f g = g ∙ (ap (λ p. after_bytes p bytes) e ∙ (ap (λ b. after_bytes (place_at text at) b) f ∙ places_go_on text at (length bytes)))

pub record Bounded (text : List ℕ) (at : ℕ) (place : Place) : Type 0 where
  pub line : place.line ≤ 1 + at
  pub column : place.column ≤ 1 + at

pub bounded : (text : List ℕ) (at : ℕ) (place : Place) → place ≡ place_at text at → Bounded text at place
bounded text at place e =
    let n : Near (place_of 1 1) at (place_at text at) = near_start text at in
    record { line = omega (arith, n.line, ap (λ p. p.line) e); column = omega (arith, n.column, ap (λ p. p.column) e) }

abbrev pub reading : List ℕ → ℕ → Reading
reading text at = record { text = text; at = at }

-- what stands behind a place: what separates, and what follows it
pub record Ahead (text : List ℕ) (at : ℕ) (blank rest : List ℕ) : Type 0 where
  pub gap_is : length blank ≡ gap (drop at text)
  pub rest_is : rest ≡ drop (at + length blank) text
  pub whole : at + length blank + length rest ≡ length text

pub start_is : (text : List ℕ) (at : ℕ) (blank rest : List ℕ) → Ahead text at blank rest → start (reading text at) ≡ at + length blank
start_is text at blank rest h = ap (λ n. at + n) (sym h.gap_is)

abbrev pub lexeme : TokenKind → ℕ → ℕ → Lexeme
lexeme kind from to = record { kind = kind; from = from; to = to }

lexeme_is : (kind : TokenKind) (f g t u : ℕ) → f ≡ g → t ≡ u → lexeme kind f t ≡ lexeme kind g u
lexeme_is kind f g t u d e = ap (λ x. lexeme kind x t) d ∙ ap (λ x. lexeme kind g x) e

not_end : (s n m : ℕ) → s + n ≡ m → 1 ≤ n → (s == m) ≡ false
not_end s n m e h = elim (eqb_tells s m) [ inl (p, q) ↦ absurd (omega arith) | inr (p, q) ↦ p ]

at_end : (s n m : ℕ) → s + n ≡ m → n < 1 → (s == m) ≡ true
at_end s n m e h = elim (eqb_tells s m) [ inl (p, q) ↦ p | inr (p, q) ↦ absurd (q (omega arith)) ]

pub next_token : (text : List ℕ) (at : ℕ) (blank rest : List ℕ) (t : Option (TokenKind × ℕ)) → Ahead text at blank rest → 1 ≤ length rest → t ≡ token_at rest
    → next (reading text at) ≡ lexeme_at (at + length blank) t
next_token text at blank rest t h some e =
    ap (next_from text) (start_is text at blank rest h)
    ∙ (ap (λ b. if b then Ok None else lexeme_at (at + length blank) (token_at (drop (at + length blank) text))) (not_end (at + length blank) (length rest) (length text) h.whole some)
    ∙ ap (lexeme_at (at + length blank)) (ap token_at (sym h.rest_is) ∙ sym e))

pub next_none : (text : List ℕ) (at : ℕ) (blank rest : List ℕ) → Ahead text at blank rest → length rest < 1 → next (reading text at) ≡ Ok None
next_none text at blank rest h none =
    ap (next_from text) (start_is text at blank rest h)
    ∙ ap (λ b. if b then Ok None else lexeme_at (at + length blank) (token_at (drop (at + length blank) text))) (at_end (at + length blank) (length rest) (length text) h.whole none)

-- the three answers
pub answer_some : (old : Reading) (text : List ℕ) (at n : ℕ) (blank rest : List ℕ) (token : Token) → reading text at ≡ old → Ahead text at blank rest
    → Some (token.kind, n) ≡ token_at rest → 1 ≤ n → n ≤ length rest → token.text.now ≡ take n rest → token.place ≡ place_at text (at + length blank)
    → (text ≡ old.text) × (next old ≡ Ok (Some (lexeme_of token (reading text (at + (length blank + n))))))
    × IsToken old.text (lexeme_of token (reading text (at + (length blank + n)))) token
answer_some old text at n blank rest token e h t some fits bytes placed =
    let new = reading text (at + (length blank + n)) in
    let len : length token.text.now ≡ n = ap length bytes ∙ length-take-le n rest fits in
    let from_is : at + length blank ≡ at + (length blank + n) - length token.text.now = omega arith in
    let found : next (reading text at) ≡ Ok (Some (lexeme_of token new)) =
    next_token text at blank rest (Some (token.kind, n)) h (omega arith) t
    ∙ ap (λ l. Ok (Some l)) (lexeme_is token.kind (at + length blank) (at + (length blank + n) - length token.text.now) (at + length blank + n) (at + (length blank + n)) from_is (omega arith)) in
    let piece : token.text.now ≡ slice text (lexeme_of token new).from (lexeme_of token new).to =
    bytes ∙ (ap (take n) h.rest_is ∙ (ap (λ k. take k (drop (at + length blank) text)) (omega arith) ∙ ap (λ f. take (at + (length blank + n) - f) (drop f text)) from_is)) in
    let spot : token.place ≡ place_at text (lexeme_of token new).from = placed ∙ ap (place_at text) from_is in
    let P : Reading → Type 0 = λ r. (text ≡ r.text) × (next r ≡ Ok (Some (lexeme_of token new))) × IsToken r.text (lexeme_of token new) token in
    subst P e (refl, found, record { bytes = piece; placed = spot })

pub answer_none : (old : Reading) (text : List ℕ) (at : ℕ) (blank rest : List ℕ) → reading text at ≡ old → Ahead text at blank rest → length rest < 1
    → (text ≡ old.text) × (length text ≡ length old.text) × (next old ≡ Ok None)
answer_none old text at blank rest e h none =
    let P : Reading → Type 0 = λ r. (text ≡ r.text) × (length text ≡ length r.text) × (next r ≡ Ok None) in
    subst P e (refl, refl, next_none text at blank rest h none)

pub answer_bad : (old : Reading) (text : List ℕ) (at : ℕ) (blank rest : List ℕ) (place : Place) → reading text at ≡ old → Ahead text at blank rest
    → None ≡ token_at rest → 1 ≤ length rest → place ≡ place_at text (at + length blank)
    → (old ≡ old) × (next old ≡ Err (start old)) × (place ≡ place_at old.text (start old))
answer_bad old text at blank rest place e h t some placed =
    let s = start_is text at blank rest h in
    let P : Reading → Type 0 = λ r. (r ≡ r) × (next r ≡ Err (start r)) × (place ≡ place_at r.text (start r)) in
    subst P e (refl, next_token text at blank rest None h some t ∙ ap Err (sym s), placed ∙ ap (place_at text) (sym s))

-- behind the end nothing is left
gap_nil : (text : List ℕ) → gap (drop (length text) text) ≡ 0
gap_nil text = ap gap (drop-length text)

pub ended : (text : List ℕ) → next (reading text (length text)) ≡ Ok None
ended text =
    next_none text (length text) [] [] (record { gap_is = sym (gap_nil text); rest_is = sym (ap (λ n. drop n text) (add-zero (length text)) ∙ drop-length text); whole = omega arith }) (omega arith)

-- the place behind one more token
pub place_behind : (text : List ℕ) (at n : ℕ) (place after : Place) (blank rest bytes : List ℕ) → Ahead text at blank rest → place ≡ place_at text (at + length blank)
    → bytes ≡ take n rest → n ≤ length rest → after ≡ after_bytes place bytes → after ≡ place_at text (at + (length blank + n))
place_behind text at n place after blank rest bytes h e f fits g =
    let len : length bytes ≡ n = ap length f ∙ length-take-le n rest fits in
    let piece : bytes ≡ take (length bytes) (drop (at + length blank) text) = f ∙ (ap (take n) h.rest_is ∙ ap (λ k. take k (drop (at + length blank) text)) (sym len)) in
    place_then text (at + length blank) place after bytes e piece g ∙ ap (place_at text) (omega arith)

pub none_left : (n : ℕ) (b : Bool) → b ≡ (n == 0) → b ≡ true → n ≡ 0
none_left n b e f = eqb-true n 0 (sym e ∙ f)

pub some_left : (n : ℕ) (b : Bool) → b ≡ (n == 0) → b ≡ false → 1 ≤ n
some_left n b e f = elim (eqb_tells n 0) [ inl (p, q) ↦ absurd (let k : true ≡ false = sym p ∙ (sym e ∙ f) in cc) | inr (p, q) ↦ omega (arith, q) ]
