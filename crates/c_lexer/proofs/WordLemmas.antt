-- Names that are too short or too long to be one of the words.
use Rattle.std.proofs.Common.{◌≡◌, ◌⊎◌, ℕ, ◌<◌, nat_lt, Bool, true, false, if◌then◌else◌, inl, inr, List, [], ◌∷◌, length, refl, ap, sym, ◌∙◌, arith}
use Rattle.std.proofs.lemmas.Slice.Eq.{bytes_eq-Decides}
use Rattle.std.proofs.lemmas.Bool.{ltb-true}
use Rattle.std.specs.Str.{bytes_eq}
use Rattle.c_lexer.specs.declared.symbols.Symbol.{Symbol}
use Rattle.c_lexer.specs.declared.symbols.Symbol.TheVariants as s
use Rattle.c_lexer.specs.Symbols.{lookup, name_symbol, word_symbols}

-- each word has 2 to 8 bytes
abbrev are_between : List (List ℕ × Symbol) → Bool
are_between [] = true
are_between (w ∷ words) = if nat_lt 1 (length w.0) then (if nat_lt (length w.0) 9 then are_between words else false) else false

both_true : (b c : Bool) → (if b then c else false) ≡ true → (b ≡ true) × (c ≡ true)
both_true true c e = (refl, e)
both_true false c e = absurd (cc)

unequal : (word text : List ℕ) → 1 < length word → length word < 9 → (length text < 2) ⊎ (8 < length text) → bytes_eq word text ≡ false
unequal word text low high h = go (bytes_eq word text) refl
  where
    go : (b : Bool) → bytes_eq word text ≡ b → b ≡ false
    go true e =
        let same : length word ≡ length text = ap length ((bytes_eq-Decides word text).0 e) in
        elim h [ inl short ↦ absurd (omega (arith, same, short, low)) | inr long ↦ absurd (omega (arith, same, long, high)) ]
    go false e = refl

free : (words : List (List ℕ × Symbol)) (text : List ℕ) → are_between words ≡ true → (length text < 2) ⊎ (8 < length text) → lookup words text ≡ s.Name
free [] text e h = refl
free (w ∷ words) text e h =
    let first = both_true (nat_lt 1 (length w.0)) (if nat_lt (length w.0) 9 then are_between words else false) e in
    let more = both_true (nat_lt (length w.0) 9) (are_between words) first.1 in
    ap (λ b. if b then w.1 else lookup words text) (unequal w.0 text (ltb-true 1 (length w.0) first.0) (ltb-true (length w.0) 9 more.0) h) ∙ free words text more.1 h

pub free_name : (text : List ℕ) → (length text < 2) ⊎ (8 < length text) → s.Name ≡ name_symbol text
unfolding name_symbol
free_name text h = sym (free word_symbols text refl h)
