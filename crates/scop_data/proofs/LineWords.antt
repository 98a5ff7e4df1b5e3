-- What it means that words are the same, and that a word is one for a number.
use Rattle.std.proofs.Common.{◌≡◌, refl, ap, ◌∙◌, ℕ, ℤ, List, [], ◌∷◌, true}
use Rattle.std.specs.Str.{bytes_eq}
use Rattle.std.proofs.lemmas.Bool.{and_parts, and_from}
use Rattle.std.proofs.lemmas.Bool.Decides.{Decides-int_eq}
use Rattle.std.proofs.lemmas.Slice.Eq.{bytes_eq-Decides}
use Rattle.suite_base.specs.declared.numbers.NumberRead.{NumberRead}
use Rattle.suite_base.specs.declared.numbers.NumberRead.TheVariants.{Value, TooLarge, NotNumber}
use Rattle.scop_data.specs.LineWords.{are_same, is_value}

pub same_words : (vs ws : List (List ℕ)) → are_same vs ws ≡ true → vs ≡ ws
same_words [] [] e = refl
same_words [] (w ∷ ws) e = absurd cc
same_words (v ∷ vs) [] e = absurd cc
same_words (v ∷ vs) (w ∷ ws) e =
    let both = and_parts (bytes_eq v w) (are_same vs ws) e in
    ap (λ (x : List ℕ). x ∷ vs) ((bytes_eq-Decides v w).0 both.0) ∙ ap (λ (xs : List (List ℕ)). w ∷ xs) (same_words vs ws both.1)

pub words_same : (vs : List (List ℕ)) → are_same vs vs ≡ true
words_same [] = refl
words_same (v ∷ vs) = and_from (bytes_eq v v) (are_same vs vs) ((bytes_eq-Decides v v).1 refl) (words_same vs)

-- a word for a number reads as that number
pub value_is : (n : ℤ) (r : NumberRead) → is_value n r ≡ true → r ≡ Value n
value_is n (Value m) e = ap (λ (z : ℤ). Value z) ((Decides-int_eq m n).0 e)
value_is n TooLarge e = absurd cc
value_is n NotNumber e = absurd cc

pub is_its_value : (n : ℤ) (r : NumberRead) → r ≡ Value n → is_value n r ≡ true
is_its_value n r e = rw e ((Decides-int_eq n n).1 refl)
