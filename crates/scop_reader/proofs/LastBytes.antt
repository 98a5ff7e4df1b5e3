-- The last byte of a line, beside the line that is made of its other bytes and a wanted one.
use Rattle.std.proofs.Common.{◌≡◌, ℕ, Bool, true, false, List, [], ◌∷◌, ◌++◌, ◌-◌, ◌≤◌, ◌&&◌, refl, sym, ap, ◌∙◌, suc, length, take, drop, get_or, nat_eq, arith}
use Rattle.std.proofs.lemmas.Grind.{common_steps}
use Rattle.std.specs.Str.{bytes_eq}

and_true : (b : Bool) → b ≡ (b && true)
and_true true = refl
and_true false = refl

same_number : (n : ℕ) → nat_eq n n ≡ true
same_number n = grind (arith, common_steps)

last_of : (wanted y : ℕ) (ys : List ℕ) → nat_eq (get_or (y ∷ ys) (length ys) 0) wanted ≡ bytes_eq (y ∷ ys) (take (length ys) (y ∷ ys) ++ wanted ∷ [])
last_of wanted y [] = and_true (nat_eq y wanted)
last_of wanted y (z ∷ zs) = last_of wanted z zs ∙ ap (λ b. b && bytes_eq (z ∷ zs) (take (length zs) (z ∷ zs) ++ wanted ∷ [])) (sym (same_number y))

pub last_tells : (line : List ℕ) (first wanted : ℕ) → 2 ≤ length line → get_or line 0 0 ≡ first
    → nat_eq (get_or line (length line - 1) 0) wanted ≡ bytes_eq line (first ∷ (take (length (drop 1 line) - 1) (drop 1 line) ++ wanted ∷ []))
last_tells [] first wanted h e = absurd (omega arith)
last_tells (x ∷ []) first wanted h e = absurd (omega arith)
last_tells (x ∷ (y ∷ ys)) first wanted h e =
    let at : suc (suc (length ys)) - 1 ≡ suc (length ys) = omega arith in
    let most : suc (length ys) - 1 ≡ length ys = omega arith in
    rw (at, most, ← e) (last_of wanted y ys ∙ ap (λ b. b && bytes_eq (y ∷ ys) (take (length ys) (y ∷ ys) ++ wanted ∷ [])) (sym (same_number x)))
