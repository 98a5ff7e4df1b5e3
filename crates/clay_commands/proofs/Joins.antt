-- Leaves with the vectors of a list, and one turn of the loop that gives them.
use Rattle.std.proofs.Common.{◌≡◌, ℕ, zero, suc, ◌+◌, ◌<◌, List, [], ◌∷◌, ◌++◌, length, get_or, set, take, drop, refl, ap, sym, ◌∙◌, add-one, arith}
use Rattle.clay_commands.specs.declared.leaves.Leaf.{Leaf}
use Rattle.clay_commands.specs.Drafts.{Draft, with_beta}
use Rattle.clay_commands.specs.Steps.{joined}

at_hand : (V : List (List ℕ)) (D : Draft) (k : ℕ) (d : Leaf) → k < length V → k < length D → get_or (joined (take k V) (take k D) ++ drop k D) k d ≡ get_or D k d
at_hand [] D k d v l = absurd (omega arith)
at_hand (v ∷ V) [] k d lv l = absurd (omega arith)
at_hand (v ∷ V) (leaf ∷ D) zero d lv l = refl
at_hand (v ∷ V) (leaf ∷ D) (suc k) d lv l = at_hand V D k d (omega arith) (omega arith)

set_one : (V : List (List ℕ)) (D : Draft) (k : ℕ) (d : Leaf) → k < length V → k < length D
    → set (joined (take k V) (take k D) ++ drop k D) k (with_beta (get_or V k []) (get_or D k d)) ≡ joined (take (suc k) V) (take (suc k) D) ++ drop (suc k) D
set_one [] D k d v l = absurd (omega arith)
set_one (v ∷ V) [] k d lv l = absurd (omega arith)
set_one (v ∷ V) (leaf ∷ D) zero d lv l = refl
set_one (v ∷ V) (leaf ∷ D) (suc k) d lv l = ap (λ t. with_beta v leaf ∷ t) (set_one V D k d (omega arith) (omega arith))

pub one_joined : (V : List (List ℕ)) (D now : Draft) (k : ℕ) (x y : Leaf) → now ≡ joined (take k V) (take k D) ++ drop k D → k < length V → k < length D
    → x ≡ get_or now k x → y ≡ with_beta (get_or V k []) x → set now k y ≡ joined (take (k + 1) V) (take (k + 1) D) ++ drop (k + 1) D
one_joined V D now k x y e lv l is made =
    let x_is : x ≡ get_or D k x = is ∙ ap (λ t. get_or t k x) e ∙ at_hand V D k x lv l in
    ap (λ t. set t k y) e ∙ ap (λ t. set (joined (take k V) (take k D) ++ drop k D) k t) (made ∙ ap (with_beta (get_or V k [])) x_is) ∙ set_one V D k x lv l
    ∙ ap (λ n. joined (take n V) (take n D) ++ drop n D) (sym (add-one k))
