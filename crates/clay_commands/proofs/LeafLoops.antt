-- One turn of a loop that changes each leaf in place: of xs the first k are changed.
use Rattle.std.proofs.Common.{◌≡◌, ℕ, zero, suc, ◌+◌, ◌<◌, ◌≤◌, true, List, [], ◌∷◌, ◌++◌, map, length, get_or, set, take, drop, refl, ap, sym, ◌∙◌, subst, add-one, arith}
use Rattle.scop_data.specs.declared.statements.Statement.{Statement}
use Rattle.clay_commands.specs.declared.leaves.Leaf.{Leaf}
use Rattle.clay_commands.specs.declared.edit_fails.EditFail.{EditFail}
use Rattle.clay_commands.specs.declared.edit_fails.EditFail.TheVariants.{Memory, Heavy}
use Rattle.clay_commands.specs.Drafts.{Draft, is_under}
use Rattle.clay_commands.specs.Refusals.{most_under}
use Rattle.clay_commands.specs.Steps.{AllUnder, IsHeavy, counted}

at_hand : {X : Type 0} → (f : X → X) (xs : List X) (k : ℕ) (d : X) → k < length xs → get_or (map f (take k xs) ++ drop k xs) k d ≡ get_or xs k d
at_hand f [] k d l = absurd (omega arith)
at_hand f (x ∷ xs) zero d l = refl
at_hand f (x ∷ xs) (suc k) d l = at_hand f xs k d (omega arith)

-- the leaf at place k is still as it was
pub still_there : {X : Type 0} → (f : X → X) (xs ys : List X) (k : ℕ) (x : X) → ys ≡ map f (take k xs) ++ drop k xs → k < length xs → x ≡ get_or ys k x → x ≡ get_or xs k x
still_there f xs ys k x e l is = is ∙ ap (λ t. get_or t k x) e ∙ at_hand f xs k x l

set_one : {X : Type 0} → (f : X → X) (xs : List X) (k : ℕ) (d : X) → k < length xs
    → set (map f (take k xs) ++ drop k xs) k (f (get_or xs k d)) ≡ map f (take (suc k) xs) ++ drop (suc k) xs
set_one f [] k d l = absurd (omega arith)
set_one f (x ∷ xs) zero d l = refl
set_one f (x ∷ xs) (suc k) d l = ap (λ t. f x ∷ t) (set_one f xs k d (omega arith))

-- one more is changed
pub one_more : {X : Type 0} → (f : X → X) (xs ys : List X) (k : ℕ) (x y : X) → ys ≡ map f (take k xs) ++ drop k xs → k < length xs → x ≡ get_or ys k x → y ≡ f x
    → set ys k y ≡ map f (take (k + 1) xs) ++ drop (k + 1) xs
one_more f xs ys k x y e l is made =
    let x_is : x ≡ get_or xs k x = still_there f xs ys k x e l is in
    ap (λ t. set t k y) e ∙ ap (λ t. set (map f (take k xs) ++ drop k xs) k t) (made ∙ ap f x_is) ∙ set_one f xs k x l ∙ ap (λ n. map f (take n xs) ++ drop n xs) (sym (add-one k))

-- the greatest of what counts, of one more leaf
most_take : (P : List ℕ) (number : Statement → ℕ) (xs : Draft) (k : ℕ) (d : Leaf) (most : ℕ) → k < length xs
    → most_under P number (take k xs) < most → counted P number (get_or xs k d) < most → most_under P number (take (suc k) xs) < most
most_take P number [] k d most l a b = absurd (omega arith)
most_take P number (x ∷ xs) zero d most l a b = omega arith
most_take P number (x ∷ xs) (suc k) d most l a b =
    let h = most_take P number xs k d most (omega arith) (omega arith) b in omega arith

pub one_more_light : (P : List ℕ) (number : Statement → ℕ) (xs : Draft) (k : ℕ) (x : Leaf) (most : ℕ) → k < length xs → x ≡ get_or xs k x
    → most_under P number (take k xs) < most → counted P number x < most → most_under P number (take (k + 1) xs) < most
one_more_light P number xs k x most l is a b =
    rw (add-one k) (most_take P number xs k x most l a (subst (λ t. counted P number t < most) is b))

counted_below : (P : List ℕ) (number : Statement → ℕ) (xs : Draft) (k : ℕ) (d : Leaf) → k < length xs → counted P number (get_or xs k d) ≤ most_under P number xs
counted_below P number [] k d l = absurd (omega arith)
counted_below P number (x ∷ xs) zero d l = omega arith
counted_below P number (x ∷ xs) (suc k) d l = let h = counted_below P number xs k d (omega arith) in omega arith

heavier : (a b : ℕ) (fail : EditFail) → a ≤ b → IsHeavy a fail → IsHeavy b fail
heavier a b Memory l h = tt
heavier a b Heavy l h = omega arith

pub heavy_leaf : (P : List ℕ) (number : Statement → ℕ) (xs : Draft) (k : ℕ) (x : Leaf) (fail : EditFail) → k < length xs → x ≡ get_or xs k x
    → IsHeavy (counted P number x) fail → IsHeavy (most_under P number xs) fail
heavy_leaf P number xs k x fail l is h =
    heavier (counted P number (get_or xs k x)) (most_under P number xs) fail (counted_below P number xs k x l) (subst (λ t. IsHeavy (counted P number t) fail) is h)

-- what holds of all statements under P holds of the leaf at hand
pub holds_at : (P : List ℕ) (Holds : Statement → Type 0) (xs : Draft) (k : ℕ) (d : Leaf) → k < length xs → AllUnder P Holds xs
    → is_under P (get_or xs k d).beta ≡ true → Holds (get_or xs k d).statement
holds_at P Holds [] k d l all u = absurd (omega arith)
holds_at P Holds (x ∷ xs) zero d l all u = all.0 u
holds_at P Holds (x ∷ xs) (suc k) d l all u = holds_at P Holds xs k d (omega arith) all.1 u

pub holds_of_leaf : (P : List ℕ) (Holds : Statement → Type 0) (xs : Draft) (k : ℕ) (x : Leaf) → k < length xs → x ≡ get_or xs k x → AllUnder P Holds xs
    → is_under P x.beta ≡ true → Holds x.statement
holds_of_leaf P Holds xs k x l is all u =
    let Q : Leaf → Type 0 = λ t. is_under P t.beta ≡ true → Holds t.statement in
    subst Q (sym is) (holds_at P Holds xs k x l all) u
