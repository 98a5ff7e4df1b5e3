-- Lists of entries that are appended one after the other.
use Rattle.std.proofs.Common.{◌≡◌, ℕ, suc, ◌+◌, ◌-◌, ◌<◌, ◌≤◌, List, [], ◌∷◌, ◌++◌, map, length, slice_get, Some, refl, ap, sym, ◌∙◌, arith, append_assoc}
use Rattle.std.specs.List.{flat_map, range_with_len}
use Rattle.std.proofs.lemmas.List.{length-append}
use Rattle.std.proofs.lemmas.List.Concat.{flat_map-cons}
use Rattle.suite_base.specs.declared.refusals.Fail.{Fail}
use Rattle.suite_base.specs.declared.refusals.Fail.TheVariants.{Memory, Refused}
use Rattle.dependence_systems.specs.declared.dependences.Dep.{Dep}
use Rattle.dependence_systems.specs.Entries.{numbered, between, side_at, entries_by_number, entries, IsTooMany}
use Rattle.dependence_systems.specs.Sides.{Side, member, member_or, no_side}

-- too many already in a part
pub too_many : (part whole : List Dep) (fail : Fail) → length part ≤ length whole → IsTooMany part fail → IsTooMany whole fail
too_many part whole Memory h g = tt
too_many part whole (Refused r) h g = (g.0, omega (arith, h, g.1))

-- numbers from k + 1 to n
range_split : (k n : ℕ) → k < n → range_with_len (k + 1) (n - k) ≡ (k + 1) ∷ range_with_len (k + 1 + 1) (n - (k + 1))
range_split k n h = ap (λ m. range_with_len (k + 1) m) (let e : n - k ≡ suc (n - (k + 1)) = omega arith in e)

-- what is appended for one number more
rest_split : {X : Type 0} (f : ℕ → List X) (list whole : List X) (k n : ℕ) → k < n → list ++ flat_map f (range_with_len (k + 1) (n - k)) ≡ whole
    → (list ++ f (k + 1)) ++ flat_map f (range_with_len (k + 1 + 1) (n - (k + 1))) ≡ whole
rest_split f list whole k n h e =
    append_assoc list (f (k + 1)) (flat_map f (range_with_len (k + 1 + 1) (n - (k + 1))))
    ∙ (sym (ap (λ t. list ++ t) (ap (λ r. flat_map f r) (range_split k n h) ∙ flat_map-cons f (k + 1) (range_with_len (k + 1 + 1) (n - (k + 1))))) ∙ e)

pub range_step : {X : Type 0} (f : ℕ → List X) (list new whole : List X) (k n : ℕ) → k < n → list ++ flat_map f (range_with_len (k + 1) (n - k)) ≡ whole → new ≡ list ++ f (k + 1)
    → new ++ flat_map f (range_with_len (k + 1 + 1) (n - (k + 1))) ≡ whole
range_step f list new whole k n h e made = ap (λ t. t ++ flat_map f (range_with_len (k + 1 + 1) (n - (k + 1)))) made ∙ rest_split f list whole k n h e

pub range_too_many : (f : ℕ → List Dep) (list whole : List Dep) (k n : ℕ) (fail : Fail) → k < n → list ++ flat_map f (range_with_len (k + 1) (n - k)) ≡ whole
    → IsTooMany (list ++ f (k + 1)) fail → IsTooMany whole fail
range_too_many f list whole k n fail h e g =
    let split = ap length (rest_split f list whole k n h e) in
    too_many (list ++ f (k + 1)) whole fail (omega (arith, split, length-append (list ++ f (k + 1)) (flat_map f (range_with_len (k + 1 + 1) (n - (k + 1)))))) g

-- the same with one entry for each number
map_split : {X : Type 0} (f : ℕ → X) (list whole : List X) (k n : ℕ) → k < n → list ++ map f (range_with_len (k + 1) (n - k)) ≡ whole
    → (list ++ f (k + 1) ∷ []) ++ map f (range_with_len (k + 1 + 1) (n - (k + 1))) ≡ whole
map_split f list whole k n h e =
    append_assoc list (f (k + 1) ∷ []) (map f (range_with_len (k + 1 + 1) (n - (k + 1))))
    ∙ (sym (ap (λ t. list ++ t) (ap (λ r. map f r) (range_split k n h))) ∙ e)

pub map_step : {X : Type 0} (f : ℕ → X) (list new whole : List X) (k n : ℕ) → k < n → list ++ map f (range_with_len (k + 1) (n - k)) ≡ whole → new ≡ list ++ f (k + 1) ∷ []
    → new ++ map f (range_with_len (k + 1 + 1) (n - (k + 1))) ≡ whole
map_step f list new whole k n h e made = ap (λ t. t ++ map f (range_with_len (k + 1 + 1) (n - (k + 1)))) made ∙ map_split f list whole k n h e

-- members with their numbers are members by their numbers
at_end : {X : Type 0} (front : List X) (x : X) (xs : List X) → slice_get (front ++ x ∷ xs) (length front) ≡ Some x
at_end [] x xs = refl
at_end (y ∷ front) x xs = at_end front x xs

numbers_are : {X : Type 0} (d : X) (all front xs : List X) (k : ℕ) → all ≡ front ++ xs → k ≡ length front + 1
    → numbered k xs ≡ map (λ i. (i, member_or d (member all i))) (range_with_len k (length xs))
numbers_are d all front [] k e l = refl
numbers_are d all front (x ∷ xs) k e l =
    let number : k ≡ suc (length front) = omega (arith, l) in
    let here : member all k ≡ Some x = ap (λ i. member all i) number ∙ (ap (λ z. slice_get z (length front)) e ∙ at_end front x xs) in
    let rest = numbers_are d all (front ++ x ∷ []) xs (k + 1) (e ∙ sym (append_assoc front (x ∷ []) xs)) (omega (arith, l, length-append front (x ∷ []))) in
    ap (λ t. (k, x) ∷ t) rest ∙ ap (λ found. (k, member_or d found) ∷ map (λ i. (i, member_or d (member all i))) (range_with_len (k + 1) (length xs))) (sym here)

flat_map_map : {X Y Z : Type 0} (f : Y → List Z) (g : X → Y) (xs : List X) → flat_map f (map g xs) ≡ flat_map (λ x. f (g x)) xs
flat_map_map f g [] = refl
flat_map_map f g (x ∷ xs) =
    flat_map-cons f (g x) (map g xs) ∙ (ap (λ t. f (g x) ++ t) (flat_map_map f g xs) ∙ sym (flat_map-cons (λ y. f (g y)) x xs))

flat_map_same : {X Y : Type 0} (f g : X → List Y) (xs : List X) → ((x : X) → f x ≡ g x) → flat_map f xs ≡ flat_map g xs
flat_map_same f g [] h = refl
flat_map_same f g (x ∷ xs) h = flat_map-cons f x xs ∙ (ap (λ t. t ++ flat_map f xs) (h x) ∙ (ap (λ t. g x ++ t) (flat_map_same f g xs h) ∙ sym (flat_map-cons g x xs)))

-- the list of all entries, by the numbers of statements
pub entries_are : (sides : List Side) → entries_by_number sides (length sides) ≡ entries sides
entries_are sides =
    let n = length sides in
    let all : numbered 1 sides ≡ map (side_at sides) (range_with_len 1 n) = numbers_are no_side sides [] sides 1 refl refl in
    let inner : (s : ℕ × Side) → flat_map (λ t. between s t) (numbered 1 sides) ≡ flat_map (λ k. between s (side_at sides k)) (range_with_len 1 n)
    = λ s. ap (λ xs. flat_map (λ t. between s t) xs) all ∙ flat_map_map (λ t. between s t) (side_at sides) (range_with_len 1 n) in
    sym (flat_map_same (λ s. flat_map (λ t. between s t) (numbered 1 sides)) (λ s. flat_map (λ k. between s (side_at sides k)) (range_with_len 1 n)) (numbered 1 sides) inner
    ∙ (ap (λ xs. flat_map (λ s. flat_map (λ k. between s (side_at sides k)) (range_with_len 1 n)) xs) all
    ∙ flat_map_map (λ s. flat_map (λ k. between s (side_at sides k)) (range_with_len 1 n)) (side_at sides) (range_with_len 1 n)))
