-- Arrays with distinct identifiers, one after the other.
use Rattle.std.proofs.Common.{◌≡◌, ℕ, ◌+◌, ◌<◌, true, false, not, List, [], ◌∷◌, ◌++◌, length, drop, get_or, ℤ, Some, refl, ap, sym, ◌∙◌, append_assoc, if◌then◌else◌}
use Rattle.std.specs.Prelude.{slice_get}
use Rattle.std.specs.Ordering.{int_eq}
use Rattle.std.proofs.lemmas.Bool.Decides.{Decides-int_eq}
use Rattle.std.proofs.lemmas.Option.{slice_get_within, get_or_from_slice_get}
use Rattle.indexmap.specs.IndexMap.{insert_entry}
use Rattle.scop_core.specs.Printable.{are_arrays, has_no_array}
use Rattle.schedule_forms.proofs.SolvedShapes.{both}
use Rattle.scop_core.proofs.Assemblies.{item_drop}
use Rattle.scop_core.proofs.Validities.{both_hold}

-- a new identifier goes last
pub goes_last : (es : List (ℤ × List ℕ)) (k : ℤ) (v : List ℕ) → has_no_array k es ≡ true → insert_entry int_eq es k v ≡ es ++ (k, v) ∷ []
goes_last [] k v h = refl
goes_last (e ∷ es) k v h =
    let parts = both (not (int_eq k e.0)) (has_no_array k es) h in
    let rest : e ∷ insert_entry int_eq es k v ≡ e ∷ (es ++ (k, v) ∷ []) = ap (λ t. e ∷ t) (goes_last es k v parts.1) in
    elim (int_eq k e.0) as (λ t. not t ≡ true → (if t then (e.0, v) ∷ es else e ∷ insert_entry int_eq es k v) ≡ e ∷ (es ++ (k, v) ∷ []))
    [ true ↦ λ n. absurd (cc) | false ↦ λ n. rest ] parts.0

-- no two numbers are equal in one order alone
swapped : (x y : ℤ) → not (int_eq x y) ≡ true → not (int_eq y x) ≡ true
swapped x y h =
    elim (int_eq y x) as (λ t. int_eq y x ≡ t → not t ≡ true)
    [ true ↦ λ e. let back : int_eq x y ≡ true = (Decides-int_eq x y).1 (sym ((Decides-int_eq y x).0 e)) in absurd (cc) | false ↦ λ e. refl ] refl

apart : (k : ℤ) (xs : List (ℤ × List ℕ)) (x : ℤ × List ℕ) (rest : List (ℤ × List ℕ)) → has_no_array k (xs ++ x ∷ rest) ≡ true → not (int_eq k x.0) ≡ true
apart k [] x rest h = (both (not (int_eq k x.0)) (has_no_array k rest) h).0
apart k (y ∷ xs) x rest h = apart k xs x rest (both (not (int_eq k y.0)) (has_no_array k (xs ++ x ∷ rest)) h).1

-- the identifier of an array is none of those before it
pub none_before : (xs : List (ℤ × List ℕ)) (x : ℤ × List ℕ) (rest : List (ℤ × List ℕ)) → are_arrays (xs ++ x ∷ rest) ≡ true → has_no_array x.0 xs ≡ true
none_before [] x rest h = refl
none_before (y ∷ xs) x rest h =
    let parts = both _ (are_arrays (xs ++ x ∷ rest)) h in
    let distinct : has_no_array y.0 (xs ++ x ∷ rest) ≡ true = (both _ (has_no_array y.0 (xs ++ x ∷ rest)) parts.0).1 in
    both_hold _ _ (swapped y.0 x.0 (apart y.0 xs x rest distinct)) (none_before xs x rest parts.1)

-- the next array, where those before it were made
pub next_array : (arrays made : List (ℤ × List ℕ)) (i : ℕ) (x : ℤ × List ℕ) → i < length arrays → x ≡ get_or arrays i x → made ++ drop i arrays ≡ arrays
    → are_arrays arrays ≡ true → has_no_array x.0 made ≡ true
next_array arrays made i x h e w are =
    let split : made ++ x ∷ drop (i + 1) arrays ≡ arrays = sym (ap (λ t. made ++ t) (item_drop arrays i x h e)) ∙ w in
    none_before made x (drop (i + 1) arrays) (rw split are)

pub added : (es old new : List (ℤ × List ℕ)) (k : ℤ) (v name : List ℕ) → new ≡ insert_entry int_eq es k v → es ≡ old → v ≡ name → has_no_array k old ≡ true
    → new ≡ old ++ (k, name) ∷ []
added es old new k v name n e s h = n ∙ (ap (λ t. insert_entry int_eq t k v) e ∙ (goes_last old k v h ∙ ap (λ t. old ++ (k, t) ∷ []) s))

-- the array at place k, where those before it were made
pub read_array : (arrays made : List (ℤ × List ℕ)) (k : ℕ) (x : ℤ × List ℕ) → slice_get arrays k ≡ Some x → made ++ drop k arrays ≡ arrays
    → are_arrays arrays ≡ true → has_no_array x.0 made ≡ true
read_array arrays made k x e w are = next_array arrays made k x (slice_get_within arrays k x e) (sym (get_or_from_slice_get arrays k x x e)) w are

pub read_more : (arrays made new : List (ℤ × List ℕ)) (k : ℕ) (x : ℤ × List ℕ) → slice_get arrays k ≡ Some x → made ++ drop k arrays ≡ arrays
    → new ≡ made ++ x ∷ [] → new ++ drop (k + 1) arrays ≡ arrays
read_more arrays made new k x e w n =
    let split : drop k arrays ≡ x ∷ drop (k + 1) arrays = item_drop arrays k x (slice_get_within arrays k x e) (sym (get_or_from_slice_get arrays k x x e)) in
    rw (n, append_assoc) (sym (ap (λ t. made ++ t) split) ∙ w)
