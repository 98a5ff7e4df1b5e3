-- What a register keeps after occurrences that are told list by list.
use Rattle.std.proofs.Common.{◌≡◌, ℕ, ◌+◌, ◌<◌, ◌≤◌, List, [], ◌∷◌, ◌++◌, length, get_or, take, refl, sym, ap, ◌∙◌}
use Rattle.std.specs.Prelude.{Result, Ok, Err, OnOk}
use Rattle.std.specs.List.{flat_map}
use Rattle.std.proofs.lemmas.List.{flat_map_more, take_more, take_all}
use Rattle.clan_extract.specs.Names.{Occurrence}
use Rattle.region_names.specs.declared.registers.Register.{Register}
use Rattle.region_names.specs.Registers.{told, after}

pub after_append : (s : Register) (xs ys : List Occurrence)
    → after s (xs ++ ys) ≡ after (after s xs) ys
after_append s [] ys = refl
after_append s (x ∷ xs) ys = after_append (told s x) xs ys

pub told_then : (s t u : Register) (xs ys : List Occurrence)
    → t ≡ after s xs → u ≡ after t ys → u ≡ after s (xs ++ ys)
told_then s t u xs ys p q = q ∙ ap (λ v. after v ys) p ∙ sym (after_append s xs ys)

-- one item more
pub told_more : {A : Type 0} (f : A → List Occurrence) (s t u : Register) (xs : List A) (i : ℕ) (x : A)
    → i < length xs → x ≡ get_or xs i x → t ≡ after s (flat_map f (take i xs)) → u ≡ after t (f x)
    → u ≡ after s (flat_map f (take (i + 1) xs))
told_more f s t u xs i x within is p q =
    told_then s t u (flat_map f (take i xs)) (f x) p q
    ∙ ap (after s) (flat_map_more f [] (take i xs) x)
    ∙ ap (λ ys. after s (flat_map f ys)) (ap (λ y. take i xs ++ y ∷ []) is ∙ sym (take_more xs i x within))

-- all items
pub told_all : {A : Type 0} (f : A → List Occurrence) (s t : Register) (xs : List A) (i : ℕ)
    → length xs ≤ i → t ≡ after s (flat_map f (take i xs)) → t ≡ after s (flat_map f xs)
told_all f s t xs i all p = p ∙ ap (λ ys. after s (flat_map f ys)) (take_all i xs all)

-- all items of a list
pub list_told : {A : Type 0} (f : A → List Occurrence) (s t : Register) (names : List Occurrence) (xs ys : List A) (i : ℕ)
    → xs ≡ ys → length xs ≤ i → t ≡ after s (flat_map f (take i xs)) → names ≡ flat_map f ys → t ≡ after s names
list_told f s t names xs ys i same all p are = told_all f s t xs i all p ∙ ap (after s) (ap (flat_map f) same ∙ sym are)

-- and what stands before them
pub rest_told : {A : Type 0} (f : A → List Occurrence) (s t u : Register) (first names : List Occurrence) (xs ys : List A) (i : ℕ)
    → t ≡ after s first → xs ≡ ys → length xs ≤ i → u ≡ after t (flat_map f (take i xs)) → names ≡ first ++ flat_map f ys → u ≡ after s names
rest_told f s t u first names xs ys i before same all p are =
    told_then s t u first (flat_map f ys) before (told_all f t u xs i all p ∙ ap (λ zs. after t (flat_map f zs)) same) ∙ ap (after s) (sym are)

-- the same occurrences under another name
pub same_told : {A E : Type 0} (r : Result A E) (s t : Register) (xs ys : List Occurrence) → xs ≡ ys → OnOk r (t ≡ after s xs) → OnOk r (t ≡ after s ys)
same_told (Ok a) s t xs ys e p = p ∙ ap (after s) e
same_told (Err e) s t xs ys f p = p

-- two lists, of which the second is told last
pub last_told : {A E : Type 0} (r : Result A E) (s t u : Register) (xs ys names : List Occurrence)
    → t ≡ after s xs → OnOk r (u ≡ after t ys) → names ≡ xs ++ ys → OnOk r (u ≡ after s names)
last_told (Ok a) s t u xs ys names p q e = told_then s t u xs ys p q ∙ ap (after s) (sym e)
last_told (Err a) s t u xs ys names p q e = q
