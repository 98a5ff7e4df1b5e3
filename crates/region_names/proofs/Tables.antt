-- Look-ups by bytes, and names by their roles.
use Rattle.std.proofs.Common.{◌≡◌, ℕ, ◌+◌, List, [], ◌∷◌, ◌++◌, take, refl, sym, ap, ◌∙◌}
use Rattle.std.specs.Prelude.{Bool, true, false, cond, map, bytes_eq, slice_get, Some, None}
use Rattle.std.specs.Map.{lookup}
use Rattle.std.proofs.lemmas.List.{take_more}
use Rattle.std.proofs.lemmas.Option.{slice_get_within, get_or_from_slice_get}
use Rattle.indexmap.specs.IndexMap.{insert_entry}
use Rattle.clan_extract.specs.Names.{Role}
use Rattle.region_names.specs.declared.roles.Role.{Role as KeptRole}
use Rattle.region_names.specs.Roles.{role_is, given}
use Rattle.region_names.specs.Tables.{role_in, names_in}
use denote.Ref.{Bor}

abbrev pub entries : List (Bor (List ℕ) × KeptRole) → List (List ℕ × Role)
entries es = map (λ e. (e.0.now, role_is e.1)) es

pub found_is : (es : List (Bor (List ℕ) × KeptRole)) (name : List ℕ) → given (lookup (λ k. bytes_eq name k.now) es) ≡ role_in (entries es) name
found_is [] name = refl
found_is (e ∷ es) name = by (bytes_eq name e.0.now) (found_is es name)
  where
    by : (t : Bool) → given (lookup (λ k. bytes_eq name k.now) es) ≡ role_in (entries es) name
        → given (cond t (Some e.1) (lookup (λ k. bytes_eq name k.now) es)) ≡ cond t (Some (role_is e.1)) (role_in (entries es) name)
    by true h = refl
    by false h = h

pub goes_last : (es : List (Bor (List ℕ) × KeptRole)) (k : Bor (List ℕ)) (role : KeptRole) → role_in (entries es) k.now ≡ None
    → entries (insert_entry (λ x y. bytes_eq x.now y.now) es k role) ≡ entries es ++ (k.now, role_is role) ∷ []
goes_last [] k role h = refl
goes_last (e ∷ es) k role h = by (bytes_eq k.now e.0.now) h (λ g. goes_last es k role g)
  where
    by : (t : Bool) → cond t (Some (role_is e.1)) (role_in (entries es) k.now) ≡ None
        → (role_in (entries es) k.now ≡ None → entries (insert_entry (λ x y. bytes_eq x.now y.now) es k role) ≡ entries es ++ (k.now, role_is role) ∷ [])
        → entries (cond t ((e.0, role) ∷ es) (e ∷ insert_entry (λ x y. bytes_eq x.now y.now) es k role)) ≡ (e.0.now, role_is e.1) ∷ (entries es ++ (k.now, role_is role) ∷ [])
    by true g rest = absurd cc
    by false g rest = ap (λ zs. (e.0.now, role_is e.1) ∷ zs) (rest g)

pub names_in_append : (test : Role → Bool) (xs ys : List (List ℕ × Role)) → names_in test (xs ++ ys) ≡ names_in test xs ++ names_in test ys
names_in_append test [] ys = refl
names_in_append test (x ∷ xs) ys = by (test x.1) (names_in_append test xs ys)
  where
    by : (t : Bool) → names_in test (xs ++ ys) ≡ names_in test xs ++ names_in test ys
        → cond t (x.0 ∷ names_in test (xs ++ ys)) (names_in test (xs ++ ys)) ≡ cond t (x.0 ∷ names_in test xs) (names_in test xs) ++ names_in test ys
    by true h = ap (λ zs. x.0 ∷ zs) h
    by false h = h

-- one entry more
pub names_more : (test : Role → Bool) (es : List (List ℕ × Role)) (k : ℕ) (e : List ℕ × Role) (old new : List (List ℕ)) → slice_get es k ≡ Some e
    → old ≡ names_in test (take k es) → new ≡ old ++ names_in test (e ∷ []) → new ≡ names_in test (take (k + 1) es)
names_more test es k e old new at is more =
    more ∙ ap (λ zs. zs ++ names_in test (e ∷ [])) is ∙ sym (names_in_append test (take k es) (e ∷ []))
    ∙ ap (names_in test) (ap (λ x. take k es ++ x ∷ []) (sym (get_or_from_slice_get es k e e at)) ∙ sym (take_more es k e (slice_get_within es k e at)))
