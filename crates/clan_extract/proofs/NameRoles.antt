-- Names without a clash have one role each, and the lists of names have each name of their role.
use Rattle.std.proofs.Common.{◌≡◌, inl, inr, ℕ, List, [], ◌∷◌, Bool, true, false, not, ◌||◌, cond, refl, sym, ◌∙◌, ap, None, Some}
use Rattle.std.specs.Prelude.{bytes_eq}
use Rattle.std.proofs.lemmas.Bool.{eqb-true}
use Rattle.std.proofs.lemmas.Slice.Eq.{bytes_eq-Decides}
use Rattle.scop_core.specs.Sequences.{In}
use Rattle.clan_extract.specs.Regions.{is_among, without, first_occurrences}
use Rattle.clan_extract.specs.Names.{Role, Function, ArrayOf, Iterator, Parameter, Occurrence, is_parameter, is_array_role, same_role, role_of, first_role, breaks, first_break, clash, names_with, NamesHaveOneRole, NamesAreListed}

same_is : (r s : Role) → same_role r s ≡ true → r ≡ s
same_is Function Function h = refl
same_is Function (ArrayOf k) h = absurd cc
same_is Function Iterator h = absurd cc
same_is Function Parameter h = absurd cc
same_is (ArrayOf j) Function h = absurd cc
same_is (ArrayOf j) (ArrayOf k) h = ap ArrayOf (eqb-true j k h)
same_is (ArrayOf j) Iterator h = absurd cc
same_is (ArrayOf j) Parameter h = absurd cc
same_is Iterator Function h = absurd cc
same_is Iterator (ArrayOf k) h = absurd cc
same_is Iterator Iterator h = refl
same_is Iterator Parameter h = absurd cc
same_is Parameter Function h = absurd cc
same_is Parameter (ArrayOf k) h = absurd cc
same_is Parameter Iterator h = absurd cc
same_is Parameter Parameter h = refl

none_breaks : (all os : List Occurrence) → first_break all os ≡ None → (o : Occurrence) → In o os → breaks all o ≡ false
none_breaks all [] h o i = absurd i
none_breaks all (p ∷ os) h o i = by (breaks all p) refl h i (λ g j. none_breaks all os g o j)
  where
    by : (t : Bool) → breaks all p ≡ t → cond t (Some p.at) (first_break all os) ≡ None → In o (p ∷ os) → (first_break all os ≡ None → In o os → breaks all o ≡ false) → breaks all o ≡ false
    by true e g i rest = absurd cc
    by false e g (inl same) rest = ap (λ q. breaks all q) (sym same) ∙ e
    by false e g (inr j) rest = rest g j

agrees : (s t : Bool) → (s || not t) ≡ false → t ≡ true
agrees true t h = absurd cc
agrees false true h = refl
agrees false false h = absurd cc

first_is : (all : List Occurrence) → clash all ≡ None → (o : Occurrence) → In o all → role_of all o ≡ first_role all all o.name
first_is all h o i = same_is (role_of all o) (first_role all all o.name) (agrees o.shadows (same_role (role_of all o) (first_role all all o.name)) (none_breaks all all h o i))

pub one_role : NamesHaveOneRole
one_role all h o p i j e = first_is all h o i ∙ ap (λ name. first_role all all name) e ∙ sym (first_is all h p j)

-- names in lists
same_name : (name : List ℕ) → bytes_eq name name ≡ true
same_name name = (bytes_eq-Decides name name).1 refl

stays : (name x : List ℕ) (xs : List (List ℕ)) → bytes_eq x name ≡ false → is_among name xs ≡ true → is_among name (without x xs) ≡ true
stays name x [] n h = h
stays name x (y ∷ xs) n h = by (bytes_eq y x) (bytes_eq y name) refl refl h (λ g. stays name x xs n g)
  where
    by : (t u : Bool) → bytes_eq y x ≡ t → bytes_eq y name ≡ u → (u || is_among name xs) ≡ true → (is_among name xs ≡ true → is_among name (without x xs) ≡ true)
        → is_among name (cond (bytes_eq y x) (without x xs) (y ∷ without x xs)) ≡ true
    by true true e f g rest =
        let same : x ≡ name = sym ((bytes_eq-Decides y x).0 e) ∙ (bytes_eq-Decides y name).0 f in
        absurd (differ (bytes_eq x name) ((bytes_eq-Decides x name).1 same) n)
      where
        differ : (b : Bool) → b ≡ true → b ≡ false → ⊥
        differ b p q = cc
    by true false e f g rest = ap (λ t. is_among name (cond t (without x xs) (y ∷ without x xs))) e ∙ rest g
    by false true e f g rest = ap (λ t. is_among name (cond t (without x xs) (y ∷ without x xs))) e ∙ ap (λ u. u || is_among name (without x xs)) f
    by false false e f g rest = ap (λ t. is_among name (cond t (without x xs) (y ∷ without x xs))) e ∙ ap (λ u. u || is_among name (without x xs)) f ∙ rest g

first_among : (name : List ℕ) (xs : List (List ℕ)) → is_among name xs ≡ true → is_among name (first_occurrences xs) ≡ true
first_among name [] h = h
first_among name (x ∷ xs) h = by (bytes_eq x name) refl h (λ g. first_among name xs g)
  where
    by : (t : Bool) → bytes_eq x name ≡ t → (t || is_among name xs) ≡ true → (is_among name xs ≡ true → is_among name (first_occurrences xs) ≡ true)
        → (bytes_eq x name || is_among name (without x (first_occurrences xs))) ≡ true
    by true e g rest = ap (λ t. t || is_among name (without x (first_occurrences xs))) e
    by false e g rest = ap (λ t. t || is_among name (without x (first_occurrences xs))) e ∙ stays name x (first_occurrences xs) e (rest g)

listed : (test : Role → Bool) (all os : List Occurrence) (o : Occurrence) → In o os → test (role_of all o) ≡ true → is_among o.name (names_with test all os) ≡ true
listed test all [] o i h = absurd i
listed test all (p ∷ os) o (inl e) h =
    ap (λ q. is_among o.name (cond (test (role_of all q)) (q.name ∷ names_with test all os) (names_with test all os))) e
    ∙ ap (λ t. is_among o.name (cond t (o.name ∷ names_with test all os) (names_with test all os))) h ∙ ap (λ t. t || is_among o.name (names_with test all os)) (same_name o.name)
listed test all (p ∷ os) o (inr i) h = by (test (role_of all p)) (bytes_eq p.name o.name) (listed test all os o i h)
  where
    by : (t u : Bool) → is_among o.name (names_with test all os) ≡ true → is_among o.name (cond t (p.name ∷ names_with test all os) (names_with test all os)) ≡ true
    by true u g = or_right (bytes_eq p.name o.name) (is_among o.name (names_with test all os)) g
      where
        or_right : (a b : Bool) → b ≡ true → (a || b) ≡ true
        or_right true b e = refl
        or_right false b e = e
    by false u g = g

pub names_listed : NamesAreListed
names_listed all o i =
    (λ h. first_among o.name (names_with is_parameter all all) (listed is_parameter all all o i h), λ h. first_among o.name (names_with is_array_role all all) (listed is_array_role all all o i h))
