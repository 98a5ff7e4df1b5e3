-- What the registers answer are the names of all occurrences, or the place of their first clash.
use Rattle.std.proofs.Common.{◌≡◌, ℕ, List, [], ◌∷◌, ◌++◌, refl, sym, ap, subst, ◌∙◌, append_assoc}
use Rattle.std.specs.Prelude.{Bool, true, false, not, cond, ◌&&◌, ◌||◌, bytes_eq, Option, Some, None, is_some, Result, Ok, Err}
use Rattle.std.proofs.lemmas.List.{append-nil}
use Rattle.std.proofs.lemmas.Bool.{eqb-true, eq-eqb}
use Rattle.std.proofs.lemmas.Slice.Eq.{bytes_eq-Decides}
use Rattle.clan_extract.specs.Regions.{is_among, without, first_occurrences}
use Rattle.clan_extract.specs.Names.{Role, Function, ArrayOf, Iterator, Parameter, Occurrence, is_parameter, is_array_role, same_role, says_parameter, has_parameter, role_with, role_of, first_role, first_break, names_with}
use Rattle.region_names.specs.declared.region.Names.{Names}
use Rattle.region_names.specs.declared.registers.Register.{Register}
use Rattle.region_names.specs.declared.registers.Walk.TheVariants as walk
use Rattle.region_names.specs.Tables.{role_in, names_in}
use Rattle.region_names.specs.Registers.{with_name, noted, plain_by, resolved, met, until_clash, started, restarted, told_first, told, after}
use Rattle.region_names.proofs.Tables.{names_in_append}
use Rattle.region_names.specs.Answers.{unless_clash, names_or_clash, kept_names}

-- ---- bytes and roles

same_bytes : (x : List ℕ) → bytes_eq x x ≡ true
same_bytes x = (bytes_eq-Decides x x).1 refl

are_same : (x y : List ℕ) → bytes_eq x y ≡ true → x ≡ y
are_same x y h = (bytes_eq-Decides x y).0 h

-- both tests hold together
both_ways : (a b : Bool) → (a ≡ true → b ≡ true) → (b ≡ true → a ≡ true) → a ≡ b
both_ways true true f g = refl
both_ways true false f g = sym (f refl)
both_ways false true f g = g refl
both_ways false false f g = refl

turned : (x y : List ℕ) → bytes_eq x y ≡ bytes_eq y x
turned x y =
    both_ways (bytes_eq x y) (bytes_eq y x) (λ h. (bytes_eq-Decides y x).1 (sym (are_same x y h))) (λ h. (bytes_eq-Decides x y).1 (sym (are_same y x h)))

eq_self : (r : Role) → same_role r r ≡ true
eq_self Function = refl
eq_self (ArrayOf k) = eq-eqb k k refl
eq_self Iterator = refl
eq_self Parameter = refl

same_is : (r s : Role) → same_role r s ≡ true → r ≡ s
same_is Function Function h = refl
same_is Function (ArrayOf k) h = absurd cc
same_is Function Iterator h = absurd cc
same_is Function Parameter h = absurd cc
same_is (ArrayOf j) Function h = absurd cc
same_is (ArrayOf j) (ArrayOf k) h = ap ArrayOf (eqb-true j k h)
same_is (ArrayOf j) Iterator h = absurd cc
same_is (ArrayOf j) Parameter h = absurd cc
same_is Iterator Function h = absurd cc
same_is Iterator (ArrayOf k) h = absurd cc
same_is Iterator Iterator h = refl
same_is Iterator Parameter h = absurd cc
same_is Parameter Function h = absurd cc
same_is Parameter (ArrayOf k) h = absurd cc
same_is Parameter Iterator h = absurd cc
same_is Parameter Parameter h = refl

-- ---- answers, and a role or the next

abbrev listing : List (List ℕ) → List (List ℕ) → Result Names ℕ
listing parameters arrays = Ok (record { parameters = parameters; arrays = arrays })

abbrev else_role : Option Role → Option Role → Option Role
else_role (Some r) next = Some r
else_role None next = next

abbrev role_or : Role → Option Role → Role
role_or r None = r
role_or r (Some first) = first

added_role : (es : List (List ℕ × Role)) (n : List ℕ) (r : Role) (name : List ℕ)
    → role_in (es ++ (n, r) ∷ []) name ≡ else_role (role_in es name) (cond (bytes_eq name n) (Some r) None)
added_role [] n r name = refl
added_role (e ∷ es) n r name = by (bytes_eq name e.0) (added_role es n r name)
  where
    by : (t : Bool) → role_in (es ++ (n, r) ∷ []) name ≡ else_role (role_in es name) (cond (bytes_eq name n) (Some r) None)
        → cond t (Some e.1) (role_in (es ++ (n, r) ∷ []) name) ≡ else_role (cond t (Some e.1) (role_in es name)) (cond (bytes_eq name n) (Some r) None)
    by true h = refl
    by false h = h

-- ---- parameters

noted_is : (es : List (List ℕ × Role)) (o : Occurrence) (name : List ℕ)
    → is_some (role_in (noted es o) name) ≡ (is_some (role_in es name) || (bytes_eq o.name name && says_parameter o.role))
noted_is es o name = by (says_parameter o.role)
  where
    none : (a b : Bool) → a ≡ (a || (b && false))
    none true b = refl
    none false true = refl
    none false false = refl

    new : (q : Option Role) (t u : Bool) → t ≡ u → is_some (else_role q (cond t (Some Parameter) None)) ≡ (is_some q || (u && true))
    new (Some r) t true e = refl
    new (Some r) t false e = refl
    new None true true e = refl
    new None false false e = refl
    new None true false e = absurd cc
    new None false true e = absurd cc

    old : (r : Role) → role_in es o.name ≡ Some r → (t : Bool) → bytes_eq o.name name ≡ t → is_some (role_in es name) ≡ (is_some (role_in es name) || (t && true))
    old r e true same =
        let here : is_some (role_in es name) ≡ true = ap (λ x. is_some (role_in es x)) (sym (are_same o.name name same)) ∙ ap is_some e in
        here ∙ sym (ap (λ t. t || true) here)
    old r e false same = none (is_some (role_in es name)) true

    kept : (q : Option Role) → role_in es o.name ≡ q
        → is_some (role_in (with_name es o.name q) name) ≡ (is_some (role_in es name) || (bytes_eq o.name name && true))
    kept None e = ap is_some (added_role es o.name Parameter name) ∙ new (role_in es name) (bytes_eq name o.name) (bytes_eq o.name name) (turned name o.name)
    kept (Some r) e =
        old r e (bytes_eq o.name name) refl

    by : (t : Bool) → is_some (role_in (cond t (with_name es o.name (role_in es o.name)) es) name) ≡ (is_some (role_in es name) || (bytes_eq o.name name && t))
    by true = kept (role_in es o.name) refl
    by false = none (is_some (role_in es name)) (bytes_eq o.name name)

-- the parameters after these occurrences
abbrev notes : List (List ℕ × Role) → List Occurrence → List (List ℕ × Role)
notes es [] = es
notes es (o ∷ os) = notes (noted es o) os

all_noted : (es : List (List ℕ × Role)) (os : List Occurrence) (name : List ℕ)
    → is_some (role_in (notes es os) name) ≡ (is_some (role_in es name) || has_parameter os name)
all_noted es [] name = sym (or_false (is_some (role_in es name)))
  where
    or_false : (a : Bool) → (a || false) ≡ a
    or_false true = refl
    or_false false = refl
all_noted es (o ∷ os) name =
    all_noted (noted es o) os name
    ∙ ap (λ a. a || has_parameter os name) (noted_is es o name)
    ∙ grouped (is_some (role_in es name)) (bytes_eq o.name name && says_parameter o.role) (has_parameter os name)
  where
    grouped : (a b c : Bool) → ((a || b) || c) ≡ (a || (b || c))
    grouped true b c = refl
    grouped false b c = refl

resolved_is : (all : List Occurrence) (o : Occurrence) → resolved (notes [] all) o.name o.role ≡ role_of all o
resolved_is all o =
    ap (λ plain. role_with plain o.role) (plain_is (role_in (notes [] all) o.name) (has_parameter all o.name) (all_noted [] all o.name))
  where
    plain_is : (q : Option Role) (t : Bool) → is_some q ≡ t → plain_by q ≡ cond t Parameter (ArrayOf 0)
    plain_is (Some r) true e = refl
    plain_is None false e = refl
    plain_is (Some r) false e = absurd cc
    plain_is None true e = absurd cc

-- ---- lists of names

without_append : (n : List ℕ) (xs ys : List (List ℕ)) → without n (xs ++ ys) ≡ without n xs ++ without n ys
without_append n [] ys = refl
without_append n (x ∷ xs) ys = by (bytes_eq x n) (without_append n xs ys)
  where
    by : (t : Bool) → without n (xs ++ ys) ≡ without n xs ++ without n ys
        → cond t (without n (xs ++ ys)) (x ∷ without n (xs ++ ys)) ≡ cond t (without n xs) (x ∷ without n xs) ++ without n ys
    by true h = h
    by false h = ap (λ zs. x ∷ zs) h

one_name_more : (x : List ℕ) (xs : List (List ℕ))
    → first_occurrences (xs ++ x ∷ []) ≡ first_occurrences xs ++ cond (is_among x xs) [] (x ∷ [])
one_name_more x [] = refl
one_name_more x (y ∷ ys) =
    ap (λ zs. y ∷ without y zs) (one_name_more x ys)
    ∙ ap (λ zs. y ∷ zs) (without_append y (first_occurrences ys) (cond (is_among x ys) [] (x ∷ [])))
    ∙ ap (λ zs. y ∷ (without y (first_occurrences ys) ++ zs)) (by (is_among x ys))
  where
    or_true : (a : Bool) → true ≡ (a || true)
    or_true true = refl
    or_true false = refl

    or_false : (a : Bool) → a ≡ (a || false)
    or_false true = refl
    or_false false = refl

    by : (t : Bool) → without y (cond t [] (x ∷ [])) ≡ cond (bytes_eq y x || t) [] (x ∷ [])
    by true = ap (λ v. cond v [] (x ∷ [])) (or_true (bytes_eq y x))
    by false = ap (λ v. cond v [] (x ∷ [])) (turned x y ∙ or_false (bytes_eq y x))

module _ (all : List Occurrence) where
  -- the role of the first of these occurrences that has the name, if one has
  abbrev first_in : List Occurrence → List ℕ → Option Role
  first_in [] name = None
  first_in (o ∷ os) name = cond (bytes_eq o.name name) (Some (role_of all o)) (first_in os name)

  first_append : (os : List Occurrence) (o : Occurrence) (name : List ℕ)
      → first_in (os ++ o ∷ []) name ≡ else_role (first_in os name) (cond (bytes_eq o.name name) (Some (role_of all o)) None)
  first_append [] o name = refl
  first_append (p ∷ os) o name = by (bytes_eq p.name name) (first_append os o name)
    where
      by : (t : Bool) → first_in (os ++ o ∷ []) name ≡ else_role (first_in os name) (cond (bytes_eq o.name name) (Some (role_of all o)) None)
          → cond t (Some (role_of all p)) (first_in (os ++ o ∷ []) name)
          ≡ else_role (cond t (Some (role_of all p)) (first_in os name)) (cond (bytes_eq o.name name) (Some (role_of all o)) None)
      by true h = refl
      by false h = h

  -- the role of the first occurrence of the name of o
  first_is : (os : List Occurrence) (o : Occurrence) (rest : List Occurrence)
      → first_role all (os ++ o ∷ rest) o.name ≡ role_or (role_of all o) (first_in os o.name)
  first_is [] o rest = ap (λ t. cond t (role_of all o) (first_role all rest o.name)) (same_bytes o.name)
  first_is (p ∷ os) o rest = by (bytes_eq p.name o.name) (first_is os o rest)
    where
      by : (t : Bool) → first_role all (os ++ o ∷ rest) o.name ≡ role_or (role_of all o) (first_in os o.name)
          → cond t (role_of all p) (first_role all (os ++ o ∷ rest) o.name) ≡ role_or (role_of all o) (cond t (Some (role_of all p)) (first_in os o.name))
      by true h = refl
      by false h = h

  names_append : (test : Role → Bool) (os : List Occurrence) (o : Occurrence)
      → names_with test all (os ++ o ∷ []) ≡ names_with test all os ++ cond (test (role_of all o)) (o.name ∷ []) []
  names_append test [] o = refl
  names_append test (p ∷ os) o = by (test (role_of all p)) (names_append test os o)
    where
      by : (t : Bool) → names_with test all (os ++ o ∷ []) ≡ names_with test all os ++ cond (test (role_of all o)) (o.name ∷ []) []
          → cond t (p.name ∷ names_with test all (os ++ o ∷ [])) (names_with test all (os ++ o ∷ []))
          ≡ cond t (p.name ∷ names_with test all os) (names_with test all os) ++ cond (test (role_of all o)) (o.name ∷ []) []
      by true h = ap (λ zs. p.name ∷ zs) h
      by false h = h

  among : (test : Role → Bool) (os : List Occurrence) (name : List ℕ) (r : Role) → first_in os name ≡ Some r → test r ≡ true
      → is_among name (names_with test all os) ≡ true
  among test [] name r e h = absurd cc
  among test (o ∷ os) name r e h = by (bytes_eq o.name name) refl e (λ g. among test os name r g h)
    where
      some_is : Some (role_of all o) ≡ Some r → role_of all o ≡ r
      some_is g = cc

      later : (t : Bool) → is_among name (names_with test all os) ≡ true
          → is_among name (cond t (o.name ∷ names_with test all os) (names_with test all os)) ≡ true
      later true g = or_right (bytes_eq o.name name) (is_among name (names_with test all os)) g
        where
          or_right : (a b : Bool) → b ≡ true → (a || b) ≡ true
          or_right true b i = refl
          or_right false b i = i
      later false g = g

      by : (t : Bool) → bytes_eq o.name name ≡ t → cond t (Some (role_of all o)) (first_in os name) ≡ Some r
          → (first_in os name ≡ Some r → is_among name (names_with test all os) ≡ true)
          → is_among name (cond (test (role_of all o)) (o.name ∷ names_with test all os) (names_with test all os)) ≡ true
      by true same g rest =
          ap (λ t. is_among name (cond t (o.name ∷ names_with test all os) (names_with test all os))) (ap test (some_is g) ∙ h)
          ∙ ap (λ t. t || is_among name (names_with test all os)) same
      by false same g rest = later (test (role_of all o)) (rest g)

  not_among : (test : Role → Bool) (os : List Occurrence) (name : List ℕ) → first_in os name ≡ None → is_among name (names_with test all os) ≡ false
  not_among test [] name e = refl
  not_among test (o ∷ os) name e = by (bytes_eq o.name name) refl e (λ g. not_among test os name g)
    where
      later : (t : Bool) → bytes_eq o.name name ≡ false → is_among name (names_with test all os) ≡ false
          → is_among name (cond t (o.name ∷ names_with test all os) (names_with test all os)) ≡ false
      later true same g = ap (λ t. t || is_among name (names_with test all os)) same ∙ g
      later false same g = g

      by : (t : Bool) → bytes_eq o.name name ≡ t → cond t (Some (role_of all o)) (first_in os name) ≡ None
          → (first_in os name ≡ None → is_among name (names_with test all os) ≡ false)
          → is_among name (cond (test (role_of all o)) (o.name ∷ names_with test all os) (names_with test all os)) ≡ false
      by true same g rest = absurd cc
      by false same g rest = later (test (role_of all o)) same (rest g)

  -- the table after these occurrences: the first role of each name, and the names of each role by first occurrence
  record Keeps (es : List (List ℕ × Role)) (os : List Occurrence) : Type 0 where
    roles : (name : List ℕ) → role_in es name ≡ first_in os name
    names : (test : Role → Bool) → names_in test es ≡ first_occurrences (names_with test all os)

  -- an occurrence of a new name
  keeps_new : (es : List (List ℕ × Role)) (os : List Occurrence) (o : Occurrence) → Keeps es os → role_in es o.name ≡ None
      → Keeps (es ++ (o.name, role_of all o) ∷ []) (os ++ o ∷ [])
  keeps_new es os o keeps none = record {
    roles = λ name.
        added_role es o.name (role_of all o) name
        ∙ ap (λ q. else_role q (cond (bytes_eq name o.name) (Some (role_of all o)) None)) (keeps.roles name)
        ∙ ap (λ t. else_role (first_in os name) (cond t (Some (role_of all o)) None)) (turned name o.name)
        ∙ sym (first_append os o name);
    names = λ test.
        names_in_append test es ((o.name, role_of all o) ∷ [])
        ∙ ap (λ zs. zs ++ cond (test (role_of all o)) (o.name ∷ []) []) (keeps.names test)
        ∙ by test (test (role_of all o))
        ∙ ap first_occurrences (sym (names_append test os o));
  }
    where
      by : (test : Role → Bool) (t : Bool) → first_occurrences (names_with test all os) ++ cond t (o.name ∷ []) []
          ≡ first_occurrences (names_with test all os ++ cond t (o.name ∷ []) [])
      by test true =
          ap (λ u. first_occurrences (names_with test all os) ++ cond u [] (o.name ∷ []))
          (sym (not_among test os o.name (sym (keeps.roles o.name) ∙ none)))
          ∙ sym (one_name_more o.name (names_with test all os))
      by test false = append-nil (first_occurrences (names_with test all os)) ∙ ap first_occurrences (sym (append-nil (names_with test all os)))

  -- another occurrence of a name, of the same role
  keeps_old : (es : List (List ℕ × Role)) (os : List Occurrence) (o : Occurrence) → Keeps es os → role_in es o.name ≡ Some (role_of all o)
      → Keeps es (os ++ o ∷ [])
  keeps_old es os o keeps some = record {
    roles = λ name.
        keeps.roles name ∙ same name (bytes_eq o.name name) refl ∙ sym (first_append os o name);
    names = λ test.
        keeps.names test ∙ by test (test (role_of all o)) refl ∙ ap first_occurrences (sym (names_append test os o));
  }
    where
      alone : (q : Option Role) → q ≡ else_role q None
      alone (Some r) = refl
      alone None = refl

      chosen : (q next : Option Role) (r : Role) → q ≡ Some r → q ≡ else_role q next
      chosen (Some s) next r e = refl
      chosen None next r e = absurd cc

      same : (name : List ℕ) (t : Bool) → bytes_eq o.name name ≡ t
          → first_in os name ≡ else_role (first_in os name) (cond (bytes_eq o.name name) (Some (role_of all o)) None)
      same name true e =
          chosen (first_in os name) (cond (bytes_eq o.name name) (Some (role_of all o)) None) (role_of all o)
          (sym (keeps.roles name) ∙ ap (role_in es) (sym (are_same o.name name e)) ∙ some)
      same name false e = alone (first_in os name) ∙ ap (λ t. else_role (first_in os name) (cond t (Some (role_of all o)) None)) (sym e)

      by : (test : Role → Bool) (t : Bool) → test (role_of all o) ≡ t → first_occurrences (names_with test all os)
          ≡ first_occurrences (names_with test all os ++ cond (test (role_of all o)) (o.name ∷ []) [])
      by test true e =
          sym (append-nil (first_occurrences (names_with test all os)))
          ∙ ap (λ u. first_occurrences (names_with test all os) ++ cond u [] (o.name ∷ []))
          (sym (among test os o.name (role_of all o) (sym (keeps.roles o.name) ∙ some) e))
          ∙ sym (one_name_more o.name (names_with test all os))
          ∙ ap (λ t. first_occurrences (names_with test all os ++ cond t (o.name ∷ []) [])) (sym e)
      by test false e =
          ap first_occurrences (sym (append-nil (names_with test all os)))
          ∙ ap (λ t. first_occurrences (names_with test all os ++ cond t (o.name ∷ []) [])) (sym e)

  -- ---- the register of roles

  module _ (parameters : List (List ℕ × Role)) (plain : Bool) (resolves : (o : Occurrence) → resolved parameters o.name o.role ≡ role_of all o) where
    abbrev state : List (List ℕ × Role) → Option ℕ → Register
    state es clash = record { walk = walk.Second; parameters = parameters; roles = es; clash = clash; plain = plain }

    -- nothing is kept behind a clash
    stands_still : (es : List (List ℕ × Role)) (at : ℕ) (os : List Occurrence) → after (state es (Some at)) os ≡ state es (Some at)
    stands_still es at [] = refl
    stands_still es at (o ∷ os) = stands_still es at os

    abbrev answers : List (List ℕ × Role) → List Occurrence → Type 0
    answers es os = kept_names (after (state es None) os) ≡ unless_clash all (first_break all os)

    -- one occurrence, where the ones behind it are answered
    next_answers : (es : List (List ℕ × Role)) (before : List Occurrence) (o : Occurrence) (os : List Occurrence)
        → all ≡ before ++ o ∷ os → Keeps es before
        → ((fs : List (List ℕ × Role)) → Keeps fs (before ++ o ∷ []) → answers fs os)
        → answers es (o ∷ os)
    next_answers es before o os split keeps rest =
        ap (λ r. kept_names (after (met (role_in es o.name) (state es None) r o.name o.shadows o.at) os)) (resolves o)
        ∙ by (role_in es o.name) refl
        ∙ ap (λ t. unless_clash all (cond (o.shadows || not (same_role (role_of all o) t)) (Some o.at) (first_break all os))) (sym first_before)
      where
        first_before : first_role all all o.name ≡ role_or (role_of all o) (role_in es o.name)
        first_before = ap (λ os. first_role all os o.name) split ∙ first_is before o os ∙ ap (role_or (role_of all o)) (sym (keeps.roles o.name))

        clashes : kept_names (after (state es (Some o.at)) os) ≡ Err o.at
        clashes = ap kept_names (stands_still es o.at os)

        agrees : (s t : Bool) → (s || not t) ≡ false → t ≡ true
        agrees true t h = absurd cc
        agrees false true h = refl
        agrees false false h = absurd cc

        new : role_in es o.name ≡ None → (t : Bool)
            → kept_names (after (cond t (state es (Some o.at)) (state (es ++ (o.name, role_of all o) ∷ []) None)) os)
            ≡ unless_clash all (cond (t || not (same_role (role_of all o) (role_of all o))) (Some o.at) (first_break all os))
        new none true = clashes
        new none false =
            rest (es ++ (o.name, role_of all o) ∷ []) (keeps_new es before o keeps none)
            ∙ ap (λ t. unless_clash all (cond (not t) (Some o.at) (first_break all os))) (sym (eq_self (role_of all o)))

        old : (first : Role) → role_in es o.name ≡ Some first → (t : Bool) → (o.shadows || not (same_role (role_of all o) first)) ≡ t
            → kept_names (after (cond t (state es (Some o.at)) (state es None)) os)
            ≡ unless_clash all (cond t (Some o.at) (first_break all os))
        old first some true e = clashes
        old first some false e =
            rest es (keeps_old es before o keeps (some ∙ ap Some (sym (same_is (role_of all o) first (agrees o.shadows (same_role (role_of all o) first) e)))))

        by : (q : Option Role) → role_in es o.name ≡ q → kept_names (after (met q (state es None) (role_of all o) o.name o.shadows o.at) os)
            ≡ unless_clash all (cond (o.shadows || not (same_role (role_of all o) (role_or (role_of all o) q))) (Some o.at) (first_break all os))
        by None e = new e o.shadows
        by (Some first) e = old first e (o.shadows || not (same_role (role_of all o) first)) refl

    all_answers : (os : List Occurrence) (es : List (List ℕ × Role)) (before : List Occurrence) → all ≡ before ++ os → Keeps es before → answers es os
    all_answers [] es before split keeps =
        ap (λ ps. listing ps (names_in is_array_role es)) (listed is_parameter)
        ∙ ap (listing (first_occurrences (names_with is_parameter all all))) (listed is_array_role)
      where
        listed : (test : Role → Bool) → names_in test es ≡ first_occurrences (names_with test all all)
        listed test = keeps.names test ∙ ap (λ os. first_occurrences (names_with test all os)) (sym (split ∙ append-nil before))
    all_answers (o ∷ os) es before split keeps =
        next_answers es before o os split keeps
        (λ fs kept. all_answers os fs (before ++ o ∷ []) (split ∙ sym (append_assoc before (o ∷ []) os)) kept)

-- ---- the first walk

abbrev first : List (List ℕ × Role) → List (List ℕ × Role) → Option ℕ → Bool → Register
first ps rs clash plain = record { walk = walk.First; parameters = ps; roles = rs; clash = clash; plain = plain }

abbrev second : List (List ℕ × Role) → List (List ℕ × Role) → Option ℕ → Bool → Register
second ps rs clash plain = record { walk = walk.Second; parameters = ps; roles = rs; clash = clash; plain = plain }

-- an occurrence of one role changes two registers alike
module _ (P : Register → Register → Type 0) (ps qs : List (List ℕ × Role)) (p q : Bool) where
  meets : (rs : List (List ℕ × Role)) (role : Role) (o : Occurrence)
      → ((ts : List (List ℕ × Role)) (clash : Option ℕ) → P (first ps ts clash p) (second qs ts clash q))
      → (found : Option Role)
      → P (met found (first ps rs None p) role o.name o.shadows o.at) (met found (second qs rs None q) role o.name o.shadows o.at)
  meets rs role o h None = by o.shadows
    where
      by : (t : Bool)
          → P (cond t (first ps rs (Some o.at) p) (first ps (rs ++ (o.name, role) ∷ []) None p)) (cond t (second qs rs (Some o.at) q) (second qs (rs ++ (o.name, role) ∷ []) None q))
      by true = h rs (Some o.at)
      by false = h (rs ++ (o.name, role) ∷ []) None
  meets rs role o h (Some known) = by (o.shadows || not (same_role role known))
    where
      by : (t : Bool) → P (cond t (first ps rs (Some o.at) p) (first ps rs None p)) (cond t (second qs rs (Some o.at) q) (second qs rs None q))
      by true = h rs (Some o.at)
      by false = h rs None

  tells : (rs : List (List ℕ × Role)) (role : Role) (o : Occurrence)
      → ((ts : List (List ℕ × Role)) (clash : Option ℕ) → P (first ps ts clash p) (second qs ts clash q))
      → (clash : Option ℕ)
      → P (until_clash clash (first ps rs clash p) role o.name o.shadows o.at) (until_clash clash (second qs rs clash q) role o.name o.shadows o.at)
  tells rs role o h (Some at) = h rs (Some at)
  tells rs role o h None = meets rs role o h (role_in rs o.name)

noted_plain : (ps : List (List ℕ × Role)) (o : Occurrence) → o.role ≡ None → noted ps o ≡ ps
noted_plain ps o e = ap (λ r. cond (says_parameter r) (with_name ps o.name (role_in ps o.name)) ps) e

abbrev notes_all : List Occurrence → Type 0
notes_all os =
    (ps rs : List (List ℕ × Role)) (clash : Option ℕ) (p : Bool) → (after (first ps rs clash p) os).parameters ≡ notes ps os

first_parameters : (os : List Occurrence) → notes_all os
first_parameters [] ps rs clash p = refl
first_parameters (o ∷ os) ps rs clash p = by (first_parameters os) o.role refl
  where
    by : notes_all os → (r : Option Role) → o.role ≡ r → (after (told_first r (first ps rs clash p) o) os).parameters ≡ notes (noted ps o) os
    by rest None e = rest ps rs clash true ∙ ap (λ t. notes t os) (sym (noted_plain ps o e))
    by rest (Some own) e =
        tells (λ x y. (after x os).parameters ≡ notes (noted ps o) os) (noted ps o) [] p false rs own o (λ ts clash. rest (noted ps o) ts clash p) clash

abbrev stays_plain : List Occurrence → Type 0
stays_plain os = (ps rs : List (List ℕ × Role)) (clash : Option ℕ) → (after (first ps rs clash true) os).plain ≡ true

plain_stays : (os : List Occurrence) → stays_plain os
plain_stays [] ps rs clash = refl
plain_stays (o ∷ os) ps rs clash = by (plain_stays os) o.role
  where
    by : stays_plain os → (r : Option Role) → (after (told_first r (first ps rs clash true) o) os).plain ≡ true
    by rest None = rest ps rs clash
    by rest (Some own) =
        tells (λ x y. (after x os).plain ≡ true) (noted ps o) [] true false rs own o (λ ts clash. rest (noted ps o) ts clash) clash

-- where no name is plain, both walks answer the same
abbrev answer_alike : List Occurrence → Register → Register → Type 0
answer_alike os x y = (after x os).plain ≡ false → kept_names (after x os) ≡ kept_names (after y os)

abbrev all_alike : List Occurrence → Type 0
all_alike os =
    (ps qs rs : List (List ℕ × Role)) (clash : Option ℕ) (p q : Bool) → answer_alike os (first ps rs clash p) (second qs rs clash q)

same_kept : (os : List Occurrence) → all_alike os
same_kept [] ps qs rs clash p q = by clash
  where
    by : (clash : Option ℕ) → answer_alike [] (first ps rs clash p) (second qs rs clash q)
    by None h = refl
    by (Some at) h = refl
same_kept (o ∷ os) ps qs rs clash p q = by (same_kept os) o.role refl
  where
    true_is_not_false : true ≡ false → ⊥
    true_is_not_false e = cc

    by : all_alike os → (r : Option Role) → o.role ≡ r → answer_alike os (told_first r (first ps rs clash p) o) (told (second qs rs clash q) o)
    by rest None e = λ none. absurd (true_is_not_false (sym (plain_stays os ps rs clash) ∙ none))
    by rest (Some own) e =
        let role : own ≡ resolved qs o.name o.role = ap (role_with (plain_by (role_in qs o.name))) (sym e) in
        subst (λ r. answer_alike os (told_first (Some own) (first ps rs clash p) o) (until_clash clash (second qs rs clash q) r o.name o.shadows o.at)) role
        (tells (answer_alike os) (noted ps o) qs p q rs own o (λ ts clash. rest (noted ps o) qs ts clash p q) clash)

-- ---- answers

second_answers : (all : List Occurrence) (plain : Bool) → kept_names (after (second (notes [] all) [] None plain) all) ≡ names_or_clash all
second_answers all plain =
    all_answers all (notes [] all) plain (resolved_is all) all [] [] refl (record { roles = λ name. refl; names = λ test. refl })

-- one walk, where no name is plain
pub first_walk_answers : (all : List Occurrence) (s : Register) → s ≡ after (started []) all → s.plain ≡ false → kept_names s ≡ names_or_clash all
first_walk_answers all s told none =
    ap kept_names told
    ∙ same_kept all [] (notes [] all) [] None false true (sym (ap (λ (r : Register). r.plain) told) ∙ none)
    ∙ second_answers all true

-- the two walks, one after the other
pub walks_answer : (all : List Occurrence) (s t u : Register) → s ≡ after (started []) all → t ≡ restarted s → u ≡ after t all → kept_names u ≡ names_or_clash all
walks_answer all s t u told next again =
    ap kept_names (again ∙ ap (λ r. after r all) (next ∙ ap (λ ps. second ps [] None s.plain) noted_all))
    ∙ second_answers all s.plain
  where
    noted_all : s.parameters ≡ notes [] all
    noted_all = ap (λ (r : Register). r.parameters) told ∙ first_parameters all [] [] None false
