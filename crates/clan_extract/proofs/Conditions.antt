-- Some part of a condition holds where the condition has the truth that the parts are for.
use Rattle.std.proofs.Common.{◌≡◌, ◌⊎◌, inl, inr, ℕ, ◌<◌, ◌≤◌, List, [], ◌∷◌, ◌++◌, map, Bool, true, false, not, ◌&&◌, ◌||◌, refl, sym, ◌∙◌, ap, arith, ℤ, pos, negsuc, neg_ℤ, ◌+ℤ◌, ◌-ℤ◌, ◌*ℤ◌, ◌≤ℤ◌, ◌<ℤ◌}
use Rattle.std.specs.Prelude.{nat_le, int_lt, int_le, int_rem, int_div, unsigned_abs, ◌↔◌}
use Rattle.std.specs.Ordering.{int_eq}
use Rattle.std.proofs.lemmas.Int.{ints, quot-rem, rem_below, by_lt_z}
use Rattle.std.proofs.lemmas.Bool.{eqb-true, leb-true}
use Rattle.std.proofs.lemmas.Bool.Decides.{Decides-int_eq}
use Rattle.row_core.proofs.Ring.{mul_add_z, mul_comm_z, mul_le_z, neg_mul_z, less_z}
use Rattle.relation_core.specs.declared.part_rows.RowKind.TheVariants.{Equal, AtLeast}
use Rattle.scop_data.specs.declared.affines.Affine.{Affine}
use Rattle.scop_core.specs.Meaning.{affine_at}
use Rattle.clan_extract.specs.Regions.{Expression, Number, Name, Sum, Difference, Product, Negation, Maximum, Minimum, Ceiling, Floor, Remainder, Comparison, IsLess, IsLessOrEqual, IsGreater, IsGreaterOrEqual, IsEqual, IsUnequal, Condition, Compare, Both, Either, Opposite}
use Rattle.clan_extract.specs.Execution.{Binding, Setting, value_of, compare, truth_of}
use Rattle.clan_extract.specs.Forms.{is_affine, form, opposite_of}
use Rattle.clan_extract.specs.Constraints.{Constraint, joined, row_part, comparison_parts, multiple_part, between_part, remainder_parts, opposite_comparison, parts_of_sides, parts_of_condition}
use Rattle.clan_extract.specs.Scops.{is_zero, is_equality, are_sides, is_condition}
use Rattle.clan_extract.proofs.Forms.{both_true, names, values, opposite_at, difference_at, form_has}
use Rattle.clan_extract.proofs.Holding.{AllHold, SomeHolds}
use Rattle.clan_extract.proofs.Turns.{lt_true, le_true}

-- "some part holds" of appended and of joined lists of parts
pub all_append : (p q : List Constraint) (x n : List ℤ) → AllHold (p ++ q) x n ↔ (AllHold p x n × AllHold q x n)
all_append [] q x n = (λ h. (tt, h), λ h. h.1)
all_append (c ∷ p) q x n =
    let rest = all_append p q x n in
    (λ h. (let t = rest.0 h.1 in ((h.0, t.0), t.1)), λ h. (h.0.0, rest.1 (h.0.1, h.1)))

some_append_into : (ps qs : List (List Constraint)) (x n : List ℤ) → SomeHolds (ps ++ qs) x n → SomeHolds ps x n ⊎ SomeHolds qs x n
some_append_into [] qs x n h = inr h
some_append_into (p ∷ ps) qs x n (inl h) = inl (inl h)
some_append_into (p ∷ ps) qs x n (inr h) = by (some_append_into ps qs x n h)
  where
    by : SomeHolds ps x n ⊎ SomeHolds qs x n → (AllHold p x n ⊎ SomeHolds ps x n) ⊎ SomeHolds qs x n
    by (inl h) = inl (inr h)
    by (inr h) = inr h

some_append_left : (ps qs : List (List Constraint)) (x n : List ℤ) → SomeHolds ps x n → SomeHolds (ps ++ qs) x n
some_append_left [] qs x n h = absurd h
some_append_left (p ∷ ps) qs x n (inl h) = inl h
some_append_left (p ∷ ps) qs x n (inr h) = inr (some_append_left ps qs x n h)

some_append_right : (ps qs : List (List Constraint)) (x n : List ℤ) → SomeHolds qs x n → SomeHolds (ps ++ qs) x n
some_append_right [] qs x n h = h
some_append_right (p ∷ ps) qs x n h = inr (some_append_right ps qs x n h)

pub some_append : (ps qs : List (List Constraint)) (x n : List ℤ) → SomeHolds (ps ++ qs) x n ↔ (SomeHolds ps x n ⊎ SomeHolds qs x n)
some_append ps qs x n = (some_append_into ps qs x n, both)
  where
    both : SomeHolds ps x n ⊎ SomeHolds qs x n → SomeHolds (ps ++ qs) x n
    both (inl h) = some_append_left ps qs x n h
    both (inr h) = some_append_right ps qs x n h

some_each : (p : List Constraint) (qs : List (List Constraint)) (x n : List ℤ) → SomeHolds (map (λ q. p ++ q) qs) x n ↔ (AllHold p x n × SomeHolds qs x n)
some_each p [] x n = (λ h. absurd h, λ h. h.1)
some_each p (q ∷ qs) x n = (into (some_each p qs x n).0, back (some_each p qs x n).1)
  where
    into : (SomeHolds (map (λ q. p ++ q) qs) x n → AllHold p x n × SomeHolds qs x n) → AllHold (p ++ q) x n ⊎ SomeHolds (map (λ q. p ++ q) qs) x n → AllHold p x n × (AllHold q x n ⊎ SomeHolds qs x n)
    into rest (inl h) = let t = (all_append p q x n).0 h in (t.0, inl t.1)
    into rest (inr h) = let t = rest h in (t.0, inr t.1)

    back : (AllHold p x n × SomeHolds qs x n → SomeHolds (map (λ q. p ++ q) qs) x n) → AllHold p x n × (AllHold q x n ⊎ SomeHolds qs x n) → AllHold (p ++ q) x n ⊎ SomeHolds (map (λ q. p ++ q) qs) x n
    back rest (h, inl k) = inl ((all_append p q x n).1 (h, k))
    back rest (h, inr k) = inr (rest (h, k))

pub some_joined : (ps qs : List (List Constraint)) (x n : List ℤ) → SomeHolds (joined ps qs) x n ↔ (SomeHolds ps x n × SomeHolds qs x n)
some_joined [] qs x n = (λ h. absurd h, λ h. absurd h.0)
some_joined (p ∷ ps) qs x n = (λ h. into (some_joined ps qs x n).0 ((some_append (map (λ q. p ++ q) qs) (joined ps qs) x n).0 h), λ h. back (some_joined ps qs x n).1 h)
  where
    into : (SomeHolds (joined ps qs) x n → SomeHolds ps x n × SomeHolds qs x n) → SomeHolds (map (λ q. p ++ q) qs) x n ⊎ SomeHolds (joined ps qs) x n → (AllHold p x n ⊎ SomeHolds ps x n) × SomeHolds qs x n
    into rest (inl h) = let t = (some_each p qs x n).0 h in (inl t.0, t.1)
    into rest (inr h) = let t = rest h in (inr t.0, t.1)

    back : (SomeHolds ps x n × SomeHolds qs x n → SomeHolds (joined ps qs) x n) → (AllHold p x n ⊎ SomeHolds ps x n) × SomeHolds qs x n → SomeHolds (map (λ q. p ++ q) qs ++ joined ps qs) x n
    back rest (inl h, k) = some_append_left (map (λ q. p ++ q) qs) (joined ps qs) x n ((some_each p qs x n).1 (h, k))
    back rest (inr h, k) = some_append_right (map (λ q. p ++ q) qs) (joined ps qs) x n (rest (h, k))

-- remainders of the division toward zero
module _ (v : ℤ) (d : ℕ) (h : 1 ≤ d) where
  abbrev quotient : ℤ
  quotient = int_div v (pos d)

  abbrev rest : ℤ
  rest = int_rem v (pos d)

  parts_are : (pos d *ℤ quotient) +ℤ rest ≡ v
  parts_are = omega (arith, ints, quot-rem v (pos d), mul_comm_z quotient (pos d))

  small : unsigned_abs rest < d
  small = rem_below v (pos d) h

  pub zero_rest : (int_rem v (pos d) ≡ pos 0) ↔ ((l : ℤ) × (v ≡ pos d *ℤ l))
  zero_rest = (
    λ e. (quotient, omega (arith, ints, e, parts_are)),
    λ p. (
        let l : ℤ = p.0 in
        let is : v ≡ pos d *ℤ l = p.1 in
        let positive : pos 0 <ℤ pos d = omega (arith, ints) in
        let low : l ≤ℤ quotient = less_z (pos d) l quotient positive (omega (arith, ints, is, parts_are, small)) in
        let high : quotient ≤ℤ l = less_z (pos d) quotient l positive (omega (arith, ints, is, parts_are, small)) in
        let same : l ≡ quotient = omega (arith, ints) in
        omega (arith, ints, is, parts_are, ap (λ z. pos d *ℤ z) same)),
  )

  pub some_rest : (¬ (int_rem v (pos d) ≡ pos 0)) ↔ ((l : ℤ) × (pos 1 ≤ℤ (v -ℤ (pos d *ℤ l))) × ((v -ℤ (pos d *ℤ l)) ≤ℤ (pos d -ℤ pos 1)))
  some_rest = (
    λ e. by_lt_z rest (pos 0)
        (λ below. (quotient -ℤ pos 1, omega (arith, ints, parts_are, small, mul_add_z (pos d) quotient (negsuc 0)), omega (arith, ints, parts_are, small, mul_add_z (pos d) quotient (negsuc 0))))
        (λ above. (
          quotient,
          by_lt_z (pos 0) rest (λ some. omega (arith, ints, parts_are, small)) (λ none. absurd (e (omega (arith, ints)))),
          omega (arith, ints, parts_are, small),
        )),
    λ p. λ e. (
        let l : ℤ = p.0 in
        let low = p.1 in
        let high = p.2 in
        let positive : pos 0 <ℤ pos d = omega (arith, ints) in
        let most : quotient ≤ℤ l = less_z (pos d) quotient l positive (omega (arith, ints, e, parts_are)) in
        let times : (pos d *ℤ quotient) ≤ℤ (pos d *ℤ l) = mul_le_z (pos d) quotient l (omega (arith, ints)) most in
        omega (arith, ints, e, parts_are)),
  )

pub either : {A B C D : Type 0} → (A → C) → (B → D) → A ⊎ B → C ⊎ D
either f g (inl a) = inl (f a)
either f g (inr b) = inr (g b)

pub not_true_false : (b : Bool) → (not b ≡ true) ↔ (b ≡ false)
not_true_false true = (λ h. absurd cc, λ h. absurd cc)
not_true_false false = (λ h. refl, λ h. refl)

-- what each comparison says of integers
pub compare_less : (a b : ℤ) → (compare IsLess a b ≡ true) ↔ (a <ℤ b)
compare_less a b = (λ h. omega (arith, ints), λ h. lt_true a b h)

pub compare_less_or_equal : (a b : ℤ) → (compare IsLessOrEqual a b ≡ true) ↔ (a ≤ℤ b)
compare_less_or_equal a b = (λ h. omega (arith, ints), λ h. le_true a b h)

pub compare_unequal : (a b : ℤ) → (compare IsUnequal a b ≡ true) ↔ (¬ (a ≡ b))
compare_unequal a b = by (int_eq a b) refl
  where
    by : (t : Bool) → int_eq a b ≡ t → (not (int_eq a b) ≡ true) ↔ (¬ (a ≡ b))
    by true e = (λ h. absurd (not_both (int_eq a b) e ((not_true_false (int_eq a b)).0 h)), λ n. absurd (n ((Decides-int_eq a b).0 e)))
      where
        not_both : (t : Bool) → t ≡ true → t ≡ false → ⊥
        not_both t e f = cc
    by false e = (λ h. λ same. not_both (int_eq a b) ((Decides-int_eq a b).1 same) e, λ n. (not_true_false (int_eq a b)).1 e)
      where
        not_both : (t : Bool) → t ≡ true → t ≡ false → ⊥
        not_both t e f = cc

-- the opposite comparison holds where this one doesn't
pub compare_opposite : (comparison : Comparison) (a b : ℤ) → compare (opposite_comparison comparison) a b ≡ not (compare comparison a b)
compare_opposite IsLess a b = by (int_lt a b) (int_le b a) refl refl
  where
    by : (s t : Bool) → int_lt a b ≡ s → int_le b a ≡ t → int_le b a ≡ not (int_lt a b)
    by true true e f = absurd (omega (arith, ints))
    by true false e f = f ∙ ap not (sym e)
    by false true e f = f ∙ ap not (sym e)
    by false false e f = absurd (omega (arith, ints))
compare_opposite IsLessOrEqual a b = by (int_le a b) (int_lt b a) refl refl
  where
    by : (s t : Bool) → int_le a b ≡ s → int_lt b a ≡ t → int_lt b a ≡ not (int_le a b)
    by true true e f = absurd (omega (arith, ints))
    by true false e f = f ∙ ap not (sym e)
    by false true e f = f ∙ ap not (sym e)
    by false false e f = absurd (omega (arith, ints))
compare_opposite IsGreater a b = by (int_lt b a) (int_le a b) refl refl
  where
    by : (s t : Bool) → int_lt b a ≡ s → int_le a b ≡ t → int_le a b ≡ not (int_lt b a)
    by true true e f = absurd (omega (arith, ints))
    by true false e f = f ∙ ap not (sym e)
    by false true e f = f ∙ ap not (sym e)
    by false false e f = absurd (omega (arith, ints))
compare_opposite IsGreaterOrEqual a b = by (int_le b a) (int_lt a b) refl refl
  where
    by : (s t : Bool) → int_le b a ≡ s → int_lt a b ≡ t → int_lt a b ≡ not (int_le b a)
    by true true e f = absurd (omega (arith, ints))
    by true false e f = f ∙ ap not (sym e)
    by false true e f = f ∙ ap not (sym e)
    by false false e f = absurd (omega (arith, ints))
compare_opposite IsEqual a b = refl
compare_opposite IsUnequal a b = by (int_eq a b)
  where
    by : (t : Bool) → t ≡ not (not t)
    by true = refl
    by false = refl

-- both sides of a comparison are as its opposite wants them
opposite_sides : (comparison : Comparison) (left right : Expression) → are_sides comparison left right ≡ true → are_sides (opposite_comparison comparison) left right ≡ true
opposite_sides comparison (Number value) right h = h
opposite_sides comparison (Name name) right h = h
opposite_sides comparison (Sum a b) right h = h
opposite_sides comparison (Difference a b) right h = h
opposite_sides comparison (Product a b) right h = h
opposite_sides comparison (Negation e) right h = h
opposite_sides comparison (Maximum a b) right h = h
opposite_sides comparison (Minimum a b) right h = h
opposite_sides comparison (Ceiling e d) right h = h
opposite_sides comparison (Floor e d) right h = h
opposite_sides comparison (Remainder e d) right h = ap (λ t. (t && is_zero right) && (is_affine e && nat_le 1 d)) (same comparison) ∙ h
  where
    same : (c : Comparison) → is_equality (opposite_comparison c) ≡ is_equality c
    same IsLess = refl
    same IsLessOrEqual = refl
    same IsGreater = refl
    same IsGreaterOrEqual = refl
    same IsEqual = refl
    same IsUnequal = refl

zero_value : (setting : Setting) (loops : List Binding) (e : Expression) → is_zero e ≡ true → value_of setting loops e ≡ pos 0
zero_value setting loops (Number value) h = ap pos (eqb-true value 0 h)
zero_value setting loops (Name name) h = absurd cc
zero_value setting loops (Sum a b) h = absurd cc
zero_value setting loops (Difference a b) h = absurd cc
zero_value setting loops (Product a b) h = absurd cc
zero_value setting loops (Negation e) h = absurd cc
zero_value setting loops (Maximum a b) h = absurd cc
zero_value setting loops (Minimum a b) h = absurd cc
zero_value setting loops (Ceiling e d) h = absurd cc
zero_value setting loops (Floor e d) h = absurd cc
zero_value setting loops (Remainder e d) h = absurd cc

module _ (setting : Setting) (loops : List Binding) (more : List ℤ) where
  abbrev Some : List (List Constraint) → Type 0
  Some ps = SomeHolds ps (values loops ++ more) setting.values

  abbrev at : Affine → ℤ
  at f = affine_at f (values loops ++ more) [] setting.values

  -- the part of one row
  at_least_part : (f g : Affine) (z : ℤ) → Some (row_part AtLeast f g z ∷ []) ↔ (pos 0 ≤ℤ ((at f -ℤ at g) +ℤ z))
  at_least_part f g z =
      let is = difference_at f g z (values loops ++ more) setting.values in
      (into, λ h. inl ((omega (arith, ints, is), tt), tt))
    where
      into : Some (row_part AtLeast f g z ∷ []) → pos 0 ≤ℤ ((at f -ℤ at g) +ℤ z)
      into (inl h) = let row = h.0.0 in omega (arith, ints, difference_at f g z (values loops ++ more) setting.values)
      into (inr h) = absurd h

  equal_part : (f g : Affine) → Some (row_part Equal f g (pos 0) ∷ []) ↔ (at f ≡ at g)
  equal_part f g =
      let is = difference_at f g (pos 0) (values loops ++ more) setting.values in
      (into, λ h. inl ((omega (arith, ints, is), tt), tt))
    where
      into : Some (row_part Equal f g (pos 0) ∷ []) → at f ≡ at g
      into (inl h) = let row = h.0.0 in omega (arith, ints, difference_at f g (pos 0) (values loops ++ more) setting.values)
      into (inr h) = absurd h

  -- the parts of a comparison of forms
  comparison_has : (comparison : Comparison) (f g : Affine) → Some (comparison_parts comparison f g) ↔ (compare comparison (at f) (at g) ≡ true)
  comparison_has IsLess f g =
      let part = at_least_part g f (negsuc 0) in
      let rule = compare_less (at f) (at g) in
      (λ h. (let t = part.0 h in rule.1 (omega (arith, ints))), λ h. (let t = rule.0 h in part.1 (omega (arith, ints))))
  comparison_has IsLessOrEqual f g =
      let part = at_least_part g f (pos 0) in
      let rule = compare_less_or_equal (at f) (at g) in
      (λ h. (let t = part.0 h in rule.1 (omega (arith, ints))), λ h. (let t = rule.0 h in part.1 (omega (arith, ints))))
  comparison_has IsGreater f g =
      let part = at_least_part f g (negsuc 0) in
      let rule = compare_less (at g) (at f) in
      (λ h. (let t = part.0 h in rule.1 (omega (arith, ints))), λ h. (let t = rule.0 h in part.1 (omega (arith, ints))))
  comparison_has IsGreaterOrEqual f g =
      let part = at_least_part f g (pos 0) in
      let rule = compare_less_or_equal (at g) (at f) in
      (λ h. (let t = part.0 h in rule.1 (omega (arith, ints))), λ h. (let t = rule.0 h in part.1 (omega (arith, ints))))
  comparison_has IsEqual f g =
      let part = equal_part f g in
      (λ h. (Decides-int_eq (at f) (at g)).1 (part.0 h), λ h. part.1 ((Decides-int_eq (at f) (at g)).0 h))
  comparison_has IsUnequal f g = (
    λ h. (compare_unequal (at f) (at g)).1 (into ((some_append (row_part AtLeast f g (negsuc 0) ∷ []) (row_part AtLeast g f (negsuc 0) ∷ []) (values loops ++ more) setting.values).0 h)),
    λ h. (let n = (compare_unequal (at f) (at g)).0 h in
        (some_append (row_part AtLeast f g (negsuc 0) ∷ []) (row_part AtLeast g f (negsuc 0) ∷ []) (values loops ++ more) setting.values).1
        (by_lt_z (at f) (at g) (λ l. inr ((at_least_part g f (negsuc 0)).1 (omega (arith, ints))))
        (λ l. inl ((at_least_part f g (negsuc 0)).1 (by_lt_z (at g) (at f) (λ m. omega (arith, ints)) (λ m. absurd (n (omega (arith, ints))))))))),
  )
    where
      into : Some (row_part AtLeast f g (negsuc 0) ∷ []) ⊎ Some (row_part AtLeast g f (negsuc 0) ∷ []) → ¬ (at f ≡ at g)
      into (inl h) = let t = (at_least_part f g (negsuc 0)).0 h in λ e. omega (arith, ints)
      into (inr h) = let t = (at_least_part g f (negsuc 0)).0 h in λ e. omega (arith, ints)

  abbrev of : Expression → Affine
  of e = form setting.parameters (names loops) e

  -- the parts of e % d == 0 and of e % d != 0
  module _ (e : Expression) (d : ℕ) (h : (is_affine e && nat_le 1 d) ≡ true) where
    divisor_is : 1 ≤ d
    divisor_is = leb-true 1 d (both_true (is_affine e) (nat_le 1 d) h).1

    value_is : at (of e) ≡ value_of setting loops e
    value_is = form_has setting loops more e (both_true (is_affine e) (nat_le 1 d) h).0

    abbrev v : ℤ
    v = value_of setting loops e

    multiple_has : Some (multiple_part (of e) d ∷ []) ↔ (int_rem v (pos d) ≡ pos 0)
    multiple_has = (into, back)
      where
        into : Some (multiple_part (of e) d ∷ []) → int_rem v (pos d) ≡ pos 0
        into (inl p) = let l : ℤ = p.0.0 in let row = p.0.1.0 in (zero_rest v d divisor_is).1 (l, omega (arith, ints, value_is, neg_mul_z (pos d) l))
        into (inr p) = absurd p

        back : int_rem v (pos d) ≡ pos 0 → Some (multiple_part (of e) d ∷ [])
        back z = let p = (zero_rest v d divisor_is).0 z in let l : ℤ = p.0 in let is = p.1 in inl ((l, (omega (arith, ints, value_is, neg_mul_z (pos d) l), tt)), tt)

    between_has : Some (between_part (of e) d ∷ []) ↔ (¬ (int_rem v (pos d) ≡ pos 0))
    between_has = (into, back)
      where
        opposite_is : at (opposite_of (of e)) ≡ neg_ℤ (at (of e))
        opposite_is = opposite_at (of e) (values loops ++ more) setting.values

        into : Some (between_part (of e) d ∷ []) → ¬ (int_rem v (pos d) ≡ pos 0)
        into (inl p) =
            let l : ℤ = p.0.0 in
            let low = p.0.1.0 in
            let high = p.0.1.1.0 in
            (some_rest v d divisor_is).1 (l, omega (arith, ints, value_is, neg_mul_z (pos d) l), omega (arith, ints, value_is, opposite_is))
        into (inr p) = absurd p

        back : (¬ (int_rem v (pos d) ≡ pos 0)) → Some (between_part (of e) d ∷ [])
        back z =
            let p = (some_rest v d divisor_is).0 z in
            let l : ℤ = p.0 in
            let low = p.1 in
            let high = p.2 in
            inl ((l, (omega (arith, ints, value_is, neg_mul_z (pos d) l), (omega (arith, ints, value_is, opposite_is), tt))), tt)

    remainder_has : (comparison : Comparison) → is_equality comparison ≡ true → Some (remainder_parts comparison (of e) d) ↔ (compare comparison (int_rem v (pos d)) (pos 0) ≡ true)
    remainder_has IsLess i = absurd cc
    remainder_has IsLessOrEqual i = absurd cc
    remainder_has IsGreater i = absurd cc
    remainder_has IsGreaterOrEqual i = absurd cc
    remainder_has IsEqual i = (λ p. (Decides-int_eq (int_rem v (pos d)) (pos 0)).1 (multiple_has.0 p), λ p. multiple_has.1 ((Decides-int_eq (int_rem v (pos d)) (pos 0)).0 p))
    remainder_has IsUnequal i = (λ p. (compare_unequal (int_rem v (pos d)) (pos 0)).1 (between_has.0 p), λ p. between_has.1 ((compare_unequal (int_rem v (pos d)) (pos 0)).0 p))

  affine_sides : (comparison : Comparison) (left right : Expression) → (is_affine left && is_affine right) ≡ true
      → Some (comparison_parts comparison (of left) (of right)) ↔ (compare comparison (value_of setting loops left) (value_of setting loops right) ≡ true)
  affine_sides comparison left right h =
      let t = both_true (is_affine left) (is_affine right) h in
      let is : compare comparison (at (of left)) (at (of right)) ≡ compare comparison (value_of setting loops left) (value_of setting loops right) =
      ap (λ z. compare comparison z (at (of right))) (form_has setting loops more left t.0) ∙ ap (λ z. compare comparison (value_of setting loops left) z) (form_has setting loops more right t.1) in
      let rule = comparison_has comparison (of left) (of right) in
      (λ p. sym is ∙ rule.0 p, λ p. rule.1 (is ∙ p))

  sides_has : (comparison : Comparison) (left right : Expression) → are_sides comparison left right ≡ true
      → Some (parts_of_sides setting.parameters (names loops) comparison left right) ↔ (compare comparison (value_of setting loops left) (value_of setting loops right) ≡ true)
  sides_has comparison (Number value) right h = affine_sides comparison (Number value) right h
  sides_has comparison (Name name) right h = affine_sides comparison (Name name) right h
  sides_has comparison (Sum a b) right h = affine_sides comparison (Sum a b) right h
  sides_has comparison (Difference a b) right h = affine_sides comparison (Difference a b) right h
  sides_has comparison (Product a b) right h = affine_sides comparison (Product a b) right h
  sides_has comparison (Negation e) right h = affine_sides comparison (Negation e) right h
  sides_has comparison (Maximum a b) right h = absurd cc
  sides_has comparison (Minimum a b) right h = absurd cc
  sides_has comparison (Ceiling e d) right h = absurd cc
  sides_has comparison (Floor e d) right h = absurd cc
  sides_has comparison (Remainder e d) right h =
      let t = both_true (is_equality comparison && is_zero right) (is_affine e && nat_le 1 d) h in
      let u = both_true (is_equality comparison) (is_zero right) t.0 in
      let rule = remainder_has e d t.1 comparison u.0 in
      let is : compare comparison (value_of setting loops (Remainder e d)) (value_of setting loops right) ≡ compare comparison (int_rem (value_of setting loops e) (pos d)) (pos 0) =
      ap (λ z. compare comparison (int_rem (value_of setting loops e) (pos d)) z) (zero_value setting loops right u.1) in
      (λ p. is ∙ rule.0 p, λ p. rule.1 (sym is ∙ p))

  and_false : (s t : Bool) → ((s && t) ≡ false) ↔ ((s ≡ false) ⊎ (t ≡ false))
  and_false true true = (λ h. inl h, one)
    where
      one : (true ≡ false) ⊎ (true ≡ false) → true ≡ false
      one (inl h) = h
      one (inr h) = h
  and_false true false = (λ h. inr refl, λ h. refl)
  and_false false t = (λ h. inl refl, λ h. refl)

  or_true : (s t : Bool) → ((s || t) ≡ true) ↔ ((s ≡ true) ⊎ (t ≡ true))
  or_true true t = (λ h. inl refl, λ h. refl)
  or_true false true = (λ h. inr refl, λ h. refl)
  or_true false false = (λ h. inl h, one)
    where
      one : (false ≡ true) ⊎ (false ≡ true) → false ≡ true
      one (inl h) = h
      one (inr h) = h

  or_both_false : (s t : Bool) → ((s || t) ≡ false) ↔ ((s ≡ false) × (t ≡ false))
  or_both_false true t = (λ h. absurd cc, λ h. h.0)
  or_both_false false t = (λ h. (refl, h), λ h. h.1)

  and_both_true : (s t : Bool) → ((s && t) ≡ true) ↔ ((s ≡ true) × (t ≡ true))
  and_both_true true t = (λ h. (refl, h), λ h. h.1)
  and_both_true false t = (λ h. absurd cc, λ h. h.0)

  not_is : (t s : Bool) → (not t ≡ s) ↔ (t ≡ not s)
  not_is true true = (λ h. sym h, λ h. sym h)
  not_is true false = (λ h. refl, λ h. refl)
  not_is false true = (λ h. refl, λ h. refl)
  not_is false false = (λ h. sym h, λ h. sym h)

  abbrev Has : Bool → Condition → Type 0
  Has truth c = Some (parts_of_condition setting.parameters (names loops) truth c) ↔ (truth_of setting loops c ≡ truth)

  -- some part holds where the condition has the wanted truth
  pub condition_has : (c : Condition) (truth : Bool) → is_condition c ≡ true → Has truth c
  condition_has (Compare comparison left right) true h = sides_has comparison left right h
  condition_has (Compare comparison left right) false h =
      let rule = sides_has (opposite_comparison comparison) left right (opposite_sides comparison left right h) in
      let is = compare_opposite comparison (value_of setting loops left) (value_of setting loops right) in
      let turn = not_true_false (compare comparison (value_of setting loops left) (value_of setting loops right)) in
      (λ p. turn.0 (sym is ∙ rule.0 p), λ p. rule.1 (is ∙ turn.1 p))
  condition_has (Both left right) true h =
      let t = both_true (is_condition left) (is_condition right) h in
      let a = condition_has left true t.0 in
      let b = condition_has right true t.1 in
      let rule = some_joined (parts_of_condition setting.parameters (names loops) true left) (parts_of_condition setting.parameters (names loops) true right) (values loops ++ more) setting.values in
      let truth = and_both_true (truth_of setting loops left) (truth_of setting loops right) in
      (λ p. (let u = rule.0 p in truth.1 (a.0 u.0, b.0 u.1)), λ p. (let u = truth.0 p in rule.1 (a.1 u.0, b.1 u.1)))
  condition_has (Both left right) false h =
      let t = both_true (is_condition left) (is_condition right) h in
      let a = condition_has left false t.0 in
      let b = condition_has right false t.1 in
      let rule = some_append (parts_of_condition setting.parameters (names loops) false left) (parts_of_condition setting.parameters (names loops) false right) (values loops ++ more) setting.values in
      let truth = and_false (truth_of setting loops left) (truth_of setting loops right) in
      (λ p. truth.1 (either a.0 b.0 (rule.0 p)), λ p. rule.1 (either a.1 b.1 (truth.0 p)))
  condition_has (Either left right) true h =
      let t = both_true (is_condition left) (is_condition right) h in
      let a = condition_has left true t.0 in
      let b = condition_has right true t.1 in
      let rule = some_append (parts_of_condition setting.parameters (names loops) true left) (parts_of_condition setting.parameters (names loops) true right) (values loops ++ more) setting.values in
      let truth = or_true (truth_of setting loops left) (truth_of setting loops right) in
      (λ p. truth.1 (either a.0 b.0 (rule.0 p)), λ p. rule.1 (either a.1 b.1 (truth.0 p)))
  condition_has (Either left right) false h =
      let t = both_true (is_condition left) (is_condition right) h in
      let a = condition_has left false t.0 in
      let b = condition_has right false t.1 in
      let rule = some_joined (parts_of_condition setting.parameters (names loops) false left) (parts_of_condition setting.parameters (names loops) false right) (values loops ++ more) setting.values in
      let truth = or_both_false (truth_of setting loops left) (truth_of setting loops right) in
      (λ p. (let u = rule.0 p in truth.1 (a.0 u.0, b.0 u.1)), λ p. (let u = truth.0 p in rule.1 (a.1 u.0, b.1 u.1)))
  condition_has (Opposite of') truth h =
      let rule = condition_has of' (not truth) h in
      let turn = not_is (truth_of setting loops of') truth in
      (λ p. turn.1 (rule.0 p), λ p. rule.1 (turn.0 p))
