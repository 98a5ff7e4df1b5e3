-- The rows of a loop's start and bound hold at the values within them.
use Rattle.std.proofs.Common.{◌≡◌, ℕ, zero, suc, List, [], ◌∷◌, ◌++◌, length, Bool, true, false, ◌&&◌, refl, ◌∙◌, arith, ℤ, pos, negsuc, neg_ℤ, ◌+ℤ◌, ◌-ℤ◌, ◌*ℤ◌, ◌≤ℤ◌, ◌<ℤ◌}
use Rattle.std.specs.Prelude.{nat_le, int_lt, ◌↔◌, cond}
use Rattle.std.specs.Int.{int_max, int_min}
use Rattle.std.proofs.lemmas.Int.{ints, by_lt_z}
use Rattle.std.proofs.lemmas.Bool.{leb-true}
use Rattle.row_core.specs.Rows.{dot, add_rows, scale}
use Rattle.row_core.proofs.Ring.{mul_add_z, mul_le_z, mul_neg_z, neg_mul_z}
use Rattle.scop_core.specs.Meaning.{affine_at, floor_of}
use Rattle.scop_data.proofs.Floors.{floor_greatest, floor_meets_rows}
use Rattle.scop_core.specs.SolvedRows.{zeros}
use Rattle.scop_data.specs.declared.affines.Affine.{Affine}
use Rattle.clan_extract.specs.Regions.{Expression, Number, Name, Sum, Difference, Product, Negation, Maximum, Minimum, Ceiling, Floor, Remainder}
use Rattle.clan_extract.specs.Execution.{Binding, Setting, value_of}
use Rattle.clan_extract.specs.Forms.{has_names, is_affine, innermost, multiple, opposite_of, form}
use Rattle.clan_extract.specs.Constraints.{with_iterator, bound_row, lower_rows, upper_rows}
use Rattle.clan_extract.specs.Scops.{is_lower_bound, is_upper_bound}
use Rattle.clan_extract.proofs.Forms.{both_true, names, values, opposite_at, form_has}
use Rattle.clan_extract.proofs.Holding.{RowsHold, rows_append}

-- quotients: d * q <= v, and so on
module _ (v d q : ℤ) (h : pos 1 ≤ℤ d) where
  pub at_most_floor : ((d *ℤ q) ≤ℤ v) ↔ (q ≤ℤ floor_of v d)
  at_most_floor = (λ l. (floor_greatest v d h).1 q l, λ l. (let m = mul_le_z d q (floor_of v d) (omega (arith, ints)) l in let low = (floor_greatest v d h).0 in omega (arith, ints)))

  pub at_least_floor : (v <ℤ ((d *ℤ q) +ℤ d)) ↔ (floor_of v d ≤ℤ q)
  at_least_floor =
      let low = (floor_greatest v d h).0 in
      let high = (floor_meets_rows v d h).1 in (
        λ l. by_lt_z q (floor_of v d)
            (λ less. absurd (let m = mul_le_z d (q +ℤ pos 1) (floor_of v d) (omega (arith, ints)) (omega (arith, ints)) in omega (arith, ints, mul_add_z d q (pos 1))))
            (λ most. most),
        λ l. (let m = mul_le_z d (floor_of v d) q (omega (arith, ints)) l in omega (arith, ints)),
      )

module _ (v d q : ℤ) (h : pos 1 ≤ℤ d) where
  pub at_least_ceiling : (v ≤ℤ (d *ℤ q)) ↔ (neg_ℤ (floor_of (neg_ℤ v) d) ≤ℤ q)
  at_least_ceiling =
      let t = at_most_floor (neg_ℤ v) d (neg_ℤ q) h in
      (λ l. (let u = t.0 (omega (arith, ints, mul_neg_z d q)) in omega (arith, ints)), λ l. (let u = t.1 (omega (arith, ints)) in omega (arith, ints, mul_neg_z d q)))

  pub at_most_ceiling : ((d *ℤ q) <ℤ (v +ℤ d)) ↔ (q ≤ℤ neg_ℤ (floor_of (neg_ℤ v) d))
  at_most_ceiling =
      let t = at_least_floor (neg_ℤ v) d (neg_ℤ q) h in
      (λ l. (let u = t.0 (omega (arith, ints, mul_neg_z d q)) in omega (arith, ints)), λ l. (let u = t.1 (omega (arith, ints)) in omega (arith, ints, mul_neg_z d q)))

pub max_at_most : (a b q : ℤ) → (int_max a b ≤ℤ q) ↔ ((a ≤ℤ q) × (b ≤ℤ q))
max_at_most a b q = by (int_lt b a) refl
  where
    by : (t : Bool) → int_lt b a ≡ t → (int_max a b ≤ℤ q) ↔ ((a ≤ℤ q) × (b ≤ℤ q))
    by true e = rw e (λ l. (l, omega (arith, ints)), λ l. l.0)
    by false e = rw e (λ l. (omega (arith, ints), l), λ l. l.1)

pub min_at_least : (a b q : ℤ) → (q ≤ℤ int_min a b) ↔ ((q ≤ℤ a) × (q ≤ℤ b))
min_at_least a b q = by (int_lt b a) refl
  where
    by : (t : Bool) → int_lt b a ≡ t → (q ≤ℤ int_min a b) ↔ ((q ≤ℤ a) × (q ≤ℤ b))
    by true e = rw e (λ l. (omega (arith, ints), l), λ l. l.1)
    by false e = rw e (λ l. (l, omega (arith, ints)), λ l. l.0)

-- a form over the loops, and one more coefficient for the loop inside them
dot_with : (a u : List ℤ) (c v : ℤ) (more : List ℤ) → length a ≡ length u → dot (a ++ c ∷ []) (u ++ v ∷ more) ≡ dot a (u ++ v ∷ more) +ℤ (c *ℤ v)
dot_with [] [] c v more e = omega (arith, ints)
dot_with [] (x ∷ u) c v more e = absurd (omega (arith, e))
dot_with (d ∷ a) [] c v more e = absurd (omega (arith, e))
dot_with (d ∷ a) (x ∷ u) c v more e =
    let same : length a ≡ length u = omega (arith, e) in
    omega (arith, ints, dot_with a u c v more same)

pub length_zeros : (k : ℕ) → length (zeros k) ≡ k
length_zeros zero = refl
length_zeros (suc k) = omega (arith, length_zeros k)

pub length_sum : (a b : List ℤ) (k : ℕ) → length a ≡ k → length b ≡ k → length (add_rows a b) ≡ k
length_sum [] b k e f = f
length_sum (x ∷ a) [] k e f = e
length_sum (x ∷ a) (y ∷ b) zero e f = absurd (omega (arith, e))
length_sum (x ∷ a) (y ∷ b) (suc k) e f =
    let p : length a ≡ k = omega (arith, e) in
    let q : length b ≡ k = omega (arith, f) in
    omega (arith, length_sum a b k p q)

pub length_scale : (p : ℤ) (a : List ℤ) → length (scale p a) ≡ length a
length_scale p [] = refl
length_scale p (x ∷ a) = omega (arith, length_scale p a)

length_innermost : (loops : List (List ℕ)) (name : List ℕ) → length (innermost loops name) ≡ length loops
length_innermost [] name = refl
length_innermost (x ∷ loops) name = omega (arith, length_innermost loops name)

-- a form has one coefficient for each loop
pub length_form : (parameters loops : List (List ℕ)) (e : Expression) → length (form parameters loops e).iterators ≡ length loops
length_form parameters loops (Number value) = length_zeros (length loops)
length_form parameters loops (Name name) = length_innermost loops name
length_form parameters loops (Sum left right) = length_sum _ _ _ (length_form parameters loops left) (length_form parameters loops right)
length_form parameters loops (Difference left right) =
    length_sum _ _ _ (length_form parameters loops left) (length_scale (negsuc 0) (form parameters loops right).iterators ∙ length_form parameters loops right)
length_form parameters loops (Product left right) = by (has_names left) (length_form parameters loops left) (length_form parameters loops right)
  where
    by : (t : Bool) → length (form parameters loops left).iterators ≡ length loops → length (form parameters loops right).iterators ≡ length loops
        → length (cond t (multiple (form parameters loops right).constant (form parameters loops left)) (multiple (form parameters loops left).constant (form parameters loops right))).iterators ≡ length loops
    by true l r = length_scale (form parameters loops right).constant (form parameters loops left).iterators ∙ l
    by false l r = length_scale (form parameters loops left).constant (form parameters loops right).iterators ∙ r
length_form parameters loops (Negation of) = length_scale (negsuc 0) (form parameters loops of).iterators ∙ length_form parameters loops of
length_form parameters loops (Maximum left right) = length_zeros (length loops)
length_form parameters loops (Minimum left right) = length_zeros (length loops)
length_form parameters loops (Ceiling of divisor) = length_zeros (length loops)
length_form parameters loops (Floor of divisor) = length_zeros (length loops)
length_form parameters loops (Remainder of divisor) = length_zeros (length loops)

pub length_names : (loops : List Binding) → length (names loops) ≡ length (values loops)
length_names [] = refl
length_names (b ∷ loops) = omega (arith, length_names loops)

-- at a value v of the iterator inside the loops
module _ (setting : Setting) (loops : List Binding) (v : ℤ) (more : List ℤ) where
  abbrev at : Affine → ℤ
  at f = affine_at f (values loops ++ v ∷ more) [] setting.values

  abbrev of : Expression → Affine
  of e = form setting.parameters (names loops) e

  pub with_iterator_at : (f : Affine) (c z : ℤ) → length f.iterators ≡ length (names loops) → at (with_iterator c f z) ≡ (at f +ℤ z) +ℤ (c *ℤ v)
  with_iterator_at f c z e = omega (arith, ints, dot_with f.iterators (values loops) c v more (e ∙ length_names loops))

  -- the rows of lower bounds
  pub opposite_has : (e : Expression) (c z : ℤ) → is_affine e ≡ true → at (with_iterator c (opposite_of (of e)) z) ≡ (neg_ℤ (value_of setting loops e) +ℤ z) +ℤ (c *ℤ v)
  opposite_has e c z h =
      let same = length_scale (negsuc 0) (of e).iterators ∙ length_form setting.parameters (names loops) e in
      omega (arith, ints, with_iterator_at (opposite_of (of e)) c z same, opposite_at (of e) (values loops ++ v ∷ more) setting.values, form_has setting loops (v ∷ more) e h)

  pub itself_has : (e : Expression) (c z : ℤ) → is_affine e ≡ true → at (with_iterator c (of e) z) ≡ (value_of setting loops e +ℤ z) +ℤ (c *ℤ v)
  itself_has e c z h = omega (arith, ints, with_iterator_at (of e) c z (length_form setting.parameters (names loops) e), form_has setting loops (v ∷ more) e h)

  module _ (s l : ℤ) where
    lower_affine : (e : Expression) → is_affine e ≡ true → RowsHold (bound_row (pos 1) (opposite_of (of e)) s) l (values loops ++ v ∷ more) setting.values ↔ (value_of setting loops e ≤ℤ (v +ℤ s))
    lower_affine e h =
        let is = opposite_has e (pos 1) s h in
        (λ r. (let t = r.0 in omega (arith, ints, is)), λ b. (omega (arith, ints, is), tt))

    upper_affine : (e : Expression) → is_affine e ≡ true → RowsHold (bound_row (negsuc 0) (of e) (neg_ℤ s)) l (values loops ++ v ∷ more) setting.values ↔ ((v +ℤ s) ≤ℤ value_of setting loops e)
    upper_affine e h =
        let is = itself_has e (negsuc 0) (neg_ℤ s) h in
        (λ r. (let t = r.0 in omega (arith, ints, is)), λ b. (omega (arith, ints, is), tt))

    module _ (e : Expression) (d : ℕ) (h : (is_affine e && nat_le 1 d) ≡ true) where
      divisor_is : pos 1 ≤ℤ pos d
      divisor_is = omega (arith, ints, leb-true 1 d (both_true (is_affine e) (nat_le 1 d) h).1)

      lower_ceiling : RowsHold (bound_row (pos d) (opposite_of (of e)) (pos d *ℤ s)) l (values loops ++ v ∷ more) setting.values ↔ (value_of setting loops (Ceiling e d) ≤ℤ (v +ℤ s))
      lower_ceiling =
          let is = opposite_has e (pos d) (pos d *ℤ s) (both_true (is_affine e) (nat_le 1 d) h).0 in
          let rule = at_least_ceiling (value_of setting loops e) (pos d) (v +ℤ s) divisor_is in
          (λ r. (let t = r.0 in rule.0 (omega (arith, ints, is, mul_add_z (pos d) v s))), λ b. (let t = rule.1 b in (omega (arith, ints, is, mul_add_z (pos d) v s), tt)))

      lower_floor : RowsHold (bound_row (pos d) (opposite_of (of e)) ((pos d *ℤ s) +ℤ (pos d -ℤ pos 1))) l (values loops ++ v ∷ more) setting.values ↔ (value_of setting loops (Floor e d) ≤ℤ (v +ℤ s))
      lower_floor =
          let is = opposite_has e (pos d) ((pos d *ℤ s) +ℤ (pos d -ℤ pos 1)) (both_true (is_affine e) (nat_le 1 d) h).0 in
          let rule = at_least_floor (value_of setting loops e) (pos d) (v +ℤ s) divisor_is in
          (λ r. (let t = r.0 in rule.0 (omega (arith, ints, is, mul_add_z (pos d) v s))), λ b. (let t = rule.1 b in (omega (arith, ints, is, mul_add_z (pos d) v s), tt)))

      upper_floor : RowsHold (bound_row (neg_ℤ (pos d)) (of e) (neg_ℤ (pos d *ℤ s))) l (values loops ++ v ∷ more) setting.values ↔ ((v +ℤ s) ≤ℤ value_of setting loops (Floor e d))
      upper_floor =
          let is = itself_has e (neg_ℤ (pos d)) (neg_ℤ (pos d *ℤ s)) (both_true (is_affine e) (nat_le 1 d) h).0 in
          let rule = at_most_floor (value_of setting loops e) (pos d) (v +ℤ s) divisor_is in (
            λ r. (let t = r.0 in rule.0 (omega (arith, ints, is, mul_add_z (pos d) v s, neg_mul_z (pos d) v))),
            λ b. (let t = rule.1 b in (omega (arith, ints, is, mul_add_z (pos d) v s, neg_mul_z (pos d) v), tt)),
          )

      upper_ceiling : RowsHold (bound_row (neg_ℤ (pos d)) (of e) (neg_ℤ (pos d *ℤ s) +ℤ (pos d -ℤ pos 1))) l (values loops ++ v ∷ more) setting.values ↔ ((v +ℤ s) ≤ℤ value_of setting loops (Ceiling e d))
      upper_ceiling =
          let is = itself_has e (neg_ℤ (pos d)) (neg_ℤ (pos d *ℤ s) +ℤ (pos d -ℤ pos 1)) (both_true (is_affine e) (nat_le 1 d) h).0 in
          let rule = at_most_ceiling (value_of setting loops e) (pos d) (v +ℤ s) divisor_is in (
            λ r. (let t = r.0 in rule.0 (omega (arith, ints, is, mul_add_z (pos d) v s, neg_mul_z (pos d) v))),
            λ b. (let t = rule.1 b in (omega (arith, ints, is, mul_add_z (pos d) v s, neg_mul_z (pos d) v), tt)),
          )

    -- the rows of a lower bound hold where the value is not below it
    pub lower_has : (e : Expression) → is_lower_bound e ≡ true → RowsHold (lower_rows setting.parameters (names loops) s e) l (values loops ++ v ∷ more) setting.values ↔ (value_of setting loops e ≤ℤ (v +ℤ s))
    lower_has (Number value) h = lower_affine (Number value) h
    lower_has (Name name) h = lower_affine (Name name) h
    lower_has (Sum left right) h = lower_affine (Sum left right) h
    lower_has (Difference left right) h = lower_affine (Difference left right) h
    lower_has (Product left right) h = lower_affine (Product left right) h
    lower_has (Negation e) h = lower_affine (Negation e) h
    lower_has (Maximum left right) h =
        let t = both_true (is_lower_bound left) (is_lower_bound right) h in
        let a = lower_has left t.0 in
        let b = lower_has right t.1 in
        let rule = max_at_most (value_of setting loops left) (value_of setting loops right) (v +ℤ s) in
        let rows = rows_append (lower_rows setting.parameters (names loops) s left) (lower_rows setting.parameters (names loops) s right) l (values loops ++ v ∷ more) setting.values in
        (λ r. (let u = rows.0 r in rule.1 (a.0 u.0, b.0 u.1)), λ m. (let u = rule.0 m in rows.1 (a.1 u.0, b.1 u.1)))
    lower_has (Minimum left right) h = absurd cc
    lower_has (Ceiling e d) h = lower_ceiling e d h
    lower_has (Floor e d) h = lower_floor e d h
    lower_has (Remainder e d) h = absurd cc

    -- the rows of an upper bound hold where the value is not above it
    pub upper_has : (e : Expression) → is_upper_bound e ≡ true → RowsHold (upper_rows setting.parameters (names loops) s e) l (values loops ++ v ∷ more) setting.values ↔ ((v +ℤ s) ≤ℤ value_of setting loops e)
    upper_has (Number value) h = upper_affine (Number value) h
    upper_has (Name name) h = upper_affine (Name name) h
    upper_has (Sum left right) h = upper_affine (Sum left right) h
    upper_has (Difference left right) h = upper_affine (Difference left right) h
    upper_has (Product left right) h = upper_affine (Product left right) h
    upper_has (Negation e) h = upper_affine (Negation e) h
    upper_has (Minimum left right) h =
        let t = both_true (is_upper_bound left) (is_upper_bound right) h in
        let a = upper_has left t.0 in
        let b = upper_has right t.1 in
        let rule = min_at_least (value_of setting loops left) (value_of setting loops right) (v +ℤ s) in
        let rows = rows_append (upper_rows setting.parameters (names loops) s left) (upper_rows setting.parameters (names loops) s right) l (values loops ++ v ∷ more) setting.values in
        (λ r. (let u = rows.0 r in rule.1 (a.0 u.0, b.0 u.1)), λ m. (let u = rule.0 m in rows.1 (a.1 u.0, b.1 u.1)))
    upper_has (Maximum left right) h = absurd cc
    upper_has (Ceiling e d) h = upper_ceiling e d h
    upper_has (Floor e d) h = upper_floor e d h
    upper_has (Remainder e d) h = absurd cc
