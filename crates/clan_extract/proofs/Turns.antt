-- The values of a loop are those at which its constraints hold.
use Rattle.std.proofs.Common.{◌≡◌, inl, inr, ℕ, zero, suc, List, [], ◌∷◌, ◌++◌, Bool, true, false, ◌&&◌, cond, refl, sym, ◌∙◌, ap, subst, arith, ℤ, pos, negsuc, neg_ℤ, ◌+ℤ◌, ◌-ℤ◌, ◌*ℤ◌, ◌≤ℤ◌, ◌<ℤ◌}
use Rattle.std.specs.Prelude.{nat_eq, int_lt, int_le, unsigned_abs, ◌↔◌}
use Rattle.std.proofs.lemmas.Int.{ints}
use Rattle.std.proofs.lemmas.Bool.{eqb-true}
use Rattle.row_core.proofs.Ring.{add_mul_z, mul_comm_z, mul_neg_z, neg_mul_z, mul_nonneg_z, cancel_z}
use Rattle.relation_core.specs.declared.part_rows.RowKind.TheVariants.{Equal}
use Rattle.scop_data.specs.declared.affines.Affine.{Affine}
use Rattle.scop_core.specs.Sequences.{In}
use Rattle.clan_extract.specs.Regions.{Comparison, IsLess, IsLessOrEqual, IsGreater, IsGreaterOrEqual, IsEqual, IsUnequal}
use Rattle.clan_extract.specs.Execution.{Binding, Setting, value_of, loop_values, AsLongAs}
use Rattle.clan_extract.specs.Forms.{is_affine}
use Rattle.clan_extract.specs.Placements.{Head}
use Rattle.clan_extract.specs.Constraints.{Constraint, lower_rows, upper_rows, loop_rows, loop_constraints, stride_form}
use Rattle.clan_extract.specs.Scops.{is_lower_bound, is_upper_bound, has_bounds, is_head}
use Rattle.clan_extract.proofs.Loops.{loops_run}
use Rattle.clan_extract.proofs.Forms.{both_true, names, values}
use Rattle.clan_extract.proofs.Holding.{RowsHold, AllHold, rows_append}
use Rattle.clan_extract.proofs.Bounds.{lower_has, upper_has, opposite_has, itself_has}

pub lt_true : (a b : ℤ) → a <ℤ b → int_lt a b ≡ true
lt_true a b h = by (int_lt a b) refl
  where
    by : (t : Bool) → int_lt a b ≡ t → int_lt a b ≡ true
    by true e = e
    by false e = absurd (omega (arith, ints))

pub le_true : (a b : ℤ) → a ≤ℤ b → int_le a b ≡ true
le_true a b h = by (int_le a b) refl
  where
    by : (t : Bool) → int_le a b ≡ t → int_le a b ≡ true
    by true e = e
    by false e = absurd (omega (arith, ints))

suc_times : (k : ℕ) (s : ℤ) → pos (suc k) *ℤ s ≡ (pos k *ℤ s) +ℤ s
suc_times k s =
    let one : pos (suc k) ≡ pos k +ℤ pos 1 = ap pos (omega arith) in
    ap (λ z. z *ℤ s) one ∙ add_mul_z (pos k) (pos 1) s ∙ omega (arith, ints)

-- v is so many steps from the start
abbrev pub IsSteps : ℤ → ℤ → ℤ → Type 0
IsSteps start step v = (k : ℕ) × (v ≡ start +ℤ (pos k *ℤ step))

-- a test that passes at the next value passes at this one
module _ (test : ℤ → Bool) (s : ℤ) (before : (v : ℤ) → test (v +ℤ s) ≡ true → test v ≡ true) where
  closed : (k : ℕ) (v : ℤ) → test (v +ℤ (pos k *ℤ s)) ≡ true → test v ≡ true
  closed zero v h = subst (λ u. test u ≡ true) (omega (arith, ints)) h
  closed (suc k) v h = before v (closed k (v +ℤ s) (subst (λ u. test u ≡ true) (omega (arith, ints, suc_times k s)) h))

  pub of_members : (v : ℤ) (xs : List ℤ) → AsLongAs test s v xs → (w : ℤ) → In w xs → IsSteps v s w × (test w ≡ true)
  of_members v [] h w i = absurd i
  of_members v (x ∷ xs) h w (inl e) = let same : w ≡ v = sym e ∙ h.0 in ((0, omega (arith, ints)), ap test same ∙ h.1)
  of_members v (x ∷ xs) h w (inr i) =
      let rest = of_members (v +ℤ s) xs h.2 w i in
      let k : ℕ = rest.0.0 in
      let is : w ≡ (v +ℤ s) +ℤ (pos k *ℤ s) = rest.0.1 in
      ((suc k, omega (arith, ints, is, suc_times k s)), rest.1)

  all_members : (v : ℤ) (xs : List ℤ) → AsLongAs test s v xs → (k : ℕ) → test (v +ℤ (pos k *ℤ s)) ≡ true → In (v +ℤ (pos k *ℤ s)) xs
  all_members v [] h k t = let u = closed k v t in absurd (differ (test v) u h)
    where
      differ : (b : Bool) → b ≡ true → b ≡ false → ⊥
      differ b e f = cc
  all_members v (x ∷ xs) h zero t = inl (let e = h.0 in omega (arith, ints))
  all_members v (x ∷ xs) h (suc k) t =
      let same : (v +ℤ s) +ℤ (pos k *ℤ s) ≡ v +ℤ (pos (suc k) *ℤ s) = omega (arith, ints, suc_times k s) in
      inr (subst (λ u. In u xs) same (all_members (v +ℤ s) xs h.2 k (subst (λ u. test u ≡ true) (sym same) t)))

  pub members : (v : ℤ) (xs : List ℤ) → AsLongAs test s v xs → (w : ℤ) → IsSteps v s w → test w ≡ true → In w xs
  members v xs h w steps t = subst (λ u. In u xs) (sym steps.1) (all_members v xs h steps.0 (subst (λ u. test u ≡ true) steps.1 t))

-- the constraint of a step of at least 2
abbrev stride : List (List ℕ) → List (List ℕ) → Head → Comparison → List Constraint
stride parameters loops h comparison = cond (nat_eq (unsigned_abs h.step) 1) []
    (record {
      rows = record { kind = Equal; form = stride_form parameters loops h comparison; local = neg_ℤ (pos (unsigned_abs h.step)) } ∷ [];
      has_local = true;
    } ∷ [])

module _ (setting : Setting) (loops : List Binding) (v : ℤ) (more : List ℤ) (h : Head) where
  abbrev a : ℤ
  a = value_of setting loops h.start

  abbrev b : ℤ
  b = value_of setting loops h.bound

  abbrev Stride : Comparison → Type 0
  Stride comparison = AllHold (stride setting.parameters (names loops) h comparison) (values loops ++ v ∷ more) setting.values

  abbrev Rows : Comparison → Type 0
  Rows comparison = RowsHold (loop_rows setting.parameters (names loops) h comparison) (pos 0) (values loops ++ v ∷ more) setting.values

  abbrev HasStart : Type 0
  HasStart = cond (nat_eq (unsigned_abs h.step) 1) true (is_affine h.start) ≡ true

  abbrev StrideBy : Affine → Bool → Type 0
  StrideBy f t = AllHold (cond t []
      (record { rows = record { kind = Equal; form = f; local = neg_ℤ (pos (unsigned_abs h.step)) } ∷ []; has_local = true } ∷ [])) (values loops ++ v ∷ more) setting.values

  abbrev UpStride : Bool → Type 0
  UpStride t = StrideBy (stride_form setting.parameters (names loops) h IsLess) t

  abbrev DownStride : Bool → Type 0
  DownStride t = StrideBy (stride_form setting.parameters (names loops) h IsGreater) t

  upward : pos 1 ≤ℤ h.step → (t : Bool) → nat_eq (unsigned_abs h.step) 1 ≡ t → cond t true (is_affine h.start) ≡ true
      → ((a ≤ℤ v) × UpStride t) ↔ IsSteps a h.step v
  upward up true e s =
      let one : unsigned_abs h.step ≡ 1 = eqb-true (unsigned_abs h.step) 1 e in
      let is : h.step ≡ pos 1 = omega (arith, ints, one) in (
        λ p. (let above = p.0 in (unsigned_abs (v -ℤ a), omega (arith, ints, ap (λ z. pos (unsigned_abs (v -ℤ a)) *ℤ z) is))),
        λ p. (let k : ℕ = p.0 in let at : v ≡ a +ℤ (pos k *ℤ h.step) = p.1 in (omega (arith, ints, ap (λ z. pos k *ℤ z) is), tt)),
      )
  upward up false e s =
      let is : pos (unsigned_abs h.step) ≡ h.step = omega (arith, ints) in
      let form_is = opposite_has setting loops v more h.start (pos 1) (pos 0) s in (
        λ p. (
            let above = p.0 in
            let l : ℤ = p.1.0.0 in
            let row = p.1.0.1.0 in
            let times : v ≡ a +ℤ (h.step *ℤ l) = omega (arith, ints, row, form_is, neg_mul_z (pos (unsigned_abs h.step)) l, ap (λ z. z *ℤ l) is) in
            let natural : pos 0 ≤ℤ l = cancel_z h.step (pos 0) l (omega (arith, ints)) (omega (arith, ints)) in
            let same : pos (unsigned_abs l) ≡ l = omega (arith, ints) in
            (unsigned_abs l, omega (arith, ints, ap (λ z. z *ℤ h.step) same, mul_comm_z l h.step))),
        λ p. (
            let k : ℕ = p.0 in
            let at : v ≡ a +ℤ (pos k *ℤ h.step) = p.1 in
            let natural : pos 0 ≤ℤ (pos k *ℤ h.step) = grind (arith, ints) in
            (omega (arith, ints), ((pos k, (omega (arith, ints, form_is, neg_mul_z (pos (unsigned_abs h.step)) (pos k), ap (λ z. z *ℤ pos k) is, mul_comm_z (pos k) h.step), tt)), tt))),
      )

  downward : h.step ≤ℤ negsuc 0 → (t : Bool) → nat_eq (unsigned_abs h.step) 1 ≡ t → cond t true (is_affine h.start) ≡ true
      → ((v ≤ℤ a) × DownStride t) ↔ IsSteps a h.step v
  downward down true e s =
      let one : unsigned_abs h.step ≡ 1 = eqb-true (unsigned_abs h.step) 1 e in
      let is : h.step ≡ negsuc 0 = omega (arith, ints, one) in (
        λ p. (let below = p.0 in (unsigned_abs (a -ℤ v), omega (arith, ints, ap (λ z. pos (unsigned_abs (a -ℤ v)) *ℤ z) is))),
        λ p. (let k : ℕ = p.0 in let at : v ≡ a +ℤ (pos k *ℤ h.step) = p.1 in (omega (arith, ints, ap (λ z. pos k *ℤ z) is), tt)),
      )
  downward down false e s =
      let is : pos (unsigned_abs h.step) ≡ neg_ℤ h.step = omega (arith, ints) in
      let form_is = itself_has setting loops v more h.start (negsuc 0) (pos 0) s in (
        λ p. (
            let below = p.0 in
            let l : ℤ = p.1.0.0 in
            let row = p.1.0.1.0 in
            let times : neg_ℤ v +ℤ a ≡ pos (unsigned_abs h.step) *ℤ l = omega (arith, ints, row, form_is, neg_mul_z (pos (unsigned_abs h.step)) l) in
            let natural : pos 0 ≤ℤ l = cancel_z (pos (unsigned_abs h.step)) (pos 0) l (omega (arith, ints)) (omega (arith, ints)) in
            let same : pos (unsigned_abs l) ≡ l = omega (arith, ints) in
            (unsigned_abs l, omega (arith, ints, ap (λ z. z *ℤ h.step) same, mul_comm_z l h.step, ap (λ z. z *ℤ l) is, neg_mul_z h.step l))),
        λ p. (
            let k : ℕ = p.0 in
            let at : v ≡ a +ℤ (pos k *ℤ h.step) = p.1 in
            let turned : pos k *ℤ neg_ℤ h.step ≡ neg_ℤ (pos k *ℤ h.step) = mul_neg_z (pos k) h.step in
            let size : pos 0 ≤ℤ neg_ℤ h.step = omega (arith, ints) in
            let natural : pos 0 ≤ℤ (pos k *ℤ neg_ℤ h.step) = mul_nonneg_z (pos k) (neg_ℤ h.step) (omega (arith, ints)) size in
            (omega (arith, ints), ((pos k, (omega (arith, ints, form_is, neg_mul_z (pos (unsigned_abs h.step)) (pos k), ap (λ z. z *ℤ pos k) is, mul_comm_z (pos k) (neg_ℤ h.step)), tt)), tt))),
      )

  -- both kinds of constraints hold at the values of the loop
  abbrev Agrees : Comparison → Type 0
  Agrees comparison = (Rows comparison × Stride comparison) ↔ In v (loop_values comparison a b h.step)

  turns_of : (comparison : Comparison) → has_bounds h comparison ≡ true → HasStart → Agrees comparison
  turns_of IsLess e s =
      let t = both_true (is_lower_bound h.start && is_upper_bound h.bound) (int_le (pos 1) h.step) e in
      let u = both_true (is_lower_bound h.start) (is_upper_bound h.bound) t.0 in
      let up : pos 1 ≤ℤ h.step = let w = t.1 in omega (arith, ints) in
      let lower = lower_has setting loops v more (pos 0) (pos 0) h.start u.0 in
      let upper = upper_has setting loops v more (pos 1) (pos 0) h.bound u.1 in
      let rows = rows_append (lower_rows setting.parameters (names loops) (pos 0) h.start) (upper_rows setting.parameters (names loops) (pos 1) h.bound) (pos 0) (values loops ++ v ∷ more) setting.values in
      let steps = upward up (nat_eq (unsigned_abs h.step) 1) refl s in
      let before : (w : ℤ) → int_lt (w +ℤ h.step) b ≡ true → int_lt w b ≡ true = λ w i. lt_true w b (omega (arith, ints)) in
      let run = loops_run IsLess h.step up a b in (
        λ p. (
            let r = rows.0 p.0 in
            let low = lower.0 r.0 in
            let high = upper.0 r.1 in
            members (λ w. int_lt w b) h.step before a (loop_values IsLess a b h.step) run v (steps.0 (omega (arith, ints), p.1)) (lt_true v b (omega (arith, ints)))),
        λ i. (
            let m = of_members (λ w. int_lt w b) h.step before a (loop_values IsLess a b h.step) run v i in
            let test = m.1 in
            let q = steps.1 m.0 in
            let above = q.0 in
            (rows.1 (lower.1 (omega (arith, ints)), upper.1 (omega (arith, ints))), q.1)),
      )
  turns_of IsLessOrEqual e s =
      let t = both_true (is_lower_bound h.start && is_upper_bound h.bound) (int_le (pos 1) h.step) e in
      let u = both_true (is_lower_bound h.start) (is_upper_bound h.bound) t.0 in
      let up : pos 1 ≤ℤ h.step = let w = t.1 in omega (arith, ints) in
      let lower = lower_has setting loops v more (pos 0) (pos 0) h.start u.0 in
      let upper = upper_has setting loops v more (pos 0) (pos 0) h.bound u.1 in
      let rows = rows_append (lower_rows setting.parameters (names loops) (pos 0) h.start) (upper_rows setting.parameters (names loops) (pos 0) h.bound) (pos 0) (values loops ++ v ∷ more) setting.values in
      let steps = upward up (nat_eq (unsigned_abs h.step) 1) refl s in
      let before : (w : ℤ) → int_le (w +ℤ h.step) b ≡ true → int_le w b ≡ true = λ w i. le_true w b (omega (arith, ints)) in
      let run = loops_run IsLessOrEqual h.step up a b in (
        λ p. (
            let r = rows.0 p.0 in
            let low = lower.0 r.0 in
            let high = upper.0 r.1 in
            members (λ w. int_le w b) h.step before a (loop_values IsLessOrEqual a b h.step) run v (steps.0 (omega (arith, ints), p.1)) (le_true v b (omega (arith, ints)))),
        λ i. (
            let m = of_members (λ w. int_le w b) h.step before a (loop_values IsLessOrEqual a b h.step) run v i in
            let test = m.1 in
            let q = steps.1 m.0 in
            let above = q.0 in
            (rows.1 (lower.1 (omega (arith, ints)), upper.1 (omega (arith, ints))), q.1)),
      )
  turns_of IsGreater e s =
      let t = both_true (is_upper_bound h.start && is_lower_bound h.bound) (int_le h.step (negsuc 0)) e in
      let u = both_true (is_upper_bound h.start) (is_lower_bound h.bound) t.0 in
      let down : h.step ≤ℤ negsuc 0 = let w = t.1 in omega (arith, ints) in
      let upper = upper_has setting loops v more (pos 0) (pos 0) h.start u.0 in
      let lower = lower_has setting loops v more (negsuc 0) (pos 0) h.bound u.1 in
      let rows = rows_append (upper_rows setting.parameters (names loops) (pos 0) h.start) (lower_rows setting.parameters (names loops) (negsuc 0) h.bound) (pos 0) (values loops ++ v ∷ more) setting.values in
      let steps = downward down (nat_eq (unsigned_abs h.step) 1) refl s in
      let before : (w : ℤ) → int_lt b (w +ℤ h.step) ≡ true → int_lt b w ≡ true = λ w i. lt_true b w (omega (arith, ints)) in
      let run = loops_run IsGreater h.step down a b in (
        λ p. (
            let r = rows.0 p.0 in
            let high = upper.0 r.0 in
            let low = lower.0 r.1 in
            members (λ w. int_lt b w) h.step before a (loop_values IsGreater a b h.step) run v (steps.0 (omega (arith, ints), p.1)) (lt_true b v (omega (arith, ints)))),
        λ i. (
            let m = of_members (λ w. int_lt b w) h.step before a (loop_values IsGreater a b h.step) run v i in
            let test = m.1 in
            let q = steps.1 m.0 in
            let below = q.0 in
            (rows.1 (upper.1 (omega (arith, ints)), lower.1 (omega (arith, ints))), q.1)),
      )
  turns_of IsGreaterOrEqual e s =
      let t = both_true (is_upper_bound h.start && is_lower_bound h.bound) (int_le h.step (negsuc 0)) e in
      let u = both_true (is_upper_bound h.start) (is_lower_bound h.bound) t.0 in
      let down : h.step ≤ℤ negsuc 0 = let w = t.1 in omega (arith, ints) in
      let upper = upper_has setting loops v more (pos 0) (pos 0) h.start u.0 in
      let lower = lower_has setting loops v more (pos 0) (pos 0) h.bound u.1 in
      let rows = rows_append (upper_rows setting.parameters (names loops) (pos 0) h.start) (lower_rows setting.parameters (names loops) (pos 0) h.bound) (pos 0) (values loops ++ v ∷ more) setting.values in
      let steps = downward down (nat_eq (unsigned_abs h.step) 1) refl s in
      let before : (w : ℤ) → int_le b (w +ℤ h.step) ≡ true → int_le b w ≡ true = λ w i. le_true b w (omega (arith, ints)) in
      let run = loops_run IsGreaterOrEqual h.step down a b in (
        λ p. (
            let r = rows.0 p.0 in
            let high = upper.0 r.0 in
            let low = lower.0 r.1 in
            members (λ w. int_le b w) h.step before a (loop_values IsGreaterOrEqual a b h.step) run v (steps.0 (omega (arith, ints), p.1)) (le_true b v (omega (arith, ints)))),
        λ i. (
            let m = of_members (λ w. int_le b w) h.step before a (loop_values IsGreaterOrEqual a b h.step) run v i in
            let test = m.1 in
            let q = steps.1 m.0 in
            let below = q.0 in
            (rows.1 (upper.1 (omega (arith, ints)), lower.1 (omega (arith, ints))), q.1)),
      )
  turns_of IsEqual e s = absurd cc
  turns_of IsUnequal e s = absurd cc

  -- the constraints of a loop hold at its values
  pub loop_has : is_head h ≡ true → AllHold (loop_constraints setting.parameters (names loops) h) (values loops ++ v ∷ more) setting.values ↔ In v (loop_values h.comparison a b h.step)
  loop_has e = let t = both_true (has_bounds h h.comparison) (cond (nat_eq (unsigned_abs h.step) 1) true (is_affine h.start)) e in turns_of h.comparison t.0 t.1
