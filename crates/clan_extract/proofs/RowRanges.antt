-- The rows of all parts of a domain are in range where those of each constraint are.
use Rattle.std.proofs.Common.{◌≡◌, ℕ, zero, suc, ◌+◌, ◌≤◌, List, [], ◌∷◌, ◌++◌, length, map, Bool, true, false, ◌&&◌, cond, refl, sym, ◌∙◌, ap, arith, ℤ, pos, negsuc, neg_ℤ, ◌+ℤ◌, ◌-ℤ◌, ◌*ℤ◌}
use Rattle.std.specs.Prelude.{◌^◌, nat_lt, nat_eq, unsigned_abs}
use Rattle.std.proofs.lemmas.List.{length-append}
use Rattle.row_core.specs.Rows.{add_rows}
use Rattle.relation_core.specs.declared.part_rows.PartRow.{PartRow}
use Rattle.relation_core.specs.declared.part_rows.RowKind.TheVariants.{Equal}
use Rattle.scop_data.specs.declared.affines.Affine.{Affine}
use Rattle.scop_core.specs.SolvedRows.{zeros}
use Rattle.clan_extract.specs.Regions.{Expression, Number, Name, Sum, Difference, Product, Negation, Maximum, Minimum, Ceiling, Floor, Remainder, Comparison, IsLess, IsLessOrEqual, IsGreater, IsGreaterOrEqual, IsEqual, IsUnequal, Condition, Compare, Both, Either, Opposite}
use Rattle.clan_extract.specs.Forms.{opposite_of, difference, form}
use Rattle.clan_extract.specs.Placements.{Head, Round, Loop, Test, loop_names}
use Rattle.clan_extract.specs.Constraints.{FormRow, Constraint, with_iterator, bound_row, lower_rows, upper_rows, loop_rows, stride_form, loop_constraints, joined, comparison_parts, plus, remainder_parts, parts_of_sides, opposite_comparison, parts_of_condition, parts_of}
use Rattle.clan_extract.specs.Scops.{padded, locals_in, local_columns, part, part_row, part_rows}
use Rattle.clan_extract.specs.Refusals.{are_in_range, form_fits, rows_fit, domain_fits}
use Rattle.clan_extract.specs.RowRanges.{form_rows_fit, constraints_fit, parts_fit, comparisons_fit, constraints_of_rounds_fit, RowsFitOnce}
use Rattle.clan_extract.proofs.Bounds.{length_sum, length_scale, length_form}
use Rattle.clan_extract.proofs.StatementPieces.{length_parameters, some_condition, some_parts}

-- ranges of rows in pieces
and_assoc : (a b c : Bool) → ((a && b) && c) ≡ (a && (b && c))
and_assoc true b c = refl
and_assoc false b c = refl

and_true_right : (a : Bool) → (a && true) ≡ a
and_true_right true = refl
and_true_right false = refl

range_append : (a b : List ℤ) → are_in_range (a ++ b) ≡ (are_in_range a && are_in_range b)
range_append [] b = refl
range_append (z ∷ a) b = ap (λ t. nat_lt (unsigned_abs z) (2 ^ 127) && t) (range_append a b) ∙ sym (and_assoc (nat_lt (unsigned_abs z) (2 ^ 127)) (are_in_range a) (are_in_range b))

range_zeros : (k : ℕ) → are_in_range (zeros k) ≡ true
range_zeros zero = refl
range_zeros (suc k) = range_zeros k

range_padded : (d : ℕ) (row : List ℤ) → length row ≤ d → are_in_range (padded d row) ≡ are_in_range row
range_padded zero [] l = refl
range_padded zero (z ∷ row) l = absurd (omega arith)
range_padded (suc d) [] l = range_padded d [] (omega arith)
range_padded (suc d) (z ∷ row) l = ap (λ t. nat_lt (unsigned_abs z) (2 ^ 127) && t) (range_padded d row (omega arith))

range_columns : (before behind : ℕ) (b : Bool) (z : ℤ) → are_in_range (local_columns before behind b z) ≡ cond b (nat_lt (unsigned_abs z) (2 ^ 127)) true
range_columns before behind true z =
    range_append (zeros before) (z ∷ zeros behind) ∙ ap (λ t. t && (nat_lt (unsigned_abs z) (2 ^ 127) && are_in_range (zeros behind))) (range_zeros before)
    ∙ ap (λ t. nat_lt (unsigned_abs z) (2 ^ 127) && t) (range_zeros behind) ∙ and_true_right (nat_lt (unsigned_abs z) (2 ^ 127))
range_columns before behind false z = range_zeros (before + behind)

-- forms over at most so many iterators and exactly so many parameters
record Sized (d k : ℕ) (f : Affine) : Type 0 where
  pub iterators : length f.iterators ≤ d
  pub parameters : length f.parameters ≡ k

abbrev SizedRows : ℕ → ℕ → List FormRow → Type 0
SizedRows d k [] = Unit {0}
SizedRows d k (r ∷ rs) = Sized d k r.form × SizedRows d k rs

abbrev SizedAll : ℕ → ℕ → List Constraint → Type 0
SizedAll d k [] = Unit {0}
SizedAll d k (c ∷ cs) = SizedRows d k c.rows × SizedAll d k cs

abbrev SizedParts : ℕ → ℕ → List (List Constraint) → Type 0
SizedParts d k [] = Unit {0}
SizedParts d k (p ∷ ps) = SizedAll d k p × SizedParts d k ps

widen_rows : (d e k : ℕ) → d ≤ e → (rs : List FormRow) → SizedRows d k rs → SizedRows e k rs
widen_rows d e k l [] h = tt
widen_rows d e k l (r ∷ rs) h = (record { iterators = omega (arith, h.0.iterators); parameters = h.0.parameters }, widen_rows d e k l rs h.1)

widen_all : (d e k : ℕ) → d ≤ e → (cs : List Constraint) → SizedAll d k cs → SizedAll e k cs
widen_all d e k l [] h = tt
widen_all d e k l (c ∷ cs) h = (widen_rows d e k l c.rows h.0, widen_all d e k l cs h.1)

widen_parts : (d e k : ℕ) → d ≤ e → (ps : List (List Constraint)) → SizedParts d k ps → SizedParts e k ps
widen_parts d e k l [] h = tt
widen_parts d e k l (p ∷ ps) h = (widen_all d e k l p h.0, widen_parts d e k l ps h.1)

module _ (d k : ℕ) where
  rows_append : (a b : List FormRow) → SizedRows d k a → SizedRows d k b → SizedRows d k (a ++ b)
  rows_append [] b h g = g
  rows_append (r ∷ a) b h g = (h.0, rows_append a b h.1 g)

  all_append : (a b : List Constraint) → SizedAll d k a → SizedAll d k b → SizedAll d k (a ++ b)
  all_append [] b h g = g
  all_append (c ∷ a) b h g = (h.0, all_append a b h.1 g)

  parts_append : (a b : List (List Constraint)) → SizedParts d k a → SizedParts d k b → SizedParts d k (a ++ b)
  parts_append [] b h g = g
  parts_append (p ∷ a) b h g = (h.0, parts_append a b h.1 g)

  parts_each : (p : List Constraint) (qs : List (List Constraint)) → SizedAll d k p → SizedParts d k qs → SizedParts d k (map (λ q. p ++ q) qs)
  parts_each p [] h g = tt
  parts_each p (q ∷ qs) h g = (all_append p q h g.0, parts_each p qs h g.1)

  parts_joined : (ps qs : List (List Constraint)) → SizedParts d k ps → SizedParts d k qs → SizedParts d k (joined ps qs)
  parts_joined [] qs h g = tt
  parts_joined (p ∷ ps) qs h g = parts_append (map (λ q. p ++ q) qs) (joined ps qs) (parts_each p qs h.0 g) (parts_joined ps qs h.1 g)

  -- the rows of a part
  row_range : (before behind : ℕ) (b : Bool) (r : FormRow) → Sized d k r.form
      → are_in_range (part_row d k (local_columns before behind b) r).entries ≡ (form_fits r.form && cond b (nat_lt (unsigned_abs r.local) (2 ^ 127)) true)
  row_range before behind b r h =
      let i : List ℤ = padded d r.form.iterators in
      let p : List ℤ = padded k r.form.parameters in
      let l : List ℤ = local_columns before behind b r.local in
      let c : ℤ = r.form.constant in
      range_append (((i ++ []) ++ l) ++ p) (c ∷ [])
      ∙ ap (λ t. t && (nat_lt (unsigned_abs c) (2 ^ 127) && true)) (range_append ((i ++ []) ++ l) p ∙ ap (λ t. t && are_in_range p) (range_append (i ++ []) l ∙ ap (λ t. t && are_in_range l) (range_append i [])))
      ∙ by (are_in_range i) (are_in_range l) (are_in_range p) (nat_lt (unsigned_abs c) (2 ^ 127)) (are_in_range r.form.iterators) (are_in_range r.form.parameters) (cond b (nat_lt (unsigned_abs r.local) (2 ^ 127)) true)
      (range_padded d r.form.iterators h.iterators) (range_columns before behind b r.local) (range_padded k r.form.parameters (omega (arith, h.parameters)))
    where
      shuffle : (i l p c : Bool) → ((((i && true) && l) && p) && (c && true)) ≡ (((i && p) && c) && l)
      shuffle true true true true = refl
      shuffle true true true false = refl
      shuffle true true false c = refl
      shuffle true false true true = refl
      shuffle true false true false = refl
      shuffle true false false c = refl
      shuffle false l p c = refl

      by : (i l p c i' p' l' : Bool) → i ≡ i' → l ≡ l' → p ≡ p' → ((((i && true) && l) && p) && (c && true)) ≡ (((i' && p') && c) && l')
      by i l p c i' p' l' e f g = shuffle i l p c ∙ ap (λ t. ((t && p) && c) && l) e ∙ ap (λ t. ((i' && p) && c) && t) f ∙ ap (λ t. ((i' && t) && c) && l') g

  rows_range : (before behind : ℕ) (b : Bool) (rs : List FormRow) → SizedRows d k rs → rows_fit (map (part_row d k (local_columns before behind b)) rs) ≡ form_rows_fit b rs
  rows_range before behind b [] h = refl
  rows_range before behind b (r ∷ rs) h =
      ap (λ t. t && rows_fit (map (part_row d k (local_columns before behind b)) rs)) (row_range before behind b r h.0)
      ∙ ap (λ t. (form_fits r.form && cond b (nat_lt (unsigned_abs r.local) (2 ^ 127)) true) && t) (rows_range before behind b rs h.1)

  rows_fit_append : (a b : List PartRow) → rows_fit (a ++ b) ≡ (rows_fit a && rows_fit b)
  rows_fit_append [] b = refl
  rows_fit_append (r ∷ a) b = ap (λ t. are_in_range r.entries && t) (rows_fit_append a b) ∙ sym (and_assoc (are_in_range r.entries) (rows_fit a) (rows_fit b))

  part_range : (before : ℕ) (cs : List Constraint) → SizedAll d k cs → rows_fit (part_rows d k before cs) ≡ constraints_fit cs
  part_range before [] h = refl
  part_range before (c ∷ cs) h =
      rows_fit_append (map (part_row d k (local_columns before (locals_in cs) c.has_local)) c.rows) (part_rows d k (before + cond c.has_local 1 0) cs)
      ∙ ap (λ t. t && rows_fit (part_rows d k (before + cond c.has_local 1 0) cs)) (rows_range before (locals_in cs) c.has_local c.rows h.0)
      ∙ ap (λ t. form_rows_fit c.has_local c.rows && t) (part_range (before + cond c.has_local 1 0) cs h.1)

  domain_range : (ps : List (List Constraint)) → SizedParts d k ps → domain_fits (map (part d k) ps) ≡ parts_fit ps
  domain_range [] h = refl
  domain_range (p ∷ ps) h =
      ap (λ t. t && domain_fits (map (part d k) ps)) (part_range 0 p h.0) ∙ ap (λ t. constraints_fit p && t) (domain_range ps h.1)

-- joins and alternatives ask each constraint once
constraints_append : (p q : List Constraint) → constraints_fit (p ++ q) ≡ (constraints_fit p && constraints_fit q)
constraints_append [] q = refl
constraints_append (c ∷ p) q =
    ap (λ t. form_rows_fit c.has_local c.rows && t) (constraints_append p q) ∙ sym (and_assoc (form_rows_fit c.has_local c.rows) (constraints_fit p) (constraints_fit q))

fit_append : (ps qs : List (List Constraint)) → parts_fit (ps ++ qs) ≡ (parts_fit ps && parts_fit qs)
fit_append [] qs = refl
fit_append (p ∷ ps) qs = ap (λ t. constraints_fit p && t) (fit_append ps qs) ∙ sym (and_assoc (constraints_fit p) (parts_fit ps) (parts_fit qs))

share_left : (p q r : Bool) → ((p && q) && (p && r)) ≡ (p && (q && r))
share_left true q r = refl
share_left false q r = refl

share_right : (p q r : Bool) → ((p && q) && (r && q)) ≡ ((p && r) && q)
share_right true true r = refl
share_right true false true = refl
share_right true false false = refl
share_right false q r = refl

fit_each : (p : List Constraint) (qs : List (List Constraint)) → 1 ≤ length qs → parts_fit (map (λ q. p ++ q) qs) ≡ (constraints_fit p && parts_fit qs)
fit_each p [] h = absurd (omega (arith, h))
fit_each p (q ∷ []) h = ap (λ t. t && true) (constraints_append p q) ∙ and_assoc (constraints_fit p) (constraints_fit q) true
fit_each p (q ∷ (r ∷ qs)) h =
    ap (λ t. t && parts_fit (map (λ q. p ++ q) (r ∷ qs))) (constraints_append p q)
    ∙ ap (λ t. (constraints_fit p && constraints_fit q) && t) (fit_each p (r ∷ qs) (omega arith))
    ∙ share_left (constraints_fit p) (constraints_fit q) (parts_fit (r ∷ qs))

fit_joined : (ps qs : List (List Constraint)) → 1 ≤ length ps → 1 ≤ length qs → parts_fit (joined ps qs) ≡ (parts_fit ps && parts_fit qs)
fit_joined [] qs h k = absurd (omega (arith, h))
fit_joined (p ∷ []) qs h k =
    fit_append (map (λ q. p ++ q) qs) [] ∙ and_true_right (parts_fit (map (λ q. p ++ q) qs)) ∙ fit_each p qs k
    ∙ ap (λ t. t && parts_fit qs) (sym (and_true_right (constraints_fit p)))
fit_joined (p ∷ (r ∷ ps)) qs h k =
    fit_append (map (λ q. p ++ q) qs) (joined (r ∷ ps) qs) ∙ ap (λ t. t && parts_fit (joined (r ∷ ps) qs)) (fit_each p qs k)
    ∙ ap (λ t. (constraints_fit p && parts_fit qs) && t) (fit_joined (r ∷ ps) qs (omega arith) k)
    ∙ share_right (constraints_fit p) (parts_fit qs) (parts_fit (r ∷ ps))

sum_at_most : (d : ℕ) (a b : List ℤ) → length a ≤ d → length b ≤ d → length (add_rows a b) ≤ d
sum_at_most d [] b h g = g
sum_at_most d (x ∷ a) [] h g = h
sum_at_most zero (x ∷ a) (y ∷ b) h g = absurd (omega arith)
sum_at_most (suc d) (x ∷ a) (y ∷ b) h g = let rest = sum_at_most d a b (omega arith) (omega arith) in omega arith

-- the sizes of forms and of the rows that are made of them
module _ (d k : ℕ) where
  sized_opposite : (f : Affine) → Sized d k f → Sized d k (opposite_of f)
  sized_opposite f h = record {
    iterators = omega (arith, h.iterators, length_scale (negsuc 0) f.iterators);
    parameters = length_scale (negsuc 0) f.parameters ∙ h.parameters;
  }

  sized_difference : (f g : Affine) (z : ℤ) → Sized d k f → Sized d k g → Sized d k (difference f g z)
  sized_difference f g z h i =
      let o = sized_opposite g i in
      record { iterators = sum_at_most d f.iterators (opposite_of g).iterators h.iterators o.iterators; parameters = length_sum f.parameters (opposite_of g).parameters k h.parameters o.parameters }

  sized_bound : (c z : ℤ) (f : Affine) → Sized d k f → Sized (d + 1) k (with_iterator c f z)
  sized_bound c z f h = record { iterators = omega (arith, h.iterators, length-append f.iterators (c ∷ [])); parameters = h.parameters }

  comparison_sized : (comparison : Comparison) (f g : Affine) → Sized d k f → Sized d k g → SizedParts d k (comparison_parts comparison f g)
  comparison_sized IsLess f g h i = (((sized_difference g f (negsuc 0) i h, tt), tt), tt)
  comparison_sized IsLessOrEqual f g h i = (((sized_difference g f (pos 0) i h, tt), tt), tt)
  comparison_sized IsGreater f g h i = (((sized_difference f g (negsuc 0) h i, tt), tt), tt)
  comparison_sized IsGreaterOrEqual f g h i = (((sized_difference f g (pos 0) h i, tt), tt), tt)
  comparison_sized IsEqual f g h i = (((sized_difference f g (pos 0) h i, tt), tt), tt)
  comparison_sized IsUnequal f g h i = (((sized_difference f g (negsuc 0) h i, tt), tt), (((sized_difference g f (negsuc 0) i h, tt), tt), tt))

  sized_plus : (f : Affine) (z : ℤ) → Sized d k f → Sized d k (plus f z)
  sized_plus f z h = record { iterators = h.iterators; parameters = h.parameters }

  remainder_sized : (comparison : Comparison) (f : Affine) (c : ℕ) → Sized d k f → SizedParts d k (remainder_parts comparison f c)
  remainder_sized IsLess f c h = (((h, tt), tt), tt)
  remainder_sized IsLessOrEqual f c h = (((h, tt), tt), tt)
  remainder_sized IsGreater f c h = (((h, tt), tt), tt)
  remainder_sized IsGreaterOrEqual f c h = (((h, tt), tt), tt)
  remainder_sized IsEqual f c h = (((h, tt), tt), tt)
  remainder_sized IsUnequal f c h = (((sized_plus f (negsuc 0) h, (sized_plus (opposite_of f) _ (sized_opposite f h), tt)), tt), tt)

module _ (parameters : List (List ℕ)) where
  abbrev k : ℕ
  k = length parameters

  sized : (loops : List (List ℕ)) (e : Expression) → Sized (length loops) k (form parameters loops e)
  sized loops e = record { iterators = omega (arith, length_form parameters loops e); parameters = length_parameters parameters loops e }

  sized_against : (loops : List (List ℕ)) (e : Expression) → Sized (length loops) k (opposite_of (form parameters loops e))
  sized_against loops e = sized_opposite (length loops) k (form parameters loops e) (sized loops e)

  lower_with : (loops : List (List ℕ)) (c z : ℤ) (e : Expression) → SizedRows (length loops + 1) k (bound_row c (opposite_of (form parameters loops e)) z)
  lower_with loops c z e = (sized_bound (length loops) k c z (opposite_of (form parameters loops e)) (sized_against loops e), tt)

  upper_with : (loops : List (List ℕ)) (c z : ℤ) (e : Expression) → SizedRows (length loops + 1) k (bound_row c (form parameters loops e) z)
  upper_with loops c z e = (sized_bound (length loops) k c z (form parameters loops e) (sized loops e), tt)

  lower_sized : (loops : List (List ℕ)) (s : ℤ) (e : Expression) → SizedRows (length loops + 1) k (lower_rows parameters loops s e)
  lower_sized loops s (Number value) = lower_with loops (pos 1) s (Number value)
  lower_sized loops s (Name name) = lower_with loops (pos 1) s (Name name)
  lower_sized loops s (Sum a b) = lower_with loops (pos 1) s (Sum a b)
  lower_sized loops s (Difference a b) = lower_with loops (pos 1) s (Difference a b)
  lower_sized loops s (Product a b) = lower_with loops (pos 1) s (Product a b)
  lower_sized loops s (Negation e) = lower_with loops (pos 1) s (Negation e)
  lower_sized loops s (Maximum a b) = rows_append (length loops + 1) k (lower_rows parameters loops s a) (lower_rows parameters loops s b) (lower_sized loops s a) (lower_sized loops s b)
  lower_sized loops s (Minimum a b) = lower_with loops (pos 1) s (Minimum a b)
  lower_sized loops s (Ceiling e d) = lower_with loops (pos d) (pos d *ℤ s) e
  lower_sized loops s (Floor e d) = lower_with loops (pos d) ((pos d *ℤ s) +ℤ (pos d -ℤ pos 1)) e
  lower_sized loops s (Remainder e d) = lower_with loops (pos 1) s (Remainder e d)

  upper_sized : (loops : List (List ℕ)) (s : ℤ) (e : Expression) → SizedRows (length loops + 1) k (upper_rows parameters loops s e)
  upper_sized loops s (Number value) = upper_with loops (negsuc 0) (neg_ℤ s) (Number value)
  upper_sized loops s (Name name) = upper_with loops (negsuc 0) (neg_ℤ s) (Name name)
  upper_sized loops s (Sum a b) = upper_with loops (negsuc 0) (neg_ℤ s) (Sum a b)
  upper_sized loops s (Difference a b) = upper_with loops (negsuc 0) (neg_ℤ s) (Difference a b)
  upper_sized loops s (Product a b) = upper_with loops (negsuc 0) (neg_ℤ s) (Product a b)
  upper_sized loops s (Negation e) = upper_with loops (negsuc 0) (neg_ℤ s) (Negation e)
  upper_sized loops s (Maximum a b) = upper_with loops (negsuc 0) (neg_ℤ s) (Maximum a b)
  upper_sized loops s (Minimum a b) = rows_append (length loops + 1) k (upper_rows parameters loops s a) (upper_rows parameters loops s b) (upper_sized loops s a) (upper_sized loops s b)
  upper_sized loops s (Ceiling e d) = upper_with loops (neg_ℤ (pos d)) (neg_ℤ (pos d *ℤ s) +ℤ (pos d -ℤ pos 1)) e
  upper_sized loops s (Floor e d) = upper_with loops (neg_ℤ (pos d)) (neg_ℤ (pos d *ℤ s)) e
  upper_sized loops s (Remainder e d) = upper_with loops (negsuc 0) (neg_ℤ s) (Remainder e d)

  bounds_sized : (loops : List (List ℕ)) (h : Head) (comparison : Comparison) → SizedRows (length loops + 1) k (loop_rows parameters loops h comparison)
  bounds_sized loops h IsLess = rows_append (length loops + 1) k (lower_rows parameters loops (pos 0) h.start) (upper_rows parameters loops (pos 1) h.bound) (lower_sized loops (pos 0) h.start) (upper_sized loops (pos 1) h.bound)
  bounds_sized loops h IsLessOrEqual = rows_append (length loops + 1) k (lower_rows parameters loops (pos 0) h.start) (upper_rows parameters loops (pos 0) h.bound) (lower_sized loops (pos 0) h.start) (upper_sized loops (pos 0) h.bound)
  bounds_sized loops h IsGreater = rows_append (length loops + 1) k (upper_rows parameters loops (pos 0) h.start) (lower_rows parameters loops (negsuc 0) h.bound) (upper_sized loops (pos 0) h.start) (lower_sized loops (negsuc 0) h.bound)
  bounds_sized loops h IsGreaterOrEqual = rows_append (length loops + 1) k (upper_rows parameters loops (pos 0) h.start) (lower_rows parameters loops (pos 0) h.bound) (upper_sized loops (pos 0) h.start) (lower_sized loops (pos 0) h.bound)
  bounds_sized loops h IsEqual = tt
  bounds_sized loops h IsUnequal = tt

  against_start : (loops : List (List ℕ)) (h : Head) → Sized (length loops + 1) k (with_iterator (pos 1) (opposite_of (form parameters loops h.start)) (pos 0))
  against_start loops h = sized_bound (length loops) k (pos 1) (pos 0) (opposite_of (form parameters loops h.start)) (sized_against loops h.start)

  from_start : (loops : List (List ℕ)) (h : Head) → Sized (length loops + 1) k (with_iterator (negsuc 0) (form parameters loops h.start) (pos 0))
  from_start loops h = sized_bound (length loops) k (negsuc 0) (pos 0) (form parameters loops h.start) (sized loops h.start)

  stride_sized : (loops : List (List ℕ)) (h : Head) (comparison : Comparison) → Sized (length loops + 1) k (stride_form parameters loops h comparison)
  stride_sized loops h IsLess = against_start loops h
  stride_sized loops h IsLessOrEqual = against_start loops h
  stride_sized loops h IsGreater = from_start loops h
  stride_sized loops h IsGreaterOrEqual = from_start loops h
  stride_sized loops h IsEqual = against_start loops h
  stride_sized loops h IsUnequal = against_start loops h

  loop_sized : (loops : List (List ℕ)) (h : Head) → SizedAll (length loops + 1) k (loop_constraints parameters loops h)
  loop_sized loops h = (bounds_sized loops h h.comparison, by (nat_eq (unsigned_abs h.step) 1))
    where
      by : (t : Bool) → SizedAll (length loops + 1) k (cond t [] (record {
        rows = record { kind = Equal; form = stride_form parameters loops h h.comparison; local = neg_ℤ (pos (unsigned_abs h.step)) } ∷ [];
        has_local = true;
      } ∷ []))
      by true = tt
      by false = ((stride_sized loops h h.comparison, tt), tt)

  sides_sized : (loops : List (List ℕ)) (comparison : Comparison) (left right : Expression) → SizedParts (length loops) k (parts_of_sides parameters loops comparison left right)
  sides_sized loops comparison (Number value) right = comparison_sized (length loops) k comparison _ _ (sized loops (Number value)) (sized loops right)
  sides_sized loops comparison (Name name) right = comparison_sized (length loops) k comparison _ _ (sized loops (Name name)) (sized loops right)
  sides_sized loops comparison (Sum a b) right = comparison_sized (length loops) k comparison _ _ (sized loops (Sum a b)) (sized loops right)
  sides_sized loops comparison (Difference a b) right = comparison_sized (length loops) k comparison _ _ (sized loops (Difference a b)) (sized loops right)
  sides_sized loops comparison (Product a b) right = comparison_sized (length loops) k comparison _ _ (sized loops (Product a b)) (sized loops right)
  sides_sized loops comparison (Negation e) right = comparison_sized (length loops) k comparison _ _ (sized loops (Negation e)) (sized loops right)
  sides_sized loops comparison (Maximum a b) right = comparison_sized (length loops) k comparison _ _ (sized loops (Maximum a b)) (sized loops right)
  sides_sized loops comparison (Minimum a b) right = comparison_sized (length loops) k comparison _ _ (sized loops (Minimum a b)) (sized loops right)
  sides_sized loops comparison (Ceiling e d) right = comparison_sized (length loops) k comparison _ _ (sized loops (Ceiling e d)) (sized loops right)
  sides_sized loops comparison (Floor e d) right = comparison_sized (length loops) k comparison _ _ (sized loops (Floor e d)) (sized loops right)
  sides_sized loops comparison (Remainder e d) right = remainder_sized (length loops) k comparison _ d (sized loops e)

  abbrev parts : List (List ℕ) → Bool → Condition → List (List Constraint)
  parts loops truth c = parts_of_condition parameters loops truth c

  condition_sized : (loops : List (List ℕ)) (c : Condition) (truth : Bool) → SizedParts (length loops) k (parts loops truth c)
  condition_sized loops (Compare comparison left right) true = sides_sized loops comparison left right
  condition_sized loops (Compare comparison left right) false = sides_sized loops (opposite_comparison comparison) left right
  condition_sized loops (Both left right) true = parts_joined (length loops) k (parts loops true left) (parts loops true right) (condition_sized loops left true) (condition_sized loops right true)
  condition_sized loops (Both left right) false = parts_append (length loops) k (parts loops false left) (parts loops false right) (condition_sized loops left false) (condition_sized loops right false)
  condition_sized loops (Either left right) true = parts_append (length loops) k (parts loops true left) (parts loops true right) (condition_sized loops left true) (condition_sized loops right true)
  condition_sized loops (Either left right) false = parts_joined (length loops) k (parts loops false left) (parts loops false right) (condition_sized loops left false) (condition_sized loops right false)
  condition_sized loops (Opposite of) true = condition_sized loops of false
  condition_sized loops (Opposite of) false = condition_sized loops of true

  rounds_sized : (loops : List (List ℕ)) (rounds : List Round) (d : ℕ) → length loops + length (loop_names rounds) ≡ d → SizedParts d k (parts_of parameters loops rounds)
  rounds_sized loops [] d e = (tt, tt)
  rounds_sized loops (Loop head ∷ rounds) d e =
      parts_joined d k (loop_constraints parameters loops head ∷ []) (parts_of parameters (loops ++ head.name ∷ []) rounds)
      (widen_parts (length loops + 1) d k (omega (arith, e)) (loop_constraints parameters loops head ∷ []) (loop_sized loops head, tt))
      (rounds_sized (loops ++ head.name ∷ []) rounds d (omega (arith, e, length-append loops (head.name ∷ []))))
  rounds_sized loops (Test truth c ∷ rounds) d e =
      parts_joined d k (parts loops truth c) (parts_of parameters loops rounds)
      (widen_parts (length loops) d k (omega (arith, e)) (parts loops truth c) (condition_sized loops c truth)) (rounds_sized loops rounds d e)

  -- each comparison once
  condition_fit : (loops : List (List ℕ)) (c : Condition) (truth : Bool) → parts_fit (parts loops truth c) ≡ comparisons_fit parameters loops truth c
  condition_fit loops (Compare comparison left right) true = refl
  condition_fit loops (Compare comparison left right) false = refl
  condition_fit loops (Both left right) true =
      fit_joined (parts loops true left) (parts loops true right) (some_condition parameters loops left true) (some_condition parameters loops right true)
      ∙ ap (λ t. t && parts_fit (parts loops true right)) (condition_fit loops left true) ∙ ap (λ t. comparisons_fit parameters loops true left && t) (condition_fit loops right true)
  condition_fit loops (Both left right) false =
      fit_append (parts loops false left) (parts loops false right)
      ∙ ap (λ t. t && parts_fit (parts loops false right)) (condition_fit loops left false) ∙ ap (λ t. comparisons_fit parameters loops false left && t) (condition_fit loops right false)
  condition_fit loops (Either left right) true =
      fit_append (parts loops true left) (parts loops true right)
      ∙ ap (λ t. t && parts_fit (parts loops true right)) (condition_fit loops left true) ∙ ap (λ t. comparisons_fit parameters loops true left && t) (condition_fit loops right true)
  condition_fit loops (Either left right) false =
      fit_joined (parts loops false left) (parts loops false right) (some_condition parameters loops left false) (some_condition parameters loops right false)
      ∙ ap (λ t. t && parts_fit (parts loops false right)) (condition_fit loops left false) ∙ ap (λ t. comparisons_fit parameters loops false left && t) (condition_fit loops right false)
  condition_fit loops (Opposite of) true = condition_fit loops of false
  condition_fit loops (Opposite of) false = condition_fit loops of true

  rounds_fit_once : (loops : List (List ℕ)) (rounds : List Round) → parts_fit (parts_of parameters loops rounds) ≡ constraints_of_rounds_fit parameters loops rounds
  rounds_fit_once loops [] = refl
  rounds_fit_once loops (Loop head ∷ rounds) =
      fit_joined (loop_constraints parameters loops head ∷ []) (parts_of parameters (loops ++ head.name ∷ []) rounds) (omega arith) (some_parts parameters (loops ++ head.name ∷ []) rounds)
      ∙ ap (λ t. t && parts_fit (parts_of parameters (loops ++ head.name ∷ []) rounds)) (and_true_right (constraints_fit (loop_constraints parameters loops head)))
      ∙ ap (λ t. constraints_fit (loop_constraints parameters loops head) && t) (rounds_fit_once (loops ++ head.name ∷ []) rounds)
  rounds_fit_once loops (Test truth c ∷ rounds) =
      fit_joined (parts loops truth c) (parts_of parameters loops rounds) (some_condition parameters loops c truth) (some_parts parameters loops rounds)
      ∙ ap (λ t. t && parts_fit (parts_of parameters loops rounds)) (condition_fit loops c truth)
      ∙ ap (λ t. comparisons_fit parameters loops truth c && t) (rounds_fit_once loops rounds)

pub rows_fit_once : RowsFitOnce
rows_fit_once parameters arrays p =
    domain_range (length (loop_names p.rounds)) (length parameters) (parts_of parameters [] p.rounds) (rounds_sized parameters [] p.rounds (length (loop_names p.rounds)) (omega arith))
    ∙ rounds_fit_once parameters [] p.rounds
