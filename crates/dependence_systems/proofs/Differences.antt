-- The values of rows that compare an affine value of the source with one of the target.
use Rattle.std.proofs.Common.{◌≡◌, ℕ, ◌+◌, List, [], ◌∷◌, ◌++◌, length, ℤ, pos, negsuc, ◌+ℤ◌, ◌*ℤ◌, ◌<ℤ◌, refl, ap, sym, ◌∙◌, arith}
use Rattle.std.specs.Prelude.{◌↔◌, not}
use Rattle.std.proofs.lemmas.List.{length-append}
use Rattle.std.proofs.lemmas.Int.{ints}
use Rattle.row_core.specs.Rows.{dot, scale, combined}
use Rattle.row_core.specs.Linear.{mul_add_z, dot_scale, dot_combined}
use Rattle.row_core.proofs.Ring.{mul_one_z}
use Rattle.relation_core.specs.Points.{Meets}
use Rattle.relation_core.specs.declared.part_rows.RowKind.TheVariants.{Equal, AtLeast}
use Rattle.scop_data.specs.declared.affines.Affine.{Affine}
use Rattle.scop_core.specs.SolvedRows.{zeros, HasSizes}
use Rattle.scop_core.specs.Meaning.{affine_at}
use Rattle.schedule_forms.proofs.SolvedDots.{dot_append}
use Rattle.dependence_systems.specs.declared.widths.Widths.{Widths}
use Rattle.dependence_systems.specs.declared.widths.Comparison.{Comparison}
use Rattle.dependence_systems.specs.declared.widths.Comparison.TheVariants.{Subscripts, EqualLevels, LessLevels, GreaterLevels}
use Rattle.dependence_systems.specs.Comparisons.{factor_of, added, is_turned, floor_count, floor_columns, entries_for, Compares}
use Rattle.relation_core.specs.Systems.{width}
use Rattle.dependence_systems.specs.Systems.{shape_with, in_columns, summed, subscript_row, equal_row, less_row}
use Rattle.dependence_systems.proofs.Segments.{HasWidths, columns_length, dot_columns, dot_zeros, length_zeros}

mul_four : (i p q r c : ℤ) → i *ℤ (((p +ℤ q) +ℤ r) +ℤ c) ≡ (((i *ℤ p) +ℤ (i *ℤ q)) +ℤ (i *ℤ r)) +ℤ (i *ℤ c)
mul_four i p q r c = omega (arith, ints, mul_add_z i ((p +ℤ q) +ℤ r) c, mul_add_z i (p +ℤ q) r, mul_add_z i p q)

pub length_scale : (i : ℤ) (a : List ℤ) → length (scale i a) ≡ length a
length_scale i [] = refl
length_scale i (x ∷ a) = omega (arith, length_scale i a)

pub length_combined : (i : ℤ) (a : List ℤ) (j : ℤ) (b : List ℤ) → length a ≡ length b → length (combined i a j b) ≡ length a
length_combined i [] j b e = refl
length_combined i (x ∷ a) j [] e = absurd (omega (arith, e))
length_combined i (x ∷ a) j (y ∷ b) e = let rest : length (combined i a j b) ≡ length a = length_combined i a j b (omega (arith, e)) in omega arith

-- coefficients of floors that are as long as the columns of floors, and their values at the floors
pub record Floors (w : Widths) (i j : ℤ) (f g : List ℤ) (a b : Affine) (u v r s : List ℤ) : Type 0 where
  pub source_is : length f ≡ w.source_floors
  pub target_is : length g ≡ w.target_floors
  pub source_value : dot f u ≡ i *ℤ dot a.floors r
  pub target_value : dot g v ≡ j *ℤ dot b.floors s

-- the value of i a + j b + k, where the floors have the values that stand in r and s
pub summed_value : (w : Widths) (i j k : ℤ) (f g : List ℤ) (a b : Affine) (x y l m u v n r s : List ℤ) → HasWidths w x y l m u v
    → length a.iterators ≡ w.source → length b.iterators ≡ w.target → length a.parameters ≡ length n → length b.parameters ≡ length n
    → Floors w i j f g a b u v r s
    → dot (summed w i j k f g a b) (in_columns x y l m u v (n ++ pos 1 ∷ [])) ≡ ((i *ℤ affine_at a x r n) +ℤ (j *ℤ affine_at b y s n)) +ℤ k
summed_value w i j k f g a b x y l m u v n r s at ia ib pa pb floors =
    let c = ((i *ℤ a.constant) +ℤ (j *ℤ b.constant)) +ℤ k in
    let sizes : HasWidths w (scale i a.iterators) (scale j b.iterators) (zeros w.source_part) (zeros w.target_part) f g = record {
      source_is = length_scale i a.iterators ∙ ia;
      target_is = length_scale j b.iterators ∙ ib;
      source_part_is = length_zeros w.source_part;
      target_part_is = length_zeros w.target_part;
      source_floors_is = floors.source_is;
      target_floors_is = floors.target_is;
    } in
    let same : length a.parameters ≡ length b.parameters = pa ∙ sym pb in
    let rest : dot (combined i a.parameters j b.parameters ++ c ∷ []) (n ++ pos 1 ∷ []) ≡ dot (combined i a.parameters j b.parameters) n +ℤ dot (c ∷ []) (pos 1 ∷ [])
    = dot_append (combined i a.parameters j b.parameters) (c ∷ []) n (pos 1 ∷ []) (length_combined i a.parameters j b.parameters same ∙ pa) in
    let parameters : dot (combined i a.parameters j b.parameters) n ≡ (i *ℤ dot a.parameters n) +ℤ (j *ℤ dot b.parameters n) = dot_combined i a.parameters j b.parameters n same in
    let sum : dot (summed w i j k f g a b) (in_columns x y l m u v (n ++ pos 1 ∷ []))
    ≡ dot (scale i a.iterators) x +ℤ (dot (scale j b.iterators) y +ℤ (dot (zeros w.source_part) l +ℤ (dot (zeros w.target_part) m
    +ℤ (dot f u +ℤ (dot g v +ℤ dot (combined i a.parameters j b.parameters ++ c ∷ []) (n ++ pos 1 ∷ []))))))
    = dot_columns w _ _ _ _ _ _ (combined i a.parameters j b.parameters ++ c ∷ []) x y l m u v (n ++ pos 1 ∷ []) sizes at in
    let source : dot (scale i a.iterators) x ≡ i *ℤ dot a.iterators x = dot_scale i a.iterators x in
    let target : dot (scale j b.iterators) y ≡ j *ℤ dot b.iterators y = dot_scale j b.iterators y in
    let left = mul_four i (dot a.iterators x) (dot a.floors r) (dot a.parameters n) a.constant in
    let right = mul_four j (dot b.iterators y) (dot b.floors s) (dot b.parameters n) b.constant in
    let fs = floors.source_value in
    let gs = floors.target_value in
    omega (arith, ints, mul_one_z c, dot_zeros w.source_part l, dot_zeros w.target_part m)

dot_nothing : (a : List ℤ) → dot a [] ≡ pos 0
dot_nothing [] = refl
dot_nothing (c ∷ a) = refl

-- the row of two subscripts holds exactly where they are equal
pub subscripts_meet : (w : Widths) (a b : Affine) (x y l m u v n : List ℤ) → HasWidths w x y l m u v
    → HasSizes w.source 0 (length n) a → HasSizes w.target 0 (length n) b
    → Meets Equal (dot (subscript_row w a b).entries (in_columns x y l m u v (n ++ pos 1 ∷ []))) ↔ (affine_at a x [] n ≡ affine_at b y [] n)
subscripts_meet w a b x y l m u v n at sa sb =
    let floors : Floors w (pos 1) (negsuc 0) (zeros w.source_floors) (zeros w.target_floors) a b u v [] [] = record {
      source_is = length_zeros w.source_floors;
      target_is = length_zeros w.target_floors;
      source_value = omega (arith, ints, dot_zeros w.source_floors u, dot_nothing a.floors);
      target_value = omega (arith, ints, dot_zeros w.target_floors v, dot_nothing b.floors);
    } in
    let value = summed_value w (pos 1) (negsuc 0) (pos 0) _ _ a b x y l m u v n [] [] at sa.iterators_are sb.iterators_are sa.parameters_are sb.parameters_are floors in
    (λ h. omega (arith, ints), λ h. omega (arith, ints))

pub level_floors : (w : Widths) (i j : ℤ) (a b : Affine) (u v : List ℤ) → length a.floors ≡ w.source_floors → length b.floors ≡ w.target_floors
    → Floors w i j (scale i a.floors) (scale j b.floors) a b u v u v
level_floors w i j a b u v e f = record {
  source_is = length_scale i a.floors ∙ e;
  target_is = length_scale j b.floors ∙ f;
  source_value = dot_scale i a.floors u;
  target_value = dot_scale j b.floors v;
}

-- the row of two equal levels
pub levels_meet : (w : Widths) (a b : Affine) (x y l m u v n : List ℤ) → HasWidths w x y l m u v
    → HasSizes w.source w.source_floors (length n) a → HasSizes w.target w.target_floors (length n) b
    → Meets Equal (dot (equal_row w a b).entries (in_columns x y l m u v (n ++ pos 1 ∷ []))) ↔ (affine_at a x u n ≡ affine_at b y v n)
levels_meet w a b x y l m u v n at sa sb =
    let value = summed_value w (pos 1) (negsuc 0) (pos 0) _ _ a b x y l m u v n u v at sa.iterators_are sb.iterators_are sa.parameters_are sb.parameters_are
    (level_floors w (pos 1) (negsuc 0) a b u v sa.floors_are sb.floors_are) in
    (λ h. omega (arith, ints), λ h. omega (arith, ints))

-- the row of a level that is less in the source
pub less_meets : (w : Widths) (a b : Affine) (x y l m u v n : List ℤ) → HasWidths w x y l m u v
    → HasSizes w.source w.source_floors (length n) a → HasSizes w.target w.target_floors (length n) b
    → Meets AtLeast (dot (less_row w a b).entries (in_columns x y l m u v (n ++ pos 1 ∷ []))) ↔ (affine_at a x u n <ℤ affine_at b y v n)
less_meets w a b x y l m u v n at sa sb =
    let value = summed_value w (negsuc 0) (pos 1) (negsuc 0) _ _ a b x y l m u v n u v at sa.iterators_are sb.iterators_are sa.parameters_are sb.parameters_are
    (level_floors w (negsuc 0) (pos 1) a b u v sa.floors_are sb.floors_are) in
    (λ h. omega (arith, ints), λ h. omega (arith, ints))

-- a row that compares two values is as wide as the system
floor_columns_length : (c : Comparison) (floors : ℕ) (factor : ℤ) (value : Affine) → length value.floors ≡ floor_count c floors → length (floor_columns c floors factor value) ≡ floors
floor_columns_length Subscripts floors factor value e = length_zeros floors
floor_columns_length EqualLevels floors factor value e = length_scale factor value.floors ∙ e
floor_columns_length LessLevels floors factor value e = length_scale factor value.floors ∙ e
floor_columns_length GreaterLevels floors factor value e = length_scale factor value.floors ∙ e

pub comparison_length : (c : Comparison) (w : Widths) (parameters : ℕ) (a b : Affine) → Compares c w parameters a b → length (entries_for c w a b) ≡ width (shape_with w parameters)
comparison_length c w parameters a b h =
    let i = factor_of (is_turned c) in
    let j = factor_of (not (is_turned c)) in
    let k = ((i *ℤ a.constant) +ℤ (j *ℤ b.constant)) +ℤ added c in
    let f = floor_columns c w.source_floors i a in
    let g = floor_columns c w.target_floors j b in
    let sizes : HasWidths w (scale i a.iterators) (scale j b.iterators) (zeros w.source_part) (zeros w.target_part) f g = record {
      source_is = length_scale i a.iterators ∙ h.source.iterators_are;
      target_is = length_scale j b.iterators ∙ h.target.iterators_are;
      source_part_is = length_zeros w.source_part;
      target_part_is = length_zeros w.target_part;
      source_floors_is = floor_columns_length c w.source_floors i a h.source.floors_are;
      target_floors_is = floor_columns_length c w.target_floors j b h.target.floors_are;
    } in
    let rest : length (combined i a.parameters j b.parameters ++ k ∷ []) ≡ parameters + 1
    = length-append (combined i a.parameters j b.parameters) (k ∷ []) ∙ ap (λ z. z + 1) (length_combined i a.parameters j b.parameters (h.source.parameters_are ∙ sym h.target.parameters_are) ∙ h.source.parameters_are) in
    columns_length w _ _ _ _ f g (combined i a.parameters j b.parameters ++ k ∷ []) sizes ∙ omega (arith, rest)
