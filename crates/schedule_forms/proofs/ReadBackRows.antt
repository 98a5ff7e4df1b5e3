-- The tests of the solved form on rows that are given in pieces.
use Rattle.std.proofs.Common.{◌≡◌, ◌⊎◌, inl, inr, ℕ, zero, ◌+◌, ◌-◌, ◌<◌, ◌≤◌, Bool, true, false, ◌&&◌, List, [], ◌∷◌, ◌++◌, length, drop, ℤ, pos, negsuc, ◌<ℤ◌, unsigned_abs, refl, ap, sym, ◌∙◌, arith, append_assoc}
use Rattle.std.specs.Prelude.{slice_range, ◌==◌, int_lt, not}
use Rattle.std.proofs.lemmas.Int.{ints}
use Rattle.std.proofs.lemmas.List.{length-append, get_or_append_left, get_or-drop}
use Rattle.row_core.specs.Rows.{entry}
use Rattle.relation_core.specs.Systems.{columns}
use Rattle.relation_core.specs.declared.shapes.Shape.{Shape}
use Rattle.relation_core.specs.declared.part_rows.PartRow.{PartRow}
use Rattle.relation_core.specs.declared.part_rows.RowKind.TheVariants.{AtLeast}
use Rattle.scop_data.specs.declared.affines.Affine.{Affine}
use Rattle.scop_data.specs.SolvedRows.{unit, with_columns, value_row, HasSizes}
use Rattle.schedule_forms.specs.SolvedForm.{weight, outputs_of, local_column, locals_from, is_formed, is_output_row, is_local_row, is_low_row, is_high_row, affine_of, cleared}
use Rattle.schedule_forms.proofs.ReadBackLists.{true_if, false_if, and_true, and_false, same_number, other_number, apart, middle, middle_from, middle_entry, cleared_middle, entry_weight, weightless, weight_unit, length_unit, entry_unit, entry_unit_other}

-- pieces of the sizes of a shape
pub record Fits (shape : Shape) (o i f p : List ℤ) : Type 0 where
  pub outputs_are : length o ≡ shape.outputs
  pub iterators_are : length i ≡ shape.inputs
  pub floors_are : length f ≡ shape.locals
  pub parameters_are : length p ≡ shape.parameters

abbrev affine : List ℤ → List ℤ → List ℤ → ℤ → Affine
affine i f p c = record { iterators = i; floors = f; parameters = p; constant = c }

same_affine : (i i' f f' p p' : List ℤ) (c c' : ℤ) → i ≡ i' → f ≡ f' → p ≡ p' → c ≡ c' → affine i f p c ≡ affine i' f' p' c'
same_affine i i' f f' p p' c c' ei ef ep ec =
    ap (λ x. affine x f p c) ei ∙ (ap (λ x. affine i' x p c) ef ∙ (ap (λ x. affine i' f' x c) ep ∙ ap (λ x. affine i' f' p' x) ec))

third : (o i f p : List ℤ) (c : ℤ) → with_columns o i f p c ≡ ((o ++ i) ++ f) ++ (p ++ c ∷ [])
third o i f p c = append_assoc ((o ++ i) ++ f) p (c ∷ [])

second : (o i f p : List ℤ) (c : ℤ) → with_columns o i f p c ≡ (o ++ i) ++ (f ++ (p ++ c ∷ []))
second o i f p c = third o i f p c ∙ append_assoc (o ++ i) f (p ++ c ∷ [])

pub first : (o i f p : List ℤ) (c : ℤ) → with_columns o i f p c ≡ o ++ (i ++ (f ++ (p ++ c ∷ [])))
first o i f p c = second o i f p c ∙ append_assoc o i (f ++ (p ++ c ∷ []))

pub outputs_piece : (shape : Shape) (o i f p : List ℤ) (c : ℤ) → Fits shape o i f p → outputs_of shape (with_columns o i f p c) ≡ o
outputs_piece shape o i f p c fits =
    let n : 0 + length o ≡ shape.outputs = omega (arith, fits.outputs_are) in
    ap (λ r. slice_range r 0 shape.outputs) (first o i f p c) ∙ middle [] o (i ++ (f ++ (p ++ c ∷ []))) 0 shape.outputs refl n

iterators_piece : (shape : Shape) (o i f p : List ℤ) (c : ℤ) → Fits shape o i f p
    → slice_range (with_columns o i f p c) shape.outputs (local_column shape 0) ≡ i
iterators_piece shape o i f p c fits =
    ap (λ r. slice_range r shape.outputs (local_column shape 0)) (first o i f p c)
    ∙ middle o i (f ++ (p ++ c ∷ [])) shape.outputs (local_column shape 0) fits.outputs_are (omega (arith, fits.iterators_are))

floors_piece : (shape : Shape) (o i f p : List ℤ) (c : ℤ) → Fits shape o i f p
    → slice_range (with_columns o i f p c) (local_column shape 0) (local_column shape shape.locals) ≡ f
floors_piece shape o i f p c fits =
    ap (λ r. slice_range r (local_column shape 0) (local_column shape shape.locals)) (second o i f p c)
    ∙ middle (o ++ i) f (p ++ c ∷ []) (local_column shape 0) (local_column shape shape.locals)
    (omega (arith, length-append o i, fits.outputs_are, fits.iterators_are)) (omega (arith, fits.floors_are))

parameters_piece : (shape : Shape) (o i f p : List ℤ) (c : ℤ) → Fits shape o i f p
    → slice_range (with_columns o i f p c) (local_column shape shape.locals) (columns shape) ≡ p
parameters_piece shape o i f p c fits =
    ap (λ r. slice_range r (local_column shape shape.locals) (columns shape)) (third o i f p c)
    ∙ middle ((o ++ i) ++ f) p (c ∷ []) (local_column shape shape.locals) (columns shape)
    (omega (arith, length-append (o ++ i) f, length-append o i, fits.outputs_are, fits.iterators_are, fits.floors_are)) (omega (arith, fits.parameters_are))

pub constant_piece : (shape : Shape) (o i f p : List ℤ) (c : ℤ) → Fits shape o i f p → entry (with_columns o i f p c) (columns shape) ≡ c
constant_piece shape o i f p c fits =
    middle_entry (((o ++ i) ++ f) ++ p) (c ∷ []) [] (columns shape) zero
    (omega (arith, length-append ((o ++ i) ++ f) p, length-append (o ++ i) f, length-append o i, fits.outputs_are, fits.iterators_are, fits.floors_are, fits.parameters_are)) (omega arith)

pub affine_piece : (shape : Shape) (o i f p : List ℤ) (c : ℤ) → Fits shape o i f p → affine_of shape (with_columns o i f p c) ≡ affine i f p c
affine_piece shape o i f p c fits =
    same_affine _ i _ f _ p _ c (iterators_piece shape o i f p c fits) (floors_piece shape o i f p c fits)
    (parameters_piece shape o i f p c fits) (constant_piece shape o i f p c fits)

pub locals_piece : (shape : Shape) (o i f p : List ℤ) (c : ℤ) (k : ℕ) → Fits shape o i f p → k ≤ shape.locals
    → locals_from shape k (with_columns o i f p c) ≡ drop k f
locals_piece shape o i f p c k fits h =
    ap (λ r. slice_range r (local_column shape k) (local_column shape shape.locals)) (second o i f p c)
    ∙ middle_from (o ++ i) f (p ++ c ∷ []) (local_column shape k) k (local_column shape shape.locals)
    (omega (arith, length-append o i, fits.outputs_are, fits.iterators_are)) (omega (arith, length-append o i, fits.outputs_are, fits.iterators_are, fits.floors_are)) (omega (arith, fits.floors_are))

pub output_entry : (shape : Shape) (o i f p : List ℤ) (c : ℤ) (k : ℕ) → Fits shape o i f p → k < shape.outputs
    → entry (with_columns o i f p c) k ≡ entry o k
output_entry shape o i f p c k fits h =
    ap (λ r. entry r k) (first o i f p c) ∙ get_or_append_left o (i ++ (f ++ (p ++ c ∷ []))) (pos 0) k (omega (arith, fits.outputs_are))

pub local_entry : (shape : Shape) (o i f p : List ℤ) (c : ℤ) (k : ℕ) → Fits shape o i f p → k < shape.locals
    → entry (with_columns o i f p c) (local_column shape k) ≡ entry f k
local_entry shape o i f p c k fits h =
    ap (λ r. entry r (local_column shape k)) (second o i f p c)
    ∙ middle_entry (o ++ i) f (p ++ c ∷ []) (local_column shape k) k (omega (arith, length-append o i, fits.outputs_are, fits.iterators_are)) (omega (arith, fits.floors_are))

pub before_constant : (shape : Shape) (o i f p : List ℤ) (c : ℤ) → Fits shape o i f p
    → slice_range (with_columns o i f p c) 0 (columns shape) ≡ ((o ++ i) ++ f) ++ p
before_constant shape o i f p c fits =
    let n : 0 + length (((o ++ i) ++ f) ++ p) ≡ columns shape
    = omega (arith, length-append ((o ++ i) ++ f) p, length-append (o ++ i) f, length-append o i, fits.outputs_are, fits.iterators_are, fits.floors_are, fits.parameters_are) in
    middle [] (((o ++ i) ++ f) ++ p) (c ∷ []) 0 (columns shape) refl n

pub cleared_piece : (shape : Shape) (o i f p : List ℤ) (c : ℤ) (k : ℕ) → Fits shape o i f p → k < shape.locals
    → cleared (with_columns o i f p c) (local_column shape k) ≡ with_columns o i (cleared f k) p c
cleared_piece shape o i f p c k fits h =
    ap (λ r. cleared r (local_column shape k)) (second o i f p c)
    ∙ (cleared_middle (o ++ i) f (p ++ c ∷ []) (local_column shape k) k (omega (arith, length-append o i, fits.outputs_are, fits.iterators_are)) (omega (arith, fits.floors_are))
    ∙ sym (second o i (cleared f k) p c))

pub value_fits : (shape : Shape) (k : ℕ) (v : Affine) → k < shape.outputs → HasSizes shape.inputs shape.locals shape.parameters v
    → Fits shape (unit shape.outputs k (negsuc 0)) v.iterators v.floors v.parameters
value_fits shape k v h sizes = record {
  outputs_are = length_unit shape.outputs k (negsuc 0) h;
  iterators_are = sizes.iterators_are;
  floors_are = sizes.floors_are;
  parameters_are = sizes.parameters_are;
}

pub value_formed : (shape : Shape) (k : ℕ) (v : Affine) → k < shape.outputs → HasSizes shape.inputs shape.locals shape.parameters v
    → is_formed shape (value_row shape k v) ≡ true
value_formed shape k v h sizes =
    same_number _ 1 (ap weight (outputs_piece shape _ v.iterators v.floors v.parameters v.constant (value_fits shape k v h sizes)) ∙ weight_unit shape.outputs k)

pub value_entry : (shape : Shape) (k : ℕ) (v : Affine) → k < shape.outputs → HasSizes shape.inputs shape.locals shape.parameters v
    → entry (value_row shape k v).entries k ≡ negsuc 0
value_entry shape k v h sizes =
    output_entry shape _ v.iterators v.floors v.parameters v.constant k (value_fits shape k v h sizes) h ∙ entry_unit shape.outputs k (negsuc 0)

pub value_here : (shape : Shape) (k : ℕ) (v : Affine) → k < shape.outputs → HasSizes shape.inputs shape.locals shape.parameters v
    → is_output_row k (value_row shape k v) ≡ true
value_here shape k v h sizes = ap (λ z. not (unsigned_abs z == 0)) (value_entry shape k v h sizes)

pub value_other : (shape : Shape) (k j : ℕ) (v : Affine) → k < shape.outputs → j < shape.outputs → (j ≡ k → ⊥)
    → HasSizes shape.inputs shape.locals shape.parameters v → is_output_row j (value_row shape k v) ≡ false
value_other shape k j v h g d sizes =
    ap (λ z. not (unsigned_abs z == 0))
    (output_entry shape _ v.iterators v.floors v.parameters v.constant j (value_fits shape k v h sizes) g ∙ entry_unit_other shape.outputs k j (negsuc 0) d)

-- the last coefficient of a list is z, at place k
pub record Leads (f : List ℤ) (k : ℕ) (z : ℤ) : Type 0 where
  pub here : entry f k ≡ z
  pub later : (j : ℕ) → k < j → entry f j ≡ pos 0
  pub some : 1 ≤ unsigned_abs z

abbrev bound : List ℤ → List ℤ → List ℤ → List ℤ → ℤ → PartRow
bound o i f p c = record { kind = AtLeast; entries = with_columns o i f p c }

nothing_later : (f : List ℤ) (k t : ℕ) (z : ℤ) → Leads f k z → k ≤ t → weight (drop (t + 1) f) ≡ 0
nothing_later f k t z lead h =
    weightless (drop (t + 1) f) (λ j. get_or-drop (t + 1) f j (pos 0) ∙ lead.later ((t + 1) + j) (omega arith))

something_later : (f : List ℤ) (k t : ℕ) (z : ℤ) → Leads f k z → t ≤ k → 1 ≤ weight (drop t f)
something_later f k t z lead h =
    let at : entry (drop t f) (k - t) ≡ z = get_or-drop t f (k - t) (pos 0) ∙ (ap (λ m. entry f m) (omega arith) ∙ lead.here) in
    let w : unsigned_abs (entry (drop t f) (k - t)) ≤ weight (drop t f) = entry_weight (drop t f) (k - t) in
    let e : unsigned_abs (entry (drop t f) (k - t)) ≡ unsigned_abs z = ap unsigned_abs at in
    omega (arith, lead.some)

pub local_yes : (shape : Shape) (o i f p : List ℤ) (c : ℤ) (k t : ℕ) (z : ℤ) → Fits shape o i f p → Leads f k z → t < shape.locals → k ≤ t
    → is_local_row shape t (bound o i f p c) ≡ true
local_yes shape o i f p c k t z fits lead h g =
    same_number _ 0 (ap weight (locals_piece shape o i f p c (t + 1) fits (omega arith)) ∙ nothing_later f k t z lead g)

local_no : (shape : Shape) (o i f p : List ℤ) (c : ℤ) (k t : ℕ) (z : ℤ) → Fits shape o i f p → Leads f k z → t < shape.locals → t < k
    → is_local_row shape t (bound o i f p c) ≡ false
local_no shape o i f p c k t z fits lead h g =
    let w : 1 ≤ weight (drop (t + 1) f) = something_later f k (t + 1) z lead (omega arith) in
    other_number _ 0 (λ e. omega (arith, e, ap weight (locals_piece shape o i f p c (t + 1) fits (omega arith))))

entry_later : (shape : Shape) (o i f p : List ℤ) (c : ℤ) (k t : ℕ) (z : ℤ) → Fits shape o i f p → Leads f k z → t < shape.locals → k < t
    → entry (with_columns o i f p c) (local_column shape t) ≡ pos 0
entry_later shape o i f p c k t z fits lead h g = local_entry shape o i f p c t fits h ∙ lead.later t g

pub entry_here : (shape : Shape) (o i f p : List ℤ) (c : ℤ) (k : ℕ) (z : ℤ) → Fits shape o i f p → Leads f k z → k < shape.locals
    → entry (with_columns o i f p c) (local_column shape k) ≡ z
entry_here shape o i f p c k z fits lead h = local_entry shape o i f p c k fits h ∙ lead.here

first_false : (a b : Bool) → a ≡ false → (a && b) ≡ false
first_false true b e = absurd (cc)
first_false false b e = refl

pub low_here : (shape : Shape) (o i f p : List ℤ) (c : ℤ) (k : ℕ) (z : ℤ) → Fits shape o i f p → Leads f k z → k < shape.locals → z <ℤ pos 0
    → is_low_row shape k (bound o i f p c) ≡ true
low_here shape o i f p c k z fits lead h negative =
    and_true _ _ (local_yes shape o i f p c k k z fits lead h (omega arith))
    (ap (λ y. int_lt y (pos 0)) (entry_here shape o i f p c k z fits lead h) ∙ true_if (int_lt z (pos 0)) (λ e. omega (arith, ints)))

pub high_here : (shape : Shape) (o i f p : List ℤ) (c : ℤ) (k : ℕ) (z : ℤ) → Fits shape o i f p → Leads f k z → k < shape.locals → pos 0 <ℤ z
    → is_high_row shape k (bound o i f p c) ≡ true
high_here shape o i f p c k z fits lead h positive =
    and_true _ _ (local_yes shape o i f p c k k z fits lead h (omega arith))
    (ap (λ y. int_lt (pos 0) y) (entry_here shape o i f p c k z fits lead h) ∙ true_if (int_lt (pos 0) z) (λ e. omega (arith, ints)))

pub low_other : (shape : Shape) (o i f p : List ℤ) (c : ℤ) (k t : ℕ) (z : ℤ) → Fits shape o i f p → Leads f k z → t < shape.locals → (t ≡ k → pos 0 <ℤ z)
    → is_low_row shape t (bound o i f p c) ≡ false
low_other shape o i f p c k t z fits lead h own = by (apart t k)
  where
    by : (t < k) ⊎ ((t ≡ k) ⊎ (k < t)) → is_low_row shape t (bound o i f p c) ≡ false
    by (inl g) = first_false _ _ (local_no shape o i f p c k t z fits lead h g)
    by (inr (inl e)) =
        let positive : pos 0 <ℤ z = own e in
        let is : entry (with_columns o i f p c) (local_column shape t) ≡ z = local_entry shape o i f p c t fits h ∙ (ap (λ m. entry f m) e ∙ lead.here) in
        and_false _ _ (ap (λ y. int_lt y (pos 0)) is ∙ false_if (int_lt z (pos 0)) (λ e. omega (arith, ints)))
    by (inr (inr g)) = and_false _ _ (ap (λ y. int_lt y (pos 0)) (entry_later shape o i f p c k t z fits lead h g))

pub high_other : (shape : Shape) (o i f p : List ℤ) (c : ℤ) (k t : ℕ) (z : ℤ) → Fits shape o i f p → Leads f k z → t < shape.locals → (t ≡ k → z <ℤ pos 0)
    → is_high_row shape t (bound o i f p c) ≡ false
high_other shape o i f p c k t z fits lead h own = by (apart t k)
  where
    by : (t < k) ⊎ ((t ≡ k) ⊎ (k < t)) → is_high_row shape t (bound o i f p c) ≡ false
    by (inl g) = first_false _ _ (local_no shape o i f p c k t z fits lead h g)
    by (inr (inl e)) =
        let negative : z <ℤ pos 0 = own e in
        let is : entry (with_columns o i f p c) (local_column shape t) ≡ z = local_entry shape o i f p c t fits h ∙ (ap (λ m. entry f m) e ∙ lead.here) in
        and_false _ _ (ap (λ y. int_lt (pos 0) y) is ∙ false_if (int_lt (pos 0) z) (λ e. omega (arith, ints)))
    by (inr (inr g)) = and_false _ _ (ap (λ y. int_lt (pos 0) y) (entry_later shape o i f p c k t z fits lead h g))

pub bound_formed : (shape : Shape) (o i f p : List ℤ) (c : ℤ) (k : ℕ) (z : ℤ) → Fits shape o i f p → Leads f k z → weight o ≡ 0
    → is_formed shape (bound o i f p c) ≡ true
bound_formed shape o i f p c k z fits lead none =
    let w : 1 ≤ weight (drop 0 f) = something_later f k 0 z lead (omega arith) in
    and_true _ _ (same_number _ 0 (ap weight (outputs_piece shape o i f p c fits) ∙ none))
    (ap not (other_number _ 0 (λ e. omega (arith, e, ap weight (locals_piece shape o i f p c 0 fits (omega arith))))))
