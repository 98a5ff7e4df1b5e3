-- A part made of the rows of values and of floors gives these values and floors.
use Rattle.std.proofs.Common.{◌≡◌, inl, inr, ℕ, zero, suc, ◌+◌, ◌<◌, ◌≤◌, Bool, true, false, List, [], ◌∷◌, ◌++◌, length, get_or, map, ℤ, pos, negsuc, ◌+ℤ◌, neg_ℤ, ◌≤ℤ◌, refl, ap, sym, ◌∙◌, subst, arith}
use Rattle.std.specs.Prelude.{slice_range, int_lt, int_le, All, if◌then◌else◌}
use Rattle.std.proofs.lemmas.Int.{ints}
use Rattle.std.proofs.lemmas.List.{length-map, length-replicate}
use Rattle.std.proofs.lemmas.List.Elements.{All-head, All-tail}
use Rattle.std.proofs.lemmas.Bool.Decides.{Decides-int_eq}
use Rattle.row_core.specs.Rows.{entry}
use Rattle.relation_core.specs.Systems.{System, columns}
use Rattle.relation_core.specs.declared.shapes.Shape.{Shape}
use Rattle.relation_core.specs.declared.part_rows.PartRow.{PartRow}
use Rattle.scop_data.specs.declared.affines.Affine.{Affine}
use Rattle.scop_data.specs.declared.schedules.Floor.{Floor}
use Rattle.scop_data.specs.SolvedRows.{zeros, with_columns, raised, value_row, value_rows, low_row, high_row, floor_rows, HasSizes}
use Rattle.schedule_forms.specs.SolvedForm.{local_column, are_formed, is_output_row, is_low_row, is_high_row, affine_of, cleared, are_opposite, is_pair, each_below, value_at, floor_at, high_row_of, has_output, has_floor}
use Rattle.scop_data.specs.SolvedData.{UsesEarlier}
use Rattle.schedule_forms.proofs.SolvedShapes.{both}
use Rattle.schedule_forms.proofs.ReadBackLists.{true_if, and_true, raised_here, raised_other, length_raised, cleared_raised, negative_entry, weight_zeros, opposite, opposite_append, opposite_zeros, Nowhere, Only, only_counted, only_first, only_left, only_right}
use Rattle.schedule_forms.proofs.ReadBackRows.{Fits, Leads, affine_piece, constant_piece, before_constant, cleared_piece, value_fits, value_formed, value_entry, value_here, value_other, entry_here, low_here, low_other, high_here, high_other, bound_formed}

-- a floor of a part of this shape, at place k
pub record FloorFits (shape : Shape) (k : ℕ) (floor : Floor) : Type 0 where
  pub within : k < shape.locals
  pub sizes : HasSizes shape.inputs shape.locals shape.parameters floor.value
  pub size : pos 1 ≤ℤ floor.size
  pub earlier : UsesEarlier k floor

-- floors from place k on
abbrev pub FloorsFit : Shape → ℕ → List Floor → Type 0
FloorsFit shape k [] = Unit {0}
FloorsFit shape k (floor ∷ floors) = FloorFits shape k floor × FloorsFit shape (k + 1) floors

-- the part of these values and floors
abbrev pub rows_part : Shape → List Affine → List Floor → System
rows_part shape values floors = record { shape = shape; rows = value_rows shape 0 values ++ floor_rows shape 0 floors }

abbrev low_list : ℕ → Floor → List ℤ
low_list k floor = raised floor.value.floors k (neg_ℤ floor.size)

own_zero : (shape : Shape) (k : ℕ) (floor : Floor) → FloorFits shape k floor → entry floor.value.floors k ≡ pos 0
own_zero shape k floor fit = fit.earlier k (omega arith)

within_floors : (shape : Shape) (k : ℕ) (floor : Floor) → FloorFits shape k floor → k < length floor.value.floors
within_floors shape k floor fit = omega (arith, fit.within, fit.sizes.floors_are)

low_fits : (shape : Shape) (k : ℕ) (floor : Floor) → FloorFits shape k floor
    → Fits shape (zeros shape.outputs) floor.value.iterators (low_list k floor) floor.value.parameters
low_fits shape k floor fit = record {
  outputs_are = length-replicate shape.outputs (pos 0);
  iterators_are = fit.sizes.iterators_are;
  floors_are = length_raised floor.value.floors k (neg_ℤ floor.size) (within_floors shape k floor fit) ∙ fit.sizes.floors_are;
  parameters_are = fit.sizes.parameters_are;
}

plain_fits : (shape : Shape) (k : ℕ) (floor : Floor) → FloorFits shape k floor
    → Fits shape (zeros shape.outputs) floor.value.iterators floor.value.floors floor.value.parameters
plain_fits shape k floor fit = record {
  outputs_are = length-replicate shape.outputs (pos 0);
  iterators_are = fit.sizes.iterators_are;
  floors_are = fit.sizes.floors_are;
  parameters_are = fit.sizes.parameters_are;
}

high_fits : (shape : Shape) (k : ℕ) (floor : Floor) → FloorFits shape k floor
    → Fits shape (zeros shape.outputs) (map neg_ℤ floor.value.iterators) (map neg_ℤ (low_list k floor)) (map neg_ℤ floor.value.parameters)
high_fits shape k floor fit = record {
  outputs_are = length-replicate shape.outputs (pos 0);
  iterators_are = length-map floor.value.iterators neg_ℤ ∙ fit.sizes.iterators_are;
  floors_are = length-map (low_list k floor) neg_ℤ ∙ (low_fits shape k floor fit).floors_are;
  parameters_are = length-map floor.value.parameters neg_ℤ ∙ fit.sizes.parameters_are;
}

low_leads : (shape : Shape) (k : ℕ) (floor : Floor) → FloorFits shape k floor → Leads (low_list k floor) k (neg_ℤ floor.size)
low_leads shape k floor fit =
    let within = within_floors shape k floor fit in
    let big = fit.size in
    record {
      here = raised_here floor.value.floors k (neg_ℤ floor.size) within ∙ (ap (λ z. z +ℤ neg_ℤ floor.size) (own_zero shape k floor fit) ∙ omega (arith, ints));
      later = λ j h. raised_other floor.value.floors k (neg_ℤ floor.size) j within (λ e. omega arith) ∙ fit.earlier j (omega arith);
      some = omega (arith, ints);
    }

high_leads : (shape : Shape) (k : ℕ) (floor : Floor) → FloorFits shape k floor → Leads (map neg_ℤ (low_list k floor)) k floor.size
high_leads shape k floor fit =
    let low = low_leads shape k floor fit in
    let big = fit.size in
    record {
      here = negative_entry (low_list k floor) k ∙ (ap neg_ℤ low.here ∙ omega (arith, ints));
      later = λ j h. negative_entry (low_list k floor) j ∙ ap neg_ℤ (low.later j h);
      some = omega (arith, ints);
    }

-- the values
values_formed : (shape : Shape) (k : ℕ) (values : List Affine) → k + length values ≤ shape.outputs
    → All (HasSizes shape.inputs shape.locals shape.parameters) values → are_formed shape (value_rows shape k values) ≡ true
values_formed shape k [] h sizes = refl
values_formed shape k (v ∷ values) h sizes =
    and_true _ _ (value_formed shape k v (omega arith) (All-head (HasSizes shape.inputs shape.locals shape.parameters) v values sizes))
    (values_formed shape (k + 1) values (omega arith) (All-tail (HasSizes shape.inputs shape.locals shape.parameters) v values sizes))

values_nowhere : (shape : Shape) (k t : ℕ) (values : List Affine) → t < k → k + length values ≤ shape.outputs
    → All (HasSizes shape.inputs shape.locals shape.parameters) values → Nowhere (is_output_row t) (value_rows shape k values)
values_nowhere shape k t [] l h sizes = tt
values_nowhere shape k t (v ∷ values) l h sizes = (
  value_other shape k t v (omega arith) (omega arith) (λ e. omega arith) (All-head (HasSizes shape.inputs shape.locals shape.parameters) v values sizes),
  values_nowhere shape (k + 1) t values (omega arith) (omega arith) (All-tail (HasSizes shape.inputs shape.locals shape.parameters) v values sizes),
)

values_only : (shape : Shape) (k j t : ℕ) (values : List Affine) (d : Affine) → t ≡ k + j → j < length values → k + length values ≤ shape.outputs
    → All (HasSizes shape.inputs shape.locals shape.parameters) values
    → Only (is_output_row t) (value_rows shape k values) (value_row shape t (get_or values j d))
values_only shape k j t [] d e l h sizes = absurd (omega arith)
values_only shape k zero t (v ∷ values) d e l h sizes =
    let same : k ≡ t = omega arith in
    inl (
      subst (λ m. is_output_row m (value_row shape k v) ≡ true) same (value_here shape k v (omega arith) (All-head (HasSizes shape.inputs shape.locals shape.parameters) v values sizes)),
      ap (λ m. value_row shape m v) same,
      values_nowhere shape (k + 1) t values (omega arith) (omega arith) (All-tail (HasSizes shape.inputs shape.locals shape.parameters) v values sizes),
    )
values_only shape k (suc j) t (v ∷ values) d e l h sizes =
    inr (
      value_other shape k t v (omega arith) (omega arith) (λ f. omega arith) (All-head (HasSizes shape.inputs shape.locals shape.parameters) v values sizes),
      values_only shape (k + 1) j t values d (omega arith) (omega arith) (omega arith) (All-tail (HasSizes shape.inputs shape.locals shape.parameters) v values sizes),
    )

values_low : (shape : Shape) (k t : ℕ) (values : List Affine) → Nowhere (is_low_row shape t) (value_rows shape k values)
values_low shape k t [] = tt
values_low shape k t (v ∷ values) = (refl, values_low shape (k + 1) t values)

values_high : (shape : Shape) (k t : ℕ) (values : List Affine) → Nowhere (is_high_row shape t) (value_rows shape k values)
values_high shape k t [] = tt
values_high shape k t (v ∷ values) = (refl, values_high shape (k + 1) t values)

-- the floors
floors_output : (shape : Shape) (k t : ℕ) (floors : List Floor) → Nowhere (is_output_row t) (floor_rows shape k floors)
floors_output shape k t [] = tt
floors_output shape k t (floor ∷ floors) = (refl, (refl, floors_output shape (k + 1) t floors))

floors_formed : (shape : Shape) (k : ℕ) (floors : List Floor) → FloorsFit shape k floors → are_formed shape (floor_rows shape k floors) ≡ true
floors_formed shape k [] fits = refl
floors_formed shape k (floor ∷ floors) fits =
    and_true _ _ (bound_formed shape _ _ _ _ _ k _ (low_fits shape k floor fits.0) (low_leads shape k floor fits.0) (weight_zeros shape.outputs))
    (and_true _ _ (bound_formed shape _ _ _ _ _ k _ (high_fits shape k floor fits.0) (high_leads shape k floor fits.0) (weight_zeros shape.outputs))
    (floors_formed shape (k + 1) floors fits.1))

low_row_here : (shape : Shape) (k : ℕ) (floor : Floor) → FloorFits shape k floor → is_low_row shape k (low_row shape k floor) ≡ true
low_row_here shape k floor fit =
    let big = fit.size in
    low_here shape _ _ _ _ _ k (neg_ℤ floor.size) (low_fits shape k floor fit) (low_leads shape k floor fit) fit.within (omega (arith, ints))

high_row_here : (shape : Shape) (k : ℕ) (floor : Floor) → FloorFits shape k floor → is_high_row shape k (high_row shape k floor) ≡ true
high_row_here shape k floor fit =
    let big = fit.size in
    high_here shape _ _ _ _ _ k floor.size (high_fits shape k floor fit) (high_leads shape k floor fit) fit.within (omega (arith, ints))

low_row_other : (shape : Shape) (k t : ℕ) (floor : Floor) → FloorFits shape k floor → t < shape.locals → (t ≡ k → ⊥) → is_low_row shape t (low_row shape k floor) ≡ false
low_row_other shape k t floor fit h d =
    low_other shape _ _ _ _ _ k t (neg_ℤ floor.size) (low_fits shape k floor fit) (low_leads shape k floor fit) h (λ e. absurd (d e))

high_row_other : (shape : Shape) (k t : ℕ) (floor : Floor) → FloorFits shape k floor → t < shape.locals → (t ≡ k → ⊥) → is_high_row shape t (high_row shape k floor) ≡ false
high_row_other shape k t floor fit h d =
    high_other shape _ _ _ _ _ k t floor.size (high_fits shape k floor fit) (high_leads shape k floor fit) h (λ e. absurd (d e))

high_is_not_low : (shape : Shape) (k t : ℕ) (floor : Floor) → FloorFits shape k floor → t < shape.locals → is_low_row shape t (high_row shape k floor) ≡ false
high_is_not_low shape k t floor fit h =
    let big = fit.size in
    low_other shape _ _ _ _ _ k t floor.size (high_fits shape k floor fit) (high_leads shape k floor fit) h (λ e. omega (arith, ints))

low_is_not_high : (shape : Shape) (k t : ℕ) (floor : Floor) → FloorFits shape k floor → t < shape.locals → is_high_row shape t (low_row shape k floor) ≡ false
low_is_not_high shape k t floor fit h =
    let big = fit.size in
    high_other shape _ _ _ _ _ k t (neg_ℤ floor.size) (low_fits shape k floor fit) (low_leads shape k floor fit) h (λ e. omega (arith, ints))

floors_low_nowhere : (shape : Shape) (k t : ℕ) (floors : List Floor) → t < k → t < shape.locals → FloorsFit shape k floors → Nowhere (is_low_row shape t) (floor_rows shape k floors)
floors_low_nowhere shape k t [] l h fits = tt
floors_low_nowhere shape k t (floor ∷ floors) l h fits =
    (low_row_other shape k t floor fits.0 h (λ e. omega arith), (high_is_not_low shape k t floor fits.0 h, floors_low_nowhere shape (k + 1) t floors (omega arith) h fits.1))

floors_high_nowhere : (shape : Shape) (k t : ℕ) (floors : List Floor) → t < k → t < shape.locals → FloorsFit shape k floors → Nowhere (is_high_row shape t) (floor_rows shape k floors)
floors_high_nowhere shape k t [] l h fits = tt
floors_high_nowhere shape k t (floor ∷ floors) l h fits =
    (low_is_not_high shape k t floor fits.0 h, (high_row_other shape k t floor fits.0 h (λ e. omega arith), floors_high_nowhere shape (k + 1) t floors (omega arith) h fits.1))

floors_low : (shape : Shape) (k j t : ℕ) (floors : List Floor) (d : Floor) → t ≡ k + j → j < length floors → t < shape.locals → FloorsFit shape k floors
    → Only (is_low_row shape t) (floor_rows shape k floors) (low_row shape t (get_or floors j d))
floors_low shape k j t [] d e l h fits = absurd (omega arith)
floors_low shape k zero t (floor ∷ floors) d e l h fits =
    let same : k ≡ t = omega arith in
    inl (
      subst (λ m. is_low_row shape m (low_row shape k floor) ≡ true) same (low_row_here shape k floor fits.0),
      ap (λ m. low_row shape m floor) same,
      (high_is_not_low shape k t floor fits.0 h, floors_low_nowhere shape (k + 1) t floors (omega arith) h fits.1),
    )
floors_low shape k (suc j) t (floor ∷ floors) d e l h fits =
    inr (
      low_row_other shape k t floor fits.0 h (λ f. omega arith),
      inr (high_is_not_low shape k t floor fits.0 h, floors_low shape (k + 1) j t floors d (omega arith) (omega arith) h fits.1),
    )

floors_high : (shape : Shape) (k j t : ℕ) (floors : List Floor) (d : Floor) → t ≡ k + j → j < length floors → t < shape.locals → FloorsFit shape k floors
    → Only (is_high_row shape t) (floor_rows shape k floors) (high_row shape t (get_or floors j d))
floors_high shape k j t [] d e l h fits = absurd (omega arith)
floors_high shape k zero t (floor ∷ floors) d e l h fits =
    let same : k ≡ t = omega arith in
    inr (
      low_is_not_high shape k t floor fits.0 h,
      inl (
        subst (λ m. is_high_row shape m (high_row shape k floor) ≡ true) same (high_row_here shape k floor fits.0),
        ap (λ m. high_row shape m floor) same,
        floors_high_nowhere shape (k + 1) t floors (omega arith) h fits.1,
      ),
    )
floors_high shape k (suc j) t (floor ∷ floors) d e l h fits =
    inr (
      low_is_not_high shape k t floor fits.0 h,
      inr (high_row_other shape k t floor fits.0 h (λ f. omega arith), floors_high shape (k + 1) j t floors d (omega arith) (omega arith) h fits.1),
    )

fit_at : (shape : Shape) (k j t : ℕ) (floors : List Floor) (d : Floor) → t ≡ k + j → j < length floors → FloorsFit shape k floors → FloorFits shape t (get_or floors j d)
fit_at shape k j t [] d e l fits = absurd (omega arith)
fit_at shape k zero t (floor ∷ floors) d e l fits = let same : k ≡ t = omega arith in subst (λ m. FloorFits shape m floor) same fits.0
fit_at shape k (suc j) t (floor ∷ floors) d e l fits = fit_at shape (k + 1) j t floors d (omega arith) (omega arith) fits.1

-- the two rows of a floor belong together
pair_of_rows : (shape : Shape) (k : ℕ) (floor : Floor) → FloorFits shape k floor
    → is_pair shape floor.size (low_row shape k floor).entries (high_row shape k floor).entries ≡ true
pair_of_rows shape k floor fit =
    let big = fit.size in
    let low = low_fits shape k floor fit in
    let high = high_fits shape k floor fit in
    let i = floor.value.iterators in
    let p = floor.value.parameters in
    let f = low_list k floor in
    let o = zeros shape.outputs in
    let front : are_opposite (o ++ map neg_ℤ i) (o ++ i) ≡ true = opposite_append o o (map neg_ℤ i) i (opposite_zeros shape.outputs) (opposite i) in
    let most : are_opposite ((o ++ map neg_ℤ i) ++ map neg_ℤ f) ((o ++ i) ++ f) ≡ true = opposite_append (o ++ map neg_ℤ i) (o ++ i) (map neg_ℤ f) f front (opposite f) in
    let opp : are_opposite (((o ++ map neg_ℤ i) ++ map neg_ℤ f) ++ map neg_ℤ p) (((o ++ i) ++ f) ++ p) ≡ true
    = opposite_append ((o ++ map neg_ℤ i) ++ map neg_ℤ f) ((o ++ i) ++ f) (map neg_ℤ p) p most (opposite p) in
    and_true _ _
    (and_true _ _ (true_if (int_le (pos 1) floor.size) (λ e. omega (arith, ints)))
    (ap (λ r. are_opposite r (slice_range (low_row shape k floor).entries 0 (columns shape))) (before_constant shape o (map neg_ℤ i) (map neg_ℤ f) (map neg_ℤ p) _ high)
    ∙ (ap (λ r. are_opposite (((o ++ map neg_ℤ i) ++ map neg_ℤ f) ++ map neg_ℤ p) r) (before_constant shape o i f p _ low)
    ∙ opp)))
    ((Decides-int_eq _ _).1 (constant_piece shape o (map neg_ℤ i) (map neg_ℤ f) (map neg_ℤ p) _ high ∙ ap (λ z. (neg_ℤ z +ℤ floor.size) +ℤ negsuc 0) (sym (constant_piece shape o i f p _ low))))

value_of_row : (shape : Shape) (k : ℕ) (floor : Floor) → FloorFits shape k floor → affine_of shape (cleared (low_row shape k floor).entries (local_column shape k)) ≡ floor.value
value_of_row shape k floor fit =
    ap (λ r. affine_of shape r)
    (cleared_piece shape (zeros shape.outputs) floor.value.iterators (low_list k floor) floor.value.parameters floor.value.constant k (low_fits shape k floor fit) fit.within
    ∙ ap (λ f. with_columns (zeros shape.outputs) floor.value.iterators f floor.value.parameters floor.value.constant)
    (cleared_raised floor.value.floors k (neg_ℤ floor.size) (within_floors shape k floor fit) (own_zero shape k floor fit)))
    ∙ affine_piece shape (zeros shape.outputs) floor.value.iterators floor.value.floors floor.value.parameters floor.value.constant (plain_fits shape k floor fit)

size_of_row : (shape : Shape) (k : ℕ) (floor : Floor) → FloorFits shape k floor → neg_ℤ (entry (low_row shape k floor).entries (local_column shape k)) ≡ floor.size
size_of_row shape k floor fit =
    ap neg_ℤ (entry_here shape _ _ _ _ _ k (neg_ℤ floor.size) (low_fits shape k floor fit) (low_leads shape k floor fit) fit.within) ∙ omega (arith, ints)

-- what the part gives
pub record Gives (part : System) (values : List Affine) (floors : List Floor) : Type 0 where
  pub formed : are_formed part.shape part.rows ≡ true
  pub outputs : each_below (has_output part) part.shape.outputs ≡ true
  pub locals : each_below (has_floor part) part.shape.locals ≡ true
  pub value_is : (k : ℕ) (d : Affine) → k < length values → value_at part k ≡ get_or values k d
  pub floor_is : (k : ℕ) (d : Floor) → k < length floors → floor_at part k ≡ get_or floors k d

pub each_if : (test : ℕ → Bool) (n : ℕ) → ((k : ℕ) → k < n → test k ≡ true) → each_below test n ≡ true
each_if test zero h = refl
each_if test (suc n) h = and_true _ _ (each_if test n (λ k l. h k (omega arith))) (h n (omega arith))

formed_append : (shape : Shape) (a b : List PartRow) → are_formed shape a ≡ true → are_formed shape b ≡ true → are_formed shape (a ++ b) ≡ true
formed_append shape [] b h g = g
formed_append shape (row ∷ a) b h g = let p = both _ _ h in and_true _ _ p.0 (formed_append shape a b p.1 g)

abbrev pub value_in : Shape → ℕ → PartRow → Affine
value_in shape k row = affine_of shape (if int_lt (pos 0) (entry row.entries k) then map neg_ℤ row.entries else row.entries)

value_in_row : (shape : Shape) (k : ℕ) (v : Affine) → k < shape.outputs → HasSizes shape.inputs shape.locals shape.parameters v
    → value_in shape k (value_row shape k v) ≡ v
value_in_row shape k v h sizes =
    ap (λ z. affine_of shape (if int_lt (pos 0) z then map neg_ℤ (value_row shape k v).entries else (value_row shape k v).entries)) (value_entry shape k v h sizes)
    ∙ affine_piece shape _ v.iterators v.floors v.parameters v.constant (value_fits shape k v h sizes)

abbrev floor_in : Shape → ℕ → PartRow → Floor
floor_in shape k row = record { value = affine_of shape (cleared row.entries (local_column shape k)); size = neg_ℤ (entry row.entries (local_column shape k)) }

floor_in_row : (shape : Shape) (k : ℕ) (floor : Floor) → FloorFits shape k floor → floor_in shape k (low_row shape k floor) ≡ floor
floor_in_row shape k floor fit =
    let made : Affine → ℤ → Floor = λ v s. record { value = v; size = s } in
    ap (λ v. made v (neg_ℤ (entry (low_row shape k floor).entries (local_column shape k)))) (value_of_row shape k floor fit)
    ∙ ap (λ s. made floor.value s) (size_of_row shape k floor fit)

pub gives : (shape : Shape) (values : List Affine) (floors : List Floor) → length values ≡ shape.outputs → length floors ≡ shape.locals
    → All (HasSizes shape.inputs shape.locals shape.parameters) values → FloorsFit shape 0 floors → Gives (rows_part shape values floors) values floors
gives shape values floors ev ef sizes fits = record {
  formed = formed_append shape _ _ (values_formed shape 0 values (omega arith) sizes) (floors_formed shape 0 floors fits);
  outputs = each_if _ shape.outputs (λ k h. only_counted _ rows _ (output k none h));
  locals = each_if _ shape.locals has;
  value_is = value_is;
  floor_is = floor_is;
}
  where
    rows : List PartRow
    rows = value_rows shape 0 values ++ floor_rows shape 0 floors

    none : Affine
    none = record { iterators = []; floors = []; parameters = []; constant = pos 0 }

    no_floor : Floor
    no_floor = record { value = record { iterators = []; floors = []; parameters = []; constant = pos 0 }; size = pos 0 }

    output : (k : ℕ) (d : Affine) → k < shape.outputs → Only (is_output_row k) (value_rows shape 0 values ++ floor_rows shape 0 floors) (value_row shape k (get_or values k d))
    output k d h = only_left _ _ _ _ (values_only shape 0 k k values d (omega arith) (omega arith) (omega arith) sizes) (floors_output shape 0 k floors)

    low : (k : ℕ) (d : Floor) → k < shape.locals → Only (is_low_row shape k) (value_rows shape 0 values ++ floor_rows shape 0 floors) (low_row shape k (get_or floors k d))
    low k d h = only_right _ _ _ _ (values_low shape 0 k values) (floors_low shape 0 k k floors d (omega arith) (omega arith) h fits)

    high : (k : ℕ) (d : Floor) → k < shape.locals → Only (is_high_row shape k) (value_rows shape 0 values ++ floor_rows shape 0 floors) (high_row shape k (get_or floors k d))
    high k d h = only_right _ _ _ _ (values_high shape 0 k values) (floors_high shape 0 k k floors d (omega arith) (omega arith) h fits)

    value_is : (k : ℕ) (d : Affine) → k < length values → value_at (rows_part shape values floors) k ≡ get_or values k d
    value_is k d h =
        ap (λ row. value_in shape k row) (only_first _ _ _ (output k d (omega arith)))
        ∙ value_in_row shape k (get_or values k d) (omega arith) (sizes k d h)

    floor_is : (k : ℕ) (d : Floor) → k < length floors → floor_at (rows_part shape values floors) k ≡ get_or floors k d
    floor_is k d h =
        ap (λ row. floor_in shape k row) (only_first _ _ _ (low k d (omega arith)))
        ∙ floor_in_row shape k (get_or floors k d) (fit_at shape 0 k k floors d (omega arith) h fits)

    has : (k : ℕ) → k < shape.locals → has_floor (rows_part shape values floors) k ≡ true
    has k h =
        let floor = get_or floors k no_floor in
        let fit = fit_at shape 0 k k floors no_floor (omega arith) (omega arith) fits in
        let l = low k no_floor h in
        let u = high k no_floor h in
        and_true _ _ (and_true _ _ (only_counted _ _ _ l) (only_counted _ _ _ u))
        (ap (λ row. is_pair shape (neg_ℤ (entry row.entries (local_column shape k))) row.entries (high_row_of (rows_part shape values floors) k).entries) (only_first _ _ _ l)
        ∙ (ap (λ row. is_pair shape (neg_ℤ (entry (low_row shape k floor).entries (local_column shape k))) (low_row shape k floor).entries row.entries) (only_first _ _ _ u)
        ∙ (ap (λ s. is_pair shape s (low_row shape k floor).entries (high_row shape k floor).entries) (size_of_row shape k floor fit)
        ∙ pair_of_rows shape k floor fit)))
