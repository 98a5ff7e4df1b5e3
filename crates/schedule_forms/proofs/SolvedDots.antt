-- Values of rows at points, in pieces.
use Rattle.std.proofs.Common.{◌≡◌, ℕ, zero, suc, ◌-◌, ◌<◌, ◌≤◌, true, List, [], ◌∷◌, ◌++◌, length, take, drop, set, map, ℤ, pos, ◌+ℤ◌, ◌*ℤ◌, neg_ℤ, unsigned_abs, ◌==◌, refl, ap, sym, ◌∙◌, arith, append_assoc}
use Rattle.std.specs.Prelude.{slice_range}
use Rattle.std.specs.Ordering.{int_eq}
use Rattle.std.proofs.lemmas.Int.{ints}
use Rattle.std.proofs.lemmas.Bool.Decides.{Decides-int_eq}
use Rattle.std.proofs.lemmas.List.{length-append, drop_all}
use Rattle.std.proofs.lemmas.List.Folds.{drop_split}
use Rattle.std.proofs.Math.Seq.{drop-cons}
use Rattle.row_core.specs.Rows.{entry, dot}
use Rattle.row_core.proofs.Ring.{mul_one_z, neg_mul_z}
use Rattle.relation_core.specs.Systems.{columns, width}
use Rattle.relation_core.specs.Points.{coordinates}
use Rattle.relation_core.specs.declared.shapes.Shape.{Shape}
use Rattle.scop_data.specs.SolvedRows.{with_columns}
use Rattle.schedule_forms.specs.SolvedForm.{weight, outputs_of, local_column, affine_of, is_constant, are_opposite, cleared}
use Rattle.scop_data.specs.Meaning.{affine_at}
use Rattle.schedule_forms.proofs.SolvedShapes.{both}
use Rattle.schedule_forms.proofs.SolvedPieces.{length_slice}
use Rattle.schedule_forms.proofs.ReadBackLists.{entry_weight, cleared_is, negative_drop, negative_entry, negative_weight}
use Rattle.schedule_forms.proofs.ReadBackRows.{Fits, first}

pub dot_append : (a b u v : List ℤ) → length a ≡ length u → dot (a ++ b) (u ++ v) ≡ dot a u +ℤ dot b v
dot_append [] b [] v e = omega (arith, ints)
dot_append [] b (x ∷ u) v e = absurd (omega (arith, e))
dot_append (c ∷ a) b [] v e = absurd (omega (arith, e))
dot_append (c ∷ a) b (x ∷ u) v e =
    let rest : dot (a ++ b) (u ++ v) ≡ dot a u +ℤ dot b v = dot_append a b u v (omega (arith, e)) in omega (arith, ints)

pub dot_zero : (a v : List ℤ) → ((k : ℕ) → entry a k ≡ pos 0) → dot a v ≡ pos 0
dot_zero [] v h = refl
dot_zero (c ∷ a) [] h = refl
dot_zero (c ∷ a) (x ∷ v) h =
    let rest : dot a v ≡ pos 0 = dot_zero a v (λ k. h (suc k)) in
    let zero_is : c *ℤ x ≡ pos 0 *ℤ x = ap (λ z. z *ℤ x) (h 0) in
    omega (arith, ints)

-- one entry alone
pub dot_one : (a v : List ℤ) (k : ℕ) → weight a ≡ 1 → (unsigned_abs (entry a k) ≡ 0 → ⊥) → dot a v ≡ entry a k *ℤ entry v k
dot_one [] v k w h = absurd (omega (arith, w))
dot_one (c ∷ a) [] zero w h = omega (arith, ints)
dot_one (c ∷ a) (x ∷ v) zero w h =
    let some : 1 ≤ unsigned_abs c = omega (arith, h) in
    let light : weight a ≡ 0 = omega (arith, w) in
    let rest : dot a v ≡ pos 0 = dot_zero a v (λ k. let e = entry_weight a k in omega (arith, ints)) in
    omega (arith, ints)
dot_one (c ∷ a) [] (suc k) w h = omega (arith, ints)
dot_one (c ∷ a) (x ∷ v) (suc k) w h =
    let some : 1 ≤ unsigned_abs (entry a k) = omega (arith, h) in
    let bound : unsigned_abs (entry a k) ≤ weight a = entry_weight a k in
    let light : weight a ≡ 1 = omega (arith, w) in
    let none : c ≡ pos 0 = omega (arith, ints, w) in
    let rest : dot a v ≡ entry a k *ℤ entry v k = dot_one a v k light h in
    let zero_is : c *ℤ x ≡ pos 0 *ℤ x = ap (λ z. z *ℤ x) none in
    omega (arith, ints)

pub dot_negative : (a v : List ℤ) → dot (map neg_ℤ a) v ≡ neg_ℤ (dot a v)
dot_negative [] v = refl
dot_negative (c ∷ a) [] = refl
dot_negative (c ∷ a) (x ∷ v) = omega (arith, ints, neg_mul_z c x, dot_negative a v)

-- coefficients that are 0 from place k on read the point before it alone
pub dot_take : (a v : List ℤ) (k : ℕ) → ((j : ℕ) → k ≤ j → entry a j ≡ pos 0) → dot a (take k v) ≡ dot a v
dot_take [] v k h = refl
dot_take (c ∷ a) [] zero h = refl
dot_take (c ∷ a) [] (suc k) h = refl
dot_take (c ∷ a) (x ∷ v) zero h = sym (dot_zero (c ∷ a) (x ∷ v) (λ j. h j (omega arith)))
dot_take (c ∷ a) (x ∷ v) (suc k) h = ap (λ z. (c *ℤ x) +ℤ z) (dot_take a v k (λ j l. h (suc j) (omega arith)))

dot_set : (a v : List ℤ) (k : ℕ) → k < length a → dot a v ≡ dot (set a k (pos 0)) v +ℤ (entry a k *ℤ entry v k)
dot_set [] v k h = absurd (omega arith)
dot_set (c ∷ a) [] zero h = omega (arith, ints)
dot_set (c ∷ a) (x ∷ v) zero h = omega (arith, ints)
dot_set (c ∷ a) [] (suc k) h = omega (arith, ints)
dot_set (c ∷ a) (x ∷ v) (suc k) h =
    let rest : dot a v ≡ dot (set a k (pos 0)) v +ℤ (entry a k *ℤ entry v k) = dot_set a v k (omega arith) in omega (arith, ints)

pub dot_cleared : (a v : List ℤ) (k : ℕ) → k < length a → dot a v ≡ dot (cleared a k) v +ℤ (entry a k *ℤ entry v k)
dot_cleared a v k h = dot_set a v k h ∙ ap (λ r. dot r v +ℤ (entry a k *ℤ entry v k)) (sym (cleared_is a k h))

pub opposite_is : (a b : List ℤ) → are_opposite a b ≡ true → a ≡ map neg_ℤ b
opposite_is [] [] h = refl
opposite_is [] (y ∷ b) h = absurd (cc)
opposite_is (x ∷ a) [] h = absurd (cc)
opposite_is (x ∷ a) (y ∷ b) h =
    let p = both (int_eq x (neg_ℤ y)) (are_opposite a b) h in
    ap (λ z. z ∷ a) ((Decides-int_eq x (neg_ℤ y)).0 p.0) ∙ ap (λ t. neg_ℤ y ∷ t) (opposite_is a b p.1)

-- a point of the sizes of a shape
pub record Point (shape : Shape) (y x l n : List ℤ) : Type 0 where
  pub outputs_are : length y ≡ shape.outputs
  pub inputs_are : length x ≡ shape.inputs
  pub locals_are : length l ≡ shape.locals
  pub parameters_are : length n ≡ shape.parameters

-- the value of a row in pieces
pub row_value : (shape : Shape) (o i f p : List ℤ) (c : ℤ) (y x l n : List ℤ) → Fits shape o i f p → Point shape y x l n
    → dot (with_columns o i f p c) (coordinates y x l n) ≡ dot o y +ℤ affine_at (record { iterators = i; floors = f; parameters = p; constant = c }) x l n
row_value shape o i f p c y x l n fits at =
    let tail : dot (p ++ c ∷ []) (n ++ pos 1 ∷ []) ≡ dot p n +ℤ dot (c ∷ []) (pos 1 ∷ [])
    = dot_append p (c ∷ []) n (pos 1 ∷ []) (omega (arith, fits.parameters_are, at.parameters_are)) in
    let floors : dot (f ++ (p ++ c ∷ [])) (l ++ (n ++ pos 1 ∷ [])) ≡ dot f l +ℤ dot (p ++ c ∷ []) (n ++ pos 1 ∷ [])
    = dot_append f (p ++ c ∷ []) l (n ++ pos 1 ∷ []) (omega (arith, fits.floors_are, at.locals_are)) in
    let iterators : dot (i ++ (f ++ (p ++ c ∷ []))) (x ++ (l ++ (n ++ pos 1 ∷ []))) ≡ dot i x +ℤ dot (f ++ (p ++ c ∷ [])) (l ++ (n ++ pos 1 ∷ []))
    = dot_append i (f ++ (p ++ c ∷ [])) x (l ++ (n ++ pos 1 ∷ [])) (omega (arith, fits.iterators_are, at.inputs_are)) in
    let whole : dot (o ++ (i ++ (f ++ (p ++ c ∷ [])))) (y ++ (x ++ (l ++ (n ++ pos 1 ∷ [])))) ≡ dot o y +ℤ dot (i ++ (f ++ (p ++ c ∷ []))) (x ++ (l ++ (n ++ pos 1 ∷ [])))
    = dot_append o (i ++ (f ++ (p ++ c ∷ []))) y (x ++ (l ++ (n ++ pos 1 ∷ []))) (omega (arith, fits.outputs_are, at.outputs_are)) in
    ap (λ r. dot r (coordinates y x l n)) (first o i f p c) ∙ omega (arith, ints, mul_one_z c)

-- every row of the width of a shape is in pieces
pub split_fits : (shape : Shape) (row : List ℤ) → length row ≡ width shape
    → Fits shape (outputs_of shape row) (affine_of shape row).iterators (affine_of shape row).floors (affine_of shape row).parameters
split_fits shape row w = record {
  outputs_are = length_slice row 0 shape.outputs (omega arith) (omega arith) ∙ omega arith;
  iterators_are = length_slice row shape.outputs (local_column shape 0) (omega arith) (omega arith) ∙ omega arith;
  floors_are = length_slice row (local_column shape 0) (local_column shape shape.locals) (omega arith) (omega arith) ∙ omega arith;
  parameters_are = length_slice row (local_column shape shape.locals) (columns shape) (omega arith) (omega arith) ∙ omega arith;
}

pub split_row : (shape : Shape) (row : List ℤ) → length row ≡ width shape
    → row ≡ with_columns (outputs_of shape row) (affine_of shape row).iterators (affine_of shape row).floors (affine_of shape row).parameters (affine_of shape row).constant
split_row shape row w =
    let o = outputs_of shape row in
    let i = (affine_of shape row).iterators in
    let f = (affine_of shape row).floors in
    let p = (affine_of shape row).parameters in
    let c = entry row (columns shape) in
    let last : drop (columns shape) row ≡ c ∷ []
    = drop-cons row (columns shape) (pos 0) (omega arith) ∙ ap (λ t. c ∷ t) (drop_all (suc (columns shape)) row (omega arith)) in
    let start : row ≡ o ++ drop shape.outputs row = drop_split row 0 shape.outputs (omega arith) in
    let next : drop shape.outputs row ≡ i ++ drop (local_column shape 0) row = drop_split row shape.outputs (local_column shape 0) (omega arith) in
    let middle : drop (local_column shape 0) row ≡ f ++ drop (local_column shape shape.locals) row
    = drop_split row (local_column shape 0) (local_column shape shape.locals) (omega arith) in
    let ending : drop (local_column shape shape.locals) row ≡ p ++ drop (columns shape) row
    = drop_split row (local_column shape shape.locals) (columns shape) (omega arith) in
    start ∙ (ap (λ t. o ++ t) (next ∙ ap (λ t. i ++ t) (middle ∙ ap (λ t. f ++ t) (ending ∙ ap (λ t. p ++ t) last))) ∙ sym (first o i f p c))

-- the value of a row of the width of a shape
pub value_of_row : (shape : Shape) (row : List ℤ) (y x l n : List ℤ) → length row ≡ width shape → Point shape y x l n
    → dot row (coordinates y x l n) ≡ dot (outputs_of shape row) y +ℤ affine_at (affine_of shape row) x l n
value_of_row shape row y x l n w at =
    ap (λ r. dot r (coordinates y x l n)) (split_row shape row w)
    ∙ row_value shape (outputs_of shape row) (affine_of shape row).iterators (affine_of shape row).floors (affine_of shape row).parameters (affine_of shape row).constant y x l n (split_fits shape row w) at

-- the coordinates before the factor of the constants
pub before_one : (y x l n : List ℤ) → coordinates y x l n ≡ (y ++ (x ++ (l ++ n))) ++ pos 1 ∷ []
before_one y x l n =
    ap (λ t. y ++ (x ++ t)) (sym (append_assoc l n (pos 1 ∷ []))) ∙ (ap (λ t. y ++ t) (sym (append_assoc x (l ++ n) (pos 1 ∷ []))) ∙ sym (append_assoc y (x ++ (l ++ n)) (pos 1 ∷ [])))

-- the value of a row from its entries before the constant
pub front_value : (shape : Shape) (row : List ℤ) (y x l n : List ℤ) → length row ≡ width shape → Point shape y x l n
    → dot row (coordinates y x l n) ≡ dot (slice_range row 0 (columns shape)) (y ++ (x ++ (l ++ n))) +ℤ entry row (columns shape)
front_value shape row y x l n w at =
    let q = y ++ (x ++ (l ++ n)) in
    let c = entry row (columns shape) in
    let a = slice_range row 0 (columns shape) in
    let last : drop (columns shape) row ≡ c ∷ []
    = drop-cons row (columns shape) (pos 0) (omega arith) ∙ ap (λ t. c ∷ t) (drop_all (suc (columns shape)) row (omega arith)) in
    let start : row ≡ a ++ drop (columns shape) row = drop_split row 0 (columns shape) (omega arith) in
    let long : length a ≡ length q
    = length_slice row 0 (columns shape) (omega arith) (omega arith) ∙ omega (arith, length-append y (x ++ (l ++ n)), length-append x (l ++ n), length-append l n, at.outputs_are, at.inputs_are, at.locals_are, at.parameters_are) in
    let value : dot (a ++ c ∷ []) (q ++ pos 1 ∷ []) ≡ dot a q +ℤ dot (c ∷ []) (pos 1 ∷ []) = dot_append a (c ∷ []) q (pos 1 ∷ []) long in
    ap (λ r. dot r (coordinates y x l n)) (start ∙ ap (λ t. a ++ t) last)
    ∙ (ap (λ v. dot (a ++ c ∷ []) v) (before_one y x l n) ∙ omega (arith, ints, mul_one_z c))

-- the negative of a row
negative_take : (k : ℕ) (row : List ℤ) → take k (map neg_ℤ row) ≡ map neg_ℤ (take k row)
negative_take zero row = refl
negative_take (suc k) [] = refl
negative_take (suc k) (x ∷ row) = ap (λ t. neg_ℤ x ∷ t) (negative_take k row)

negative_slice : (row : List ℤ) (a b : ℕ) → slice_range (map neg_ℤ row) a b ≡ map neg_ℤ (slice_range row a b)
negative_slice row a b = ap (λ r. take (b - a) r) (negative_drop a row) ∙ negative_take (b - a) (drop a row)

pub negative_constant : (shape : Shape) (row : List ℤ) → is_constant (affine_of shape (map neg_ℤ row)) ≡ is_constant (affine_of shape row)
negative_constant shape row =
    let part : (a b : ℕ) → (weight (slice_range (map neg_ℤ row) a b) == 0) ≡ (weight (slice_range row a b) == 0)
    = λ a b. ap (λ r. weight r == 0) (negative_slice row a b) ∙ ap (λ w. w == 0) (negative_weight (slice_range row a b)) in
    let i = part shape.outputs (local_column shape 0) in
    let f = part (local_column shape 0) (local_column shape shape.locals) in
    let p = part (local_column shape shape.locals) (columns shape) in
    cc

pub negative_value : (shape : Shape) (row x l n : List ℤ) → affine_at (affine_of shape (map neg_ℤ row)) x l n ≡ neg_ℤ (affine_at (affine_of shape row) x l n)
negative_value shape row x l n =
    let i = (affine_of shape row).iterators in
    let f = (affine_of shape row).floors in
    let p = (affine_of shape row).parameters in
    let di : dot (affine_of shape (map neg_ℤ row)).iterators x ≡ neg_ℤ (dot i x) = ap (λ r. dot r x) (negative_slice row shape.outputs (local_column shape 0)) ∙ dot_negative i x in
    let df : dot (affine_of shape (map neg_ℤ row)).floors l ≡ neg_ℤ (dot f l)
    = ap (λ r. dot r l) (negative_slice row (local_column shape 0) (local_column shape shape.locals)) ∙ dot_negative f l in
    let dp : dot (affine_of shape (map neg_ℤ row)).parameters n ≡ neg_ℤ (dot p n)
    = ap (λ r. dot r n) (negative_slice row (local_column shape shape.locals) (columns shape)) ∙ dot_negative p n in
    let dc : (affine_of shape (map neg_ℤ row)).constant ≡ neg_ℤ (affine_of shape row).constant = negative_entry row (columns shape) in
    omega (arith, ints)
