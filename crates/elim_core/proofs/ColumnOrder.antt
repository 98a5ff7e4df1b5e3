-- The order of projections has every column, and only columns.
use Rattle.std.proofs.Common.{◌≡◌, refl, ap, ◌∙◌, inl, inr, ℕ, zero, suc, ◌+◌, ◌<◌, ◌≤◌, List, [], ◌∷◌, ◌++◌, arith, append_assoc}
use Rattle.std.specs.Prelude.{nat_eq, nat_lt, Some, ◌^◌, ℤ}
use Rattle.std.proofs.lemmas.Bool.Decides.{nat_tests}
use Rattle.relation_core.specs.declared.shapes.Shape.{Shape}
use Rattle.relation_core.specs.declared.part_rows.PartRow.{PartRow}
use Rattle.relation_core.specs.Systems.{System, columns}
use Rattle.relation_core.specs.Points.{column_weight}
use Rattle.farkas_cert.specs.Certificates.{IsTooHeavy}
use Rattle.elim_core.specs.Elimination.{In, Covers, Below}
use Rattle.elim_core.specs.Peaks.{down, column_order, greatest_weight, refutation_weight, stated, peak}
use Rattle.elim_core.proofs.Tests.{by_bool}

pub down_step : (start m k : ℕ) → m ≡ k + 1 → down start m ≡ (start + k) ∷ down start k
down_step start zero k e = absurd (omega arith)
down_step start (suc m) k e = let h : m ≡ k = omega arith in rw h refl

in_left : (k : ℕ) (a b : List ℕ) → In k a → In k (a ++ b)
in_left k [] b i = absurd i
in_left k (x ∷ a) b i = elim i [ inl e ↦ inl e | inr j ↦ inr (in_left k a b j) ]

in_right : (k : ℕ) (a b : List ℕ) → In k b → In k (a ++ b)
in_right k [] b i = i
in_right k (x ∷ a) b i = inr (in_right k a b i)

in_down : (k start count : ℕ) → start ≤ k → k < start + count → In k (down start count)
in_down k start zero l m = absurd (omega arith)
in_down k start (suc count) l m = elim (by_bool (nat_eq k (start + count))) [
  | inl e ↦ inl (grind (arith, nat_tests))
  | inr e ↦ let h : k < start + count = grind (arith, nat_tests) in inr (in_down k start count l h)
]

covered : (o i l p k : ℕ) → k < o + i + l + p → In k (down (o + i) l ++ (down o i ++ (down 0 o ++ down (o + i + l) p)))
covered o i l p k h = elim (by_bool (nat_lt k o)) [
  | inl e ↦ in_right k (down (o + i) l) _ (in_right k (down o i) _ (in_left k (down 0 o) (down (o + i + l) p) (in_down k 0 o (omega arith) (grind (arith, nat_tests)))))
  | inr e ↦ elim (by_bool (nat_lt k (o + i))) [
    | inl f ↦ in_right k (down (o + i) l) _ (in_left k (down o i) (down 0 o ++ down (o + i + l) p) (in_down k o i (grind (arith, nat_tests)) (grind (arith, nat_tests))))
    | inr f ↦ elim (by_bool (nat_lt k (o + i + l))) [
      | inl g ↦ in_left k (down (o + i) l) (down o i ++ (down 0 o ++ down (o + i + l) p)) (in_down k (o + i) l (grind (arith, nat_tests)) (grind (arith, nat_tests)))
      | inr g ↦ in_right k (down (o + i) l) _ (in_right k (down o i) _ (in_right k (down 0 o) (down (o + i + l) p) (in_down k (o + i + l) p (grind (arith, nat_tests)) h)))
    ]
  ]
]

pub order_covers : (shape : Shape) → Covers (columns shape) (column_order shape)
order_covers shape = λ k l. covered shape.outputs shape.inputs shape.locals shape.parameters k l

below_append : (n : ℕ) (a b : List ℕ) → Below n a → Below n b → Below n (a ++ b)
below_append n [] b p q = q
below_append n (x ∷ a) b p q = (p.0, below_append n a b p.1 q)

below_down : (n start count : ℕ) → start + count ≤ n → Below n (down start count)
below_down n start zero l = tt
below_down n start (suc count) l = (omega arith, below_down n start count (omega arith))

pub order_below : (shape : Shape) → Below (columns shape) (column_order shape)
order_below shape =
    below_append (columns shape) (down (shape.outputs + shape.inputs) shape.locals) _ (below_down (columns shape) (shape.outputs + shape.inputs) shape.locals (omega arith))
    (below_append (columns shape) (down shape.outputs shape.inputs) _ (below_down (columns shape) shape.outputs shape.inputs (omega arith))
    (below_append (columns shape) (down 0 shape.outputs) _ (below_down (columns shape) 0 shape.outputs (omega arith))
    (below_down (columns shape) (shape.outputs + shape.inputs + shape.locals) shape.parameters (omega arith))))

heavy_within : (w : ℕ) (rows : List PartRow) (ls : List ℤ) (k : ℕ) → k < w → column_weight ls rows k ≤ greatest_weight w rows ls
heavy_within zero rows ls k l = absurd (omega arith)
heavy_within (suc w) rows ls k l = elim (by_bool (nat_eq k w)) [
  | inl e ↦ let h : k ≡ w = grind (arith, nat_tests) in rw h (omega arith)
  | inr e ↦ let h : k < w = grind (arith, nat_tests) in omega (arith, heavy_within w rows ls k h)
]

-- a certificate that is too heavy lifts the peak above the limit
pub heavy_peak : (system : System) (c : List ℤ) → (stated system).refutation ≡ Some c → IsTooHeavy (columns system.shape) system.rows c → 2 ^ 127 ≤ (peak system).weight
heavy_peak system c e h =
    let a : column_weight c system.rows h.column.at ≤ greatest_weight (columns system.shape + 1) system.rows c = heavy_within (columns system.shape + 1) system.rows c h.column.at h.column.within in
    let b : refutation_weight (columns system.shape) system.rows (stated system).refutation ≡ greatest_weight (columns system.shape + 1) system.rows c = ap (refutation_weight (columns system.shape) system.rows) e in
    omega (arith, h.column.heavy, a, b)

pub weight_peak : (system : System) → (stated system).weight ≤ (peak system).weight
weight_peak system = omega arith

pub down_pushed : (cols new rest : List ℕ) (start m k : ℕ) → m ≡ k + 1 → new ≡ cols ++ ((start + k) ∷ []) → cols ++ down start m ≡ rest → new ++ down start k ≡ rest
down_pushed cols new rest start m k e p q =
    let d = down_step start m k e in
    let r : cols ++ ((start + k) ∷ down start k) ≡ rest = rw d at q in
    rw p (append_assoc cols ((start + k) ∷ []) (down start k) ∙ r)
