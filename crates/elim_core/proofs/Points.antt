-- Each step backward: a rational point of the rows after it gives one of the rows before it.
use Rattle.std.proofs.Common.{◌≡◌, ap, sym, subst, ◌∙◌, inl, inr, ℕ, List, [], ◌∷◌, ◌++◌, length, take, arith}
use Rattle.std.specs.Prelude.{true, false, int_le, ℤ, pos, ◌+ℤ◌, ◌*ℤ◌, ◌≤ℤ◌, ◌<ℤ◌}
use Rattle.std.proofs.lemmas.Int.{ints}
use Rattle.row_core.proofs.Ring.{mul_nonneg_z, cancel_z, mul_comm_z, mul_le_z}
use Rattle.row_core.proofs.Rows.{dot_scale}
use Rattle.row_core.specs.Rows.{entry, dot}
use Rattle.relation_core.specs.declared.part_rows.PartRow.{PartRow}
use Rattle.relation_core.specs.declared.part_rows.RowKind.{RowKind}
use Rattle.relation_core.specs.declared.part_rows.RowKind.TheVariants.{Equal, AtLeast}
use Rattle.relation_core.specs.Points.{Meets, MeetsAll, HasPoint}
use Rattle.farkas_cert.proofs.Laws.{constant_row}
use Rattle.elim_core.specs.Gcd.{divided}
use Rattle.elim_core.specs.Elimination.{is_zero, same_cells, is_equal, is_constant, is_contradiction, fails, with_variables, alike, admitted, pruned_onto, normalised}
use Rattle.elim_core.proofs.Tests.{by_bool, zero_is, all_zero_is, same_cells_is}
use Rattle.elim_core.proofs.Quotients.{divided_is}
use Rattle.elim_core.proofs.Derived.{cancel_zero}
use Rattle.elim_core.specs.RowLists.{AllRows}

-- Kinds and positive factors.

pub meets_times : (kind : RowKind) (s d : ℤ) → pos 0 <ℤ s → Meets kind d → Meets kind (s *ℤ d)
meets_times Equal s d p m = omega (arith, ints, ap (λ n. s *ℤ n) m)
meets_times AtLeast s d p m = mul_nonneg_z s d (omega (arith, ints)) m

pub meets_untimes : (kind : RowKind) (s d : ℤ) → pos 0 <ℤ s → Meets kind (s *ℤ d) → Meets kind d
meets_untimes Equal s d p m = cancel_zero s d p m
meets_untimes AtLeast s d p m = cancel_z s (pos 0) d p (omega (arith, ints))

pub meets_divided : (kind : RowKind) (cells v : List ℤ) → Meets kind (dot (divided cells) v) → Meets kind (dot cells v)
meets_divided kind cells v m =
    let d = divided_is cells in
    let e : d.factor *ℤ dot (divided cells) v ≡ dot cells v = sym (dot_scale d.factor (divided cells) v) ∙ ap (λ t. dot t v) d.times in
    subst (Meets kind) e (meets_times kind d.factor (dot (divided cells) v) d.positive m)

pub meets_append : (a b : List PartRow) (v : List ℤ) → MeetsAll (a ++ b) v → MeetsAll a v × MeetsAll b v
meets_append [] b v m = (tt, m)
meets_append (w ∷ a) b v m = let r = meets_append a b v m.1 in ((m.0, r.0), r.1)

-- Contradictions and pruning.

-- a row's value is that of its variables and its constant
pub dot_split : (cs x : List ℤ) (q : ℤ) → dot cs (x ++ (q ∷ [])) ≡ dot (take (length x) cs) x +ℤ (entry cs (length x) *ℤ q)
dot_split [] [] q = omega (arith, ints)
dot_split [] (y ∷ x) q = omega (arith, ints)
dot_split (c ∷ []) [] q = omega (arith, ints)
dot_split (c ∷ (d ∷ cs)) [] q = omega (arith, ints)
dot_split (c ∷ cs) (y ∷ x) q = omega (arith, ints, dot_split cs x q)

meets_constant : (kind : RowKind) (c q : ℤ) → pos 1 ≤ℤ q → fails kind c ≡ false → Meets kind (c *ℤ q)
meets_constant Equal c q p f = elim (by_bool (is_zero c)) [
  | inl e ↦ let z = zero_is c e in omega (arith, ints, ap (λ n. n *ℤ q) z)
  | inr e ↦ let g : true ≡ false = rw e at f in cc
]
meets_constant AtLeast c q p f = mul_nonneg_z c q (omega (arith, ints)) (omega (arith, ints))

constant_holds : (w : PartRow) (x : List ℤ) (q : ℤ) → pos 1 ≤ℤ q → is_constant (length x) w ≡ true → is_contradiction (length x) w ≡ false → Meets w.kind (dot w.entries (x ++ (q ∷ [])))
constant_holds w x q p c f =
    let g : fails w.kind (entry w.entries (length x)) ≡ false = rw c at f in
    let e = constant_row w.entries x q (all_zero_is (length x) w.entries c) in
    subst (Meets w.kind) (sym e) (meets_constant w.kind (entry w.entries (length x)) q p g)

from_variables : (ws : List PartRow) (x : List ℤ) (q : ℤ) → pos 1 ≤ℤ q → AllRows (λ w. is_contradiction (length x) w ≡ false) ws → MeetsAll (with_variables (length x) ws) (x ++ (q ∷ [])) → MeetsAll ws (x ++ (q ∷ []))
from_variables [] x q p f m = tt
from_variables (w ∷ ws) x q p f m = elim (by_bool (is_constant (length x) w)) [
  | inl e ↦ let r : MeetsAll (with_variables (length x) ws) (x ++ (q ∷ [])) = rw e at m in
      (constant_holds w x q p e f.0, from_variables ws x q p f.1 r)
  | inr e ↦ let r : MeetsAll (w ∷ with_variables (length x) ws) (x ++ (q ∷ [])) = rw e at m in
      (r.0, from_variables ws x q p f.1 r.1)
]

pub nonnegative : (kind : RowKind) → is_equal kind ≡ false → (d : ℤ) → Meets kind d → pos 0 ≤ℤ d
nonnegative Equal k d m = cc
nonnegative AtLeast k d m = m

pub inequality : (kind : RowKind) → is_equal kind ≡ false → (d : ℤ) → pos 0 ≤ℤ d → Meets kind d
inequality Equal k d m = cc
inequality AtLeast k d m = m

-- of two alike rows the one with the lesser constant gives the other
covers : (a b : PartRow) (x : List ℤ) (q : ℤ) → pos 1 ≤ℤ q → take (length x) a.entries ≡ take (length x) b.entries → is_equal a.kind ≡ false → is_equal b.kind ≡ false
    → entry a.entries (length x) ≤ℤ entry b.entries (length x) → Meets a.kind (dot a.entries (x ++ (q ∷ []))) → Meets b.kind (dot b.entries (x ++ (q ∷ [])))
covers a b x q p e ka kb l m =
    inequality b.kind kb (dot b.entries (x ++ (q ∷ [])))
    (let h = nonnegative a.kind ka (dot a.entries (x ++ (q ∷ []))) m in
    let n : pos 0 ≤ℤ q = omega (arith, ints) in
    let g = mul_le_z q (entry a.entries (length x)) (entry b.entries (length x)) n l in
    let t : dot (take (length x) a.entries) x ≡ dot (take (length x) b.entries) x = ap (λ r. dot r x) e in
    omega (arith, ints, dot_split a.entries x q, dot_split b.entries x q, mul_comm_z q (entry a.entries (length x)), mul_comm_z q (entry b.entries (length x))))

-- what alike rows are
pub record AreAlike (n : ℕ) (a b : PartRow) : Type 0 where
  pub left : is_equal a.kind ≡ false
  pub right : is_equal b.kind ≡ false
  pub same : take n a.entries ≡ take n b.entries

pub alike_is : (n : ℕ) (a b : PartRow) → alike n a b ≡ true → AreAlike n a b
alike_is n a b e = elim (by_bool (is_equal a.kind)) [
  | inl f ↦ let g : false ≡ true = rw f at e in cc
  | inr f ↦ elim (by_bool (is_equal b.kind)) [
    | inl g ↦ let h : false ≡ true = rw (f, g) at e in cc
    | inr g ↦ let h : same_cells (take n a.entries) (take n b.entries) ≡ true = rw (f, g) at e in
        record { left = f; right = g; same = same_cells_is (take n a.entries) (take n b.entries) h }
  ]
]

at_most : (a b : ℤ) → int_le a b ≡ true → a ≤ℤ b
at_most a b e = omega (arith, ints)

above : (a b : ℤ) → int_le a b ≡ false → b ≤ℤ a
above a b e = omega (arith, ints)

from_admitted : (kept : List PartRow) (w : PartRow) (x : List ℤ) (q : ℤ) → pos 1 ≤ℤ q → MeetsAll (admitted (length x) kept w) (x ++ (q ∷ [])) → MeetsAll kept (x ++ (q ∷ [])) × Meets w.kind (dot w.entries (x ++ (q ∷ [])))
from_admitted [] w x q p m = (tt, m.0)
from_admitted (o ∷ kept) w x q p m = elim (by_bool (alike (length x) o w)) [
  | inl e ↦ let k = alike_is (length x) o w e in
      elim (by_bool (int_le (entry o.entries (length x)) (entry w.entries (length x)))) [
        | inl f ↦ let r : MeetsAll (o ∷ kept) (x ++ (q ∷ [])) = rw (e, f) at m in
            (r, covers o w x q p k.same k.left k.right (at_most (entry o.entries (length x)) (entry w.entries (length x)) f) r.0)
        | inr f ↦ let r : MeetsAll (kept ++ (w ∷ [])) (x ++ (q ∷ [])) = rw (e, f) at m in
            let s = meets_append kept (w ∷ []) (x ++ (q ∷ [])) r in
            ((covers w o x q p (sym k.same) k.right k.left (above (entry o.entries (length x)) (entry w.entries (length x)) f) s.1.0, s.0), s.1.0)
      ]
  | inr e ↦ let r : MeetsAll (o ∷ admitted (length x) kept w) (x ++ (q ∷ [])) = rw e at m in
      let s = from_admitted kept w x q p r.1 in
      ((r.0, s.0), s.1)
]

from_pruned : (kept ws : List PartRow) (x : List ℤ) (q : ℤ) → pos 1 ≤ℤ q → MeetsAll (pruned_onto (length x) kept ws) (x ++ (q ∷ [])) → MeetsAll kept (x ++ (q ∷ [])) × MeetsAll ws (x ++ (q ∷ []))
from_pruned kept [] x q p m = (m, tt)
from_pruned kept (w ∷ ws) x q p m =
    let r = from_pruned (admitted (length x) kept w) ws x q p m in
    let s = from_admitted kept w x q p r.0 in
    (s.0, (s.1, r.1))

pub from_normalised_at : (ws : List PartRow) (x : List ℤ) (q : ℤ) → pos 1 ≤ℤ q → AllRows (λ w. is_contradiction (length x) w ≡ false) ws → MeetsAll (normalised (length x) ws) (x ++ (q ∷ [])) → MeetsAll ws (x ++ (q ∷ []))
from_normalised_at ws x q p f m = from_variables ws x q p f (from_pruned [] (with_variables (length x) ws) x q p m).1

pub from_normalised : (n : ℕ) (ws : List PartRow) → AllRows (λ w. is_contradiction n w ≡ false) ws → HasPoint n (normalised n ws) → HasPoint n ws
from_normalised n ws f h = record {
  at = h.at;
  factor = h.factor;
  length_is = h.length_is;
  point = record {
    positive = h.point.positive;
    meets = from_normalised_at ws h.at h.factor h.point.positive
        (subst (λ (k : ℕ). AllRows (λ w. is_contradiction k w ≡ false) ws) (sym h.length_is) f)
        (subst (λ (k : ℕ). MeetsAll (normalised k ws) (h.at ++ (h.factor ∷ []))) (sym h.length_is) h.point.meets);
  };
}
