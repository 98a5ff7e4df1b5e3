-- Substitution and projection backward: a rational point of the new rows, made larger and moved
-- along the column that went, is one of the old rows.
use Rattle.std.proofs.Common.{◌≡◌, refl, ap, sym, subst, ◌∙◌, inl, inr, ℕ, zero, suc, ◌<◌, List, [], ◌∷◌, ◌++◌, length, arith}
use Rattle.std.specs.Prelude.{true, false, Some, int_lt, ℤ, pos, negsuc, ◌+ℤ◌, ◌*ℤ◌, neg_ℤ, ◌≤ℤ◌, ◌<ℤ◌, unsigned_abs}
use Rattle.std.proofs.lemmas.Int.{ints}
use Rattle.std.proofs.lemmas.List.{length-append}
use Rattle.row_core.proofs.Ring.{mul_pos_z, neg_mul_z, mul_comm_z}
use Rattle.row_core.proofs.Rows.{dot_combined}
use Rattle.row_core.specs.Rows.{entry, dot, combined}
use Rattle.relation_core.specs.declared.part_rows.PartRow.{PartRow}
use Rattle.relation_core.specs.declared.part_rows.RowKind.{RowKind}
use Rattle.relation_core.specs.declared.part_rows.RowKind.TheVariants.{Equal, AtLeast}
use Rattle.relation_core.specs.Points.{Meets, MeetsAll, HasPoint}
use Rattle.elim_core.specs.Gcd.{divided}
use Rattle.elim_core.specs.Elimination.{is_zero, is_equal, first_equality, without_equality, turned, substituted_row, substituted, flat_rows, crossing, against, crossed, projected}
use Rattle.elim_core.proofs.Tests.{by_bool, zero_is, zero_test, is_less}
use Rattle.elim_core.specs.RowLists.{AllRows, Wide}
use Rattle.elim_core.proofs.Lines.{Line, AllLines, Agrees, Flat, Suits, choose}
use Rattle.elim_core.proofs.Moves.{move, dot_move, move_append, length_move}
use Rattle.elim_core.proofs.Points.{meets_times, meets_divided, meets_append, nonnegative, inequality}

equality_meets : (kind : RowKind) → is_equal kind ≡ true → (d : ℤ) → d ≡ pos 0 → Meets kind d
equality_meets Equal k d e = e
equality_meets AtLeast k d e = cc

-- Substitution.

turned_cancels : (a d : ℤ) → (pos (unsigned_abs a) *ℤ d) +ℤ (turned a d *ℤ a) ≡ pos 0
turned_cancels a d = elim (by_bool (int_lt a (pos 0))) [
  | inl e ↦ let n : a <ℤ pos 0 = omega (arith, ints) in
      let s : pos (unsigned_abs a) ≡ neg_ℤ a = omega (arith, ints) in
      rw (e, s) (omega (arith, ints, neg_mul_z a d, mul_comm_z d a))
  | inr e ↦ let n : pos 0 ≤ℤ a = omega (arith, ints) in
      let s : pos (unsigned_abs a) ≡ a = omega (arith, ints) in
      rw (e, s) (omega (arith, ints, neg_mul_z d a, mul_comm_z d a))
]

turned_swaps : (a b d : ℤ) → turned a d *ℤ b ≡ turned a b *ℤ d
turned_swaps a b d = elim (by_bool (int_lt a (pos 0))) [
  | inl e ↦ rw e (mul_comm_z d b)
  | inr e ↦ rw e (omega (arith, ints, neg_mul_z d b, neg_mul_z b d, mul_comm_z d b))
]

abbrev place_of : ℕ → PartRow → List ℤ → List ℤ
place_of j e v = move (pos (unsigned_abs (entry e.entries j))) (turned (entry e.entries j) (dot e.entries v)) j v

from_substituted_row : (width j : ℕ) (e w : PartRow) (v : List ℤ) → pos 0 <ℤ pos (unsigned_abs (entry e.entries j)) → Wide width e → Wide width w → j < length v
    → Meets w.kind (dot (substituted_row j e w).entries v) → Meets w.kind (dot w.entries (place_of j e v))
from_substituted_row width j e w v p le lw l m =
    let at : dot w.entries (place_of j e v) ≡ (pos (unsigned_abs (entry e.entries j)) *ℤ dot w.entries v) +ℤ (turned (entry e.entries j) (dot e.entries v) *ℤ entry w.entries j)
    = dot_move (pos (unsigned_abs (entry e.entries j))) (turned (entry e.entries j) (dot e.entries v)) j w.entries v l in
    elim (by_bool (is_zero (entry w.entries j))) [
      | inl z ↦
          let h : Meets w.kind (dot w.entries v) = rw z at m in
          let b = zero_is (entry w.entries j) z in
          let g : pos (unsigned_abs (entry e.entries j)) *ℤ dot w.entries v ≡ dot w.entries (place_of j e v) = omega (arith, ints, ap (λ n. turned (entry e.entries j) (dot e.entries v) *ℤ n) b) in
          subst (Meets w.kind) g (meets_times w.kind (pos (unsigned_abs (entry e.entries j))) (dot w.entries v) p h)
      | inr z ↦
          let h : Meets w.kind (dot (divided (combined (pos (unsigned_abs (entry e.entries j))) w.entries (turned (entry e.entries j) (entry w.entries j)) e.entries)) v) = rw z at m in
          let k = meets_divided w.kind (combined (pos (unsigned_abs (entry e.entries j))) w.entries (turned (entry e.entries j) (entry w.entries j)) e.entries) v h in
          let c = dot_combined (pos (unsigned_abs (entry e.entries j))) w.entries (turned (entry e.entries j) (entry w.entries j)) e.entries v (lw ∙ sym le) in
          let g : dot (combined (pos (unsigned_abs (entry e.entries j))) w.entries (turned (entry e.entries j) (entry w.entries j)) e.entries) v ≡ dot w.entries (place_of j e v) = omega (arith, ints, turned_swaps (entry e.entries j) (entry w.entries j) (dot e.entries v)) in
          subst (Meets w.kind) g k
    ]

pub kind_stays : (j : ℕ) (e w : PartRow) → (substituted_row j e w).kind ≡ w.kind
kind_stays j e w = elim (by_bool (is_zero (entry w.entries j))) [ inl z ↦ rw z refl | inr z ↦ rw z refl ]

pub unsigned_positive : (a : ℤ) → is_zero a ≡ false → pos 0 <ℤ pos (unsigned_abs a)
unsigned_positive (pos zero) z = cc
unsigned_positive (pos (suc n)) z = omega (arith, ints)
unsigned_positive (negsuc n) z = omega (arith, ints)

from_substituted_rows : (width j : ℕ) (e : PartRow) (ws : List PartRow) (v : List ℤ) → pos 0 <ℤ pos (unsigned_abs (entry e.entries j)) → Wide width e → AllRows (Wide width) ws → j < length v
    → MeetsAll (substituted j e ws) v → MeetsAll ws (place_of j e v)
from_substituted_rows width j e [] v p le lw l m = tt
from_substituted_rows width j e (w ∷ ws) v p le lw l m =
    (from_substituted_row width j e w v p le lw.0 l (subst (λ k. Meets k (dot (substituted_row j e w).entries v)) (kind_stays j e w) m.0), from_substituted_rows width j e ws v p le lw.1 l m.1)

pub with_equality : (ws : List PartRow) (e : PartRow) (v : List ℤ) → first_equality ws ≡ Some e → Meets e.kind (dot e.entries v) → MeetsAll (without_equality ws) v → MeetsAll ws v
with_equality [] e v f h m = cc
with_equality (w ∷ ws) e v f h m = elim (by_bool (is_equal w.kind)) [
  | inl k ↦ let g : Some w ≡ Some e = rw k at f in let s : e ≡ w = cc in
      let r : MeetsAll ws v = rw k at m in
      (subst (λ (u : PartRow). Meets u.kind (dot u.entries v)) s h, r)
  | inr k ↦ let g : first_equality ws ≡ Some e = rw k at f in
      let r : MeetsAll (w ∷ without_equality ws) v = rw k at m in
      (r.0, with_equality ws e v g h r.1)
]

pub from_substituted : (n width j : ℕ) (e : PartRow) (ws : List PartRow) → first_equality ws ≡ Some e → is_equal e.kind ≡ true → is_zero (entry e.entries j) ≡ false → j < n
    → Wide width e → AllRows (Wide width) (without_equality ws) → HasPoint n (substituted j e (without_equality ws)) → HasPoint n ws
from_substituted n width j e ws f k z l le lw h =
    let v : List ℤ = h.at ++ (h.factor ∷ []) in
    let s : ℤ = pos (unsigned_abs (entry e.entries j)) in
    let t : ℤ = turned (entry e.entries j) (dot e.entries (h.at ++ (h.factor ∷ []))) in
    let p : pos 0 <ℤ pos (unsigned_abs (entry e.entries j)) = unsigned_positive (entry e.entries j) z in
    let i : j < length h.at = omega (arith, h.length_is) in
    let i2 : j < length (h.at ++ (h.factor ∷ [])) = omega (arith, length-append h.at (h.factor ∷ [])) in
    let a : dot e.entries (place_of j e (h.at ++ (h.factor ∷ []))) ≡ pos 0 = dot_move s t j e.entries v i2 ∙ turned_cancels (entry e.entries j) (dot e.entries v) in
    let m = with_equality ws e (place_of j e v) f (equality_meets e.kind k (dot e.entries (place_of j e v)) a) (from_substituted_rows width j e (without_equality ws) v p le lw i2 h.point.meets) in
    let q0 : pos 0 <ℤ h.factor = omega (arith, ints, h.point.positive) in
    let q1 = mul_pos_z s h.factor p q0 in
    record {
      at = move s t j h.at;
      factor = s *ℤ h.factor;
      length_is = length_move s t j h.at ∙ h.length_is;
      point = record { positive = omega (arith, ints, q1); meets = subst (MeetsAll ws) (move_append s t j h.at h.factor i) m };
    }

-- Projection.

abbrev pub lines : ℕ → List ℤ → List PartRow → List Line
lines j v [] = []
lines j v (w ∷ ws) = (record { slope = entry w.entries j; value = dot w.entries v }) ∷ lines j v ws

abbrev pub IsInequality : PartRow → Type 0
IsInequality w = is_equal w.kind ≡ false

flats : (j : ℕ) (v : List ℤ) (ws : List PartRow) → AllRows IsInequality ws → MeetsAll (flat_rows j ws) v → AllLines Flat (lines j v ws)
flats j v [] k m = tt
flats j v (w ∷ ws) k m = elim (by_bool (is_zero (entry w.entries j))) [
  | inl z ↦ let r : MeetsAll (w ∷ flat_rows j ws) v = rw z at m in
      (record { holds = λ s. nonnegative w.kind k.0 (dot w.entries v) r.0 }, flats j v ws k.1 r.1)
  | inr z ↦ let r : MeetsAll (flat_rows j ws) v = rw z at m in
      (record { holds = λ s. let g : is_zero (entry w.entries j) ≡ true = zero_test (entry w.entries j) s in let c : true ≡ false = sym g ∙ z in cc }, flats j v ws k.1 r)
]

agrees : (width j : ℕ) (v : List ℤ) (p q : PartRow) → Wide width p → Wide width q → entry q.entries j <ℤ pos 0 → pos 0 ≤ℤ dot (crossing j p q).entries v
    → pos 0 ≤ℤ ((neg_ℤ (entry q.entries j) *ℤ dot p.entries v) +ℤ (entry p.entries j *ℤ dot q.entries v))
agrees width j v p q lp lq l m =
    let h = meets_divided AtLeast (combined (pos (unsigned_abs (entry q.entries j))) p.entries (entry p.entries j) q.entries) v m in
    let c = dot_combined (pos (unsigned_abs (entry q.entries j))) p.entries (entry p.entries j) q.entries v (lp ∙ sym lq) in
    let s : pos (unsigned_abs (entry q.entries j)) ≡ neg_ℤ (entry q.entries j) = omega (arith, ints) in
    omega (arith, ints, ap (λ n. n *ℤ dot p.entries v) s)

agrees_against : (width j : ℕ) (v : List ℤ) (p : PartRow) (ws : List PartRow) → Wide width p → AllRows (Wide width) ws → MeetsAll (against j p ws) v
    → AllLines (Agrees (record { slope = entry p.entries j; value = dot p.entries v })) (lines j v ws)
agrees_against width j v p [] lp lw m = tt
agrees_against width j v p (q ∷ ws) lp lw m = elim (by_bool (int_lt (entry q.entries j) (pos 0))) [
  | inl e ↦ let r : MeetsAll (crossing j p q ∷ against j p ws) v = rw e at m in
      (record { holds = λ a b. agrees width j v p q lp lw.0 b r.0 }, agrees_against width j v p ws lp lw.1 r.1)
  | inr e ↦ let r : MeetsAll (against j p ws) v = rw e at m in
      (record { holds = λ a b. let f = is_less (entry q.entries j) (pos 0) b in let c : true ≡ false = sym f ∙ e in cc }, agrees_against width j v p ws lp lw.1 r)
]

not_rising : (p : Line) (xs : List Line) → p.slope ≤ℤ pos 0 → AllLines (Agrees p) xs
not_rising p [] l = tt
not_rising p (x ∷ xs) l = (record { holds = λ a b. absurd (omega (arith, ints)) }, not_rising p xs l)

agrees_crossed : (width j : ℕ) (v : List ℤ) (ps ws : List PartRow) → AllRows (Wide width) ps → AllRows (Wide width) ws → MeetsAll (crossed j ps ws) v
    → AllLines (λ p. AllLines (Agrees p) (lines j v ws)) (lines j v ps)
agrees_crossed width j v [] ws lp lw m = tt
agrees_crossed width j v (p ∷ ps) ws lp lw m = elim (by_bool (int_lt (pos 0) (entry p.entries j))) [
  | inl e ↦ let r : MeetsAll (against j p ws ++ crossed j ps ws) v = rw e at m in
      let s = meets_append (against j p ws) (crossed j ps ws) v r in
      (agrees_against width j v p ws lp.0 lw s.0, agrees_crossed width j v ps ws lp.1 lw s.1)
  | inr e ↦ let r : MeetsAll (crossed j ps ws) v = rw e at m in
      (not_rising (record { slope = entry p.entries j; value = dot p.entries v }) (lines j v ws) (omega (arith, ints)), agrees_crossed width j v ps ws lp.1 lw r)
]

from_lines : (j : ℕ) (v : List ℤ) (s t : ℤ) (ws : List PartRow) → j < length v → AllRows IsInequality ws → AllLines (Suits s t) (lines j v ws) → MeetsAll ws (move s t j v)
from_lines j v s t [] l k a = tt
from_lines j v s t (w ∷ ws) l k a =
    (inequality w.kind k.0 (dot w.entries (move s t j v)) (let h = a.0.holds in omega (arith, ints, dot_move s t j w.entries v l)), from_lines j v s t ws l k.1 a.1)

pub from_projected : (n width j : ℕ) (ws : List PartRow) → j < n → AllRows IsInequality ws → AllRows (Wide width) ws → HasPoint n (projected j ws) → HasPoint n ws
from_projected n width j ws l k lw h =
    let v : List ℤ = h.at ++ (h.factor ∷ []) in
    let m = meets_append (flat_rows j ws) (crossed j ws ws) v h.point.meets in
    let c = choose (lines j v ws) (flats j v ws k m.0) (agrees_crossed width j v ws ws lw lw m.1) in
    let i : j < length h.at = omega (arith, h.length_is) in
    let i2 : j < length (h.at ++ (h.factor ∷ [])) = omega (arith, length-append h.at (h.factor ∷ [])) in
    let r = from_lines j v c.times c.shift ws i2 k c.suits in
    let q0 : pos 0 <ℤ h.factor = omega (arith, ints, h.point.positive) in
    let q1 = mul_pos_z c.times h.factor c.positive q0 in
    record {
      at = move c.times c.shift j h.at;
      factor = c.times *ℤ h.factor;
      length_is = length_move c.times c.shift j h.at ∙ h.length_is;
      point = record { positive = omega (arith, ints, q1); meets = subst (MeetsAll ws) (move_append c.times c.shift j h.at h.factor i) r };
    }
