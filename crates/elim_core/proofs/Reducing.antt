-- The equalities of a base are substituted and kept: the new rows hold only where the old ones do.
use Rattle.std.proofs.Common.{◌≡◌, ap, sym, subst, ◌∙◌, inl, inr, ℕ, ◌+◌, List, [], ◌∷◌, ◌++◌, length, arith}
use Rattle.std.specs.Prelude.{true, false, Some, None, ℤ, pos, ◌*ℤ◌, unsigned_abs}
use Rattle.std.proofs.lemmas.Int.{ints}
use Rattle.row_core.proofs.Rows.{dot_combined}
use Rattle.row_core.specs.Rows.{entry, dot, combined}
use Rattle.relation_core.proofs.Points.{meets_append as meets_both}
use Rattle.relation_core.specs.declared.part_rows.PartRow.{PartRow}
use Rattle.relation_core.specs.declared.part_rows.RowKind.{RowKind}
use Rattle.relation_core.specs.declared.part_rows.RowKind.TheVariants.{Equal, AtLeast}
use Rattle.relation_core.specs.Points.{Meets, MeetsAll}
use Rattle.elim_core.specs.Gcd.{divided}
use Rattle.elim_core.specs.Elimination.{is_zero, is_equal, is_contradiction, refutation_of, normalised, first_equality, without_equality, last_variable, turned, substituted_row, substituted}
use Rattle.elim_core.specs.Multipliers.{Derived}
use Rattle.elim_core.specs.RowLists.{AllRows, Wide}
use Rattle.elim_core.specs.Reductions.{Reduces, Relieved}
use Rattle.elim_core.proofs.Tests.{by_bool}
use Rattle.elim_core.proofs.AllRows.{all_append, all_normalised, no_refutation, all_substituted, all_without_equality, at_first_equality}
use Rattle.elim_core.proofs.Derived.{substituted_derived}
use Rattle.elim_core.proofs.Points.{meets_untimes, meets_divided, meets_append, from_normalised_at}
use Rattle.elim_core.proofs.Back.{kind_stays, unsigned_positive, with_equality}
use Rattle.elim_core.proofs.Widths.{substituted_wide, wide_normalised}
use Rattle.elim_core.proofs.Lengths.{length_substituted, length_without}
use Rattle.elim_core.proofs.Whole.{last_is}

pub all_split : (P : PartRow → Type 0) (a b : List PartRow) → AllRows P (a ++ b) → AllRows P a × AllRows P b
all_split P [] b p = (tt, p)
all_split P (w ∷ a) b p = let r = all_split P a b p.1 in ((p.0, r.0), r.1)

-- where the equality and a row after its substitution hold, so does the row
from_row : (width j : ℕ) (e w : PartRow) (v : List ℤ) → is_zero (entry e.entries j) ≡ false → dot e.entries v ≡ pos 0 → Wide width e → Wide width w
    → Meets w.kind (dot (substituted_row j e w).entries v) → Meets w.kind (dot w.entries v)
from_row width j e w v z h le lw m = elim (by_bool (is_zero (entry w.entries j))) [
  | inl y ↦ let g : Meets w.kind (dot w.entries v) = rw y at m in g
  | inr y ↦
      let s : ℤ = pos (unsigned_abs (entry e.entries j)) in
      let t : ℤ = turned (entry e.entries j) (entry w.entries j) in
      let f : Meets w.kind (dot (divided (combined (pos (unsigned_abs (entry e.entries j))) w.entries (turned (entry e.entries j) (entry w.entries j)) e.entries)) v) = rw y at m in
      let k = meets_divided w.kind (combined s w.entries t e.entries) v f in
      let c = dot_combined s w.entries t e.entries v (lw ∙ sym le) in
      let g : dot (combined s w.entries t e.entries) v ≡ s *ℤ dot w.entries v = omega (arith, ints, ap (λ n. t *ℤ n) h) in
      meets_untimes w.kind s (dot w.entries v) (unsigned_positive (entry e.entries j) z) (subst (Meets w.kind) g k)
]

from_rows_at : (width j : ℕ) (e : PartRow) (ws : List PartRow) (v : List ℤ) → is_zero (entry e.entries j) ≡ false → dot e.entries v ≡ pos 0 → Wide width e → AllRows (Wide width) ws
    → MeetsAll (substituted j e ws) v → MeetsAll ws v
from_rows_at width j e [] v z h le lw m = tt
from_rows_at width j e (w ∷ ws) v z h le lw m =
    (from_row width j e w v z h le lw.0 (subst (λ k. Meets k (dot (substituted_row j e w).entries v)) (kind_stays j e w) m.0), from_rows_at width j e ws v z h le lw.1 m.1)

equality_means : (kind : RowKind) → is_equal kind ≡ true → (d : ℤ) → Meets kind d → d ≡ pos 0
equality_means Equal k d m = m
equality_means AtLeast k d m = cc

-- the rows left, where the equality holds and what has become of them
from_relieved : (n width : ℕ) (e : PartRow) (before after : List PartRow) (v : List ℤ) → Relieved n e before after → dot e.entries v ≡ pos 0 → Wide width e → AllRows (Wide width) before
    → MeetsAll after v → MeetsAll before v
from_relieved n width e before after v r h le lw m = elim r [
  | inl s ↦ subst (λ ws. MeetsAll ws v) s m
  | inr s ↦ from_rows_at width (last_variable n e.entries) e before v (last_is n e.entries s.0).entry_is h le lw (subst (λ ws. MeetsAll ws v) s.1 m)
]

relieved_derived : (n : ℕ) (base : List PartRow) (e : PartRow) (before after : List PartRow) → Relieved n e before after → Derived n base e → is_equal e.kind ≡ true → AllRows (Derived n base) before → AllRows (Derived n base) after
relieved_derived n base e before after r de k d = elim r [
  | inl s ↦ subst (AllRows (Derived n base)) (sym s) d
  | inr s ↦ subst (AllRows (Derived n base)) (sym s.1) (all_substituted (Derived n base) (Derived n base) (last_variable n e.entries) e before (substituted_derived n base (last_variable n e.entries) e de k) d)
]

pub relieved_wide : (n width : ℕ) (e : PartRow) (rest after : List PartRow) → first_equality rest ≡ Some e → Relieved n e (without_equality rest) after → AllRows (Wide width) rest → AllRows (Wide width) after
relieved_wide n width e rest after f r w =
    let le = (at_first_equality (Wide width) rest e f w).0 in
    let lw = all_without_equality (Wide width) rest w in
    elim r [
      | inl s ↦ subst (AllRows (Wide width)) (sym s) lw
      | inr s ↦ subst (AllRows (Wide width)) (sym s.1) (all_substituted (Wide width) (Wide width) (last_variable n e.entries) e (without_equality rest) (λ w c. substituted_wide width (last_variable n e.entries) e w le c) lw)
    ]

pub relieved_length : (n : ℕ) (e : PartRow) (rest after : List PartRow) → first_equality rest ≡ Some e → Relieved n e (without_equality rest) after → length after + 1 ≡ length rest
relieved_length n e rest after f r =
    let l = length_without rest e f in
    elim r [
      | inl s ↦ omega (arith, ap (λ (t : List PartRow). length t) s)
      | inr s ↦ omega (arith, ap (λ (t : List PartRow). length t) s.1, length_substituted (last_variable n e.entries) e (without_equality rest))
    ]

pub reduces_trans : (n : ℕ) (a b c : List PartRow) → Reduces n a b → Reduces n b c → Reduces n a c
reduces_trans n a b c r s = record { widths = λ width w. s.widths width (r.widths width w); derives = λ base d. s.derives base (r.derives base d); keeps = λ x q l p m. r.keeps x q l p (s.keeps x q l p m) }

-- one turn: the first equality joins those that are done, and the other rows are relieved of it
turn : (n width : ℕ) (done rest after : List PartRow) (e : PartRow) → first_equality rest ≡ Some e → AllRows (Wide width) rest → Relieved n e (without_equality rest) after
    → Reduces n (done ++ rest) ((done ++ (e ∷ [])) ++ after)
turn n width done rest after e f w r = record {
  widths = λ k a.
      let s = all_split (Wide k) done rest a in
      all_append (Wide k) (done ++ (e ∷ [])) after (all_append (Wide k) done (e ∷ []) s.0 ((at_first_equality (Wide k) rest e f s.1).0, tt))
      (relieved_wide n k e rest after f r s.1);
  derives = λ base d.
      let s = all_split (Derived n base) done rest d in
      let h = at_first_equality (Derived n base) rest e f s.1 in
      all_append (Derived n base) (done ++ (e ∷ [])) after (all_append (Derived n base) done (e ∷ []) s.0 (h.0, tt))
      (relieved_derived n base e (without_equality rest) after r h.0 h.1 (all_without_equality (Derived n base) rest s.1));
  keeps = λ x q l p m.
      let v : List ℤ = x ++ (q ∷ []) in
      let s = meets_append (done ++ (e ∷ [])) after v m in
      let t = meets_append done (e ∷ []) v s.0 in
      let h = at_first_equality (Wide width) rest e f w in
      let z = equality_means e.kind h.1 (dot e.entries v) t.1.0 in
      meets_both done rest v t.0 (with_equality rest e v f t.1.0 (from_relieved n width e (without_equality rest) after v r z h.0 (all_without_equality (Wide width) rest w) s.1));
}

pub turned_on : (n width : ℕ) (rows done rest after : List PartRow) (e : PartRow) → Reduces n rows (done ++ rest) → first_equality rest ≡ Some e → AllRows (Wide width) rest → Relieved n e (without_equality rest) after
    → Reduces n rows ((done ++ (e ∷ [])) ++ after)
turned_on n width rows done rest after e g f w r = reduces_trans n rows (done ++ rest) ((done ++ (e ∷ [])) ++ after) g (turn n width done rest after e f w r)

-- where no row is a contradiction, normalising loses nothing
pub normalised_reduces : (n : ℕ) (ws : List PartRow) → refutation_of n ws ≡ None → Reduces n ws (normalised n ws)
normalised_reduces n ws e = record {
  widths = λ width w. wide_normalised width n ws w;
  derives = λ base d. all_normalised (Derived n base) n ws d;
  keeps = λ x q l p m.
      from_normalised_at ws x q p
      (subst (λ (k : ℕ). AllRows (λ w. is_contradiction k w ≡ false) ws) (sym l) (no_refutation n ws e))
      (subst (λ (k : ℕ). MeetsAll (normalised k ws) (x ++ (q ∷ []))) (sym l) m);
}
