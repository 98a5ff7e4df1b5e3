-- The reduced rows of a base, with the further rows of a system behind them, are a reduction of the
-- system's rows.
use Rattle.std.proofs.Common.{◌≡◌, refl, ap, sym, subst, ◌∙◌, ℕ, zero, suc, ◌+◌, ◌-◌, ◌≤◌, List, [], ◌∷◌, ◌++◌, length, take, drop, map, replicate, arith}
use Rattle.std.specs.Prelude.{ℤ, pos, Option, Some, None, Result, Ok, Err, IfOk}
use Rattle.std.proofs.lemmas.Int.{ints}
use Rattle.std.proofs.lemmas.List.{length-append, length-replicate, length-drop, get_or_append_left, take-append-drop}
use Rattle.relation_core.proofs.Points.{meets_append as meets_both}
use Rattle.relation_core.specs.declared.part_rows.PartRow.{PartRow}
use Rattle.relation_core.specs.declared.part_rows.RowKind.{RowKind}
use Rattle.relation_core.specs.declared.part_rows.RowKind.TheVariants.{Equal, AtLeast}
use Rattle.relation_core.specs.Points.{Meets, MeetsAll, HasPoint, column}
use Rattle.relation_core.specs.declared.shapes.Shape.{Shape}
use Rattle.relation_core.specs.Systems.{System, columns, IsWellFormed}
use Rattle.farkas_cert.specs.Certificates.{Allowed}
use Rattle.elim_core.specs.Elimination.{started, started_from, from_rows}
use Rattle.elim_core.specs.Multipliers.{Free, AllowedFor, Derived}
use Rattle.elim_core.specs.Peaks.{column_order}
use Rattle.elim_core.specs.RowLists.{AllRows, Wide}
use Rattle.elim_core.specs.Reductions.{Reduces, IsReduction, widened, Settles}
use Rattle.elim_core.proofs.AllRows.{all_append}
use Rattle.elim_core.proofs.ColumnOrder.{order_covers, order_below}
use Rattle.elim_core.proofs.Points.{meets_append}
use Rattle.elim_core.proofs.Reducing.{all_split}
use Rattle.elim_core.proofs.Started.{all_wide, column_zeros, free_zeros, allowed_zeros, dot_append, started_derived, started_rows, from_started_rows}
use Rattle.elim_core.proofs.Whole.{rows_solved, rows_refuted}

-- a point has one coordinate more than there are variables
point_length : (n : ℕ) (x : List ℤ) (q : ℤ) → length x ≡ n → length (x ++ (q ∷ [])) ≡ n + 1
point_length n x q l = omega (arith, l, length-append x (q ∷ []))

-- what comes of a base's starting rows is a reduction of the base
pub reduced_base : (n : ℕ) (base ws : List PartRow) → AllRows (Wide (n + 1)) base → Reduces n (started base) ws → IsReduction n base ws
reduced_base n base ws w r = record {
  derived = r.derives base (started_derived n base w);
  keeps = λ x q l p m. from_started_rows (length base) 0 (n + 1) base (x ++ (q ∷ [])) (point_length n x q l) w (r.keeps x q l p m);
}

drop_append : (k : ℕ) (a b : List ℤ) → k ≤ length a → drop k (a ++ b) ≡ drop k a ++ b
drop_append zero a b l = refl
drop_append (suc k) [] b l = absurd (omega arith)
drop_append (suc k) (x ∷ a) b l = drop_append k a b (omega arith)

column_widened : (ls : List ℤ) (base more : List PartRow) (count k : ℕ) → length ls ≡ length base → column (ls ++ replicate count (pos 0)) (base ++ more) k ≡ column ls base k
column_widened [] [] more count k e = column_zeros count more k
column_widened [] (r ∷ base) more count k e = absurd (omega arith)
column_widened (l ∷ ls) [] more count k e = absurd (omega arith)
column_widened (l ∷ ls) (r ∷ base) more count k e = omega (arith, ints, column_widened ls base more count k (omega arith))

free_append : (a b : List PartRow) (ls ms : List ℤ) → Free a ls → Free b ms → Free (a ++ b) (ls ++ ms)
free_append [] b [] ms f g = g
free_append [] b (l ∷ ls) ms f g = absurd f
free_append (r ∷ a) b [] ms f g = absurd f
free_append (r ∷ a) b (l ∷ ls) ms f g = (f.0, free_append a b ls ms f.1 g)

allowed_append : (a b : List PartRow) (ls ms : List ℤ) → Allowed a ls → Allowed b ms → Allowed (a ++ b) (ls ++ ms)
allowed_append [] b [] ms f g = g
allowed_append [] b (l ∷ ls) ms f g = absurd f
allowed_append (r ∷ a) b [] ms f g = absurd f
allowed_append (r ∷ a) b (l ∷ ls) ms f g = (f.0, allowed_append a b ls ms f.1 g)

allowed_widened : (kind : RowKind) (base more : List PartRow) (ls : List ℤ) (count : ℕ) → count ≡ length more → AllowedFor kind base ls → AllowedFor kind (base ++ more) (ls ++ replicate count (pos 0))
allowed_widened Equal base more ls count e f = free_append base more ls (replicate count (pos 0)) f (free_zeros more count e)
allowed_widened AtLeast base more ls count e f = allowed_append base more ls (replicate count (pos 0)) f (allowed_zeros more count e)

widened_derived : (n : ℕ) (base more : List PartRow) (count : ℕ) (w : PartRow) → count ≡ length more → Derived n base w → Derived n (base ++ more) (widened count w)
widened_derived n base more count w e d =
    let zeros : List ℤ = replicate count (pos 0) in
    let ls : List ℤ = drop (n + 1) w.entries in
    let within : n + 1 ≤ length w.entries = omega (arith, d.width) in
    let split : drop (n + 1) (w.entries ++ zeros) ≡ ls ++ zeros = drop_append (n + 1) w.entries zeros within in
    let many : length (drop (n + 1) w.entries) ≡ length base = omega (arith, d.width, length-drop (n + 1) w.entries) in
    record {
      width = omega (arith, d.width, length-append w.entries (replicate count (pos 0)), length-replicate count (pos 0), length-append base more);
      combines = λ k l.
          get_or_append_left w.entries zeros (pos 0) k (omega (arith, l, within))
          ∙ (d.combines k l ∙ (sym (column_widened ls base more count k many) ∙ ap (λ t. column t (base ++ more) k) (sym split)));
      allowed = subst (AllowedFor w.kind (base ++ more)) (sym split) (allowed_widened w.kind base more ls count e d.allowed);
    }

all_widened : (n : ℕ) (base more : List PartRow) (count : ℕ) (ws : List PartRow) → count ≡ length more → AllRows (Derived n base) ws → AllRows (Derived n (base ++ more)) (map (widened count) ws)
all_widened n base more count [] e d = tt
all_widened n base more count (w ∷ ws) e d = (widened_derived n base more count w e d.0, all_widened n base more count ws e d.1)

from_widened : (n : ℕ) (base : List PartRow) (count : ℕ) (ws : List PartRow) (v : List ℤ) → length v ≡ n + 1 → AllRows (Derived n base) ws → MeetsAll (map (widened count) ws) v → MeetsAll ws v
from_widened n base count [] v e d m = tt
from_widened n base count (w ∷ ws) v e d m =
    (subst (Meets w.kind) (dot_append w.entries (replicate count (pos 0)) v (omega (arith, e, d.0.width))) m.0, from_widened n base count ws v e d.1 m.1)

pub joined_lists : (n : ℕ) (base more ws : List PartRow) (count : ℕ) → count ≡ length more → IsReduction n base ws → AllRows (Wide (n + 1)) (base ++ more)
    → IsReduction n (base ++ more) (map (widened count) ws ++ started_from (length (base ++ more)) (length base) more)
joined_lists n base more ws count e r w =
    let wide = all_split (Wide (n + 1)) base more w in
    record {
      derived = all_append (Derived n (base ++ more)) (map (widened count) ws) (started_from (length (base ++ more)) (length base) more)
          (all_widened n base more count ws e r.derived)
          (started_rows n (base ++ more) base more (length base) refl refl wide.1);
      keeps = λ x q l p m.
          let v : List ℤ = x ++ (q ∷ []) in
          let s = meets_append (map (widened count) ws) (started_from (length (base ++ more)) (length base) more) v m in
          meets_both base more v (r.keeps x q l p (from_widened n base count ws v (point_length n x q l) r.derived s.0))
          (from_started_rows (length (base ++ more)) (length base) (n + 1) more v (point_length n x q l) wide.1 s.1);
    }

-- rows that begin with the base's are those and the further ones
pub begun_rows : (base rows : List PartRow) → take (length base) rows ≡ base → base ++ drop (length base) rows ≡ rows
begun_rows base rows e = ap (λ t. t ++ drop (length base) rows) (sym e) ∙ take-append-drop (length base) rows

pub joined_rows : (n : ℕ) (base rows ws : List PartRow) → take (length base) rows ≡ base → IsReduction n base ws → AllRows (Wide (n + 1)) rows
    → IsReduction n rows (map (widened (length rows - length base)) ws ++ started_from (length rows) (length base) (drop (length base) rows))
joined_rows n base rows ws e r w =
    let t = begun_rows base rows e in
    let many : length rows - length base ≡ length (drop (length base) rows) = omega (arith, length-drop (length base) rows) in
    let whole : AllRows (Wide (n + 1)) (base ++ drop (length base) rows) = subst (AllRows (Wide (n + 1))) (sym t) w in
    subst (λ (s : List PartRow). IsReduction n s (map (widened (length rows - length base)) ws ++ started_from (length s) (length base) (drop (length base) rows))) t
    (joined_lists n base (drop (length base) rows) ws (length rows - length base) many r whole)

-- with the base as a reduction of its own keeps it
pub joined : (base system own : System) (ws : List PartRow) → own ≡ base → system.shape ≡ base.shape → take (length base.rows) system.rows ≡ base.rows → IsWellFormed system.shape system.rows
    → IsReduction (columns own.shape) own.rows ws
    → IsReduction (columns system.shape) system.rows (map (widened (length system.rows - length own.rows)) ws ++ started_from (length system.rows) (length own.rows) (drop (length own.rows) system.rows))
joined base system own ws e s t f r =
    let r2 : IsReduction (columns base.shape) base.rows ws = subst (λ (b : System). IsReduction (columns b.shape) b.rows ws) e r in
    let r3 : IsReduction (columns system.shape) base.rows ws = subst (λ (h : Shape). IsReduction (columns h) base.rows ws) (sym s) r2 in
    let w : AllRows (Wide (columns system.shape + 1)) system.rows = all_wide (columns system.shape + 1) system.rows f.widths in
    subst (λ (b : System). IsReduction (columns system.shape) system.rows (map (widened (length system.rows - length b.rows)) ws ++ started_from (length system.rows) (length b.rows) (drop (length b.rows) system.rows))) (sym e)
    (joined_rows (columns system.shape) base.rows system.rows ws t r3 w)

solved_reduction : (n : ℕ) (rows ws : List PartRow) → IsReduction n rows ws → HasPoint n ws → HasPoint n rows
solved_reduction n rows ws r h = record {
  at = h.at;
  factor = h.factor;
  length_is = h.length_is;
  point = record { positive = h.point.positive; meets = r.keeps h.at h.factor h.length_is h.point.positive h.point.meets };
}

-- an elimination of a reduction of a system's rows settles the system
pub settles : (system : System) (ws : List PartRow) (most : ℕ) (found : Option (List ℤ)) → IsReduction (columns system.shape) system.rows ws → length ws ≤ most
    → found ≡ (from_rows (columns system.shape) (column_order system.shape) most ws).refutation → Settles system found
settles system ws most None r l f =
    solved_reduction (columns system.shape) system.rows ws r
    (rows_solved (columns system.shape) system.rows (column_order system.shape) most ws l (order_covers system.shape) (order_below system.shape) r.derived (sym f))
settles system ws most (Some c) r l f = rows_refuted (columns system.shape) system.rows (column_order system.shape) most ws c r.derived (sym f)

pub settles_ok : {E : Type 0} (system : System) (n : ℕ) (js : List ℕ) (ws : List PartRow) (most : ℕ) (result : Result (Option (List ℤ)) E) → n ≡ columns system.shape → js ≡ column_order system.shape
    → IsReduction (columns system.shape) system.rows ws → length ws ≤ most
    → IfOk result (λ found. found ≡ (from_rows n js most ws).refutation) → IfOk result (λ found. Settles system found)
settles_ok system n js ws most (Ok found) d e r l f =
    settles system ws most found r l (subst (λ (k : ℕ). found ≡ (from_rows k (column_order system.shape) most ws).refutation) d (subst (λ (ks : List ℕ). found ≡ (from_rows n ks most ws).refutation) e f))
settles_ok system n js ws most (Err x) d e r l f = tt
