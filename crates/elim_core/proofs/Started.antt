-- The working rows with which the elimination begins.
use Rattle.std.proofs.Common.{◌≡◌, refl, ap, sym, subst, ◌∙◌, ℕ, zero, suc, ◌+◌, ◌-◌, ◌<◌, ◌≤◌, List, [], ◌∷◌, ◌++◌, length, drop, replicate, arith, append_assoc}
use Rattle.std.specs.Prelude.{ℤ, pos, ◌+ℤ◌, ◌*ℤ◌}
use Rattle.std.proofs.lemmas.Int.{ints}
use Rattle.std.proofs.lemmas.List.{length-append, length-replicate, get_or_append_left}
use Rattle.std.proofs.Math.Seq.{drop-append_seam}
use Rattle.row_core.specs.Rows.{entry, dot}
use Rattle.relation_core.specs.declared.part_rows.PartRow.{PartRow}
use Rattle.relation_core.specs.declared.part_rows.RowKind.{RowKind}
use Rattle.relation_core.specs.declared.part_rows.RowKind.TheVariants.{Equal, AtLeast}
use Rattle.relation_core.specs.Points.{Meets, MeetsAll, HasPoint, column}
use Rattle.relation_core.specs.Systems.{row_at}
use Rattle.farkas_cert.specs.Certificates.{AllowedOne, Allowed}
use Rattle.elim_core.specs.Elimination.{unit, started_from, started}
use Rattle.elim_core.specs.RowLists.{AllRows, Wide}
use Rattle.elim_core.proofs.Derived.{FreeOne, Free, AllowedFor, IsDerived, Derived}

pub all_wide : (width : ℕ) (rows : List PartRow) → ((k : ℕ) → k < length rows → length (row_at rows k).entries ≡ width) → AllRows (Wide width) rows
all_wide width [] h = tt
all_wide width (r ∷ rows) h = (h 0 (omega arith), all_wide width rows (λ k l. h (suc k) (omega arith)))

pub column_zeros : (j : ℕ) (rows : List PartRow) (k : ℕ) → column (replicate j (pos 0)) rows k ≡ pos 0
column_zeros zero rows k = refl
column_zeros (suc j) [] k = refl
column_zeros (suc j) (r ∷ rows) k = omega (arith, ints, column_zeros j rows k)

column_unit : (before : List PartRow) (r : PartRow) (after : List PartRow) (j k : ℕ) → column (replicate (length before) (pos 0) ++ (pos 1 ∷ replicate j (pos 0))) (before ++ (r ∷ after)) k ≡ entry r.entries k
column_unit [] r after j k = omega (arith, ints, column_zeros j after k)
column_unit (b ∷ before) r after j k = omega (arith, ints, column_unit before r after j k)

free_zero : (kind : RowKind) → FreeOne kind (pos 0)
free_zero Equal = tt
free_zero AtLeast = refl

allowed_zero : (kind : RowKind) → AllowedOne kind (pos 0)
allowed_zero Equal = tt
allowed_zero AtLeast = omega (arith, ints)

allowed_one : (kind : RowKind) → AllowedOne kind (pos 1)
allowed_one Equal = tt
allowed_one AtLeast = omega (arith, ints)

pub free_zeros : (rows : List PartRow) (j : ℕ) → j ≡ length rows → Free rows (replicate j (pos 0))
free_zeros [] zero e = tt
free_zeros [] (suc j) e = absurd (omega arith)
free_zeros (r ∷ rows) zero e = absurd (omega arith)
free_zeros (r ∷ rows) (suc j) e = (free_zero r.kind, free_zeros rows j (omega arith))

pub allowed_zeros : (rows : List PartRow) (j : ℕ) → j ≡ length rows → Allowed rows (replicate j (pos 0))
allowed_zeros [] zero e = tt
allowed_zeros [] (suc j) e = absurd (omega arith)
allowed_zeros (r ∷ rows) zero e = absurd (omega arith)
allowed_zeros (r ∷ rows) (suc j) e = (allowed_zero r.kind, allowed_zeros rows j (omega arith))

free_unit : (before : List PartRow) (r : PartRow) (after : List PartRow) (j : ℕ) → j ≡ length after → FreeOne r.kind (pos 1) → Free (before ++ (r ∷ after)) (replicate (length before) (pos 0) ++ (pos 1 ∷ replicate j (pos 0)))
free_unit [] r after j e f = (f, free_zeros after j e)
free_unit (b ∷ before) r after j e f = (free_zero b.kind, free_unit before r after j e f)

allowed_unit : (before : List PartRow) (r : PartRow) (after : List PartRow) (j : ℕ) → j ≡ length after → Allowed (before ++ (r ∷ after)) (replicate (length before) (pos 0) ++ (pos 1 ∷ replicate j (pos 0)))
allowed_unit [] r after j e = (allowed_one r.kind, allowed_zeros after j e)
allowed_unit (b ∷ before) r after j e = (allowed_zero b.kind, allowed_unit before r after j e)

allowed_for_unit : (kind : RowKind) (before : List PartRow) (entries : List ℤ) (after : List PartRow) (j : ℕ) → j ≡ length after
    → AllowedFor kind (before ++ ((record { kind = kind; entries = entries }) ∷ after)) (replicate (length before) (pos 0) ++ (pos 1 ∷ replicate j (pos 0)))
allowed_for_unit Equal before entries after j e = free_unit before (record { kind = Equal; entries = entries }) after j e tt
allowed_for_unit AtLeast before entries after j e = allowed_unit before (record { kind = AtLeast; entries = entries }) after j e

pub length_unit : (i m : ℕ) → i < m → length (unit i m) ≡ m
length_unit i m l = omega (arith, length-append (replicate i (pos 0)) (pos 1 ∷ replicate (m - i - 1) (pos 0)), length-replicate i (pos 0), length-replicate (m - i - 1) (pos 0))

started_row : (n : ℕ) (before : List PartRow) (r : PartRow) (after : List PartRow) → length r.entries ≡ n + 1
    → IsDerived n (before ++ (r ∷ after)) r.kind (r.entries ++ unit (length before) (length (before ++ (r ∷ after))))
started_row n before r after w =
    let m : length (before ++ (r ∷ after)) ≡ length before + 1 + length after = omega (arith, length-append before (r ∷ after)) in
    let j : length (before ++ (r ∷ after)) - length before - 1 ≡ length after = omega arith in
    let d : drop (n + 1) (r.entries ++ unit (length before) (length (before ++ (r ∷ after)))) ≡ unit (length before) (length (before ++ (r ∷ after)))
    = subst (λ (k : ℕ). drop k (r.entries ++ unit (length before) (length (before ++ (r ∷ after)))) ≡ unit (length before) (length (before ++ (r ∷ after)))) w (drop-append_seam r.entries (unit (length before) (length (before ++ (r ∷ after))))) in
    record {
      width = omega (arith, length-append r.entries (unit (length before) (length (before ++ (r ∷ after)))), length_unit (length before) (length (before ++ (r ∷ after))) (omega arith));
      combines = λ k l.
          let i : k < length r.entries = omega arith in
          get_or_append_left r.entries (unit (length before) (length (before ++ (r ∷ after)))) (pos 0) k i
          ∙ (sym (column_unit before r after (length (before ++ (r ∷ after)) - length before - 1) k)
          ∙ ap (λ t. column t (before ++ (r ∷ after)) k) (sym d));
      allowed = subst (AllowedFor r.kind (before ++ (r ∷ after))) (sym d) (allowed_for_unit r.kind before r.entries after (length (before ++ (r ∷ after)) - length before - 1) j);
    }

pub started_rows : (n : ℕ) (rows before after : List PartRow) (i : ℕ) → before ++ after ≡ rows → i ≡ length before → AllRows (Wide (n + 1)) after → AllRows (Derived n rows) (started_from (length rows) i after)
started_rows n rows before [] i e f w = tt
started_rows n rows before (r ∷ after) i e f w =
    let h : IsDerived n (before ++ (r ∷ after)) r.kind (r.entries ++ unit (length before) (length (before ++ (r ∷ after)))) = started_row n before r after w.0 in
    let g : IsDerived n rows r.kind (r.entries ++ unit (length before) (length rows)) = subst (λ (s : List PartRow). IsDerived n s r.kind (r.entries ++ unit (length before) (length s))) e h in
    let k : IsDerived n rows r.kind (r.entries ++ unit i (length rows)) = subst (λ (t : ℕ). IsDerived n rows r.kind (r.entries ++ unit t (length rows))) (sym f) g in
    (k, started_rows n rows (before ++ (r ∷ [])) after (i + 1) (append_assoc before (r ∷ []) after ∙ e) (omega (arith, length-append before (r ∷ []))) w.1)

pub started_derived : (n : ℕ) (rows : List PartRow) → AllRows (Wide (n + 1)) rows → AllRows (Derived n rows) (started rows)
started_derived n rows h = started_rows n rows [] rows 0 refl refl h

pub length_started : (m i : ℕ) (rows : List PartRow) → length (started_from m i rows) ≡ length rows
length_started m i [] = refl
length_started m i (r ∷ rows) = omega (arith, length_started m (i + 1) rows)

-- the multipliers lie past the point
pub dot_append : (a u v : List ℤ) → length v ≤ length a → dot (a ++ u) v ≡ dot a v
dot_append [] [] [] e = refl
dot_append [] (y ∷ u) [] e = refl
dot_append [] u (x ∷ v) e = absurd (omega arith)
dot_append (c ∷ a) u [] e = refl
dot_append (c ∷ a) u (x ∷ v) e = ap (λ n. (c *ℤ x) +ℤ n) (dot_append a u v (omega arith))

pub from_started_rows : (m i width : ℕ) (rows : List PartRow) (v : List ℤ) → length v ≡ width → AllRows (Wide width) rows → MeetsAll (started_from m i rows) v → MeetsAll rows v
from_started_rows m i width [] v e w s = tt
from_started_rows m i width (r ∷ rows) v e w s =
    (subst (Meets r.kind) (dot_append r.entries (unit i m) v (omega (arith, e, w.0))) s.0, from_started_rows m (i + 1) width rows v e w.1 s.1)

pub from_started : (n : ℕ) (rows : List PartRow) → AllRows (Wide (n + 1)) rows → HasPoint n (started rows) → HasPoint n rows
from_started n rows w h =
    let e : length (h.at ++ (h.factor ∷ [])) ≡ n + 1 = omega (arith, h.length_is, length-append h.at (h.factor ∷ [])) in
    record {
      at = h.at;
      factor = h.factor;
      length_is = h.length_is;
      point = record { positive = h.point.positive; meets = from_started_rows (length rows) 0 (n + 1) rows (h.at ++ (h.factor ∷ [])) e w h.point.meets };
    }
