-- The stated elimination: substitution of the equalities, then Fourier-Motzkin elimination of each
-- column, over unbounded integers. A working row has the entries of a row of n variables, its
-- constant at place n, and behind it one multiplier for each row of the system.
pub use Rattle.suite_base.specs.Sequences.{In}
use Rattle.std.specs.Prelude.{◌≡◌, ℕ, zero, suc, ◌+◌, ◌-◌, ◌<◌, ◌⊎◌, List, [], ◌∷◌, ◌++◌, Bool, true, false, not, cond, Option, Some, None, length, take, drop, map, max, replicate, nat_eq, int_lt, int_le, ℤ, pos, negsuc, ◌-ℤ◌, neg_ℤ, unsigned_abs}
use Rattle.row_core.specs.Rows.{entry, combined, combined_weight}
use Rattle.relation_core.specs.declared.part_rows.PartRow.{PartRow}
use Rattle.relation_core.specs.declared.part_rows.RowKind.{RowKind}
use Rattle.relation_core.specs.declared.part_rows.RowKind.TheVariants.{Equal, AtLeast}
use Rattle.elim_core.specs.Gcd.{divided}

abbrev pub is_zero : ℤ → Bool
is_zero (pos n) = nat_eq n 0
is_zero (negsuc n) = false

abbrev pub all_zero : List ℤ → Bool
all_zero [] = true
all_zero (c ∷ cells) = cond (is_zero c) (all_zero cells) false

abbrev pub same_cells : List ℤ → List ℤ → Bool
same_cells [] [] = true
same_cells [] (y ∷ b) = false
same_cells (x ∷ a) [] = false
same_cells (x ∷ a) (y ∷ b) = cond (is_zero (x -ℤ y)) (same_cells a b) false

abbrev pub is_equal : RowKind → Bool
is_equal Equal = true
is_equal AtLeast = false

-- the multipliers with which the elimination begins: 1 at place i, 0 elsewhere
abbrev pub unit : ℕ → ℕ → List ℤ
unit i m = replicate i (pos 0) ++ (pos 1 ∷ replicate (m - i - 1) (pos 0))

-- rows i, i + 1 and so on of a system of m rows, each with its multipliers
abbrev pub started_from : ℕ → ℕ → List PartRow → List PartRow
started_from m i [] = []
started_from m i (r ∷ rows) = (record { kind = r.kind; entries = r.entries ++ unit i m }) ∷ started_from m (i + 1) rows

abbrev pub started : List PartRow → List PartRow
started rows = started_from (length rows) 0 rows

-- Contradictions.

-- a row of n variables has none of them
abbrev pub is_constant : ℕ → PartRow → Bool
is_constant n w = all_zero (take n w.entries)

-- a row whose value is its constant fails
abbrev pub fails : RowKind → ℤ → Bool
fails Equal c = not (is_zero c)
fails AtLeast c = int_lt c (pos 0)

abbrev pub is_contradiction : ℕ → PartRow → Bool
is_contradiction n w = cond (is_constant n w) (fails w.kind (entry w.entries n)) false

-- the multipliers of a contradiction, negated for an equality with a positive constant
abbrev pub certificate_of : ℕ → PartRow → List ℤ
certificate_of n w = cond (int_lt (pos 0) (entry w.entries n)) (map neg_ℤ (drop (n + 1) w.entries)) (drop (n + 1) w.entries)

-- the certificate of the first contradiction
abbrev pub refutation_of : ℕ → List PartRow → Option (List ℤ)
refutation_of n [] = None
refutation_of n (w ∷ ws) = cond (is_contradiction n w) (Some (certificate_of n w)) (refutation_of n ws)

-- the rows that have variables
abbrev pub with_variables : ℕ → List PartRow → List PartRow
with_variables n [] = []
with_variables n (w ∷ ws) = cond (is_constant n w) (with_variables n ws) (w ∷ with_variables n ws)

-- Prune.

-- two inequalities with equal coefficients on all variables
abbrev pub alike : ℕ → PartRow → PartRow → Bool
alike n a b = cond (is_equal a.kind) false (cond (is_equal b.kind) false (same_cells (take n a.entries) (take n b.entries)))

-- a row inserted into pruned ones: of two alike the one with the lesser constant stays, the first on a tie
abbrev pub admitted : ℕ → List PartRow → PartRow → List PartRow
admitted n [] w = w ∷ []
admitted n (o ∷ kept) w = cond (alike n o w) (cond (int_le (entry o.entries n) (entry w.entries n)) (o ∷ kept) (kept ++ (w ∷ []))) (o ∷ admitted n kept w)

abbrev pub pruned_onto : ℕ → List PartRow → List PartRow → List PartRow
pruned_onto n kept [] = kept
pruned_onto n kept (w ∷ ws) = pruned_onto n (admitted n kept w) ws

-- the rows that stay: those that have variables, pruned
abbrev pub normalised : ℕ → List PartRow → List PartRow
normalised n ws = pruned_onto n [] (with_variables n ws)

-- Substitute.

abbrev pub first_equality : List PartRow → Option PartRow
first_equality [] = None
first_equality (w ∷ ws) = cond (is_equal w.kind) (Some w) (first_equality ws)

abbrev pub without_equality : List PartRow → List PartRow
without_equality [] = []
without_equality (w ∷ ws) = cond (is_equal w.kind) ws (w ∷ without_equality ws)

-- the last of the first n places whose entry isn't 0
abbrev pub last_variable : ℕ → List ℤ → ℕ
last_variable zero cells = 0
last_variable (suc k) cells = cond (is_zero (entry cells k)) (last_variable k cells) k

-- minus b times the sign of a
abbrev pub turned : ℤ → ℤ → ℤ
turned a b = cond (int_lt a (pos 0)) b (neg_ℤ b)

-- |a| w - sign(a) b e, for the entries a of e and b of w in column j, divided; w itself where b is 0
abbrev pub substituted_row : ℕ → PartRow → PartRow → PartRow
substituted_row j e w = cond (is_zero (entry w.entries j)) w (record { kind = w.kind; entries = divided (combined (pos (unsigned_abs (entry e.entries j))) w.entries (turned (entry e.entries j) (entry w.entries j)) e.entries) })

abbrev pub substituted : ℕ → PartRow → List PartRow → List PartRow
substituted j e [] = []
substituted j e (w ∷ ws) = substituted_row j e w ∷ substituted j e ws

abbrev pub substituted_row_weight : ℕ → PartRow → PartRow → ℕ
substituted_row_weight j e w = cond (is_zero (entry w.entries j)) 0 (combined_weight (pos (unsigned_abs (entry e.entries j))) w.entries (turned (entry e.entries j) (entry w.entries j)) e.entries)

abbrev pub substituted_weight : ℕ → PartRow → List PartRow → ℕ
substituted_weight j e [] = 0
substituted_weight j e (w ∷ ws) = max (substituted_row_weight j e w) (substituted_weight j e ws)

-- Project.

-- the rows that don't have column j
abbrev pub flat_rows : ℕ → List PartRow → List PartRow
flat_rows j [] = []
flat_rows j (w ∷ ws) = cond (is_zero (entry w.entries j)) (w ∷ flat_rows j ws) (flat_rows j ws)

-- |q's entry| p + p's entry q, divided: column j cancels
abbrev pub crossing : ℕ → PartRow → PartRow → PartRow
crossing j p q = record { kind = AtLeast; entries = divided (combined (pos (unsigned_abs (entry q.entries j))) p.entries (entry p.entries j) q.entries) }

abbrev pub crossing_weight : ℕ → PartRow → PartRow → ℕ
crossing_weight j p q = combined_weight (pos (unsigned_abs (entry q.entries j))) p.entries (entry p.entries j) q.entries

-- p against each row with a negative entry
abbrev pub against : ℕ → PartRow → List PartRow → List PartRow
against j p [] = []
against j p (q ∷ ws) = cond (int_lt (entry q.entries j) (pos 0)) (crossing j p q ∷ against j p ws) (against j p ws)

abbrev pub against_weight : ℕ → PartRow → List PartRow → ℕ
against_weight j p [] = 0
against_weight j p (q ∷ ws) = cond (int_lt (entry q.entries j) (pos 0)) (max (crossing_weight j p q) (against_weight j p ws)) (against_weight j p ws)

-- each row with a positive entry against each row with a negative one
abbrev pub crossed : ℕ → List PartRow → List PartRow → List PartRow
crossed j [] ws = []
crossed j (p ∷ ps) ws = cond (int_lt (pos 0) (entry p.entries j)) (against j p ws ++ crossed j ps ws) (crossed j ps ws)

abbrev pub crossed_weight : ℕ → List PartRow → List PartRow → ℕ
crossed_weight j [] ws = 0
crossed_weight j (p ∷ ps) ws = cond (int_lt (pos 0) (entry p.entries j)) (max (against_weight j p ws) (crossed_weight j ps ws)) (crossed_weight j ps ws)

abbrev pub projected : ℕ → List PartRow → List PartRow
projected j ws = flat_rows j ws ++ crossed j ws ws

-- The whole.

-- how an elimination ends, the certificate where the system is empty, and its peak: the greatest sum
-- of two absolute products, and the greatest number of rows of one projection
pub record Elimination : Type 0 where
  pub refutation : Option (List ℤ)
  pub weight : ℕ
  pub count : ℕ

-- a step of this weight and row count, and then the rest
abbrev pub after : ℕ → ℕ → Elimination → Elimination
after w c rest = record { refutation = rest.refutation; weight = max w rest.weight; count = max c rest.count }

abbrev pub ends_with : Option (List ℤ) → Elimination
ends_with r = record { refutation = r; weight = 0; count = 0 }

-- from rows without equalities: the columns are projected in turn
abbrev pub from_columns : ℕ → List ℕ → List PartRow → Elimination
from_columns n [] ws = ends_with None
from_columns n (j ∷ js) ws = after (crossed_weight j ws ws) (length (projected j ws)) (elim (refutation_of n (projected j ws)) [ Some certificate ↦ ends_with (Some certificate) | None ↦ from_columns n js (normalised n (projected j ws)) ])

-- the rows after the substitution of an equality
abbrev pub without : ℕ → PartRow → List PartRow → List PartRow
without n e ws = substituted (last_variable n e.entries) e (without_equality ws)

abbrev pub without_weight : ℕ → PartRow → List PartRow → ℕ
without_weight n e ws = substituted_weight (last_variable n e.entries) e (without_equality ws)

-- the equalities are substituted in turn, at most the given number of them, then the columns projected
abbrev pub from_equalities : ℕ → List ℕ → ℕ → List PartRow → Elimination
from_equalities n columns zero ws = from_columns n columns ws
from_equalities n columns (suc more) ws = elim (first_equality ws) [ None ↦ from_columns n columns ws | Some e ↦ after (without_weight n e ws) 0 (elim (refutation_of n (without n e ws)) [ Some certificate ↦ ends_with (Some certificate) | None ↦ from_equalities n columns more (normalised n (without n e ws)) ]) ]

-- from any working rows: they are searched for a contradiction and normalised once before the rest
abbrev pub from_rows : ℕ → List ℕ → ℕ → List PartRow → Elimination
from_rows n columns most ws = elim (refutation_of n ws) [ Some certificate ↦ ends_with (Some certificate) | None ↦ from_equalities n columns most (normalised n ws) ]

-- the stated elimination of a system of n variables, whose columns are projected in the given order
abbrev pub elimination : ℕ → List ℕ → List PartRow → Elimination
elimination n columns rows = from_rows n columns (length rows) (started rows)

-- each of the n variables is projected
abbrev pub Covers : ℕ → List ℕ → Type 0
Covers n js = (k : ℕ) → k < n → In k js

-- only variables are projected
abbrev pub Below : ℕ → List ℕ → Type 0
Below n [] = Unit {0}
Below n (j ∷ js) = (j < n) × Below n js
