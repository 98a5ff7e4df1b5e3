-- A number that rows with equal coefficients have in common, by which others are told apart sooner.
use Rattle.std.specs.Prelude.{ℕ, ◌+◌, ◌*◌, ◌%◌, ◌^◌, List, [], ◌∷◌, take, cond, int_lt, ℤ, pos, unsigned_abs}
use Rattle.relation_core.specs.declared.part_rows.PartRow.{PartRow}
use Rattle.elim_core.specs.Elimination.{is_zero}

-- a number and one entry more, at place k
abbrev pub mixed : ℕ → ℕ → ℤ → ℕ
mixed m k c = ((m * 41 + k) * cond (int_lt c (pos 0)) 37 31 + unsigned_abs c % 2 ^ 64) % 2 ^ 64

-- a number and those of the entries from place k on that aren't 0
abbrev pub key_onto : ℕ → ℕ → List ℤ → ℕ
key_onto m k [] = m
key_onto m k (c ∷ cells) = key_onto (cond (is_zero c) m (mixed m k c)) (k + 1) cells

-- the key of the coefficients of n variables
abbrev pub key : ℕ → PartRow → ℕ
key n w = key_onto 0 0 (take n w.entries)
