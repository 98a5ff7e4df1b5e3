-- Every step keeps the number of entries of each row.
use Rattle.std.proofs.Common.{◌≡◌, sym, ◌∙◌, inl, inr, ℕ, ◌+◌, List, [], ◌∷◌, length, arith}
use Rattle.std.specs.Prelude.{pos, unsigned_abs}
use Rattle.std.proofs.lemmas.List.{length-append}
use Rattle.row_core.specs.Rows.{entry, combined}
use Rattle.relation_core.specs.declared.part_rows.PartRow.{PartRow}
use Rattle.elim_core.specs.RowLists.{AllRows, Wide}
use Rattle.elim_core.specs.Elimination.{is_zero, crossing, projected, normalised, turned, substituted_row, substituted, started, started_from, unit}
use Rattle.elim_core.proofs.Tests.{by_bool}
use Rattle.elim_core.proofs.Quotients.{length_divided}
use Rattle.elim_core.proofs.Algebra.{length_combined}
use Rattle.elim_core.proofs.AllRows.{all_projected, all_normalised, all_substituted}
use Rattle.elim_core.proofs.Started.{length_unit}

crossing_wide : (width j : ℕ) (p q : PartRow) → Wide width p → Wide width q → Wide width (crossing j p q)
crossing_wide width j p q a b =
    length_divided (combined (pos (unsigned_abs (entry q.entries j))) p.entries (entry p.entries j) q.entries)
    ∙ (length_combined (pos (unsigned_abs (entry q.entries j))) p.entries (entry p.entries j) q.entries (a ∙ sym b) ∙ a)

pub wide_projected : (width j : ℕ) (ws : List PartRow) → AllRows (Wide width) ws → AllRows (Wide width) (projected j ws)
wide_projected width j ws a = all_projected (Wide width) (Wide width) j ws (λ w p z. p) (λ p q a b l m. crossing_wide width j p q a b) a

pub wide_normalised : (width n : ℕ) (ws : List PartRow) → AllRows (Wide width) ws → AllRows (Wide width) (normalised n ws)
wide_normalised width n ws a = all_normalised (Wide width) n ws a

pub substituted_wide : (width j : ℕ) (e w : PartRow) → Wide width e → Wide width w → Wide width (substituted_row j e w)
substituted_wide width j e w a b = elim (by_bool (is_zero (entry w.entries j))) [
  | inl z ↦ rw z b
  | inr z ↦ rw z (length_divided (combined (pos (unsigned_abs (entry e.entries j))) w.entries (turned (entry e.entries j) (entry w.entries j)) e.entries)
      ∙ (length_combined (pos (unsigned_abs (entry e.entries j))) w.entries (turned (entry e.entries j) (entry w.entries j)) e.entries (b ∙ sym a) ∙ b))
]

pub wide_substituted : (width j : ℕ) (e : PartRow) (ws : List PartRow) → Wide width e → AllRows (Wide width) ws → AllRows (Wide width) (substituted j e ws)
wide_substituted width j e ws a b = all_substituted (Wide width) (Wide width) j e ws (λ w c. substituted_wide width j e w a c) b

started_wide : (m i n : ℕ) (rows : List PartRow) → i + length rows ≡ m → AllRows (Wide n) rows → AllRows (Wide (n + m)) (started_from m i rows)
started_wide m i n [] e a = tt
started_wide m i n (r ∷ rows) e a = (omega (arith, length-append r.entries (unit i m), length_unit i m (omega arith), a.0), started_wide m (i + 1) n rows (omega arith) a.1)

pub wide_started : (n : ℕ) (rows : List PartRow) → AllRows (Wide n) rows → AllRows (Wide (n + length rows)) (started rows)
wide_started n rows a = started_wide (length rows) 0 n rows (omega arith) a
