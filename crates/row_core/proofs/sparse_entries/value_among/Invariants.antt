use Rattle.std.proofs.Common.{◌≡◌, drop}
use Rattle.row_core.specs.Sparse.{value_among}
use Rattle.row_core.proofs.sparse_entries.value_among.Given as goal

abbrev pub invariant-loop-entry : goal.invariant-loop-entry
invariant-loop-entry l = value_among l.place (drop l.entry-index l.entries) ≡ value_among l.place l.entries
