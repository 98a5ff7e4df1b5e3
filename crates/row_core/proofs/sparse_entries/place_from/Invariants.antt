use Rattle.std.proofs.Common.{◌≡◌, drop}
use Rattle.row_core.specs.Sparse.{place_from}
use Rattle.row_core.proofs.sparse_entries.place_from.Given as goal

abbrev pub invariant-loop-entry : goal.invariant-loop-entry
invariant-loop-entry l = place_from l.start l.end (drop l.entry-index l.entries) ≡ place_from l.start l.end l.entries
