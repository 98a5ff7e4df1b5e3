use Rattle.std.specs.Prelude.{length}
use Rattle.std.proofs.Common.{sym, ap, ◌∙◌}
use Rattle.row_core.proofs.Sparse.{length_spread}
use Rattle.row_core.proofs.sparse_rows.SparseRow.len.Goals as goal

pub returns-clause-answer : goal.returns-clause-answer
returns-clause-answer c = sym (length_spread 0 c.self.inside.len c.self.inside.entries.items) ∙ ap length c.self.view_is
