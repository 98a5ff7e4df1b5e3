use Rattle.scop_core.proofs.Arrays.{added}
use Rattle.scop_core.proofs.array_tables.ArrayTable.push_copy.Goals as goal

pub returns : goal.returns
returns c = added _ _ _ c.args.identifier _ _ c.in_ok-insert.ensures.entries c.self.view_is c.in_ok-name.ensures c.requires
