use Rattle.std.proofs.Common.{arith}
use Rattle.scop_core.specs.Held.{StatementIsHeld}
use Rattle.scop_core.proofs.HeldPieces.{one_more, all_before}
use Rattle.scop_core.proofs.held.statements_are_held.Goals as goal

pub loop-raw-preserved : goal.loop-raw-preserved
loop-raw-preserved c = one_more (StatementIsHeld) c.args.raws.now c.loop-raw.raw-index c.raw-item.result (omega arith) c.raw-item.is c.statement_is_held.ensures c.loop-raw.invariant

pub returns : goal.returns
returns c = all_before (StatementIsHeld) c.args.raws.now c.loop-raw.raw-index c.loop-raw-test.false c.loop-raw.invariant
