use Rattle.std.proofs.Common.{arith}
use Rattle.std.specs.Prelude.{All, List}
use Rattle.relation_core.specs.Systems.{System}
use Rattle.scop_data.specs.declared.accesses.AccessKind.{AccessKind}
use Rattle.scop_core.specs.Held.{IsFormed}
use Rattle.scop_core.proofs.HeldPieces.{one_more, all_before}
use Rattle.scop_core.proofs.held.accesses_are_formed.Goals as goal

pub loop-access-preserved : goal.loop-access-preserved
loop-access-preserved c = one_more (λ (access : AccessKind × List System). All IsFormed access.1) c.args.accesses.now c.loop-access.access-index c.access-item.result (omega arith) c.access-item.is c.parts_are_formed.ensures c.loop-access.invariant

pub returns : goal.returns
returns c = all_before (λ (access : AccessKind × List System). All IsFormed access.1) c.args.accesses.now c.loop-access.access-index c.loop-access-test.false c.loop-access.invariant
