use Rattle.std.proofs.Common.{arith, subst}
use Rattle.std.specs.Prelude.{All, List}
use Rattle.relation_core.specs.Systems.{System}
use Rattle.scop_core.specs.Held.{IsFormed}
use Rattle.scop_core.proofs.HeldPieces.{one_more, all_before}
use Rattle.scop_core.proofs.held.parts_are_formed.Goals as goal

pub loop-part-preserved : goal.loop-part-preserved
loop-part-preserved c = one_more (IsFormed) c.parts-parts.result.now c.loop-part.part-index c.part-item.result (omega arith) c.part-item.is c.row_count-rows.ensures.form c.loop-part.invariant

pub returns : goal.returns
returns c = subst (λ (xs : List System). All IsFormed xs) c.parts-parts.ensures (all_before (IsFormed) c.parts-parts.result.now c.loop-part.part-index c.loop-part-test.false c.loop-part.invariant)
