use Rattle.scop_core.specs.Held.{StatementIsHeld}
use Rattle.scop_core.proofs.HeldPieces.{AllBefore}
use Rattle.scop_core.proofs.held.statements_are_held.Given as goal

abbrev pub invariant-loop-raw : goal.invariant-loop-raw
invariant-loop-raw l = AllBefore (StatementIsHeld) l.raws l.raw-index
