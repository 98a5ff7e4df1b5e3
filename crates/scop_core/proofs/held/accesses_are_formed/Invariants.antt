use Rattle.std.proofs.Common.{List}
use Rattle.std.specs.Prelude.{All}
use Rattle.relation_core.specs.Systems.{System}
use Rattle.scop_data.specs.declared.accesses.AccessKind.{AccessKind}
use Rattle.scop_core.specs.Held.{IsFormed}
use Rattle.scop_core.proofs.HeldPieces.{AllBefore}
use Rattle.scop_core.proofs.held.accesses_are_formed.Given as goal

abbrev pub invariant-loop-access : goal.invariant-loop-access
invariant-loop-access l = AllBefore (λ (access : AccessKind × List System). All IsFormed access.1) l.accesses l.access-index
