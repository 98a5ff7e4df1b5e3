use Rattle.std.specs.Prelude.{length}
use Rattle.std.specs.List.{All}
use Rattle.clan_walk.specs.Places.{IsSizedForm}
use Rattle.region_extract.proofs.Naming.{FormsRest}
use Rattle.region_extract.proofs.accesses.forms_of.Given as goal

abbrev pub invariant-loop-subscript : goal.invariant-loop-subscript
invariant-loop-subscript l = record {
  told : FormsRest l.scope.parameters.now l.scope.loops.now l.scope.source.now l.subscripts l.subscript-index l.forms;
  sizes : All (IsSizedForm (length l.scope.loops.now) (length l.scope.parameters.now)) l.forms;
}
