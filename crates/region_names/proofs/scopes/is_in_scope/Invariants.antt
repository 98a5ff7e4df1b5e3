use Rattle.std.proofs.Common.{◌≡◌, length}
use Rattle.clan_extract.specs.Regions.{is_among}
use Rattle.region_names.specs.Walks.{scope_of}
use Rattle.region_names.proofs.scopes.is_in_scope.Given as goal

abbrev pub invariant-loop-scope : goal.invariant-loop-scope
invariant-loop-scope l = is_among l.name (scope_of l.source l.scope) ≡ is_among l.name (scope_of l.source l.fn.scope)

abbrev pub decreases-loop-scope : goal.decreases-loop-scope
decreases-loop-scope l = length l.scope
