use Rattle.std.proofs.Common.{◌≡◌, ◌∷◌, take}
use Rattle.region_names.proofs.scopes.scope_inside.Given as goal

abbrev pub invariant-loop-outer : goal.invariant-loop-outer
invariant-loop-outer l = l.inside ≡ l.fn.name ∷ take l.outer-index l.scope
