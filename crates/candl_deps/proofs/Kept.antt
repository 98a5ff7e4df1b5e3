-- Right verdicts are sound: what the law on kept systems asks.
use Rattle.std.proofs.Common.{ℤ, List, [], ◌∷◌}
use Rattle.std.specs.Prelude.{Option, Some, None}
use Rattle.relation_core.specs.Systems.{System}
use Rattle.dependence_systems.specs.declared.dependences.Dep.{Dep}
use Rattle.dependence_systems.specs.Sides.{Side}
use Rattle.dependence_blocks.specs.Conflicts.{AreSound}
use Rattle.candl_deps.specs.Decisions.{AreRight}

-- right verdicts are sound
pub right_is_sound : (context : System) (sides : List Side) (list : List Dep) (verdicts : List (Option (List ℤ)))
    → AreRight context sides list verdicts → AreSound context sides list verdicts
right_is_sound context sides [] [] h = tt
right_is_sound context sides [] (v ∷ verdicts) h = absurd h
right_is_sound context sides (e ∷ list) [] h = absurd h
right_is_sound context sides (e ∷ list) (None ∷ verdicts) h = (tt, right_is_sound context sides list verdicts h.1)
right_is_sound context sides (e ∷ list) (Some certificate ∷ verdicts) h = (h.0.no_point, right_is_sound context sides list verdicts h.1)
