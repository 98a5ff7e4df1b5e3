use Rattle.std.proofs.Common.{◌≡◌, map, take, pos}
use Rattle.clan_walk.proofs.scatterings.betas_of.Given as goal

abbrev pub invariant-loop-turn : goal.invariant-loop-turn
invariant-loop-turn l = l.made ≡ map (λ t. pos t.beta) (take l.turn-index l.turns)
