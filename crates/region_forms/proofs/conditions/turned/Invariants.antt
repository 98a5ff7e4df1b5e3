use Rattle.std.proofs.Common.{◌≡◌, drop}
use Rattle.region_forms.specs.Conditions.{turned}
use Rattle.region_forms.proofs.conditions.turned.Given as goal

abbrev pub invariant-loop-sign : goal.invariant-loop-sign
invariant-loop-sign l = turned l.truth (drop l.sign-index l.signs) ≡ turned l.fn.truth l.fn.signs
