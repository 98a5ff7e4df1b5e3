use Rattle.std.proofs.Common.{take, length, ◌≤◌}
use Rattle.region_forms.specs.Evaluations.{EvaluationData, Signs, told}
use Rattle.region_forms.proofs.evaluations.Evaluation.signed.Given as goal

abbrev pub invariant-loop-left : goal.invariant-loop-left
invariant-loop-left l = (l.left ≤ length l.signs) × ((w : EvaluationData) → Signs (take l.left l.signs) (told l.value) w → Signs l.fn.signs (told l.fn.self) w)

abbrev pub decreases-loop-left : goal.decreases-loop-left
decreases-loop-left l = l.left
