use Rattle.std.proofs.Common.{take}
use Rattle.c_parser.specs.declared.tree.And.{out-And}
use Rattle.c_parser.specs.declared.tree.Or.{out-Or}
use Rattle.region_trees.specs.Terms.{Conjunction, Disjunction, and_of, equal_of}
use Rattle.region_forms.specs.Conditions.{AreTestsAt, made_layer}
use Rattle.region_forms.proofs.conditions.+conditions.Given as goal

abbrev pub invariant-and_layer-loop-equal : goal.invariant-and_layer-loop-equal
invariant-and_layer-loop-equal l = AreTestsAt l.scope l.truth Conjunction (equal_of l.scope.source.now) (take l.equal-index (out-And l.«and»).items) (made_layer l.layer)

abbrev pub invariant-or_layer-loop-and : goal.invariant-or_layer-loop-and
invariant-or_layer-loop-and l = AreTestsAt l.scope l.truth Disjunction (and_of l.scope.source.now) (take l.and-index (out-Or l.or).items) (made_layer l.layer)
