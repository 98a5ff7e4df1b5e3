use Rattle.std.proofs.Common.{◌+◌, ◌-◌, ◌*◌, arith}
use Rattle.schedule_forms.specs.SolvedForm.{levels_from, has_output}
use Rattle.schedule_forms.proofs.SolvedShapes.{each_at}
use Rattle.schedule_forms.proofs.SolvedForms.{levels_more, more_one}
use Rattle.schedule_forms.proofs.part_solutions.levels_of.Goals as goal

pub loop-k-preserved : goal.loop-k-preserved
loop-k-preserved c = record {
  all = levels_more c.args.part.now c.args.n c.loop-k.k c.loop-k.made c.push_level.new.made _ (omega arith) c.in_ok-push_level.ensures.made c.loop-k.invariant.all;
  sizes = c.in_ok-push_level.ensures.sizes c.loop-k.invariant.sizes;
  count = more_one _ _ _ _ c.in_ok-push_level.ensures.made c.loop-k.invariant.count;
}

pub push_level-requires-clause-given : goal.push_level-requires-clause-given
push_level-requires-clause-given c = each_at (has_output c.args.part.now) c.args.part.now.shape.outputs (2 * c.loop-k.k + 1) (omega arith) c.requires.given
