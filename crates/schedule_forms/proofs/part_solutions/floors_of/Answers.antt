use Rattle.std.proofs.Common.{◌+◌, ◌-◌, arith}
use Rattle.schedule_forms.specs.SolvedForm.{floors_from, has_floor}
use Rattle.schedule_forms.proofs.SolvedShapes.{each_at}
use Rattle.schedule_forms.proofs.SolvedForms.{floors_more, more_one}
use Rattle.schedule_forms.proofs.part_solutions.floors_of.Goals as goal

pub loop-k-preserved : goal.loop-k-preserved
loop-k-preserved c = record {
  all = floors_more c.args.part.now c.args.n c.loop-k.k c.loop-k.made c.push_floor.new.made _ (omega arith) c.in_ok-push_floor.ensures.made c.loop-k.invariant.all;
  sizes = c.in_ok-push_floor.ensures.sizes c.loop-k.invariant.sizes;
  pairs = c.in_ok-push_floor.ensures.pairs c.loop-k.invariant.pairs;
  count = more_one _ _ _ _ c.in_ok-push_floor.ensures.made c.loop-k.invariant.count;
}

pub push_floor-requires-clause-given : goal.push_floor-requires-clause-given
push_floor-requires-clause-given c = each_at (has_floor c.args.part.now) c.args.n c.loop-k.k (omega arith) c.requires.given
