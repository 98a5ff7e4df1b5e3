use Rattle.std.proofs.Common.{◌+◌, ◌-◌, ◌*◌, arith}
use Rattle.schedule_forms.specs.SolvedForm.{betas_from, has_output}
use Rattle.schedule_forms.proofs.SolvedShapes.{each_at}
use Rattle.schedule_forms.proofs.SolvedForms.{betas_more, more_one}
use Rattle.schedule_forms.proofs.part_solutions.betas_of.Goals as goal

pub loop-k-preserved : goal.loop-k-preserved
loop-k-preserved c = record {
  all = betas_more c.args.part.now c.args.n c.loop-k.k c.loop-k.made c.push_beta.new.made _ (omega arith) c.in_ok-push_beta.ensures c.loop-k.invariant.all;
  count = more_one _ _ _ _ c.in_ok-push_beta.ensures c.loop-k.invariant.count;
}

pub push_beta-requires-clause-given : goal.push_beta-requires-clause-given
push_beta-requires-clause-given c = each_at (has_output c.args.part.now) c.args.part.now.shape.outputs (2 * c.loop-k.k) (omega arith) c.requires.given
