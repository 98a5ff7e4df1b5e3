use Rattle.std.proofs.Common.{arith}
use Rattle.scop_core.proofs.Assemblies.{names_more}
use Rattle.schedule_forms.proofs.SolvedForms.{more_one}
use Rattle.scop_core.proofs.assembling.names_of.Goals as goal

pub loop-k-preserved : goal.loop-k-preserved
loop-k-preserved c = record {
  all = names_more c.args.n c.loop-k.k c.loop-k.made c.push_name.new.made _ (omega arith) c.in_ok-push_name.ensures c.loop-k.invariant.all;
  count = more_one _ _ _ _ c.in_ok-push_name.ensures c.loop-k.invariant.count;
}
