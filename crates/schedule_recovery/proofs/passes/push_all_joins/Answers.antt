use Rattle.std.proofs.Common.{◌-◌}
use Rattle.suite_base.specs.Limits.{max_levels}
use Rattle.chlore_recover.specs.Orders.{vectors_of}
use Rattle.schedule_recovery.proofs.Agreements.{joins_end}
use Rattle.schedule_recovery.proofs.PassSteps.{joins_more}
use Rattle.schedule_recovery.proofs.passes.push_all_joins.Goals as goal

pub loop-k-preserved : goal.loop-k-preserved
loop-k-preserved c = record {
  script = joins_more c.loop-k.k max_levels c.args.first.now (vectors_of c.args.rest.now) c.loop-k.script _ _ c.loop-k-test.true c.in_ok-push_joins.ensures c.loop-k.invariant.script;
  short = c.in_ok-check_length.ensures.ok;
}

pub returns-then-k-most-clause-ok : goal.returns-then-k-most-clause-ok
returns-then-k-most-clause-ok c =
    joins_end c.most_agreement-most.result c.loop-k.k (max_levels - c.loop-k.k) c.args.first.now (vectors_of c.args.rest.now) c.loop-k.script _ c.most_agreement-most.ensures c.if-k-most.true c.loop-k.invariant.script
