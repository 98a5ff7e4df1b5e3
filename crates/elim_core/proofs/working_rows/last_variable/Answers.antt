use Rattle.std.proofs.Common.{arith}
use Rattle.elim_core.proofs.Entries.{last_passes, last_turn}
use Rattle.elim_core.proofs.working_rows.last_variable.Goals as goal

pub loop-k-init : goal.loop-k-init
loop-k-init g c = record {
  value = last_passes 0 c.next_place-k.result c.args.w.now.entries (omega arith) (λ i a b. c.next_place-k.ensures.zeros i a b);
  within = c.next_place-k.ensures.to;
  range = omega arith;
  found = c.next_place-k.ensures.found;
}

pub loop-k-preserved : goal.loop-k-preserved
loop-k-preserved g c = record {
  value = last_turn c.loop-k.k c.next_place-k-in-loop-k.result c.args.w.now.entries (omega (arith, c.next_place-k-in-loop-k.ensures.from)) (c.loop-k.invariant.found c.loop-k-test.true)
      (λ i a b. c.next_place-k-in-loop-k.ensures.zeros i (omega (arith, a)) b);
  within = c.next_place-k-in-loop-k.ensures.to;
  range = c.loop-k.invariant.within;
  found = c.next_place-k-in-loop-k.ensures.found;
}
