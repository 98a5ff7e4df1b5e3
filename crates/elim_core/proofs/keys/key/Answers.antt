use Rattle.std.proofs.Common.{◌≡◌, refl, sym, drop, take, arith}
use Rattle.row_core.specs.Rows.{entry}
use Rattle.elim_core.specs.Keys.{mixed, key_onto}
use Rattle.elim_core.proofs.Entries.{key_passes, key_turn}
use Rattle.elim_core.proofs.keys.key.Goals as goal

pub loop-k-init : goal.loop-k-init
loop-k-init g c = record {
  left = sym (key_passes 0 c.args.n 0 c.next_place-k.result c.args.w.now.entries (omega arith) c.next_place-k.ensures.to c.requires (λ i a b. c.next_place-k.ensures.zeros i a b));
  within = c.next_place-k.ensures.to;
  found = c.next_place-k.ensures.found;
  range = omega arith;
}

pub loop-k-preserved : goal.loop-k-preserved
loop-k-preserved g c =
    let m : c.mixed-key.result ≡ mixed c.loop-k.key c.loop-k.k (entry c.args.w.now.entries c.loop-k.k) = rw (c.mixed-key.ensures.value, c.entry.ensures) refl in
    let t : key_onto (mixed c.loop-k.key c.loop-k.k (entry c.args.w.now.entries c.loop-k.k)) c.next_place-k-in-loop-k.result (drop c.next_place-k-in-loop-k.result (take c.args.n c.args.w.now.entries))
    ≡ key_onto c.loop-k.key c.loop-k.k (drop c.loop-k.k (take c.args.n c.args.w.now.entries)) =
    key_turn c.loop-k.key c.args.n c.loop-k.k c.next_place-k-in-loop-k.result c.args.w.now.entries c.loop-k-test.true c.next_place-k-in-loop-k.ensures.from c.next_place-k-in-loop-k.ensures.to c.requires
    (c.loop-k.invariant.found c.loop-k-test.true) (λ i a b. c.next_place-k-in-loop-k.ensures.zeros i a b) in
    record {
      left = rw (m, t) c.loop-k.invariant.left;
      within = c.next_place-k-in-loop-k.ensures.to;
      found = c.next_place-k-in-loop-k.ensures.found;
      range = c.mixed-key.ensures.range;
    }
