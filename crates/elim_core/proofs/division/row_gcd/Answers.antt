use Rattle.std.proofs.Common.{◌≡◌, ◌<◌, refl, sym, ◌∙◌, drop, length, arith}
use Rattle.std.specs.Prelude.{unsigned_abs}
use Rattle.row_core.specs.Rows.{entry}
use Rattle.elim_core.specs.Gcd.{gcd, gcd_onto}
use Rattle.elim_core.proofs.Entries.{gcd_passes, gcd_turn}
use Rattle.elim_core.proofs.Quotients.{gcd_onto_one}
use Rattle.elim_core.proofs.division.row_gcd.Goals as goal

pub loop-k-init : goal.loop-k-init
loop-k-init g c = record {
  left = sym (gcd_passes 0 0 c.next_place-k.result (g.R.Row.coefficients c.args.row.now) (omega arith) (omega (arith, c.next_place-k.ensures.to, c.len.ensures.answer)) (λ i a b. c.next_place-k.ensures.zeros i a b));
  within = omega (arith, c.next_place-k.ensures.to, c.len.ensures.answer);
  range = omega arith;
}

pub loop-k-preserved : goal.loop-k-preserved
loop-k-preserved g c =
    let l : c.loop-k.k < length (g.R.Row.coefficients c.args.row.now) = omega (arith, c.loop-k-test.true, c.len-in-loop-k.ensures.answer) in
    let d : c.gcd-divisor.result ≡ gcd c.loop-k.divisor (unsigned_abs (entry (g.R.Row.coefficients c.args.row.now) c.loop-k.k)) =
    rw (c.gcd-divisor.ensures.value, c.magnitude.ensures.value, c.get.ensures) refl in
    let t : gcd_onto (gcd c.loop-k.divisor (unsigned_abs (entry (g.R.Row.coefficients c.args.row.now) c.loop-k.k))) (drop c.next_place-k-in-loop-k.result (g.R.Row.coefficients c.args.row.now))
    ≡ gcd_onto c.loop-k.divisor (drop c.loop-k.k (g.R.Row.coefficients c.args.row.now)) =
    gcd_turn c.loop-k.divisor c.loop-k.k c.next_place-k-in-loop-k.result (g.R.Row.coefficients c.args.row.now) l c.next_place-k-in-loop-k.ensures.from
    (omega (arith, c.next_place-k-in-loop-k.ensures.to, c.len-in-loop-k-2.ensures.answer)) (λ i a b. c.next_place-k-in-loop-k.ensures.zeros i a b) in
    record {
      left = rw (d, t) c.loop-k.invariant.left;
      within = omega (arith, c.next_place-k-in-loop-k.ensures.to, c.len-in-loop-k-2.ensures.answer);
      range = c.gcd-divisor.ensures.range;
    }

pub returns-then-divisor-eq1-clause-value : goal.returns-then-divisor-eq1-clause-value
returns-then-divisor-eq1-clause-value g c =
    let h : gcd_onto 1 (drop c.loop-k.k (g.R.Row.coefficients c.args.row.now)) ≡ gcd_onto 0 (g.R.Row.coefficients c.args.row.now) = rw c.if-divisor-eq1.true at c.loop-k.invariant.left in
    sym (gcd_onto_one (drop c.loop-k.k (g.R.Row.coefficients c.args.row.now))) ∙ h
