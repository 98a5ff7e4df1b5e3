use Rattle.std.proofs.Common.{◌≡◌, ◌<◌, refl, ◌++◌, ◌∷◌, [], drop, length, arith}
use Rattle.std.specs.Prelude.{int_div, pos}
use Rattle.row_core.specs.Rows.{entry}
use Rattle.elim_core.specs.Gcd.{divided_by}
use Rattle.elim_core.proofs.Entries.{divided_begins, divided_passes, divided_turn, length_passed}
use Rattle.elim_core.proofs.division.quotients.Goals as goal

pub loop-k-init : goal.loop-k-init
loop-k-init g c =
    let a = c.in_ok-k.ensures in
    let t : g.R.Row.coefficients c.pass_zeros.new.made ++ divided_by c.args.divisor (drop c.in_ok-k.k (g.R.Row.coefficients c.args.row.now))
    ≡ g.R.Row.coefficients c.in_ok-made.made ++ divided_by c.args.divisor (drop (length (g.R.Row.coefficients c.in_ok-made.made)) (g.R.Row.coefficients c.args.row.now)) =
    divided_passes c.args.divisor (length (g.R.Row.coefficients c.in_ok-made.made)) c.in_ok-k.k (g.R.Row.coefficients c.in_ok-made.made) (g.R.Row.coefficients c.pass_zeros.new.made) (g.R.Row.coefficients c.args.row.now) c.requires.positive a.row a.rest in
    record {
      left = rw t (divided_begins c.args.divisor (g.R.Row.coefficients c.in_ok-made.made) (g.R.Row.coefficients c.args.row.now) c.in_ok-made.ensures);
      count = length_passed c.in_ok-k.k (g.R.Row.coefficients c.in_ok-made.made) (g.R.Row.coefficients c.pass_zeros.new.made) a.from a.row;
      within = a.to;
    }

pub loop-k-preserved : goal.loop-k-preserved
loop-k-preserved g c =
    let a = c.in_ok-k-2.ensures in
    let l : c.loop-k.k < length (g.R.Row.coefficients c.args.row.now) = omega (arith, c.loop-k-test.true, c.len.ensures.answer) in
    let p : g.R.Row.coefficients c.push.new.self ≡ g.R.Row.coefficients c.loop-k.made ++ (int_div (entry (g.R.Row.coefficients c.args.row.now) c.loop-k.k) (pos c.args.divisor) ∷ []) =
    rw (c.in_ok-push.ensures, c.quotient.ensures, c.get.ensures) refl in
    let t : g.R.Row.coefficients c.pass_zeros-in-loop-k.new.made ++ divided_by c.args.divisor (drop c.in_ok-k-2.k (g.R.Row.coefficients c.args.row.now))
    ≡ g.R.Row.coefficients c.push.new.self ++ divided_by c.args.divisor (drop (length (g.R.Row.coefficients c.push.new.self)) (g.R.Row.coefficients c.args.row.now)) =
    divided_passes c.args.divisor (length (g.R.Row.coefficients c.push.new.self)) c.in_ok-k-2.k (g.R.Row.coefficients c.push.new.self) (g.R.Row.coefficients c.pass_zeros-in-loop-k.new.made) (g.R.Row.coefficients c.args.row.now) c.requires.positive a.row a.rest in
    let u : g.R.Row.coefficients c.push.new.self ++ divided_by c.args.divisor (drop (length (g.R.Row.coefficients c.push.new.self)) (g.R.Row.coefficients c.args.row.now))
    ≡ g.R.Row.coefficients c.loop-k.made ++ divided_by c.args.divisor (drop c.loop-k.k (g.R.Row.coefficients c.args.row.now)) =
    divided_turn c.args.divisor c.loop-k.k (g.R.Row.coefficients c.loop-k.made) (g.R.Row.coefficients c.push.new.self) (g.R.Row.coefficients c.args.row.now) c.loop-k.invariant.count l p in
    record {
      left = rw t (rw u c.loop-k.invariant.left);
      count = length_passed c.in_ok-k-2.k (g.R.Row.coefficients c.push.new.self) (g.R.Row.coefficients c.pass_zeros-in-loop-k.new.made) a.from a.row;
      within = a.to;
    }
