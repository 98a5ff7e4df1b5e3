use Rattle.std.proofs.Common.{length, arith}
use Rattle.elim_core.proofs.Entries.{drop_zeros}
use Rattle.elim_core.proofs.division.pass_zeros.Goals as goal

pub returns-clause-rest : goal.returns-clause-rest
returns-clause-rest g c =
    let e = c.len-start.ensures.answer in
    drop_zeros (length (g.R.Row.coefficients c.args.made.now)) c.next_place-end.result (g.R.Row.coefficients c.args.row.now) (omega (arith, e, c.next_place-end.ensures.from)) (omega (arith, c.next_place-end.ensures.to, c.len.ensures.answer))
    (λ i a b. c.next_place-end.ensures.zeros i (omega (arith, e, a)) b)
