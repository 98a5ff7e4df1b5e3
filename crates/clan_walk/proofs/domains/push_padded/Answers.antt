use Rattle.std.proofs.Common.{◌∙◌, ◌++◌, ◌-◌, length, ap, sym, append_assoc}
use Rattle.std.proofs.lemmas.Result.{on_ok_weaker}
use Rattle.scop_data.specs.SolvedRows.{zeros}
use Rattle.clan_walk.proofs.Columns.{padded_short, padded_long}
use Rattle.clan_walk.proofs.domains.push_padded.Goals as goal

pub returns-in_ok-push_all : goal.returns-in_ok-push_all
returns-in_ok-push_all c =
    on_ok_weaker c.push_zeros.result
    (λ e. e ∙ ap (λ xs. xs ++ zeros (c.args.n - length c.args.coeffs.now)) c.in_ok-push_all.ensures
    ∙ append_assoc c.args.row.now c.args.coeffs.now (zeros (c.args.n - length c.args.coeffs.now))
    ∙ ap (λ xs. c.args.row.now ++ xs) (sym (padded_short c.args.n c.args.coeffs.now c.if-coeffs-n.true)))
    c.push_zeros.ensures

pub returns-else-coeffs-n : goal.returns-else-coeffs-n
returns-else-coeffs-n c =
    on_ok_weaker c.push_all-else-coeffs-n.result
    (λ e. e ∙ ap (λ xs. c.args.row.now ++ xs) (sym (padded_long c.args.n c.args.coeffs.now c.if-coeffs-n.false))) c.push_all-else-coeffs-n.ensures
