use Rattle.std.proofs.Common.{rules, arith}
use Rattle.std.proofs.lemmas.Grind.{common_steps}
use Rattle.clan_rows.proofs.Multiples.{first_found}
use Rattle.clan_rows.proofs.named_forms.first_row.Goals as goal

pub returns-then-is_same : goal.returns-then-is_same
returns-then-is_same c =
    first_found c.args.factor c.loop-rest.rest.now _ _ c.loop-rest.row _ _ _ _ c.in-len1-up.len_at_least c.first-item.is (first_of (search rules, grind common_steps))
    c.in_ok-push.ensures.ok c.in_ok-push_zeros.ensures (first_of (omega arith, search rules)) c.loop-rest.invariant
