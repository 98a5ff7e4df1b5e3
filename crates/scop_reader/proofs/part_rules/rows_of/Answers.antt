use Rattle.std.proofs.Common.{rules, arith}
use Rattle.std.proofs.lemmas.Grind.{common_steps}
use Rattle.scop_reader.specs.Rules.{rows_from}
use Rattle.scop_reader.proofs.Turns.{one_more, no_more}
use Rattle.scop_reader.proofs.part_rules.rows_of.Goals as goal

pub returns-in_err-kind : goal.returns-in_err-kind
unfolding rows_from
returns-in_err-kind c =
    let e = one_more (λ n. rows_from c.args.columns n c.loop-turn.part.rows c.loop-turn.cursor) _ c.loop-turn._turn c.loop-turn-test.true c.loop-turn.invariant.rows in
    first_of (search rules, grind (arith, common_steps))

pub loop-turn-preserved : goal.loop-turn-preserved
unfolding rows_from
loop-turn-preserved c =
    let e = one_more (λ n. rows_from c.args.columns n c.loop-turn.part.rows c.loop-turn.cursor) _ c.loop-turn._turn c.loop-turn-test.true c.loop-turn.invariant.rows in
    first_of (search rules, grind (arith, common_steps))

pub returns : goal.returns
unfolding rows_from
returns c =
    let e = no_more (λ n. rows_from c.args.columns n c.loop-turn.part.rows c.loop-turn.cursor) _ c.loop-turn._turn c.loop-turn-test.false c.loop-turn.invariant.rows in
    first_of (search rules, grind (arith, common_steps))
