use Rattle.std.proofs.Common.{rules, arith}
use Rattle.std.proofs.lemmas.Grind.{common_steps}
use Rattle.scop_reader.specs.Rules.{parts_from}
use Rattle.scop_reader.proofs.Turns.{one_more, no_more}
use Rattle.scop_reader.proofs.relation_rules.parts_of.Goals as goal

pub returns-in_err-next : goal.returns-in_err-next
unfolding parts_from
returns-in_err-next c =
    let e = one_more (λ n. parts_from c.loop-turn.role_here c.args.k n c.loop-turn.relation c.loop-turn.cursor) _ c.loop-turn._turn c.loop-turn-test.true c.loop-turn.invariant.parts in
    first_of (search rules, grind (arith, common_steps))

pub loop-turn-preserved : goal.loop-turn-preserved
unfolding parts_from
loop-turn-preserved c =
    let e = one_more (λ n. parts_from c.loop-turn.role_here c.args.k n c.loop-turn.relation c.loop-turn.cursor) _ c.loop-turn._turn c.loop-turn-test.true c.loop-turn.invariant.parts in
    first_of (search rules, grind (arith, common_steps))

pub returns : goal.returns
unfolding parts_from
returns c =
    let e = no_more (λ n. parts_from c.loop-turn.role_here c.args.k n c.loop-turn.relation c.loop-turn.cursor) _ c.loop-turn._turn c.loop-turn-test.false c.loop-turn.invariant.parts in
    first_of (search rules, grind (arith, common_steps))
