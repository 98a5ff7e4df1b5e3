use Rattle.std.proofs.Common.{rules, arith}
use Rattle.std.proofs.lemmas.Grind.{common_steps}
use Rattle.scop_reader.specs.Rules.{accesses_from}
use Rattle.scop_reader.proofs.Turns.{one_more, no_more}
use Rattle.scop_reader.proofs.relation_rules.accesses.Goals as goal

pub returns-in_err-next : goal.returns-in_err-next
unfolding accesses_from
returns-in_err-next c =
    let e = one_more (λ n. accesses_from c.args.parameters c.args.iterators c.args.k n c.loop-turn.made c.loop-turn.cursor) _ c.loop-turn._turn c.loop-turn-test.true c.loop-turn.invariant in
    first_of (search rules, grind (arith, common_steps))

pub loop-turn-preserved : goal.loop-turn-preserved
unfolding accesses_from
loop-turn-preserved c =
    let e = one_more (λ n. accesses_from c.args.parameters c.args.iterators c.args.k n c.loop-turn.made c.loop-turn.cursor) _ c.loop-turn._turn c.loop-turn-test.true c.loop-turn.invariant in
    first_of (search rules, grind (arith, common_steps))

pub returns : goal.returns
unfolding accesses_from
returns c =
    let e = no_more (λ n. accesses_from c.args.parameters c.args.iterators c.args.k n c.loop-turn.made c.loop-turn.cursor) _ c.loop-turn._turn c.loop-turn-test.false c.loop-turn.invariant in
    first_of (search rules, grind (arith, common_steps))
