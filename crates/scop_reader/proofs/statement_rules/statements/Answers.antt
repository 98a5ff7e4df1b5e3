use Rattle.std.proofs.Common.{rules, arith, ◌+◌}
use Rattle.std.proofs.lemmas.Grind.{common_steps}
use Rattle.scop_reader.specs.Rules.{statements_from}
use Rattle.scop_reader.proofs.Turns.{one_more, no_more}
use Rattle.scop_reader.proofs.statement_rules.statements.Goals as goal

pub returns-in_err-next : goal.returns-in_err-next
unfolding statements_from
returns-in_err-next c =
    let e = one_more (λ n. statements_from c.args.parameters (c.loop-k.k + 1) n c.loop-k.made c.loop-k.cursor) _ c.loop-k.k c.loop-k-test.true c.loop-k.invariant in
    first_of (search rules, grind (arith, common_steps))

pub loop-k-preserved : goal.loop-k-preserved
unfolding statements_from
loop-k-preserved c =
    let e = one_more (λ n. statements_from c.args.parameters (c.loop-k.k + 1) n c.loop-k.made c.loop-k.cursor) _ c.loop-k.k c.loop-k-test.true c.loop-k.invariant in
    first_of (search rules, grind (arith, common_steps))

pub returns : goal.returns
unfolding statements_from
returns c =
    let e = no_more (λ n. statements_from c.args.parameters (c.loop-k.k + 1) n c.loop-k.made c.loop-k.cursor) _ c.loop-k.k c.loop-k-test.false c.loop-k.invariant in
    first_of (search rules, grind (arith, common_steps))
