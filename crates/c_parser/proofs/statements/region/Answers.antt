use Rattle.std.proofs.Common.{rules, arith}
use Rattle.std.proofs.lemmas.Grind.{common_steps}
use Rattle.c_parser.specs.Statements.{region, region_from}
use Rattle.c_parser.proofs.Turns.{one_more, no_more}
use Rattle.c_parser.proofs.statements.region.Goals as goal

pub loop-turn-init : goal.loop-turn-init
unfolding region
loop-turn-init c = first_of (search rules, grind (arith, common_steps))

pub returns-then-same_symbol : goal.returns-then-same_symbol
unfolding region_from
returns-then-same_symbol c =
    let e = one_more (λ n. region_from n c.loop-turn.nodes c.loop-turn.tokens) _ c.loop-turn._turn c.loop-turn-test.true c.loop-turn.invariant in
    first_of (search rules, grind (arith, common_steps))

pub returns-in_err-next : goal.returns-in_err-next
unfolding region_from
returns-in_err-next c =
    let e = one_more (λ n. region_from n c.loop-turn.nodes c.loop-turn.tokens) _ c.loop-turn._turn c.loop-turn-test.true c.loop-turn.invariant in
    first_of (search rules, grind (arith, common_steps))

pub loop-turn-preserved : goal.loop-turn-preserved
unfolding region_from
loop-turn-preserved c =
    let e = one_more (λ n. region_from n c.loop-turn.nodes c.loop-turn.tokens) _ c.loop-turn._turn c.loop-turn-test.true c.loop-turn.invariant in
    first_of (search rules, grind (arith, common_steps))

pub returns-in_err-expect : goal.returns-in_err-expect
unfolding region_from
returns-in_err-expect c =
    let e = no_more (λ n. region_from n c.loop-turn.nodes c.loop-turn.tokens) _ c.loop-turn._turn c.loop-turn-test.false c.loop-turn.invariant in
    first_of (search rules, grind (arith, common_steps))

pub returns : goal.returns
unfolding region_from
returns c =
    let e = no_more (λ n. region_from n c.loop-turn.nodes c.loop-turn.tokens) _ c.loop-turn._turn c.loop-turn-test.false c.loop-turn.invariant in
    first_of (search rules, grind (arith, common_steps))
