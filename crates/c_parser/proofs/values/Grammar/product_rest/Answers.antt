use Rattle.std.proofs.Common.{rules, arith, []}
use Rattle.std.proofs.lemmas.Grind.{common_steps}
use Rattle.c_parser.specs.Values.{product_rest, signed_from, product_sign, unary, below}
use Rattle.c_parser.proofs.Turns.{one_more, no_more}
use Rattle.c_parser.proofs.values.Grammar.product_rest.Goals as goal

pub loop-turn-init : goal.loop-turn-init
unfolding product_rest
loop-turn-init g c = first_of (search rules, grind (arith, common_steps))

pub returns-in_default : goal.returns-in_default
unfolding signed_from
returns-in_default g c =
    let e = one_more (λ n. signed_from product_sign (unary c.args.nests (below c.args.nests) []) n c.loop-turn.rest c.loop-turn.tokens) _ c.loop-turn._turn c.loop-turn-test.true c.loop-turn.invariant in
    first_of (search rules, grind (arith, common_steps))

pub returns-in_err-item : goal.returns-in_err-item
unfolding signed_from
returns-in_err-item g c =
    let e = one_more (λ n. signed_from product_sign (unary c.args.nests (below c.args.nests) []) n c.loop-turn.rest c.loop-turn.tokens) _ c.loop-turn._turn c.loop-turn-test.true c.loop-turn.invariant in
    first_of (search rules, grind (arith, common_steps))

pub loop-turn-preserved : goal.loop-turn-preserved
unfolding signed_from
loop-turn-preserved g c =
    let e = one_more (λ n. signed_from product_sign (unary c.args.nests (below c.args.nests) []) n c.loop-turn.rest c.loop-turn.tokens) _ c.loop-turn._turn c.loop-turn-test.true c.loop-turn.invariant in
    first_of (search rules, grind (arith, common_steps))

pub returns : goal.returns
unfolding signed_from
returns g c =
    let e = no_more (λ n. signed_from product_sign (unary c.args.nests (below c.args.nests) []) n c.loop-turn.rest c.loop-turn.tokens) _ c.loop-turn._turn c.loop-turn-test.false c.loop-turn.invariant in
    first_of (search rules, grind (arith, common_steps))
