use Rattle.std.proofs.Common.{rules, arith}
use Rattle.std.proofs.lemmas.Grind.{common_steps}
use Rattle.c_lexer.specs.declared.symbols.Symbol.TheVariants as s
use Rattle.c_parser.specs.Values.{separated_from, below}
use Rattle.c_parser.proofs.Turns.{one_more, no_more}
use Rattle.c_parser.proofs.values.Grammar.argument_items.Goals as goal

pub returns-in_err-item : goal.returns-in_err-item
unfolding separated_from
returns-in_err-item g c =
    let e = one_more (λ n. separated_from s.Comma (below c.args.self.now.limit).value n c.loop-turn.items c.loop-turn.tokens) _ c.loop-turn._turn c.loop-turn-test.true c.loop-turn.invariant in
    first_of (search rules, grind (arith, common_steps))

pub returns-then-not-eat : goal.returns-then-not-eat
unfolding separated_from
returns-then-not-eat g c =
    let e = one_more (λ n. separated_from s.Comma (below c.args.self.now.limit).value n c.loop-turn.items c.loop-turn.tokens) _ c.loop-turn._turn c.loop-turn-test.true c.loop-turn.invariant in
    first_of (search rules, grind (arith, common_steps))

pub loop-turn-preserved : goal.loop-turn-preserved
unfolding separated_from
loop-turn-preserved g c =
    let e = one_more (λ n. separated_from s.Comma (below c.args.self.now.limit).value n c.loop-turn.items c.loop-turn.tokens) _ c.loop-turn._turn c.loop-turn-test.true c.loop-turn.invariant in
    first_of (search rules, grind (arith, common_steps))

pub returns : goal.returns
unfolding separated_from
returns g c =
    let e = no_more (λ n. separated_from s.Comma (below c.args.self.now.limit).value n c.loop-turn.items c.loop-turn.tokens) _ c.loop-turn._turn c.loop-turn-test.false c.loop-turn.invariant in
    first_of (search rules, grind (arith, common_steps))
