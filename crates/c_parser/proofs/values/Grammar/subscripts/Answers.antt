use Rattle.std.proofs.Common.{rules, arith}
use Rattle.std.proofs.lemmas.Grind.{common_steps}
use Rattle.c_parser.specs.Values.{subscripts, subscripts_from, below}
use Rattle.c_parser.proofs.Turns.{one_more, no_more}
use Rattle.c_parser.proofs.values.Grammar.subscripts.Goals as goal

pub loop-turn-init : goal.loop-turn-init
unfolding subscripts
loop-turn-init g c = first_of (search rules, grind (arith, common_steps))

pub returns-then-not-same_symbol : goal.returns-then-not-same_symbol
unfolding subscripts_from
returns-then-not-same_symbol g c =
    let e = one_more (λ n. subscripts_from c.args.self.now.limit (below c.args.self.now.limit) n c.loop-turn.found c.loop-turn.tokens) _ c.loop-turn._turn c.loop-turn-test.true c.loop-turn.invariant in
    first_of (search rules, grind (arith, common_steps))

pub returns-in_err-sum : goal.returns-in_err-sum
unfolding subscripts_from
returns-in_err-sum g c =
    let e = one_more (λ n. subscripts_from c.args.self.now.limit (below c.args.self.now.limit) n c.loop-turn.found c.loop-turn.tokens) _ c.loop-turn._turn c.loop-turn-test.true c.loop-turn.invariant in
    first_of (search rules, grind (arith, common_steps))

pub loop-turn-preserved : goal.loop-turn-preserved
unfolding subscripts_from
loop-turn-preserved g c =
    let e = one_more (λ n. subscripts_from c.args.self.now.limit (below c.args.self.now.limit) n c.loop-turn.found c.loop-turn.tokens) _ c.loop-turn._turn c.loop-turn-test.true c.loop-turn.invariant in
    first_of (search rules, grind (arith, common_steps))

pub returns : goal.returns
unfolding subscripts_from
returns g c =
    let e = no_more (λ n. subscripts_from c.args.self.now.limit (below c.args.self.now.limit) n c.loop-turn.found c.loop-turn.tokens) _ c.loop-turn._turn c.loop-turn-test.false c.loop-turn.invariant in
    first_of (search rules, grind (arith, common_steps))
