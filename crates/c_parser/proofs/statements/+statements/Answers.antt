use Rattle.std.proofs.Common.{rules, arith, ap}
use Rattle.std.proofs.lemmas.Grind.{common_steps}
use Rattle.c_lexer.specs.Input.{Parser}
use Rattle.c_parser.specs.declared.tree.Node.{Node}
use Rattle.c_parser.specs.Statements.{block_nodes, block_from, inner}
use Rattle.c_parser.proofs.Turns.{one_more, no_more}
use Rattle.c_parser.proofs.StatementLemmas.{statement_is, inner_is, body_is}
use Rattle.c_parser.proofs.statements.+statements.Goals as goal

pub statement-returns : goal.statement-returns
statement-returns t c = rw (ap (λ (p : Parser Node). p c.args.tokens.now) (statement_is c.args.nests c.args.loops)) c.statement_rule.ensures

pub inner-returns : goal.inner-returns
inner-returns t c = rw (ap (λ (p : Parser Node). p c.args.tokens.now) (inner_is c.args.nests c.args.loops (omega arith))) c.statement.ensures

pub body-returns : goal.body-returns
body-returns t c = rw (ap (λ (p : Parser Node). p c.args.tokens.now) (body_is c.args.nests c.args.loops (omega arith))) c.statement.ensures

pub block_nodes-loop-turn-init : goal.block_nodes-loop-turn-init
unfolding block_nodes
block_nodes-loop-turn-init t c = first_of (search rules, grind (arith, common_steps))

pub block_nodes-returns-then-eat : goal.block_nodes-returns-then-eat
unfolding block_from
block_nodes-returns-then-eat t c =
    let e = one_more (λ n. block_from (inner c.args.nests c.args.loops) n c.loop-turn.nodes c.loop-turn.tokens) _ c.loop-turn._turn c.loop-turn-test.true c.loop-turn.invariant in
    first_of (search rules, grind (arith, common_steps))

pub block_nodes-returns-in_err-next : goal.block_nodes-returns-in_err-next
unfolding block_from
block_nodes-returns-in_err-next t c =
    let e = one_more (λ n. block_from (inner c.args.nests c.args.loops) n c.loop-turn.nodes c.loop-turn.tokens) _ c.loop-turn._turn c.loop-turn-test.true c.loop-turn.invariant in
    first_of (search rules, grind (arith, common_steps))

pub block_nodes-loop-turn-preserved : goal.block_nodes-loop-turn-preserved
unfolding block_from
block_nodes-loop-turn-preserved t c =
    let e = one_more (λ n. block_from (inner c.args.nests c.args.loops) n c.loop-turn.nodes c.loop-turn.tokens) _ c.loop-turn._turn c.loop-turn-test.true c.loop-turn.invariant in
    first_of (search rules, grind (arith, common_steps))

pub block_nodes-returns : goal.block_nodes-returns
unfolding block_from
block_nodes-returns t c =
    let e = no_more (λ n. block_from (inner c.args.nests c.args.loops) n c.loop-turn.nodes c.loop-turn.tokens) _ c.loop-turn._turn c.loop-turn-test.false c.loop-turn.invariant in
    first_of (search rules, grind (arith, common_steps))
