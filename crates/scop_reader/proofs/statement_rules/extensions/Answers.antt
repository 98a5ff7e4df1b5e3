use Rattle.std.proofs.Common.{rules, arith}
use Rattle.std.proofs.lemmas.Grind.{common_steps}
use Rattle.scop_reader.specs.Rules.{extensions_from, extensions_of}
use Rattle.scop_reader.proofs.Turns.{one_less, none_left}
use Rattle.scop_reader.proofs.statement_rules.extensions.Goals as goal

pub returns-in_err-extension : goal.returns-in_err-extension
unfolding extensions_from
returns-in_err-extension c =
    let e = one_less (λ n. extensions_from c.args.iterators n (extensions_of c.loop-left.special c.loop-left.others) c.loop-left.cursor) c.loop-left.left c.loop-left-test.true c.loop-left.invariant in
    first_of (search rules, grind (arith, common_steps))

pub loop-left-preserved : goal.loop-left-preserved
unfolding extensions_from
loop-left-preserved c =
    let e = one_less (λ n. extensions_from c.args.iterators n (extensions_of c.loop-left.special c.loop-left.others) c.loop-left.cursor) c.loop-left.left c.loop-left-test.true c.loop-left.invariant in
    first_of (search rules, grind (arith, common_steps))

pub returns : goal.returns
unfolding extensions_from
returns c =
    let e = none_left (λ n. extensions_from c.args.iterators n (extensions_of c.loop-left.special c.loop-left.others) c.loop-left.cursor) c.loop-left.left c.loop-left-test.false c.loop-left.invariant in
    first_of (search rules, grind (arith, common_steps))
