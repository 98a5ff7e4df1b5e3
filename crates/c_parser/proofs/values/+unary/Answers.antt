use Rattle.std.proofs.Common.{ap, ◌∙◌}
use Rattle.c_parser.specs.Values.{unary_sign}
use Rattle.c_parser.proofs.ValueLemmas.{unary_goes}
use Rattle.c_parser.proofs.values.+unary.Goals as goal

pub returns : goal.returns
returns t c =
    rw (unary_goes c.args.nests c.args.signs c.push.new.self c.in-Some.sign c.args.tokens.now c.take.new.self c.in_ok-open_nest.ensures.some
    (c.in-Some.ensures ∙ ap unary_sign c.peek.ensures) c.in_ok-push.ensures.ok c.take.ensures.next)
    c.unary.ensures
