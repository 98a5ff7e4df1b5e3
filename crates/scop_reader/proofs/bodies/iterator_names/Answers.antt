use Rattle.std.proofs.Common.{rules, arith}
use Rattle.std.proofs.lemmas.Grind.{common_steps}
use Rattle.scop_reader.proofs.NameLines.{no_iterators, some_iterators}
use Rattle.scop_reader.proofs.bodies.iterator_names.Goals as goal

pub returns-then-count-eq0 : goal.returns-then-count-eq0
returns-then-count-eq0 c =
    let e = no_iterators c.args.count c.args.cursor.now c.if-count-eq0.true in
    first_of (search rules, grind (arith, common_steps))

pub returns-in_err-no_end : goal.returns-in_err-no_end
returns-in_err-no_end c =
    let e = some_iterators c.args.count c.args.cursor.now c.if-count-eq0.false in
    first_of (search rules, grind (arith, common_steps))

pub returns : goal.returns
returns c =
    let e = some_iterators c.args.count c.args.cursor.now c.if-count-eq0.false in
    first_of (search rules, grind (arith, common_steps))
