use Rattle.std.proofs.Common.{rules, arith}
use Rattle.std.proofs.lemmas.Grind.{common_steps}
use Rattle.scop_reader.proofs.NameLines.{no_names, some_names}
use Rattle.scop_reader.proofs.bodies.names.Goals as goal

pub returns-then-count-eq0 : goal.returns-then-count-eq0
returns-then-count-eq0 c =
    let e = no_names c.args.count c.args.cursor.now c.if-count-eq0.true in
    first_of (search rules, grind (arith, common_steps))

pub returns : goal.returns
returns c = rw (some_names c.args.count c.args.cursor.now c.if-count-eq0.false) c.word_line.ensures
