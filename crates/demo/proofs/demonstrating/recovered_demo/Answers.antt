use Rattle.demo.proofs.Stages.{demonstrated, recovery_stops}
use Rattle.demo.proofs.demonstrating.recovered_demo.Goals as goal

pub returns-in-Err-clause-err : goal.returns-in-Err-clause-err
returns-in-Err-clause-err c =
    recovery_stops c.args.k c.args.scop.now c.args.made.now c.args.systems c.in-Err.fail c.requires.read c.requires.accepted c.requires.made c.in-Err.ensures.cause

pub returns-clause-ok : goal.returns-clause-ok
returns-clause-ok c =
    demonstrated c.args.k c.args.scop.now c.args.made.now c.args.systems c.in-Ok.found c.in-Ok-summary.text
    c.statement_count.result c.args.commands c.len.result c.requires.read c.requires.accepted c.requires.made c.in-Ok.ensures.none
    c.in-Ok.ensures.script c.statement_count.ensures.count c.requires.commands c.len.ensures c.in-Ok-summary.ensures
