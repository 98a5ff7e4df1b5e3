use Rattle.suite_cli.proofs.Recoverings.{recovered}
use Rattle.suite_cli.proofs.recoveries.recovered_script.Goals as goal

pub returns-in-Err-clause-err : goal.returns-in-Err-clause-err
returns-in-Err-clause-err c = c.in-Err.ensures.cause

pub returns-clause-ok : goal.returns-clause-ok
returns-clause-ok c =
    recovered c.args.original.now c.args.target.now c.in-Ok.script c.in-Ok-print_script.output
    c.in-Ok.ensures.none c.in-Ok.ensures.script c.in-Ok.ensures.recovers c.in-Ok-print_script.ensures.layout c.in-Ok-print_script.ensures.read_back
