use Rattle.suite_cli.proofs.Recoverings.{refused_together}
use Rattle.suite_cli.proofs.recoveries.recovered_text.Goals as goal

pub returns-in-Err-Refused-recovered_script-clause-err : goal.returns-in-Err-Refused-recovered_script-clause-err
returns-in-Err-Refused-recovered_script-clause-err c =
    refused_together c.args.first.now c.args.second.now c.in-Ok.original c.in-Ok-read_scop.target
    c.place_of.result c.in-Err-Refused-recovered_script.field-0 c.in-Err-Refused-recovered_script.refusal
    c.in-Ok.ensures.text c.in-Ok-read_scop.ensures.text c.place_of.ensures c.in-Err-Refused-recovered_script.field-0-is c.in-Err-Refused-recovered_script.ensures.err
