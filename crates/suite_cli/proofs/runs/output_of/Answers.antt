use Rattle.suite_cli.proofs.RunAnswers.{demo_ends}
use Rattle.suite_cli.proofs.runs.output_of.Goals as goal

pub returns-in-Demo-clause-err : goal.returns-in-Demo-clause-err
returns-in-Demo-clause-err c =
    demo_ends c.args.work.now c.args.texts.now c.in-Demo.k c.demonstrate.result c.made_of-in-Demo.result c.in-Demo.is c.made_of-in-Demo.ensures c.demonstrate.ensures.err
