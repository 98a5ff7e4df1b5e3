use Rattle.suite_cli.proofs.RunAnswers.{complete_of, reported_of}
use Rattle.suite_cli.proofs.top.suite.Goals as goal

pub returns-clause-completes : goal.returns-clause-completes
returns-clause-completes g c = complete_of _ _ _ _ c.run-outcome.ensures.answers

pub returns-clause-reported : goal.returns-clause-reported
returns-clause-reported g c =
    reported_of c.report-unreported.result _ _ c.run-outcome.result c.report-unreported.ensures.ok c.report-unreported.ensures.part c.report-unreported.ensures.cause
