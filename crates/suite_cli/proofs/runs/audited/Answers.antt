use Rattle.std.proofs.Common.{subst}
use Rattle.scop_core.specs.Validity.{IsValid}
use Rattle.suite_cli.proofs.RunAnswers.{audits}
use Rattle.suite_cli.proofs.runs.audited.Goals as goal

pub returns-clause-ok : goal.returns-clause-ok
returns-clause-ok c =
    let valid : IsValid c.in-Ok.scop = subst IsValid c.scop.view_is c.scop.invariant in
    audits c.args.bytes.now c.in-Ok-counts_line.output c.in-Ok.scop c.in-Ok-audit.counts c.in-Ok.ensures.text valid c.in-Ok-audit.ensures.counts c.in-Ok-counts_line.ensures
