use Rattle.std.proofs.Common.{subst}
use Rattle.scop_core.specs.Validity.{IsValid}
use Rattle.suite_cli.proofs.RunAnswers.{translates}
use Rattle.suite_cli.proofs.runs.translated.Goals as goal

pub returns-clause-ok : goal.returns-clause-ok
returns-clause-ok c =
    let valid : IsValid c.in-Ok.scop = subst IsValid c.scop.view_is c.scop.invariant in
    translates c.args.bytes.now c.in-Ok-print_scop.output c.in-Ok.scop c.in-Ok.ensures valid c.in-Ok-print_scop.ensures
