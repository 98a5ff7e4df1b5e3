use Rattle.std.proofs.Common.{subst}
use Rattle.scop_core.specs.Validity.{IsValid}
use Rattle.suite_cli.proofs.RunAnswers.{depends}
use Rattle.suite_cli.proofs.runs.with_block.Goals as goal

pub returns-clause-ok : goal.returns-clause-ok
returns-clause-ok c =
    let kept : IsValid c.in-Ok-with_dependences.made = subst IsValid c.made.view_is c.made.invariant in
    depends c.args.bytes.now c.in-Ok-print_scop.output c.in-Ok.scop c.in-Ok-with_dependences.made c.in-Ok.ensures.text c.with_dependences.ensures.valid kept
    c.in-Ok-with_dependences.ensures.ok c.in-Ok-print_scop.ensures
