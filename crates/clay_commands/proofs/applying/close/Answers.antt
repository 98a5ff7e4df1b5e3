use Rattle.std.proofs.Common.{◌∙◌, sym, ap, subst}
use Rattle.beta_tree.specs.Vectors.{IsTree}
use Rattle.scop_core.specs.Assembly.{scop_of}
use Rattle.scop_core.specs.Printable.{IsPrintable}
use Rattle.clay_commands.specs.Afters.{closed}
use Rattle.clay_commands.proofs.ClosedPieces.{no_refusal}
use Rattle.clay_commands.proofs.Closings.{closed_reads_back}
use Rattle.clay_commands.proofs.applying.close.Goals as goal

pub assemble-requires : goal.assemble-requires
assemble-requires c =
    let back = closed_reads_back c.args.scop.now c.args.leaves.now c.statement_count-valid.ensures.valid c.requires.sound (subst (λ V. IsTree V) c.requires.vectors c.len-tree.ensures.tree) in
    record { printable = subst (λ q. IsPrintable q) (sym c.in_ok-pieces.ensures) back.printable }

pub unreachable-requires : goal.unreachable-requires
unreachable-requires c =
    let back = closed_reads_back c.args.scop.now c.args.leaves.now c.statement_count-valid.ensures.valid c.requires.sound (subst (λ V. IsTree V) c.requires.vectors c.len-tree.ensures.tree) in
    no_refusal (closed c.args.scop.now c.args.leaves.now) c.in_ok-pieces.pieces c.in-Err-Refused.field-0-0 c.in_ok-pieces.ensures back (rw c.in-Err-Refused.field-0-is at c.in-Err-Refused.ensures.cause)

pub returns-in-Ok : goal.returns-in-Ok
returns-in-Ok c =
    let back = closed_reads_back c.args.scop.now c.args.leaves.now c.statement_count-valid.ensures.valid c.requires.sound (subst (λ V. IsTree V) c.requires.vectors c.len-tree.ensures.tree) in
    c.in-Ok.ensures.scop ∙ ap scop_of c.in_ok-pieces.ensures ∙ back.same
