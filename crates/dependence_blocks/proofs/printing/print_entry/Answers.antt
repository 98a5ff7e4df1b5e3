use Rattle.std.proofs.Common.{ap, ◌∙◌}
use Rattle.std.proofs.lemmas.Result.{on_ok_weaker}
use Rattle.scop_core.specs.Printable.{are_kept_lines}
use Rattle.dependence_blocks.specs.Blocks.{block_name, entry_lines}
use Rattle.dependence_blocks.proofs.KeptLines.{entry_kept, kept_more}
use Rattle.dependence_blocks.proofs.printing.print_entry.Goals as goal

pub returns-clause-kept : goal.returns-clause-kept
returns-clause-kept c =
    on_ok_weaker c.print_lines.result (λ e h. ap (are_kept_lines block_name) e
    ∙ kept_more block_name c.args.lines.now (entry_lines c.args.entry.now c.args.system.now c.args.certificate.now) h
    (entry_kept c.args.entry.now c.args.system.now c.args.certificate.now c.entry_is_readable.ensures.range c.entry_is_readable.ensures.formed
    c.entry_is_readable.ensures.few c.entry_is_readable.ensures.multipliers)) c.print_lines.ensures
