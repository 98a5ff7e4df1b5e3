use Rattle.std.proofs.Common.{[], ◌∷◌, arith, ap, ◌∙◌}
use Rattle.std.proofs.lemmas.Result.{on_ok_weaker}
use Rattle.std.specs.Fmt.{decimal}
use Rattle.scop_core.specs.Printable.{are_kept_lines}
use Rattle.dependence_blocks.specs.Blocks.{block_name}
use Rattle.dependence_blocks.proofs.KeptLines.{number_kept, kept_more}
use Rattle.dependence_blocks.proofs.printing.print_count.Goals as goal

pub returns-clause-kept : goal.returns-clause-kept
returns-clause-kept c =
    on_ok_weaker c.push_count.result (λ e h. ap (are_kept_lines block_name) e
    ∙ kept_more block_name c.args.lines.now (decimal c.args.count ∷ []) h (number_kept c.args.count (omega arith))) c.push_count.ensures
