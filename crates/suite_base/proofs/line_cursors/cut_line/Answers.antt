use Rattle.std.proofs.Common.{◌∙◌}
use Rattle.std.proofs.lemmas.List.Sums.{prefix_len-le-length}
use Rattle.suite_base.proofs.LineCuts.{cut_is, more_lines, last_line, in_line}
use Rattle.suite_base.proofs.line_cursors.cut_line.Goals as goal

pub split_at-requires : goal.split_at-requires
split_at-requires c = rw c.line_length.ensures (prefix_len-le-length in_line c.args.text.now)

pub returns-else-is_empty : goal.returns-else-is_empty
returns-else-is_empty c =
    cut_is c.args.text.now c.split_at.result.0.now c.split_at.result.1.now c.line_length.result c.line_length.ensures c.split_at.ensures.front c.split_at.ensures.back
    ∙ last_line _ _ c.in-empty.len_below c.if-is_empty.ensures

pub returns-in-len1-up : goal.returns-in-len1-up
returns-in-len1-up c =
    cut_is c.args.text.now c.split_at.result.0.now c.split_at.result.1.now c.line_length.result c.line_length.ensures c.split_at.ensures.front c.split_at.ensures.back
    ∙ more_lines _ _ c.in-len1-up.len_at_least
