use Rattle.std.proofs.Common.{◌∙◌, ◌≡◌, ap, sym}
use Rattle.std.proofs.lemmas.List.Sums.{prefix_len-le-length}
use Rattle.suite_base.specs.Lines.{trim}
use Rattle.suite_base.specs.Words.{without_comment}
use Rattle.suite_base.proofs.WordCuts.{comment_cut, in_content}
use Rattle.suite_base.proofs.words.content_line.Goals as goal

pub split_at-requires : goal.split_at-requires
split_at-requires c = rw c.comment_start.ensures (prefix_len-le-length in_content c.args.line.now)

pub returns : goal.returns
returns c =
    let front : c.split_at.result.0.now ≡ without_comment c.args.line.now = rw (c.split_at.ensures.front, c.comment_start.ensures) (sym (comment_cut c.args.line.now)) in
    c.trimmed.ensures ∙ ap trim front
