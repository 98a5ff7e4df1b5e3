use Rattle.std.proofs.Common.{sym}
use Rattle.std.proofs.lemmas.List.Sums.{prefix_len-le-length}
use Rattle.suite_base.proofs.WordCuts.{comment_cut, in_content}
use Rattle.scop_reader.proofs.line_words.before_comment.Goals as goal

pub split_at-requires : goal.split_at-requires
split_at-requires c = rw c.comment_start.ensures (prefix_len-le-length in_content c.args.line.now)

pub returns-clause-value : goal.returns-clause-value
returns-clause-value c = rw (c.split_at.ensures.front, c.comment_start.ensures) (sym (comment_cut c.args.line.now))
