use Rattle.std.proofs.Common.{◌∙◌, ◌≡◌, ◌≤◌, ap, sym, arith, rules, drop, length, ◌-◌, ◌+◌}
use Rattle.std.proofs.lemmas.List.{length-drop}
use Rattle.std.proofs.lemmas.List.Sums.{prefix_len-le-length}
use Rattle.suite_base.specs.Lines.{trim_front}
use Rattle.suite_base.specs.Words.{words}
use Rattle.suite_base.proofs.WordCuts.{first_word_is, none_empty, words-trim_front, length_le_trimmed, in_word}
use Rattle.suite_base.proofs.words.next_word.Goals as goal

pub returns-then-is_empty : goal.returns-then-is_empty
returns-then-is_empty c =
    let none = none_empty c.trimmed_front-rest.result.now (sym c.is_empty.ensures ∙ c.if-is_empty.true) in
    let rest : c.trimmed_front-rest.result.now ≡ trim_front (drop c.args.from c.args.line.now) = c.trimmed_front-rest.ensures ∙ ap trim_front c.split_at.ensures.back in
    sym (words-trim_front (drop c.args.from c.args.line.now)) ∙ ap words (sym rest ∙ none)

pub overflow_sub-start : goal.overflow_sub-start
overflow_sub-start c =
    let rest : c.trimmed_front-rest.result.now ≡ trim_front (drop c.args.from c.args.line.now) = c.trimmed_front-rest.ensures ∙ ap trim_front c.split_at.ensures.back in
    omega (arith, length_le_trimmed (drop c.args.from c.args.line.now) c.trimmed_front-rest.result.now rest, length-drop c.args.from c.args.line.now)

pub overflow_add-result : goal.overflow_add-result
overflow_add-result c =
    let rest : c.trimmed_front-rest.result.now ≡ trim_front (drop c.args.from c.args.line.now) = c.trimmed_front-rest.ensures ∙ ap trim_front c.split_at.ensures.back in
    let size : c.word_length.result ≤ length c.trimmed_front-rest.result.now = rw c.word_length.ensures (prefix_len-le-length in_word c.trimmed_front-rest.result.now) in
    let trimmed = length_le_trimmed (drop c.args.from c.args.line.now) c.trimmed_front-rest.result.now rest in
    let sum : length c.args.line.now - length c.trimmed_front-rest.result.now + c.word_length.result ≤ length c.args.line.now = omega (arith, trimmed, length-drop c.args.from c.args.line.now) in
    search rules

pub returns : goal.returns
returns c =
    let rest : c.trimmed_front-rest.result.now ≡ trim_front (drop c.args.from c.args.line.now) = c.trimmed_front-rest.ensures ∙ ap trim_front c.split_at.ensures.back in
    first_word_is c.args.line.now c.trimmed_front-rest.result.now c.args.from c.word_length.result c.requires rest (sym c.is_empty.ensures ∙ c.if-is_empty.false) c.word_length.ensures
