use Rattle.std.proofs.Common.{◌≡◌, ◌∙◌, true, false, arith}
use Rattle.std.proofs.lemmas.Grind.{common_steps}
use Rattle.std.specs.Str.{bytes_eq}
use Rattle.suite_base.specs.Words.{content}
use Rattle.scop_reader.specs.Rules.{open_word, no_more}
use Rattle.scop_reader.proofs.OpenLines.{second_skips, second_found, second_none}
use Rattle.scop_reader.proofs.scop_rules.no_more.Goals as goal

pub returns-then-eq : goal.returns-then-eq
unfolding no_more
returns-then-eq c =
    let found : bytes_eq (content c.in-Some.line.bytes) open_word ≡ true = grind (arith, common_steps) in
    let e = c.loop-line.invariant ∙ second_found c.loop-line.ahead c.next_line.new.self c.in-Some.line c.in-Some.ensures found in
    grind (arith, common_steps)

pub loop-line-preserved : goal.loop-line-preserved
loop-line-preserved c =
    let other : bytes_eq (content c.in-Some.line.bytes) open_word ≡ false = grind (arith, common_steps) in
    c.loop-line.invariant ∙ second_skips c.loop-line.ahead c.next_line.new.self c.in-Some.line c.in-Some.ensures other

pub returns : goal.returns
unfolding no_more
returns c =
    let e = c.loop-line.invariant ∙ second_none c.loop-line.ahead c.next_line.new.self c.in_default.ensures in
    grind (arith, common_steps)
