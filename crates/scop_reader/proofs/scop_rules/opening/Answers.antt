use Rattle.std.proofs.Common.{◌≡◌, ◌∙◌, true, false, arith}
use Rattle.std.proofs.lemmas.Grind.{common_steps}
use Rattle.std.specs.Str.{bytes_eq}
use Rattle.suite_base.specs.Words.{content}
use Rattle.scop_reader.specs.Rules.{open_word}
use Rattle.scop_reader.proofs.OpenLines.{opening_skips, opening_found, opening_none}
use Rattle.scop_reader.proofs.scop_rules.opening.Goals as goal

pub returns-then-eq : goal.returns-then-eq
returns-then-eq c =
    let found : bytes_eq (content c.in-Some.line.bytes) open_word ≡ true = grind (arith, common_steps) in
    c.loop-line.invariant ∙ opening_found c.loop-line.cursor c.next_line.new.self c.in-Some.line c.in-Some.ensures found

pub loop-line-preserved : goal.loop-line-preserved
loop-line-preserved c =
    let other : bytes_eq (content c.in-Some.line.bytes) open_word ≡ false = grind (arith, common_steps) in
    c.loop-line.invariant ∙ opening_skips c.loop-line.cursor c.next_line.new.self c.in-Some.line c.in-Some.ensures other

pub returns : goal.returns
returns c =
    let e = c.loop-line.invariant ∙ opening_none c.loop-line.cursor c.next_line.new.self c.in_default.ensures in
    grind (arith, common_steps)
