use Rattle.std.proofs.Common.{◌≡◌, ◌∙◌, rules, arith, true, false}
use Rattle.std.proofs.lemmas.Grind.{common_steps}
use Rattle.std.specs.Str.{bytes_eq}
use Rattle.suite_base.specs.Lines.{trim}
use Rattle.scop_core.specs.Printable.{end_line}
use Rattle.scop_reader.proofs.KeptLines.{kept_more, kept_ends, kept_none}
use Rattle.scop_reader.proofs.kept_lines.kept_lines.Goals as goal

pub returns-then-eq : goal.returns-then-eq
returns-then-eq c =
    let ends : bytes_eq (trim c.in-Some.line.bytes) (end_line c.args.name.now) ≡ true = grind (arith, common_steps) in
    c.loop-line.invariant.kept ∙ kept_ends c.args.name.now c.loop-line.found c.loop-line.cursor c.next_line.new.self c.in-Some.line c.in-Some.ensures ends

pub loop-line-preserved : goal.loop-line-preserved
loop-line-preserved c =
    let goes : bytes_eq (trim c.in-Some.line.bytes) (end_line c.args.name.now) ≡ false = grind (arith, common_steps) in
    let e = kept_more c.args.name.now c.loop-line.found c.loop-line.cursor c.next_line.new.self c.in-Some.line c.in-Some.ensures goes in
    grind (arith, common_steps)

pub returns : goal.returns
returns c =
    let e = kept_none c.args.name.now c.loop-line.found c.loop-line.cursor c.next_line.new.self c.in_default.ensures in
    first_of (search rules, grind (arith, common_steps))
