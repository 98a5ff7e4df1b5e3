use Rattle.std.proofs.Common.{◌∙◌, sym, Some, None}
use Rattle.scop_reader.proofs.ReadingLemmas.{said, said_silent, said_found, said_none, takes_along}
use Rattle.scop_reader.proofs.cursors.Cursor.next_said_line.Goals as goal

pub returns-then-not-is_silent : goal.returns-then-not-is_silent
returns-then-not-is_silent c =
    takes_along (said c.args.self.now) (said c.loop-line.self) c.next_line.new.self (Some c.in-Some.line) c.loop-line.invariant
    (said_found c.loop-line.self c.next_line.new.self c.in-Some.line c.in-Some.ensures (sym c.is_silent.ensures ∙ c.if-not-is_silent.true))

pub loop-line-preserved : goal.loop-line-preserved
loop-line-preserved c =
    c.loop-line.invariant ∙ said_silent c.loop-line.self c.next_line.new.self c.in-Some.line c.in-Some.ensures (sym c.is_silent.ensures ∙ c.if-not-is_silent.false)

pub returns : goal.returns
returns c =
    takes_along (said c.args.self.now) (said c.loop-line.self) c.next_line.new.self None c.loop-line.invariant
    (said_none c.loop-line.self c.next_line.new.self c.in_default.ensures)
