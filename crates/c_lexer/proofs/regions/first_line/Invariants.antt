use Rattle.std.proofs.Common.{◌≡◌, ◌+◌, ◌≤◌, length}
use Rattle.suite_base.specs.Lines.{lines}
use Rattle.c_lexer.specs.Pragmas.{is_pragma}
use Rattle.c_lexer.specs.Regions.{first_line}
use Rattle.c_lexer.proofs.RegionLemmas.{shifted, bytes_of}
use Rattle.c_lexer.proofs.regions.first_line.Given as goal

abbrev pub invariant-loop-line : goal.invariant-loop-line
invariant-loop-line l = record {
  same : shifted l.lines_before l.at (first_line (is_pragma l.wanted) (lines l.rest)) ≡ first_line (is_pragma l.wanted) (lines l.fn.among);
  few : l.lines_before ≤ l.at;
  room : l.at + bytes_of (lines l.rest) ≡ bytes_of (lines l.fn.among);
}

abbrev pub decreases-loop-line : goal.decreases-loop-line
decreases-loop-line l = length (lines l.rest)
