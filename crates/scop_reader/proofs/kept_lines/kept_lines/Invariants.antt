use Rattle.std.proofs.Common.{◌≡◌, length}
use Rattle.scop_core.specs.Printable.{end_line}
use Rattle.scop_reader.specs.Rules.{kept_lines, kept_from}
use Rattle.scop_reader.proofs.kept_lines.kept_lines.Given as goal

abbrev pub invariant-loop-line : goal.invariant-loop-line
invariant-loop-line l = record {
  kept : kept_lines l.name l.fn.cursor ≡ kept_from l.name l.cursor.number l.found l.cursor.lines;
  last : l.last ≡ end_line l.name;
}

abbrev pub decreases-loop-line : goal.decreases-loop-line
decreases-loop-line l = length l.cursor.lines
