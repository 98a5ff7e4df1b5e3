use Rattle.std.proofs.Common.{◌≡◌, ◌++◌, drop}
use Rattle.std.specs.List.{flat_map}
use Rattle.relation_core.specs.Layouts.{row_line}
use Rattle.relation_core.proofs.layouts.push_rows.Given as goal

abbrev pub invariant-loop-row : goal.invariant-loop-row
invariant-loop-row l = l.text ++ flat_map row_line (drop l.row-index l.rows) ≡ l.initial.text ++ flat_map row_line l.rows
