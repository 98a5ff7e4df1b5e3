use Rattle.std.proofs.Common.{◌≡◌, ◌++◌, length}
use Rattle.row_core.specs.Rows.{scale}
use Rattle.clan_extract.specs.Forms.{innermost}
use Rattle.clan_rows.proofs.named_forms.innermost_row.Given as goal

abbrev pub invariant-loop-rest : goal.invariant-loop-rest
invariant-loop-rest l = l.row ++ scale l.factor (innermost l.rest l.name) ≡ scale l.factor (innermost l.loops l.name)

abbrev pub decreases-loop-rest : goal.decreases-loop-rest
decreases-loop-rest l = length l.rest
