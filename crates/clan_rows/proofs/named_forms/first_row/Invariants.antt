use Rattle.std.proofs.Common.{◌≡◌, ◌++◌, length}
use Rattle.row_core.specs.Rows.{scale}
use Rattle.clan_extract.specs.Forms.{first_of_name}
use Rattle.clan_rows.proofs.named_forms.first_row.Given as goal

abbrev pub invariant-loop-rest : goal.invariant-loop-rest
invariant-loop-rest l = l.row ++ scale l.factor (first_of_name l.rest l.name) ≡ scale l.factor (first_of_name l.parameters l.name)

abbrev pub decreases-loop-rest : goal.decreases-loop-rest
decreases-loop-rest l = length l.rest
