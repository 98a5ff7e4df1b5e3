use Rattle.schedule_forms.proofs.FloorRows.{floor_rows_mean}
use Rattle.schedule_forms.proofs.laws.floor_rows_mean_floors.Goals as goal

pub returns : goal.returns
returns c = floor_rows_mean
