use Rattle.scop_data.proofs.Floors.{floor_greatest}
use Rattle.scop_data.proofs.laws.floor_is_greatest.Goals as goal

pub returns : goal.returns
returns c = floor_greatest
