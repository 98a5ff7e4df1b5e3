use Rattle.c_lexer.proofs.RegionLines.{regions_stand}
use Rattle.c_lexer.proofs.laws.regions_stand_between_pragmas.Goals as goal

pub returns : goal.returns
returns c = regions_stand
