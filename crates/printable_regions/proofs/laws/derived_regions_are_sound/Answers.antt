use Rattle.printable_regions.proofs.Derived.{region_told}
use Rattle.printable_regions.proofs.laws.derived_regions_are_sound.Goals as goal

pub returns : goal.returns
returns c = region_told
