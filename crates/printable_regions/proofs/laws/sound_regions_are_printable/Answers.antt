use Rattle.printable_regions.proofs.Printable.{sound_is_printable}
use Rattle.printable_regions.proofs.laws.sound_regions_are_printable.Goals as goal

pub returns : goal.returns
returns c = sound_is_printable
