use Rattle.printable_regions.proofs.Printable.{derived_is_printable}
use Rattle.printable_regions.proofs.laws.derived_regions_are_printable.Goals as goal

pub returns : goal.returns
returns c = derived_is_printable
