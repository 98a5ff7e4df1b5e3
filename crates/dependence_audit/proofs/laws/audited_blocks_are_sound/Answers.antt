use Rattle.dependence_audit.proofs.Sound.{blocks_are_sound}
use Rattle.dependence_audit.proofs.laws.audited_blocks_are_sound.Goals as goal

pub returns : goal.returns
returns c = blocks_are_sound
