use Rattle.farkas_cert.proofs.TextLaws.{reads_back_law}
use Rattle.farkas_cert.proofs.texts.reads_back.Goals as goal

pub returns : goal.returns
returns c = reads_back_law
