use Rattle.farkas_cert.proofs.Laws.{valid_law}
use Rattle.farkas_cert.proofs.checks.valid_means_empty.Goals as goal

pub returns : goal.returns
returns c = valid_law
