use Rattle.candl_audit.proofs.Printed.{dependences_pass}
use Rattle.candl_audit.proofs.laws.dependences_pass.Goals as goal

pub returns : goal.returns
returns c = dependences_pass
