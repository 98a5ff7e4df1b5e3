use Rattle.dependence_audit.proofs.Printed.{printed_blocks_pass}
use Rattle.dependence_audit.proofs.laws.printed_blocks_pass.Goals as goal

pub returns : goal.returns
returns c = printed_blocks_pass
