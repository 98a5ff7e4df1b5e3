use Rattle.dependence_audit.proofs.Defined.{audit_is_exact}
use Rattle.dependence_audit.proofs.laws.audit_is_exact.Goals as goal

pub returns : goal.returns
returns c = audit_is_exact
