use Rattle.dependence_audit.proofs.Turns.{listed_in}
use Rattle.dependence_audit.proofs.audits.audit_entries.Goals as goal

pub audit_entry-requires : goal.audit_entry-requires
audit_entry-requires c = record { own = c.requires.own; listed = listed_in _ _ _ _ c.requires.list c.loop-k-test.true }
