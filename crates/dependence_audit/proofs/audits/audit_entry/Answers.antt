use Rattle.std.proofs.Common.{subst}
use Rattle.dependence_systems.specs.Sides.{own_sides}
use Rattle.dependence_audit.specs.declared.readings.Finding.TheVariants as finding
use Rattle.dependence_audit.specs.Readings.{read_entry, IsFound}
use Rattle.dependence_audit.proofs.EntryReadings.{stands_dropped}
use Rattle.dependence_audit.proofs.audits.audit_entry.Goals as goal

pub returns-in-Dropped-clause-stands : goal.returns-in-Dropped-clause-stands
returns-in-Dropped-clause-stands c =
    let found : IsFound (read_entry c.args.entry.now c.in-Ok.system c.args.lines.now) finding.Dropped c.read_entry.new.lines =
    subst (λ x. IsFound (read_entry c.args.entry.now c.in-Ok.system c.args.lines.now) x c.read_entry.new.lines) c.in-Dropped.is c.in_ok-read_entry-in-Ok.ensures in
    stands_dropped c.args.scop.now.context (own_sides c.args.scop.now) c.args.number c.args.entry.now c.in-Ok.system c.args.lines.now c.read_entry.new.lines
    c.in-Ok.ensures.rows c.in-Ok.ensures.light found
