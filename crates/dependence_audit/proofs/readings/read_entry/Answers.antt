use Rattle.std.proofs.Common.{subst, sym}
use Rattle.std.specs.Prelude.{IfOk}
use Rattle.dependence_audit.specs.declared.readings.Finding.TheVariants as finding
use Rattle.dependence_audit.specs.Readings.{IsFound}
use Rattle.dependence_audit.proofs.EntryReadings.{reads_kept, reads_dropped, reads_neither}
use Rattle.dependence_audit.proofs.readings.read_entry.Goals as goal

pub returns-then-head_is : goal.returns-then-head_is
returns-then-head_is c =
    subst (λ r. IsFound r c.read_kept.result c.read_kept.new.lines)
    (sym (reads_kept c.args.entry.now c.args.system.now c.args.lines.now c.in-Some.line.now c.next.new.self c.in-Some.ensures c.if-head_is.ensures)) c.read_kept.ensures

pub returns-then-head_is-2 : goal.returns-then-head_is-2
returns-then-head_is-2 c =
    subst (λ r. IfOk c.read_dropped.result (λ found. IsFound r found c.read_dropped.new.lines))
    (sym (reads_dropped c.args.entry.now c.args.system.now c.args.lines.now c.in-Some.line.now c.next.new.self c.in-Some.ensures c.if-head_is.ensures c.if-head_is-2.ensures)) c.read_dropped.ensures

pub returns : goal.returns
returns c =
    subst (λ r. IsFound r finding.Wrong c.next.new.self)
    (sym (reads_neither c.args.entry.now c.args.system.now c.args.lines.now c.in-Some.line.now c.next.new.self c.in-Some.ensures c.if-head_is.ensures c.if-head_is-2.ensures)) tt
