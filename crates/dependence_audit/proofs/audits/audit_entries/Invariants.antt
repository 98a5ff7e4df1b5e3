use Rattle.std.proofs.Common.{◌≡◌, ◌≤◌, ◌+◌, drop}
use Rattle.dependence_systems.specs.Sides.{own_sides}
use Rattle.dependence_audit.specs.Audits.{read_entries, counted}
use Rattle.dependence_audit.proofs.Turns.{with_counts}
use Rattle.dependence_audit.proofs.audits.audit_entries.Given as goal

abbrev pub invariant-loop-k : goal.invariant-loop-k
invariant-loop-k l = record {
  few : l.kept ≤ l.k;
  left : with_counts l.k l.kept (read_entries l.scop.context (own_sides l.scop) (l.k + 1) (drop l.k l.list) l.lines)
      ≡ counted (read_entries l.scop.context (own_sides l.scop) 1 l.fn.list l.fn.lines);
}
