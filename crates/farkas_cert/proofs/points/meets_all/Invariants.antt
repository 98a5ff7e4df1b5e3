use Rattle.std.proofs.Common.{◌↔◌, ◌≤◌, drop}
use Rattle.relation_core.specs.Points.{MeetsAll}
use Rattle.farkas_cert.specs.Points.{rows_weight}
use Rattle.farkas_cert.proofs.points.meets_all.Given as goal

abbrev pub invariant-loop-i : goal.invariant-loop-i
invariant-loop-i l = record {
  holds : MeetsAll (drop l.i l.system.rows) l.point ↔ MeetsAll l.system.rows l.point;
  weight : rows_weight (drop l.i l.system.rows) l.point ≤ rows_weight l.system.rows l.point;
}
