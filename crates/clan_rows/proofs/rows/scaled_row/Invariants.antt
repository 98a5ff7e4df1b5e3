use Rattle.std.proofs.Common.{◌≡◌, ◌≤◌, ◌^◌, ◌++◌, drop}
use Rattle.std.specs.Prelude.{◌↔◌}
use Rattle.row_core.specs.Rows.{scale}
use Rattle.clan_rows.specs.Fitting.{magnitude}
use Rattle.clan_rows.proofs.rows.scaled_row.Given as goal

abbrev pub invariant-loop-k : goal.invariant-loop-k
invariant-loop-k l = record {
  rest : l.row ++ scale l.p (drop l.k l.a) ≡ scale l.p l.a;
  weight : 2 ^ 127 ≤ magnitude (scale l.p (drop l.k l.a)) ↔ 2 ^ 127 ≤ magnitude (scale l.p l.a);
}
