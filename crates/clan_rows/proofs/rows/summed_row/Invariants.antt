use Rattle.std.proofs.Common.{◌≡◌, ◌≤◌, ◌^◌, ◌++◌, drop}
use Rattle.std.specs.Prelude.{◌↔◌}
use Rattle.clan_rows.specs.Fitting.{magnitude, summed}
use Rattle.clan_rows.proofs.rows.summed_row.Given as goal

abbrev pub invariant-loop-k : goal.invariant-loop-k
invariant-loop-k l = record {
  rest : l.row ++ summed (drop l.k l.a) (drop l.k l.b) ≡ summed l.a l.b;
  weight : 2 ^ 127 ≤ magnitude (summed (drop l.k l.a) (drop l.k l.b)) ↔ 2 ^ 127 ≤ magnitude (summed l.a l.b);
}
