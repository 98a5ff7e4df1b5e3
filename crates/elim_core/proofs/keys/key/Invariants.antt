use Rattle.std.proofs.Common.{◌≡◌, ◌<◌, ◌≤◌, ◌-◌, ◌^◌, drop, take}
use Rattle.std.specs.Prelude.{pos}
use Rattle.row_core.specs.Rows.{entry}
use Rattle.elim_core.specs.Keys.{key_onto, key}
use Rattle.elim_core.proofs.keys.key.Given as goal

abbrev pub invariant-loop-k : goal.invariant-loop-k
invariant-loop-k g l = record {
  left : key_onto l.key l.k (drop l.k (take l.n l.w.entries)) ≡ key l.n l.w;
  within : l.k ≤ l.n;
  found : l.k < l.n → ¬ (entry l.w.entries l.k ≡ pos 0);
  range : l.key < 2 ^ 64;
}

abbrev pub decreases-loop-k : goal.decreases-loop-k
decreases-loop-k g l = l.n - l.k
