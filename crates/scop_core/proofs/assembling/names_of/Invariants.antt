use Rattle.std.proofs.Common.{◌≡◌, ◌+◌, ◌-◌, ◌++◌, length}
use Rattle.scop_core.specs.Assembly.{default_names}
use Rattle.scop_core.proofs.assembling.names_of.Given as goal

abbrev pub invariant-loop-k : goal.invariant-loop-k
invariant-loop-k l = record {
  all : l.made ++ default_names (l.k + 1) (l.n - l.k) ≡ default_names 1 l.n;
  count : length l.made ≡ l.k;
}
