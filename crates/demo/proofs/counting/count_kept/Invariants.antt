use Rattle.std.proofs.Common.{◌≡◌, ◌≤◌, take}
use Rattle.std.specs.List.{count_by}
use Rattle.candl_deps.specs.Found.{verdicts_of}
use Rattle.demo.specs.Demonstrations.{is_kept}
use Rattle.demo.proofs.counting.count_kept.Given as goal

abbrev pub invariant-loop-k : goal.invariant-loop-k
invariant-loop-k l = record {
  kept : l.kept ≡ count_by is_kept (take l.k (verdicts_of l.found.decided));
  within : l.kept ≤ l.k;
}
