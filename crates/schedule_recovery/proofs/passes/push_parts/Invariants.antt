use Rattle.std.proofs.Common.{◌≡◌, ◌≤◌, ◌++◌, drop}
use Rattle.chlore_recover.specs.Orders.{vectors_of}
use Rattle.chlore_recover.specs.Passes.{as_fissions, parted_loops}
use Rattle.schedule_recovery.proofs.passes.push_parts.Given as goal

abbrev pub invariant-loop-placed : goal.invariant-loop-placed
invariant-loop-placed l = record {
  script : l.script ++ as_fissions (parted_loops l.size l.child l.vector (vectors_of (drop l.placed-index l.rest)))
      ≡ l.fn.script ++ as_fissions (parted_loops l.size 0 l.first (vectors_of l.rest));
  child : l.child ≤ l.placed-index;
}
