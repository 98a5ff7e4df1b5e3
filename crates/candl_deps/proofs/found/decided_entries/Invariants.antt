use Rattle.std.proofs.Common.{take}
use Rattle.std.specs.Prelude.{IfSome}
use Rattle.dependence_systems.specs.Sides.{own_sides}
use Rattle.candl_deps.specs.Bases.{IsBase}
use Rattle.candl_deps.specs.Found as spec
use Rattle.candl_deps.proofs.found.decided_entries.Given as goal

abbrev pub invariant-loop-k : goal.invariant-loop-k
invariant-loop-k l = record {
  decided : spec.AreDecided l.scop.context (own_sides l.scop) (take l.k l.items) l.made;
  held : IfSome l.held (IsBase l.scop.context (own_sides l.scop));
}
