use Rattle.std.proofs.Common.{◌≡◌, ◌++◌, drop, map}
use Rattle.beta_tree.specs.Vectors.{LongerUnder}
use Rattle.beta_tree.specs.Edits.{with_level}
use Rattle.beta_tree.proofs.rebuilds.level_all.Given as goal

abbrev pub invariant-loop-vector : goal.invariant-loop-vector
invariant-loop-vector l = record {
  done : l.made ++ map (with_level l.prefix l.level) (drop l.vector-index l.vector-items) ≡ map (with_level l.prefix l.level) l.vectors;
  longer : LongerUnder l.prefix l.level (drop l.vector-index l.vector-items);
}
