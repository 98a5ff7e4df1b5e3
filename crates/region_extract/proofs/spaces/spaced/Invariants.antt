use Rattle.std.proofs.Common.{◌≡◌, ◌++◌, length}
use Rattle.region_trees.specs.Statements.{spaced_from}
use Rattle.region_extract.proofs.spaces.spaced.Given as goal

abbrev pub invariant-loop-first : goal.invariant-loop-first
invariant-loop-first l = l.spaced ++ spaced_from 0 l.rest ≡ spaced_from 0 l.fn.text

abbrev pub decreases-loop-first : goal.decreases-loop-first
decreases-loop-first l = length l.rest
