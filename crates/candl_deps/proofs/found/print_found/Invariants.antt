use Rattle.std.proofs.Common.{◌≡◌, ◌++◌, true, drop}
use Rattle.scop_core.specs.Printable.{are_kept_lines}
use Rattle.dependence_blocks.specs.Blocks.{block_name}
use Rattle.candl_deps.specs.Found.{found_lines}
use Rattle.candl_deps.proofs.found.print_found.Given as goal

abbrev pub invariant-loop-entry : goal.invariant-loop-entry
invariant-loop-entry l = record {
  lines : l.lines ++ found_lines (drop l.entry-index l.deps) l.left ≡ l.fn.lines ++ found_lines l.deps l.fn.decided;
  kept : are_kept_lines block_name l.lines ≡ true;
}
