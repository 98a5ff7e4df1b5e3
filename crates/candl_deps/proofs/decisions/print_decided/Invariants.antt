use Rattle.std.proofs.Common.{◌≡◌, true, take}
use Rattle.std.specs.Prelude.{IfSome}
use Rattle.scop_core.specs.Printable.{are_kept_lines}
use Rattle.dependence_systems.specs.Sides.{own_sides}
use Rattle.dependence_blocks.specs.Blocks.{block_name}
use Rattle.candl_deps.specs.Bases.{IsBase}
use Rattle.candl_deps.specs.Decisions as spec
use Rattle.candl_deps.proofs.decisions.print_decided.Given as goal

abbrev pub invariant-loop-k : goal.invariant-loop-k
invariant-loop-k l = record {
  printed : spec.IsPrinted l.scop.context (own_sides l.scop) (take l.k l.items) l.fn.lines l.lines;
  kept : are_kept_lines block_name l.lines ≡ true;
  held : IfSome l.held (IsBase l.scop.context (own_sides l.scop));
}
