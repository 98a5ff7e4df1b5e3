use Rattle.std.proofs.Common.{◌≡◌, ◌++◌, drop}
use Rattle.std.specs.List.{flat_map}
use Rattle.relation_core.specs.Layouts.{part_layout}
use Rattle.scop_writer.proofs.relation_texts.print_parts.Given as goal

abbrev pub invariant-loop-part : goal.invariant-loop-part
invariant-loop-part l =
    l.text ++ flat_map part_layout (drop l.part-index l.relation) ≡ l.fn.text ++ flat_map part_layout l.relation
