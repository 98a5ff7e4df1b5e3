use Rattle.std.proofs.Common.{◌≡◌, ◌++◌, drop}
use Rattle.std.specs.List.{flat_map}
use Rattle.scop_core.specs.Layouts.{access_layout}
use Rattle.scop_writer.proofs.statement_texts.print_accesses.Given as goal

abbrev pub invariant-loop-access : goal.invariant-loop-access
invariant-loop-access l =
    l.text ++ flat_map (access_layout l.iterators l.parameters) (drop l.access-index l.accesses)
    ≡ l.fn.text ++ flat_map (access_layout l.iterators l.parameters) l.accesses
