use Rattle.std.proofs.Common.{◌≡◌, ◌++◌, drop}
use Rattle.scop_data.specs.ScopData.{others}
use Rattle.scop_data.proofs.copies.other_extensions.Given as goal

abbrev pub invariant-loop-item : goal.invariant-loop-item
invariant-loop-item l = l.made ++ others l.name (drop l.item-index l.items) ≡ others l.name l.items
