use Rattle.std.proofs.Common.{◌≡◌, take}
use Rattle.clay_commands.specs.Drafts.{parts_where}
use Rattle.clay_commands.proofs.splits.restricted_domain.Given as goal

abbrev pub invariant-loop-part : goal.invariant-loop-part
invariant-loop-part l = l.made ≡ parts_where l.iterators l.parameters l.constant (take l.part-index l.parts)
