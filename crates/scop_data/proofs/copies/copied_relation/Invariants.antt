use Rattle.std.proofs.Common.{◌≡◌, ◌++◌, drop}
use Rattle.scop_data.proofs.copies.copied_relation.Given as goal

abbrev pub invariant-loop-part : goal.invariant-loop-part
invariant-loop-part l = l.made ++ drop l.part-index l.parts ≡ l.parts
