use Rattle.std.proofs.Common.{◌≡◌, ◌++◌, drop}
use Rattle.clan_rows.proofs.crossings.push_parts.Given as goal

abbrev pub invariant-loop-part : goal.invariant-loop-part
invariant-loop-part l = l.parts ++ drop l.part-index l.from ≡ l.fn.parts ++ l.from
