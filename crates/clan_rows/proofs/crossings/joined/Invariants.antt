use Rattle.std.proofs.Common.{◌≡◌, ◌++◌, drop}
use Rattle.clan_rows.specs.Pieces.{all_joined}
use Rattle.clan_rows.proofs.crossings.joined.Given as goal

abbrev pub invariant-loop-part : goal.invariant-loop-part
invariant-loop-part l = l.parts ++ all_joined (drop l.part-index l.left) l.right ≡ all_joined l.left l.right
