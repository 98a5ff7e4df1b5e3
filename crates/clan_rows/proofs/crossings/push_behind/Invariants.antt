use Rattle.std.proofs.Common.{◌≡◌, ◌++◌, drop}
use Rattle.clan_rows.specs.Pieces.{each_behind}
use Rattle.clan_rows.proofs.crossings.push_behind.Given as goal

abbrev pub invariant-loop-behind : goal.invariant-loop-behind
invariant-loop-behind l = l.parts ++ each_behind l.left (drop l.behind-index l.right) ≡ l.fn.parts ++ each_behind l.left l.right
