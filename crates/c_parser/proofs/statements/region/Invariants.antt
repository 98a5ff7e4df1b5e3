use Rattle.std.proofs.Common.{◌≡◌, ◌-◌}
use Rattle.c_parser.specs.Statements.{region, region_from}
use Rattle.c_parser.proofs.statements.region.Given as goal

abbrev pub invariant-loop-turn : goal.invariant-loop-turn
invariant-loop-turn l = region l.fn.tokens ≡ region_from (l._turn-end - l._turn) l.nodes l.tokens
