use Rattle.std.proofs.Common.{◌≡◌, ◌-◌, ◌+◌, []}
use Rattle.scop_reader.specs.Rules.{statements_from}
use Rattle.scop_reader.proofs.statement_rules.statements.Given as goal

abbrev pub invariant-loop-k : goal.invariant-loop-k
invariant-loop-k l = statements_from l.parameters 1 l.count [] l.fn.cursor ≡ statements_from l.parameters (l.k + 1) (l.count - l.k) l.made l.cursor
