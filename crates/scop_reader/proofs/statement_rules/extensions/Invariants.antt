use Rattle.std.proofs.Common.{◌≡◌}
use Rattle.scop_reader.specs.Rules.{extensions_from, extensions_of}
use Rattle.scop_reader.proofs.statement_rules.extensions.Given as goal

abbrev pub invariant-loop-left : goal.invariant-loop-left
invariant-loop-left l =
    extensions_from l.iterators l.count (extensions_of l.fn.special l.fn.others) l.fn.cursor
    ≡ extensions_from l.iterators l.left (extensions_of l.special l.others) l.cursor

abbrev pub decreases-loop-left : goal.decreases-loop-left
decreases-loop-left l = l.left
