use Rattle.std.proofs.Common.{◌≡◌, length, map}
use Rattle.c_lexer.specs.Symbols.{lookup}
use Rattle.c_lexer.proofs.symbols.lookup.Given as goal

abbrev pub invariant-loop-table : goal.invariant-loop-table
invariant-loop-table l = lookup (map (λ w. (w.0.now, w.1)) l.table) l.text ≡ lookup (map (λ w. (w.0.now, w.1)) l.fn.table) l.text

abbrev pub decreases-loop-table : goal.decreases-loop-table
decreases-loop-table l = length l.table
