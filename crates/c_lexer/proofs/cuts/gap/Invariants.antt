use Rattle.std.proofs.Common.{◌≡◌, ◌+◌, ◌≤◌, length}
use Rattle.c_lexer.specs.Tokens.{gap}
use Rattle.c_lexer.proofs.cuts.gap.Given as goal

abbrev pub invariant-loop-left : goal.invariant-loop-left
invariant-loop-left l = record {
  same : gap l.left + length l.text ≡ gap l.text + length l.left;
  within : length l.left ≤ length l.text;
}

abbrev pub decreases-loop-left : goal.decreases-loop-left
decreases-loop-left l = length l.left
