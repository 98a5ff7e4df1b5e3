use Rattle.std.proofs.Common.{◌≡◌, drop}
use Rattle.c_lexer.specs.Pragmas.{after}
use Rattle.c_lexer.proofs.pragmas.after.Given as goal

abbrev pub invariant-loop-wanted : goal.invariant-loop-wanted
invariant-loop-wanted l = after (drop l.wanted-index l.word) l.text ≡ after l.fn.word l.fn.text
