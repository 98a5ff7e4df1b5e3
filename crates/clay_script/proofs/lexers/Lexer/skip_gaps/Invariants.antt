use Rattle.std.proofs.Common.{◌≡◌, length}
use Rattle.clay_script.specs.Lexemes.{lexemes}
use Rattle.clay_script.proofs.lexers.Lexer.skip_gaps.Given as goal

abbrev pub invariant-loop-self : goal.invariant-loop-self
invariant-loop-self l = lexemes 0 l.self.place l.self.rest.now ≡ lexemes 0 l.fn.self.place l.fn.self.rest.now

abbrev pub decreases-loop-self : goal.decreases-loop-self
decreases-loop-self l = length l.self.rest.now
