use Rattle.std.proofs.Common.{◌≡◌, ◌-◌, length}
use Rattle.clay_script.specs.Lexemes.{lexemes}
use Rattle.clay_script.proofs.lexers.Lexer.pass.Given as goal

abbrev pub invariant-loop-left : goal.invariant-loop-left
invariant-loop-left l = record {
  same : lexemes l.left l.self.place l.self.rest.now ≡ lexemes l.fn.count l.fn.self.place l.fn.self.rest.now;
  size : length l.self.rest.now - l.left ≡ length l.fn.self.rest.now - l.fn.count;
}

abbrev pub decreases-loop-left : goal.decreases-loop-left
decreases-loop-left l = l.left
