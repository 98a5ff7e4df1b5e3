use Rattle.std.proofs.Common.{◌≡◌, length}
use Rattle.clay_script.specs.Lexemes.{lexemes}
use Rattle.clay_script.specs.Reading.{with_front, numbers_at}
use Rattle.clay_script.proofs.readers.read_more_items.Given as goal

abbrev pub invariant-loop-vector : goal.invariant-loop-vector
invariant-loop-vector l =
    with_front l.vector (numbers_at (lexemes 0 l.lexer.place l.lexer.rest.now)) ≡ with_front l.fn.vector (numbers_at (lexemes 0 l.fn.lexer.place l.fn.lexer.rest.now))

abbrev pub decreases-loop-vector : goal.decreases-loop-vector
decreases-loop-vector l = length (lexemes 0 l.lexer.place l.lexer.rest.now)
