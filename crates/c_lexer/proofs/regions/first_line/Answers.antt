use Rattle.std.proofs.Common.{ap, arith}
use Rattle.c_lexer.proofs.RegionLemmas.{bytes_of, bytes_within}
use Rattle.c_lexer.proofs.regions.first_line.Goals as goal

pub overflow_add-past : goal.overflow_add-past
overflow_add-past c = omega (arith, ap bytes_of c.in-Some.ensures, bytes_within c.args.among.now)

pub overflow_add-past-in-Some : goal.overflow_add-past-in-Some
overflow_add-past-in-Some c = omega (arith, ap bytes_of c.in-Some.ensures, bytes_within c.args.among.now)

pub overflow_add-lines_before : goal.overflow_add-lines_before
overflow_add-lines_before c = omega (arith, ap bytes_of c.in-Some.ensures, bytes_within c.args.among.now)
