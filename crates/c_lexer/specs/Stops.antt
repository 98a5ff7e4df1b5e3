-- Why parsing stops, as an answer of the suite.
use Rattle.suite_base.specs.declared.refusals.Fail.{Fail}
use Rattle.suite_base.specs.declared.refusals.Fail.TheVariants as fail
use Rattle.c_lexer.specs.declared.stops.Stop.{Stop}
use Rattle.c_lexer.specs.declared.stops.Stop.TheVariants as stop

abbrev pub fail_of : Stop → Fail
fail_of stop.Memory = fail.Memory
fail_of (stop.Refused refusal) = fail.Refused refusal
