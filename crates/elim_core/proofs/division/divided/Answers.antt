use Rattle.std.proofs.Common.{sym, arith}
use Rattle.elim_core.proofs.Quotients.{divided_small}
use Rattle.elim_core.proofs.division.divided.Goals as goal

pub returns-then-divisor-lt2 : goal.returns-then-divisor-lt2
returns-then-divisor-lt2 g c = sym (divided_small _ (omega (arith, c.row_gcd-divisor.ensures.value)))
