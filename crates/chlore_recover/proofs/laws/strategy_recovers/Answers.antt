use Rattle.chlore_recover.proofs.Recoveries.{strategy_recovers as law}
use Rattle.chlore_recover.proofs.laws.strategy_recovers.Goals as goal

pub returns : goal.returns
returns c = law
