use Rattle.std.proofs.Common.{subst}
use Rattle.legality.specs.Answers.{IsKnown}
use Rattle.legality.proofs.EmptyBases.{none_behind}
use Rattle.legality.proofs.deciding.has_point.Goals as goal

pub returns-then-empty : goal.returns-then-empty
returns-then-empty c = none_behind c.args.system.now c.args.shared.now c.requires.begins (subst (λ b. IsKnown c.args.shared.now b) c.if-empty.true c.requires.known)
