use Rattle.std.proofs.Common.{ap, arith, length}
use Rattle.farkas_cert.proofs.Laws.{allowed_length, meaning_of}
use Rattle.farkas_cert.proofs.checks.check.Goals as goal

pub returns-then-multipliers-row_count-clause-answer :
    goal.returns-then-multipliers-row_count-clause-answer
returns-then-multipliers-row_count-clause-answer c = ((λ t. cc), (λ v. absurd (omega (arith, allowed_length _ _ v.allowed, ap length c.as_slice-multipliers.ensures))))

pub returns-clause-meaning : goal.returns-clause-meaning
returns-clause-meaning c = meaning_of c.is_valid.result _ _ _ _ c.is_valid.ensures.answer
