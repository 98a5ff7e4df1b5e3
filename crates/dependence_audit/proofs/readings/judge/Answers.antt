use Rattle.dependence_audit.proofs.Certified.{found_heavy, found_valid, found_wrong}
use Rattle.dependence_audit.proofs.readings.judge.Goals as goal

pub returns-in-Err : goal.returns-in-Err
returns-in-Err c = found_heavy _ _ c.in-Err.ensures.answer

pub returns-in-Ok-true : goal.returns-in-Ok-true
returns-in-Ok-true c = found_valid _ _ c.in-Ok-true.field-0 c.in-Ok-true.field-0-test c.in-Ok-true.ensures.answer c.in-Ok-true.ensures.light

pub returns-in-Ok-false : goal.returns-in-Ok-false
returns-in-Ok-false c = found_wrong _ _ c.in-Ok-false.field-0 c.in-Ok-false.field-0-test c.in-Ok-false.ensures.answer c.in-Ok-false.ensures.light
