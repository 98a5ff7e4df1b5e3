use Rattle.std.proofs.Common.{◌<◌, ◌+◌, ◌∙◌, length, arith, ap, refl, Err}
use Rattle.std.proofs.lemmas.Result.{err_from_is_err_and}
use Rattle.suite_base.specs.declared.refusals.Fail.TheVariants.{Memory}
use Rattle.legality.specs.Violations.{edit_of, violations_of}
use Rattle.legality.proofs.Answered.{first_heavy, memory_any}
use Rattle.legality.proofs.checking.decide_entry.Goals as goal

pub returns-in_err-empty-in-Ok : goal.returns-in_err-empty-in-Ok
returns-in_err-empty-in-Ok c =
    let p = err_from_is_err_and c.from_residual-in_err-empty-in-Ok.result c.from_residual-in_err-empty-in-Ok.ensures.1 in
    memory_any (edit_of c.args.scop.now c.args.edited.now) (c.args.before + 1) (violations_of (edit_of c.args.scop.now c.args.edited.now) c.args.dep.now) c.from_residual-in_err-empty-in-Ok.result (p.1 ∙ ap (λ f. Err f) p.2)

pub returns-in-Err-Memory : goal.returns-in-Err-Memory
returns-in-Err-Memory c = memory_any (edit_of c.args.scop.now c.args.edited.now) (c.args.before + 1) (violations_of (edit_of c.args.scop.now c.args.edited.now) c.args.dep.now) (Err Memory) refl

pub returns-in-Err-Overflow : goal.returns-in-Err-Overflow
returns-in-Err-Overflow c =
    let some : 0 < length c.args.levels.now = omega (arith, c.if-levels-eq0.false) in
    first_heavy (edit_of c.args.scop.now c.args.edited.now) c.args.dep.now c.args.levels.now c.args.before c.number_after-first.result c.requires.levels some c.number_after-first.ensures
    (c.in-Err-Overflow.ensures.heavy c.in-Err-Overflow.field-0-is)
