use Rattle.std.proofs.Common.{◌+◌, ◌∙◌, arith, subst, sym, refl, slice_index_or, true, Ok, Err}
use Rattle.std.proofs.lemmas.Result.{err_from_is_err_and}
use Rattle.legality.specs.declared.legal.Legal.TheVariants.{Yes, Illegal}
use Rattle.legality.specs.Violations.{edit_of}
use Rattle.legality.specs.Answers.{IsSaid, IsTried, StopsHere, IsNone}
use Rattle.legality.proofs.Answered.{at_levels, level_at, stops_said, goes_on, ends_said}
use Rattle.legality.proofs.checking.decide_levels.Goals as goal

pub decide_violation-requires-clause-level : goal.decide_violation-requires-clause-level
decide_violation-requires-clause-level c =
    level_at (edit_of c.args.scop.now c.args.edited.now) c.args.dep.now c.args.levels.now c.loop-level.level-index c.requires.levels c.loop-level-test.true

pub returns-then-branch : goal.returns-then-branch
returns-then-branch c =
    let tried : IsTried (edit_of c.args.scop.now c.args.edited.now) (record { entry = c.args.dep.now; level = slice_index_or c.args.levels.now c.loop-level.level-index 0 }) c.number_after-number.result (Ok true)
    = subst (λ b. IsTried (edit_of c.args.scop.now c.args.edited.now) (record { entry = c.args.dep.now; level = slice_index_or c.args.levels.now c.loop-level.level-index 0 }) c.number_after-number.result (Ok b)) c.if-branch.true c.in_ok-decide_violation.ensures.tried in
    subst (λ list. IsSaid (edit_of c.args.scop.now c.args.edited.now) (c.args.before + 1) (at_levels c.args.dep.now list) (Ok (Illegal c.number_after-number.result))) c.requires.levels
    (stops_said (edit_of c.args.scop.now c.args.edited.now) c.args.dep.now c.args.before c.loop-level.number c.number_after-number.result c.args.levels.now c.loop-level.level-index (Ok (Illegal c.number_after-number.result))
    c.loop-level.invariant.said c.loop-level-test.true c.number_after-number.ensures (refl, tried.0, tried.1))

pub returns-in_err-decide_violation : goal.returns-in_err-decide_violation
returns-in_err-decide_violation c =
    let p = err_from_is_err_and c.from_residual.result c.from_residual.ensures.1 in
    let stops : StopsHere (edit_of c.args.scop.now c.args.edited.now) c.number_after-number.result (record { entry = c.args.dep.now; level = slice_index_or c.args.levels.now c.loop-level.level-index 0 }) c.from_residual.result
    = subst (λ r. StopsHere (edit_of c.args.scop.now c.args.edited.now) c.number_after-number.result (record { entry = c.args.dep.now; level = slice_index_or c.args.levels.now c.loop-level.level-index 0 }) r) (sym p.1)
    (subst (λ f. StopsHere (edit_of c.args.scop.now c.args.edited.now) c.number_after-number.result (record { entry = c.args.dep.now; level = slice_index_or c.args.levels.now c.loop-level.level-index 0 }) (Err f)) (sym p.2) c.in_err-decide_violation.ensures.tried) in
    subst (λ list. IsSaid (edit_of c.args.scop.now c.args.edited.now) (c.args.before + 1) (at_levels c.args.dep.now list) c.from_residual.result) c.requires.levels
    (stops_said (edit_of c.args.scop.now c.args.edited.now) c.args.dep.now c.args.before c.loop-level.number c.number_after-number.result c.args.levels.now c.loop-level.level-index c.from_residual.result
    c.loop-level.invariant.said c.loop-level-test.true c.number_after-number.ensures stops)

pub loop-level-preserved : goal.loop-level-preserved
loop-level-preserved c =
    let none : IsNone (edit_of c.args.scop.now c.args.edited.now) (record { entry = c.args.dep.now; level = slice_index_or c.args.levels.now c.loop-level.level-index 0 }) = subst (λ b. IsTried (edit_of c.args.scop.now c.args.edited.now) (record { entry = c.args.dep.now; level = slice_index_or c.args.levels.now c.loop-level.level-index 0 }) c.number_after-number.result (Ok b)) c.if-branch.false c.in_ok-decide_violation.ensures.tried in
    let number = c.number_after-number.ensures in
    let before = c.loop-level.invariant.number in record {
      kept = c.in_ok-decide_violation.ensures.kept ∙ c.loop-level.invariant.kept;
      number = omega (arith, number, before);
      said = goes_on (edit_of c.args.scop.now c.args.edited.now) c.args.dep.now c.args.before c.loop-level.number c.number_after-number.result c.args.levels.now c.loop-level.level-index
          c.loop-level.invariant.said c.loop-level-test.true number none;
    }

pub returns : goal.returns
returns c =
    subst (λ list. IsSaid (edit_of c.args.scop.now c.args.edited.now) (c.args.before + 1) (at_levels c.args.dep.now list) (Ok Yes)) c.requires.levels
    (ends_said (edit_of c.args.scop.now c.args.edited.now) c.args.dep.now c.args.before c.loop-level.number c.args.levels.now c.loop-level.level-index c.loop-level.invariant.said (omega (arith, c.loop-level-test.false)))
