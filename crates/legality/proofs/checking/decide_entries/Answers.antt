use Rattle.std.proofs.Common.{arith, length, ◌≡◌, ◌+◌, ◌∙◌, refl, ap, sym, subst, Ok, Err}
use Rattle.std.proofs.lemmas.Result.{err_from_is_err_and}
use Rattle.legality.specs.declared.legal.Legal.TheVariants.{Illegal}
use Rattle.legality.specs.Violations.{edit_of, violations}
use Rattle.legality.specs.Answers.{IsSaid}
use Rattle.legality.proofs.Answered.{memory_any, entry_in, entries_stop, entries_go_on, error_is_no_yes, illegal_is_no_yes}
use Rattle.legality.proofs.FewLevels.{few_at}
use Rattle.legality.proofs.checking.decide_entries.Goals as goal

pub entry_levels-requires-clause-listed : goal.entry_levels-requires-clause-listed
entry_levels-requires-clause-listed c = entry_in (edit_of c.args.scop.now c.args.edited.now) c.args.list.now c.loop-dep.dep-index _ c.requires.listed c.loop-dep-test.true

pub decide_entry-requires-clause-listed : goal.decide_entry-requires-clause-listed
decide_entry-requires-clause-listed c = entry_in (edit_of c.args.scop.now c.args.edited.now) c.args.list.now c.loop-dep.dep-index _ c.requires.listed c.loop-dep-test.true

pub decide_entry-requires-clause-room : goal.decide_entry-requires-clause-room
decide_entry-requires-clause-room c =
    let few = c.loop-dep.invariant.few in
    let at = c.loop-dep-test.true in
    let all = c.requires.few in
    let more = few_at (edit_of c.args.scop.now c.args.edited.now) c.requires.edit c.args.list.now c.loop-dep.dep-index _ c.requires.listed c.loop-dep-test.true c.in_ok-levels.levels c.in_ok-levels.ensures in
    let is = c.as_slice.ensures in
    let same : c.as_slice.result.now ≡ c.in_ok-levels.levels = cc in
    let long = ap length same in
    omega (arith, few, at, all, more, long)

pub number_after-number-requires : goal.number_after-number-requires
number_after-number-requires c =
    let few = c.loop-dep.invariant.few in
    let at = c.loop-dep-test.true in
    let all = c.requires.few in
    let long = c.len.ensures in
    let more = few_at (edit_of c.args.scop.now c.args.edited.now) c.requires.edit c.args.list.now c.loop-dep.dep-index _ c.requires.listed c.loop-dep-test.true c.in_ok-levels.levels c.in_ok-levels.ensures in
    omega (arith, few, at, all, long, more)

pub returns-in_err-levels : goal.returns-in_err-levels
returns-in_err-levels c =
    let p = err_from_is_err_and c.from_residual.result c.from_residual.ensures.1 in
    memory_any (edit_of c.args.scop.now c.args.edited.now) 1 (violations (edit_of c.args.scop.now c.args.edited.now)) c.from_residual.result (p.1 ∙ ap (λ f. Err f) p.2)

pub returns-in_err-said : goal.returns-in_err-said
returns-in_err-said c =
    let p = err_from_is_err_and c.from_residual-in_err-said.result c.from_residual-in_err-said.ensures.1 in
    let same : c.from_residual-in_err-said.result ≡ Err c.in_err-said.field-0.0 = p.1 ∙ ap (λ f. Err f) p.2 in
    subst (λ r. IsSaid (edit_of c.args.scop.now c.args.edited.now) 1 (violations (edit_of c.args.scop.now c.args.edited.now)) r) (sym same)
    (entries_stop (edit_of c.args.scop.now c.args.edited.now) c.loop-dep.number c.args.list.now c.loop-dep.dep-index _ (Err c.in_err-said.field-0.0) c.loop-dep.invariant.go c.loop-dep-test.true
    (error_is_no_yes (Err c.in_err-said.field-0.0) c.in_err-said.field-0.0 refl) c.in_err-said.ensures c.requires.listed)

pub returns-in-Illegal : goal.returns-in-Illegal
returns-in-Illegal c =
    let same : Ok c.in_ok-said.said ≡ Ok (Illegal c.in-Illegal.k) = ap (λ l. Ok l) c.in-Illegal.is in
    subst (λ l. IsSaid (edit_of c.args.scop.now c.args.edited.now) 1 (violations (edit_of c.args.scop.now c.args.edited.now)) (Ok l)) c.in-Illegal.is
    (entries_stop (edit_of c.args.scop.now c.args.edited.now) c.loop-dep.number c.args.list.now c.loop-dep.dep-index _ (Ok c.in_ok-said.said) c.loop-dep.invariant.go c.loop-dep-test.true
    (illegal_is_no_yes c.in-Illegal.k (Ok c.in_ok-said.said) same) c.in_ok-said.ensures c.requires.listed)

pub loop-dep-preserved : goal.loop-dep-preserved
loop-dep-preserved c =
    let n = c.number_after-number.ensures ∙ ap (λ k. c.loop-dep.number + k) c.len.ensures in
    let few = c.loop-dep.invariant.few in
    let more = few_at (edit_of c.args.scop.now c.args.edited.now) c.requires.edit c.args.list.now c.loop-dep.dep-index _ c.requires.listed c.loop-dep-test.true c.in_ok-levels.levels c.in_ok-levels.ensures in record {
      go = entries_go_on (edit_of c.args.scop.now c.args.edited.now) c.loop-dep.number c.number_after-number.result c.in_ok-levels.levels c.args.list.now c.loop-dep.dep-index _ c.loop-dep.invariant.go c.loop-dep-test.true
          c.in_ok-levels.ensures n c.in_ok-said.said c.in-Yes.is c.in_ok-said.ensures;
      few = omega (arith, n, few, more);
    }
