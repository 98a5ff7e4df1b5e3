use Rattle.std.proofs.Common.{◌≡◌, ◌∙◌, ap, sym, subst, arith, take, ◌-◌, ◌+◌, length}
use Rattle.std.proofs.lemmas.List.{take_more, take_all}
use Rattle.region_forms.specs.Evaluations.{Signs, told}
use Rattle.region_forms.proofs.Values.{signs_more, signs_none}
use Rattle.region_forms.proofs.evaluations.Evaluation.signed.Goals as goal

pub loop-left-init : goal.loop-left-init
loop-left-init c =
    let signs = c.args.signs.now in
    (omega arith, λ w h. subst (λ xs. Signs xs (told c.args.self) w) (take_all (length signs) signs (omega arith)) h)

pub loop-left-preserved : goal.loop-left-preserved
loop-left-preserved c =
    let signs = c.args.signs.now in
    let at = c.loop-left.left - 1 in
    let within = c.loop-left.invariant.0 in
    let some = c.loop-left-test.true in
    let here = take_more signs at _ (omega (arith, within, some)) in
    let next : at + 1 ≡ c.loop-left.left = omega (arith, some) in (
      omega (arith, within),
      λ w h. c.loop-left.invariant.1 w
          (subst (λ xs. Signs xs (told c.loop-left.value) w) (sym here ∙ ap (λ n. take n signs) next)
          (signs_more (take at signs) _ (told c.loop-left.value) w (subst (λ v. Signs (take at signs) v w) c.in_ok-value.ensures h))),
    )

pub returns : goal.returns
returns c =
    let none : c.loop-left.left ≡ 0 = let e = c.loop-left-test.false in omega (arith, e) in
    c.loop-left.invariant.1 (told c.loop-left.value)
    (subst (λ n. Signs (take n c.args.signs.now) (told c.loop-left.value) (told c.loop-left.value)) (sym none) (signs_none (told c.loop-left.value)))
