use Rattle.std.proofs.Common.{◌∙◌, ap, refl, drop, ◌+◌}
use Rattle.region_forms.specs.Conditions.{turned}
use Rattle.region_forms.proofs.Tests.{turned_more}
use Rattle.region_forms.proofs.conditions.turned.Goals as goal

pub loop-sign-preserved : goal.loop-sign-preserved
loop-sign-preserved c =
    let signs = c.args.signs.now in
    let at = c.loop-sign.sign-index in
    ap (λ t. turned t (drop (at + 1) signs)) c.behind-truth.ensures
    ∙ turned_more c.loop-sign.truth signs at _ _ c.loop-sign-test.true refl
    ∙ c.loop-sign.invariant
