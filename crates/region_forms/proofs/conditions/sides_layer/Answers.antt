use Rattle.std.proofs.Common.{◌≡◌, ◌∙◌, ap, sym, subst}
use Rattle.clan_rows.specs.Comparisons.{meaning_of}
use Rattle.clan_rows.specs.Contents.{made}
use Rattle.clan_rows.specs.Layers.{comparison_layer, remainder_layer}
use Rattle.region_trees.specs.Regions.{compared}
use Rattle.region_trees.specs.Layers.{term_of_sum}
use Rattle.region_forms.specs.Conditions.{IsTest, asked}
use Rattle.region_forms.specs.Evaluations.{quotient_of, told}
use Rattle.region_forms.specs.declared.evaluations.Quotient.{Quotient}
use Rattle.region_forms.proofs.Tests.{sides_by, test_sides}
use Rattle.region_forms.proofs.Trees.{ok_map}
use Rattle.region_forms.proofs.conditions.sides_layer.Goals as goal

pub returns-in-Some : goal.returns-in-Some
returns-in-Some c =
    let scope = c.args.scope.now in
    let parameters = scope.parameters.now in
    let loops = scope.loops.now in
    let l = term_of_sum scope.source.now c.args.left.now in
    let r = term_of_sum scope.source.now c.args.right.now in
    let v = told c.in_ok-left.left in
    let w = told c.in_ok-right.right in
    let comparison = meaning_of c.args.comparison in
    let made_here : sides_by (asked c.args.truth comparison) v.quotient v.form w.form
    ≡ remainder_layer (meaning_of c.asked-sign.result) (made c.get-quotient.result.now.dividend) c.get-quotient.result.now.divisor =
    ap (λ q. sides_by (asked c.args.truth comparison) (quotient_of q) v.form w.form) c.in-Some.is
    ∙ ap (λ s. remainder_layer s (made c.in-Some.quotient.dividend) c.in-Some.quotient.divisor) (sym c.asked-sign.ensures)
    ∙ ap (λ (q : Quotient). remainder_layer (meaning_of c.asked-sign.result) (made q.dividend) q.divisor) (sym c.get-quotient.ensures) in
    ok_map c.of_remainder.result _ _
    (λ layer e. subst (IsTest parameters loops c.args.truth (compared comparison l r)) (made_here ∙ sym e)
    (test_sides parameters loops c.args.truth comparison l r v w c.in_ok-left.ensures c.in_ok-right.ensures))
    c.of_remainder.ensures

pub returns : goal.returns
returns c =
    let scope = c.args.scope.now in
    let parameters = scope.parameters.now in
    let loops = scope.loops.now in
    let l = term_of_sum scope.source.now c.args.left.now in
    let r = term_of_sum scope.source.now c.args.right.now in
    let v = told c.in_ok-left.left in
    let w = told c.in_ok-right.right in
    let comparison = meaning_of c.args.comparison in
    let made_here : sides_by (asked c.args.truth comparison) v.quotient v.form w.form
    ≡ comparison_layer (meaning_of c.asked-sign.result) (made c.in_ok-left.left.form) (made c.in_ok-right.right.form) =
    ap (λ q. sides_by (asked c.args.truth comparison) (quotient_of q) v.form w.form) c.in-None.is
    ∙ ap (λ s. comparison_layer s v.form w.form) (sym c.asked-sign.ensures) in
    ok_map c.of_comparison.result _ _
    (λ layer e. subst (IsTest parameters loops c.args.truth (compared comparison l r)) (made_here ∙ sym e)
    (test_sides parameters loops c.args.truth comparison l r v w c.in_ok-left.ensures c.in_ok-right.ensures))
    c.of_comparison.ensures
