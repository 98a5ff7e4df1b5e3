use Rattle.std.proofs.Common.{◌∙◌, ap, refl, sym, subst, rules}
use Rattle.c_parser.specs.declared.tree.Target.{out-Target}
use Rattle.clan_extract.specs.Forms.{name_form}
use Rattle.region_trees.specs.Terms.{sum_of}
use Rattle.region_trees.specs.Layers.{target_is}
use Rattle.region_forms.specs.Evaluations.{IsValue, named_of, told}
use Rattle.region_forms.proofs.Leaves.{value_of_element, value_of_name}
use Rattle.region_forms.proofs.evaluations.named.Goals as goal

pub returns-then-not-is_empty : goal.returns-then-not-is_empty
returns-then-not-is_empty c =
    let parameters = c.args.scope.now.parameters.now in
    let loops = c.args.scope.now.loops.now in
    let source = c.args.scope.now.source.now in
    let x = c.args.target.now in
    let value = value_of_element parameters loops _ _ (sum_of source) (out-Target x).subscripts (λ none. absurd (search (c.if-not-is_empty.ensures.1 none, rules))) in
    subst (λ t. IsValue parameters loops t (told c.nothing.result)) (sym (ap named_of (target_is source x))) (subst (IsValue parameters loops _) (sym c.nothing.ensures) value)

pub returns : goal.returns
returns c =
    let parameters = c.args.scope.now.parameters.now in
    let loops = c.args.scope.now.loops.now in
    let source = c.args.scope.now.source.now in
    let x = c.args.target.now in
    let form = c.in_ok-form.ensures ∙ ap (name_form parameters loops) c.piece_bytes-name.ensures in
    let value = value_of_name parameters loops _ _ (sum_of source) (out-Target x).subscripts _ (c.if-not-is_empty.ensures.0 refl) form in
    subst (λ t. IsValue parameters loops t (told c.of_form.result)) (sym (ap named_of (target_is source x))) (subst (IsValue parameters loops _) (sym c.of_form.ensures) value)
