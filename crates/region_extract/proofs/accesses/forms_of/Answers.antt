use Rattle.std.proofs.Common.{◌+◌, List, Option, length, refl, sym, subst}
use Rattle.std.specs.List.{All}
use Rattle.clan_rows.specs.declared.forms.Form.{Form}
use Rattle.clan_walk.specs.Places.{IsSizedForm}
use Rattle.region_forms.specs.Evaluations.{told}
use Rattle.region_trees.specs.Layers.{term_of_sum}
use Rattle.region_extract.proofs.Naming.{FormsRest, form_told, forms_told, sizes_told}
use Rattle.region_extract.proofs.accesses.forms_of.Goals as goal

pub loop-subscript-preserved : goal.loop-subscript-preserved
loop-subscript-preserved c =
    let scope = c.args.scope.now in
    let parameters = scope.parameters.now in
    let loops = scope.loops.now in
    let source = scope.source.now in
    let at = c.loop-subscript.subscript-index in
    let forms = c.loop-subscript.forms in
    let value = c.in_ok-value.value in
    record {
      told =
          subst (λ (fs : List (Option Form)). FormsRest parameters loops source c.args.subscripts.now (at + 1) fs) (sym c.in_ok-push.ensures.ok)
          (form_told parameters loops source c.args.subscripts.now at c.subscript-item.result forms value.form (told value) c.loop-subscript-test.true c.subscript-item.is
          c.loop-subscript.invariant.told c.in_ok-value.ensures refl);
      sizes =
          subst (λ (fs : List (Option Form)). All (IsSizedForm (length loops) (length parameters)) fs) (sym c.in_ok-push.ensures.ok)
          (sizes_told parameters loops forms value.form (term_of_sum source c.subscript-item.result) (told value) c.loop-subscript.invariant.sizes c.in_ok-value.ensures refl);
    }

pub returns-clause-forms : goal.returns-clause-forms
returns-clause-forms c =
    let scope = c.args.scope.now in
    forms_told scope.parameters.now scope.loops.now scope.source.now c.args.subscripts.now c.loop-subscript.subscript-index c.loop-subscript.forms
    c.loop-subscript-test.false c.loop-subscript.invariant.told
