use Rattle.std.proofs.Common.{◌∙◌, ap, sym, subst}
use Rattle.std.specs.Prelude.{pos}
use Rattle.c_lexer.specs.Symbols.{value_from}
use Rattle.clan_extract.specs.Forms.{multiple, name_form}
use Rattle.clan_rows.specs.Fitting.{in_range}
use Rattle.region_forms.specs.Evaluations.{IsValue}
use Rattle.region_forms.proofs.NameMultiples.{value_of_large_multiple, value_of_multiple}
use Rattle.region_forms.proofs.evaluations.multiple.Goals as goal

pub returns-in-None : goal.returns-in-None
returns-in-None c =
    let parameters = c.args.scope.now.parameters.now in
    let loops = c.args.scope.now.loops.now in
    let is = ap (λ b. in_range (pos (value_from 0 b))) (sym c.piece_bytes.ensures) ∙ sym c.integer.ensures ∙ c.in-None.is in
    subst (IsValue parameters loops _) (sym c.of_form.ensures) (value_of_large_multiple parameters loops _ _ _ is)

pub returns-in_ok-form-in-Some : goal.returns-in_ok-form-in-Some
returns-in_ok-form-in-Some c =
    let parameters = c.args.scope.now.parameters.now in
    let loops = c.args.scope.now.loops.now in
    let is = ap (λ b. in_range (pos (value_from 0 b))) (sym c.piece_bytes.ensures) ∙ sym c.integer.ensures ∙ c.in-Some.is in
    let form = c.in_ok-form-in-Some.ensures ∙ ap (λ b. multiple c.in-Some.factor (name_form parameters loops b)) c.piece_bytes-name.ensures in
    subst (IsValue parameters loops _) (sym c.of_form-in-Some.ensures) (value_of_multiple parameters loops _ _ _ _ _ is form c.stays_in_range.ensures)
