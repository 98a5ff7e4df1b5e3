-- Forms of expressions at one place have one shape.
use Rattle.std.proofs.Common.{◌≡◌, ℕ, List, [], ◌∷◌, length, Bool, true, false, cond, refl, sym, ◌∙◌, ap, Option, None, Some}
use Rattle.scop_data.specs.declared.affines.Affine.{Affine}
use Rattle.clan_extract.specs.Regions.{Expression}
use Rattle.clan_extract.specs.Forms.{form}
use Rattle.clan_extract.specs.Refusals.{forms_fit}
use Rattle.clan_extract.proofs.Bounds.{length_form}
use Rattle.clan_extract.proofs.StatementPieces.{length_parameters}
use Rattle.clan_rows.specs.declared.forms.Form.{Form}
use Rattle.clan_rows.specs.Fitting.{checked_form}
use Rattle.clan_rows.specs.Contents.{affine_of, made, HaveOneShape, AgreeInShape}

inside : Affine → Option Affine → Affine
inside f None = f
inside f (Some g) = g

is_form : (f : Form) (g : Affine) (b : Bool) → Some (affine_of f) ≡ cond b (Some g) None → affine_of f ≡ g
unfolding inside
is_form f g true e = ap (inside (affine_of f)) e
is_form f g false e = absurd (some_is_not_none (affine_of f) e)
  where
    some_is_not_none : (a : Affine) → Some a ≡ None → ⊥
    some_is_not_none a e = cc

-- the forms of two expressions inside the same loops
pub agree : (parameters loops : List (List ℕ)) (a b : Expression) (f g : Option Form)
    → made f ≡ checked_form parameters loops a → made g ≡ checked_form parameters loops b → AgreeInShape f g
agree parameters loops a b None g e h = tt
agree parameters loops a b (Some f) None e h = tt
agree parameters loops a b (Some f) (Some g) e h =
    let p = is_form f (form parameters loops a) (forms_fit parameters loops a) e in
    let q = is_form g (form parameters loops b) (forms_fit parameters loops b) h in
    record {
      iterators =
          ap (λ t. length t.iterators) p ∙ length_form parameters loops a ∙ sym (length_form parameters loops b) ∙ sym (ap (λ t. length t.iterators) q);
      parameters =
          ap (λ t. length t.parameters) p ∙ length_parameters parameters loops a ∙ sym (length_parameters parameters loops b) ∙ sym (ap (λ t. length t.parameters) q);
    }
