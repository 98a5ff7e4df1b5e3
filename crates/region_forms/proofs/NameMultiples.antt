-- The values of integers by names.
use Rattle.std.proofs.Common.{◌≡◌, ℕ, List, true, false, Some, None, refl, sym, subst}
use Rattle.std.specs.Prelude.{ℤ, pos}
use Rattle.scop_data.specs.declared.affines.Affine.{Affine}
use Rattle.clan_extract.specs.Forms.{constant_form, multiple, name_form}
use Rattle.clan_extract.specs.Refusals.{form_fits}
use Rattle.clan_rows.specs.Fitting.{in_range}
use Rattle.clan_rows.proofs.Ranges.{opposite_fits}
use Rattle.region_trees.specs.Terms.{Integer, Joined, Named, NoTerms, Times}
use Rattle.region_forms.specs.Evaluations.{EvaluationData, IsValue, nothing, of_form}
use Rattle.region_forms.proofs.Leaves.{plain_value, value_of_integer, value_of_large}
use Rattle.region_forms.proofs.Values.{value_of_product}

module _ (parameters loops : List (List ℕ)) (n : ℕ) (name : List ℕ) (at : ℕ) where
  -- by an integer that is in range, and by one that is not
  pub value_of_multiple : (z : ℤ) (f : Affine) → in_range (pos n) ≡ Some z → f ≡ multiple z (name_form parameters loops name) → form_fits f ≡ true
      → IsValue parameters loops (Joined Times (Integer n) (Named name at NoTerms)) (of_form (Some f) true)
  value_of_multiple z f is made fits =
      let v : EvaluationData = record { form = Some (constant_form parameters loops z); names = false; integer = Some z; quotient = None } in
      let w : EvaluationData = of_form (Some (name_form parameters loops name)) true in
      subst (λ x. IsValue parameters loops (Joined Times (Integer n) (Named name at NoTerms)) (of_form x true))
      (sym (opposite_fits (multiple z (name_form parameters loops name)) f made fits))
      (value_of_product parameters loops (Integer n) (Named name at NoTerms) v w
      (value_of_integer parameters loops n z (constant_form parameters loops z) is refl) (plain_value parameters loops name at (name_form parameters loops name) refl))

  pub value_of_large_multiple : in_range (pos n) ≡ None → IsValue parameters loops (Joined Times (Integer n) (Named name at NoTerms)) (of_form None true)
  value_of_large_multiple is =
      value_of_product parameters loops (Integer n) (Named name at NoTerms) nothing (of_form (Some (name_form parameters loops name)) true)
      (value_of_large parameters loops n is) (plain_value parameters loops name at (name_form parameters loops name) refl)
