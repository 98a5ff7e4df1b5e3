-- The values of integers and of names.
use Rattle.std.proofs.Common.{◌≡◌, ◌∙◌, ℕ, zero, suc, List, [], ◌∷◌, length, Bool, true, false, cond, Some, None, refl, ap, sym, subst}
use Rattle.std.specs.Prelude.{ℤ, pos, bytes_eq}
use Rattle.scop_core.specs.SolvedRows.{zeros}
use Rattle.scop_data.specs.declared.affines.Affine.{Affine}
use Rattle.clan_extract.specs.Regions.{Number, Name, is_among}
use Rattle.clan_extract.specs.Forms.{constant_form, first_of_name, innermost, name_form}
use Rattle.clan_rows.specs.Fitting.{constant_checked, in_range}
use Rattle.clan_rows.proofs.FormLaws.{checked_name, checked_number}
use Rattle.region_trees.specs.Terms.{Integer, Located, Named, NoTerms}
use Rattle.region_trees.specs.Layers.{terms_by}
use Rattle.region_forms.specs.Evaluations.{HasShape, IsExpression, IsValue, nothing, of_form}
use Rattle.region_forms.proofs.Values.{SaysNothing, none_is, value_of_nothing}

zeros_length : (n : ℕ) → length (zeros n) ≡ n
zeros_length zero = refl
zeros_length (suc n) = ap suc (zeros_length n)

-- ---- integers

-- an integer that is in range, and one that is not
pub value_of_integer : (parameters loops : List (List ℕ)) (n : ℕ) (z : ℤ) (f : Affine) → in_range (pos n) ≡ Some z → f ≡ constant_form parameters loops z
    → IsValue parameters loops (Integer n) (record { form = Some f; names = false; integer = Some z; quotient = None })
value_of_integer parameters loops n z f is made = record {
  shape = subst (λ g. HasShape parameters loops (Some g)) (sym made) (zeros_length (length loops), zeros_length (length parameters));
  expression = λ e same.
      let number : Number n ≡ e = cc in
      subst (λ x. IsExpression parameters loops x (record { form = Some f; names = false; integer = Some z; quotient = None })) number (record {
        form_is = ap (λ g. Some g) made ∙ sym (checked_number parameters loops n ∙ ap (constant_checked parameters loops) is);
        names_are = refl;
        whole = refl;
      });
  integer = λ m same. let number : n ≡ m = cc in sym is ∙ ap (λ x. in_range (pos x)) number;
  remainder = λ e same. none_is None e refl same;
}

pub value_of_large : (parameters loops : List (List ℕ)) (n : ℕ) → in_range (pos n) ≡ None → IsValue parameters loops (Integer n) nothing
value_of_large parameters loops n is = record {
  shape = tt;
  expression = λ e same.
      let number : Number n ≡ e = cc in
      subst (λ x. IsExpression parameters loops x nothing) number (record {
        form_is = sym (checked_number parameters loops n ∙ ap (constant_checked parameters loops) is);
        names_are = refl;
        whole = refl;
      });
  integer = λ m same. let number : n ≡ m = cc in sym is ∙ ap (λ x. in_range (pos x)) number;
  remainder = λ e same. none_is None e refl same;
}

-- ---- names

innermost_length : (loops : List (List ℕ)) (name : List ℕ) → length (innermost loops name) ≡ length loops
innermost_length [] name = refl
innermost_length (x ∷ inner) name = ap suc (innermost_length inner name)

first_by : (b : Bool) (n : ℕ) (row : List ℤ) → length row ≡ n → length (cond b (pos 1 ∷ zeros n) (pos 0 ∷ row)) ≡ suc n
first_by true n row h = ap suc (zeros_length n)
first_by false n row h = ap suc h

first_length : (xs : List (List ℕ)) (name : List ℕ) → length (first_of_name xs name) ≡ length xs
first_length [] name = refl
first_length (x ∷ xs) name = first_by (bytes_eq x name) (length xs) (first_of_name xs name) (first_length xs name)

either_length : (b : Bool) (parameters : List (List ℕ)) (name : List ℕ)
    → length (cond b (zeros (length parameters)) (first_of_name parameters name)) ≡ length parameters
either_length true parameters name = zeros_length (length parameters)
either_length false parameters name = first_length parameters name

pub plain_value : (parameters loops : List (List ℕ)) (name : List ℕ) (at : ℕ) (f : Affine) → f ≡ name_form parameters loops name
    → IsValue parameters loops (Named name at NoTerms) (of_form (Some f) true)
plain_value parameters loops name at f made = record {
  shape = subst (λ g. HasShape parameters loops (Some g)) (sym made) (innermost_length loops name, either_length (is_among name loops) parameters name);
  expression = λ e same.
      let name_is : Name name ≡ e = cc in
      subst (λ x. IsExpression parameters loops x (of_form (Some f) true)) name_is (record {
        form_is = ap (λ g. Some g) made ∙ sym (checked_name parameters loops name);
        names_are = refl;
        whole = refl;
      });
  integer = λ m same. none_is None m refl same;
  remainder = λ e same. none_is None e refl same;
}

-- a name without subscripts, and with some
pub value_of_name : {X : Type 0} (parameters loops : List (List ℕ)) (name : List ℕ) (at : ℕ) (says : X → Located) (xs : List X) (f : Affine) → xs ≡ []
    → f ≡ name_form parameters loops name → IsValue parameters loops (Named name at (terms_by says xs)) (of_form (Some f) true)
value_of_name parameters loops name at says xs f none made =
    subst (λ ys. IsValue parameters loops (Named name at (terms_by says ys)) (of_form (Some f) true)) (sym none) (plain_value parameters loops name at f made)

subscripted : {X : Type 0} (name : List ℕ) (at : ℕ) (says : X → Located) (xs : List X) → ¬ (xs ≡ []) → SaysNothing (Named name at (terms_by says xs))
subscripted name at says [] some = absurd (some refl)
subscripted name at says (x ∷ xs) some = record { no_expression = refl; no_integer = refl; no_remainder = refl }

pub value_of_element : {X : Type 0} (parameters loops : List (List ℕ)) (name : List ℕ) (at : ℕ) (says : X → Located) (xs : List X) → ¬ (xs ≡ [])
    → IsValue parameters loops (Named name at (terms_by says xs)) nothing
value_of_element parameters loops name at says xs some = value_of_nothing parameters loops (Named name at (terms_by says xs)) (subscripted name at says xs some)
