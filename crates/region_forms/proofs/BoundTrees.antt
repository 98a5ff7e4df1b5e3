-- The trees of which the bound is that of a value.
use Rattle.std.proofs.Common.{◌≡◌, ◌∙◌, ℕ, List, [], ◌∷◌, refl, ap, sym, subst}
use Rattle.c_parser.specs.declared.tree.Product.{out-Product}
use Rattle.c_parser.specs.declared.tree.Sum.{Sum, out-Sum}
use Rattle.c_parser.specs.declared.tree.Unary.{Unary, out-Unary}
use Rattle.c_parser.specs.declared.tree.UnarySign.{UnarySign}
use Rattle.region_trees.specs.Layers.{joined_by, product_is, sum_is, term_of_sum, unary_is}
use Rattle.region_trees.specs.Regions.{bound_of, expression_of}
use Rattle.region_trees.specs.Terms.{Located, Signed, Term, all_signed, of_product, of_sum, primary_of, product_of, unary_of}
use Rattle.region_forms.proofs.Trees.{joined_ends, not_empty_head}

-- the bound is that of a value
abbrev pub BoundsAsValue : Term → Type 0
BoundsAsValue t = bound_of t ≡ expression_of t

signed_ends : (P : Term → Type 0) (signs : List UnarySign) (t : Term) → ¬ (signs ≡ []) → ((sign : UnarySign) (of : Term) → P (Signed sign of))
    → P (all_signed signs t)
signed_ends P [] t some h = absurd (some refl)
signed_ends P (sign ∷ signs) t some h = h sign (all_signed signs t)

module _ (source : List ℕ) (x : Sum) where
  abbrev first : Unary
  first = (out-Product (out-Sum x).first).first

  pub sum_of_two : ¬ ((out-Sum x).rest ≡ []) → BoundsAsValue (term_of_sum source x)
  sum_of_two some =
      let more = not_empty_head (out-Sum x).rest some in
      subst BoundsAsValue
      (sym (ap (λ (l : Located). l.term) (sum_is source x) ∙ ap (joined_by of_sum (product_of source) (product_of source (out-Sum x).first)) more.2))
      (joined_ends BoundsAsValue of_sum (product_of source) (product_of source (out-Sum x).first) more.0 more.1 (λ s l r. refl))

  alone : (out-Sum x).rest ≡ [] → term_of_sum source x ≡ product_of source (out-Sum x).first
  alone none = ap (λ (l : Located). l.term) (sum_is source x) ∙ ap (joined_by of_sum (product_of source) (product_of source (out-Sum x).first)) none

  pub product_of_two : (out-Sum x).rest ≡ [] → ¬ ((out-Product (out-Sum x).first).rest ≡ []) → BoundsAsValue (term_of_sum source x)
  product_of_two none some =
      let y = (out-Sum x).first in
      let more = not_empty_head (out-Product y).rest some in
      subst BoundsAsValue
      (sym (alone none ∙ product_is source y ∙ ap (joined_by of_product (unary_of source) (unary_of source (out-Product y).first)) more.2))
      (joined_ends BoundsAsValue of_product (unary_of source) (unary_of source (out-Product y).first) more.0 more.1 (λ s l r. refl))

  lone : (out-Sum x).rest ≡ [] → (out-Product (out-Sum x).first).rest ≡ []
      → term_of_sum source x ≡ all_signed (out-Unary first).signs (primary_of source (out-Unary first).primary)
  lone none single =
      let y = (out-Sum x).first in
      alone none ∙ product_is source y ∙ ap (joined_by of_product (unary_of source) (unary_of source (out-Product y).first)) single ∙ unary_is source first

  pub signs_before : (out-Sum x).rest ≡ [] → (out-Product (out-Sum x).first).rest ≡ [] → ¬ ((out-Unary first).signs ≡ [])
      → BoundsAsValue (term_of_sum source x)
  signs_before none single some =
      subst BoundsAsValue (sym (lone none single)) (signed_ends BoundsAsValue (out-Unary first).signs _ some (λ s t. refl))

  -- the operand that a sum is alone
  pub sum_primary : (out-Sum x).rest ≡ [] → (out-Product (out-Sum x).first).rest ≡ [] → (out-Unary first).signs ≡ []
      → term_of_sum source x ≡ primary_of source (out-Unary first).primary
  sum_primary none single unsigned = lone none single ∙ ap (λ signs. all_signed signs (primary_of source (out-Unary first).primary)) unsigned
