-- The value of a term, by those of its parts.
use Rattle.std.proofs.Common.{◌≡◌, ◌∙◌, ℕ, suc, List, [], ◌∷◌, ◌++◌, length, Bool, true, false, cond, Option, Some, None, refl, ap, sym, subst, arith}
use Rattle.std.specs.Prelude.{◌||◌, ℤ, negsuc}
use Rattle.row_core.specs.Rows.{add_rows, scale}
use Rattle.scop_data.specs.declared.affines.Affine.{Affine}
use Rattle.c_parser.specs.declared.tree.UnarySign.{UnarySign}
use Rattle.c_parser.specs.declared.tree.UnarySign.TheVariants as un
use Rattle.clan_extract.specs.Regions.{Expression, Sum, Difference, Product, Negation, Remainder}
use Rattle.clan_extract.specs.Forms.{has_names, multiple, opposite_of, sum_of}
use Rattle.clan_extract.specs.Refusals.{form_fits}
use Rattle.clan_rows.specs.Fitting.{checked_form, sum_checked, difference_checked, product_checked, negative_checked}
use Rattle.region_trees.specs.Terms.{Plus, Minus, Times, Modulo, Term, Bracket, Signed, Joined, all_signed}
use Rattle.region_trees.specs.Regions.{expression_of, integer_of, remainder_of, option_map, option_map2}
use Rattle.region_forms.specs.Evaluations.{EvaluationData, HasShape, IsExpression, IsRemainder, IsValue, Signs, behind, difference, nothing, of_form, opposite, product, remainder, sum}
use Rattle.clan_rows.proofs.FormLaws.{checked_sum, checked_difference, checked_product, checked_negation}

-- ---- options

-- what two make, they are made of
pub record AreMade {A B C : Type 0} (f : A → B → C) (x : Option A) (y : Option B) (c : C) : Type 0 where
  pub left : A
  pub right : B
  pub left_is : x ≡ Some left
  pub right_is : y ≡ Some right
  pub made : c ≡ f left right

pub made_of : {A B C : Type 0} (f : A → B → C) (x : Option A) (y : Option B) (c : C) → option_map2 f x y ≡ Some c → AreMade f x y c
made_of f (Some a) (Some b) c e = record { left = a; right = b; left_is = refl; right_is = refl; made = cc }
made_of f (Some a) None c e = absurd (cc)
made_of f None y c e = absurd (cc)

pub record IsMade {A B : Type 0} (f : A → B) (x : Option A) (b : B) : Type 0 where
  pub of : A
  pub of_is : x ≡ Some of
  pub made : b ≡ f of

pub made_from : {A B : Type 0} (f : A → B) (x : Option A) (b : B) → option_map f x ≡ Some b → IsMade f x b
made_from f (Some a) b e = record { of = a; of_is = refl; made = cc }
made_from f None b e = absurd (cc)

pub none_is : {A B : Type 0} (x : Option A) (a : A) → x ≡ None → x ≡ Some a → B
none_is x a p q = absurd (cc)

-- ---- shapes

added_length : (a b : List ℤ) → length a ≡ length b → length (add_rows a b) ≡ length a
added_length [] [] e = refl
added_length [] (y ∷ b) e = absurd (omega (arith, e))
added_length (x ∷ a) [] e = absurd (omega (arith, e))
added_length (x ∷ a) (y ∷ b) e = ap suc (added_length a b (omega (arith, e)))

scaled_length : (p : ℤ) (a : List ℤ) → length (scale p a) ≡ length a
scaled_length p [] = refl
scaled_length p (x ∷ a) = ap suc (scaled_length p a)

fitting_shape : (parameters loops : List (List ℕ)) (f : Affine) (b : Bool) → HasShape parameters loops (Some f) → HasShape parameters loops (cond b (Some f) None)
fitting_shape parameters loops f true h = h
fitting_shape parameters loops f false h = tt

multiple_shape : (parameters loops : List (List ℕ)) (p : ℤ) (f : Affine) → HasShape parameters loops (Some f) → HasShape parameters loops (Some (multiple p f))
multiple_shape parameters loops p f h = (scaled_length p f.iterators ∙ h.0, scaled_length p f.parameters ∙ h.1)

sum_shape : (parameters loops : List (List ℕ)) (f g : Affine) → HasShape parameters loops (Some f) → HasShape parameters loops (Some g)
    → HasShape parameters loops (Some (sum_of f g))
sum_shape parameters loops f g p q =
    (added_length f.iterators g.iterators (p.0 ∙ sym q.0) ∙ p.0, added_length f.parameters g.parameters (p.1 ∙ sym q.1) ∙ p.1)

shape_of_sum : (parameters loops : List (List ℕ)) (f g : Option Affine) → HasShape parameters loops f → HasShape parameters loops g
    → HasShape parameters loops (sum_checked f g)
shape_of_sum parameters loops None g p q = tt
shape_of_sum parameters loops (Some f) None p q = tt
shape_of_sum parameters loops (Some f) (Some g) p q = fitting_shape parameters loops (sum_of f g) (form_fits (sum_of f g)) (sum_shape parameters loops f g p q)

shape_of_difference : (parameters loops : List (List ℕ)) (f g : Option Affine) → HasShape parameters loops f → HasShape parameters loops g
    → HasShape parameters loops (difference_checked f g)
shape_of_difference parameters loops None g p q = tt
shape_of_difference parameters loops (Some f) None p q = tt
shape_of_difference parameters loops (Some f) (Some g) p q =
    fitting_shape parameters loops (sum_of f (opposite_of g)) (form_fits (sum_of f (opposite_of g)))
    (sum_shape parameters loops f (opposite_of g) p (multiple_shape parameters loops (negsuc 0) g q))

product_shape : (parameters loops : List (List ℕ)) (b : Bool) (f g : Affine) → HasShape parameters loops (Some f) → HasShape parameters loops (Some g)
    → HasShape parameters loops (Some (cond b (multiple g.constant f) (multiple f.constant g)))
product_shape parameters loops true f g p q = multiple_shape parameters loops g.constant f p
product_shape parameters loops false f g p q = multiple_shape parameters loops f.constant g q

shape_of_product : (parameters loops : List (List ℕ)) (b : Bool) (f g : Option Affine) → HasShape parameters loops f → HasShape parameters loops g
    → HasShape parameters loops (product_checked b f g)
shape_of_product parameters loops b None g p q = tt
shape_of_product parameters loops b (Some f) None p q = tt
shape_of_product parameters loops b (Some f) (Some g) p q =
    let h : Affine = cond b (multiple g.constant f) (multiple f.constant g) in fitting_shape parameters loops h (form_fits h) (product_shape parameters loops b f g p q)

shape_of_negative : (parameters loops : List (List ℕ)) (f : Option Affine) → HasShape parameters loops f → HasShape parameters loops (negative_checked f)
shape_of_negative parameters loops None p = tt
shape_of_negative parameters loops (Some f) p =
    fitting_shape parameters loops (opposite_of f) (form_fits (opposite_of f)) (multiple_shape parameters loops (negsuc 0) f p)

-- ---- operations

expression_sum : (parameters loops : List (List ℕ)) (l r : Term) (v w : EvaluationData) → IsValue parameters loops l v → IsValue parameters loops r w
    → (e : Expression) → expression_of (Joined Plus l r) ≡ Some e → IsExpression parameters loops e (sum v w)
expression_sum parameters loops l r v w p q e is =
    let made = made_of Sum (expression_of l) (expression_of r) e is in
    let left = p.expression made.left made.left_is in
    let right = q.expression made.right made.right_is in
    subst (λ x. IsExpression parameters loops x (sum v w)) (sym made.made) (record {
      form_is = ap (λ x. sum_checked x w.form) left.form_is ∙ ap (sum_checked (checked_form parameters loops made.left)) right.form_is
          ∙ sym (checked_sum parameters loops made.left made.right);
      names_are = ap (λ x. x || w.names) left.names_are ∙ ap (λ x. has_names made.left || x) right.names_are;
      whole = refl;
    })

pub value_of_sum : (parameters loops : List (List ℕ)) (l r : Term) (v w : EvaluationData) → IsValue parameters loops l v → IsValue parameters loops r w
    → IsValue parameters loops (Joined Plus l r) (sum v w)
value_of_sum parameters loops l r v w p q = record {
  shape = shape_of_sum parameters loops v.form w.form p.shape q.shape;
  expression = expression_sum parameters loops l r v w p q;
  integer = λ n is. none_is None n refl is;
  remainder = λ e is. none_is None e refl is;
}

expression_difference : (parameters loops : List (List ℕ)) (l r : Term) (v w : EvaluationData) → IsValue parameters loops l v → IsValue parameters loops r w
    → (e : Expression) → expression_of (Joined Minus l r) ≡ Some e → IsExpression parameters loops e (difference v w)
expression_difference parameters loops l r v w p q e is =
    let made = made_of Difference (expression_of l) (expression_of r) e is in
    let left = p.expression made.left made.left_is in
    let right = q.expression made.right made.right_is in
    subst (λ x. IsExpression parameters loops x (difference v w)) (sym made.made) (record {
      form_is = ap (λ x. difference_checked x w.form) left.form_is ∙ ap (difference_checked (checked_form parameters loops made.left)) right.form_is
          ∙ sym (checked_difference parameters loops made.left made.right);
      names_are = ap (λ x. x || w.names) left.names_are ∙ ap (λ x. has_names made.left || x) right.names_are;
      whole = refl;
    })

pub value_of_difference : (parameters loops : List (List ℕ)) (l r : Term) (v w : EvaluationData) → IsValue parameters loops l v → IsValue parameters loops r w
    → IsValue parameters loops (Joined Minus l r) (difference v w)
value_of_difference parameters loops l r v w p q = record {
  shape = shape_of_difference parameters loops v.form w.form p.shape q.shape;
  expression = expression_difference parameters loops l r v w p q;
  integer = λ n is. none_is None n refl is;
  remainder = λ e is. none_is None e refl is;
}

expression_product : (parameters loops : List (List ℕ)) (l r : Term) (v w : EvaluationData) → IsValue parameters loops l v → IsValue parameters loops r w
    → (e : Expression) → expression_of (Joined Times l r) ≡ Some e → IsExpression parameters loops e (product v w)
expression_product parameters loops l r v w p q e is =
    let made = made_of Product (expression_of l) (expression_of r) e is in
    let left = p.expression made.left made.left_is in
    let right = q.expression made.right made.right_is in
    subst (λ x. IsExpression parameters loops x (product v w)) (sym made.made) (record {
      form_is = ap (λ x. product_checked x v.form w.form) left.names_are ∙ ap (λ x. product_checked (has_names made.left) x w.form) left.form_is
          ∙ ap (product_checked (has_names made.left) (checked_form parameters loops made.left)) right.form_is
          ∙ sym (checked_product parameters loops made.left made.right);
      names_are = ap (λ x. x || w.names) left.names_are ∙ ap (λ x. has_names made.left || x) right.names_are;
      whole = refl;
    })

pub value_of_product : (parameters loops : List (List ℕ)) (l r : Term) (v w : EvaluationData) → IsValue parameters loops l v → IsValue parameters loops r w
    → IsValue parameters loops (Joined Times l r) (product v w)
value_of_product parameters loops l r v w p q = record {
  shape = shape_of_product parameters loops v.names v.form w.form p.shape q.shape;
  expression = expression_product parameters loops l r v w p q;
  integer = λ n is. none_is None n refl is;
  remainder = λ e is. none_is None e refl is;
}

remainder_is : (parameters loops : List (List ℕ)) (l r : Term) (v w : EvaluationData) → IsValue parameters loops l v → IsValue parameters loops r w
    → (e : Expression) → remainder_of (Joined Modulo l r) ≡ Some e → IsRemainder parameters loops e (Some (record { dividend = v.form; divisor = w.integer }))
remainder_is parameters loops l r v w p q e is =
    let made = made_of Remainder (expression_of l) (integer_of r) e is in
    let dividend = (p.expression made.left made.left_is).form_is in
    let divisor = q.integer made.right made.right_is in
    record {
      dividend = made.left;
      divisor = made.right;
      remainder_is = made.made;
      says = ap (λ x. Some (record { dividend = x; divisor = w.integer })) dividend
          ∙ ap (λ x. Some (record { dividend = checked_form parameters loops made.left; divisor = x })) divisor;
    }

pub value_of_remainder : (parameters loops : List (List ℕ)) (l r : Term) (v w : EvaluationData) → IsValue parameters loops l v → IsValue parameters loops r w
    → IsValue parameters loops (Joined Modulo l r) (remainder v w)
value_of_remainder parameters loops l r v w p q = record {
  shape = tt;
  expression = λ e is. none_is None e refl is;
  integer = λ n is. none_is None n refl is;
  remainder = remainder_is parameters loops l r v w p q;
}

-- ---- what is neither an expression nor a remainder

pub record SaysNothing (t : Term) : Type 0 where
  pub no_expression : expression_of t ≡ None
  pub no_integer : integer_of t ≡ None
  pub no_remainder : remainder_of t ≡ None

pub value_of_nothing : (parameters loops : List (List ℕ)) (t : Term) → SaysNothing t → IsValue parameters loops t nothing
value_of_nothing parameters loops t h = record {
  shape = tt;
  expression = λ e is. none_is (expression_of t) e h.no_expression is;
  integer = λ n is. none_is (integer_of t) n h.no_integer is;
  remainder = λ e is. none_is (remainder_of t) e h.no_remainder is;
}

-- ---- brackets and signs

pub value_of_bracket : (parameters loops : List (List ℕ)) (t : Term) (v : EvaluationData) → IsValue parameters loops t v → IsValue parameters loops (Bracket t) v
value_of_bracket parameters loops t v p = record { shape = p.shape; expression = p.expression; integer = p.integer; remainder = p.remainder }

expression_plus : (parameters loops : List (List ℕ)) (t : Term) (v : EvaluationData) → IsValue parameters loops t v
    → (e : Expression) → expression_of t ≡ Some e → IsExpression parameters loops e (of_form v.form v.names)
expression_plus parameters loops t v p e is = let h = p.expression e is in record { form_is = h.form_is; names_are = h.names_are; whole = refl }

expression_minus : (parameters loops : List (List ℕ)) (t : Term) (v : EvaluationData) → IsValue parameters loops t v
    → (e : Expression) → option_map Negation (expression_of t) ≡ Some e → IsExpression parameters loops e (opposite v)
expression_minus parameters loops t v p e is =
    let made = made_from Negation (expression_of t) e is in
    let of = p.expression made.of made.of_is in
    subst (λ x. IsExpression parameters loops x (opposite v)) (sym made.made) (record {
      form_is = ap negative_checked of.form_is ∙ sym (checked_negation parameters loops made.of);
      names_are = of.names_are;
      whole = refl;
    })

pub value_behind : (parameters loops : List (List ℕ)) (sign : UnarySign) (t : Term) (v : EvaluationData) → IsValue parameters loops t v
    → IsValue parameters loops (Signed sign t) (behind sign v)
value_behind parameters loops un.Plus t v p = record {
  shape = p.shape;
  expression = expression_plus parameters loops t v p;
  integer = λ n is. none_is None n refl is;
  remainder = λ e is. none_is None e refl is;
}
value_behind parameters loops un.Minus t v p = record {
  shape = shape_of_negative parameters loops v.form p.shape;
  expression = expression_minus parameters loops t v p;
  integer = λ n is. none_is None n refl is;
  remainder = λ e is. none_is None e refl is;
}
value_behind parameters loops un.Not t v p = value_of_nothing parameters loops (Signed un.Not t) (record { no_expression = refl; no_integer = refl; no_remainder = refl })

-- ---- signs, from the innermost outwards

signed_more : (signs : List UnarySign) (sign : UnarySign) (t : Term) → all_signed (signs ++ sign ∷ []) t ≡ all_signed signs (Signed sign t)
signed_more [] sign t = refl
signed_more (x ∷ signs) sign t = ap (Signed x) (signed_more signs sign t)

pub signs_more : (signs : List UnarySign) (sign : UnarySign) (v w : EvaluationData) → Signs signs (behind sign v) w → Signs (signs ++ sign ∷ []) v w
signs_more signs sign v w h parameters loops t p =
    subst (λ x. IsValue parameters loops x w) (sym (signed_more signs sign t)) (h parameters loops (Signed sign t) (value_behind parameters loops sign t v p))

pub signs_none : (v : EvaluationData) → Signs [] v v
signs_none v parameters loops t p = p
