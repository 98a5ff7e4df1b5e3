-- The values of sums and products, operand by operand.
use Rattle.std.proofs.Common.{◌≡◌, ◌∙◌, ℕ, ◌+◌, ◌<◌, ◌≤◌, List, [], ◌∷◌, ◌++◌, length, take, get_or, Option, Some, None, refl, ap, sym, subst}
use Rattle.std.proofs.lemmas.List.{take_all, take_more}
use Rattle.c_parser.specs.declared.tree.Sum.{Sum, out-Sum}
use Rattle.c_parser.specs.declared.tree.SumSign.{SumSign}
use Rattle.c_parser.specs.declared.tree.SumSign.TheVariants as sm
use Rattle.c_parser.specs.declared.tree.ProductSign.{ProductSign}
use Rattle.c_parser.specs.declared.tree.ProductSign.TheVariants as pr
use Rattle.c_parser.specs.declared.tree.Product.{Product, out-Product}
use Rattle.c_parser.specs.declared.tree.Unary.{Unary}
use Rattle.clan_rows.specs.declared.forms.Form.{Form}
use Rattle.clan_rows.specs.Contents.{AgreeInShape, made}
use Rattle.region_trees.specs.Terms.{Divide, Joined, Located, Term, of_product, of_sum, product_of, unary_of}
use Rattle.region_trees.specs.Layers.{joined_by, product_is, sum_is, term_of_sum}
use Rattle.region_forms.specs.Evaluations.{EvaluationData, HasShape, IsValue, multiplied, summed}
use Rattle.region_forms.proofs.Values.{value_of_difference, value_of_nothing, value_of_product, value_of_remainder, value_of_sum}
use Rattle.region_forms.proofs.Trees.{joined_more}

pub value_summed : (parameters loops : List (List ℕ)) (sign : SumSign) (l r : Term) (v w : EvaluationData) → IsValue parameters loops l v → IsValue parameters loops r w
    → IsValue parameters loops (Joined (of_sum sign) l r) (summed sign v w)
value_summed parameters loops sm.Plus l r v w p q = value_of_sum parameters loops l r v w p q
value_summed parameters loops sm.Minus l r v w p q = value_of_difference parameters loops l r v w p q

pub value_multiplied : (parameters loops : List (List ℕ)) (sign : ProductSign) (l r : Term) (v w : EvaluationData) → IsValue parameters loops l v
    → IsValue parameters loops r w → IsValue parameters loops (Joined (of_product sign) l r) (multiplied sign v w)
value_multiplied parameters loops pr.Times l r v w p q = value_of_product parameters loops l r v w p q
value_multiplied parameters loops pr.Divide l r v w p q =
    value_of_nothing parameters loops (Joined Divide l r) (record { no_expression = refl; no_integer = refl; no_remainder = refl })
value_multiplied parameters loops pr.Remainder l r v w p q = value_of_remainder parameters loops l r v w p q

-- ---- operand by operand, in a loop

pub sum_more : (parameters loops : List (List ℕ)) (source : List ℕ) (first : Product) (rest : List (SumSign × Product)) (k : ℕ) (d x : SumSign × Product)
    (v w new : EvaluationData) → k < length rest → get_or rest k d ≡ x → IsValue parameters loops (joined_by of_sum (product_of source) (product_of source first) (take k rest)) v
    → IsValue parameters loops (product_of source x.1) w → new ≡ summed x.0 v w
    → IsValue parameters loops (joined_by of_sum (product_of source) (product_of source first) (take (k + 1) rest)) new
sum_more parameters loops source first rest k d x v w new within same p q made =
    let here = ap (joined_by of_sum (product_of source) (product_of source first)) (take_more rest k d within ∙ ap (λ y. take k rest ++ y ∷ []) same)
    ∙ joined_more of_sum (product_of source) (product_of source first) (take k rest) x in
    subst (λ t. IsValue parameters loops t new) (sym here) (subst (IsValue parameters loops _) (sym made) (value_summed parameters loops x.0 _ _ v w p q))

pub product_more : (parameters loops : List (List ℕ)) (source : List ℕ) (first : Unary) (rest : List (ProductSign × Unary)) (k : ℕ) (d x : ProductSign × Unary)
    (v w new : EvaluationData) → k < length rest → get_or rest k d ≡ x → IsValue parameters loops (joined_by of_product (unary_of source) (unary_of source first) (take k rest)) v
    → IsValue parameters loops (unary_of source x.1) w → new ≡ multiplied x.0 v w
    → IsValue parameters loops (joined_by of_product (unary_of source) (unary_of source first) (take (k + 1) rest)) new
product_more parameters loops source first rest k d x v w new within same p q made =
    let here = ap (joined_by of_product (unary_of source) (unary_of source first)) (take_more rest k d within ∙ ap (λ y. take k rest ++ y ∷ []) same)
    ∙ joined_more of_product (unary_of source) (unary_of source first) (take k rest) x in
    subst (λ t. IsValue parameters loops t new) (sym here) (subst (IsValue parameters loops _) (sym made) (value_multiplied parameters loops x.0 _ _ v w p q))

pub sum_all : (parameters loops : List (List ℕ)) (source : List ℕ) (x : Sum) (k : ℕ) (v : EvaluationData) → length (out-Sum x).rest ≤ k
    → IsValue parameters loops (joined_by of_sum (product_of source) (product_of source (out-Sum x).first) (take k (out-Sum x).rest)) v
    → IsValue parameters loops (term_of_sum source x) v
sum_all parameters loops source x k v all p =
    subst (λ t. IsValue parameters loops t v)
    (sym (ap (λ (l : Located). l.term) (sum_is source x) ∙ ap (joined_by of_sum (product_of source) (product_of source (out-Sum x).first)) (sym (take_all k (out-Sum x).rest all)))) p

pub product_all : (parameters loops : List (List ℕ)) (source : List ℕ) (x : Product) (k : ℕ) (v : EvaluationData) → length (out-Product x).rest ≤ k
    → IsValue parameters loops (joined_by of_product (unary_of source) (unary_of source (out-Product x).first) (take k (out-Product x).rest)) v
    → IsValue parameters loops (product_of source x) v
product_all parameters loops source x k v all p =
    subst (λ t. IsValue parameters loops t v)
    (sym (product_is source x ∙ ap (joined_by of_product (unary_of source) (unary_of source (out-Product x).first)) (sym (take_all k (out-Product x).rest all)))) p

-- forms of one shape agree
pub agree : (parameters loops : List (List ℕ)) (f g : Option Form) → HasShape parameters loops (made f) → HasShape parameters loops (made g) → AgreeInShape f g
agree parameters loops None g p q = tt
agree parameters loops (Some f) None p q = tt
agree parameters loops (Some f) (Some g) p q = record { iterators = p.0 ∙ sym q.0; parameters = p.1 ∙ sym q.1 }
