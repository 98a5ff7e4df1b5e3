-- What the evaluation of a term has to be. Nothing is asked where the term is neither an expression nor a remainder.
use Rattle.std.specs.Prelude.{◌≡◌, ℕ, List, length, ℤ, pos, Bool, false, ◌||◌, Option, Some, None}
use Rattle.c_parser.specs.declared.tree.SumSign.{SumSign}
use Rattle.c_parser.specs.declared.tree.SumSign.TheVariants as sm
use Rattle.c_parser.specs.declared.tree.ProductSign.{ProductSign}
use Rattle.c_parser.specs.declared.tree.ProductSign.TheVariants as pr
use Rattle.c_parser.specs.declared.tree.UnarySign.{UnarySign}
use Rattle.c_parser.specs.declared.tree.UnarySign.TheVariants as un
use Rattle.scop_data.specs.declared.affines.Affine.{Affine}
use Rattle.clan_extract.specs.Regions.{Expression, Remainder}
use Rattle.clan_extract.specs.Forms.{has_names}
use Rattle.clan_rows.specs.Contents.{made}
use Rattle.clan_rows.specs.Fitting.{checked_form, in_range, sum_checked, difference_checked, product_checked, negative_checked}
use Rattle.region_trees.specs.Terms.{Element, Named, Term, all_signed}
use Rattle.region_trees.specs.Regions.{expression_of, integer_of, remainder_of}
use Rattle.region_forms.specs.declared.evaluations.Evaluation.{Evaluation}
use Rattle.region_forms.specs.declared.evaluations.Quotient.{Quotient}
use Rattle.region_forms.specs.declared.scopes.Scope.{Scope}

-- the form of the dividend and the divisor, where they are in range
pub record QuotientData : Type 0 where
  pub dividend : Option Affine
  pub divisor : Option ℤ

-- the form of an expression, where the form of each part is in range, and whether names stand in it; the integer that it is alone;
-- and what is divided in a remainder
pub record EvaluationData : Type 0 where
  pub form : Option Affine
  pub names : Bool
  pub integer : Option ℤ
  pub quotient : Option QuotientData

-- what the code's values say
abbrev pub parts_of : Quotient → QuotientData
parts_of q = record { dividend = made q.dividend; divisor = q.divisor }

abbrev pub quotient_of : Option Quotient → Option QuotientData
quotient_of None = None
quotient_of (Some q) = Some (parts_of q)

abbrev pub told : Evaluation → EvaluationData
told v = record { form = made v.form; names = v.names; integer = v.integer; quotient = quotient_of v.quotient }

-- a value that says nothing
abbrev pub nothing : EvaluationData
nothing = record { form = None; names = false; integer = None; quotient = None }

-- a value that is a form alone
abbrev pub of_form : Option Affine → Bool → EvaluationData
of_form form names = record { form = form; names = names; integer = None; quotient = None }

-- the sum, the difference, the product and the opposite of values, and the remainder of their quotient
abbrev pub sum : EvaluationData → EvaluationData → EvaluationData
sum v w = of_form (sum_checked v.form w.form) (v.names || w.names)

abbrev pub difference : EvaluationData → EvaluationData → EvaluationData
difference v w = of_form (difference_checked v.form w.form) (v.names || w.names)

abbrev pub product : EvaluationData → EvaluationData → EvaluationData
product v w = of_form (product_checked v.names v.form w.form) (v.names || w.names)

abbrev pub opposite : EvaluationData → EvaluationData
opposite v = of_form (negative_checked v.form) v.names

abbrev pub remainder : EvaluationData → EvaluationData → EvaluationData
remainder v w = record { form = None; names = false; integer = None; quotient = Some (record { dividend = v.form; divisor = w.integer }) }

-- with one operand more
abbrev pub summed : SumSign → EvaluationData → EvaluationData → EvaluationData
summed sm.Plus v w = sum v w
summed sm.Minus v w = difference v w

abbrev pub multiplied : ProductSign → EvaluationData → EvaluationData → EvaluationData
multiplied pr.Times v w = product v w
multiplied pr.Divide v w = nothing
multiplied pr.Remainder v w = remainder v w

-- the value behind one sign
abbrev pub behind : UnarySign → EvaluationData → EvaluationData
behind un.Plus v = of_form v.form v.names
behind un.Minus v = opposite v
behind un.Not v = nothing

-- of an expression inside these loops
pub record IsExpression (parameters loops : List (List ℕ)) (e : Expression) (v : EvaluationData) : Type 0 where
  pub form_is : v.form ≡ checked_form parameters loops e
  pub names_are : v.names ≡ has_names e
  pub whole : v.quotient ≡ None

-- of the remainder e % d
pub record IsRemainder (parameters loops : List (List ℕ)) (e : Expression) (q : Option QuotientData) : Type 0 where
  pub dividend : Expression
  pub divisor : ℕ
  pub remainder_is : e ≡ Remainder dividend divisor
  pub says : q ≡ Some (record { dividend = checked_form parameters loops dividend; divisor = in_range (pos divisor) })

-- a form that is there has a coefficient for each loop and each parameter
abbrev pub HasShape : List (List ℕ) → List (List ℕ) → Option Affine → Type 0
HasShape parameters loops None = Unit {0}
HasShape parameters loops (Some f) = (length f.iterators ≡ length loops) × (length f.parameters ≡ length parameters)

-- of a term
pub record IsValue (parameters loops : List (List ℕ)) (t : Term) (v : EvaluationData) : Type 0 where
  pub shape : HasShape parameters loops v.form
  pub expression : (e : Expression) → expression_of t ≡ Some e → IsExpression parameters loops e v
  pub integer : (n : ℕ) → integer_of t ≡ Some n → v.integer ≡ in_range (pos n)
  pub remainder : (e : Expression) → remainder_of t ≡ Some e → IsRemainder parameters loops e v.quotient

-- of a term at a place
abbrev pub IsValueAt : Scope → Term → EvaluationData → Type 0
IsValueAt scope t v = IsValue scope.parameters.now scope.loops.now t v

-- a name with its subscripts, as a term
abbrev pub named_of : Element → Term
named_of e = Named e.name e.at e.subscripts

-- the value behind signs, by the value behind none
abbrev pub Signs : List UnarySign → EvaluationData → EvaluationData → Type 0
Signs signs v w = (parameters loops : List (List ℕ)) (t : Term) → IsValue parameters loops t v → IsValue parameters loops (all_signed signs t) w
