-- The first fault of a term, of a list, and of a statement, by those of its parts.
use Rattle.std.proofs.Common.{◌≡◌, refl, sym, ap, ◌∙◌, ℕ, List, [], ◌∷◌, ◌++◌, Bool, true, false, Option, Some, None, Result, Ok, Err}
use Rattle.std.specs.Prelude.{cond}
use Rattle.c_lexer.specs.Pieces.{bytes_of}
use Rattle.c_parser.specs.declared.tree.UnarySign.{UnarySign}
use Rattle.c_parser.specs.declared.tree.Sum.{Sum, out-Sum}
use Rattle.c_parser.specs.declared.tree.Value.{Value}
use Rattle.c_parser.specs.declared.tree.Target.{Target, out-Target}
use Rattle.c_parser.specs.declared.tree.Product.{Product, out-Product}
use Rattle.c_parser.specs.declared.tree.Unary.{Unary, out-Unary}
use Rattle.c_parser.specs.declared.tree.Compare.{Compare, out-Compare}
use Rattle.c_parser.specs.declared.tree.Equal.{Equal, out-Equal}
use Rattle.c_parser.specs.declared.tree.And.{And, out-And}
use Rattle.c_parser.specs.declared.tree.Or.{Or, out-Or}
use Rattle.clan_extract.specs.Regions.{Expression, Reference}
use Rattle.clan_extract.specs.Forms.{is_affine}
use Rattle.region_trees.specs.Terms.{Operation, Conjunction, Disjunction, Term, Joined, Located, Element, of_rel, of_equal, of_sum, of_product, all_signed, sum_of, value_of, target_of, product_of, unary_of, primary_of, compare_of, equal_of, and_of, or_of}
use Rattle.region_trees.specs.Layers.{joined_by, all_by, some_by, terms_by, term_of_sum, sum_is, product_is, unary_is, target_is, compare_is, equal_is, and_is, or_is}
use Rattle.region_trees.specs.Regions.{first_some, passed, result_map, result_map2, expression_of, subscripts_of, reference_of, references_of, references_of_all}
use Rattle.region_rules.specs.Facts.{holds}
use Rattle.region_rules.specs.Faults.{fault_of, reads_fault_of, values_fault_of}

-- ---- options and results

pub none_last : (x : Option ℕ) → first_some x None ≡ x
none_last None = refl
none_last (Some at) = refl

pub first_of_three : (x y z : Option ℕ) → first_some (first_some x y) z ≡ first_some x (first_some y z)
first_of_three None y z = refl
first_of_three (Some at) y z = refl

pub mapped : {A B : Type 0} (f : A → B) (x : Result A ℕ) → fault_of (result_map f x) ≡ fault_of x
mapped f (Ok a) = refl
mapped f (Err at) = refl

pub mapped2 : {A B C : Type 0} (f : A → B → C) (x : Result A ℕ) (y : Result B ℕ) → fault_of (result_map2 f x y) ≡ first_some (fault_of x) (fault_of y)
mapped2 f (Ok a) (Ok b) = refl
mapped2 f (Ok a) (Err at) = refl
mapped2 f (Err at) y = refl

-- the maps of references and of subscripts
joined_fault : (x y : Result (List Reference) ℕ) → fault_of {A = List Reference} (result_map2 (λ rs ss. rs ++ ss) x y) ≡ first_some (fault_of x) (fault_of y)
joined_fault (Ok a) (Ok b) = refl
joined_fault (Ok a) (Err at) = refl
joined_fault (Err at) y = refl

subscript_joined : (x : Result Expression ℕ) (y : Result (List Expression) ℕ)
    → fault_of {A = List Expression} (result_map2 (λ e es. e ∷ es) x y) ≡ first_some (fault_of x) (fault_of y)
subscript_joined (Ok a) (Ok b) = refl
subscript_joined (Ok a) (Err at) = refl
subscript_joined (Err at) y = refl

named_fault : (name : List ℕ) (x : Result (List Expression) ℕ)
    → fault_of {A = Reference} (result_map (λ es. record { name = name; subscripts = es }) x) ≡ fault_of x
named_fault name (Ok a) = refl
named_fault name (Err at) = refl

passed_by : {A : Type 0} (a : A) (at : ℕ) (b : Bool) → fault_of {A = A} (cond b (Ok a) (Err at)) ≡ cond b None (Some at)
passed_by a at true = refl
passed_by a at false = refl

pub passes : {A : Type 0} (test : A → Bool) (at : ℕ) (x : Option A) → fault_of (passed test at x) ≡ cond (holds test x) None (Some at)
passes test at None = refl
passes test at (Some a) = passed_by a at (test a)

-- ---- lists

-- the first fault of a list
abbrev pub first_fault : {X : Type 0} → (X → Option ℕ) → List X → Option ℕ
first_fault f [] = None
first_fault f (x ∷ xs) = first_some (f x) (first_fault f xs)

-- the first fault of operands, behind that of the first one
operand_faults : {S X : Type 0} (of : S → Operation) (says : X → Term) (left : Term) (xs : List (S × X))
    → reads_fault_of (joined_by of says left xs) ≡ first_some (reads_fault_of left) (first_fault {X = S × X} (λ x. reads_fault_of (says x.1)) xs)
operand_faults of says left [] = sym (none_last (reads_fault_of left))
operand_faults {S = S} {X = X} of says left (x ∷ xs) =
    operand_faults of says (Joined (of x.0) left (says x.1)) xs
    ∙ ap (λ z. first_some z (first_fault {X = S × X} (λ x. reads_fault_of (says x.1)) xs)) (joined_fault (references_of left) (references_of (says x.1)))
    ∙ first_of_three (reads_fault_of left) (reads_fault_of (says x.1)) (first_fault {X = S × X} (λ x. reads_fault_of (says x.1)) xs)

item_faults_behind : {X : Type 0} (operation : Operation) (says : X → Term) (left : Term) (xs : List X)
    → reads_fault_of (all_by operation says left xs) ≡ first_some (reads_fault_of left) (first_fault (λ x. reads_fault_of (says x)) xs)
item_faults_behind operation says left [] = sym (none_last (reads_fault_of left))
item_faults_behind operation says left (x ∷ xs) =
    item_faults_behind operation says (Joined operation left (says x)) xs
    ∙ ap (λ z. first_some z (first_fault (λ x. reads_fault_of (says x)) xs)) (joined_fault (references_of left) (references_of (says x)))
    ∙ first_of_three (reads_fault_of left) (reads_fault_of (says x)) (first_fault (λ x. reads_fault_of (says x)) xs)

item_faults : {X : Type 0} (operation : Operation) (says : X → Term) (xs : List X)
    → reads_fault_of (some_by operation says xs) ≡ first_fault (λ x. reads_fault_of (says x)) xs
item_faults operation says [] = refl
item_faults operation says (x ∷ xs) = item_faults_behind operation says (says x) xs

sign_faults : (signs : List UnarySign) (of : Term) → reads_fault_of (all_signed signs of) ≡ reads_fault_of of
sign_faults [] of = refl
sign_faults (sign ∷ signs) of = sign_faults signs of

pub argument_faults : {X : Type 0} (says : X → Located) (xs : List X)
    → values_fault_of (terms_by says xs) ≡ first_fault (λ x. reads_fault_of (says x).term) xs
argument_faults says [] = refl
argument_faults says (x ∷ xs) =
    joined_fault (references_of (says x).term) (references_of_all (terms_by says xs))
    ∙ ap (λ z. first_some (reads_fault_of (says x).term) z) (argument_faults says xs)

-- the fault of a subscript
abbrev pub subscript_fault : Located → Option ℕ
subscript_fault x = fault_of (passed is_affine x.at (expression_of x.term))

subscript_faults : {X : Type 0} (says : X → Located) (xs : List X)
    → fault_of (subscripts_of (terms_by says xs)) ≡ first_fault (λ x. subscript_fault (says x)) xs
subscript_faults says [] = refl
subscript_faults says (x ∷ xs) =
    subscript_joined (passed is_affine (says x).at (expression_of (says x).term)) (subscripts_of (terms_by says xs))
    ∙ ap (λ z. first_some (subscript_fault (says x)) z) (subscript_faults says xs)

-- ---- the forms of the tree

abbrev pub reference_fault : Element → Option ℕ
reference_fault e = fault_of (reference_of e.name e.subscripts)

pub target_faults : (source : List ℕ) (t : Target) → reference_fault (target_of source t) ≡ first_fault (λ s. subscript_fault (sum_of source s)) (out-Target t).subscripts
target_faults source t =
    ap reference_fault (target_is source t) ∙ named_fault (bytes_of source (out-Target t).name) (subscripts_of (terms_by (sum_of source) (out-Target t).subscripts))
    ∙ subscript_faults (sum_of source) (out-Target t).subscripts

abbrev pub sum_reads : List ℕ → Sum → Option ℕ
sum_reads source x = reads_fault_of (sum_of source x).term

abbrev pub product_reads : List ℕ → Product → Option ℕ
product_reads source x = reads_fault_of (product_of source x)

abbrev pub unary_reads : List ℕ → Unary → Option ℕ
unary_reads source x = reads_fault_of (unary_of source x)

abbrev pub compare_reads : List ℕ → Compare → Option ℕ
compare_reads source x = reads_fault_of (compare_of source x)

abbrev pub equal_reads : List ℕ → Equal → Option ℕ
equal_reads source x = reads_fault_of (equal_of source x)

abbrev pub and_reads : List ℕ → And → Option ℕ
and_reads source x = reads_fault_of (and_of source x)

abbrev pub value_reads : List ℕ → Value → Option ℕ
value_reads source x = reads_fault_of (value_of source x).term

-- of what stands behind the first operand
abbrev pub operands_fault : {S X : Type 0} → (X → Option ℕ) → List (S × X) → Option ℕ
operands_fault {S = S} {X = X} f xs = first_fault {X = S × X} (λ x. f x.1) xs

pub sum_faults : (source : List ℕ) (x : Sum)
    → sum_reads source x ≡ first_some (product_reads source (out-Sum x).first) (operands_fault (product_reads source) (out-Sum x).rest)
sum_faults source x =
    ap (λ (s : Located). reads_fault_of s.term) (sum_is source x) ∙ operand_faults of_sum (product_of source) (product_of source (out-Sum x).first) (out-Sum x).rest

pub product_faults : (source : List ℕ) (x : Product)
    → product_reads source x ≡ first_some (unary_reads source (out-Product x).first) (operands_fault (unary_reads source) (out-Product x).rest)
product_faults source x =
    ap reads_fault_of (product_is source x) ∙ operand_faults of_product (unary_of source) (unary_of source (out-Product x).first) (out-Product x).rest

pub compare_faults : (source : List ℕ) (x : Compare)
    → compare_reads source x ≡ first_some (sum_reads source (out-Compare x).first) (operands_fault (sum_reads source) (out-Compare x).rest)
compare_faults source x =
    ap reads_fault_of (compare_is source x) ∙ operand_faults of_rel (term_of_sum source) (term_of_sum source (out-Compare x).first) (out-Compare x).rest

pub equal_faults : (source : List ℕ) (x : Equal)
    → equal_reads source x ≡ first_some (compare_reads source (out-Equal x).first) (operands_fault (compare_reads source) (out-Equal x).rest)
equal_faults source x =
    ap reads_fault_of (equal_is source x) ∙ operand_faults of_equal (compare_of source) (compare_of source (out-Equal x).first) (out-Equal x).rest

pub and_faults : (source : List ℕ) (x : And) → and_reads source x ≡ first_fault (equal_reads source) (out-And x).items
and_faults source x = ap reads_fault_of (and_is source x) ∙ item_faults Conjunction (equal_of source) (out-And x).items

pub or_faults : (source : List ℕ) (x : Or) → reads_fault_of (or_of source x) ≡ first_fault (and_reads source) (out-Or x).items
or_faults source x = ap reads_fault_of (or_is source x) ∙ item_faults Disjunction (and_of source) (out-Or x).items

pub unary_faults : (source : List ℕ) (x : Unary) → unary_reads source x ≡ reads_fault_of (primary_of source (out-Unary x).primary)
unary_faults source x = ap reads_fault_of (unary_is source x) ∙ sign_faults (out-Unary x).signs (primary_of source (out-Unary x).primary)

-- ---- from what loops show

-- the first fault of a list, behind one that was found before
abbrev pub faults_from : {X : Type 0} → (X → Option ℕ) → Option ℕ → List X → Option ℕ
faults_from f before [] = before
faults_from f before (x ∷ xs) = faults_from f (first_some before (f x)) xs

faults_are : {X : Type 0} (f : X → Option ℕ) (before : Option ℕ) (xs : List X) → faults_from f before xs ≡ first_some before (first_fault f xs)
faults_are f before [] = sym (none_last before)
faults_are f before (x ∷ xs) = faults_are f (first_some before (f x)) xs ∙ first_of_three before (f x) (first_fault f xs)

-- of second entries
abbrev pub operands_from : {S X : Type 0} → (X → Option ℕ) → Option ℕ → List (S × X) → Option ℕ
operands_from f before [] = before
operands_from f before (x ∷ xs) = operands_from f (first_some before (f x.1)) xs

operands_are : {S X : Type 0} (f : X → Option ℕ) (before : Option ℕ) (xs : List (S × X)) → operands_from f before xs ≡ first_some before (operands_fault f xs)
operands_are f before [] = sym (none_last before)
operands_are f before (x ∷ xs) = operands_are f (first_some before (f x.1)) xs ∙ first_of_three before (f x.1) (operands_fault f xs)

pub by_list : {X : Type 0} (f : X → Option ℕ) (xs : List X) (r : Option ℕ) → r ≡ faults_from f None xs → r ≡ first_fault f xs
by_list f xs r e = e ∙ faults_are f None xs

pub by_target : (source : List ℕ) (x : Target) (r : Option ℕ) → r ≡ faults_from (λ s. subscript_fault (sum_of source s)) None (out-Target x).subscripts
    → r ≡ reference_fault (target_of source x)
by_target source x r e = by_list (λ s. subscript_fault (sum_of source s)) (out-Target x).subscripts r e ∙ sym (target_faults source x)

pub by_arguments : (source : List ℕ) (xs : List Value) (r : Option ℕ) → r ≡ faults_from (value_reads source) None xs → r ≡ values_fault_of (terms_by (value_of source) xs)
by_arguments source xs r e = by_list (value_reads source) xs r e ∙ sym (argument_faults (value_of source) xs)

pub by_or : (source : List ℕ) (x : Or) (r : Option ℕ) → r ≡ faults_from (and_reads source) None (out-Or x).items → r ≡ reads_fault_of (or_of source x)
by_or source x r e = by_list (and_reads source) (out-Or x).items r e ∙ sym (or_faults source x)

pub by_and : (source : List ℕ) (x : And) (r : Option ℕ) → r ≡ faults_from (equal_reads source) None (out-And x).items → r ≡ reads_fault_of (and_of source x)
by_and source x r e = by_list (equal_reads source) (out-And x).items r e ∙ sym (and_faults source x)

pub by_equal : (source : List ℕ) (x : Equal) (r : Option ℕ)
    → r ≡ operands_from (compare_reads source) (compare_reads source (out-Equal x).first) (out-Equal x).rest → r ≡ reads_fault_of (equal_of source x)
by_equal source x r e = e ∙ operands_are (compare_reads source) (compare_reads source (out-Equal x).first) (out-Equal x).rest ∙ sym (equal_faults source x)

pub by_compare : (source : List ℕ) (x : Compare) (r : Option ℕ)
    → r ≡ operands_from (sum_reads source) (sum_reads source (out-Compare x).first) (out-Compare x).rest → r ≡ reads_fault_of (compare_of source x)
by_compare source x r e = e ∙ operands_are (sum_reads source) (sum_reads source (out-Compare x).first) (out-Compare x).rest ∙ sym (compare_faults source x)

pub by_sum : (source : List ℕ) (x : Sum) (r : Option ℕ)
    → r ≡ operands_from (product_reads source) (product_reads source (out-Sum x).first) (out-Sum x).rest → r ≡ reads_fault_of (sum_of source x).term
by_sum source x r e = e ∙ operands_are (product_reads source) (product_reads source (out-Sum x).first) (out-Sum x).rest ∙ sym (sum_faults source x)

pub by_product : (source : List ℕ) (x : Product) (r : Option ℕ)
    → r ≡ operands_from (unary_reads source) (unary_reads source (out-Product x).first) (out-Product x).rest → r ≡ reads_fault_of (product_of source x)
by_product source x r e = e ∙ operands_are (unary_reads source) (unary_reads source (out-Product x).first) (out-Product x).rest ∙ sym (product_faults source x)

pub by_unary : (source : List ℕ) (x : Unary) (r : Option ℕ) → r ≡ reads_fault_of (primary_of source (out-Unary x).primary) → r ≡ reads_fault_of (unary_of source x)
by_unary source x r e = e ∙ sym (unary_faults source x)
