-- What each form of the tree says, by what the forms right below it say: so code that goes down a tree is proved a layer at a time.
use Rattle.std.proofs.Common.{ap, ◌∙◌}
use Rattle.std.specs.Prelude.{◌≡◌, refl, ℕ, List, [], ◌∷◌, map, Option, Some, None}
use Rattle.c_lexer.specs.Pieces.{bytes_of}
use Rattle.c_parser.specs.declared.tree.Sum.{Sum, out-Sum}
use Rattle.c_parser.specs.declared.tree.Value.{Value, out-Value}
use Rattle.c_parser.specs.declared.tree.Target.{Target, out-Target}
use Rattle.c_parser.specs.declared.tree.Product.{Product, out-Product}
use Rattle.c_parser.specs.declared.tree.Unary.{Unary, out-Unary}
use Rattle.c_parser.specs.declared.tree.Primary.{Primary, out-Primary}
use Rattle.c_parser.specs.declared.tree.Compare.{Compare, out-Compare}
use Rattle.c_parser.specs.declared.tree.Equal.{Equal, out-Equal}
use Rattle.c_parser.specs.declared.tree.And.{And, out-And}
use Rattle.c_parser.specs.declared.tree.Or.{Or, out-Or}
use Rattle.c_parser.specs.declared.tree.Arms.{Arms, out-Arms}
use Rattle.c_parser.specs.declared.tree.Primary.TheOpen.{Primary-F}
use Rattle.c_parser.specs.declared.tree.Primary.TheFolds.{map-Primary, fold_out-Sum, fold_out-Value, fold_out-Target, fold_out-Product, fold_out-Unary, fold_out-Primary, fold_out-Compare, fold_out-Equal, fold_out-And, fold_out-Or, fold_out-Arms}
use Rattle.c_parser.specs.declared.tree.Primary.TheShapes.{former-Value-arms}
use Rattle.c_parser.specs.declared.tree.Node.TheShapes.{former-Branch-other}
use Rattle.c_parser.specs.declared.tree.Node.{Node, out-Node}
use Rattle.c_parser.specs.declared.tree.Branch.{Branch as BranchTree, out-Branch}
use Rattle.c_parser.specs.declared.tree.Loop.{Loop as LoopTree, out-Loop}
use Rattle.c_parser.specs.declared.tree.Node.TheOpen.{Node-F}
use Rattle.c_parser.specs.declared.tree.Node.TheFolds.{map-Node, fold_out-Node, fold_out-Branch, fold_out-Loop}
use Rattle.region_trees.specs.Terms.{Operation, Conjunction, Disjunction, Term, Integer, Literal, Named, Call, Bracket, Joined, Choice, Terms, NoTerms, More, Located, Element, Pair, order_of, of_rel, of_equal, of_sum, of_product, terms, joined_from, located_from, all_from, all_joined, all_signed, chosen, number_of, primary_says, and_says, arms_says, compare_says, equal_says, or_says, product_says, sum_says, target_says, unary_says, value_says, sum_of, value_of, target_of, product_of, unary_of, primary_of, compare_of, equal_of, and_of, or_of, arms_of}
use Rattle.region_trees.specs.Statements.{Statement, Loop, Branch, Block, Statements, NoStatements, Next, statements, if_any, step_of, assignment_of, node_says, branch_says, loop_says, statement_of, statements_of, branch_of, loop_of}

-- ---- lists of trees

-- the operands behind a term, from the left, of trees that say terms
abbrev pub joined_by : {S X : Type 0} → (S → Operation) → (X → Term) → Term → List (S × X) → Term
joined_by of says left [] = left
joined_by of says left (x ∷ xs) = joined_by of says (Joined (of x.0) left (says x.1)) xs

abbrev pub all_by : {X : Type 0} → Operation → (X → Term) → Term → List X → Term
all_by operation says left [] = left
all_by operation says left (x ∷ xs) = all_by operation says (Joined operation left (says x)) xs

-- one or more operands
abbrev pub some_by : {X : Type 0} → Operation → (X → Term) → List X → Term
some_by operation says [] = Literal
some_by operation says (x ∷ xs) = all_by operation says (says x) xs

abbrev pub terms_by : {X : Type 0} → (X → Located) → List X → Terms
terms_by says [] = NoTerms
terms_by says (x ∷ xs) = More (says x).at (says x).term (terms_by says xs)

abbrev pub term_of_sum : List ℕ → Sum → Term
term_of_sum source s = (sum_of source s).term

joined_as : {S X : Type 0} (of : S → Operation) (says : X → Term) (left : Term) (xs : List (S × X))
    → joined_from of left (map {A = S × X} (λ x. (x.0, says x.1)) xs) ≡ joined_by of says left xs
joined_as of says left [] = refl
joined_as of says left (x ∷ xs) = joined_as of says (Joined (of x.0) left (says x.1)) xs

located_as : {S X : Type 0} (of : S → Operation) (says : X → Located) (left : Term) (xs : List (S × X))
    → located_from of left (map {A = S × X} (λ x. (x.0, says x.1)) xs) ≡ joined_by of (λ x. (says x).term) left xs
located_as of says left [] = refl
located_as of says left (x ∷ xs) = located_as of says (Joined (of x.0) left (says x.1).term) xs

all_as : {X : Type 0} (operation : Operation) (says : X → Term) (left : Term) (xs : List X)
    → all_from operation left (map says xs) ≡ all_by operation says left xs
all_as operation says left [] = refl
all_as operation says left (x ∷ xs) = all_as operation says (Joined operation left (says x)) xs

some_as : {X : Type 0} (operation : Operation) (says : X → Term) (xs : List X) → all_joined operation (map says xs) ≡ some_by operation says xs
some_as operation says [] = refl
some_as operation says (x ∷ xs) = all_as operation says (says x) xs

terms_as : {X : Type 0} (says : X → Located) (xs : List X) → terms (map says xs) ≡ terms_by says xs
terms_as says [] = refl
terms_as says (x ∷ xs) = ap (More (says x).at (says x).term) (terms_as says xs)

-- ---- values

pub sum_is : (source : List ℕ) (x : Sum)
    → sum_of source x ≡ record { at = (out-Sum x).at; term = joined_by of_sum (product_of source) (product_of source (out-Sum x).first) (out-Sum x).rest }
sum_is source x =
    fold_out-Sum Term Term Pair Term Term Term Term Located Element Term Located
    (primary_says source) and_says arms_says compare_says equal_says or_says product_says sum_says (target_says source) unary_says value_says x
    ∙ ap (λ t. record { at = (out-Sum x).at; term = t }) (joined_as of_sum (product_of source) (product_of source (out-Sum x).first) (out-Sum x).rest)

pub product_is : (source : List ℕ) (x : Product)
    → product_of source x ≡ joined_by of_product (unary_of source) (unary_of source (out-Product x).first) (out-Product x).rest
product_is source x =
    fold_out-Product Term Term Pair Term Term Term Term Located Element Term Located
    (primary_says source) and_says arms_says compare_says equal_says or_says product_says sum_says (target_says source) unary_says value_says x
    ∙ joined_as of_product (unary_of source) (unary_of source (out-Product x).first) (out-Product x).rest

pub unary_is : (source : List ℕ) (x : Unary) → unary_of source x ≡ all_signed (out-Unary x).signs (primary_of source (out-Unary x).primary)
unary_is source x =
    fold_out-Unary Term Term Pair Term Term Term Term Located Element Term Located
    (primary_says source) and_says arms_says compare_says equal_says or_says product_says sum_says (target_says source) unary_says value_says x

abbrev pub primary_layer : List ℕ → Primary-F Primary And Arms Compare Equal Or Product Sum Target Unary Value → Term
primary_layer source (Primary-F.Integer piece) = Integer (number_of source piece)
primary_layer source (Primary-F.Literal piece) = Literal
primary_layer source (Primary-F.Target t) = Named (target_of source t).name (target_of source t).at (target_of source t).subscripts
primary_layer source (Primary-F.Call piece values) = Call (bytes_of source piece) piece.from (terms_by (value_of source) values)
primary_layer source (Primary-F.Bracket v) = Bracket (value_of source v).term

-- the step of the fold is that of the layer
primary_layer_is : (source : List ℕ) (l : Primary-F Primary And Arms Compare Equal Or Product Sum Target Unary Value)
    → primary_says source (map-Primary Primary And Arms Compare Equal Or Product Sum Target Unary Value
    Term Term Pair Term Term Term Term Located Element Term Located
    (primary_of source) (and_of source) (arms_of source) (compare_of source) (equal_of source) (or_of source) (product_of source)
    (sum_of source) (target_of source) (unary_of source) (value_of source) l)
    ≡ primary_layer source l
primary_layer_is source (Primary-F.Integer piece) = refl
primary_layer_is source (Primary-F.Literal piece) = refl
primary_layer_is source (Primary-F.Target t) = refl
primary_layer_is source (Primary-F.Call piece values) = ap (Call (bytes_of source piece) piece.from) (terms_as (value_of source) values)
primary_layer_is source (Primary-F.Bracket v) = refl

pub primary_is : (source : List ℕ) (x : Primary) → primary_of source x ≡ primary_layer source (out-Primary x)
primary_is source x =
    fold_out-Primary Term Term Pair Term Term Term Term Located Element Term Located
    (primary_says source) and_says arms_says compare_says equal_says or_says product_says sum_says (target_says source) unary_says value_says x
    ∙ primary_layer_is source (out-Primary x)

pub target_is : (source : List ℕ) (x : Target) → target_of source x ≡ record {
  name = bytes_of source (out-Target x).name;
  at = (out-Target x).name.from;
  subscripts = terms_by (sum_of source) (out-Target x).subscripts;
}
target_is source x =
    fold_out-Target Term Term Pair Term Term Term Term Located Element Term Located
    (primary_says source) and_says arms_says compare_says equal_says or_says product_says sum_says (target_says source) unary_says value_says x
    ∙ ap (λ t. record { name = bytes_of source (out-Target x).name; at = (out-Target x).name.from; subscripts = t })
    (terms_as (sum_of source) (out-Target x).subscripts)

pub compare_is : (source : List ℕ) (x : Compare)
    → compare_of source x ≡ joined_by of_rel (term_of_sum source) (term_of_sum source (out-Compare x).first) (out-Compare x).rest
compare_is source x =
    fold_out-Compare Term Term Pair Term Term Term Term Located Element Term Located
    (primary_says source) and_says arms_says compare_says equal_says or_says product_says sum_says (target_says source) unary_says value_says x
    ∙ located_as of_rel (sum_of source) (term_of_sum source (out-Compare x).first) (out-Compare x).rest

pub equal_is : (source : List ℕ) (x : Equal)
    → equal_of source x ≡ joined_by of_equal (compare_of source) (compare_of source (out-Equal x).first) (out-Equal x).rest
equal_is source x =
    fold_out-Equal Term Term Pair Term Term Term Term Located Element Term Located
    (primary_says source) and_says arms_says compare_says equal_says or_says product_says sum_says (target_says source) unary_says value_says x
    ∙ joined_as of_equal (compare_of source) (compare_of source (out-Equal x).first) (out-Equal x).rest

pub and_is : (source : List ℕ) (x : And) → and_of source x ≡ some_by Conjunction (equal_of source) (out-And x).items
and_is source x =
    fold_out-And Term Term Pair Term Term Term Term Located Element Term Located
    (primary_says source) and_says arms_says compare_says equal_says or_says product_says sum_says (target_says source) unary_says value_says x
    ∙ some_as Conjunction (equal_of source) (out-And x).items

pub or_is : (source : List ℕ) (x : Or) → or_of source x ≡ some_by Disjunction (and_of source) (out-Or x).items
or_is source x =
    fold_out-Or Term Term Pair Term Term Term Term Located Element Term Located
    (primary_says source) and_says arms_says compare_says equal_says or_says product_says sum_says (target_says source) unary_says value_says x
    ∙ some_as Disjunction (and_of source) (out-Or x).items

pub arms_is : (source : List ℕ) (x : Arms) → arms_of source x ≡ record {
  yes = (value_of source (out-Arms x).yes).term;
  no = (value_of source (out-Arms x).no).term;
}
arms_is source x =
    fold_out-Arms Term Term Pair Term Term Term Term Located Element Term Located
    (primary_says source) and_says arms_says compare_says equal_says or_says product_says sum_says (target_says source) unary_says value_says x

-- the test with its two arms, where it has them
abbrev pub with_arms : List ℕ → Term → Option Arms → Term
with_arms source test None = test
with_arms source test (Some arms) = Choice test (arms_of source arms).yes (arms_of source arms).no

chosen_as : (source : List ℕ) (test : Term) (a : Option Arms)
    → chosen test (former-Value-arms.map Arms Pair (arms_of source) a) ≡ with_arms source test a
chosen_as source test None = refl
chosen_as source test (Some arms) = refl

pub value_is : (source : List ℕ) (x : Value) → value_of source x ≡ record {
  at = (out-Value x).at;
  term = with_arms source (or_of source (out-Value x).test) (out-Value x).arms;
}
value_is source x =
    fold_out-Value Term Term Pair Term Term Term Term Located Element Term Located
    (primary_says source) and_says arms_says compare_says equal_says or_says product_says sum_says (target_says source) unary_says value_says x
    ∙ ap (λ t. record { at = (out-Value x).at; term = t }) (chosen_as source (or_of source (out-Value x).test) (out-Value x).arms)

-- ---- statements

abbrev pub node_layer : List ℕ → Node-F Node BranchTree LoopTree → Statement
node_layer source (Node-F.For x) = loop_of source x
node_layer source (Node-F.If x) = branch_of source x
node_layer source (Node-F.Block xs) = Block (statements_of source xs)
node_layer source (Node-F.Assign a) = assignment_of source a
node_layer source Node-F.Empty = Block NoStatements

statements_as : (source : List ℕ) (xs : List Node) → statements (map (statement_of source) xs) ≡ statements_of source xs
statements_as source [] = refl
statements_as source (x ∷ xs) = ap (Next (statement_of source x)) (statements_as source xs)

node_layer_is : (source : List ℕ) (l : Node-F Node BranchTree LoopTree)
    → node_says source (map-Node Node BranchTree LoopTree Statement Statement Statement (statement_of source) (branch_of source) (loop_of source) l)
    ≡ node_layer source l
node_layer_is source (Node-F.For x) = refl
node_layer_is source (Node-F.If x) = refl
node_layer_is source (Node-F.Block xs) = ap Block (statements_as source xs)
node_layer_is source (Node-F.Assign a) = refl
node_layer_is source Node-F.Empty = refl

pub statement_is : (source : List ℕ) (x : Node) → statement_of source x ≡ node_layer source (out-Node x)
statement_is source x =
    fold_out-Node Statement Statement Statement (node_says source) (branch_says source) (loop_says source) x
    ∙ node_layer_is source (out-Node x)

pub loop_is : (source : List ℕ) (x : LoopTree) → loop_of source x ≡ Loop
    (bytes_of source (out-Loop x).name) (out-Loop x).name.from (sum_of source (out-Loop x).start) (order_of (out-Loop x).rel)
    (sum_of source (out-Loop x).bound) (step_of source (out-Loop x).step) (out-Loop x).step_at (Next (statement_of source (out-Loop x).body) NoStatements)
loop_is source x = fold_out-Loop Statement Statement Statement (node_says source) (branch_says source) (loop_says source) x

-- the statement behind `else`, where there is one
abbrev pub other_of : List ℕ → Option Node → Statements
other_of source None = NoStatements
other_of source (Some x) = Next (statement_of source x) NoStatements

other_as : (source : List ℕ) (x : Option Node) → if_any (former-Branch-other.map Node Statement (statement_of source) x) ≡ other_of source x
other_as source None = refl
other_as source (Some x) = refl

pub branch_is : (source : List ℕ) (x : BranchTree) → branch_of source x ≡ Branch
    (value_of source (out-Branch x).condition) (Next (statement_of source (out-Branch x).then) NoStatements) (other_of source (out-Branch x).other)
branch_is source x =
    fold_out-Branch Statement Statement Statement (node_says source) (branch_says source) (loop_says source) x
    ∙ ap (Branch (value_of source (out-Branch x).condition) (Next (statement_of source (out-Branch x).then) NoStatements))
    (other_as source (out-Branch x).other)
