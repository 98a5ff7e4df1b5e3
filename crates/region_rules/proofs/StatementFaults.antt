-- The first fault of a statement, by those of its parts.
use Rattle.std.proofs.Common.{◌≡◌, refl, sym, ap, ◌∙◌, ℕ, List, [], ◌∷◌, Bool, Option, Some, None, Result, Ok, Err}
use Rattle.std.specs.Prelude.{cond, ℤ, unsigned_abs}
use Rattle.c_lexer.specs.Pieces.{bytes_of}
use Rattle.c_parser.specs.declared.tree.Sum.{Sum, out-Sum}
use Rattle.c_parser.specs.declared.tree.Value.{Value}
use Rattle.c_parser.specs.declared.tree.Node.{Node}
use Rattle.c_parser.specs.declared.tree.Node.TheVariants as node
use Rattle.c_parser.specs.declared.tree.Branch.{Branch as BranchTree, out-Branch}
use Rattle.c_parser.specs.declared.tree.Loop.{Loop as LoopTree, out-Loop}
use Rattle.clan_extract.specs.Regions.{Expression, Comparison, Condition, Node as Region, If, Nodes, NoNodes, Then}
use Rattle.clan_extract.specs.Regions as region
use Rattle.clan_extract.specs.Scops.{is_condition}
use Rattle.region_trees.specs.Terms.{Located, order_of, sum_of, value_of}
use Rattle.region_trees.specs.Statements.{Statement, NoStatements, Next, step_of, statement_of, statements_of, branch_of, loop_of}
use Rattle.region_trees.specs.Layers.{node_layer, other_of, sum_is, statement_is, loop_is, branch_is}
use Rattle.region_trees.specs.Regions.{first_some, result_map2, for_of, condition_of, bound_of, passed, is_start, is_bound, is_step, start_of, limit_of, node_of, nodes_of}
use Rattle.region_rules.specs.Facts.{holds, size_of, facts_of}
use Rattle.region_rules.specs.Faults.{fault_of, head_fault_of, is_start_by, is_bound_by}
use Rattle.region_rules.proofs.Faults.{none_last, first_of_three, mapped, mapped2, passes, first_fault, faults_from, by_list}
use Rattle.region_rules.proofs.Heads.{starts, bounds}

-- ---- places

sum_place : (source : List ℕ) (x : Sum) → (sum_of source x).at ≡ (out-Sum x).at
sum_place source x = ap (λ (s : Located). s.at) (sum_is source x)

-- none where it passes, else this place
abbrev pub at_fault : Bool → ℕ → Option ℕ
at_fault passes at = cond passes None (Some at)

-- a place of control, by its test
placed : {A : Type 0} (test : A → Bool) (at place : ℕ) (x : Option A) (b : Bool) → at ≡ place → holds test x ≡ b → fault_of (passed test at x) ≡ at_fault b place
placed test at place x b p q = passes test at x ∙ ap (λ c. at_fault c at) q ∙ ap (at_fault b) p

pub start_at : (source : List ℕ) (c : Comparison) (z : ℤ) (x : Sum)
    → fault_of (start_of c z (sum_of source x)) ≡ at_fault (is_start_by c (size_of (unsigned_abs z)) (facts_of (sum_of source x).term)) (out-Sum x).at
start_at source c z x = placed (is_start c z) _ _ (bound_of (sum_of source x).term) _ (sum_place source x) (starts c z (sum_of source x).term)

pub bound_at : (source : List ℕ) (c : Comparison) (x : Sum)
    → fault_of (limit_of c (sum_of source x)) ≡ at_fault (is_bound_by c (facts_of (sum_of source x).term)) (out-Sum x).at
bound_at source c x = placed (is_bound c) _ _ (bound_of (sum_of source x).term) _ (sum_place source x) (bounds c (sum_of source x).term)

-- ---- statements

abbrev pub statement_fault : Statement → Option ℕ
statement_fault s = fault_of (node_of s)

abbrev pub node_fault : List ℕ → Node → Option ℕ
node_fault source x = statement_fault (statement_of source x)

pub all_faults : (source : List ℕ) (xs : List Node) → fault_of (nodes_of (statements_of source xs)) ≡ first_fault (node_fault source) xs
all_faults source [] = refl
all_faults source (x ∷ xs) =
    mapped2 Then (node_of (statement_of source x)) (nodes_of (statements_of source xs)) ∙ ap (λ z. first_some (node_fault source x) z) (all_faults source xs)

one_fault : (s : Statement) → fault_of (nodes_of (Next s NoStatements)) ≡ statement_fault s
one_fault s = mapped2 Then (node_of s) (Ok NoNodes) ∙ none_last (statement_fault s)

-- a loop's start, bound and step, then its body
loop_parts : (name : List ℕ) (c : Comparison) (start bound : Result Expression ℕ) (step : Result ℤ ℕ) (body : Result Nodes ℕ)
    → fault_of (for_of name c start bound step body) ≡ first_some (first_some (fault_of start) (first_some (fault_of bound) (fault_of step))) (fault_of body)
loop_parts name c (Err at) bound step body = refl
loop_parts name c (Ok s) (Err at) step body = refl
loop_parts name c (Ok s) (Ok b) (Err at) body = refl
loop_parts name c (Ok s) (Ok b) (Ok z) (Err at) = refl
loop_parts name c (Ok s) (Ok b) (Ok z) (Ok nodes) = refl

pub loop_faults : (source : List ℕ) (x : LoopTree) → statement_fault (loop_of source x) ≡ first_some (head_fault_of source x) (node_fault source (out-Loop x).body)
loop_faults source x =
    let head = out-Loop x in
    let c = order_of head.rel in
    let z = step_of source head.step in
    ap statement_fault (loop_is source x)
    ∙ loop_parts (bytes_of source head.name) c (start_of c z (sum_of source head.start)) (limit_of c (sum_of source head.bound))
    (passed (is_step c) head.step_at (Some z)) (nodes_of (Next (statement_of source head.body) NoStatements))
    ∙ ap (λ y. first_some (head_fault_of source x) y) (one_fault (statement_of source head.body))

abbrev pub other_fault : List ℕ → Option Node → Option ℕ
other_fault source None = None
other_fault source (Some x) = node_fault source x

other_faults : (source : List ℕ) (x : Option Node) → fault_of (nodes_of (other_of source x)) ≡ other_fault source x
other_faults source None = refl
other_faults source (Some x) = one_fault (statement_of source x)

abbrev pub condition_fault : List ℕ → Value → Option ℕ
condition_fault source x = fault_of (passed is_condition (value_of source x).at (condition_of (value_of source x).term))

branch_parts : (c : Result Condition ℕ) (t e : Result Nodes ℕ)
    → fault_of {A = Region} (result_map2 (λ c. λ (branches : Nodes × Nodes). If c branches.0 branches.1) c (result_map2 (λ t e. (t, e)) t e))
    ≡ first_some (fault_of c) (first_some (fault_of t) (fault_of e))
branch_parts (Err at) t e = refl
branch_parts (Ok c) (Err at) e = refl
branch_parts (Ok c) (Ok t) (Err at) = refl
branch_parts (Ok c) (Ok t) (Ok e) = refl

pub branch_faults : (source : List ℕ) (x : BranchTree)
    → statement_fault (branch_of source x)
    ≡ first_some (condition_fault source (out-Branch x).condition) (first_some (node_fault source (out-Branch x).then) (other_fault source (out-Branch x).other))
branch_faults source x =
    let condition = value_of source (out-Branch x).condition in
    let one = statement_of source (out-Branch x).then in
    let other = other_of source (out-Branch x).other in
    let first = condition_fault source (out-Branch x).condition in
    ap statement_fault (branch_is source x)
    ∙ branch_parts (passed is_condition condition.at (condition_of condition.term)) (nodes_of (Next one NoStatements)) (nodes_of other)
    ∙ ap (λ y. first_some first (first_some y (fault_of (nodes_of other)))) (one_fault one)
    ∙ ap (λ y. first_some first (first_some (statement_fault one) y)) (other_faults source (out-Branch x).other)

-- ---- nodes

pub block_fault : (source : List ℕ) (xs : List Node) → node_fault source (node.Block xs) ≡ fault_of (nodes_of (statements_of source xs))
block_fault source xs =
    ap statement_fault (statement_is source (node.Block xs) ∙ ap (node_layer source) (node.outs-Block xs)) ∙ mapped region.Block (nodes_of (statements_of source xs))

-- ---- from what code shows

pub by_start : (source : List ℕ) (c : Comparison) (z : ℤ) (x : Sum) (b : Bool) (r : Option ℕ)
    → is_start_by c (size_of (unsigned_abs z)) (facts_of (sum_of source x).term) ≡ b → r ≡ at_fault b (out-Sum x).at → r ≡ fault_of (start_of c z (sum_of source x))
by_start source c z x b r e f = f ∙ ap (λ t. at_fault t (out-Sum x).at) (sym e) ∙ sym (start_at source c z x)

pub by_bound : (source : List ℕ) (c : Comparison) (x : Sum) (b : Bool) (r : Option ℕ)
    → is_bound_by c (facts_of (sum_of source x).term) ≡ b → r ≡ at_fault b (out-Sum x).at → r ≡ fault_of (limit_of c (sum_of source x))
by_bound source c x b r e f = f ∙ ap (λ t. at_fault t (out-Sum x).at) (sym e) ∙ sym (bound_at source c x)

pub by_nodes : (source : List ℕ) (xs : List Node) (r : Option ℕ) → r ≡ faults_from (node_fault source) None xs → r ≡ fault_of (nodes_of (statements_of source xs))
by_nodes source xs r e = by_list (node_fault source) xs r e ∙ sym (all_faults source xs)

pub by_loop : (source : List ℕ) (x : LoopTree) (r : Option ℕ)
    → r ≡ first_some (head_fault_of source x) (node_fault source (out-Loop x).body) → r ≡ statement_fault (loop_of source x)
by_loop source x r e = e ∙ sym (loop_faults source x)

-- the fault of a condition, or of what follows it
abbrev pub then_fault : List ℕ → BranchTree → Option ℕ
then_fault source x = first_some (condition_fault source (out-Branch x).condition) (node_fault source (out-Branch x).then)

pub by_branch : (source : List ℕ) (x : BranchTree) (r : Option ℕ)
    → r ≡ first_some (then_fault source x) (other_fault source (out-Branch x).other) → r ≡ statement_fault (branch_of source x)
by_branch source x r e =
    e ∙ first_of_three (condition_fault source (out-Branch x).condition) (node_fault source (out-Branch x).then) (other_fault source (out-Branch x).other)
    ∙ sym (branch_faults source x)

pub by_then : (source : List ℕ) (x : BranchTree) (r : Option ℕ) → (out-Branch x).other ≡ None → r ≡ then_fault source x → r ≡ statement_fault (branch_of source x)
by_then source x r n e =
    by_branch source x r (e ∙ sym (none_last (then_fault source x)) ∙ ap (λ o. first_some (then_fault source x) (other_fault source o)) (sym n))
