-- A region that statements stand for is affine.
use Rattle.std.proofs.Common.{◌≡◌, ℕ, zero, suc, sym, subst, List, [], ◌∷◌, ◌++◌, Bool, true, false, refl, Option, None, Some, Result, Ok, Err}
use Rattle.std.proofs.Math.Dec.{eqb-suc-zero}
use Rattle.std.specs.Prelude.{cond, ◌&&◌, ◌||◌, ℤ, pos, negsuc, unsigned_abs, nat_eq, int_le}
use Rattle.clan_extract.specs.Regions.{Expression, Comparison, IsLess, IsLessOrEqual, IsGreater, IsGreaterOrEqual, IsEqual, IsUnequal, Reference, For, Nodes}
use Rattle.clan_extract.specs.Forms.{is_affine}
use Rattle.clan_extract.specs.Scops.{is_lower_bound, is_upper_bound, is_head, is_condition, are_affine, have_affine_subscripts, is_affine_node, are_affine_nodes}
use Rattle.region_trees.specs.Terms.{Term, Integer, Literal, Named, Call, Bracket, Signed, Joined, Choice, Terms, NoTerms, More}
use Rattle.region_trees.specs.Statements.{Statement, Loop, Branch, Block, Assignment, Statements, NoStatements, Next}
use Rattle.region_trees.specs.Regions.{passed, result_map, result_map2, expression_of, bound_of, condition_of, subscripts_of, reference_of, references_of, references_of_all, is_short, is_start, is_bound, is_step, start_of, limit_of, node_of, nodes_of}

-- what is answered has the property
abbrev pub Answers : {A : Type 0} → (A → Type 0) → Result A ℕ → Type 0
Answers P (Ok a) = P a
Answers P (Err at) = Unit {0}

passed_by : {A : Type 0} (test : A → Bool) (at : ℕ) (a : A) (b : Bool) → test a ≡ b → Answers (λ x. (x ≡ a) × (test x ≡ true)) (cond b (Ok a) (Err at))
passed_by test at a true e = (refl, e)
passed_by test at a false e = tt

-- what passes is what was asked
passed_one : {A : Type 0} (test : A → Bool) (at : ℕ) (a : A) → Answers (λ x. (x ≡ a) × (test x ≡ true)) (passed test at (Some a))
passed_one test at a = passed_by test at a (test a) refl

weaker : {A : Type 0} (P Q : A → Type 0) (x : Result A ℕ) → ((a : A) → P a → Q a) → Answers P x → Answers Q x
weaker P Q (Ok a) f p = f a p
weaker P Q (Err at) f p = tt

passed_any : {A : Type 0} (test : A → Bool) (at : ℕ) (x : Option A) → Answers (λ a. test a ≡ true) (passed test at x)
passed_any test at None = tt
passed_any test at (Some a) = weaker _ (λ x. test x ≡ true) (passed test at (Some a)) (λ x p. p.1) (passed_one test at a)

mapped : {A B : Type 0} (P : A → Type 0) (Q : B → Type 0) (f : A → B) (x : Result A ℕ) → ((a : A) → P a → Q (f a)) → Answers P x → Answers Q (result_map f x)
mapped P Q f (Ok a) g p = g a p
mapped P Q f (Err at) g p = tt

mapped2 : {A B C : Type 0} (P : A → Type 0) (Q : B → Type 0) (R : C → Type 0) (f : A → B → C) (x : Result A ℕ) (y : Result B ℕ)
    → ((a : A) (b : B) → P a → Q b → R (f a b)) → Answers P x → Answers Q y → Answers R (result_map2 f x y)
mapped2 P Q R f (Ok a) (Ok b) g p q = g a b p q
mapped2 P Q R f (Ok a) (Err at) g p q = tt
mapped2 P Q R f (Err at) y g p q = tt

both : (a b : Bool) → a ≡ true → b ≡ true → (a && b) ≡ true
both true b p q = q
both false b p q = p

left_of : (a b : Bool) → (a && b) ≡ true → a ≡ true
left_of true b p = refl
left_of false b p = p

false_is_not_true : false ≡ true → ⊥
false_is_not_true e = cc

right_of : (a b : Bool) → (a && b) ≡ true → b ≡ true
right_of true b p = p
right_of false b p = absurd (false_is_not_true p)

subscripts_are : (xs : Terms) → Answers (λ es. are_affine es ≡ true) (subscripts_of xs)
subscripts_are NoTerms = refl
subscripts_are (More at first rest) =
    mapped2 (λ e. is_affine e ≡ true) (λ es. are_affine es ≡ true) (λ es. are_affine es ≡ true) _ (passed is_affine at (expression_of first)) (subscripts_of rest)
    (λ e es p q. both (is_affine e) (are_affine es) p q) (passed_any is_affine at (expression_of first)) (subscripts_are rest)

reference_is : (name : List ℕ) (xs : Terms) → Answers (λ r. are_affine r.subscripts ≡ true) (reference_of name xs)
reference_is name xs = mapped (λ es. are_affine es ≡ true) (λ r. are_affine r.subscripts ≡ true) _ (subscripts_of xs) (λ es p. p) (subscripts_are xs)

abbrev AffineReferences : List Reference → Type 0
AffineReferences rs = have_affine_subscripts rs ≡ true

joined : (rs ss : List Reference) → AffineReferences rs → AffineReferences ss → AffineReferences (rs ++ ss)
joined [] ss p q = q
joined (r ∷ rs) ss p q =
    both (are_affine r.subscripts) (have_affine_subscripts (rs ++ ss)) (left_of (are_affine r.subscripts) (have_affine_subscripts rs) p)
    (joined rs ss (right_of (are_affine r.subscripts) (have_affine_subscripts rs) p) q)

two : (x y : Result (List Reference) ℕ) → Answers AffineReferences x → Answers AffineReferences y → Answers AffineReferences (result_map2 (λ rs ss. rs ++ ss) x y)
two x y = mapped2 AffineReferences AffineReferences AffineReferences (λ rs ss. rs ++ ss) x y joined

mutual
  references_are : (x : Term) → Answers AffineReferences (references_of x)
  references_are (Integer value) = refl
  references_are Literal = refl
  references_are (Named name at subscripts) =
      mapped (λ r. are_affine r.subscripts ≡ true) AffineReferences _ (reference_of name subscripts) (λ r p. both (are_affine r.subscripts) true p refl) (reference_is name subscripts)
  references_are (Call name at arguments) = all_references_are arguments
  references_are (Bracket of) = references_are of
  references_are (Signed sign of) = references_are of
  references_are (Joined operation left right) = two (references_of left) (references_of right) (references_are left) (references_are right)
  references_are (Choice test one other) =
      two (references_of test) _ (references_are test) (two (references_of one) (references_of other) (references_are one) (references_are other))

  all_references_are : (xs : Terms) → Answers AffineReferences (references_of_all xs)
  all_references_are NoTerms = refl
  all_references_are (More at first rest) = two (references_of first) (references_of_all rest) (references_are first) (all_references_are rest)

-- ---- heads

nonzero : (c : Comparison) (z : ℤ) → is_step c z ≡ true → nat_eq (unsigned_abs z) 0 ≡ false
nonzero c (pos (suc n)) p = eqb-suc-zero n
nonzero c (negsuc n) p = eqb-suc-zero n
nonzero IsLess (pos zero) p = absurd (false_is_not_true p)
nonzero IsLessOrEqual (pos zero) p = absurd (false_is_not_true p)
nonzero IsGreater (pos zero) p = absurd (false_is_not_true p)
nonzero IsGreaterOrEqual (pos zero) p = absurd (false_is_not_true p)
nonzero IsEqual (pos zero) p = absurd (false_is_not_true p)
nonzero IsUnequal (pos zero) p = absurd (false_is_not_true p)

strided_by : (none one a : Bool) → none ≡ false → ((none || one) || a) ≡ true → cond one true a ≡ true
strided_by true one a p q = absurd (false_is_not_true (sym p))
strided_by false true a p q = refl
strided_by false false a p q = q

strided : (c : Comparison) (z : ℤ) (e : Expression) → is_step c z ≡ true → (is_short z || is_affine e) ≡ true → cond (nat_eq (unsigned_abs z) 1) true (is_affine e) ≡ true
strided c z e p q = strided_by (nat_eq (unsigned_abs z) 0) (nat_eq (unsigned_abs z) 1) (is_affine e) (nonzero c z p) q

all_of : (a b c d : Bool) → a ≡ true → b ≡ true → c ≡ true → d ≡ true → (((a && b) && c) && d) ≡ true
all_of a b c d p q r s = both ((a && b) && c) d (both (a && b) c (both a b p q) r) s

head_is : (name : List ℕ) (s : Expression) (c : Comparison) (b : Expression) (z : ℤ) → is_start c z s ≡ true → is_bound c b ≡ true → is_step c z ≡ true
    → is_head (record { name = name; start = s; comparison = c; bound = b; step = z }) ≡ true
head_is name s IsLess b z p q r =
    all_of (is_lower_bound s) (is_upper_bound b) (int_le (pos 1) z) (cond (nat_eq (unsigned_abs z) 1) true (is_affine s))
    (left_of (is_lower_bound s) (is_short z || is_affine s) p) q r (strided IsLess z s r (right_of (is_lower_bound s) (is_short z || is_affine s) p))
head_is name s IsLessOrEqual b z p q r =
    all_of (is_lower_bound s) (is_upper_bound b) (int_le (pos 1) z) (cond (nat_eq (unsigned_abs z) 1) true (is_affine s))
    (left_of (is_lower_bound s) (is_short z || is_affine s) p) q r (strided IsLess z s r (right_of (is_lower_bound s) (is_short z || is_affine s) p))
head_is name s IsGreater b z p q r =
    all_of (is_upper_bound s) (is_lower_bound b) (int_le z (negsuc 0)) (cond (nat_eq (unsigned_abs z) 1) true (is_affine s))
    (left_of (is_upper_bound s) (is_short z || is_affine s) p) q r (strided IsGreater z s r (right_of (is_upper_bound s) (is_short z || is_affine s) p))
head_is name s IsGreaterOrEqual b z p q r =
    all_of (is_upper_bound s) (is_lower_bound b) (int_le z (negsuc 0)) (cond (nat_eq (unsigned_abs z) 1) true (is_affine s))
    (left_of (is_upper_bound s) (is_short z || is_affine s) p) q r (strided IsGreater z s r (right_of (is_upper_bound s) (is_short z || is_affine s) p))
head_is name s IsEqual b z p q r = absurd (false_is_not_true r)
head_is name s IsUnequal b z p q r = absurd (false_is_not_true r)

-- ---- statements

abbrev Ends : Comparison → ℤ → Expression × Expression → Type 0
Ends c step ends = (is_start c step ends.0 ≡ true) × (is_bound c ends.1 ≡ true)

abbrev Rest : Comparison → ℤ → ℤ × Nodes → Type 0
Rest c step rest = (rest.0 ≡ step) × (is_step c rest.0 ≡ true) × (are_affine_nodes rest.1 ≡ true)

loop_is : (name : List ℕ) (c : Comparison) (step : ℤ) (ends : Expression × Expression) (rest : ℤ × Nodes) → Ends c step ends → Rest c step rest
    → is_affine_node (For name ends.0 c ends.1 rest.0 rest.1) ≡ true
loop_is name c step ends rest p q =
    both (is_head (record { name = name; start = ends.0; comparison = c; bound = ends.1; step = rest.0 })) (are_affine_nodes rest.1)
    (head_is name ends.0 c ends.1 rest.0 (subst (λ z. is_start c z ends.0 ≡ true) (sym q.0) p.0) p.1 q.1) q.2

abbrev AffineNodes : Nodes → Type 0
AffineNodes nodes = are_affine_nodes nodes ≡ true

mutual
  node_is : (x : Statement) → Answers (λ n. is_affine_node n ≡ true) (node_of x)
  node_is (Loop name at start c bound step step_at body) =
      mapped2 (Ends c step) (Rest c step) (λ n. is_affine_node n ≡ true) _ _ _ (loop_is name c step)
      (mapped2 (λ e. is_start c step e ≡ true) (λ e. is_bound c e ≡ true) (Ends c step) _ (start_of c step start) (limit_of c bound) (λ s b p q. (p, q))
      (passed_any (is_start c step) start.at (bound_of start.term)) (passed_any (is_bound c) bound.at (bound_of bound.term)))
      (mapped2 (λ z. (z ≡ step) × (is_step c z ≡ true)) AffineNodes (Rest c step) _ (passed (is_step c) step_at (Some step)) (nodes_of body) (λ z nodes p q. (p.0, p.1, q))
      (passed_one (is_step c) step_at step) (nodes_are body))
  node_is (Branch condition then_statements else_statements) =
      mapped2 (λ c. is_condition c ≡ true) (λ (b : Nodes × Nodes). AffineNodes b.0 × AffineNodes b.1) (λ n. is_affine_node n ≡ true) _ _ _
      (λ c b p q. both (is_condition c) (are_affine_nodes b.0 && are_affine_nodes b.1) p (both (are_affine_nodes b.0) (are_affine_nodes b.1) q.0 q.1))
      (passed_any is_condition condition.at (condition_of condition.term))
      (mapped2 AffineNodes AffineNodes (λ (b : Nodes × Nodes). AffineNodes b.0 × AffineNodes b.1) _ (nodes_of then_statements) (nodes_of else_statements) (λ t e p q. (p, q))
      (nodes_are then_statements) (nodes_are else_statements))
  node_is (Block statements) = mapped AffineNodes (λ n. is_affine_node n ≡ true) _ (nodes_of statements) (λ nodes p. p) (nodes_are statements)
  node_is (Assignment text target updates right) =
      mapped2 (λ r. are_affine r.subscripts ≡ true) AffineReferences (λ n. is_affine_node n ≡ true) _
      (reference_of target.name target.subscripts) (references_of right.term)
      (λ t rs p q. both (are_affine t.subscripts) (have_affine_subscripts rs) p q) (reference_is target.name target.subscripts) (references_are right.term)

  nodes_are : (xs : Statements) → Answers AffineNodes (nodes_of xs)
  nodes_are NoStatements = refl
  nodes_are (Next first rest) =
      mapped2 (λ n. is_affine_node n ≡ true) AffineNodes AffineNodes _ (node_of first) (nodes_of rest)
      (λ n nodes p q. both (is_affine_node n) (are_affine_nodes nodes) p q) (node_is first) (nodes_are rest)

-- a region that is answered is affine
pub nodes_are_affine : (xs : Statements) (region : Nodes) → nodes_of xs ≡ Ok region → are_affine_nodes region ≡ true
nodes_are_affine xs region e = subst (Answers AffineNodes) e (nodes_are xs)
