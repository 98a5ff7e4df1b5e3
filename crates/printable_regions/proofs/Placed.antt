-- The assignments of sound statements can be printed, and where there is one, there is an array.
use Rattle.std.proofs.Common.{◌≡◌, inl, inr, ℕ, zero, suc, ◌+◌, ◌≤◌, List, [], ◌∷◌, ◌++◌, length, map, Bool, true, false, refl, sym, subst, arith, Some, Result, Ok, Err}
use Rattle.std.specs.Prelude.{ℤ}
use Rattle.scop_core.specs.Sequences.{In}
use Rattle.scop_core.specs.Printable.{is_body_line}
use Rattle.clan_extract.specs.Regions.{Expression, Comparison, Condition, Reference, Node, For, If, Assign, Nodes, is_among}
use Rattle.clan_extract.specs.Placements.{Head, Placed, in_loop, in_test, placed, placed_all, children, children_of_all, loop_names}
use Rattle.clan_extract.specs.Names.{ArrayOf, Occurrence, is_array_role, role_with, plain_role, role_of, arrays_in}
use Rattle.clan_extract.specs.ReadBack.{IsPrintablePlaced}
use Rattle.clan_extract.proofs.Members.{in_left, in_right, in_append, of_map}
use Rattle.clan_extract.proofs.NameRoles.{names_listed}
use Rattle.region_trees.specs.Statements.{Statement, Loop, Branch, Block, Assignment, Statements, NoStatements, Next}
use Rattle.region_trees.specs.Regions.{passed, result_map, result_map2, is_step, node_of, nodes_of, reference_of, references_of}
use Rattle.region_trees.specs.Occurrences.{count, occurrences_of, occurrences_left, occurrences_in, occurrences_in_all}
use Rattle.region_trees.proofs.Affine.{Answers}
use Rattle.c_lexer.specs.TokenForms.{is_name}
use Rattle.printable_regions.specs.Sound.{is_named, is_sound, are_sound}
use Rattle.printable_regions.proofs.Bytes.{and_first, and_second, third, fourth, both_hold, are_c_names, c_names_are_names, names_end_no_body}

any : {A : Type 0} (x : Result A ℕ) → Answers (λ a. Unit {0}) x
any (Ok a) = tt
any (Err at) = tt

mapped : {A B : Type 0} (P : A → Type 0) (Q : B → Type 0) (f : A → B) (x : Result A ℕ) → ((a : A) → P a → Q (f a)) → Answers P x → Answers Q (result_map f x)
mapped P Q f (Ok a) g p = g a p
mapped P Q f (Err at) g p = tt

mapped2 : {A B C : Type 0} (P : A → Type 0) (Q : B → Type 0) (R : C → Type 0) (f : A → B → C) (x : Result A ℕ) (y : Result B ℕ)
    → ((a : A) (b : B) → P a → Q b → R (f a b)) → Answers P x → Answers Q y → Answers R (result_map2 f x y)
mapped2 P Q R f (Ok a) (Ok b) g p q = g a b p q
mapped2 P Q R f (Ok a) (Err at) g p q = tt
mapped2 P Q R f (Err at) y g p q = tt

-- ---- each assignment

-- an assignment inside so many loops at most, whose text and whose loops' names can be printed
record Fine (loops : ℕ) (p : Placed) : Type 0 where
  text : is_body_line p.assignment.text ≡ true
  names : are_c_names (loop_names p.rounds) ≡ true
  depth : length (loop_names p.rounds) ≤ loops

abbrev FineNode : ℕ → Node → Type 0
FineNode loops n = (from : ℕ) (p : Placed) → In p (placed from n) → Fine loops p

abbrev FineNodes : ℕ → Nodes → Type 0
FineNodes loops ns = (from : ℕ) (p : Placed) → In p (placed_all from ns) → Fine loops p

in_one_loop : (loops from : ℕ) (head : Head) (p : Placed) → is_name head.name ≡ true → Fine loops p → Fine (suc loops) (in_loop from head p)
in_one_loop loops from head p h f = record { text = f.text; names = both_hold _ _ h f.names; depth = let d = f.depth in omega arith }

in_one_test : (loops : ℕ) (truth : Bool) (c : Condition) (p : Placed) → Fine loops p → Fine loops (in_test truth c p)
in_one_test loops truth c p f = record { text = f.text; names = f.names; depth = f.depth }

mapped_fine : (loops more : ℕ) (f : Placed → Placed) (ps : List Placed) → ((p : Placed) → Fine loops p → Fine more (f p))
    → ((p : Placed) → In p ps → Fine loops p) → (q : Placed) → In q (map f ps) → Fine more q
mapped_fine loops more f ps g all q i = let r = of_map f q ps i in subst (Fine more) r.2 (g r.0 (all r.0 r.1))

loop_fine : (loops : ℕ) (name : List ℕ) (s : Expression) (c : Comparison) (b : Expression) (z : ℤ) (body : Nodes) → is_name name ≡ true
    → FineNodes loops body → FineNode (suc loops) (For name s c b z body)
loop_fine loops name s c b z body h f from p i =
    let head : Head = record { name = name; start = s; comparison = c; bound = b; step = z } in
    mapped_fine loops (suc loops) (in_loop from head) (placed_all 0 body) (λ q g. in_one_loop loops from head q h g) (f 0) p i

branch_fine : (loops : ℕ) (c : Condition) (t e : Nodes) → FineNodes loops t → FineNodes loops e → FineNode loops (If c t e)
branch_fine loops c t e f g from p i = elim (in_append p (map (in_test true c) (placed_all from t)) _ i) [
  | inl j ↦ mapped_fine loops loops (in_test true c) (placed_all from t) (λ q h. in_one_test loops true c q h) (f from) p j
  | inr j ↦ mapped_fine loops loops (in_test false c) (placed_all (from + children_of_all t) e) (λ q h. in_one_test loops false c q h) (g (from + children_of_all t)) p j
]

assign_fine : (loops : ℕ) (text : List ℕ) (updates : Bool) (t : Reference) (rs : List Reference) → is_body_line text ≡ true
    → FineNode loops (Assign (record { text = text; target = t; updates = updates; right = rs }))
assign_fine loops text updates t rs h from p (inl e) = subst (Fine loops) e (record { text = h; names = refl; depth = omega arith })
assign_fine loops text updates t rs h from p (inr i) = absurd i

mutual
  node_fine : (loops : ℕ) (x : Statement) → is_sound loops x ≡ true → Answers (FineNode loops) (node_of x)
  node_fine zero (Loop name at start comparison bound step step_at body) h = absurd (cc)
  node_fine (suc loops) (Loop name at start comparison bound step step_at body) h =
      let q4 = fourth (is_name name) (is_named start.term) (is_named bound.term) (are_sound loops body) h in
      mapped2 (λ ends. Unit {0}) (λ (r : ℤ × Nodes). FineNodes loops r.1) (FineNode (suc loops)) _ _ _
      (λ ends r p q. loop_fine loops name ends.0 comparison ends.1 r.0 r.1 q4.0 q)
      (any _)
      (mapped2 (λ z. Unit {0}) (FineNodes loops) (λ (r : ℤ × Nodes). FineNodes loops r.1) _ (passed (is_step comparison) step_at (Some step)) (nodes_of body)
      (λ z nodes p q. q) (any _) (nodes_fine loops body q4.3))
  node_fine loops (Branch condition then_statements else_statements) h =
      let q3 = third (is_named condition.term) (are_sound loops then_statements) (are_sound loops else_statements) h in
      mapped2 (λ c. Unit {0}) (λ (b : Nodes × Nodes). FineNodes loops b.0 × FineNodes loops b.1) (FineNode loops) _ _ _
      (λ c b p q. branch_fine loops c b.0 b.1 q.0 q.1) (any _)
      (mapped2 (FineNodes loops) (FineNodes loops) (λ (b : Nodes × Nodes). FineNodes loops b.0 × FineNodes loops b.1) _ (nodes_of then_statements) (nodes_of else_statements)
      (λ t e p q. (p, q)) (nodes_fine loops then_statements q3.1) (nodes_fine loops else_statements q3.2))
  node_fine loops (Block statements) h = mapped (FineNodes loops) (FineNode loops) _ (nodes_of statements) (λ nodes p. p) (nodes_fine loops statements h)
  node_fine loops (Assignment text target updates right) h =
      mapped2 (λ t. Unit {0}) (λ rs. Unit {0}) (FineNode loops) _ (reference_of target.name target.subscripts) (references_of right.term)
      (λ t rs p q. assign_fine loops text updates t rs (and_first (is_body_line text) _ h)) (any _) (any _)

  nodes_fine : (loops : ℕ) (xs : Statements) → are_sound loops xs ≡ true → Answers (FineNodes loops) (nodes_of xs)
  nodes_fine loops NoStatements h = λ from p i. absurd i
  nodes_fine loops (Next first rest) h =
      mapped2 (FineNode loops) (FineNodes loops) (FineNodes loops) _ (node_of first) (nodes_of rest)
      (λ n nodes f g from p i. elim (in_append p (placed from n) _ i) [ inl j ↦ f from p j | inr j ↦ g (from + children n) p j ])
      (node_fine loops first (and_first _ _ h)) (nodes_fine loops rest (and_second _ _ h))

fine_is_printable : (p : Placed) → Fine 12 p → IsPrintablePlaced p
fine_is_printable p f = record {
  body = both_hold _ _ (both_hold _ _ (c_names_are_names (loop_names p.rounds) f.names) (names_end_no_body (loop_names p.rounds) f.names)) f.text;
  depth = f.depth;
}

pub each_is_printable : (xs : Statements) (ns : Nodes) → are_sound 12 xs ≡ true → nodes_of xs ≡ Ok ns → (p : Placed) → In p (placed_all 0 ns) → IsPrintablePlaced p
each_is_printable xs ns h e p i = fine_is_printable p (subst (Answers (FineNodes 12)) e (nodes_fine 12 xs h) 0 p i)

-- ---- some array

-- an occurrence is of an array by itself
abbrev is_array : Occurrence → Type 0
is_array o = (k : ℕ) × (o.role ≡ Some (ArrayOf k))

abbrev HasArray : List Occurrence → Type 0
HasArray os = (o : Occurrence) × In o os × is_array o

abbrev OfNode : List Occurrence → Node → Type 0
OfNode os n = (from : ℕ) (p : Placed) → In p (placed from n) → HasArray os

abbrev OfNodes : List Occurrence → Nodes → Type 0
OfNodes os ns = (from : ℕ) (p : Placed) → In p (placed_all from ns) → HasArray os

on_left : (xs ys : List Occurrence) → HasArray xs → HasArray (xs ++ ys)
on_left xs ys h = (h.0, in_left h.0 xs ys h.1, h.2)

on_right : (xs ys : List Occurrence) → HasArray ys → HasArray (xs ++ ys)
on_right xs ys h = (h.0, in_right h.0 xs ys h.1, h.2)

behind : (x : Occurrence) (xs : List Occurrence) → HasArray xs → HasArray (x ∷ xs)
behind x xs h = (h.0, inr h.1, h.2)

target_is : (scope : List (List ℕ)) (k : ℕ) (name : List ℕ) (at : ℕ) (os : List Occurrence)
    → HasArray (record { name = name; role = Some (ArrayOf k); shadows = false; at = at } ∷ os)
target_is scope k name at os = (_, inl refl, (k, refl))

mutual
  node_has : (scope : List (List ℕ)) (x : Statement) → Answers (OfNode (occurrences_in scope x)) (node_of x)
  node_has scope (Loop name at start comparison bound step step_at body) =
      let s : List Occurrence = occurrences_of true scope start.term in
      let b : List Occurrence = occurrences_of true scope bound.term in
      let os : List Occurrence = occurrences_in_all (name ∷ scope) body in
      mapped2 (λ ends. Unit {0}) (λ (r : ℤ × Nodes). OfNodes os r.1) (OfNode (occurrences_in scope (Loop name at start comparison bound step step_at body))) _ _ _
      (λ ends r p q from x i. behind _ _ (on_right s (b ++ os) (on_right b os (let m = of_map (in_loop from _) x (placed_all 0 r.1) i in q 0 m.0 m.1)))) (any _)
      (mapped2 (λ z. Unit {0}) (OfNodes os) (λ (r : ℤ × Nodes). OfNodes os r.1) _ (passed (is_step comparison) step_at (Some step)) (nodes_of body)
      (λ z nodes p q. q) (any _) (nodes_have (name ∷ scope) body))
  node_has scope (Branch condition then_statements else_statements) =
      let c : List Occurrence = occurrences_of true scope condition.term in
      let os : List Occurrence = occurrences_in_all scope then_statements in
      let qs : List Occurrence = occurrences_in_all scope else_statements in
      mapped2 (λ c. Unit {0}) (λ (b : Nodes × Nodes). OfNodes os b.0 × OfNodes qs b.1) (OfNode (c ++ (os ++ qs))) _ _ _
      (λ d b p q from x i. elim (in_append x (map (in_test true d) (placed_all from b.0)) _ i) [
        | inl j ↦ (let m = of_map (in_test true d) x (placed_all from b.0) j in on_right c (os ++ qs) (on_left os qs (q.0 from m.0 m.1)))
        | inr j ↦ (let m = of_map (in_test false d) x (placed_all (from + children_of_all b.0) b.1) j in on_right c (os ++ qs) (on_right os qs (q.1 (from + children_of_all b.0) m.0 m.1)))
      ]) (any _)
      (mapped2 (OfNodes os) (OfNodes qs) (λ (b : Nodes × Nodes). OfNodes os b.0 × OfNodes qs b.1) _ (nodes_of then_statements) (nodes_of else_statements)
      (λ t e p q. (p, q)) (nodes_have scope then_statements) (nodes_have scope else_statements))
  node_has scope (Block statements) =
      mapped (OfNodes (occurrences_in_all scope statements)) (OfNode (occurrences_in_all scope statements)) _ (nodes_of statements) (λ nodes p. p) (nodes_have scope statements)
  node_has scope (Assignment text target updates right) =
      mapped2 (λ t. Unit {0}) (λ rs. Unit {0}) (OfNode (occurrences_left scope target ++ occurrences_of false scope right.term)) _
      (reference_of target.name target.subscripts) (references_of right.term)
      (λ t rs p q from x i. target_is scope (count target.subscripts) target.name target.at _) (any _) (any _)

  nodes_have : (scope : List (List ℕ)) (xs : Statements) → Answers (OfNodes (occurrences_in_all scope xs)) (nodes_of xs)
  nodes_have scope NoStatements = λ from p i. absurd i
  nodes_have scope (Next first rest) =
      let os : List Occurrence = occurrences_in scope first in
      let qs : List Occurrence = occurrences_in_all scope rest in
      mapped2 (OfNode os) (OfNodes qs) (OfNodes (os ++ qs)) _ (node_of first) (nodes_of rest)
      (λ n nodes f g from p i. elim (in_append p (placed from n) _ i) [ inl j ↦ on_left os qs (f from p j) | inr j ↦ on_right os qs (g (from + children n) p j) ])
      (node_has scope first) (nodes_have scope rest)

array_role : (all : List Occurrence) (o : Occurrence) → is_array o → is_array_role (role_of all o) ≡ true
array_role all o h = subst (λ r. is_array_role (role_with (plain_role all o.name) r) ≡ true) (sym h.1) refl

some : (name : List ℕ) (names : List (List ℕ)) → is_among name names ≡ true → 1 ≤ length names
some name [] h = absurd (cc)
some name (x ∷ xs) h = omega arith

pub some_array : (xs : Statements) (ns : Nodes) → nodes_of xs ≡ Ok ns → (p : Placed) → In p (placed_all 0 ns) → 1 ≤ length (arrays_in (occurrences_in_all [] xs))
some_array xs ns e p i =
    let all : List Occurrence = occurrences_in_all [] xs in
    let h : HasArray all = subst (Answers (OfNodes all)) e (nodes_have [] xs) 0 p i in
    some h.0.name (arrays_in all) ((names_listed all h.0 h.1).1 (array_role all h.0 h.2))
