-- The assignments of a region from the outside in, for who goes into loops and conditions with what stands round them at hand.
use Rattle.std.proofs.Common.{◌≡◌, ℕ, ◌+◌, ◌*◌, List, [], ◌∷◌, ◌++◌, map, Bool, true, false, ◌&&◌, refl, sym, ◌∙◌, ap, arith, append_assoc, mul_assoc, ℤ}
use Rattle.std.proofs.lemmas.List.{map-append}
use Rattle.clan_extract.specs.Regions.{Expression, Comparison, Condition, Assignment, Node, For, If, Assign, Nodes, Then}
use Rattle.clan_extract.specs.Placements.{Head, Round, Loop, Test, Placed, in_loop, in_test, placed, placed_all, children, children_of_all, loop_names, direction, directions}
use Rattle.clan_extract.specs.Constraints.{Constraint, loop_constraints, joined, parts_of_condition, parts_of}
use Rattle.clan_extract.specs.Counts.{Count, crossed, loop_count, condition_count, rounds_count}
use Rattle.clan_extract.specs.Refusals.{forms_fit, condition_fits, rounds_fit}
use Rattle.clan_extract.specs.RowRanges.{constraints_fit, comparisons_fit, constraints_of_rounds_fit}
use Rattle.clan_extract.proofs.Traces.{head_of}
use Rattle.clan_extract.proofs.TurnSteps.{append_nothing}

-- an assignment inside these betas and these loops and conditions
abbrev pub inside : List ℕ → List Round → Placed → Placed
inside betas rounds p = record { betas = betas ++ p.betas; rounds = rounds ++ p.rounds; assignment = p.assignment }

placed_at : List ℕ → List Round → Assignment → Placed
placed_at betas rounds a = record { betas = betas; rounds = rounds; assignment = a }

module _ (betas : List ℕ) (rounds : List Round) where
  inside_loop : (from : ℕ) (head : Head) (p : Placed) → inside betas rounds (in_loop from head p) ≡ inside (betas ++ from ∷ []) (rounds ++ Loop head ∷ []) p
  unfolding placed_at
  inside_loop from head p =
      ap (λ b. placed_at b (rounds ++ Loop head ∷ p.rounds) p.assignment) (sym (append_assoc betas (from ∷ []) p.betas))
      ∙ ap (λ r. placed_at ((betas ++ from ∷ []) ++ p.betas) r p.assignment) (sym (append_assoc rounds (Loop head ∷ []) p.rounds))

  inside_test : (truth : Bool) (c : Condition) (p : Placed) → inside betas rounds (in_test truth c p) ≡ inside betas (rounds ++ Test truth c ∷ []) p
  unfolding placed_at
  inside_test truth c p = ap (λ r. placed_at (betas ++ p.betas) r p.assignment) (sym (append_assoc rounds (Test truth c ∷ []) p.rounds))

  all_inside_loop : (from : ℕ) (head : Head) (ps : List Placed) → map (inside betas rounds) (map (in_loop from head) ps) ≡ map (inside (betas ++ from ∷ []) (rounds ++ Loop head ∷ [])) ps
  all_inside_loop from head [] = refl
  all_inside_loop from head (p ∷ ps) =
      ap (λ q. q ∷ map (inside betas rounds) (map (in_loop from head) ps)) (inside_loop from head p)
      ∙ ap (λ qs. inside (betas ++ from ∷ []) (rounds ++ Loop head ∷ []) p ∷ qs) (all_inside_loop from head ps)

  all_inside_test : (truth : Bool) (c : Condition) (ps : List Placed) → map (inside betas rounds) (map (in_test truth c) ps) ≡ map (inside betas (rounds ++ Test truth c ∷ [])) ps
  all_inside_test truth c [] = refl
  all_inside_test truth c (p ∷ ps) =
      ap (λ q. q ∷ map (inside betas rounds) (map (in_test truth c) ps)) (inside_test truth c p)
      ∙ ap (λ qs. inside betas (rounds ++ Test truth c ∷ []) p ∷ qs) (all_inside_test truth c ps)

  -- into a loop, into the branches of a condition, at an assignment, and along a list
  pub into_loop : (name : List ℕ) (start : Expression) (comparison : Comparison) (bound : Expression) (step : ℤ) (body : Nodes) (from : ℕ)
      → map (inside betas rounds) (placed from (For name start comparison bound step body))
      ≡ map (inside (betas ++ from ∷ []) (rounds ++ Loop (head_of name start comparison bound step) ∷ [])) (placed_all 0 body)
  into_loop name start comparison bound step body from = all_inside_loop from (head_of name start comparison bound step) (placed_all 0 body)

  pub into_branches : (c : Condition) (then_nodes else_nodes : Nodes) (from : ℕ)
      → map (inside betas rounds) (placed from (If c then_nodes else_nodes))
      ≡ map (inside betas (rounds ++ Test true c ∷ [])) (placed_all from then_nodes) ++ map (inside betas (rounds ++ Test false c ∷ [])) (placed_all (from + children_of_all then_nodes) else_nodes)
  into_branches c then_nodes else_nodes from =
      let ps : List Placed = placed_all from then_nodes in
      let qs : List Placed = placed_all (from + children_of_all then_nodes) else_nodes in
      map-append (inside betas rounds) (map (in_test true c) ps) (map (in_test false c) qs)
      ∙ ap (λ rs. rs ++ map (inside betas rounds) (map (in_test false c) qs)) (all_inside_test true c ps)
      ∙ ap (λ rs. map (inside betas (rounds ++ Test true c ∷ [])) ps ++ rs) (all_inside_test false c qs)

  pub at_assignment : (a : Assignment) (from : ℕ) → map (inside betas rounds) (placed from (Assign a)) ≡ record { betas = betas ++ from ∷ []; rounds = rounds; assignment = a } ∷ []
  unfolding placed_at
  at_assignment a from = ap (λ r. placed_at (betas ++ from ∷ []) r a ∷ []) (append_nothing rounds)

  pub along_list : (first : Node) (rest : Nodes) (from : ℕ)
      → map (inside betas rounds) (placed_all from (Then first rest)) ≡ map (inside betas rounds) (placed from first) ++ map (inside betas rounds) (placed_all (from + children first) rest)
  along_list first rest from = map-append (inside betas rounds) (placed from first) (placed_all (from + children first) rest)

pub inside_nothing : (ps : List Placed) → map (inside [] []) ps ≡ ps
inside_nothing [] = refl
inside_nothing (p ∷ ps) = ap (λ qs. p ∷ qs) (inside_nothing ps)

-- joins are associative, and a part without constraints is neutral
each_nothing : (qs : List (List Constraint)) → map (λ q. [] ++ q) qs ≡ qs
each_nothing [] = refl
each_nothing (q ∷ qs) = ap (λ rs. q ∷ rs) (each_nothing qs)

pub joined_left : (qs : List (List Constraint)) → joined ([] ∷ []) qs ≡ qs
joined_left qs = append_nothing (map (λ q. [] ++ q) qs) ∙ each_nothing qs

pub joined_right : (ps : List (List Constraint)) → joined ps ([] ∷ []) ≡ ps
joined_right [] = refl
joined_right (p ∷ ps) = ap (λ q. q ∷ joined ps ([] ∷ [])) (append_nothing p) ∙ ap (λ qs. p ∷ qs) (joined_right ps)

joined_append : (ps qs rs : List (List Constraint)) → joined (ps ++ qs) rs ≡ joined ps rs ++ joined qs rs
joined_append [] qs rs = refl
joined_append (p ∷ ps) qs rs =
    ap (λ t. map (λ r. p ++ r) rs ++ t) (joined_append ps qs rs) ∙ sym (append_assoc (map (λ r. p ++ r) rs) (joined ps rs) (joined qs rs))

each_append : (p : List Constraint) (qs rs : List (List Constraint)) → map (λ q. p ++ q) (qs ++ rs) ≡ map (λ q. p ++ q) qs ++ map (λ q. p ++ q) rs
each_append p qs rs = map-append (λ q. p ++ q) qs rs

each_each : (p q : List Constraint) (rs : List (List Constraint)) → map (λ r. (p ++ q) ++ r) rs ≡ map (λ r. p ++ r) (map (λ r. q ++ r) rs)
each_each p q [] = refl
each_each p q (r ∷ rs) = ap (λ t. t ∷ map (λ r. (p ++ q) ++ r) rs) (append_assoc p q r) ∙ ap (λ ts. (p ++ (q ++ r)) ∷ ts) (each_each p q rs)

joined_each : (p : List Constraint) (qs rs : List (List Constraint)) → joined (map (λ q. p ++ q) qs) rs ≡ map (λ q. p ++ q) (joined qs rs)
joined_each p [] rs = refl
joined_each p (q ∷ qs) rs =
    ap (λ t. t ++ joined (map (λ q. p ++ q) qs) rs) (each_each p q rs) ∙ ap (λ t. map (λ q. p ++ q) (map (λ r. q ++ r) rs) ++ t) (joined_each p qs rs)
    ∙ sym (each_append p (map (λ r. q ++ r) rs) (joined qs rs))

pub joined_joined : (ps qs rs : List (List Constraint)) → joined (joined ps qs) rs ≡ joined ps (joined qs rs)
joined_joined [] qs rs = refl
joined_joined (p ∷ ps) qs rs =
    joined_append (map (λ q. p ++ q) qs) (joined ps qs) rs
    ∙ ap (λ t. t ++ joined (joined ps qs) rs) (joined_each p qs rs) ∙ ap (λ t. map (λ q. p ++ q) (joined qs rs) ++ t) (joined_joined ps qs rs)

-- what stands further inside
module _ (parameters : List (List ℕ)) where
  pub parts_inside : (loops : List (List ℕ)) (outer inner : List Round)
      → parts_of parameters loops (outer ++ inner) ≡ joined (parts_of parameters loops outer) (parts_of parameters (loops ++ loop_names outer) inner)
  parts_inside loops [] inner = ap (λ l. parts_of parameters l inner) (sym (append_nothing loops)) ∙ sym (joined_left (parts_of parameters (loops ++ []) inner))
  parts_inside loops (Loop head ∷ outer) inner =
      ap (λ t. joined (loop_constraints parameters loops head ∷ []) t)
      (parts_inside (loops ++ head.name ∷ []) outer inner ∙ ap (λ l. joined (parts_of parameters (loops ++ head.name ∷ []) outer) (parts_of parameters l inner)) (append_assoc loops (head.name ∷ []) (loop_names outer)))
      ∙ sym (joined_joined (loop_constraints parameters loops head ∷ []) (parts_of parameters (loops ++ head.name ∷ []) outer) (parts_of parameters (loops ++ head.name ∷ loop_names outer) inner))
  parts_inside loops (Test truth c ∷ outer) inner =
      ap (λ t. joined (parts_of_condition parameters loops truth c) t) (parts_inside loops outer inner)
      ∙ sym (joined_joined (parts_of_condition parameters loops truth c) (parts_of parameters loops outer) (parts_of parameters (loops ++ loop_names outer) inner))

  and_assoc : (a b c : Bool) → (a && (b && c)) ≡ ((a && b) && c)
  and_assoc true b c = refl
  and_assoc false b c = refl

  pub forms_inside : (loops : List (List ℕ)) (outer inner : List Round)
      → rounds_fit parameters loops (outer ++ inner) ≡ (rounds_fit parameters loops outer && rounds_fit parameters (loops ++ loop_names outer) inner)
  forms_inside loops [] inner = ap (λ l. rounds_fit parameters l inner) (sym (append_nothing loops))
  forms_inside loops (Loop head ∷ outer) inner =
      ap (λ t. (forms_fit parameters loops head.start && forms_fit parameters loops head.bound) && t)
      (forms_inside (loops ++ head.name ∷ []) outer inner ∙ ap (λ l. rounds_fit parameters (loops ++ head.name ∷ []) outer && rounds_fit parameters l inner) (append_assoc loops (head.name ∷ []) (loop_names outer)))
      ∙ and_assoc (forms_fit parameters loops head.start && forms_fit parameters loops head.bound) (rounds_fit parameters (loops ++ head.name ∷ []) outer) (rounds_fit parameters (loops ++ head.name ∷ loop_names outer) inner)
  forms_inside loops (Test truth c ∷ outer) inner =
      ap (λ t. condition_fits parameters loops c && t) (forms_inside loops outer inner)
      ∙ and_assoc (condition_fits parameters loops c) (rounds_fit parameters loops outer) (rounds_fit parameters (loops ++ loop_names outer) inner)

  pub rows_inside : (loops : List (List ℕ)) (outer inner : List Round)
      → constraints_of_rounds_fit parameters loops (outer ++ inner) ≡ (constraints_of_rounds_fit parameters loops outer && constraints_of_rounds_fit parameters (loops ++ loop_names outer) inner)
  rows_inside loops [] inner = ap (λ l. constraints_of_rounds_fit parameters l inner) (sym (append_nothing loops))
  rows_inside loops (Loop head ∷ outer) inner =
      ap (λ t. constraints_fit (loop_constraints parameters loops head) && t)
      (rows_inside (loops ++ head.name ∷ []) outer inner ∙ ap (λ l. constraints_of_rounds_fit parameters (loops ++ head.name ∷ []) outer && constraints_of_rounds_fit parameters l inner) (append_assoc loops (head.name ∷ []) (loop_names outer)))
      ∙ and_assoc (constraints_fit (loop_constraints parameters loops head)) (constraints_of_rounds_fit parameters (loops ++ head.name ∷ []) outer) (constraints_of_rounds_fit parameters (loops ++ head.name ∷ loop_names outer) inner)
  rows_inside loops (Test truth c ∷ outer) inner =
      ap (λ t. comparisons_fit parameters loops truth c && t) (rows_inside loops outer inner)
      ∙ and_assoc (comparisons_fit parameters loops truth c) (constraints_of_rounds_fit parameters loops outer) (constraints_of_rounds_fit parameters (loops ++ loop_names outer) inner)

-- names, directions and counts
pub names_inside : (outer inner : List Round) → loop_names (outer ++ inner) ≡ loop_names outer ++ loop_names inner
names_inside [] inner = refl
names_inside (Loop head ∷ outer) inner = ap (λ l. head.name ∷ l) (names_inside outer inner)
names_inside (Test truth c ∷ outer) inner = names_inside outer inner

pub directions_inside : (outer inner : List Round) → directions (outer ++ inner) ≡ directions outer ++ directions inner
directions_inside [] inner = refl
directions_inside (Loop head ∷ outer) inner = ap (λ l. direction head.comparison ∷ l) (directions_inside outer inner)
directions_inside (Test truth c ∷ outer) inner = directions_inside outer inner

count_with : ℕ → ℕ → ℕ → Count
count_with parts rows locals = record { parts = parts; rows = rows; locals = locals }

crossed_crossed : (a b c : Count) → crossed a (crossed b c) ≡ crossed (crossed a b) c
unfolding count_with
crossed_crossed a b c =
    let p : a.parts * (b.parts * c.parts) ≡ (a.parts * b.parts) * c.parts = sym (mul_assoc a.parts b.parts c.parts) in
    let q : a.rows + (b.rows + c.rows) ≡ (a.rows + b.rows) + c.rows = omega arith in
    let r : a.locals + (b.locals + c.locals) ≡ (a.locals + b.locals) + c.locals = omega arith in
    ap (λ z. count_with z (a.rows + (b.rows + c.rows)) (a.locals + (b.locals + c.locals))) p
    ∙ ap (λ z. count_with ((a.parts * b.parts) * c.parts) z (a.locals + (b.locals + c.locals))) q
    ∙ ap (λ z. count_with ((a.parts * b.parts) * c.parts) ((a.rows + b.rows) + c.rows) z) r

crossed_left : (a : Count) → a ≡ crossed (record { parts = 1; rows = 0; locals = 0 }) a
unfolding count_with
crossed_left a =
    let p : a.parts ≡ 1 * a.parts = omega arith in
    let q : a.rows ≡ 0 + a.rows = omega arith in
    let r : a.locals ≡ 0 + a.locals = omega arith in
    ap (λ z. count_with z a.rows a.locals) p ∙ ap (λ z. count_with (1 * a.parts) z a.locals) q ∙ ap (λ z. count_with (1 * a.parts) (0 + a.rows) z) r

pub counts_inside : (outer inner : List Round) → rounds_count (outer ++ inner) ≡ crossed (rounds_count outer) (rounds_count inner)
counts_inside [] inner = crossed_left (rounds_count inner)
counts_inside (Loop head ∷ outer) inner = ap (λ t. crossed (loop_count head) t) (counts_inside outer inner) ∙ crossed_crossed (loop_count head) (rounds_count outer) (rounds_count inner)
counts_inside (Test truth c ∷ outer) inner = ap (λ t. crossed (condition_count truth c) t) (counts_inside outer inner) ∙ crossed_crossed (condition_count truth c) (rounds_count outer) (rounds_count inner)
