-- A walk takes the assignments of a region in the order of the text, each with what stands round it.
use Rattle.std.proofs.Common.{◌≡◌, ℕ, ◌+◌, ◌≤◌, List, [], ◌∷◌, ◌++◌, length, map, Bool, true, false, refl, sym, ◌∙◌, ap, arith, ℤ}
use Rattle.std.specs.Prelude.{min}
use Rattle.std.proofs.lemmas.List.{length-append, length-map, map_push}
use Rattle.clan_extract.specs.Regions.{Expression, Comparison, IsLess, IsLessOrEqual, IsGreater, IsGreaterOrEqual, IsEqual, IsUnequal, Condition, Node, For, If, Block, Assign, Nodes, NoNodes, Then}
use Rattle.clan_extract.specs.Placements.{Head, Round, Loop, Test, Placed, placed, placed_all, children, children_of_all, one_if_any, loop_names, direction, directions, in_loop, in_test}
use Rattle.clan_extract.proofs.Traces.{head_of}
use Rattle.clan_extract.proofs.TurnSteps.{append_nothing}
use Rattle.clan_extract.proofs.OutsideIn.{inside, into_loop, into_branches, at_assignment, along_list, names_inside, directions_inside}
use Rattle.clan_rows.specs.Layers.{LayerData, loop_layer, condition_layer, crossed_layers}
use Rattle.clan_walk.specs.declared.turns.Turn.{Turn}
use Rattle.clan_walk.specs.Walk.{State, last_or, without_last, no_layer, sign, direction_by, next_behind, entered_loop, left_loop, entered_branch, left_branch, walked, walked_all}
use Rattle.clan_walk.proofs.Around.{rounds_layer, loop_further, test_further}
use Rattle.clan_walk.proofs.Kept.{without_end, end_is}
use Rattle.clan_walk.proofs.Takings.{Taken, betas_of, take_all, take_append, take_number, place}
use Rattle.clan_walk.proofs.Assignments.{IsRound, assignment_is}

sign_is : (comparison : Comparison) → sign (direction_by comparison) ≡ direction comparison
sign_is IsLess = refl
sign_is IsLessOrEqual = refl
sign_is IsGreater = refl
sign_is IsGreaterOrEqual = refl
sign_is IsEqual = refl
sign_is IsUnequal = refl

pub next_at_end : (next : ℕ) (turns : List Turn) (t : Turn) → next_behind next (turns ++ t ∷ []) ≡ t.beta + min next 1
next_at_end next [] t = refl
next_at_end next (u ∷ []) t = refl
next_at_end next (u ∷ (v ∷ turns)) t = next_at_end next (v ∷ turns) t

-- what has no assignment has no children
any_map : (f : Placed → Placed) (ps : List Placed) → one_if_any (map f ps) ≡ one_if_any ps
any_map f [] = refl
any_map f (p ∷ ps) = refl

any_append : (ps qs : List Placed) → min (one_if_any ps + one_if_any qs) 1 ≡ one_if_any (ps ++ qs)
any_append [] [] = refl
any_append [] (q ∷ qs) = refl
any_append (p ∷ ps) [] = refl
any_append (p ∷ ps) (q ∷ qs) = refl

at_most_one : (ps : List Placed) → min (one_if_any ps) 1 ≡ one_if_any ps
at_most_one [] = refl
at_most_one (p ∷ ps) = refl

sum_of_two : (c d : ℕ) (ps qs : List Placed) → min c 1 ≡ one_if_any ps → min d 1 ≡ one_if_any qs → min (c + d) 1 ≡ one_if_any (ps ++ qs)
sum_of_two c d ps qs e f = omega (arith, e, f, any_append ps qs)

mutual
  some_children : (node : Node) (from : ℕ) → min (children node) 1 ≡ one_if_any (placed from node)
  some_children (For name start comparison bound step body) from =
      at_most_one (placed_all 0 body) ∙ sym (any_map (in_loop from (head_of name start comparison bound step)) (placed_all 0 body))
  some_children (If condition then_nodes else_nodes) from =
      sum_of_two (children_of_all then_nodes) (children_of_all else_nodes) (map (in_test true condition) (placed_all from then_nodes)) (map (in_test false condition) (placed_all (from + children_of_all then_nodes) else_nodes))
      (some_children_of_all then_nodes from ∙ sym (any_map (in_test true condition) (placed_all from then_nodes)))
      (some_children_of_all else_nodes (from + children_of_all then_nodes) ∙ sym (any_map (in_test false condition) (placed_all (from + children_of_all then_nodes) else_nodes)))
  some_children (Block nodes) from = some_children_of_all nodes from
  some_children (Assign a) from = refl

  some_children_of_all : (nodes : Nodes) (from : ℕ) → min (children_of_all nodes) 1 ≡ one_if_any (placed_all from nodes)
  some_children_of_all NoNodes from = refl
  some_children_of_all (Then first rest) from =
      sum_of_two (children first) (children_of_all rest) (placed from first) (placed_all (from + children first) rest) (some_children first from) (some_children_of_all rest (from + children first))

module _ (parameters arrays : List (List ℕ)) where
  -- what a statement and a list of statements are walked to
  abbrev at : List Round → List Turn → ℕ → List LayerData → Taken → State
  at rounds turns next layers out = place parameters arrays (loop_names rounds) turns next layers out

  abbrev taken : List Round → List Turn → List Placed → Taken → Taken
  taken rounds turns ps out = take_all parameters arrays (map (inside (betas_of turns) rounds) ps) out

  taken_number : (rounds : List Round) (turns : List Turn) (ps : List Placed) (out : Taken) → (taken rounds turns ps out).number ≡ out.number + length ps
  taken_number rounds turns ps out = take_number parameters arrays (map (inside (betas_of turns) rounds) ps) out ∙ ap (λ n. out.number + n) (length-map ps (inside (betas_of turns) rounds))

  -- into a loop, and out of it
  module _ (rounds : List Round) (turns : List Turn) (next : ℕ) (layers : List LayerData) (out : Taken) (round : IsRound parameters arrays rounds turns layers) where
    module _ (name : List ℕ) (start : Expression) (comparison : Comparison) (bound : Expression) (step : ℤ) (body : Nodes) where
      abbrev head : Head
      head = head_of name start comparison bound step

      abbrev in_rounds : List Round
      in_rounds = rounds ++ Loop head ∷ []

      abbrev turn : Turn
      turn = record { direction = direction_by comparison; beta = next }

      abbrev in_turns : List Turn
      in_turns = turns ++ turn ∷ []

      abbrev in_layers : List LayerData
      in_layers = layers ++ rounds_layer parameters in_rounds ∷ []

      names_are : loop_names rounds ++ name ∷ [] ≡ loop_names in_rounds
      names_are = sym (names_inside rounds (Loop head ∷ []))

      layer_is : crossed_layers (last_or no_layer layers) (loop_layer parameters (loop_names rounds) head) ≡ rounds_layer parameters in_rounds
      layer_is = ap (λ l. crossed_layers l (loop_layer parameters (loop_names rounds) head)) round.around_is ∙ loop_further parameters rounds head

      entered : entered_loop name (direction_by comparison) (loop_layer parameters (loop_names rounds) head) (at rounds turns next layers out) ≡ at in_rounds in_turns 0 in_layers out
      entered =
          ap (λ ns. place parameters arrays ns in_turns 0 (layers ++ crossed_layers (last_or no_layer layers) (loop_layer parameters (loop_names rounds) head) ∷ []) out) names_are
          ∙ ap (λ l. place parameters arrays (loop_names in_rounds) in_turns 0 (layers ++ l ∷ []) out) layer_is

      loop_round : IsRound parameters arrays in_rounds in_turns in_layers
      loop_round = record {
        signs_are = map_push (λ t. sign t.direction) turns turn ∙ ap (λ ds. ds ++ sign (direction_by comparison) ∷ []) round.signs_are
            ∙ ap (λ d. directions rounds ++ d ∷ []) (sign_is comparison) ∙ sym (directions_inside rounds (Loop head ∷ []));
        around_is = end_is no_layer layers (rounds_layer parameters in_rounds);
      }

      left : (n : ℕ) (o : Taken) → left_loop (at in_rounds in_turns n in_layers o) ≡ at rounds turns (next + min n 1) layers o
      left n o =
          ap (λ ns. place parameters arrays ns (without_last in_turns) (next_behind n in_turns) (without_last in_layers) o) (ap without_last (sym names_are) ∙ without_end (loop_names rounds) name)
          ∙ ap (λ ts. place parameters arrays (loop_names rounds) ts (next_behind n in_turns) (without_last in_layers) o) (without_end turns turn)
          ∙ ap (λ m. place parameters arrays (loop_names rounds) turns m (without_last in_layers) o) (next_at_end n turns turn)
          ∙ ap (λ ls. place parameters arrays (loop_names rounds) turns (next + min n 1) ls o) (without_end layers (rounds_layer parameters in_rounds))

      loop_is : walked_all body (at in_rounds in_turns 0 in_layers out) ≡ at in_rounds in_turns (0 + children_of_all body) in_layers (taken in_rounds in_turns (placed_all 0 body) out)
          → walked (For name start comparison bound step body) (at rounds turns next layers out)
          ≡ at rounds turns (next + children (For name start comparison bound step body)) layers (taken rounds turns (placed next (For name start comparison bound step body)) out)
      loop_is walk =
          ap (λ s. left_loop (walked_all body s)) entered
          ∙ ap left_loop walk
          ∙ left (0 + children_of_all body) (taken in_rounds in_turns (placed_all 0 body) out)
          ∙ ap (λ n. at rounds turns (next + n) layers (taken in_rounds in_turns (placed_all 0 body) out)) count
          ∙ ap (λ bs. at rounds turns (next + one_if_any (placed_all 0 body)) layers (take_all parameters arrays (map (inside bs in_rounds) (placed_all 0 body)) out)) (map_push (λ t. t.beta) turns turn)
          ∙ ap (λ ps. at rounds turns (next + one_if_any (placed_all 0 body)) layers (take_all parameters arrays ps out)) (sym (into_loop (betas_of turns) rounds name start comparison bound step body next))
        where
          count : min (0 + children_of_all body) 1 ≡ one_if_any (placed_all 0 body)
          count = omega (arith, some_children_of_all body 0)

    -- into a branch, and out of it
    module _ (truth : Bool) (c : Condition) (nodes : Nodes) where
      abbrev branch_rounds : List Round
      branch_rounds = rounds ++ Test truth c ∷ []

      abbrev branch_layers : List LayerData
      branch_layers = layers ++ rounds_layer parameters branch_rounds ∷ []

      same_names : loop_names rounds ≡ loop_names branch_rounds
      same_names = sym (names_inside rounds (Test truth c ∷ []) ∙ append_nothing (loop_names rounds))

      branch_entered : entered_branch (condition_layer parameters (loop_names rounds) truth c) (at rounds turns next layers out) ≡ at branch_rounds turns next branch_layers out
      branch_entered =
          ap (λ l. place parameters arrays (loop_names rounds) turns next (layers ++ l ∷ []) out)
          (ap (λ l. crossed_layers l (condition_layer parameters (loop_names rounds) truth c)) round.around_is ∙ test_further parameters rounds truth c)
          ∙ ap (λ ns. place parameters arrays ns turns next branch_layers out) same_names

      branch_round : IsRound parameters arrays branch_rounds turns branch_layers
      branch_round = record {
        signs_are = round.signs_are ∙ sym (directions_inside rounds (Test truth c ∷ []) ∙ append_nothing (directions rounds));
        around_is = end_is no_layer layers (rounds_layer parameters branch_rounds);
      }

      branch_left : (n : ℕ) (o : Taken) → left_branch (at branch_rounds turns n branch_layers o) ≡ at rounds turns n layers o
      branch_left n o =
          ap (λ ns. place parameters arrays ns turns n (without_last branch_layers) o) (sym same_names)
          ∙ ap (λ ls. place parameters arrays (loop_names rounds) turns n ls o) (without_end layers (rounds_layer parameters branch_rounds))

      branch_is : walked_all nodes (at branch_rounds turns next branch_layers out) ≡ at branch_rounds turns (next + children_of_all nodes) branch_layers (taken branch_rounds turns (placed_all next nodes) out)
          → left_branch (walked_all nodes (entered_branch (condition_layer parameters (loop_names rounds) truth c) (at rounds turns next layers out)))
          ≡ at rounds turns (next + children_of_all nodes) layers (taken branch_rounds turns (placed_all next nodes) out)
      branch_is walk =
          ap (λ s. left_branch (walked_all nodes s)) branch_entered ∙ ap left_branch walk
          ∙ branch_left (next + children_of_all nodes) (taken branch_rounds turns (placed_all next nodes) out)

  mutual
    pub walk_is : (node : Node) (rounds : List Round) (turns : List Turn) (next : ℕ) (layers : List LayerData) (out : Taken) → IsRound parameters arrays rounds turns layers
        → out.number + length (placed next node) ≤ 1024
        → walked node (at rounds turns next layers out) ≡ at rounds turns (next + children node) layers (taken rounds turns (placed next node) out)
    walk_is (For name start comparison bound step body) rounds turns next layers out round few =
        loop_is rounds turns next layers out round name start comparison bound step body
        (walk_all_is body (in_rounds rounds turns next layers out round name start comparison bound step body) (in_turns rounds turns next layers out round name start comparison bound step body) 0
        (in_layers rounds turns next layers out round name start comparison bound step body) out (loop_round rounds turns next layers out round name start comparison bound step body)
        (omega (arith, few, length-map (placed_all 0 body) (in_loop next (head_of name start comparison bound step)))))
    walk_is (If condition then_nodes else_nodes) rounds turns next layers out round few =
        let ps : List Placed = placed_all next then_nodes in
        let qs : List Placed = placed_all (next + children_of_all then_nodes) else_nodes in
        let out_then : Taken = taken (rounds ++ Test true condition ∷ []) turns ps out in
        let total : out.number + (length ps + length qs) ≤ 1024 =
        omega (arith, few, length-append (map (in_test true condition) ps) (map (in_test false condition) qs), length-map ps (in_test true condition), length-map qs (in_test false condition)) in
        let counted : out_then.number ≡ out.number + length ps = taken_number (rounds ++ Test true condition ∷ []) turns ps out in
        ap (λ s. left_branch (walked_all else_nodes (entered_branch (condition_layer parameters (loop_names rounds) false condition) s)))
        (branch_is rounds turns next layers out round true condition then_nodes
        (walk_all_is then_nodes (rounds ++ Test true condition ∷ []) turns next (branch_layers rounds turns next layers out round true condition then_nodes) out
        (branch_round rounds turns next layers out round true condition then_nodes) (omega (arith, total))))
        ∙ branch_is rounds turns (next + children_of_all then_nodes) layers out_then round false condition else_nodes
        (walk_all_is else_nodes (rounds ++ Test false condition ∷ []) turns (next + children_of_all then_nodes) (branch_layers rounds turns (next + children_of_all then_nodes) layers out_then round false condition else_nodes) out_then
        (branch_round rounds turns (next + children_of_all then_nodes) layers out_then round false condition else_nodes) (omega (arith, total, counted)))
        ∙ ap (λ n. at rounds turns n layers (taken (rounds ++ Test false condition ∷ []) turns qs out_then)) (next_is next (children_of_all then_nodes) (children_of_all else_nodes))
        ∙ ap (λ o. at rounds turns (next + (children_of_all then_nodes + children_of_all else_nodes)) layers o)
        (sym (take_append parameters arrays (map (inside (betas_of turns) (rounds ++ Test true condition ∷ [])) ps) (map (inside (betas_of turns) (rounds ++ Test false condition ∷ [])) qs) out)
        ∙ ap (λ rs. take_all parameters arrays rs out) (sym (into_branches (betas_of turns) rounds condition then_nodes else_nodes next)))
      where
        next_is : (a b c : ℕ) → (a + b) + c ≡ a + (b + c)
        next_is a b c = omega arith
    walk_is (Block nodes) rounds turns next layers out round few = walk_all_is nodes rounds turns next layers out round few
    walk_is (Assign a) rounds turns next layers out round few =
        assignment_is parameters arrays rounds turns next layers out round a few
        ∙ ap (λ ps. at rounds turns (next + 1) layers (take_all parameters arrays ps out)) (sym (at_assignment (betas_of turns) rounds a next))

    pub walk_all_is : (nodes : Nodes) (rounds : List Round) (turns : List Turn) (next : ℕ) (layers : List LayerData) (out : Taken) → IsRound parameters arrays rounds turns layers
        → out.number + length (placed_all next nodes) ≤ 1024
        → walked_all nodes (at rounds turns next layers out) ≡ at rounds turns (next + children_of_all nodes) layers (taken rounds turns (placed_all next nodes) out)
    walk_all_is NoNodes rounds turns next layers out round few = ap (λ n. at rounds turns n layers out) (nothing_more next)
      where
        nothing_more : (n : ℕ) → n ≡ n + 0
        nothing_more n = omega arith
    walk_all_is (Then first rest) rounds turns next layers out round few =
        let ps : List Placed = placed next first in
        let qs : List Placed = placed_all (next + children first) rest in
        let out_first : Taken = taken rounds turns ps out in
        let total : out.number + (length ps + length qs) ≤ 1024 = omega (arith, few, length-append ps qs) in
        let counted : out_first.number ≡ out.number + length ps = taken_number rounds turns ps out in
        ap (λ s. walked_all rest s) (walk_is first rounds turns next layers out round (omega (arith, total)))
        ∙ walk_all_is rest rounds turns (next + children first) layers out_first round (omega (arith, total, counted))
        ∙ ap (λ n. at rounds turns n layers (taken rounds turns qs out_first)) (next_is next (children first) (children_of_all rest))
        ∙ ap (λ o. at rounds turns (next + (children first + children_of_all rest)) layers o)
        (sym (take_append parameters arrays (map (inside (betas_of turns) rounds) ps) (map (inside (betas_of turns) rounds) qs) out)
        ∙ ap (λ rs. take_all parameters arrays rs out) (sym (along_list (betas_of turns) rounds first rest next)))
      where
        next_is : (a b c : ℕ) → (a + b) + c ≡ a + (b + c)
        next_is a b c = omega arith
