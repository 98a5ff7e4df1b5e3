-- What a walk may leave out: statements without assignments, and all that stands behind the last statement that is made.
use Rattle.std.proofs.Common.{◌≡◌, ℕ, ◌+◌, ◌≤◌, ◌<◌, List, length, Bool, true, false, ◌&&◌, cond, refl, sym, ◌∙◌, ap, subst, arith}
use Rattle.std.specs.Prelude.{min, nat_le, nat_lt, is_none, None}
use Rattle.std.proofs.lemmas.Bool.Decides.{Decides-ltb}
use Rattle.suite_base.specs.Limits.{max_parameters, max_arrays}
use Rattle.clan_extract.specs.Regions.{Node, For, If, Block, Assign, Nodes, NoNodes, Then}
use Rattle.clan_rows.specs.Layers.{LayerData, loop_layer, condition_layer, crossed_layers}
use Rattle.clan_rows.proofs.LayerLaws.{false_is_not_true}
use Rattle.clan_walk.specs.declared.turns.Direction.{Direction}
use Rattle.clan_walk.specs.Laws.{assignments, assignments_in, StaysClosed, WalkSkipsEmpty, WalkStaysClosed}
use Rattle.clan_walk.specs.Walk.{State, around, no_accesses, is_open, entered_loop, left_loop, entered_branch, left_branch, direction_by, counted, refused, walked, walked_all}
use Rattle.clan_walk.proofs.Kept.{without_end}
use Rattle.clan_walk.proofs.Placed.{skipped, skips, same_place}
use Rattle.clan_walk.proofs.Walks.{next_at_end}

-- into a loop or branch and out of it again
through_loop : (name : List ℕ) (direction : Direction) (l : LayerData) (s : State) → s.accesses ≡ no_accesses → left_loop (entered_loop name direction l s) ≡ s
through_loop name direction l s e =
    same_place s _ _ _ _ no_accesses s.loops s.turns s.next s.layers s.accesses
    (without_end s.loops name) (without_end s.turns (record { direction = direction; beta = s.next }))
    (next_at_end 0 s.turns (record { direction = direction; beta = s.next }) ∙ zero_more s.next)
    (without_end s.layers (crossed_layers (around s) l)) (sym e)
  where
    zero_more : (n : ℕ) → n + min 0 1 ≡ n
    zero_more n = omega arith

through_branch : (l : LayerData) (s : State) → left_branch (entered_branch l s) ≡ s
through_branch l s = same_place s s.loops s.turns s.next _ s.accesses s.loops s.turns s.next s.layers s.accesses refl refl refl (without_end s.layers (crossed_layers (around s) l)) refl

none_left : (m n : ℕ) → m + n ≡ 0 → (m ≡ 0) × (n ≡ 0)
none_left m n e = (omega (arith, e), omega (arith, e))

mutual
  skips_node : (node : Node) (s : State) → assignments node ≡ 0 → s.accesses ≡ no_accesses → walked node s ≡ s
  skips_node (For name start comparison bound step body) s none e =
      let l : LayerData = loop_layer s.parameters s.loops (record { name = name; start = start; comparison = comparison; bound = bound; step = step }) in
      ap left_loop (skips_nodes body (entered_loop name (direction_by comparison) l s) none refl) ∙ through_loop name (direction_by comparison) l s e
  skips_node (If condition then_nodes else_nodes) s none e =
      let two = none_left (assignments_in then_nodes) (assignments_in else_nodes) none in
      let l : LayerData = condition_layer s.parameters s.loops true condition in
      let m : LayerData = condition_layer s.parameters s.loops false condition in
      ap (λ t. left_branch (walked_all else_nodes (entered_branch m t)))
      (ap left_branch (skips_nodes then_nodes (entered_branch l s) two.0 e) ∙ through_branch l s)
      ∙ ap left_branch (skips_nodes else_nodes (entered_branch m s) two.1 e) ∙ through_branch m s
  skips_node (Block nodes) s none e = skips_nodes nodes s none e
  skips_node (Assign a) s none e = absurd (omega (arith, none))

  skips_nodes : (nodes : Nodes) (s : State) → assignments_in nodes ≡ 0 → s.accesses ≡ no_accesses → walked_all nodes s ≡ s
  skips_nodes NoNodes s none e = refl
  skips_nodes (Then first rest) s none e =
      let two = none_left (assignments first) (assignments_in rest) none in
      ap (walked_all rest) (skips_node first s two.0 e) ∙ skips_nodes rest s two.1 e

pub walk_skips_empty : WalkSkipsEmpty
walk_skips_empty = (skips_node, skips_nodes)

-- the test of a place falls as its number grows
open_at : Bool → ℕ → Bool → Bool
open_at few number none = few && (nat_lt number 1024 && none)

later_closed : (few : Bool) (m n : ℕ) (none : Bool) → m ≤ n → open_at few m none ≡ false → open_at few n none ≡ false
unfolding open_at
later_closed false m n none l e = refl
later_closed true m n none l e = by (nat_lt m 1024) (nat_lt n 1024) none e (λ t. (Decides-ltb m 1024).1 (let k : n < 1024 = (Decides-ltb n 1024).0 t in omega (arith, k, l)))
  where
    by : (t u : Bool) (b : Bool) → (t && b) ≡ false → (u ≡ true → t ≡ true) → (u && b) ≡ false
    by t false b h f = refl
    by true true b h f = h
    by false true b h f = absurd (false_is_not_true (f refl))

-- what is behind a place that is closed, with a number that is no less
record StaysSo (s t : State) : Type 0 where
  parameters : t.parameters ≡ s.parameters
  arrays : t.arrays ≡ s.arrays
  number : s.number ≤ t.number
  statements : t.statements ≡ s.statements
  refusal : t.refusal ≡ s.refusal

few_names : State → Bool
few_names s = nat_le (length s.parameters) max_parameters && nat_le (length s.arrays) max_arrays

closed_by : (s t : State) → StaysSo s t → is_open s ≡ false → is_open t ≡ false
unfolding open_at few_names
closed_by s t k e =
    let few : few_names t ≡ few_names s =
    ap (λ x. nat_le (length x) max_parameters && nat_le (length t.arrays) max_arrays) k.parameters ∙ ap (λ x. nat_le (length s.parameters) max_parameters && nat_le (length x) max_arrays) k.arrays in
    ap (λ f. open_at f t.number (is_none t.refusal)) few ∙ ap (λ r. open_at (few_names s) t.number (is_none r)) k.refusal
    ∙ later_closed (few_names s) s.number t.number (is_none s.refusal) k.number e

both_so : (s t u : State) → StaysSo s t → StaysSo t u → StaysSo s u
both_so s t u k l = record {
  parameters = l.parameters ∙ k.parameters;
  arrays = l.arrays ∙ k.arrays;
  number = omega (arith, k.number, l.number);
  statements = l.statements ∙ k.statements;
  refusal = l.refusal ∙ k.refusal;
}

counts_so : (s : State) → StaysSo s (counted (refused None s))
counts_so s = by (nat_lt 1024 s.number)
  where
    by : (t : Bool) → StaysSo s (cond t (refused None s) (record (refused None s) { number = s.number + 1; next = s.next + 1 }))
    by true = record { parameters = refl; arrays = refl; number = omega arith; statements = refl; refusal = skips s.refusal }
    by false = record { parameters = refl; arrays = refl; number = omega arith; statements = refl; refusal = skips s.refusal }

-- out of a loop and of a branch
out_of_loop : (name : List ℕ) (direction : Direction) (l : LayerData) (s t : State) → StaysSo (entered_loop name direction l s) t → StaysSo s (left_loop t)
out_of_loop name direction l s t k = record { parameters = k.parameters; arrays = k.arrays; number = k.number; statements = k.statements; refusal = k.refusal }

out_of_branch : (l : LayerData) (s t : State) → StaysSo (entered_branch l s) t → StaysSo s (left_branch t)
out_of_branch l s t k = record { parameters = k.parameters; arrays = k.arrays; number = k.number; statements = k.statements; refusal = k.refusal }

mutual
  so_behind : (node : Node) (s : State) → is_open s ≡ false → StaysSo s (walked node s)
  so_behind (For name start comparison bound step body) s e =
      let l : LayerData = loop_layer s.parameters s.loops (record { name = name; start = start; comparison = comparison; bound = bound; step = step }) in
      out_of_loop name (direction_by comparison) l s _ (so_behind_all body (entered_loop name (direction_by comparison) l s) e)
  so_behind (If condition then_nodes else_nodes) s e =
      let t : State = left_branch (walked_all then_nodes (entered_branch (condition_layer s.parameters s.loops true condition) s)) in
      let k : StaysSo s t = out_of_branch (condition_layer s.parameters s.loops true condition) s _ (so_behind_all then_nodes (entered_branch (condition_layer s.parameters s.loops true condition) s) e) in
      both_so s t _ k (out_of_branch (condition_layer s.parameters s.loops false condition) t _
      (so_behind_all else_nodes (entered_branch (condition_layer s.parameters s.loops false condition) t) (closed_by s t k e)))
  so_behind (Block nodes) s e = so_behind_all nodes s e
  so_behind (Assign a) s e = subst (λ t. StaysSo s t) (skipped s a e) (counts_so s)

  so_behind_all : (nodes : Nodes) (s : State) → is_open s ≡ false → StaysSo s (walked_all nodes s)
  so_behind_all NoNodes s e = record { parameters = refl; arrays = refl; number = omega arith; statements = refl; refusal = refl }
  so_behind_all (Then first rest) s e =
      let k = so_behind first s e in both_so s (walked first s) _ k (so_behind_all rest (walked first s) (closed_by s (walked first s) k e))

stays : (s t : State) → is_open s ≡ false → StaysSo s t → StaysClosed s t
stays s t e k = record { closed = closed_by s t k e; statements = k.statements; refusal = k.refusal }

pub walk_stays_closed : WalkStaysClosed
walk_stays_closed = (λ node s e. stays s _ e (so_behind node s e), λ nodes s e. stays s _ e (so_behind_all nodes s e))
