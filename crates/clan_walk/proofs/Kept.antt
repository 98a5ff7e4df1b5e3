-- What a walk keeps, and how it counts.
use Rattle.std.proofs.Common.{◌≡◌, ℕ, ◌+◌, ◌≤◌, ◌<◌, List, [], ◌∷◌, ◌++◌, length, map, Bool, true, false, cond, refl, sym, ◌∙◌, ap, subst, arith}
use Rattle.std.specs.Prelude.{min, nat_lt}
use Rattle.std.proofs.lemmas.Bool.Decides.{Decides-ltb}
use Rattle.std.proofs.lemmas.List.{length-append, length-map}
use Rattle.clan_extract.specs.Regions.{Reference, Node, For, If, Block, Assign, Nodes, NoNodes, Then}
use Rattle.clan_extract.specs.Placements.{Placed, placed, placed_all, children, children_of_all, in_loop, in_test}
use Rattle.clan_extract.specs.Scops.{references_read}
use Rattle.clan_rows.specs.Layers.{LayerData, loop_layer, condition_layer, crossed_layers}
use Rattle.scop_core.specs.Assembly.{or_else}
use Rattle.scop_core.proofs.ReadBackPieces.{at_most}
use Rattle.clan_walk.specs.declared.turns.Direction.{Direction}
use Rattle.clan_walk.specs.Laws.{assignments, assignments_in, Keeps}
use Rattle.clan_walk.specs.Walk.{State, around, no_accesses, pieces_here, refusal_here, without_last, last_or, entered_loop, left_loop, entered_branch, left_branch, direction_by, counted, assigned, referred, read, walked, walked_all}
use Rattle.scop_data.specs.declared.accesses.AccessKind.TheVariants.{Read, Write}

-- the end of a list
pub without_end : {X : Type 0} (xs : List X) (x : X) → without_last (xs ++ x ∷ []) ≡ xs
without_end [] x = refl
without_end (y ∷ []) x = refl
without_end (y ∷ (z ∷ xs)) x = ap (λ zs. y ∷ zs) (without_end (z ∷ xs) x)

pub end_is : {X : Type 0} (y : X) (xs : List X) (x : X) → last_or y (xs ++ x ∷ []) ≡ x
end_is y [] x = refl
end_is y (z ∷ xs) x = end_is z xs x

mutual
  pub placed_count : (node : Node) (from : ℕ) → length (placed from node) ≡ assignments node
  placed_count (For name start comparison bound step body) from =
      length-map (placed_all 0 body) (in_loop from (record { name = name; start = start; comparison = comparison; bound = bound; step = step })) ∙ placed_all_count body 0
  placed_count (If condition then_nodes else_nodes) from =
      let ps : List Placed = placed_all from then_nodes in
      let qs : List Placed = placed_all (from + children_of_all then_nodes) else_nodes in
      omega (
        arith,
        length-append (map (in_test true condition) ps) (map (in_test false condition) qs),
        length-map ps (in_test true condition),
        length-map qs (in_test false condition),
        placed_all_count then_nodes from,
        placed_all_count else_nodes (from + children_of_all then_nodes),
      )
  placed_count (Block nodes) from = placed_all_count nodes from
  placed_count (Assign a) from = refl

  pub placed_all_count : (nodes : Nodes) (from : ℕ) → length (placed_all from nodes) ≡ assignments_in nodes
  placed_all_count NoNodes from = refl
  placed_all_count (Then first rest) from =
      omega (arith, length-append (placed from first) (placed_all (from + children first) rest), placed_count first from, placed_all_count rest (from + children first))

-- out of a loop and of a branch
loop_kept : (name : List ℕ) (direction : Direction) (l : LayerData) (s t : State) (n : ℕ) → Keeps (entered_loop name direction l s) t n → Keeps s (left_loop t) n
loop_kept name direction l s t n k = record {
  parameters = k.parameters;
  arrays = k.arrays;
  loops = ap without_last k.loops ∙ without_end s.loops name;
  turns = ap without_last k.turns ∙ without_end s.turns (record { direction = direction; beta = s.next });
  layers = ap without_last k.layers ∙ without_end s.layers (crossed_layers (around s) l);
  number = k.number;
}

branch_kept : (l : LayerData) (s t : State) (n : ℕ) → Keeps (entered_branch l s) t n → Keeps s (left_branch t) n
branch_kept l s t n k = record {
  parameters = k.parameters;
  arrays = k.arrays;
  loops = k.loops;
  turns = k.turns;
  layers = ap without_last k.layers ∙ without_end s.layers (crossed_layers (around s) l);
  number = k.number;
}

both_kept : (s t u : State) (m n : ℕ) → Keeps s t m → Keeps t u n → Keeps s u (m + n)
both_kept s t u m n k l = record {
  parameters = l.parameters ∙ k.parameters;
  arrays = l.arrays ∙ k.arrays;
  loops = l.loops ∙ k.loops;
  turns = l.turns ∙ k.turns;
  layers = l.layers ∙ k.layers;
  number = λ h. counted_twice m n s.number t.number u.number (k.number h) (λ i. l.number i);
}
  where
    counted_twice : (m n a b c : ℕ) → b ≡ min (a + m) 1025 → (b ≤ 1025 → c ≡ min (b + n) 1025) → c ≡ min (a + (m + n)) 1025
    counted_twice m n a b c e f = let g : c ≡ min (b + n) 1025 = f (omega (arith, e)) in omega (arith, e, g)

-- behind references only the accesses are others
pub record Same (s t : State) : Type 0 where
  pub parameters : t.parameters ≡ s.parameters
  pub arrays : t.arrays ≡ s.arrays
  pub loops : t.loops ≡ s.loops
  pub turns : t.turns ≡ s.turns
  pub layers : t.layers ≡ s.layers
  pub number : t.number ≡ s.number

read_keeps : (rs : List Reference) (s : State) → Same s (read rs s)
read_keeps [] s = record { parameters = refl; arrays = refl; loops = refl; turns = refl; layers = refl; number = refl }
read_keeps (r ∷ rs) s = let k = read_keeps rs (referred Read r s) in record { parameters = k.parameters; arrays = k.arrays; loops = k.loops; turns = k.turns; layers = k.layers; number = k.number }

counted_keeps : (s : State) → Keeps s (counted s) 1
counted_keeps s = by (nat_lt 1024 s.number) refl
  where
    by : (t : Bool) → nat_lt 1024 s.number ≡ t → Keeps s (cond t s (record s { number = s.number + 1; next = s.next + 1 })) 1
    by true e = record { parameters = refl; arrays = refl; loops = refl; turns = refl; layers = refl; number = λ l. let k : 1024 < s.number = (Decides-ltb 1024 s.number).0 e in omega (arith, k, l) }
    by false e = record { parameters = refl; arrays = refl; loops = refl; turns = refl; layers = refl; number = λ l. omega (arith, at_most 1024 s.number e) }

assigned_keeps : (text : List ℕ) (s t : State) → Same s t → Keeps s (assigned text t) 1
assigned_keeps text s t k = joined (counted_keeps (record t { accesses = no_accesses; statements = t.statements ++ pieces_here text t; refusal = or_else t.refusal (refusal_here t) }))
  where
    joined : {u : State} → Keeps (record t { accesses = no_accesses; statements = t.statements ++ pieces_here text t; refusal = or_else t.refusal (refusal_here t) }) u 1 → Keeps s u 1
    joined {u} l = record {
      parameters = l.parameters ∙ k.parameters;
      arrays = l.arrays ∙ k.arrays;
      loops = l.loops ∙ k.loops;
      turns = l.turns ∙ k.turns;
      layers = l.layers ∙ k.layers;
      number = λ h. l.number (subst (λ n. n ≤ 1025) (sym k.number) h) ∙ ap (λ n. min (n + 1) 1025) k.number;
    }

mutual
  pub walk_keeps : (node : Node) (s : State) → Keeps s (walked node s) (assignments node)
  walk_keeps (For name start comparison bound step body) s =
      loop_kept name (direction_by comparison) (loop_layer s.parameters s.loops (record { name = name; start = start; comparison = comparison; bound = bound; step = step })) s _ (assignments_in body)
      (walk_keeps_all body (entered_loop name (direction_by comparison) (loop_layer s.parameters s.loops (record { name = name; start = start; comparison = comparison; bound = bound; step = step })) s))
  walk_keeps (If condition then_nodes else_nodes) s =
      both_kept s (left_branch (walked_all then_nodes (entered_branch (condition_layer s.parameters s.loops true condition) s))) _ (assignments_in then_nodes) (assignments_in else_nodes)
      (branch_kept (condition_layer s.parameters s.loops true condition) s _ (assignments_in then_nodes) (walk_keeps_all then_nodes (entered_branch (condition_layer s.parameters s.loops true condition) s)))
      (branch_kept (condition_layer s.parameters s.loops false condition) _ _ (assignments_in else_nodes)
      (walk_keeps_all else_nodes (entered_branch (condition_layer s.parameters s.loops false condition) (left_branch (walked_all then_nodes (entered_branch (condition_layer s.parameters s.loops true condition) s))))))
  walk_keeps (Block nodes) s = walk_keeps_all nodes s
  walk_keeps (Assign a) s =
      let k = read_keeps (references_read s.parameters s.loops a) s in
      assigned_keeps a.text s (referred Write a.target (read (references_read s.parameters s.loops a) s))
      (record { parameters = k.parameters; arrays = k.arrays; loops = k.loops; turns = k.turns; layers = k.layers; number = k.number })

  pub walk_keeps_all : (nodes : Nodes) (s : State) → Keeps s (walked_all nodes s) (assignments_in nodes)
  walk_keeps_all NoNodes s = record { parameters = refl; arrays = refl; loops = refl; turns = refl; layers = refl; number = λ l. omega (arith, l) }
  walk_keeps_all (Then first rest) s = both_kept s (walked first s) _ (assignments first) (assignments_in rest) (walk_keeps first s) (walk_keeps_all rest (walked first s))
