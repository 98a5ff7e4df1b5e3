-- The layers round a place are of no use to a walk in which no statement can be made any more, or that meets no assignment.
use Rattle.std.proofs.Common.{◌≡◌, ◌∙◌, ◌+◌, ◌≤◌, ◌⊎◌, inl, inr, ℕ, List, [], ◌∷◌, ◌++◌, Bool, true, false, cond, Option, Some, None, refl, ap, sym, arith}
use Rattle.std.specs.Prelude.{◌&&◌, length, nat_le, nat_lt, is_none}
use Rattle.std.proofs.lemmas.Bool.{ltb-false, le-ltb}
use Rattle.scop_core.specs.Assembly.{or_else}
use Rattle.suite_base.specs.Limits.{max_iterators}
use Rattle.suite_base.specs.declared.refusals.Refusal.{Refusal}
use Rattle.scop_data.specs.Pieces.{statement_pieces}
use Rattle.scop_data.specs.declared.accesses.AccessKind.TheVariants.{Read, Write}
use Rattle.clan_extract.specs.Regions.{Assign, Block, For, If, Node, Nodes, NoNodes, Reference, Then}
use Rattle.clan_extract.specs.Scops.{references_read}
use Rattle.clan_rows.specs.Layers.{LayerData, condition_layer, crossed_layers, loop_layer}
use Rattle.clan_walk.specs.Laws.{assignments, assignments_in}
use Rattle.clan_walk.specs.Walk.{State, are_narrow, around, assigned, assignment_refusal, counted, direction_by, entered_branch, entered_loop, is_open, left_branch, left_loop, pieces_here, read, referred, refusal_here, refused, statement_at, walked, walked_all, with_pieces}
use Rattle.clan_walk.proofs.Kept.{without_end}

abbrev pub with_layers : List LayerData → State → State
with_layers layers s = record s { layers = layers }

-- ---- what is closed stays closed

passed_last : (t : Bool) (a b c d : Bool) → (a && (b && c)) ≡ false → (b ≡ false → d ≡ false) → (a && (d && c)) ≡ false
passed_last t false b c d e more = refl
passed_last t true true c d e more = let no : c ≡ false = e in by d c no
  where
    by : (d c : Bool) → c ≡ false → (d && c) ≡ false
    by true c e = e
    by false c e = refl
passed_last t true false c d e more = ap (λ x. x && c) (more refl)

refused_more : (a b : Bool) (x y : Option Refusal) → (a && (b && is_none x)) ≡ false → (a && (b && is_none (or_else x y))) ≡ false
refused_more false b x y e = refl
refused_more true false x y e = refl
refused_more true true None y e = absurd (cc)
refused_more true true (Some r) y e = refl

more_counted : (n : ℕ) → nat_lt n 1024 ≡ false → nat_lt (n + 1) 1024 ≡ false
more_counted n e = let past : 1024 ≤ n = ltb-false n 1024 e in le-ltb (n + 1) 1024 (omega (arith, past))

counted_closed : (s : State) → is_open s ≡ false → is_open (counted s) ≡ false
counted_closed s e = by (nat_lt 1024 s.number)
  where
    by : (t : Bool) → is_open (cond t s (record s { number = s.number + 1; next = s.next + 1 })) ≡ false
    by true = e
    by false =
        passed_last true (nat_le (length s.parameters) 16 && nat_le (length s.arrays) 4096) (nat_lt s.number 1024) (is_none s.refusal) (nat_lt (s.number + 1) 1024) e
        (more_counted s.number)

assigned_closed : (text : List ℕ) (s : State) → is_open s ≡ false → is_open (assigned text s) ≡ false
assigned_closed text s e =
    counted_closed (refused (refusal_here s) (with_pieces (pieces_here text s) s))
    (refused_more (nat_le (length s.parameters) 16 && nat_le (length s.arrays) 4096) (nat_lt s.number 1024) s.refusal (refusal_here s) e)

read_open : (rs : List Reference) (s : State) → is_open (read rs s) ≡ is_open s
read_open [] s = refl
read_open (r ∷ rs) s = read_open rs (referred Read r s)

mutual
  walked_closed : (n : Node) (s : State) → is_open s ≡ false → is_open (walked n s) ≡ false
  walked_closed (For name start comparison bound step body) s e =
      walk_closed body
      (entered_loop name (direction_by comparison)
      (loop_layer s.parameters s.loops (record { name = name; start = start; comparison = comparison; bound = bound; step = step })) s) e
  walked_closed (If condition then_nodes else_nodes) s e =
      let t : State = left_branch (walked_all then_nodes (entered_branch (condition_layer s.parameters s.loops true condition) s)) in
      walk_closed else_nodes (entered_branch (condition_layer s.parameters s.loops false condition) t)
      (walk_closed then_nodes (entered_branch (condition_layer s.parameters s.loops true condition) s) e)
  walked_closed (Block nodes) s e = walk_closed nodes s e
  walked_closed (Assign a) s e =
      assigned_closed a.text (referred Write a.target (read (references_read s.parameters s.loops a) s)) (read_open (references_read s.parameters s.loops a) s ∙ e)

  pub walk_closed : (ns : Nodes) (s : State) → is_open s ≡ false → is_open (walked_all ns s) ≡ false
  walk_closed NoNodes s e = e
  walk_closed (Then first rest) s e = walk_closed rest (walked first s) (walked_closed first s e)

-- ---- other layers

read_apart : (rs : List Reference) (layers : List LayerData) (s : State) → read rs (with_layers layers s) ≡ with_layers layers (read rs s)
read_apart [] layers s = refl
read_apart (r ∷ rs) layers s = read_apart rs layers (referred Read r s)

counted_apart : (layers : List LayerData) (s : State) → counted (with_layers layers s) ≡ with_layers layers (counted s)
counted_apart layers s = by (nat_lt 1024 s.number)
  where
    by : (t : Bool) → cond t (with_layers layers s) (record (with_layers layers s) { number = s.number + 1; next = s.next + 1 })
        ≡ with_layers layers (cond t s (record s { number = s.number + 1; next = s.next + 1 }))
    by true = refl
    by false = refl

-- a closed place makes nothing and refuses nothing
none_refused : (s : State) → is_open s ≡ false → refusal_here s ≡ None
none_refused s e = ap (λ t. cond t (assignment_refusal (s.number + 1) (around s) s.accesses) None) e

none_made : (text : List ℕ) (s : State) → is_open s ≡ false → pieces_here text s ≡ []
none_made text s e =
    ap (λ t. cond (((t && nat_le (length s.loops) max_iterators) && are_narrow (around s).parts) && is_none (refusal_here s))
    (statement_pieces (length s.parameters) (statement_at text s) ∷ []) []) e

assigned_in_vain : (text : List ℕ) (s : State) → is_open s ≡ false → assigned text s ≡ counted (refused None (with_pieces [] s))
assigned_in_vain text s e =
    ap (λ r. counted (refused r (with_pieces (pieces_here text s) s))) (none_refused s e)
    ∙ ap (λ pieces. counted (refused None (with_pieces pieces s))) (none_made text s e)

assigned_apart : (text : List ℕ) (layers : List LayerData) (s : State) → is_open s ≡ false → assigned text (with_layers layers s) ≡ with_layers layers (assigned text s)
assigned_apart text layers s e =
    assigned_in_vain text (with_layers layers s) e ∙ counted_apart layers (refused None (with_pieces [] s)) ∙ ap (with_layers layers) (sym (assigned_in_vain text s e))

-- a walk over so many assignments makes no statement
abbrev pub IsIdle : ℕ → State → Type 0
IsIdle count s = (is_open s ≡ false) ⊎ (count ≡ 0)

first_idle : (m n : ℕ) (s : State) → IsIdle (m + n) s → IsIdle m s
first_idle m n s (inl e) = inl e
first_idle m n s (inr e) = inr (omega (arith, e))

rest_idle : (m n : ℕ) (s t : State) → (is_open s ≡ false → is_open t ≡ false) → IsIdle (m + n) s → IsIdle n t
rest_idle m n s t more (inl e) = inl (more e)
rest_idle m n s t more (inr e) = inr (omega (arith, e))

mutual
  walked_apart : (n : Node) (layers : List LayerData) (s : State) → IsIdle (assignments n) s → walked n (with_layers layers s) ≡ with_layers layers (walked n s)
  walked_apart (For name start comparison bound step body) layers s idle =
      let l : LayerData = loop_layer s.parameters s.loops (record { name = name; start = start; comparison = comparison; bound = bound; step = step }) in
      let inside : State = entered_loop name (direction_by comparison) l s in
      let x : LayerData = crossed_layers (around (with_layers layers s)) l in
      ap left_loop (walk_apart body (layers ++ x ∷ []) inside idle)
      ∙ ap (λ ls. with_layers ls (left_loop (walked_all body inside))) (without_end layers x)
  walked_apart (If condition then_nodes else_nodes) layers s idle =
      let l : LayerData = condition_layer s.parameters s.loops true condition in
      let m : LayerData = condition_layer s.parameters s.loops false condition in
      let inside : State = entered_branch l s in
      let t : State = left_branch (walked_all then_nodes inside) in
      let x : LayerData = crossed_layers (around (with_layers layers s)) l in
      let y : LayerData = crossed_layers (around (with_layers layers t)) m in
      let then_apart : left_branch (walked_all then_nodes (with_layers (layers ++ x ∷ []) inside)) ≡ with_layers layers t =
      ap left_branch (walk_apart then_nodes (layers ++ x ∷ []) inside (first_idle (assignments_in then_nodes) (assignments_in else_nodes) s idle))
      ∙ ap (λ ls. with_layers ls (walked_all then_nodes inside)) (without_end layers x) in
      ap (λ u. left_branch (walked_all else_nodes (entered_branch m u))) then_apart
      ∙ ap left_branch (walk_apart else_nodes (layers ++ y ∷ []) (entered_branch m t)
      (rest_idle (assignments_in then_nodes) (assignments_in else_nodes) s t (walk_closed then_nodes inside) idle))
      ∙ ap (λ ls. with_layers ls (walked_all else_nodes (entered_branch m t))) (without_end layers y)
  walked_apart (Block nodes) layers s idle = walk_apart nodes layers s idle
  walked_apart (Assign a) layers s (inl e) =
      let rs : List Reference = references_read s.parameters s.loops a in
      ap (λ u. assigned a.text (referred Write a.target u)) (read_apart rs layers s)
      ∙ assigned_apart a.text layers (referred Write a.target (read rs s)) (read_open rs s ∙ e)
  walked_apart (Assign a) layers s (inr e) = absurd (omega (arith, e))

  pub walk_apart : (ns : Nodes) (layers : List LayerData) (s : State) → IsIdle (assignments_in ns) s → walked_all ns (with_layers layers s) ≡ with_layers layers (walked_all ns s)
  walk_apart NoNodes layers s idle = refl
  walk_apart (Then first rest) layers s idle =
      ap (walked_all rest) (walked_apart first layers s (first_idle (assignments first) (assignments_in rest) s idle))
      ∙ walk_apart rest layers (walked first s) (rest_idle (assignments first) (assignments_in rest) s (walked first s) (walked_closed first s) idle)
