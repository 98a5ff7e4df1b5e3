-- The rules of statements look no further than the next token, and stop for the causes that are stated.
use Rattle.std.proofs.Common.{◌≡◌, ℕ, zero, suc, ◌+◌, ◌≤◌, ◌<◌, ◌==◌, Bool, true, false, if◌then◌else◌, List, [], ◌∷◌, ◌++◌, Option, Some, None, Ok, Err, inl, refl, ap, sym, subst, ◌∙◌, arith}
use Rattle.suite_base.specs.Limits.{max_nests, max_loops}
use Rattle.c_lexer.specs.declared.symbols.Symbol.{Symbol}
use Rattle.c_lexer.specs.declared.symbols.Symbol.TheVariants as s
use Rattle.c_lexer.specs.declared.pieces.Piece.{Piece}
use Rattle.c_lexer.specs.declared.stops.Stop.TheVariants.{Refused}
use Rattle.c_lexer.specs.Readings.{Reading, slice}
use Rattle.c_lexer.specs.Symbols.{same_symbol, is_sound}
use Rattle.c_lexer.specs.Input.{here, Parser, and_then, ◌>>=◌, ◌>>◌, pure, refuse, peek, position, take_token, eat, expect, open_nest, left, symbol, start, piece, after, after_if, sees, same_text, sees_name, same_name, open_loop}
use Rattle.c_lexer.specs.Pieces.{bytes_of}
use Rattle.c_lexer.proofs.TokenFacts.{seen, is_same}
use Rattle.c_parser.specs.declared.tree.Rel.{Rel}
use Rattle.c_parser.specs.declared.tree.Sum.{Sum}
use Rattle.c_parser.specs.declared.tree.Step.{Step}
use Rattle.c_parser.specs.declared.tree.AssignSign.{AssignSign}
use Rattle.c_parser.specs.declared.tree.Assign.{Assign}
use Rattle.c_parser.specs.declared.tree.Node.{Node}
use Rattle.c_parser.specs.declared.tree.Node.TheVariants as node
use Rattle.c_parser.specs.declared.heads.Head.{Head}
use Rattle.c_parser.specs.Values.{rel_sign, below, value, target}
use Rattle.c_parser.specs.Statements.{assign_sign, is_upward, some_of, rel, assigned, step_sign, add_sign, pre_step, post_step, number_step, step_behind, step, open_round, head_rest, head, assign, begins_statement, block_from, for_loop, branch, else_branch, if_branch, block_nodes, block, statement_by, statement_rule, level, statement, inner, region_from, region}
use Rattle.std.specs.Str.{bytes_eq}
use Rattle.std.proofs.lemmas.Bool.{eqb-true}
use Rattle.suite_base.specs.declared.refusals.Refusal.TheVariants.{TooDeep}
use Rattle.c_parser.specs.declared.tree.Target.{Target}
use Rattle.c_parser.specs.declared.tree.Value.{Value}
use Rattle.c_parser.proofs.Yields.{Takes}
use Rattle.c_parser.proofs.StatementYields.{statement_takes}
use Rattle.c_parser.specs.Prefixes.{later, SameTokens, Sound, opens_nest, nests_among, opens_loop, loops_among}
use Rattle.c_parser.proofs.Runs.{shorter, more_nests, more_loops, Runs, runs_as, runs_far, bind, take_next, open_next, choose, choose_next, eat_next, expect_then, expect_next, pure_runs, refuse_runs, peek_then, position_then, eat_then, limit_then, again, loop_runs, alike_far}
use Rattle.c_parser.proofs.ValueRuns.{Before, Within, before_on, within_on, enter, inner_runs, rel_sound, target_runs, value_runs}

assign_sound : (k : Symbol) (x : AssignSign) → assign_sign k ≡ Some x → is_sound k ≡ true
assign_sound s.End x e = absurd (cc)
assign_sound s.Bad x e = absurd (cc)
assign_sound s.TooLarge x e = absurd (cc)
assign_sound _ x e = refl

step_sound : (up : Bool) → is_sound (step_sign up) ≡ true
step_sound true = refl
step_sound false = refl

add_sound : (up : Bool) → is_sound (add_sign up) ≡ true
add_sound true = refl
add_sound false = refl

module _ (r : Reading) where
  later_text : (k : ℕ) (x : Reading) → (later k x).text ≡ x.text
  unfolding after
  later_text zero x = refl
  later_text (suc k) x = later_text k x

  -- the piece of a token that was taken, on each text
  abbrev Named : (Reading → Piece) → ℕ → Type 0
  Named name i = (j : ℕ) × (j < i) × ((x : Reading) → piece (later j x) ≡ name x)

  named_on : (name : Reading → Piece) (i k : ℕ) → i ≤ k → Named name i → Named name k
  named_on name i k h d = (d.0, omega (arith, d.1, h), d.2)

  same_bytes : (name : Reading → Piece) (i : ℕ) (x : Reading) → Named name i → SameTokens (suc i) r x → bytes_of (later i r).text (name r) ≡ bytes_of (later i x).text (name x)
  same_bytes name i x (j, below, is) d =
      let n = (shorter (suc j) (suc i) r x (omega (arith, below)) d).1 in
      let B : List ℕ → Piece → List ℕ = λ text p. slice text p.from p.to in
      ap (λ p. bytes_of (later i r).text p) (sym (is r))
      ∙ (ap (λ text. B text (piece (later j r))) (later_text i r ∙ sym (later_text j r))
      ∙ (n.1
      ∙ (ap (λ p. bytes_of (later j x).text p) (is x)
      ∙ ap (λ text. B text (name x)) (later_text j x ∙ sym (later_text i x)))))

  sees_alike : (name : Reading → Piece) (i : ℕ) (x : Reading) → Named name i → SameTokens (suc i) r x → sees_name (name r) (later i r) ≡ sees_name (name x) (later i x)
  unfolding sees_name sees
  sees_alike name i x named d =
      ap (λ k. if same_symbol k s.Name then same_text (later i r).text (name r) (piece (later i r)) else false) d.1.0
      ∙ (ap (λ b. if same_symbol (symbol (later i x)) s.Name then bytes_eq b (bytes_of (later i r).text (piece (later i r))) else false) (same_bytes name i x named d)
      ∙ ap (λ b. if same_symbol (symbol (later i x)) s.Name then bytes_eq (bytes_of (later i x).text (name x)) b else false) d.1.1)

  name_seen : (name : Piece) (x : Reading) → sees_name name x ≡ true → is_sound (symbol x) ≡ true
  unfolding sees_name
  name_seen name x e = go (sees s.Name x) refl e
    where
      go : (b : Bool) → sees s.Name x ≡ b → (if b then same_text x.text name (piece x) else false) ≡ true → is_sound (symbol x) ≡ true
      go true f e = ap is_sound (seen s.Name x f)
      go false f e = absurd (cc)

  same_cases : (name : Reading → Piece) (i : ℕ) (b : Bool) → sees_name (name r) (later i r) ≡ b → Sound i r → Named name i
      → Runs r (λ x. same_name (name x)) i (if b then Ok (tt, after (later i r)) else refuse (later i r))
  unfolding same_name
  same_cases name i true e sound named =
      runs_as r (λ x. same_name (name x)) (λ x. pure tt) i (suc i) (Ok (tt, after (later i r))) (omega arith)
      (λ x d. ap (λ t. if t then Ok (tt, after (later i x)) else refuse (later i x)) (sym (sees_alike name i x named d) ∙ e))
      (pure_runs r (λ x. tt) (suc i) (sound, name_seen (name r) (later i r) e))
  same_cases name i false e sound named =
      runs_as r (λ x. same_name (name x)) (λ x. refuse) i i (refuse (later i r)) (omega arith)
      (λ x d. ap (λ t. if t then Ok (tt, after (later i x)) else refuse (later i x)) (sym (sees_alike name i x named d) ∙ e)) (refuse_runs r (Unit {0}) i sound)

  same_runs : (name : Reading → Piece) (i : ℕ) → Sound i r → Named name i → Runs r (λ x. same_name (name x)) i (same_name (name r) (later i r))
  unfolding same_name
  same_runs name i sound named = same_cases name i (sees_name (name r) (later i r)) refl sound named

  some_runs : {A : Type 0} (o : Option A) (i : ℕ) → Sound i r → ((x : A) → o ≡ Some x → is_sound (symbol (later i r)) ≡ true) → Runs r (λ x. some_of o) i (some_of o (later i r))
  some_runs {A = A} None i sound good = refuse_runs r A i sound
  some_runs (Some y) i sound good = take_next r (λ x. pure y) i (pure_runs r (λ x. y) (suc i) (sound, good y refl))

  rel_cases : {B : Type 0} (f : Reading → Rel → Parser B) (i : ℕ) (o : Option Rel) → rel_sign (symbol (later i r)) ≡ o → Sound i r
      → ((order : Rel) → Sound (suc i) r → Runs r (λ x. f x order) (suc i) (f r order (later (suc i) r))) → Runs r (λ x. rel >>= f x) i (and_then (some_of o (later i r)) (f r))
  unfolding rel
  rel_cases {B = B} f i None e sound h =
      runs_as r (λ x. rel >>= f x) (λ x. refuse) i i (refuse (later i r)) (omega arith)
      (λ x d. ap (λ o. and_then (some_of o (later i x)) (f x)) (sym (ap rel_sign d.1.0) ∙ e)) (refuse_runs r B i sound)
  rel_cases f i (Some y) e sound h =
      runs_as r (λ x. rel >>= f x) (λ x. f x y) i (suc i) (f r y (later (suc i) r)) (omega arith)
      (λ x d. ap (λ o. and_then (some_of o (later i x)) (f x)) (sym (ap rel_sign d.1.0) ∙ e)) (h y (sound, rel_sound (symbol (later i r)) y e))

  -- the comparison is the same on each text
  rel_then : {B : Type 0} (f : Reading → Rel → Parser B) (i : ℕ) → Sound i r → ((order : Rel) → Sound (suc i) r → Runs r (λ x. f x order) (suc i) (f r order (later (suc i) r)))
      → Runs r (λ x. rel >>= f x) i ((rel >>= f r) (later i r))
  unfolding rel
  rel_then f i sound h = rel_cases f i (rel_sign (symbol (later i r))) refl sound h

  assigned_runs : (i : ℕ) → Sound i r → Runs r (λ x. assigned) i (assigned (later i r))
  unfolding assigned
  assigned_runs i sound = peek_then r (λ z k. some_of (assign_sign k)) i _ (some_runs (assign_sign (symbol (later i r))) i sound (λ x e. assign_sound (symbol (later i r)) x e))

  -- ---- the head of a loop

  abbrev second : Bool → Bool → Parser Step
  second up is_one = if is_one then pure (post_step up) else (do expect (add_sign up); number ← expect s.Integer; pure (number_step up number))

  behind_runs : (up : Bool) (name : Reading → Piece) (i : ℕ) → Sound i r → Named name i → Runs r (λ x. step_behind up (name x)) i (step_behind up (name r) (later i r))
  unfolding step_behind
  behind_runs up name i sound named =
      bind r (λ x. same_name (name x)) (λ x y. eat (step_sign up) >>= second up) i (same_runs name i sound named) (λ v k ik on.
      eat_next r (step_sign up) (λ x. second up) k
      (λ e. pure_runs r (λ x. post_step up) (suc k) (on, ap is_sound e ∙ step_sound up))
      (λ e. expect_next r (add_sign up) (λ x. expect s.Integer >>= (λ number. pure (number_step up number))) k (add_sound up) on (λ l kl far.
      expect_then r s.Integer (λ x number. pure (number_step up number)) l refl far (λ n m lm end. pure_runs r (λ x. number_step up (n x)) m end))))

  abbrev first : Bool → Piece → Bool → Parser Step
  first up name is_first = if is_first then (do same_name name; pure (pre_step up)) else step_behind up name

  step_runs : (up : Bool) (name : Reading → Piece) (i : ℕ) → Sound i r → Named name i → Runs r (λ x. step up (name x)) i (step up (name r) (later i r))
  unfolding step
  step_runs up name i sound named =
      eat_next r (step_sign up) (λ x. first up (name x)) i
      (λ e. bind r (λ x. same_name (name x)) (λ x y. pure (pre_step up)) (suc i) (same_runs name (suc i) (sound, ap is_sound e ∙ step_sound up) (named_on name i (suc i) (omega arith) named)) (λ v k ik on.
      pure_runs r (λ x. pre_step up) k on))
      (λ e. behind_runs up name i sound named)

  name_cases : {B : Type 0} (f : Reading → Piece → Parser B) (i : ℕ) (b : Bool) → sees s.Name (later i r) ≡ b → Sound i r
      → (Sound (suc i) r → Runs r (λ x. f x (piece (later i x))) (suc i) (f r (piece (later i r)) (later (suc i) r)))
      → Runs r (λ x. expect s.Name >>= f x) i (and_then (if b then Ok (piece (later i r), after (later i r)) else refuse (later i r)) (f r))
  unfolding expect sees
  name_cases f i true e sound h =
      runs_as r (λ x. expect s.Name >>= f x) (λ x. f x (piece (later i x))) i (suc i) _ (omega arith)
      (λ x d. ap (λ k. and_then (if same_symbol k s.Name then Ok (piece (later i x), after (later i x)) else refuse (later i x)) (f x)) (sym d.1.0)
      ∙ ap (λ t. and_then (if t then Ok (piece (later i x), after (later i x)) else refuse (later i x)) (f x)) e) (h (sound, ap is_sound (seen s.Name (later i r) e)))
  name_cases {B = B} f i false e sound h =
      runs_as r (λ x. expect s.Name >>= f x) (λ x. refuse) i i (refuse (later i r)) (omega arith)
      (λ x d. ap (λ k. and_then (if same_symbol k s.Name then Ok (piece (later i x), after (later i x)) else refuse (later i x)) (f x)) (sym d.1.0)
      ∙ ap (λ t. and_then (if t then Ok (piece (later i x), after (later i x)) else refuse (later i x)) (f x)) e) (refuse_runs r B i sound)

  -- the piece of the name that comes next
  name_then : {B : Type 0} (f : Reading → Piece → Parser B) (i : ℕ) → Sound i r → (Sound (suc i) r → Runs r (λ x. f x (piece (later i x))) (suc i) (f r (piece (later i r)) (later (suc i) r)))
      → Runs r (λ x. expect s.Name >>= f x) i ((expect s.Name >>= f r) (later i r))
  unfolding expect
  name_then f i sound h = name_cases f i (sees s.Name (later i r)) refl sound h

  module _ (nests : ℕ) where
    abbrev round : {B : Type 0} → Parser B → Symbol → Parser B
    round q kind = if same_symbol kind s.OpenRound then (open_nest nests >> (take_token >> q)) else refuse

    round_same : {B : Type 0} (q : Parser B) (m : Reading) → (open_round nests >> q) m ≡ (peek >>= round q) m
    unfolding open_round open_nest
    round_same q m = go (same_symbol (symbol m) s.OpenRound) (nests == 0)
      where
        go : (b c : Bool) → and_then ((if b then (λ l. and_then (if c then Err (Refused (TooDeep (here l))) else Ok (tt, l)) (λ (x : Unit {0}). take_token >> pure tt)) else refuse) m) (λ (x : Unit {0}). q)
            ≡ (if b then (λ l. and_then (if c then Err (Refused (TooDeep (here l))) else Ok (tt, l)) (λ (x : Unit {0}). take_token >> q)) else refuse) m
        go true true = refl
        go true false = refl
        go false c = refl

    round_then : {B : Type 0} (q : Reading → Parser B) (i : ℕ) → Before r nests i → (Within r nests (suc i) → Runs r q (suc i) (q r (later (suc i) r)))
        → Runs r (λ x. open_round nests >> q x) i ((open_round nests >> q r) (later i r))
    round_then {B = B} q i d h =
        subst (λ o. Runs r (λ x. open_round nests >> q x) i o) (sym (round_same (q r) (later i r)))
        (runs_as r (λ x. open_round nests >> q x) (λ x. peek >>= round (q x)) i i _ (omega arith) (λ x e. round_same (q x) (later i x))
        (peek_then r (λ x. round (q x)) i _ (choose_next r (same_symbol (symbol (later i r)) s.OpenRound) (λ x. open_nest nests >> (take_token >> q x)) (λ x. refuse) i
        (λ e. open_next r nests (λ x. take_token >> q x) i d.0 d.1 (λ some. take_next r q i (h (enter r nests i s.OpenRound d (is_same (symbol (later i r)) s.OpenRound e) refl refl))))
        (λ e. refuse_runs r B i d.0))))

    abbrev rest_made : Piece → Sum → Rel → Sum → ℕ → Step → Parser Head
    rest_made name start order bound at found = expect s.CloseRound >> pure (record { name = name; start = start; rel = order; bound = bound; step = found; step_at = at })

    rest_runs : (name : Reading → Piece) (begin : Reading → Sum) (i : ℕ) → Within r nests i → Named name i
        → Runs r (λ x. head_rest nests (name x) (begin x)) i (head_rest nests (name r) (begin r) (later i r))
    unfolding head_rest
    rest_runs name begin i d named =
        bind r (λ x. same_name (name x)) _ i (same_runs name i d.0 named) (λ v1 k1 h1 s1.
        rel_then (λ x order. (below nests).sum >>= (λ bound. expect s.Semicolon >> (position >>= (λ at. step (is_upward order) (name x) >>= (λ found. rest_made (name x) (begin x) order bound at found))))) k1 s1
        (λ order s2.
        bind r (λ x. (below nests).sum) _ (suc k1) ((inner_runs r nests).sum (suc k1) (within_on r nests i (suc k1) (omega (arith, h1)) d s2)) (λ bound k3 h3 s3.
        expect_next r s.Semicolon (λ x. position >>= (λ at. step (is_upward order) (name x) >>= (λ found. rest_made (name x) (begin x) order (bound x) at found))) k3 refl s3 (λ k4 h4 s4.
        position_then r (λ x at. step (is_upward order) (name x) >>= (λ found. rest_made (name x) (begin x) order (bound x) at found)) k4 _
        (bind r (λ x. step (is_upward order) (name x)) _ k4 (step_runs (is_upward order) name k4 s4 (named_on name i k4 (omega (arith, h1, h3, h4)) named)) (λ found k5 h5 s5.
        expect_next r s.CloseRound _ k5 refl s5 (λ k6 h6 s6. pure_runs r _ k6 s6)))))))

    abbrev named_head : Parser Head
    named_head = do
      name ← expect s.Name
      expect s.Assign
      start ← (below nests).sum
      expect s.Semicolon
      head_rest nests name start

    abbrev headed : Piece → Parser Head
    headed name = do
      expect s.Assign
      start ← (below nests).sum
      expect s.Semicolon
      head_rest nests name start

    named_head_runs : (i : ℕ) → Within r nests i → Runs r (λ x. named_head) i (named_head (later i r))
    named_head_runs i d =
        name_then (λ x. headed) i d.0 (λ s1.
        expect_next r s.Assign (λ x. (below nests).sum >>= (λ start. expect s.Semicolon >> head_rest nests (piece (later i x)) start)) (suc i) refl s1 (λ k2 h2 s2.
        bind r (λ x. (below nests).sum) _ k2 ((inner_runs r nests).sum k2 (within_on r nests i k2 (omega (arith, h2)) d s2)) (λ begin k3 h3 s3.
        expect_next r s.Semicolon (λ x. head_rest nests (piece (later i x)) (begin x)) k3 refl s3 (λ k4 h4 s4.
        rest_runs (λ x. piece (later i x)) begin k4 (within_on r nests i k4 (omega (arith, h2, h3, h4)) d s4) (i, omega (arith, h2, h3, h4), (λ x. refl))))))

    head_runs : (i : ℕ) → Before r nests i → Runs r (λ x. head nests) i (head nests (later i r))
    unfolding head
    head_runs i d =
        round_then (λ x. eat s.Int >> named_head) i d (λ w.
        eat_next r s.Int (λ x y. named_head) (suc i)
        (λ e. named_head_runs (suc (suc i)) (within_on r nests (suc i) (suc (suc i)) (omega arith) w (w.0, ap is_sound e)))
        (λ e. named_head_runs (suc i) w))

    abbrev to_made : ℕ → Target → AssignSign → Value → ℕ → Parser Assign
    to_made from found mark right to = expect s.Semicolon >> pure (record { body = record { from = from; to = to }; target = found; sign = mark; value = right })

    abbrev from_made : ℕ → Parser Assign
    from_made from = target nests (below nests) >>= (λ found. assigned >>= (λ mark. value nests (below nests) >>= (λ right. position >>= to_made from found mark right)))

    assign_runs : (i : ℕ) → Before r nests i → Runs r (λ x. assign nests) i (assign nests (later i r))
    unfolding assign
    assign_runs i d =
        position_then r (λ x. from_made) i _
        (bind r (λ x. target nests (below nests)) _ i (target_runs r nests (inner_runs r nests) i d) (λ found k1 h1 s1.
        bind r (λ x. assigned) _ k1 (assigned_runs k1 s1) (λ mark k2 h2 s2.
        bind r (λ x. value nests (below nests)) _ k2 (value_runs r nests (inner_runs r nests) k2 (before_on r nests i k2 (omega (arith, h1, h2)) d s2)) (λ right k3 h3 s3.
        position_then r (λ x. to_made (start (later i x)) (found x) (mark x) (right x)) k3 _
        (expect_next r s.Semicolon _ k3 refl s3 (λ k4 h4 s4. pure_runs r _ k4 s4))))))

-- ---- statements

-- so many tokens were taken, and a nest or a loop that is opened beyond its limit has as many openings before it
abbrev pub Ahead : Reading → ℕ → ℕ → ℕ → Type 0
Ahead r n l i = Sound i r × (max_nests ≤ n + nests_among i r) × (max_loops ≤ l + loops_among i r)

ahead_on : (r : Reading) (n l i k : ℕ) → i ≤ k → Ahead r n l i → Sound k r → Ahead r n l k
ahead_on r n l i k h d sound = let m = more_nests i k r h in let p = more_loops i k r h in (sound, omega (arith, d.1, m), omega (arith, d.2, p))

-- the same in one nest more
abbrev Nested : Reading → ℕ → ℕ → ℕ → Type 0
Nested r n l i = Sound i r × (max_nests < n + nests_among i r) × (max_loops ≤ l + loops_among i r)

nested_on : (r : Reading) (n l i k : ℕ) → i ≤ k → Nested r n l i → Sound k r → Nested r n l k
nested_on r n l i k h d sound = let m = more_nests i k r h in let p = more_loops i k r h in (sound, omega (arith, d.1, m), omega (arith, d.2, p))

enter_nest : (r : Reading) (n l i : ℕ) (k : Symbol) → Ahead r n l i → symbol (later i r) ≡ k → is_sound k ≡ true → opens_nest k ≡ 1 → Nested r n l (suc i)
enter_nest r n l i k d e good one =
    let w : opens_nest (symbol (later i r)) ≡ 1 = ap opens_nest e ∙ one in
    ((d.0, ap is_sound e ∙ good), omega (arith, d.1, w), omega (arith, d.2))

module _ (r : Reading) (nests loops : ℕ) (inner body : Parser Node) (P : Reading → Node → Reading → Type 0) (taken : (m : Reading) → Takes m (P m) (inner m))
    (inners : (i : ℕ) → Nested r nests loops i → Runs r (λ x. inner) i (inner (later i r)))
    (bodies : (i : ℕ) → Sound i r → max_nests ≤ nests + nests_among i r → max_loops < loops + loops_among i r → Runs r (λ x. body) i (body (later i r))) where
  loop_then : {B : Type 0} (q : Reading → Parser B) (i : ℕ) → Ahead r nests loops i → symbol (later i r) ≡ s.For → Runs r q i (q r (later i r))
      → Runs r (λ x. open_loop loops >> q x) i ((open_loop loops >> q r) (later i r))
  unfolding open_loop
  loop_then q i d e h = limit_then r (loops == 0) q (q r) i d.0 (λ f. let z : loops ≡ 0 = eqb-true loops 0 f in inl (e, omega (arith, d.2, z))) (λ f. h)

  for_runs : (i : ℕ) → Ahead r nests loops i → symbol (later i r) ≡ s.For → Runs r (λ x. for_loop nests loops body) i (for_loop nests loops body (later i r))
  unfolding for_loop
  for_runs i d e =
      let on : Sound (suc i) r = (d.0, ap is_sound e) in
      let w : opens_loop (symbol (later i r)) ≡ 1 = ap opens_loop e in
      let a : Ahead r nests loops (suc i) = ahead_on r nests loops i (suc i) (omega arith) d on in
      loop_then _ i d e (take_next r _ i (bind r (λ x. head nests) _ (suc i) (head_runs r nests (suc i) (on, a.1)) (λ h k ik sound.
      let p = more_loops (suc i) k r ik in
      bind r (λ x. body) _ k (bodies k sound (ahead_on r nests loops (suc i) k ik a sound).1 (omega (arith, d.2, p, w))) (λ t l kl far. pure_runs r _ l far))))

  branch_runs : (i : ℕ) → Nested r nests loops i → Runs r (λ x. branch nests inner) i (branch nests inner (later i r))
  unfolding branch
  branch_runs i d =
      peek_then r (λ x kind. if begins_statement kind then open_nest nests >> inner else refuse) i _ (choose_next r (begins_statement (symbol (later i r))) (λ x. open_nest nests >> inner) (λ x. refuse) i
      (λ e. open_next r nests (λ x. inner) i d.0 (omega (arith, d.1)) (λ some. inners i d))
      (λ e. refuse_runs r Node i d.0))

  abbrev other_branch : Bool → Parser (Option Node)
  other_branch is_else = if is_else then (do found ← branch nests inner; pure (Some found)) else pure None

  else_runs : (i : ℕ) → Nested r nests loops i → Runs r (λ x. else_branch nests inner) i (else_branch nests inner (later i r))
  unfolding else_branch
  else_runs i d =
      eat_next r s.Else (λ x. other_branch) i
      (λ e. bind r (λ x. branch nests inner) _ (suc i) (branch_runs (suc i) (nested_on r nests loops i (suc i) (omega arith) d (d.0, ap is_sound e))) (λ t k ik sound. pure_runs r _ k sound))
      (λ e. pure_runs r (λ x. None) i d.0)

  if_runs : (i : ℕ) → Ahead r nests loops i → symbol (later i r) ≡ s.If → Runs r (λ x. if_branch nests inner) i (if_branch nests inner (later i r))
  unfolding if_branch
  if_runs i d e =
      let n : Nested r nests loops (suc i) = enter_nest r nests loops i s.If d e refl refl in
      take_next r _ i (round_then r nests _ (suc i) (n.0, omega (arith, n.1)) (λ w.
      bind r (λ x. (below nests).value) _ (suc (suc i)) ((inner_runs r nests).value (suc (suc i)) w) (λ condition k2 h2 s2.
      expect_next r s.CloseRound _ k2 refl s2 (λ k3 h3 s3.
      bind r (λ x. branch nests inner) _ k3 (branch_runs k3 (nested_on r nests loops (suc i) k3 (omega (arith, h2, h3)) n s3)) (λ one k4 h4 s4.
      bind r (λ x. else_branch nests inner) _ k4 (else_runs k4 (nested_on r nests loops (suc i) k4 (omega (arith, h2, h3, h4)) n s4)) (λ more k5 h5 s5. pure_runs r _ k5 s5))))))

  abbrev Item : (List Node → Parser (List Node)) → List Node → Bool → Parser (List Node)
  Item f found is_closed = if is_closed then pure found else (inner >>= (λ next. f (found ++ next ∷ [])))

  abbrev Items : (List Node → Parser (List Node)) → List Node → Parser (List Node)
  Items f found = eat s.CloseCurly >>= Item f found

  items_turn : (n : ℕ) (found : List Node) (m : Reading) → block_from inner (suc n) found m ≡ Items (block_from inner n) found m
  unfolding block_from
  items_turn n found m = refl

  items_alike : (f g : List Node → Parser (List Node)) (found : List Node) (m : Reading) → ((y : List Node) (l : Reading) → left l < left m → f y l ≡ g y l) → Items f found m ≡ Items g found m
  unfolding after_if
  items_alike f g found m h = go (sees s.CloseCurly m)
    where
      go : (b : Bool) → Item f found b (if b then after m else m) ≡ Item g found b (if b then after m else m)
      go true = refl
      go false = alike_far m (P m) (inner m) _ _ (taken m) (λ a l d. h (found ++ a ∷ []) l d)

  abbrev More : List Node → Parser (List Node)
  More = again r (block_from inner) Items items_turn items_alike

  items_step : (n : ℕ) (found : Reading → List Node) (i : ℕ) → Nested r nests loops i
      → ((y : Reading → List Node) (k : ℕ) → i < k → Sound k r → Nested r nests loops k → Runs r (λ z. More (y z)) k (block_from inner n (y r) (later k r)))
      → Runs r (λ z. Items More (found z)) i (Items (block_from inner n) (found r) (later i r))
  items_step n found i d rec =
      eat_then r s.CloseCurly (λ z. Item More (found z)) (Item (block_from inner n) (found r)) i
      (λ e. pure_runs r found (suc i) (d.0, ap is_sound e))
      (λ e. runs_far r (λ z. inner) (λ z next. More (found z ++ next ∷ [])) (λ next. block_from inner n (found r ++ next ∷ [])) i (P (later i r)) (inner (later i r))
      (inners i d) (taken (later i r)) (λ v k ik sound. rec (λ z. found z ++ v z ∷ []) k ik sound (nested_on r nests loops i k (omega (arith, ik)) d sound)))

  items_run : (i : ℕ) → Nested r nests loops i → Runs r (λ x. block_nodes inner) i (block_nodes inner (later i r))
  unfolding block_nodes
  items_run i d = loop_runs r (block_from inner) Items items_turn items_alike (Nested r nests loops) items_step (left (later i r)) (λ z. []) i d (omega arith)

  block_runs : (i : ℕ) → Ahead r nests loops i → symbol (later i r) ≡ s.OpenCurly → Runs r (λ x. block nests inner) i (block nests inner (later i r))
  unfolding block
  block_runs i d e =
      open_next r nests _ i d.0 d.1 (λ some.
      take_next r _ i (bind r (λ x. block_nodes inner) _ (suc i) (items_run (suc i) (enter_nest r nests loops i s.OpenCurly d e refl refl)) (λ nodes k ik sound. pure_runs r _ k sound)))

  by_runs : (k : Symbol) (i : ℕ) → Ahead r nests loops i → symbol (later i r) ≡ k → Runs r (λ x. statement_by nests loops inner body k) i (statement_by nests loops inner body k (later i r))
  by_runs s.For i d e = for_runs i d e
  by_runs s.If i d e = if_runs i d e
  by_runs s.OpenCurly i d e = block_runs i d e
  by_runs s.Semicolon i d e = take_next r (λ x. pure node.Empty) i (pure_runs r (λ x. node.Empty) (suc i) (d.0, ap is_sound e))
  by_runs s.Name i d e = bind r (λ x. assign nests) _ i (assign_runs r nests i (d.0, d.1)) (λ a k ik sound. pure_runs r _ k sound)
  by_runs _ i d e = refuse_runs r Node i d.0

  pub rule_runs : (i : ℕ) → Ahead r nests loops i → Runs r (λ x. statement_rule nests loops inner body) i (statement_rule nests loops inner body (later i r))
  unfolding statement_rule
  rule_runs i d = peek_then r (λ x. statement_by nests loops inner body) i _ (by_runs (symbol (later i r)) i d refl)

pub level_runs : (r : Reading) (nests : ℕ) (inner : ℕ → Parser Node) (P : ℕ → Reading → Node → Reading → Type 0) → ((l : ℕ) (m : Reading) → Takes m (P l m) (inner l m))
    → ((l : ℕ) (i : ℕ) → Nested r nests l i → Runs r (λ x. inner l) i (inner l (later i r))) → (loops : ℕ) (i : ℕ) → Ahead r nests loops i → Runs r (λ x. level nests inner loops) i (level nests inner loops (later i r))
unfolding level
level_runs r nests inner P taken h zero i d =
    rule_runs r nests zero (inner zero) refuse (P zero) (taken zero) (h zero) (λ k sound x y. refuse_runs r Node k sound) i d
level_runs r nests inner P taken h (suc loops) i d =
    rule_runs r nests (suc loops) (inner (suc loops)) (level nests inner loops) (P (suc loops)) (taken (suc loops)) (h (suc loops))
    (λ k sound x y. level_runs r nests inner P taken h loops k (sound, x, omega (arith, y))) i d

nothing_taken : (l : ℕ) (m : Reading) → Takes {A = Node} m (λ t x. Unit {0}) (refuse m)
nothing_taken l m = tt

pub statement_runs : (r : Reading) (nests loops : ℕ) (i : ℕ) → Ahead r nests loops i → Runs r (λ x. statement nests loops) i (statement nests loops (later i r))
unfolding statement
statement_runs r zero loops i d = level_runs r zero (λ loops. refuse) (λ l m t x. Unit {0}) nothing_taken (λ l k x. refuse_runs r Node k x.0) loops i d
statement_runs r (suc nests) loops i d =
    level_runs r (suc nests) (statement nests) _ (statement_takes nests) (λ l k x. statement_runs r nests l k (x.0, omega (arith, x.1), x.2)) loops i d

module _ (r : Reading) where
  abbrev One : (List Node → Parser (List Node)) → List Node → Parser (List Node)
  One f found = statement max_nests max_loops >>= (λ next. f (found ++ next ∷ []))

  abbrev NodesBy : (List Node → Parser (List Node)) → List Node → Symbol → Parser (List Node)
  NodesBy f found kind = if same_symbol kind s.End then pure found else One f found

  abbrev Nodes : (List Node → Parser (List Node)) → List Node → Parser (List Node)
  Nodes f found = peek >>= NodesBy f found

  nodes_turn : (n : ℕ) (found : List Node) (m : Reading) → region_from (suc n) found m ≡ Nodes (region_from n) found m
  unfolding region_from
  nodes_turn n found m = refl

  nodes_alike : (f g : List Node → Parser (List Node)) (found : List Node) (m : Reading) → ((y : List Node) (l : Reading) → left l < left m → f y l ≡ g y l) → Nodes f found m ≡ Nodes g found m
  nodes_alike f g found m h = go (same_symbol (symbol m) s.End)
    where
      go : (b : Bool) → (if b then pure found else One f found) m ≡ (if b then pure found else One g found) m
      go true = refl
      go false = alike_far m _ (statement max_nests max_loops m) _ _ (statement_takes max_nests max_loops m) (λ a l d. h (found ++ a ∷ []) l d)

  abbrev MoreNodes : List Node → Parser (List Node)
  MoreNodes = again r region_from Nodes nodes_turn nodes_alike

  nodes_step : (n : ℕ) (found : Reading → List Node) (i : ℕ) → Sound i r
      → ((y : Reading → List Node) (k : ℕ) → i < k → Sound k r → Sound k r → Runs r (λ z. MoreNodes (y z)) k (region_from n (y r) (later k r)))
      → Runs r (λ z. Nodes MoreNodes (found z)) i (Nodes (region_from n) (found r) (later i r))
  nodes_step n found i sound rec =
      peek_then r (λ z. NodesBy MoreNodes (found z)) i _ (choose r (same_symbol (symbol (later i r)) s.End)
      (λ z. pure (found z)) (λ z. One MoreNodes (found z)) (pure (found r)) (One (region_from n) (found r)) i
      (λ e. pure_runs r found i sound)
      (λ e. runs_far r (λ z. statement max_nests max_loops) (λ z next. MoreNodes (found z ++ next ∷ [])) (λ next. region_from n (found r ++ next ∷ [])) i _ (statement max_nests max_loops (later i r))
      (statement_runs r max_nests max_loops i (sound, omega arith, omega arith)) (statement_takes max_nests max_loops (later i r)) (λ v k ik on. rec (λ z. found z ++ v z ∷ []) k ik on on)))

  pub region_runs : Runs r (λ x. region) 0 (region r)
  unfolding region
  region_runs = loop_runs r region_from Nodes nodes_turn nodes_alike (λ i. Sound i r) nodes_step (left r) (λ z. []) 0 tt (omega arith)
