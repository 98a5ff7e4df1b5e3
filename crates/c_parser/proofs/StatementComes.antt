-- The rules of statements come to each tree that their productions derive.
use Rattle.std.proofs.Common.{◌≡◌, ℕ, zero, suc, ◌≤◌, ◌<◌, ◌==◌, Bool, true, false, if◌then◌else◌, List, [], ◌∷◌, ◌++◌, Option, Some, None, Ok, Err, inl, inr, refl, ap, sym, subst, ◌∙◌, arith, append_assoc}
use Rattle.std.proofs.lemmas.List.{append-nil}
use Rattle.std.proofs.lemmas.Slice.Eq.{bytes_eq-Decides}
use Rattle.suite_base.specs.Limits.{max_nests, max_loops}
use Rattle.c_lexer.specs.declared.symbols.Symbol.{Symbol}
use Rattle.c_lexer.specs.declared.symbols.Symbol.TheVariants as s
use Rattle.c_lexer.specs.declared.pieces.Piece.{Piece}
use Rattle.c_lexer.specs.declared.stops.Stop.TheVariants.{Refused}
use Rattle.c_lexer.specs.Readings.{Reading}
use Rattle.c_lexer.specs.Input.{Parser, and_then, ◌>>=◌, ◌>>◌, pure, refuse, take_token, eat, expect, open_nest, left, symbol, start, piece, after, same_text, sees_name, same_name, open_loop}
use Rattle.c_lexer.specs.Input.{here}
use Rattle.c_lexer.specs.Pieces.{bytes_of}
use Rattle.c_lexer.proofs.TokenFacts.{same_is, sees_it, not_true}
use Rattle.c_parser.specs.declared.tree.Rel.{Rel}
use Rattle.c_parser.specs.declared.tree.Step.{Step}
use Rattle.c_parser.specs.declared.tree.Step.TheVariants as st
use Rattle.c_parser.specs.declared.tree.AssignSign.{AssignSign}
use Rattle.c_parser.specs.declared.tree.AssignSign.TheVariants as sign
use Rattle.c_parser.specs.declared.tree.Assign.{Assign}
use Rattle.c_parser.specs.declared.tree.Node.{Node}
use Rattle.c_parser.specs.declared.tree.Node.TheVariants as node
use Rattle.c_parser.specs.declared.heads.Head.{Head}
use Rattle.c_parser.specs.Values.{rel_sign, below}
use Rattle.c_parser.specs.Statements.{assign_sign, is_upward, rel, assigned, add_sign, pre_step, post_step, number_step, step_behind, step, open_round, head_rest, head, assign, begins_statement, loop_of, branch_of, block_from, for_loop, branch, else_branch, if_branch, block_nodes, block, statement_by, statement_rule, level, statement, inner, body, region_from, region}
use Rattle.c_parser.specs.Grammar as g
use Rattle.c_parser.specs.Grammar.{Phrase, ◌then◌, token, word, empty, each, rel_token, nested}
use Rattle.c_parser.specs.Derivations as d
use Rattle.c_parser.specs.Derivations.{assign_token, same, is_up, Derived}
use Rattle.std.proofs.lemmas.Bool.Decides.{eqb_tells}
use Rattle.suite_base.specs.declared.places.Place.{Place}
use Rattle.suite_base.specs.declared.refusals.Refusal.TheVariants.{TooDeep}
use Rattle.c_parser.specs.declared.tree.Value.{Value}
use Rattle.c_parser.proofs.Yields.{Takes, some_nests}
use Rattle.c_parser.proofs.StatementYields.{statement_takes}
use Rattle.c_parser.proofs.Comes.{token_then, power, ends, other, Comes, Room, less_room, then_comes, goes_far, expect_comes, word_comes, open_comes, opened_comes, eat_yes, eat_no, choose_yes, choose_no}
use Rattle.c_parser.proofs.ValueComes.{rel_forth, target_comes, value_comes, nested_full}

assign_forth : (x : AssignSign) → assign_sign (assign_token x) ≡ Some x
assign_forth sign.Plain = refl
assign_forth sign.Plus = refl
assign_forth sign.Minus = refl
assign_forth sign.Times = refl
assign_forth sign.Divide = refl
assign_forth sign.Remainder = refl

assign_power : (x : AssignSign) → power (assign_token x) ≡ 8
assign_power sign.Plain = refl
assign_power sign.Plus = refl
assign_power sign.Minus = refl
assign_power sign.Times = refl
assign_power sign.Divide = refl
assign_power sign.Remainder = refl

begun : (nests loops : ℕ) (inner body : Node → Phrase) (t : Node) (r m : Reading) → d.IsStatement nests loops inner body t r m → begins_statement (symbol r) ≡ true
begun nests loops inner body t r m (d.IsStatement.loop h repeated is some x) = ap begins_statement x.1.0
begun nests loops inner body t r m (d.IsStatement.choice condition one other is x) = ap begins_statement x.1.0
begun nests loops inner body t r m (d.IsStatement.block nodes is x) = ap begins_statement x.1.1.0
begun nests loops inner body t r m (d.IsStatement.assign a is x) = ap begins_statement (ap symbol x.1.1 ∙ x.2.1.derived.1.0)
begun nests loops inner body t r m (d.IsStatement.blank is x) = ap begins_statement x.0

pub begins_so : (wanted limit : ℕ) (t : Node) (r m : Reading) → d.statement wanted limit t r m → begins_statement (symbol r) ≡ true
begins_so zero zero t r m x = begun _ _ _ _ t r m x
begins_so zero (suc limit) t r m x = begun _ _ _ _ t r m x
begins_so (suc wanted) zero t r m x = begun _ _ _ _ t r m x
begins_so (suc wanted) (suc limit) t r m x = begun _ _ _ _ t r m x

module _ (Deep : Type 0) where
  token_comes : (k : Symbol) (r m : Reading) → token k r m → Comes Deep (piece r) m (expect k r)
  unfolding expect
  token_comes k r m d = rw (sees_it k r d.0) (refl, d.1)

  named_comes : (k : Symbol) (p : Piece) (r m : Reading) → word k p r m → Comes Deep p m (expect k r)
  unfolding expect
  named_comes k p r m d = rw (sees_it k r d.0) (d.1, d.2)

  same_comes : (name : Piece) (r m : Reading) → same name r m → Comes Deep tt m (same_name name r)
  unfolding same_name sees_name
  same_comes name r m d =
      let n : same_text r.text name (piece r) ≡ true = (bytes_eq-Decides (bytes_of r.text name) (bytes_of r.text (piece r))).1 (sym d.1) in
      rw (sees_it s.Name r d.0, n) (refl, d.2)

  rel_comes : (x : Rel) (r m : Reading) → token (rel_token x) r m → Comes Deep x m (rel r)
  unfolding rel
  rel_comes x r m d = let e : rel_sign (symbol r) ≡ Some x = ap rel_sign d.0 ∙ rel_forth x in rw e (refl, d.1)

  assigned_comes : (x : AssignSign) (r m : Reading) → token (assign_token x) r m → Comes Deep x m (assigned r)
  unfolding assigned
  assigned_comes x r m d = let e : assign_sign (symbol r) ≡ Some x = ap assign_sign d.0 ∙ assign_forth x in rw e (refl, d.1)

  -- ---- the head of a loop

  first : (up : Bool) (name : Piece) → Bool → Parser Step
  first up name is_first = if is_first then (do same_name name; pure (pre_step up)) else step_behind up name

  second : (up : Bool) → Bool → Parser Step
  second up is_one = if is_one then pure (post_step up) else (do expect (add_sign up); number ← expect s.Integer; pure (number_step up number))

  step_comes : (name : Piece) (x : Step) (r m : Reading) → d.step name x r m → Comes Deep x m (step (is_up x) name r)
  unfolding step step_behind first second
  step_comes name st.PreUp r m d =
      let a = token_then s.Increment r (λ z. same name z m) d in
      eat_yes Deep st.PreUp m s.Increment r (first true name) a.0 (then_comes Deep tt m st.PreUp m _ _ (same_comes name (after r) m a.1) (refl, refl))
  step_comes name st.PreDown r m d =
      let a = token_then s.Decrement r (λ z. same name z m) d in
      eat_yes Deep st.PreDown m s.Decrement r (first false name) a.0 (then_comes Deep tt m st.PreDown m _ _ (same_comes name (after r) m a.1) (refl, refl))
  step_comes name st.PostUp r m d =
      eat_no Deep st.PostUp m s.Increment r (first true name) (λ e. let f : s.Name ≡ s.Increment = sym d.1.0 ∙ e in absurd (cc))
      (then_comes Deep tt d.0 st.PostUp m _ _ (same_comes name r d.0 d.1)
      (eat_yes Deep st.PostUp m s.Increment d.0 (second true) d.2.0 (refl, d.2.1)))
  step_comes name st.PostDown r m d =
      eat_no Deep st.PostDown m s.Decrement r (first false name) (λ e. let f : s.Name ≡ s.Decrement = sym d.1.0 ∙ e in absurd (cc))
      (then_comes Deep tt d.0 st.PostDown m _ _ (same_comes name r d.0 d.1)
      (eat_yes Deep st.PostDown m s.Decrement d.0 (second false) d.2.0 (refl, d.2.1)))
  step_comes name (st.AddUp number) r m d =
      let a = token_then s.PlusAssign d.0 (λ z. word s.Integer number z m) d.2 in
      eat_no Deep (st.AddUp number) m s.Increment r (first true name) (λ e. let f : s.Name ≡ s.Increment = sym d.1.0 ∙ e in absurd (cc))
      (then_comes Deep tt d.0 (st.AddUp number) m _ _ (same_comes name r d.0 d.1)
      (eat_no Deep (st.AddUp number) m s.Increment d.0 (second true) (λ e. let f : s.PlusAssign ≡ s.Increment = sym a.0 ∙ e in absurd (cc))
      (then_comes Deep (piece d.0) (after d.0) (st.AddUp number) m _ _ (expect_comes Deep s.PlusAssign d.0 a.0)
      (then_comes Deep number (after (after d.0)) (st.AddUp number) m _ _ (word_comes Deep s.Integer number (after d.0) a.1.0 a.1.1) (refl, a.1.2)))))
  step_comes name (st.SubDown number) r m d =
      let a = token_then s.MinusAssign d.0 (λ z. word s.Integer number z m) d.2 in
      eat_no Deep (st.SubDown number) m s.Decrement r (first false name) (λ e. let f : s.Name ≡ s.Decrement = sym d.1.0 ∙ e in absurd (cc))
      (then_comes Deep tt d.0 (st.SubDown number) m _ _ (same_comes name r d.0 d.1)
      (eat_no Deep (st.SubDown number) m s.Decrement d.0 (second false) (λ e. let f : s.MinusAssign ≡ s.Decrement = sym a.0 ∙ e in absurd (cc))
      (then_comes Deep (piece d.0) (after d.0) (st.SubDown number) m _ _ (expect_comes Deep s.MinusAssign d.0 a.0)
      (then_comes Deep number (after (after d.0)) (st.SubDown number) m _ _ (word_comes Deep s.Integer number (after d.0) a.1.0 a.1.1) (refl, a.1.2)))))

  round_cases : {B : Type 0} (b : B) (n r : Reading) (wanted nests : ℕ) (p : Place) (f : Unit {0} → Parser B) (t : Bool) → (nests == 0) ≡ t → Room Deep wanted nests → 0 < wanted
      → (0 < nests → Comes Deep b n (f tt (after r))) → Comes Deep b n (and_then (and_then (if t then Err (Refused (TooDeep p)) else Ok (tt, r)) (λ (x : Unit {0}). take_token >> pure tt)) f)
  round_cases b n r wanted nests p f true e (inl h) some k = elim (eqb_tells nests 0) [ inl (x, y) ↦ absurd (omega (arith, y)) | inr (x, y) ↦ not_true e x ]
  round_cases b n r wanted nests p f true e (inr d) some k = d
  round_cases b n r wanted nests p f false e h some k = k (some_nests nests e)

  round_comes : {B : Type 0} (b : B) (n r : Reading) (wanted nests : ℕ) (f : Unit {0} → Parser B) → Room Deep wanted nests → 0 < wanted → symbol r ≡ s.OpenRound
      → (0 < nests → Comes Deep b n (f tt (after r))) → Comes Deep b n ((open_round nests >>= f) r)
  unfolding open_round open_nest
  round_comes b n r wanted nests f h some e k = rw (same_is (symbol r) s.OpenRound e) (round_cases b n r wanted nests (here r) f (nests == 0) refl h some k)

  module _ (wanted nests : ℕ) (room : Room Deep wanted nests) where
    rest_comes : 0 < nests → (h : Head) (r m : Reading) → is_up h.step ≡ is_upward h.rel → d.second_half wanted h r m → Comes Deep h m (head_rest nests h.name h.start r)
    unfolding head_rest
    rest_comes some h r m up (r1, one, (r2, two, (r3, three, (r4, four, (r5, five, (r6, six, seven)))))) =
        let walk : d.step h.name h.step r4 r6 = subst (λ z. d.step h.name h.step z r6) (sym five.1) six in
        then_comes Deep tt r1 h m _ _ (same_comes h.name r r1 one)
        (then_comes Deep h.rel r2 h m _ _ (rel_comes h.rel r1 r2 two)
        (then_comes Deep h.bound r3 h m _ _ ((nested_full Deep wanted nests room some).sum h.bound r2 r3 three (ends s.Semicolon r3 3 four.0 (omega arith)))
        (then_comes Deep (piece r3) r4 h m _ _ (token_comes s.Semicolon r3 r4 four)
        (then_comes Deep h.step r6 h m (step (is_upward h.rel) h.name r4) _ (subst (λ u. Comes Deep h.step r6 (step u h.name r4)) up (step_comes h.name h.step r4 r6 walk))
        (then_comes Deep (piece r6) m h m _ _ (token_comes s.CloseRound r6 m seven)
        (ap (λ at. record { name = h.name; start = h.start; rel = h.rel; bound = h.bound; step = h.step; step_at = at }) five.0, refl))))))

    declared_comes : {B : Type 0} (b : B) (n r m : Reading) (f : Parser B) → d.declared r m → symbol m ≡ s.Name → Comes Deep b n (f m) → Comes Deep b n ((eat s.Int >> f) r)
    declared_comes b n r m f (inl x) e k = eat_yes Deep b n s.Int r (λ y. f) x.0 (subst (λ z. Comes Deep b n (f z)) (sym x.1) k)
    declared_comes b n r m f (inr x) e k =
        eat_no Deep b n s.Int r (λ y. f) (λ i. let g : s.Name ≡ s.Int = sym e ∙ (sym (ap symbol x) ∙ i) in absurd (cc)) (subst (λ z. Comes Deep b n (f z)) (sym x) k)

    abbrev named_head : Parser Head
    named_head = do
      name ← expect s.Name
      expect s.Assign
      start ← (below nests).sum
      expect s.Semicolon
      head_rest nests name start

    head_comes : (h : Head) (r m : Reading) → d.head wanted h r m → Comes Deep h m (head nests r)
    unfolding head
    head_comes h r m (up, (some, (r1, one, (r2, two, (r3, three, (r4, four, (r5, five, (r6, six, seven)))))))) =
        round_comes h m r wanted nests _ room some one.0 (λ nest.
        subst (λ z. Comes Deep h m ((eat s.Int >> named_head) z)) (sym one.1)
        (declared_comes h m r1 r2 named_head two three.0
        (then_comes Deep h.name r3 h m (expect s.Name r2) _ (named_comes s.Name h.name r2 r3 three)
        (then_comes Deep (piece r3) r4 h m (expect s.Assign r3) _ (token_comes s.Assign r3 r4 four)
        (then_comes Deep h.start r5 h m _ _ ((nested_full Deep wanted nests room nest).sum h.start r4 r5 five (ends s.Semicolon r5 3 six.0 (omega arith)))
        (then_comes Deep (piece r5) r6 h m _ _ (token_comes s.Semicolon r5 r6 six)
        (rest_comes nest h r6 m up seven)))))))

    assign_comes : (a : Assign) (r m : Reading) → d.assignment wanted a r m → Comes Deep a m (assign nests r)
    unfolding assign
    assign_comes a r m (r0, front, (r1, one, (r2, two, (r3, three, (r4, four, five))))) =
        let begun : g.IsTarget wanted (nested wanted) a.target r r1 = subst (λ z. g.IsTarget wanted (nested wanted) a.target z r1) (sym front.1) one in
        let ended : token s.Semicolon r3 m = subst (λ z. token s.Semicolon z m) (sym four.1) five in
        then_comes Deep a.target r1 a m _ _ (target_comes Deep wanted nests room (nested_full Deep wanted nests room) a.target r r1 begun (ends (assign_token a.sign) r1 1 two.0 (omega (arith, assign_power a.sign))))
        (then_comes Deep a.sign r2 a m _ _ (assigned_comes a.sign r1 r2 two)
        (then_comes Deep a.value r3 a m _ _ (value_comes Deep wanted nests room (nested_full Deep wanted nests room) a.value r2 r3 three (ends s.Semicolon r3 8 ended.0 (omega arith)))
        (then_comes Deep (piece r3) m a m _ _ (token_comes s.Semicolon r3 m ended) (
          ap (λ f. record { body = record { from = f; to = start r3 }; target = a.target; sign = a.sign; value = a.value }) front.0
              ∙ ap (λ t. record { body = record { from = a.body.from; to = t }; target = a.target; sign = a.sign; value = a.value }) four.0,
          refl,
        ))))

-- ---- statements

-- a rule of statements comes to what its form derives
pub record Whole (Deep : Type 0) (rule : Parser Node) (form : Node → Phrase) : Type 0 where
  pub comes : (t : Node) (r m : Reading) → form t r m → Comes Deep t m (rule r)
  pub begins : (t : Node) (r m : Reading) → form t r m → begins_statement (symbol r) ≡ true

module _ (Deep : Type 0) (wanted nests limit loops : ℕ) (room : Room Deep wanted nests) (space : Room Deep limit loops) (inner body : Parser Node) (nest_form loop_form : Node → Phrase)
    (P : Reading → Node → Reading → Type 0) (taken : (r : Reading) → Takes r (P r) (inner r)) (inners : 0 < nests → Whole Deep inner nest_form) (bodies : 0 < loops → Whole Deep body loop_form) where
  some_loops : {B : Type 0} (b : B) (n r : Reading) (q : Parser B) → 0 < limit → (0 < loops → Comes Deep b n (q r)) → Comes Deep b n ((open_loop loops >> q) r)
  unfolding open_loop
  some_loops b n r q some k = open_comes Deep b n r limit loops (here r) q (loops == 0) refl space some k

  for_comes : (h : Head) (repeated : Node) (t : Node) (r m : Reading) → node.For (loop_of h repeated) ≡ t → 0 < limit
      → (token s.For then d.head wanted h then loop_form repeated) r m → Comes Deep t m (for_loop nests loops body r)
  unfolding for_loop
  for_comes h repeated t r m is some (r1, one, (r2, two, three)) =
      some_loops t m r _ some (λ loop.
      then_comes Deep h r2 t m (head nests (after r)) _ (subst (λ z. Comes Deep h r2 (head nests z)) (sym one.1) (head_comes Deep wanted nests room h r1 r2 two))
      (then_comes Deep repeated m t m (body r2) _ ((bodies loop).comes repeated r2 m three) (is, refl)))

  branch_comes : (t : Node) (r m : Reading) → g.nest wanted (nest_form t) r m → begins_statement (symbol r) ≡ true → Comes Deep t m (branch nests inner r)
  unfolding branch
  branch_comes t r m x e = rw e (opened_comes Deep t m r wanted nests inner room x.0 (λ some. (inners some).comes t r m x.1))

  else_comes : (t : Option Node) (r m : Reading) → d.alternative wanted limit nest_form loop_form t r m → ((o : Node) (x y : Reading) → nest_form o x y → begins_statement (symbol x) ≡ true)
      → Comes Deep t m (else_branch nests inner r)
  unfolding else_branch
  else_comes None r m x begins = eat_no Deep None m s.Else r (λ is_else. if is_else then (do found ← branch nests inner; pure (Some found)) else pure None) x.0 (refl, x.1)
  else_comes (Some o) r m x begins =
      let a = token_then s.Else r (λ z. g.nest wanted (nest_form o) z m) x in
      eat_yes Deep (Some o) m s.Else r (λ is_else. if is_else then (do found ← branch nests inner; pure (Some found)) else pure None) a.0
      (then_comes Deep o m (Some o) m (branch nests inner (after r)) _ (branch_comes o (after r) m a.1 (begins o (after r) m a.1.1)) (refl, refl))

  choice_comes : ((o : Node) (x y : Reading) → nest_form o x y → begins_statement (symbol x) ≡ true) → (condition : Value) (one : Node) (more : Option Node) (t : Node) (r m : Reading)
      → branch_of condition one more ≡ t
      → (token s.If then g.nest wanted (token s.OpenRound then (nested wanted).value condition then token s.CloseRound) then g.nest wanted (nest_form one) then d.alternative wanted limit nest_form loop_form more) r m
      → Comes Deep t m (if_branch nests inner r)
  unfolding if_branch
  choice_comes begins condition one more t r m is (r1, mark, (r3, (some, (r4, round, (r5, tested, close))), (r6, chosen, otherwise))) =
      round_comes Deep t m (after r) wanted nests _ room some (ap symbol mark.1 ∙ round.0) (λ nest.
      then_comes Deep condition r5 t m ((below nests).value (after (after r))) _
      (subst (λ z. Comes Deep condition r5 ((below nests).value z)) (sym (ap after mark.1 ∙ round.1)) ((nested_full Deep wanted nests room nest).value condition r4 r5 tested (ends s.CloseRound r5 8 close.0 (omega arith))))
      (then_comes Deep (piece r5) r3 t m (expect s.CloseRound r5) _ (token_comes Deep s.CloseRound r5 r3 close)
      (then_comes Deep one r6 t m (branch nests inner r3) _ (branch_comes one r3 r6 chosen (begins one r3 r6 chosen.1))
      (then_comes Deep more m t m (else_branch nests inner r6) _ (else_comes more r6 m otherwise begins) (is, refl)))))

  nodes_come : 0 < nests → (nodes : List Node) (n : ℕ) (found : List Node) (r m l : Reading) → left r ≤ n → each nest_form nodes r m → token s.CloseCurly m l
      → Comes Deep (found ++ nodes) l (block_from inner n found r)
  unfolding block_from
  nodes_come some nodes zero found r m l fuel x close = absurd (omega arith)
  nodes_come some [] (suc n) found r m l fuel x close =
      eat_yes Deep (found ++ []) l s.CloseCurly r (λ is_closed. if is_closed then pure found else (do next ← inner; block_from inner n (found ++ next ∷ []))) (ap symbol x ∙ close.0)
      (sym (append-nil found), ap after x ∙ close.1)
  nodes_come some (t ∷ more) (suc n) found r m l fuel (r1, x, y) close =
      eat_no Deep (found ++ t ∷ more) l s.CloseCurly r (λ is_closed. if is_closed then pure found else (do next ← inner; block_from inner n (found ++ next ∷ [])))
      (λ e. let f : begins_statement (symbol r) ≡ true = (inners some).begins t r r1 x in let k : false ≡ true = sym (ap begins_statement e) ∙ f in absurd (cc))
      (goes_far Deep t r r1 (found ++ t ∷ more) l (P r) (inner r) _ (taken r) ((inners some).comes t r r1 x)
      (λ f. subst (λ k. Comes Deep k l (block_from inner n (found ++ t ∷ []) r1)) (append_assoc found (t ∷ []) more)
      (nodes_come some more n (found ++ t ∷ []) r1 m l (omega (arith, f, fuel)) y close)))

  block_comes : (nodes : List Node) (t : Node) (r m : Reading) → node.Block nodes ≡ t → g.nest wanted (token s.OpenCurly then each nest_form nodes then token s.CloseCurly) r m
      → Comes Deep t m (block nests inner r)
  unfolding block block_nodes
  block_comes nodes t r m is (some, (r1, opening, (r2, x, close))) =
      opened_comes Deep t m r wanted nests _ room some (λ nest.
      then_comes Deep nodes m t m (block_from inner (left (after r)) [] (after r)) _
      (nodes_come nest nodes (left (after r)) [] (after r) r2 m (omega arith) (subst (λ z. each nest_form nodes z r2) (sym opening.1) x) close) (is, refl))

  pub statement_comes : ((o : Node) (x y : Reading) → nest_form o x y → begins_statement (symbol x) ≡ true) → (t : Node) (r m : Reading) → d.IsStatement wanted limit nest_form loop_form t r m
      → Comes Deep t m (statement_rule nests loops inner body r)
  unfolding statement_rule
  statement_comes begins t r m (d.IsStatement.loop h repeated is some x) = subst (λ k. Comes Deep t m (statement_by nests loops inner body k r)) (sym x.1.0) (for_comes h repeated t r m is some x)
  statement_comes begins t r m (d.IsStatement.choice condition one other is x) =
      subst (λ k. Comes Deep t m (statement_by nests loops inner body k r)) (sym x.1.0) (choice_comes begins condition one other t r m is x)
  statement_comes begins t r m (d.IsStatement.block nodes is x) = subst (λ k. Comes Deep t m (statement_by nests loops inner body k r)) (sym x.1.1.0) (block_comes nodes t r m is x)
  statement_comes begins t r m (d.IsStatement.assign a is x) =
      subst (λ k. Comes Deep t m (statement_by nests loops inner body k r)) (sym (ap symbol x.1.1 ∙ x.2.1.derived.1.0))
      (then_comes Deep a m t m (assign nests r) _ (assign_comes Deep wanted nests room a r m x) (is, refl))
  statement_comes begins t r m (d.IsStatement.blank is x) = subst (λ k. Comes Deep t m (statement_by nests loops inner body k r)) (sym x.0) (is, x.1)

module _ (Deep : Type 0) (wanted nests : ℕ) (room : Room Deep wanted nests) (inner : ℕ → Parser Node) (form : ℕ → Node → Phrase)
    (P : ℕ → Reading → Node → Reading → Type 0) (taken : (l : ℕ) (r : Reading) → Takes r (P l r) (inner l r))
    (begins : (l : ℕ) (o : Node) (x y : Reading) → form l o x y → begins_statement (symbol x) ≡ true)
    (inners : (limit loops : ℕ) → Room Deep limit loops → 0 < nests → Whole Deep (inner loops) (form limit)) where
  pub level_whole : (limit loops : ℕ) → Room Deep limit loops → Whole Deep (level nests inner loops) (d.level wanted form limit)
  unfolding level
  level_whole zero zero space = record {
    comes = statement_comes Deep wanted nests zero zero room space (inner zero) refuse (form zero) (λ t. g.none) (P zero) (taken zero) (inners zero zero space) (λ some. absurd (omega arith)) (begins zero);
    begins = begun wanted zero (form zero) (λ t. g.none);
  }
  level_whole zero (suc loops) space = record {
    comes = statement_comes Deep wanted nests zero (suc loops) room space (inner (suc loops)) (level nests inner loops) (form zero) (λ t. g.none) (P (suc loops)) (taken (suc loops)) (inners zero (suc loops) space)
        (λ some. record { comes = λ t r m x. absurd x; begins = λ t r m x. absurd x }) (begins zero);
    begins = begun wanted zero (form zero) (λ t. g.none);
  }
  level_whole (suc limit) zero space = record {
    comes = statement_comes Deep wanted nests (suc limit) zero room space (inner zero) refuse (form (suc limit)) (d.level wanted form limit) (P zero) (taken zero) (inners (suc limit) zero space)
        (λ some. absurd (omega arith)) (begins (suc limit));
    begins = begun wanted (suc limit) (form (suc limit)) (d.level wanted form limit);
  }
  level_whole (suc limit) (suc loops) space =
      let less : Whole Deep (level nests inner loops) (d.level wanted form limit) = level_whole limit loops (less_room Deep limit loops space) in
      record {
        comes = statement_comes Deep wanted nests (suc limit) (suc loops) room space (inner (suc loops)) (level nests inner loops) (form (suc limit)) (d.level wanted form limit) (P (suc loops)) (taken (suc loops))
            (inners (suc limit) (suc loops) space) (λ some. less) (begins (suc limit));
        begins = begun wanted (suc limit) (form (suc limit)) (d.level wanted form limit);
      }

refuse_takes : (l : ℕ) (r : Reading) → Takes {A = Node} r (λ t m. Unit {0}) (refuse r)
refuse_takes l r = tt

pub statement_whole : (Deep : Type 0) (wanted nests : ℕ) → Room Deep wanted nests → (limit loops : ℕ) → Room Deep limit loops → Whole Deep (statement nests loops) (d.statement wanted limit)
unfolding statement
statement_whole Deep zero zero room limit loops space =
    level_whole Deep zero zero room (λ loops. refuse) (λ loops t. g.none) (λ l r t m. Unit {0}) refuse_takes (λ l o x y d. absurd d) (λ limit loops space some. absurd (omega arith)) limit loops space
statement_whole Deep zero (suc nests) room limit loops space =
    level_whole Deep zero (suc nests) room (statement nests) (λ loops t. g.none) _ (statement_takes nests) (λ l o x y d. absurd d)
    (λ limit loops space some. record { comes = λ t r m x. absurd x; begins = λ t r m x. absurd x }) limit loops space
statement_whole Deep (suc wanted) zero room limit loops space =
    level_whole Deep (suc wanted) zero room (λ loops. refuse) (d.statement wanted) (λ l r t m. Unit {0}) refuse_takes (begins_so wanted) (λ limit loops space some. absurd (omega arith)) limit loops space
statement_whole Deep (suc wanted) (suc nests) room limit loops space =
    level_whole Deep (suc wanted) (suc nests) room (statement nests) (d.statement wanted) _ (statement_takes nests) (begins_so wanted)
    (λ limit loops space some. statement_whole Deep wanted nests (less_room Deep wanted nests room) limit loops space) limit loops space

module _ (Deep : Type 0) (wanted limit : ℕ) (room : Room Deep wanted max_nests) (space : Room Deep limit max_loops) where
  from_comes : (nodes : List Node) (n : ℕ) (found : List Node) (r m : Reading) → left r ≤ n → each (d.statement wanted limit) nodes r m → symbol m ≡ s.End
      → Comes Deep (found ++ nodes) m (region_from n found r)
  unfolding region_from
  from_comes nodes zero found r m fuel x end = absurd (omega arith)
  from_comes [] (suc n) found r m fuel x end = choose_yes Deep (found ++ []) m r s.End _ _ (ap symbol x ∙ end) (sym (append-nil found), x)
  from_comes (t ∷ more) (suc n) found r m fuel (r1, x, y) end =
      let whole = statement_whole Deep wanted max_nests room limit max_loops space in
      choose_no Deep (found ++ t ∷ more) m r s.End _ _
      (λ e. let f : begins_statement (symbol r) ≡ true = whole.begins t r r1 x in let k : false ≡ true = sym (ap begins_statement e) ∙ f in absurd (cc))
      (goes_far Deep t r r1 (found ++ t ∷ more) m _ (statement max_nests max_loops r) _ (statement_takes max_nests max_loops r) (whole.comes t r r1 x)
      (λ f. subst (λ k. Comes Deep k m (region_from n (found ++ t ∷ []) r1)) (append_assoc found (t ∷ []) more)
      (from_comes more n (found ++ t ∷ []) r1 m (omega (arith, f, fuel)) y end)))

  pub region_comes : (nodes : List Node) (r : Reading) (x : Derived wanted limit nodes r) → Comes Deep nodes x.0 (region r)
  unfolding region
  region_comes nodes r x = from_comes nodes (left r) [] r x.0 (omega arith) x.1 x.2
