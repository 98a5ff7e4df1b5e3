-- What the parser derives is sound: names of C, lines of a body, and at most so many loops one inside another.
use Rattle.std.proofs.Common.{◌≡◌, inl, inr, ℕ, zero, suc, ◌+◌, ◌<◌, Bool, true, List, [], ◌∷◌, ◌++◌, drop, Option, Some, None, refl, sym, ◌∙◌, ap, subst, arith}
use Rattle.std.specs.Prelude.{codes}
use Rattle.std.specs.List.{list_all}
use Rattle.c_lexer.specs.declared.tokens.TokenKind.TheVariants as kind
use Rattle.c_lexer.specs.declared.regions.Span.{Span}
use Rattle.c_lexer.specs.declared.symbols.Symbol.TheVariants as s
use Rattle.c_lexer.specs.declared.pieces.Piece.{Piece}
use Rattle.c_lexer.specs.Tokens.{gap}
use Rattle.c_lexer.specs.Readings.{Reading, slice}
use Rattle.c_lexer.specs.TokenForms.{is_name}
use Rattle.c_lexer.specs.Input.{symbol, start, after}
use Rattle.c_lexer.specs.Symbols.{is_sound}
use Rattle.c_lexer.specs.Pieces.{bytes_of}
use Rattle.c_parser.specs.declared.tree.Step.{Step}
use Rattle.c_parser.specs.declared.tree.Step.TheVariants as st
use Rattle.c_parser.specs.declared.tree.Rel.{Rel}
use Rattle.c_parser.specs.declared.tree.Rel.TheVariants as rl
use Rattle.c_parser.specs.declared.tree.AssignSign.{AssignSign}
use Rattle.c_parser.specs.declared.tree.AssignSign.TheVariants as sign
use Rattle.c_parser.specs.declared.tree.Assign.{Assign}
use Rattle.c_parser.specs.declared.tree.Node.{Node}
use Rattle.c_parser.specs.declared.tree.Node.TheVariants as node
use Rattle.c_parser.specs.declared.tree.Loop.{out-roll-Loop}
use Rattle.c_parser.specs.declared.tree.Branch.{out-roll-Branch, roll-Branch}
use Rattle.c_parser.specs.declared.heads.Head.{Head}
use Rattle.c_parser.specs.declared.tree.Value.{Value}
use Rattle.c_parser.specs.Statements.{loop_of, branch_of}
use Rattle.c_parser.specs.Grammar.{Phrase, ◌then◌, empty, none, token, word, begins, each, nest, rel_token, IsTarget, IsValue, nested}
use Rattle.c_parser.specs.Grammar as g
use Rattle.c_parser.specs.Derivations as d
use Rattle.c_parser.specs.Derivations.{IsStatement, level, statement, Derived}
use Rattle.c_parser.specs.Regions.{IsRegion, reading_at}
use Rattle.scop_core.specs.Printable.{is_body_line}
use Rattle.region_trees.specs.Terms.{order_of, sum_of, value_of}
use Rattle.region_trees.specs.Statements.{Statement, Loop, Branch, NoStatements, Next, assignment_of, step_of, statement_of, statements_of}
use Rattle.region_trees.specs.Layers.{node_layer, statement_is, loop_is, other_of, branch_is}
use Rattle.printable_regions.specs.Sound as sound
use Rattle.printable_regions.specs.Sound.{is_named, are_named, are_sound}
use Rattle.printable_regions.proofs.Bytes.{and_first, and_second, both_hold}
use Rattle.printable_regions.proofs.Clean.{Path, path_goes, token_is, spaced}
use Rattle.printable_regions.proofs.BodyLines.{line_is, same_slice}
use Rattle.printable_regions.proofs.Goes.{Goes, next_is, stays, both_go, token_goes, this_goes, word_goes}
use Rattle.printable_regions.proofs.Symbols.{Reads, within_front, is_word_symbol, kind_is}
use Rattle.printable_regions.proofs.Values.{Told, Each, then_told, this_told, each_told, word_told, name_told, ok_sum, ok_value, nested_told, target_told, subscript_told, value_told, reads_on}

module _ (bytes : List ℕ) (n : ℕ) where
  begins_told : (at : ℕ) → Told bytes n (Unit {0}) (begins at)
  begins_told at r r' h t = (stays r r' t.1, tt)

  same_told : (name : Piece) → Told bytes n (Unit {0}) (d.same name)
  same_told name r r' h t = (token_goes r r' (subst (λ k. is_sound k ≡ true) (sym t.0) refl) t.2, tt)

  declared_told : Told bytes n (Unit {0}) d.declared
  declared_told r r' h (inl t) = this_told bytes n s.Int refl r r' h t
  declared_told r r' h (inr t) = (stays r r' t, tt)

  two : (e f : Phrase) → Told bytes n (Unit {0}) e → Told bytes n (Unit {0}) f → Told bytes n (Unit {0}) (e then f)
  two e f a b r r' h t = let x = then_told bytes n (Unit {0}) (Unit {0}) e f a b r r' h t in (x.0, tt)

  step_told : (name : Piece) (x : Step) → Told bytes n (Unit {0}) (d.step name x)
  step_told name st.PostUp = two (d.same name) (token s.Increment) (same_told name) (this_told bytes n s.Increment refl)
  step_told name st.PreUp = two (token s.Increment) (d.same name) (this_told bytes n s.Increment refl) (same_told name)
  step_told name (st.AddUp number) =
      two (d.same name) (token s.PlusAssign then word s.Integer number) (same_told name)
      (two (token s.PlusAssign) (word s.Integer number) (this_told bytes n s.PlusAssign refl) (word_told bytes n s.Integer refl number))
  step_told name st.PostDown = two (d.same name) (token s.Decrement) (same_told name) (this_told bytes n s.Decrement refl)
  step_told name st.PreDown = two (token s.Decrement) (d.same name) (this_told bytes n s.Decrement refl) (same_told name)
  step_told name (st.SubDown number) =
      two (d.same name) (token s.MinusAssign then word s.Integer number) (same_told name)
      (two (token s.MinusAssign) (word s.Integer number) (this_told bytes n s.MinusAssign refl) (word_told bytes n s.Integer refl number))

  rel_sound : (sign : Rel) → is_sound (rel_token sign) ≡ true
  rel_sound rl.Less = refl
  rel_sound rl.LessEqual = refl
  rel_sound rl.Greater = refl
  rel_sound rl.GreaterEqual = refl

  assign_sound : (x : AssignSign) → is_sound (d.assign_token x) ≡ true
  assign_sound sign.Plain = refl
  assign_sound sign.Plus = refl
  assign_sound sign.Minus = refl
  assign_sound sign.Times = refl
  assign_sound sign.Divide = refl
  assign_sound sign.Remainder = refl

  -- a phrase behind one of which nothing is told, and before one
  behind : (P : Type 0) (e f : Phrase) → Told bytes n (Unit {0}) e → Told bytes n P f → Told bytes n P (e then f)
  behind P e f a b r r' h t = let x = then_told bytes n (Unit {0}) P e f a b r r' h t in (x.0, x.1.1)

  before : (P : Type 0) (e f : Phrase) → Told bytes n P e → Told bytes n (Unit {0}) f → Told bytes n P (e then f)
  before P e f a b r r' h t = let x = then_told bytes n P (Unit {0}) e f a b r r' h t in (x.0, x.1.0)

  module _ (nests : ℕ) where
    second_told : (h : Head) → Told bytes n (ok_sum bytes n h.bound ≡ true) (d.second_half nests h)
    second_told h =
        behind _ (d.same h.name) (token (rel_token h.rel) then (nested nests).sum h.bound then token s.Semicolon then begins h.step_at then d.step h.name h.step then token s.CloseRound) (same_told h.name)
        (behind _ (token (rel_token h.rel)) ((nested nests).sum h.bound then token s.Semicolon then begins h.step_at then d.step h.name h.step then token s.CloseRound) (this_told bytes n (rel_token h.rel) (rel_sound h.rel))
        (before _ ((nested nests).sum h.bound) (token s.Semicolon then begins h.step_at then d.step h.name h.step then token s.CloseRound) ((nested_told bytes n nests).sum h.bound)
        (two (token s.Semicolon) (begins h.step_at then d.step h.name h.step then token s.CloseRound) (this_told bytes n s.Semicolon refl)
        (two (begins h.step_at) (d.step h.name h.step then token s.CloseRound) (begins_told h.step_at)
        (two (d.step h.name h.step) (token s.CloseRound) (step_told h.name h.step) (this_told bytes n s.CloseRound refl))))))

    abbrev OfHead : Head → Type 0
    OfHead h = (is_name (bytes_of bytes h.name) ≡ true) × ((ok_sum bytes n h.start ≡ true) × (ok_sum bytes n h.bound ≡ true))

    pub head_told : (h : Head) → Told bytes n (OfHead h) (d.head nests h)
    head_told h r r' e t = behind _ (token s.OpenRound) _ (this_told bytes n s.OpenRound refl)
        (behind _ d.declared _ declared_told
        (then_told bytes n _ _ (word s.Name h.name) _ (name_told bytes n h.name)
        (behind _ (token s.Assign) _ (this_told bytes n s.Assign refl)
        (then_told bytes n _ _ ((nested nests).sum h.start) _ ((nested_told bytes n nests).sum h.start)
        (behind _ (token s.Semicolon) (d.second_half nests h) (this_told bytes n s.Semicolon refl) (second_told h)))))) r r' e t.1.1

    abbrev Line : ℕ → ℕ → Type 0
    Line from to = is_body_line (spaced (slice bytes from to) ++ codes ";") ≡ true

    -- the text from a name up to the token behind what goes on from it
    line_at : (r m0 m3 : Reading) → Reads bytes n r → symbol r ≡ s.Name → after r ≡ m0 → Goes m0 m3 → symbol m3 ≡ s.Semicolon → Line (start r) (start m3)
    line_at r m0 m3 h name next path semicolon =
        let x = next_is r (subst (λ k. is_sound k ≡ true) (sym name) refl) in
        let w = x.lexeme in
        let m0_is = sym next ∙ x.after_is in
        let text : m3.text ≡ r.text = path.text ∙ ap (λ m. m.text) m0_is in
        let way : Path r.text m3.at w.to = subst (λ (m : Reading). Path m.text m3.at m.at) m0_is path.path in
        let y = next_is m3 (subst (λ k. is_sound k ≡ true) (sym semicolon) refl) in
        let v = y.lexeme in
        let t = token_is m3.text m3.at v y.is in
        let u = token_is r.text r.at w x.is in
        let far = path_goes r.text m3.at w.to way in
        let end : v.from ≡ m3.at + gap (drop m3.at r.text) = subst (λ z. v.from ≡ m3.at + gap (drop m3.at z)) text t.from in
        let is_name_kind : w.kind ≡ kind.Name = kind_is w.kind (slice r.text w.from w.to) (subst (λ k. is_word_symbol k ≡ true) (sym name ∙ x.symbol_is) refl) in
        let line = line_is r.text m3.at r.at v.from w x.is is_name_kind way end in
        let inside = within_front bytes n m3 (text ∙ h) v y.is in
        let cut : slice r.text w.from v.from ≡ slice bytes w.from v.from =
        ap (λ z. slice z w.from v.from) h ∙ same_slice n w.from v.from bytes (omega (arith, u.to, far, end)) (omega (arith, inside.0, inside.1)) in
        subst (λ a. Line a (start m3)) (sym x.start_is) (subst (Line w.from) (sym y.start_is) (subst (λ z. is_body_line (spaced z ++ codes ";") ≡ true) cut line))

    abbrev Rest : Assign → Phrase
    Rest a = IsTarget nests (nested nests) a.target then token (d.assign_token a.sign) then IsValue nests (nested nests) a.value then begins a.body.to then token s.Semicolon

    assign_from : (a : Assign) (r r' : Reading) → Reads bytes n r → start r ≡ a.body.from → Rest a r r' → Goes r r' × (sound.is_sound zero (assignment_of bytes a) ≡ true)
    assign_from a r r' h from u =
        let inner = nested_told bytes n nests in
        let m1 : Reading = u.0 in
        let target = u.1 in
        let m2 : Reading = u.2.0 in
        let m3 : Reading = u.2.2.0 in
        let m4 : Reading = u.2.2.2.0 in
        let same : m3 ≡ m4 = u.2.2.2.1.1 in
        let to : start m3 ≡ a.body.to = u.2.2.2.1.0 in
        let first = target_told bytes n nests (nested nests) inner a.target r m1 h target in
        let h1 : Reads bytes n m1 = reads_on bytes n r m1 h first.0 in
        let sign_goes : Goes m1 m2 = this_goes (d.assign_token a.sign) (assign_sound a.sign) m1 m2 u.2.1 in
        let value = value_told bytes n nests (nested nests) inner a.value m2 m3 (reads_on bytes n m1 m2 h1 sign_goes) u.2.2.1 in
        let on : Goes m1 m3 = both_go m1 m2 m3 sign_goes value.0 in
        let semicolon : token s.Semicolon m3 r' = subst (λ (m : Reading). token s.Semicolon m r') (sym same) u.2.2.2.2 in
        let m0 : Reading = target.derived.0 in
        let word_is = target.derived.1 in
        let name_goes : Goes r m0 = word_goes s.Name refl target.name r m0 word_is in
        let subscripts = each_told bytes n (g.subscript nests (nested nests)) (ok_sum bytes n) (subscript_told bytes n nests (nested nests) inner) target.subscripts m0 m1
        (reads_on bytes n r m0 h name_goes) target.derived.2 in
        let line = line_at r m0 m3 h word_is.0 word_is.2 (both_go m0 m1 m3 subscripts.0 on) semicolon.0 in
        let here : Line a.body.from a.body.to = subst (λ b. Line b a.body.to) from (subst (Line (start r)) to line) in (
          both_go r m1 r' first.0 (both_go m1 m3 r' on (this_goes s.Semicolon refl m3 r' semicolon)),
          both_hold _ _ here (both_hold _ _ first.1.0 (both_hold _ _ first.1.1 value.1)),
        )

    -- what an assignment says
    assign_told : (a : Assign) → Told bytes n (sound.is_sound zero (assignment_of bytes a) ≡ true) (d.assignment nests a)
    assign_told a r r' h t =
        let same : r ≡ t.0 = t.1.1 in
        let u : Rest a r r' = subst (λ (m : Reading). Rest a m r') (sym same) t.2 in
        assign_from a r r' h t.1.0 u

  abbrev pub ok : ℕ → Node → Bool
  ok loops t = sound.is_sound loops (statement_of bytes t)

  by_statement : (loops : ℕ) (a b : Statement) → a ≡ b → sound.is_sound loops b ≡ true → sound.is_sound loops a ≡ true
  by_statement loops a b e h = subst (λ x. sound.is_sound loops x ≡ true) (sym e) h

  block_sound : (loops : ℕ) (nodes : List Node) → list_all (ok loops) nodes ≡ true → are_sound loops (statements_of bytes nodes) ≡ true
  block_sound loops [] h = refl
  block_sound loops (x ∷ xs) h = both_hold _ _ (and_first (ok loops x) (list_all (ok loops) xs) h) (block_sound loops xs (and_second (ok loops x) (list_all (ok loops) xs) h))

  -- an assignment holds no loop
  any_loops : (loops : ℕ) (a : Assign) → sound.is_sound zero (assignment_of bytes a) ≡ true → sound.is_sound loops (assignment_of bytes a) ≡ true
  any_loops loops a h = h

  loop_said : (k : ℕ) (h : Head) (repeated : Node) → is_name (bytes_of bytes h.name) ≡ true → ok_sum bytes n h.start ≡ true → ok_sum bytes n h.bound ≡ true
      → ok k repeated ≡ true → ok (suc k) (node.For (loop_of h repeated)) ≡ true
  loop_said k h repeated p q b c =
      by_statement (suc k) _ _ (statement_is bytes (node.For (loop_of h repeated)))
      (subst (λ o. sound.is_sound (suc k) (node_layer bytes o) ≡ true) (sym (node.outs-For (loop_of h repeated)))
      (by_statement (suc k) _ _ (loop_is bytes (loop_of h repeated))
      (subst (λ o. sound.is_sound (suc k) (Loop (bytes_of bytes o.name) o.name.from (sum_of bytes o.start) (order_of o.rel) (sum_of bytes o.bound)
      (step_of bytes o.step) o.step_at (Next (statement_of bytes o.body) NoStatements)) ≡ true)
      (sym (out-roll-Loop (record { name = h.name; start = h.start; rel = h.rel; bound = h.bound; step = h.step; step_at = h.step_at; body = repeated })))
      (both_hold _ _ p (both_hold _ _ q (both_hold _ _ b (both_hold _ _ c refl)))))))

  branch_said : (loops : ℕ) (condition : Value) (one : Node) (other : Option Node) → ok_value bytes n condition ≡ true → ok loops one ≡ true
      → are_sound loops (other_of bytes other) ≡ true → ok loops (branch_of condition one other) ≡ true
  branch_said loops condition one other p q b =
      by_statement loops _ _ (statement_is bytes (branch_of condition one other))
      (subst (λ o. sound.is_sound loops (node_layer bytes o) ≡ true) (sym (node.outs-If (roll-Branch (record { condition = condition; then = one; other = other }))))
      (by_statement loops _ _ (branch_is bytes (roll-Branch (record { condition = condition; then = one; other = other })))
      (subst (λ o. sound.is_sound loops (Branch (value_of bytes o.condition) (Next (statement_of bytes o.then) NoStatements) (other_of bytes o.other)) ≡ true)
      (sym (out-roll-Branch (record { condition = condition; then = one; other = other })))
      (both_hold _ _ p (both_hold _ _ (both_hold _ _ q refl) b)))))

  module _ (nests loops : ℕ) (inner body : Node → Phrase) (inner_told : Each bytes n (ok loops) inner)
      (body_told : (k : ℕ) → loops ≡ suc k → Each bytes n (ok k) body) where
    other_told : (other : Option Node) → Told bytes n (are_sound loops (other_of bytes other) ≡ true) (d.alternative nests loops inner body other)
    other_told None r r' h t = (stays r r' t.1, refl)
    other_told (Some x) r r' h t =
        let a = behind _ (token s.Else) (nest nests (inner x)) (this_told bytes n s.Else refl) (λ r r' h t. inner_told x r r' h t.1) r r' h t in
        (a.0, both_hold _ _ a.1 refl)

    loop_case : (k : ℕ) → loops ≡ suc k → (head : Head) (repeated : Node) (r r' : Reading) → Reads bytes n r
        → (token s.For then d.head nests head then body repeated) r r' → Goes r r' × (ok loops (node.For (loop_of head repeated)) ≡ true)
    loop_case k e head repeated r r' h x =
        let a = behind _ (token s.For) (d.head nests head then body repeated) (this_told bytes n s.For refl)
        (then_told bytes n _ (ok k repeated ≡ true) (d.head nests head) (body repeated) (head_told nests head) (body_told k e repeated)) r r' h x in
        (a.0, subst (λ m. ok m (node.For (loop_of head repeated)) ≡ true) (sym e) (loop_said k head repeated a.1.0.0 a.1.0.1.0 a.1.0.1.1 a.1.1))

    number : (m : ℕ) → 0 < m → (k : ℕ) × (m ≡ suc k)
    number zero p = absurd (omega arith)
    number (suc k) p = (k, refl)

    statement_told : Each bytes n (ok loops) (IsStatement nests loops inner body)
    statement_told t r r' h (d.loop head repeated e some x) =
        let m = number loops some in
        let a = loop_case m.0 m.1 head repeated r r' h x in
        (a.0, subst (λ y. ok loops y ≡ true) e a.1)
    statement_told t r r' h (d.choice condition one other e x) =
        let a = behind _ (token s.If) _ (this_told bytes n s.If refl)
        (then_told bytes n (ok_value bytes n condition ≡ true) _ (nest nests (token s.OpenRound then (nested nests).value condition then token s.CloseRound))
        (nest nests (inner one) then d.alternative nests loops inner body other)
        (λ r r' h t. behind _ (token s.OpenRound) ((nested nests).value condition then token s.CloseRound) (this_told bytes n s.OpenRound refl)
        (before _ ((nested nests).value condition) (token s.CloseRound) ((nested_told bytes n nests).value condition) (this_told bytes n s.CloseRound refl)) r r' h t.1)
        (then_told bytes n (ok loops one ≡ true) (are_sound loops (other_of bytes other) ≡ true) (nest nests (inner one)) (d.alternative nests loops inner body other)
        (λ r r' h t. inner_told one r r' h t.1) (other_told other))) r r' h x in
        (a.0, subst (λ y. ok loops y ≡ true) e (branch_said loops condition one other a.1.0 a.1.1.0 a.1.1.1))
    statement_told t r r' h (d.block nodes e x) =
        let a = behind _ (token s.OpenCurly) (each inner nodes then token s.CloseCurly) (this_told bytes n s.OpenCurly refl)
        (before _ (each inner nodes) (token s.CloseCurly) (each_told bytes n inner (ok loops) inner_told nodes) (this_told bytes n s.CloseCurly refl)) r r' h x.1 in (
          a.0,
          subst (λ y. ok loops y ≡ true) e (by_statement loops _ _ (statement_is bytes (node.Block nodes))
              (subst (λ o. sound.is_sound loops (node_layer bytes o) ≡ true) (sym (node.outs-Block nodes)) (block_sound loops nodes a.1))),
        )
    statement_told t r r' h (d.assign a e x) =
        let b = assign_told nests a r r' h x in (
          b.0,
          subst (λ y. ok loops y ≡ true) e (by_statement loops _ _ (statement_is bytes (node.Assign a))
              (subst (λ o. sound.is_sound loops (node_layer bytes o) ≡ true) (sym (node.outs-Assign a)) (any_loops loops a b.1))),
        )
    statement_told t r r' h (d.blank e x) = (
      this_goes s.Semicolon refl r r' x,
      subst (λ y. ok loops y ≡ true) e (by_statement loops _ _ (statement_is bytes node.Empty)
          (subst (λ o. sound.is_sound loops (node_layer bytes o) ≡ true) (sym node.outs-Empty) refl)),
    )

  fewer : {j k : ℕ} → suc j ≡ suc k → j ≡ k
  fewer e = omega arith

  level_told : (nests : ℕ) (inner : ℕ → Node → Phrase) → ((loops : ℕ) → Each bytes n (ok loops) (inner loops)) → (loops : ℕ) → Each bytes n (ok loops) (level nests inner loops)
  level_told nests inner f zero = statement_told nests zero (inner zero) (λ t. none) (f zero) (λ k e. absurd (omega arith))
  level_told nests inner f (suc loops) = statement_told nests (suc loops) (inner (suc loops)) (level nests inner loops) (f (suc loops)) (λ k e. subst (λ m. Each bytes n (ok m) (level nests inner loops)) (fewer e) (level_told nests inner f loops))

  pub all_told : (nests loops : ℕ) → Each bytes n (ok loops) (statement nests loops)
  all_told zero loops = level_told zero (λ loops t. none) (λ loops t r r' h x. absurd x) loops
  all_told (suc nests) loops = level_told (suc nests) (statement nests) (all_told nests) loops

-- all statements of a region
pub region_told : (bytes : List ℕ) (span : Span) (nodes : List Node) → IsRegion bytes span nodes → are_sound 12 (statements_of bytes nodes) ≡ true
region_told bytes span nodes r =
    let a = each_told bytes span.to (statement 64 12) (ok bytes span.to 12) (all_told bytes span.to 64 12) nodes (reading_at bytes span) r.0 refl r.1 in
    block_sound bytes span.to 12 nodes a.1
