-- The rules of statements read what their productions derive.
use Rattle.std.proofs.Common.{◌≡◌, ℕ, zero, suc, ◌<◌, ◌==◌, Bool, true, false, if◌then◌else◌, List, [], ◌∷◌, ◌++◌, Option, Some, None, Ok, inl, inr, refl, ap, sym, subst, ◌∙◌, arith, append_assoc}
use Rattle.std.proofs.lemmas.List.{append-nil}
use Rattle.std.specs.Str.{bytes_eq}
use Rattle.std.proofs.lemmas.Slice.Eq.{bytes_eq-Decides}
use Rattle.suite_base.specs.Limits.{max_nests, max_loops}
use Rattle.c_lexer.specs.declared.symbols.Symbol.{Symbol}
use Rattle.c_lexer.specs.declared.symbols.Symbol.TheVariants as s
use Rattle.c_lexer.specs.declared.pieces.Piece.{Piece}
use Rattle.c_lexer.specs.Readings.{Reading}
use Rattle.c_lexer.specs.Symbols.{same_symbol}
use Rattle.c_lexer.specs.Input.{Parser, ◌>>=◌, ◌>>◌, pure, refuse, eat, expect, left, symbol, start, piece, after, sees, same_text, sees_name, same_name, open_loop}
use Rattle.c_lexer.specs.Pieces.{bytes_of}
use Rattle.c_lexer.proofs.TokenFacts.{seen, is_same, some_is, not_seen, left_after}
use Rattle.c_parser.specs.declared.tree.Sum.{Sum}
use Rattle.c_parser.specs.declared.tree.Step.{Step}
use Rattle.c_parser.specs.declared.tree.AssignSign.{AssignSign}
use Rattle.c_parser.specs.declared.tree.Node.{Node}
use Rattle.c_parser.specs.declared.tree.Node.TheVariants as node
use Rattle.c_parser.specs.declared.heads.Head.{Head}
use Rattle.c_parser.specs.Values.{rel_sign, below}
use Rattle.c_parser.specs.Statements.{assign_sign, is_upward, some_of, rel, assigned, add_sign, pre_step, post_step, number_step, step_behind, step, open_round, head_rest, head, assign, begins_statement, block_from, for_loop, branch, else_branch, if_branch, block_nodes, block, statement_by, statement_rule, level, statement, inner, region_from, region}
use Rattle.c_parser.specs.Grammar as g
use Rattle.c_parser.specs.Grammar.{Phrase, ◌then◌, token, word, empty, each, rel_token, nested}
use Rattle.c_parser.specs.Derivations as d
use Rattle.c_parser.specs.Derivations.{assign_token, same, is_up, Derived}
use Rattle.c_parser.proofs.Yields.{Yields, then_yields, if_yields, choose_yields, expect_yields, yields_so, opened, eat_yields, some_nests, Takes, then_takes, take_takes, open_takes, opened_takes, takes_yields}
use Rattle.c_parser.proofs.ValueYields.{rel_back, target_takes, value_yields, nested_derives}

pub assign_back : (k : Symbol) (x : AssignSign) → assign_sign k ≡ Some x → k ≡ assign_token x
assign_back s.Assign x e = ap assign_token (some_is e)
assign_back s.PlusAssign x e = ap assign_token (some_is e)
assign_back s.MinusAssign x e = ap assign_token (some_is e)
assign_back s.TimesAssign x e = ap assign_token (some_is e)
assign_back s.DivideAssign x e = ap assign_token (some_is e)
assign_back s.RemainderAssign x e = ap assign_token (some_is e)
assign_back _ x e = absurd (cc)

pub same_bytes : (xs ys : List ℕ) → bytes_eq xs ys ≡ true → xs ≡ ys
same_bytes xs ys e = (bytes_eq-Decides xs ys).0 e

both_true : (b c : Bool) → (if b then c else false) ≡ true → (b ≡ true) × (c ≡ true)
both_true true c e = (refl, e)
both_true false c e = absurd (cc)

pub same_yields : (name : Piece) (r : Reading) → Yields r (λ x m. same name r m) (same_name name r)
unfolding same_name sees_name
same_yields name r =
    if_yields r (λ x m. same name r m) (if sees s.Name r then same_text r.text name (piece r) else false) _ _
    (λ e. let h = both_true (sees s.Name r) (same_text r.text name (piece r)) e in
    (left_after r, (seen s.Name r h.0, sym (same_bytes (bytes_of r.text name) (bytes_of r.text (piece r)) h.1), refl)))
    (λ e. tt)

some_yields : {A : Type 0} (o : Option A) (r : Reading) → Yields r (λ x m. (o ≡ Some x) × (after r ≡ m)) (some_of o r)
some_yields None r = tt
some_yields (Some x) r = (left_after r, (refl, refl))

pub rel_yields : (r : Reading) → Yields r (λ x m. token (rel_token x) r m) (rel r)
unfolding rel
rel_yields r = yields_so r _ _ _ (some_yields (rel_sign (symbol r)) r) (λ x m e. (rel_back (symbol r) x e.0, e.1))

pub assigned_yields : (r : Reading) → Yields r (λ x m. token (assign_token x) r m) (assigned r)
unfolding assigned
assigned_yields r = yields_so r _ _ _ (some_yields (assign_sign (symbol r)) r) (λ x m e. (assign_back (symbol r) x e.0, e.1))

-- ---- the head of a loop

abbrev Steps : Bool → Piece → Reading → Step → Reading → Type 0
Steps up name r x m = d.step name x r m × (is_up x ≡ up)

behind_yields : (up : Bool) (name : Piece) (r : Reading) → Yields r (Steps up name r) (step_behind up name r)
unfolding step_behind
behind_yields true name r =
    then_yields r _ (Steps true name r) _ _ (same_yields name r) (λ x m e.
    eat_yields s.Increment m (Steps true name r) (λ is_one. if is_one then pure (post_step true) else (do expect (add_sign true); number ← expect s.Integer; pure (number_step true number)))
    (λ f. (omega arith, ((m, e, (f, refl)), refl)))
    (λ f. then_yields m _ (Steps true name r) _ _ (expect_yields s.PlusAssign m) (λ p n w.
    then_yields n _ (Steps true name r) _ _ (expect_yields s.Integer n) (λ q o v.
    (omega arith, ((m, e, (n, (w.0, w.2), v)), refl))))))
behind_yields false name r =
    then_yields r _ (Steps false name r) _ _ (same_yields name r) (λ x m e.
    eat_yields s.Decrement m (Steps false name r) (λ is_one. if is_one then pure (post_step false) else (do expect (add_sign false); number ← expect s.Integer; pure (number_step false number)))
    (λ f. (omega arith, ((m, e, (f, refl)), refl)))
    (λ f. then_yields m _ (Steps false name r) _ _ (expect_yields s.MinusAssign m) (λ p n w.
    then_yields n _ (Steps false name r) _ _ (expect_yields s.Integer n) (λ q o v.
    (omega arith, ((m, e, (n, (w.0, w.2), v)), refl))))))

pub step_yields : (up : Bool) (name : Piece) (r : Reading) → Yields r (Steps up name r) (step up name r)
unfolding step
step_yields true name r =
    eat_yields s.Increment r (Steps true name r) (λ is_first. if is_first then (do same_name name; pure (pre_step true)) else step_behind true name)
    (λ e. then_yields (after r) _ (Steps true name r) _ _ (same_yields name (after r)) (λ x m f. (omega arith, ((after r, (e, refl), f), refl))))
    (λ e. behind_yields true name r)
step_yields false name r =
    eat_yields s.Decrement r (Steps false name r) (λ is_first. if is_first then (do same_name name; pure (pre_step false)) else step_behind false name)
    (λ e. then_yields (after r) _ (Steps false name r) _ _ (same_yields name (after r)) (λ x m f. (omega arith, ((after r, (e, refl), f), refl))))
    (λ e. behind_yields false name r)

module _ (nests : ℕ) where
  pub round_yields : (r : Reading) → Yields r (λ x m. (0 < nests) × token s.OpenRound r m) (open_round nests r)
  unfolding open_round
  round_yields r =
      choose_yields r (λ x m. (0 < nests) × token s.OpenRound r m) (same_symbol (symbol r) s.OpenRound) _ _
      (λ e. opened nests r (λ x m. (0 < nests) × token s.OpenRound r m) _ (λ some. (left_after r, (some, (is_same (symbol r) s.OpenRound e, refl)))))
      (λ e. tt)

  abbrev Rest : Piece → Sum → Reading → Head → Reading → Type 0
  Rest name start r h m = (h.name ≡ name) × (h.start ≡ start) × (is_up h.step ≡ is_upward h.rel) × d.second_half nests h r m

  rest_yields : (name : Piece) (start : Sum) (r : Reading) → Yields r (Rest name start r) (head_rest nests name start r)
  unfolding head_rest
  rest_yields name start r =
      then_yields r _ (Rest name start r) _ _ (same_yields name r) (λ x1 r1 d1.
      then_yields r1 _ (Rest name start r) _ _ (rel_yields r1) (λ order r2 d2.
      then_yields r2 _ (Rest name start r) _ _ ((nested_derives nests).sum r2) (λ bound r3 d3.
      then_yields r3 _ (Rest name start r) _ _ (expect_yields s.Semicolon r3) (λ x4 r4 d4.
      then_yields r4 _ (Rest name start r) _ _ (step_yields (is_upward order) name r4) (λ found r5 d5.
      then_yields r5 _ (Rest name start r) _ _ (expect_yields s.CloseRound r5) (λ x6 r6 d6.
      (omega arith, (refl, refl, d5.1, (r1, d1, (r2, d2, (r3, d3, (r4, (d4.0, d4.2), (r4, (refl, refl), (r5, d5.0, (d6.0, d6.2)))))))))))))))

  declared_yields : {B : Type 0} (r : Reading) (Q : B → Reading → Type 0) (f : Parser B) → ((m : Reading) → d.declared r m → Yields m Q (f m)) → Yields r Q ((eat s.Int >> f) r)
  declared_yields r Q f h = eat_yields s.Int r Q (λ x. f) (λ e. h (after r) (inl (e, refl))) (λ e. h r (inr refl))

  pub head_yields : (r : Reading) → Yields r (λ h m. d.head nests h r m) (head nests r)
  unfolding head
  head_yields r =
      then_yields r _ (λ h m. d.head nests h r m) _ _ (round_yields r) (λ x1 r1 d1.
      declared_yields r1 (λ h m. d.head nests h r m) _ (λ r2 d2.
      then_yields r2 _ (λ h m. d.head nests h r m) _ _ (expect_yields s.Name r2) (λ name r3 d3.
      then_yields r3 _ (λ h m. d.head nests h r m) _ _ (expect_yields s.Assign r3) (λ x4 r4 d4.
      then_yields r4 _ (λ h m. d.head nests h r m) _ _ ((nested_derives nests).sum r4) (λ start r5 d5.
      then_yields r5 _ (λ h m. d.head nests h r m) _ _ (expect_yields s.Semicolon r5) (λ x6 r6 d6.
      yields_so r6 _ (λ h m. d.head nests h r m) _ (rest_yields name start r6) (λ h m e.
      let N : Piece → Type 0 = λ p. word s.Name p r2 r3 in
      let S : Sum → Type 0 = λ z. (nested nests).sum z r4 r5 in
      (e.2, (d1.0, (r1, d1.1, (r2, d2, (r3, subst N (sym e.0) d3, (r4, (d4.0, d4.2), (r5, subst S (sym e.1) d5, (r6, (d6.0, d6.2), e.3)))))))))))))))

  pub assign_takes : (r : Reading) → Takes r (λ a m. d.assignment nests a r m) (assign nests r)
  unfolding assign
  assign_takes r =
      then_takes r _ (λ a m. d.assignment nests a r m) _ _ (target_takes nests (below nests) (nested nests) (nested_derives nests) r) (λ t r1 d1.
      then_yields r1 _ (λ a m. d.assignment nests a r m) _ _ (assigned_yields r1) (λ mark r2 d2.
      then_yields r2 _ (λ a m. d.assignment nests a r m) _ _ (value_yields nests (below nests) (nested nests) (nested_derives nests) r2) (λ v r3 d3.
      then_yields r3 _ (λ a m. d.assignment nests a r m) _ _ (expect_yields s.Semicolon r3) (λ x4 r4 d4.
      (omega arith, (r, (refl, refl), (r1, d1, (r2, d2, (r3, d3, (r3, (refl, refl), (d4.0, d4.2)))))))))))

-- ---- statements

module _ (nests loops : ℕ) (inner body : Parser Node) (nest_form loop_form : Node → Phrase)
    (inners : (r : Reading) → Takes r (λ t m. nest_form t r m) (inner r)) (bodies : (r : Reading) → Takes r (λ t m. loop_form t r m) (body r)) where
  abbrev Is : Reading → Node → Reading → Type 0
  Is r t m = d.IsStatement nests loops nest_form loop_form t r m

  some_loops : {B : Type 0} (n : ℕ) (r : Reading) (Q : B → Reading → Type 0) (q : Parser B) → (0 < n → Takes r Q (q r)) → Takes r Q ((open_loop n >> q) r)
  unfolding open_loop
  some_loops n r Q q h = open_takes r Q (n == 0) _ q (λ e. h (some_nests n e))

  for_takes : (r : Reading) → symbol r ≡ s.For → Takes r (Is r) (for_loop nests loops body r)
  unfolding for_loop
  for_takes r e =
      some_loops loops r (Is r) _ (λ some. take_takes s.For r (Is r) _ e ((λ f. absurd (cc)), (λ f. absurd (cc)))
      (then_yields (after r) _ (Is r) _ _ (head_yields nests (after r)) (λ h r1 d1.
      then_yields r1 _ (Is r) _ _ (takes_yields r1 _ _ (bodies r1)) (λ t r2 d2.
      (omega arith, d.IsStatement.loop h t refl some (after r, (e, refl), (r1, d1, d2)))))))

  branch_yields : (r : Reading) → Yields r (λ t m. g.nest nests (nest_form t) r m) (branch nests inner r)
  unfolding branch
  branch_yields r =
      choose_yields r (λ t m. g.nest nests (nest_form t) r m) (begins_statement (symbol r)) _ _
      (λ e. opened nests r (λ t m. g.nest nests (nest_form t) r m) _ (λ some. yields_so r _ (λ t m. g.nest nests (nest_form t) r m) _ (takes_yields r _ _ (inners r)) (λ t m k. (some, k))))
      (λ e. tt)

  else_yields : (r : Reading) → Yields r (λ t m. d.alternative nests loops nest_form loop_form t r m) (else_branch nests inner r)
  unfolding else_branch
  else_yields r =
      eat_yields s.Else r (λ t m. d.alternative nests loops nest_form loop_form t r m) (λ is_else. if is_else then (do found ← branch nests inner; pure (Some found)) else pure None)
      (λ e. then_yields (after r) _ (λ t m. d.alternative nests loops nest_form loop_form t r m) _ _ (branch_yields (after r)) (λ t m k. (omega arith, (after r, (e, refl), k))))
      (λ e. (omega arith, (not_seen s.Else r e, refl)))

  if_branch_takes : (r : Reading) → symbol r ≡ s.If → Takes r (Is r) (if_branch nests inner r)
  unfolding if_branch
  if_branch_takes r e =
      take_takes s.If r (Is r) _ e ((λ f. absurd (cc)), (λ f. absurd (cc))) (then_yields (after r) _ (Is r) _ _ (round_yields nests (after r)) (λ x1 r1 d1.
      then_yields r1 _ (Is r) _ _ ((nested_derives nests).value r1) (λ condition r2 d2.
      then_yields r2 _ (Is r) _ _ (expect_yields s.CloseRound r2) (λ x3 r3 d3.
      then_yields r3 _ (Is r) _ _ (branch_yields r3) (λ one r4 d4.
      then_yields r4 _ (Is r) _ _ (else_yields r4) (λ other r5 d5.
      (omega arith, d.IsStatement.choice condition one other refl (after r, (e, refl), (r3, (d1.0, (r1, d1.1, (r2, d2, (d3.0, d3.2)))), (r4, d4, d5))))))))))

  abbrev Block : Reading → List Node → List Node → Reading → Type 0
  Block r found all m = (more : List Node) × (found ++ more ≡ all) × (each nest_form more then token s.CloseCurly) r m

  nodes_yield : (n : ℕ) (found : List Node) (r : Reading) → Yields r (Block r found) (block_from inner n found r)
  unfolding block_from
  nodes_yield zero found r = tt
  nodes_yield (suc n) found r =
      eat_yields s.CloseCurly r (Block r found) (λ is_closed. if is_closed then pure found else (do next ← inner; block_from inner n (found ++ next ∷ [])))
      (λ e. (omega arith, ([], append-nil found, (r, refl, (e, refl)))))
      (λ e. then_yields r _ (Block r found) _ _ (takes_yields r _ _ (inners r)) (λ t m k.
      yields_so m (Block m (found ++ t ∷ [])) (Block r found) _ (nodes_yield n (found ++ t ∷ []) m) (λ all z j.
      (t ∷ j.0, sym (append_assoc found (t ∷ []) j.0) ∙ j.1, (j.2.0, (m, k, j.2.1), j.2.2)))))

  block_takes : (r : Reading) → symbol r ≡ s.OpenCurly → Takes r (Is r) (block nests inner r)
  unfolding block block_nodes
  block_takes r e =
      opened_takes nests r (Is r) _ (λ some. take_takes s.OpenCurly r (Is r) _ e ((λ f. absurd (cc)), (λ f. absurd (cc)))
      (then_yields (after r) _ (Is r) _ _ (nodes_yield (left (after r)) [] (after r)) (λ all m k.
      let P : List Node → Type 0 = λ x. (each nest_form x then token s.CloseCurly) (after r) m in
      (omega arith, d.IsStatement.block all refl (some, (after r, (e, refl), subst P k.1 k.2))))))

  by_takes : (k : Symbol) (r : Reading) → symbol r ≡ k → Takes r (Is r) (statement_by nests loops inner body k r)
  by_takes s.For r e = for_takes r e
  by_takes s.If r e = if_branch_takes r e
  by_takes s.OpenCurly r e = block_takes r e
  by_takes s.Semicolon r e = take_takes s.Semicolon r (Is r) (Ok (node.Empty, after r)) e ((λ f. absurd (cc)), (λ f. absurd (cc))) (omega arith, d.IsStatement.blank refl (e, refl))
  by_takes s.Name r e = then_takes r _ (Is r) _ _ (assign_takes nests r) (λ a m k. (omega arith, d.IsStatement.assign a refl k))
  by_takes _ r e = tt

  pub rule_takes : (r : Reading) → Takes r (Is r) (statement_rule nests loops inner body r)
  unfolding statement_rule
  rule_takes r = by_takes (symbol r) r refl

pub level_takes : (nests : ℕ) (inner : ℕ → Parser Node) (form : ℕ → Node → Phrase) → ((loops : ℕ) (r : Reading) → Takes r (λ t m. form loops t r m) (inner loops r))
    → (loops : ℕ) (r : Reading) → Takes r (λ t m. d.level nests form loops t r m) (level nests inner loops r)
unfolding level
level_takes nests inner form h zero r = rule_takes nests zero (inner zero) refuse (form zero) (λ t. g.none) (h zero) (λ r. tt) r
level_takes nests inner form h (suc loops) r =
    rule_takes nests (suc loops) (inner (suc loops)) (level nests inner loops) (form (suc loops)) (d.level nests form loops) (h (suc loops)) (level_takes nests inner form h loops) r

pub statement_takes : (nests loops : ℕ) (r : Reading) → Takes r (λ t m. d.statement nests loops t r m) (statement nests loops r)
unfolding statement
statement_takes zero loops r = level_takes zero (λ loops. refuse) (λ loops t. g.none) (λ loops r. tt) loops r
statement_takes (suc nests) loops r = level_takes (suc nests) (statement nests) (d.statement nests) (statement_takes nests) loops r

abbrev Region : Reading → List Node → List Node → Reading → Type 0
Region r found all m = (more : List Node) × (found ++ more ≡ all) × Derived max_nests max_loops more r

from_yields : (n : ℕ) (found : List Node) (r : Reading) → Yields r (Region r found) (region_from n found r)
unfolding region_from
from_yields zero found r = then_yields r _ (Region r found) _ _ (expect_yields s.End r) (λ x m w. (omega arith, ([], append-nil found, (r, refl, w.0))))
from_yields (suc n) found r =
    choose_yields r (Region r found) (same_symbol (symbol r) s.End) _ _
    (λ e. (omega arith, ([], append-nil found, (r, refl, is_same (symbol r) s.End e))))
    (λ e. then_yields r _ (Region r found) _ _ (takes_yields r _ _ (statement_takes max_nests max_loops r)) (λ t m k.
    yields_so m (Region m (found ++ t ∷ [])) (Region r found) _ (from_yields n (found ++ t ∷ []) m) (λ all z j.
    (t ∷ j.0, sym (append_assoc found (t ∷ []) j.0) ∙ j.1, (j.2.0, (m, k, j.2.1), j.2.2)))))

pub region_yields : (r : Reading) → Yields r (λ all m. Derived max_nests max_loops all r) (region r)
unfolding region
region_yields r = yields_so r _ _ _ (from_yields (left r) [] r) (λ all m k. let P : List Node → Type 0 = λ x. Derived max_nests max_loops x r in subst P k.1 k.2)
