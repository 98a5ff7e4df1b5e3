-- The rules of values come to each tree that their productions derive.
use Rattle.std.proofs.Common.{◌≡◌, ℕ, zero, suc, ◌≤◌, ◌<◌, if◌then◌else◌, List, [], ◌∷◌, ◌++◌, Option, Some, None, inl, inr, refl, ap, sym, subst, ◌∙◌, arith, append_assoc}
use Rattle.std.proofs.lemmas.List.{append-nil}
use Rattle.c_lexer.specs.declared.symbols.Symbol.TheVariants as s
use Rattle.c_lexer.specs.declared.pieces.Piece.{Piece}
use Rattle.c_lexer.specs.Readings.{Reading}
use Rattle.c_lexer.specs.Input.{◌>>=◌, ◌>>◌, pure, expect, left, symbol, piece, after}
use Rattle.c_parser.specs.declared.tree.Value.{Value}
use Rattle.c_parser.specs.declared.tree.Arms.{Arms}
use Rattle.c_parser.specs.declared.tree.Or.{Or}
use Rattle.c_parser.specs.declared.tree.And.{And}
use Rattle.c_parser.specs.declared.tree.Equal.{Equal}
use Rattle.c_parser.specs.declared.tree.EqualSign.{EqualSign}
use Rattle.c_parser.specs.declared.tree.EqualSign.TheVariants as eq
use Rattle.c_parser.specs.declared.tree.Compare.{Compare}
use Rattle.c_parser.specs.declared.tree.Rel.{Rel}
use Rattle.c_parser.specs.declared.tree.Rel.TheVariants as rl
use Rattle.c_parser.specs.declared.tree.Sum.{Sum}
use Rattle.c_parser.specs.declared.tree.SumSign.{SumSign}
use Rattle.c_parser.specs.declared.tree.SumSign.TheVariants as sm
use Rattle.c_parser.specs.declared.tree.Product.{Product}
use Rattle.c_parser.specs.declared.tree.ProductSign.{ProductSign}
use Rattle.c_parser.specs.declared.tree.ProductSign.TheVariants as pr
use Rattle.c_parser.specs.declared.tree.Unary.{Unary, roll-Unary}
use Rattle.c_parser.specs.declared.tree.UnarySign.{UnarySign}
use Rattle.c_parser.specs.declared.tree.UnarySign.TheVariants as un
use Rattle.c_parser.specs.declared.tree.Primary.{Primary}
use Rattle.c_parser.specs.declared.tree.Primary.TheVariants as pri
use Rattle.c_parser.specs.declared.tree.Target.{Target, roll-Target}
use Rattle.c_parser.specs.Values.{Rules, separated, equal_sign, rel_sign, sum_sign, product_sign, unary_sign, subscript, subscripts_from, subscripts, target, arguments, call, named, operator, bracket, primary_by, primary, operand, unary, product_rest, product, sum_rest, sum, compare_rest, compare, equal_rest, equal, and_value, or_value, arms, value, rules, below}
use Rattle.c_parser.specs.Grammar as g
use Rattle.c_parser.specs.Grammar.{Phrase, ◌then◌, token, word, empty, each, signed, others, equal_token, rel_token, sum_token, product_token, unary_token, Forms, no_forms, nested}
use Rattle.c_parser.proofs.ValueYields as y
use Rattle.c_parser.proofs.ValueYields.{nested_derives}
use Rattle.c_parser.proofs.Comes.{token_then, word_then, power, ends, no_product, no_sum, no_rel, no_equal, other, Comes, Room, less_room, then_comes, goes_far, expect_comes, word_comes, opened_comes, eat_yes, eat_no, choose_yes, choose_no, signed_ends, signed_comes, separated_comes}

-- ---- signs from their tokens

product_forth : (x : ProductSign) → product_sign (product_token x) ≡ Some x
product_forth pr.Times = refl
product_forth pr.Divide = refl
product_forth pr.Remainder = refl

product_power : (x : ProductSign) → power (product_token x) ≡ 1
product_power pr.Times = refl
product_power pr.Divide = refl
product_power pr.Remainder = refl

sum_forth : (x : SumSign) → sum_sign (sum_token x) ≡ Some x
sum_forth sm.Plus = refl
sum_forth sm.Minus = refl

sum_power : (x : SumSign) → power (sum_token x) ≡ 2
sum_power sm.Plus = refl
sum_power sm.Minus = refl

pub rel_forth : (x : Rel) → rel_sign (rel_token x) ≡ Some x
rel_forth rl.Less = refl
rel_forth rl.LessEqual = refl
rel_forth rl.Greater = refl
rel_forth rl.GreaterEqual = refl

pub rel_power : (x : Rel) → power (rel_token x) ≡ 3
rel_power rl.Less = refl
rel_power rl.LessEqual = refl
rel_power rl.Greater = refl
rel_power rl.GreaterEqual = refl

equal_forth : (x : EqualSign) → equal_sign (equal_token x) ≡ Some x
equal_forth eq.Same = refl
equal_forth eq.Differ = refl

equal_power : (x : EqualSign) → power (equal_token x) ≡ 4
equal_power eq.Same = refl
equal_power eq.Differ = refl

unary_forth : (x : UnarySign) → unary_sign (unary_token x) ≡ Some x
unary_forth un.Plus = refl
unary_forth un.Minus = refl
unary_forth un.Not = refl

unary_opens : (x : UnarySign) → unary_token x ≡ s.CloseRound → ⊥
unary_opens un.Plus e = absurd (cc)
unary_opens un.Minus e = absurd (cc)
unary_opens un.Not e = absurd (cc)

-- the rules of one nest more come to what their productions derive
pub record Full (Deep : Type 0) (inner : Rules) (forms : Forms) : Type 0 where
  pub value : (t : Value) (r m : Reading) → forms.value t r m → 8 ≤ power (symbol m) → Comes Deep t m (inner.value r)
  pub sum : (t : Sum) (r m : Reading) → forms.sum t r m → 3 ≤ power (symbol m) → Comes Deep t m (inner.sum r)
  pub operand : (more : List UnarySign) (p : Primary) (signs : List UnarySign) (r m : Reading) → forms.operand more p r m → 1 ≤ power (symbol m)
      → Comes Deep (roll-Unary (record { signs = signs ++ more; primary = p })) m (inner.unary signs r)
  -- no value begins with a closing bracket
  pub opens : (t : Value) (r m : Reading) → forms.value t r m → symbol r ≡ s.CloseRound → ⊥

module _ (Deep : Type 0) (wanted nests : ℕ) (room : Room Deep wanted nests) (h : 0 < nests → Full Deep (below nests) (nested wanted)) where
  abbrev I : Rules
  I = below nests

  abbrev F : Forms
  F = nested wanted

  subscript_comes : (t : Sum) (r m : Reading) → g.subscript wanted F t r m → Comes Deep t m (subscript nests I r)
  unfolding subscript
  subscript_comes t r m d =
      let a : (symbol r ≡ s.OpenSquare) × (F.sum t then token s.CloseSquare) (after r) m = token_then s.OpenSquare r (λ z. (F.sum t then token s.CloseSquare) z m) d.1 in
      opened_comes Deep t m r wanted nests _ room d.0 (λ some.
      then_comes Deep t a.1.0 t m (I.sum (after r)) _ ((h some).sum t (after r) a.1.0 a.1.1 (ends s.CloseSquare a.1.0 3 a.1.2.0 (omega arith)))
      (then_comes Deep (piece a.1.0) (after a.1.0) t m _ _ (expect_comes Deep s.CloseSquare a.1.0 a.1.2.0) (refl, a.1.2.1)))

  subs_come : (more : List Sum) (n : ℕ) (found : List Sum) (r m : Reading) → left r ≤ n → each (g.subscript wanted F) more r m → (symbol m ≡ s.OpenSquare → ⊥)
      → Comes Deep (found ++ more) m (subscripts_from nests I n found r)
  unfolding subscripts_from
  subs_come more zero found r m fuel d stop = absurd (omega arith)
  subs_come [] (suc n) found r m fuel d stop = choose_no Deep (found ++ []) m r s.OpenSquare _ _ (λ e. stop (sym (ap symbol d) ∙ e)) (sym (append-nil found), d)
  subs_come (x ∷ more) (suc n) found r m fuel d stop =
      choose_yes Deep (found ++ x ∷ more) m r s.OpenSquare _ _ d.1.1.1.0
      (goes_far Deep x r d.0 (found ++ x ∷ more) m _ (subscript nests I r) _ (y.subscript_takes nests I (nested nests) (nested_derives nests) r d.1.1.1.0) (subscript_comes x r d.0 d.1)
      (λ f. subst (λ l. Comes Deep l m (subscripts_from nests I n (found ++ x ∷ []) d.0)) (append_assoc found (x ∷ []) more)
      (subs_come more n (found ++ x ∷ []) d.0 m (omega (arith, f, fuel)) d.2 stop)))

  all_come : (all : List Sum) (r m : Reading) → each (g.subscript wanted F) all r m → 1 ≤ power (symbol m) → Comes Deep all m (subscripts nests I r)
  unfolding subscripts
  all_come all r m d k = subs_come all (left r) [] r m (omega arith) d (other s.OpenSquare m 1 k (omega arith))

  pub target_comes : (t : Target) (r m : Reading) → g.IsTarget wanted F t r m → 1 ≤ power (symbol m) → Comes Deep t m (target nests I r)
  unfolding target
  target_comes t r m d k =
      let a = word_then s.Name d.name r (λ z. each (g.subscript wanted F) d.subscripts z m) d.derived in
      then_comes Deep d.name (after r) t m (expect s.Name r) _ (word_comes Deep s.Name d.name r a.0 a.1)
      (then_comes Deep d.subscripts m t m (subscripts nests I (after r)) _ (all_come d.subscripts (after r) m a.2 k) (d.is, refl))

  arguments_come : 0 < nests → (vs : List Value) (r m : Reading) → g.arguments wanted F vs r m → Comes Deep vs m (arguments nests I r)
  unfolding arguments
  arguments_come some [] r m d =
      eat_yes Deep [] m s.CloseRound r (λ is_empty. if is_empty then pure [] else (do found ← separated s.Comma (below nests).value; expect s.CloseRound; pure found)) d.0 (refl, d.1)
  arguments_come some (v ∷ more) r m d =
      eat_no Deep (v ∷ more) m s.CloseRound r (λ is_empty. if is_empty then pure [] else (do found ← separated s.Comma (below nests).value; expect s.CloseRound; pure found))
      ((h some).opens v r d.1.0 d.1.1)
      (then_comes Deep (v ∷ more) d.0 (v ∷ more) m (separated s.Comma (below nests).value r) _
      (separated_comes Deep s.Comma (below nests).value F.value _ 8 (omega arith) ((λ e. absurd (cc)), (λ e. absurd (cc))) (nested_derives nests).value (h some).value
      more v (left r) [] r d.0 (omega arith) d.1 (ends s.CloseRound d.0 8 d.2.0 (omega arith)) (λ e. let f : s.CloseRound ≡ s.Comma = sym d.2.0 ∙ e in absurd (cc)))
      (then_comes Deep (piece d.0) (after d.0) (v ∷ more) m _ _ (expect_comes Deep s.CloseRound d.0 d.2.0) (refl, d.2.1)))

  call_comes : (name : Piece) (values : List Value) (t : Primary) (r m : Reading) → pri.Call name values ≡ t → g.nest wanted (token s.OpenRound then g.arguments wanted F values) r m
      → Comes Deep t m (call nests I name r)
  unfolding call
  call_comes name values t r m is d =
      let a = token_then s.OpenRound r (λ z. g.arguments wanted F values z m) d.1 in
      opened_comes Deep t m r wanted nests _ room d.0 (λ some.
      then_comes Deep values m t m (arguments nests I (after r)) _ (arguments_come some values (after r) m a.1) (is, refl))

  no_call : (all : List Sum) (r m : Reading) → each (g.subscript wanted F) all r m → 1 ≤ power (symbol m) → symbol r ≡ s.OpenRound → ⊥
  no_call [] r m d k e = other s.OpenRound m 1 k (omega arith) (sym (ap symbol d) ∙ e)
  no_call (x ∷ more) r m d k e = let f : s.OpenSquare ≡ s.OpenRound = sym d.1.1.1.0 ∙ e in absurd (cc)

  primary_comes : (t : Primary) (r m : Reading) → g.IsPrimary wanted F t r m → 1 ≤ power (symbol m) → Comes Deep t m (primary nests I r)
  unfolding primary named operator bracket
  primary_comes t r m (g.IsPrimary.integer p is w) k = subst (λ x. Comes Deep t m (primary_by nests I x r)) (sym w.0) (ap pri.Integer w.1 ∙ is, w.2)
  primary_comes t r m (g.IsPrimary.literal p is w) k = subst (λ x. Comes Deep t m (primary_by nests I x r)) (sym w.0) (ap pri.Literal w.1 ∙ is, w.2)
  primary_comes t r m (g.IsPrimary.target name is d) k =
      let a = word_then s.Name d.name r (λ z. each (g.subscript wanted F) d.subscripts z m) d.derived in
      subst (λ x. Comes Deep t m (primary_by nests I x r)) (sym a.0)
      (choose_no Deep t m (after r) s.OpenRound _ _ (no_call d.subscripts (after r) m a.2 k)
      (then_comes Deep d.subscripts m t m (subscripts nests I (after r)) _ (all_come d.subscripts (after r) m a.2 k)
      (ap (λ n. pri.Target (roll-Target (record { name = n; subscripts = d.subscripts }))) a.1 ∙ (ap pri.Target d.is ∙ is), refl)))
  primary_comes t r m (g.IsPrimary.call name values is (x, inl w, d)) k =
      let c : g.nest wanted (token s.OpenRound then g.arguments wanted F values) (after r) m = subst (λ z. g.nest wanted (token s.OpenRound then g.arguments wanted F values) z m) (sym w.2) d in
      subst (λ x. Comes Deep t m (primary_by nests I x r)) (sym w.0)
      (choose_yes Deep t m (after r) s.OpenRound _ _ c.1.1.0 (call_comes (piece r) values t (after r) m (ap (λ n. pri.Call n values) w.1 ∙ is) c))
  primary_comes t r m (g.IsPrimary.call name values is (x, inr w, d)) k =
      let c : g.nest wanted (token s.OpenRound then g.arguments wanted F values) (after r) m = subst (λ z. g.nest wanted (token s.OpenRound then g.arguments wanted F values) z m) (sym w.2) d in
      subst (λ x. Comes Deep t m (primary_by nests I x r)) (sym w.0)
      (choose_yes Deep t m (after r) s.OpenRound _ _ c.1.1.0 (call_comes (piece r) values t (after r) m (ap (λ n. pri.Call n values) w.1 ∙ is) c))
  primary_comes t r m (g.IsPrimary.bracket v is d) k =
      let a : (symbol r ≡ s.OpenRound) × (F.value v then token s.CloseRound) (after r) m = token_then s.OpenRound r (λ z. (F.value v then token s.CloseRound) z m) d.1 in
      subst (λ x. Comes Deep t m (primary_by nests I x r)) (sym a.0)
      (opened_comes Deep t m r wanted nests _ room d.0 (λ some.
      then_comes Deep v a.1.0 t m (I.value (after r)) _ ((h some).value v (after r) a.1.0 a.1.1 (ends s.CloseRound a.1.0 8 a.1.2.0 (omega arith)))
      (then_comes Deep (piece a.1.0) (after a.1.0) t m _ _ (expect_comes Deep s.CloseRound a.1.0 a.1.2.0) (is, a.1.2.1))))

  no_sign : (t : Primary) (r m : Reading) → g.IsPrimary wanted F t r m → unary_sign (symbol r) ≡ None
  no_sign t r m (g.IsPrimary.integer p is w) = ap unary_sign w.0
  no_sign t r m (g.IsPrimary.literal p is w) = ap unary_sign w.0
  no_sign t r m (g.IsPrimary.target name is d) = ap unary_sign d.derived.1.0
  no_sign t r m (g.IsPrimary.call name values is (x, inl w, d)) = ap unary_sign w.0
  no_sign t r m (g.IsPrimary.call name values is (x, inr w, d)) = ap unary_sign w.0
  no_sign t r m (g.IsPrimary.bracket v is d) = ap unary_sign d.1.1.0

  pub operand_comes : (more : List UnarySign) (p : Primary) (signs : List UnarySign) (r m : Reading) → g.operand wanted F more p r m → 1 ≤ power (symbol m)
      → Comes Deep (roll-Unary (record { signs = signs ++ more; primary = p })) m (unary nests I signs r)
  unfolding unary operand
  operand_comes [] p signs r m d k =
      rw (no_sign p r m d)
      (then_comes Deep p m (roll-Unary (record { signs = signs ++ []; primary = p })) m (primary nests I r) _ (primary_comes p r m d k)
      (ap (λ l. roll-Unary (record { signs = l; primary = p })) (sym (append-nil signs)), refl))
  operand_comes (x ∷ more) p signs r m d k =
      let a = token_then (unary_token x) r (λ z. F.operand more p z m) d.1 in
      let some : unary_sign (symbol r) ≡ Some x = ap unary_sign a.0 ∙ unary_forth x in
      rw some
      (opened_comes Deep (roll-Unary (record { signs = signs ++ x ∷ more; primary = p })) m r wanted nests _ room d.0 (λ some_nest.
      subst (λ l. Comes Deep (roll-Unary (record { signs = l; primary = p })) m (I.unary (signs ++ x ∷ []) (after r))) (append_assoc signs (x ∷ []) more)
      ((h some_nest).operand more p (signs ++ x ∷ []) (after r) m a.1 k)))

  first_comes : (t : Unary) (r m : Reading) → g.IsUnary wanted F t r m → 1 ≤ power (symbol m) → Comes Deep t m (unary nests I [] r)
  first_comes t r m d k = subst (λ x. Comes Deep x m (unary nests I [] r)) d.is (operand_comes d.signs d.primary [] r m d.derived k)

  abbrev S : y.Derives (below nests) (nested nests)
  S = nested_derives nests

  product_comes : (t : Product) (r m : Reading) → g.IsProduct wanted F t r m → 2 ≤ power (symbol m) → Comes Deep t m (product nests I r)
  unfolding product product_rest
  product_comes t r m d k =
      let more = signed_ends Deep product_sign product_token (unary nests I []) (g.IsUnary wanted F) _ 1 product_forth no_product product_power (omega arith) (y.first_unary nests I (nested nests) S) first_comes
      d.rest d.derived.0 m d.derived.2 k in
      then_comes Deep d.first d.derived.0 t m (unary nests I [] r) _ (first_comes d.first r d.derived.0 d.derived.1 more)
      (then_comes Deep d.rest m t m _ _
      (signed_comes Deep product_sign product_token (unary nests I []) (g.IsUnary wanted F) _ 1 product_forth no_product product_power (omega arith) (y.first_unary nests I (nested nests) S) first_comes
      d.rest (left d.derived.0) [] d.derived.0 m (omega arith) d.derived.2 k) (d.is, refl))

  sum_comes : (t : Sum) (r m : Reading) → g.IsSum wanted F t r m → 3 ≤ power (symbol m) → Comes Deep t m (sum nests I r)
  unfolding sum sum_rest
  sum_comes t r m d k =
      let more = signed_ends Deep sum_sign sum_token (product nests I) (g.IsProduct wanted F) _ 2 sum_forth no_sum sum_power (omega arith)
      (y.product_yields nests I (nested nests) S) product_comes d.rest d.derived.0 m d.derived.2 k in
      then_comes Deep d.first d.derived.0 t m _ _ (product_comes d.first r d.derived.0 d.derived.1 more)
      (then_comes Deep d.rest m t m _ _
      (signed_comes Deep sum_sign sum_token (product nests I) (g.IsProduct wanted F) _ 2 sum_forth no_sum sum_power (omega arith) (y.product_yields nests I
      (nested nests) S) product_comes d.rest (left d.derived.0) [] d.derived.0 m (omega arith) d.derived.2 k) (d.is, refl))

  compare_comes : (t : Compare) (r m : Reading) → g.IsCompare wanted F t r m → 4 ≤ power (symbol m) → Comes Deep t m (compare nests I r)
  unfolding compare compare_rest
  compare_comes t r m d k =
      let more = signed_ends Deep rel_sign rel_token (sum nests I) (g.IsSum wanted F) _ 3 rel_forth no_rel rel_power (omega arith) (y.sum_yields nests I (nested nests) S) sum_comes d.rest d.derived.0 m d.derived.2 k in
      then_comes Deep d.first d.derived.0 t m _ _ (sum_comes d.first r d.derived.0 d.derived.1 more)
      (then_comes Deep d.rest m t m _ _
      (signed_comes Deep rel_sign rel_token (sum nests I) (g.IsSum wanted F) _ 3 rel_forth no_rel rel_power (omega arith) (y.sum_yields nests I (nested
      nests) S) sum_comes d.rest (left d.derived.0) [] d.derived.0 m (omega arith) d.derived.2 k) (d.is, refl))

  equal_comes : (t : Equal) (r m : Reading) → g.IsEqual wanted F t r m → 5 ≤ power (symbol m) → Comes Deep t m (equal nests I r)
  unfolding equal equal_rest
  equal_comes t r m d k =
      let more = signed_ends Deep equal_sign equal_token (compare nests I) (g.IsCompare wanted F) _ 4 equal_forth no_equal equal_power (omega
      arith) (y.compare_yields nests I (nested nests) S) compare_comes d.rest d.derived.0 m d.derived.2 k in
      then_comes Deep d.first d.derived.0 t m _ _ (compare_comes d.first r d.derived.0 d.derived.1 more)
      (then_comes Deep d.rest m t m _ _
      (signed_comes Deep equal_sign equal_token (compare nests I) (g.IsCompare wanted F) _ 4 equal_forth no_equal equal_power (omega arith) (y.compare_yields nests I
      (nested nests) S) compare_comes d.rest (left d.derived.0) [] d.derived.0 m (omega arith) d.derived.2 k) (d.is, refl))

  and_comes : (t : And) (r m : Reading) → g.IsAnd wanted F t r m → 6 ≤ power (symbol m) → Comes Deep t m (and_value nests I r)
  unfolding and_value
  and_comes t r m d k = then_comes Deep d.items m t m _ _ (all d.items d.derived) (d.is, refl)
    where
      all : (items : List Equal) → g.separated s.And (g.IsEqual wanted F) items r m → Comes Deep items m (separated s.And (equal nests I) r)
      all [] d = absurd d
      all (x ∷ more) d =
          separated_comes Deep s.And (equal nests I) (g.IsEqual wanted F) _ 5 (omega arith) ((λ e. absurd (cc)), (λ e. absurd (cc))) (y.equal_yields nests I (nested nests) S) equal_comes
          more x (left r) [] r m (omega arith) d (omega (arith, k)) (other s.And m 6 k (omega arith))

  or_comes : (t : Or) (r m : Reading) → g.IsOr wanted F t r m → 7 ≤ power (symbol m) → Comes Deep t m (or_value nests I r)
  unfolding or_value
  or_comes t r m d k = then_comes Deep d.items m t m _ _ (all d.items d.derived) (d.is, refl)
    where
      all : (items : List And) → g.separated s.Or (g.IsAnd wanted F) items r m → Comes Deep items m (separated s.Or (and_value nests I) r)
      all [] d = absurd d
      all (x ∷ more) d =
          separated_comes Deep s.Or (and_value nests I) (g.IsAnd wanted F) _ 6 (omega arith) ((λ e. absurd (cc)), (λ e. absurd (cc))) (y.and_yields nests I (nested nests) S) and_comes
          more x (left r) [] r m (omega arith) d (omega (arith, k)) (other s.Or m 7 k (omega arith))

  arms_come : (t : Option Arms) (r m : Reading) → g.IsArms wanted F t r m → 8 ≤ power (symbol m) → Comes Deep t m (arms nests I r)
  unfolding arms
  arms_come t r m (g.IsArms.absent is d) k = choose_no Deep t m r s.Question _ _ (λ e. other s.Question m 8 k (omega arith) (sym (ap symbol d) ∙ e)) (is, d)
  arms_come t r m (g.IsArms.present one more is d) k =
      let a : (symbol r ≡ s.Question) × (F.value one then token s.Colon then F.value more) (after r) m =
      token_then s.Question r (λ z. (F.value one then token s.Colon then F.value more) z m) d.1 in
      let b = token_then s.Colon a.1.0 (λ z. F.value more z m) a.1.2 in
      choose_yes Deep t m r s.Question _ _ a.0
      (opened_comes Deep t m r wanted nests _ room d.0 (λ some.
      then_comes Deep one a.1.0 t m (I.value (after r)) _ ((h some).value one (after r) a.1.0 a.1.1 (ends s.Colon a.1.0 8 b.0 (omega arith)))
      (then_comes Deep (piece a.1.0) (after a.1.0) t m _ _ (expect_comes Deep s.Colon a.1.0 b.0)
      (then_comes Deep more m t m (I.value (after a.1.0)) _ ((h some).value more (after a.1.0) m b.1 k) (is, refl)))))

  arms_end : (t : Option Arms) (r m : Reading) → g.IsArms wanted F t r m → 8 ≤ power (symbol m) → 7 ≤ power (symbol r)
  arms_end t r m (g.IsArms.absent is d) k = rw d (omega (arith, k))
  arms_end t r m (g.IsArms.present one more is d) k = ends s.Question r 7 d.1.1.0 (omega arith)

  pub value_comes : (t : Value) (r m : Reading) → g.IsValue wanted F t r m → 8 ≤ power (symbol m) → Comes Deep t m (value nests I r)
  unfolding value
  value_comes t r m d k =
      then_comes Deep d.test d.derived.0 t m _ _ (or_comes d.test r d.derived.0 d.derived.1 (arms_end d.arms d.derived.0 m d.derived.2 k))
      (then_comes Deep d.arms m t m _ _ (arms_come d.arms d.derived.0 m d.derived.2 k) (d.is, refl))

  -- no value begins with a closing bracket
  primary_opens : (t : Primary) (r m : Reading) → g.IsPrimary wanted F t r m → symbol r ≡ s.CloseRound → ⊥
  primary_opens t r m (g.IsPrimary.integer p is w) e = let f : s.Integer ≡ s.CloseRound = sym w.0 ∙ e in absurd (cc)
  primary_opens t r m (g.IsPrimary.literal p is w) e = let f : s.Literal ≡ s.CloseRound = sym w.0 ∙ e in absurd (cc)
  primary_opens t r m (g.IsPrimary.target name is d) e = let f : s.Name ≡ s.CloseRound = sym d.derived.1.0 ∙ e in absurd (cc)
  primary_opens t r m (g.IsPrimary.call name values is (x, inl w, d)) e = let f : s.Name ≡ s.CloseRound = sym w.0 ∙ e in absurd (cc)
  primary_opens t r m (g.IsPrimary.call name values is (x, inr w, d)) e = let f : s.Operator ≡ s.CloseRound = sym w.0 ∙ e in absurd (cc)
  primary_opens t r m (g.IsPrimary.bracket v is d) e = let f : s.OpenRound ≡ s.CloseRound = sym d.1.1.0 ∙ e in absurd (cc)

  operand_opens : (signs : List UnarySign) (p : Primary) (r m : Reading) → g.operand wanted F signs p r m → symbol r ≡ s.CloseRound → ⊥
  operand_opens [] p r m d e = primary_opens p r m d e
  operand_opens (x ∷ more) p r m d e = unary_opens x (sym d.1.1.0 ∙ e)

  equal_opens : (t : Equal) (r m : Reading) → g.IsEqual wanted F t r m → symbol r ≡ s.CloseRound → ⊥
  equal_opens t r m d e =
      let u = d.derived.1.derived.1.derived.1.derived.1 in
      operand_opens u.signs u.primary r _ u.derived e

  and_opens : (t : And) (r m : Reading) → g.IsAnd wanted F t r m → symbol r ≡ s.CloseRound → ⊥
  and_opens t r m d e = go d.items d.derived
    where
      go : (items : List Equal) → g.separated s.And (g.IsEqual wanted F) items r m → ⊥
      go [] d = d
      go (x ∷ more) d = equal_opens x r d.0 d.1 e

  or_opens : (t : Or) (r m : Reading) → g.IsOr wanted F t r m → symbol r ≡ s.CloseRound → ⊥
  or_opens t r m d e = go d.items d.derived
    where
      go : (items : List And) → g.separated s.Or (g.IsAnd wanted F) items r m → ⊥
      go [] d = d
      go (x ∷ more) d = and_opens x r d.0 d.1 e

  pub level_full : Full Deep (rules nests (below nests)) (g.forms wanted (nested wanted))
  level_full = record {
    value = value_comes;
    sum = sum_comes;
    operand = operand_comes;
    opens = λ t r m d e. or_opens d.test r d.derived.0 d.derived.1 e;
  }

pub nested_full : (Deep : Type 0) (wanted nests : ℕ) → Room Deep wanted nests → 0 < nests → Full Deep (below nests) (nested wanted)
unfolding below
nested_full Deep wanted zero room some = absurd (omega arith)
nested_full Deep zero (suc nests) room some = record { value = λ t r m d k. absurd d; sum = λ t r m d k. absurd d; operand = λ more p signs r m d k. absurd d; opens = λ t r m d e. d }
nested_full Deep (suc wanted) (suc nests) room some =
    level_full Deep wanted nests (less_room Deep wanted nests room) (λ some. nested_full Deep wanted nests (less_room Deep wanted nests room) some)
