-- The rules of values read what their productions derive.
use Rattle.std.proofs.Common.{◌≡◌, ℕ, zero, suc, Bool, true, false, if◌then◌else◌, List, [], ◌∷◌, ◌++◌, Option, Some, None, Ok, inl, inr, refl, ap, sym, subst, ◌∙◌, arith, append_assoc}
use Rattle.std.proofs.lemmas.List.{append-nil}
use Rattle.c_lexer.specs.declared.symbols.Symbol.{Symbol}
use Rattle.c_lexer.specs.declared.symbols.Symbol.TheVariants as s
use Rattle.c_lexer.specs.declared.pieces.Piece.{Piece}
use Rattle.c_lexer.specs.Readings.{Reading}
use Rattle.c_lexer.specs.Symbols.{same_symbol}
use Rattle.c_lexer.specs.Input.{◌>>=◌, ◌>>◌, pure, expect, left, symbol, piece, after, after_if, sees}
use Rattle.c_lexer.proofs.TokenFacts.{seen, is_same, some_is}
use Rattle.c_parser.specs.declared.tree.Value.{Value}
use Rattle.c_parser.specs.declared.tree.EqualSign.{EqualSign}
use Rattle.c_parser.specs.declared.tree.Rel.{Rel}
use Rattle.c_parser.specs.declared.tree.Sum.{Sum}
use Rattle.c_parser.specs.declared.tree.SumSign.{SumSign}
use Rattle.c_parser.specs.declared.tree.ProductSign.{ProductSign}
use Rattle.c_parser.specs.declared.tree.Unary.{Unary, roll-Unary}
use Rattle.c_parser.specs.declared.tree.UnarySign.{UnarySign}
use Rattle.c_parser.specs.declared.tree.Primary.{Primary}
use Rattle.c_parser.specs.declared.tree.Primary.TheVariants as pri
use Rattle.c_parser.specs.declared.tree.Target.{roll-Target}
use Rattle.c_parser.specs.Values.{Rules, separated, equal_sign, rel_sign, sum_sign, product_sign, unary_sign, subscript, subscripts_from, subscripts, target, arguments, call, named, operator, bracket, primary_by, primary, operand, unary_by, unary, product_rest, product, sum_rest, sum, compare_rest, compare, equal_rest, equal, and_value, or_value, arms, value, below}
use Rattle.c_parser.specs.Grammar as g
use Rattle.c_parser.specs.Grammar.{Phrase, ◌then◌, token, word, empty, each, equal_token, rel_token, sum_token, product_token, unary_token, Forms, no_forms, nested}
use Rattle.c_parser.proofs.Yields.{Yields, then_yields, take_yields, choose_yields, expect_yields, yields_so, opened, Takes, then_takes, take_takes, expect_takes, opened_takes, takes_yields, all_signed, all_separated}

-- ---- a sign is the token that it is read from

pub equal_back : (k : Symbol) (x : EqualSign) → equal_sign k ≡ Some x → k ≡ equal_token x
equal_back s.Same x e = ap equal_token (some_is e)
equal_back s.Differ x e = ap equal_token (some_is e)
equal_back _ x e = absurd (cc)

pub rel_back : (k : Symbol) (x : Rel) → rel_sign k ≡ Some x → k ≡ rel_token x
rel_back s.Less x e = ap rel_token (some_is e)
rel_back s.LessEqual x e = ap rel_token (some_is e)
rel_back s.Greater x e = ap rel_token (some_is e)
rel_back s.GreaterEqual x e = ap rel_token (some_is e)
rel_back _ x e = absurd (cc)

pub sum_back : (k : Symbol) (x : SumSign) → sum_sign k ≡ Some x → k ≡ sum_token x
sum_back s.Plus x e = ap sum_token (some_is e)
sum_back s.Minus x e = ap sum_token (some_is e)
sum_back _ x e = absurd (cc)

pub product_back : (k : Symbol) (x : ProductSign) → product_sign k ≡ Some x → k ≡ product_token x
product_back s.Times x e = ap product_token (some_is e)
product_back s.Divide x e = ap product_token (some_is e)
product_back s.Remainder x e = ap product_token (some_is e)
product_back _ x e = absurd (cc)

pub unary_back : (k : Symbol) (x : UnarySign) → unary_sign k ≡ Some x → k ≡ unary_token x
unary_back s.Plus x e = ap unary_token (some_is e)
unary_back s.Minus x e = ap unary_token (some_is e)
unary_back s.Not x e = ap unary_token (some_is e)
unary_back _ x e = absurd (cc)

-- an operand, behind the signs that were read
abbrev pub Operand : (List UnarySign → Primary → Phrase) → List UnarySign → Reading → Unary → Reading → Type 0
Operand form signs r t m = (more : List UnarySign) × (p : Primary) × (roll-Unary (record { signs = signs ++ more; primary = p }) ≡ t) × form more p r m

-- the rules of one nest more read what its productions derive
pub record Derives (inner : Rules) (forms : Forms) : Type 0 where
  pub value : (r : Reading) → Yields r (λ t m. forms.value t r m) (inner.value r)
  pub sum : (r : Reading) → Yields r (λ t m. forms.sum t r m) (inner.sum r)
  pub unary : (signs : List UnarySign) (r : Reading) → Yields r (Operand forms.operand signs r) (inner.unary signs r)

module _ (nests : ℕ) (inner : Rules) (forms : Forms) (h : Derives inner forms) where
  pub subscript_takes : (r : Reading) → symbol r ≡ s.OpenSquare → Takes r (λ t m. g.subscript nests forms t r m) (subscript nests inner r)
  unfolding subscript
  subscript_takes r e =
      opened_takes nests r (λ t m. g.subscript nests forms t r m) _ (λ some. take_takes s.OpenSquare r (λ t m. g.subscript nests forms t r m) _ e ((λ f. absurd (cc)), (λ f. absurd (cc)))
      (then_yields (after r) _ (λ t m. g.subscript nests forms t r m) _ _ (h.sum (after r)) (λ a m d.
      then_yields m _ (λ t m. g.subscript nests forms t r m) _ _ (expect_yields s.CloseSquare m) (λ p n w.
      (omega arith, (some, (after r, (e, refl), (m, d, (w.0, w.2)))))))))

  abbrev Subscripts : Reading → List Sum → List Sum → Reading → Type 0
  Subscripts r found all m = (more : List Sum) × (found ++ more ≡ all) × each (g.subscript nests forms) more r m

  subscripts_yield : (n : ℕ) (found : List Sum) (r : Reading) → Yields r (Subscripts r found) (subscripts_from nests inner n found r)
  unfolding subscripts_from
  subscripts_yield zero found r = tt
  subscripts_yield (suc n) found r =
      choose_yields r (Subscripts r found) (same_symbol (symbol r) s.OpenSquare) _ _
      (λ e. then_yields r _ (Subscripts r found) _ _ (takes_yields r _ _ (subscript_takes r (is_same (symbol r) s.OpenSquare e))) (λ a m d.
      yields_so m (Subscripts m (found ++ a ∷ [])) (Subscripts r found) _ (subscripts_yield n (found ++ a ∷ []) m) (λ all z k.
      (a ∷ k.0, sym (append_assoc found (a ∷ []) k.0) ∙ k.1, (m, d, k.2)))))
      (λ e. (omega arith, ([], append-nil found, refl)))

  pub all_subscripts : (r : Reading) → Yields r (λ all m. each (g.subscript nests forms) all r m) (subscripts nests inner r)
  unfolding subscripts
  all_subscripts r = yields_so r _ _ _ (subscripts_yield (left r) [] r) (λ all m k. let P : List Sum → Type 0 = λ x. each (g.subscript nests forms) x r m in subst P k.1 k.2)

  pub target_takes : (r : Reading) → Takes r (λ t m. g.IsTarget nests forms t r m) (target nests inner r)
  unfolding target
  target_takes r =
      then_takes r _ _ _ _ (expect_takes s.Name r ((λ f. absurd (cc)), (λ f. absurd (cc)))) (λ name m w.
      then_yields m _ _ _ _ (all_subscripts m) (λ found n d.
      (omega arith, record { name = name; subscripts = found; is = refl; derived = (m, w, d) })))

  arguments_form : (vs : List Value) (r m n : Reading) → g.separated s.Comma forms.value vs r m → token s.CloseRound m n → g.arguments nests forms vs r n
  arguments_form [] r m n d e = absurd d
  arguments_form (v ∷ vs) r m n d e = (m, d, e)

  pub arguments_yield : (r : Reading) → Yields r (λ t m. g.arguments nests forms t r m) (arguments nests inner r)
  unfolding arguments after_if
  arguments_yield r = if_eat (sees s.CloseRound r) refl
    where
      if_eat : (b : Bool) → sees s.CloseRound r ≡ b
          → Yields r (λ t m. g.arguments nests forms t r m) ((if b then pure [] else (do found ← separated s.Comma inner.value; expect s.CloseRound; pure found)) (if b then after r else r))
      if_eat true e = take_yields r (λ t m. g.arguments nests forms t r m) (Ok ([], after r)) (omega arith, (seen s.CloseRound r e, refl))
      if_eat false e =
          then_yields r _ (λ t m. g.arguments nests forms t r m) _ _ (all_separated s.Comma inner.value forms.value h.value r) (λ found m d.
          then_yields m _ (λ t m. g.arguments nests forms t r m) _ _ (expect_yields s.CloseRound m) (λ p n w. (omega arith, arguments_form found r m n d (w.0, w.2))))

  pub call_yields : (r m : Reading) (name : Piece) → g.called nests forms name r m → symbol m ≡ s.OpenRound → Yields m (λ t n. g.IsPrimary nests forms t r n) (call nests inner name m)
  unfolding call
  call_yields r m name c e =
      opened nests m (λ t n. g.IsPrimary nests forms t r n) _ (λ some. take_yields m (λ t n. g.IsPrimary nests forms t r n) _
      (then_yields (after m) _ (λ t n. g.IsPrimary nests forms t r n) _ _ (arguments_yield (after m)) (λ found n d.
      (omega arith, g.IsPrimary.call name found refl (m, c, (some, (after m, (e, refl), d)))))))

  pub named_yields : (r : Reading) → symbol r ≡ s.Name → Yields r (λ t m. g.IsPrimary nests forms t r m) (named nests inner r)
  unfolding named
  named_yields r e =
      take_yields r (λ t m. g.IsPrimary nests forms t r m) _
      (choose_yields (after r) (λ t m. g.IsPrimary nests forms t r m) (same_symbol (symbol (after r)) s.OpenRound) _ _
      (λ f. call_yields r (after r) (piece r) (inl (e, refl, refl)) (is_same _ _ f))
      (λ f. then_yields (after r) _ (λ t m. g.IsPrimary nests forms t r m) _ _ (all_subscripts (after r)) (λ found m d.
      (omega arith, g.IsPrimary.target (roll-Target (record { name = piece r; subscripts = found })) refl (record { name = piece r; subscripts = found; is = refl; derived = (after r, (e, refl, refl), d) })))))

  pub operator_yields : (r : Reading) → symbol r ≡ s.Operator → Yields r (λ t m. g.IsPrimary nests forms t r m) (operator nests inner r)
  unfolding operator
  operator_yields r e =
      take_yields r (λ t m. g.IsPrimary nests forms t r m) _
      (choose_yields (after r) (λ t m. g.IsPrimary nests forms t r m) (same_symbol (symbol (after r)) s.OpenRound) _ _
      (λ f. call_yields r (after r) (piece r) (inr (e, refl, refl)) (is_same _ _ f))
      (λ f. tt))

  pub bracket_yields : (r : Reading) → symbol r ≡ s.OpenRound → Yields r (λ t m. g.IsPrimary nests forms t r m) (bracket nests inner r)
  unfolding bracket
  bracket_yields r e =
      opened nests r (λ t m. g.IsPrimary nests forms t r m) _ (λ some. take_yields r (λ t m. g.IsPrimary nests forms t r m) _
      (then_yields (after r) _ (λ t m. g.IsPrimary nests forms t r m) _ _ (h.value (after r)) (λ a m d.
      then_yields m _ (λ t m. g.IsPrimary nests forms t r m) _ _ (expect_yields s.CloseRound m) (λ p n w.
      (omega arith, g.IsPrimary.bracket a refl (some, (after r, (e, refl), (m, d, (w.0, w.2)))))))))

  pub primary_by_yields : (k : Symbol) (r : Reading) → symbol r ≡ k → Yields r (λ t m. g.IsPrimary nests forms t r m) (primary_by nests inner k r)
  primary_by_yields s.Integer r e = take_yields r (λ t m. g.IsPrimary nests forms t r m) (Ok (pri.Integer (piece r), after r)) (omega arith, g.IsPrimary.integer (piece r) refl (e, refl, refl))
  primary_by_yields s.Literal r e = take_yields r (λ t m. g.IsPrimary nests forms t r m) (Ok (pri.Literal (piece r), after r)) (omega arith, g.IsPrimary.literal (piece r) refl (e, refl, refl))
  primary_by_yields s.Name r e = named_yields r e
  primary_by_yields s.Operator r e = operator_yields r e
  primary_by_yields s.OpenRound r e = bracket_yields r e
  primary_by_yields _ r e = tt

  pub operand_yields : (signs : List UnarySign) (r : Reading) → Yields r (Operand (g.operand nests forms) signs r) (operand nests inner signs r)
  unfolding operand primary
  operand_yields signs r =
      then_yields r _ (Operand (g.operand nests forms) signs r) _ _ (primary_by_yields (symbol r) r refl) (λ p m d.
      (omega arith, ([], p, ap (λ x. roll-Unary (record { signs = x; primary = p })) (append-nil signs), d)))

  pub unary_by_yields : (signs : List UnarySign) (r : Reading) (o : Option UnarySign) → unary_sign (symbol r) ≡ o
      → Yields r (Operand (g.operand nests forms) signs r) (unary_by nests inner signs o r)
  unary_by_yields signs r None e = operand_yields signs r
  unary_by_yields signs r (Some x) e =
      opened nests r (Operand (g.operand nests forms) signs r) _ (λ some. take_yields r (Operand (g.operand nests forms) signs r) _
      (yields_so (after r) (Operand forms.operand (signs ++ x ∷ []) (after r)) (Operand (g.operand nests forms) signs r) _ (h.unary (signs ++ x ∷ []) (after r)) (λ t m k.
      (x ∷ k.0, k.1, ap (λ l. roll-Unary (record { signs = l; primary = k.1 })) (sym (append_assoc signs (x ∷ []) k.0)) ∙ k.2, (some, (after r, (unary_back (symbol r) x e, refl), k.3))))))

  pub unary_yields : (signs : List UnarySign) (r : Reading) → Yields r (Operand (g.operand nests forms) signs r) (unary nests inner signs r)
  unfolding unary
  unary_yields signs r = unary_by_yields signs r (unary_sign (symbol r)) refl

  pub first_unary : (r : Reading) → Yields r (λ t m. g.IsUnary nests forms t r m) (unary nests inner [] r)
  first_unary r = yields_so r _ _ _ (unary_yields [] r) (λ t m k. record { signs = k.0; primary = k.1; is = k.2; derived = k.3 })

  pub product_yields : (r : Reading) → Yields r (λ t m. g.IsProduct nests forms t r m) (product nests inner r)
  unfolding product product_rest
  product_yields r =
      then_yields r _ _ _ _ (first_unary r) (λ a m d.
      then_yields m _ _ _ _ (all_signed product_sign product_token (unary nests inner []) (g.IsUnary nests forms) product_back first_unary (left m) m) (λ l n e.
      (omega arith, record { first = a; rest = l; is = refl; derived = (m, d, e) })))

  pub sum_yields : (r : Reading) → Yields r (λ t m. g.IsSum nests forms t r m) (sum nests inner r)
  unfolding sum sum_rest
  sum_yields r =
      then_yields r _ _ _ _ (product_yields r) (λ a m d.
      then_yields m _ _ _ _ (all_signed sum_sign sum_token (product nests inner) (g.IsProduct nests forms) sum_back product_yields (left m) m) (λ l n e.
      (omega arith, record { first = a; rest = l; is = refl; derived = (m, d, e) })))

  pub compare_yields : (r : Reading) → Yields r (λ t m. g.IsCompare nests forms t r m) (compare nests inner r)
  unfolding compare compare_rest
  compare_yields r =
      then_yields r _ _ _ _ (sum_yields r) (λ a m d.
      then_yields m _ _ _ _ (all_signed rel_sign rel_token (sum nests inner) (g.IsSum nests forms) rel_back sum_yields (left m) m) (λ l n e.
      (omega arith, record { first = a; rest = l; is = refl; derived = (m, d, e) })))

  pub equal_yields : (r : Reading) → Yields r (λ t m. g.IsEqual nests forms t r m) (equal nests inner r)
  unfolding equal equal_rest
  equal_yields r =
      then_yields r _ _ _ _ (compare_yields r) (λ a m d.
      then_yields m _ _ _ _ (all_signed equal_sign equal_token (compare nests inner) (g.IsCompare nests forms) equal_back compare_yields (left m) m) (λ l n e.
      (omega arith, record { first = a; rest = l; is = refl; derived = (m, d, e) })))

  pub and_yields : (r : Reading) → Yields r (λ t m. g.IsAnd nests forms t r m) (and_value nests inner r)
  unfolding and_value
  and_yields r = then_yields r _ _ _ _ (all_separated s.And (equal nests inner) (g.IsEqual nests forms) equal_yields r) (λ l m d. (omega arith, record { items = l; is = refl; derived = d }))

  pub or_yields : (r : Reading) → Yields r (λ t m. g.IsOr nests forms t r m) (or_value nests inner r)
  unfolding or_value
  or_yields r = then_yields r _ _ _ _ (all_separated s.Or (and_value nests inner) (g.IsAnd nests forms) and_yields r) (λ l m d. (omega arith, record { items = l; is = refl; derived = d }))

  pub arms_yield : (r : Reading) → Yields r (λ t m. g.IsArms nests forms t r m) (arms nests inner r)
  unfolding arms
  arms_yield r =
      choose_yields r (λ t m. g.IsArms nests forms t r m) (same_symbol (symbol r) s.Question) _ _
      (λ e. opened nests r (λ t m. g.IsArms nests forms t r m) _ (λ some. take_yields r (λ t m. g.IsArms nests forms t r m) _
      (then_yields (after r) _ (λ t m. g.IsArms nests forms t r m) _ _ (h.value (after r)) (λ a m d.
      then_yields m _ (λ t m. g.IsArms nests forms t r m) _ _ (expect_yields s.Colon m) (λ p n w.
      then_yields n _ (λ t m. g.IsArms nests forms t r m) _ _ (h.value n) (λ b q f.
      (omega arith, g.IsArms.present a b refl (some, (after r, (is_same (symbol r) s.Question e, refl), (m, d, (n, (w.0, w.2), f)))))))))))
      (λ e. (omega arith, g.IsArms.absent refl refl))

  pub value_yields : (r : Reading) → Yields r (λ t m. g.IsValue nests forms t r m) (value nests inner r)
  unfolding value
  value_yields r =
      then_yields r _ _ _ _ (or_yields r) (λ a m d.
      then_yields m _ _ _ _ (arms_yield m) (λ b n e.
      (omega arith, record { test = a; arms = b; is = refl; derived = (m, d, e) })))

pub nested_derives : (n : ℕ) → Derives (below n) (nested n)
unfolding below
nested_derives zero = record { value = λ r. tt; sum = λ r. tt; unary = λ signs r. tt }
nested_derives (suc n) =
    let h : Derives (below n) (nested n) = nested_derives n in
    record { value = value_yields n (below n) (nested n) h; sum = sum_yields n (below n) (nested n) h; unary = unary_yields n (below n) (nested n) h }
