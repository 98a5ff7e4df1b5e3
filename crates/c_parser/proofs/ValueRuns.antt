-- The rules of values look no further than the next token, and stop for the causes that are stated.
use Rattle.std.proofs.Common.{◌≡◌, ℕ, zero, suc, ◌+◌, ◌≤◌, ◌<◌, Bool, true, false, if◌then◌else◌, List, [], ◌∷◌, ◌++◌, Option, Some, None, refl, ap, ◌∙◌, arith}
use Rattle.suite_base.specs.Limits.{max_nests}
use Rattle.c_lexer.specs.declared.symbols.Symbol.{Symbol}
use Rattle.c_lexer.specs.declared.symbols.Symbol.TheVariants as s
use Rattle.c_lexer.specs.declared.pieces.Piece.{Piece}
use Rattle.c_lexer.specs.Readings.{Reading}
use Rattle.c_lexer.specs.Symbols.{same_symbol, is_sound}
use Rattle.c_lexer.specs.Input.{Parser, ◌>>=◌, ◌>>◌, pure, refuse, peek, take_token, expect, open_nest, left, symbol, piece}
use Rattle.c_lexer.proofs.TokenFacts.{is_same}
use Rattle.c_parser.specs.declared.tree.Value.{Value, roll-Value}
use Rattle.c_parser.specs.declared.tree.Arms.{Arms, roll-Arms}
use Rattle.c_parser.specs.declared.tree.EqualSign.{EqualSign}
use Rattle.c_parser.specs.declared.tree.Rel.{Rel}
use Rattle.c_parser.specs.declared.tree.Sum.{Sum, roll-Sum}
use Rattle.c_parser.specs.declared.tree.SumSign.{SumSign}
use Rattle.c_parser.specs.declared.tree.ProductSign.{ProductSign}
use Rattle.c_parser.specs.declared.tree.Unary.{Unary}
use Rattle.c_parser.specs.declared.tree.UnarySign.{UnarySign}
use Rattle.c_parser.specs.declared.tree.Primary.{Primary}
use Rattle.c_parser.specs.declared.tree.Primary.TheVariants as pri
use Rattle.c_parser.specs.declared.tree.Target.{roll-Target}
use Rattle.c_parser.specs.Values.{Rules, separated, equal_sign, rel_sign, sum_sign, product_sign, unary_sign, subscript, subscripts_from, subscripts, target, arguments, call, named, operator, bracket, primary_by, primary, operand, unary_by, unary, product_rest, product, sum_rest, sum, compare_rest, compare, equal_rest, equal, and_value, or_value, arms, value, below}
use Rattle.c_parser.specs.Grammar.{nested}
use Rattle.c_parser.proofs.ValueYields as y
use Rattle.c_parser.proofs.ValueYields.{nested_derives}
use Rattle.c_parser.specs.Prefixes.{later, Sound, opens_nest, nests_among}
use Rattle.c_parser.proofs.Runs.{more_nests, Runs, runs_far, bind, take_next, open_next, choose_next, expect_then, expect_next, pure_runs, refuse_runs, peek_then, position_then, take_then, choose, eat_next, again, loop_runs, signed_runs, separated_runs, alike_far}

equal_sound : (k : Symbol) (x : EqualSign) → equal_sign k ≡ Some x → is_sound k ≡ true
equal_sound s.End x e = absurd (cc)
equal_sound s.Bad x e = absurd (cc)
equal_sound s.TooLarge x e = absurd (cc)
equal_sound _ x e = refl

pub rel_sound : (k : Symbol) (x : Rel) → rel_sign k ≡ Some x → is_sound k ≡ true
rel_sound s.End x e = absurd (cc)
rel_sound s.Bad x e = absurd (cc)
rel_sound s.TooLarge x e = absurd (cc)
rel_sound _ x e = refl

sum_sound : (k : Symbol) (x : SumSign) → sum_sign k ≡ Some x → is_sound k ≡ true
sum_sound s.End x e = absurd (cc)
sum_sound s.Bad x e = absurd (cc)
sum_sound s.TooLarge x e = absurd (cc)
sum_sound _ x e = refl

product_sound : (k : Symbol) (x : ProductSign) → product_sign k ≡ Some x → is_sound k ≡ true
product_sound s.End x e = absurd (cc)
product_sound s.Bad x e = absurd (cc)
product_sound s.TooLarge x e = absurd (cc)
product_sound _ x e = refl

unary_sound : (k : Symbol) (x : UnarySign) → unary_sign k ≡ Some x → is_sound k ≡ true
unary_sound s.End x e = absurd (cc)
unary_sound s.Bad x e = absurd (cc)
unary_sound s.TooLarge x e = absurd (cc)
unary_sound _ x e = refl

unary_nest : (k : Symbol) (x : UnarySign) → unary_sign k ≡ Some x → opens_nest k ≡ 1
unary_nest s.Plus x e = refl
unary_nest s.Minus x e = refl
unary_nest s.Not x e = refl
unary_nest _ x e = absurd (cc)

-- so many tokens were taken, and a nest that is opened beyond the limit has as many openings before it
abbrev pub Before : Reading → ℕ → ℕ → Type 0
Before r n i = Sound i r × (max_nests ≤ n + nests_among i r)

-- the same in one nest more
abbrev pub Within : Reading → ℕ → ℕ → Type 0
Within r n i = Sound i r × (max_nests < n + nests_among i r)

pub before_on : (r : Reading) (n i k : ℕ) → i ≤ k → Before r n i → Sound k r → Before r n k
before_on r n i k h d sound = let m = more_nests i k r h in (sound, omega (arith, d.1, m))

pub within_on : (r : Reading) (n i k : ℕ) → i ≤ k → Within r n i → Sound k r → Within r n k
within_on r n i k h d sound = let m = more_nests i k r h in (sound, omega (arith, d.1, m))

-- behind a token that opens a nest
pub enter : (r : Reading) (n i : ℕ) (k : Symbol) → Before r n i → symbol (later i r) ≡ k → is_sound k ≡ true → opens_nest k ≡ 1 → Within r n (suc i)
enter r n i k d e good one = let w : opens_nest (symbol (later i r)) ≡ 1 = ap opens_nest e ∙ one in ((d.0, ap is_sound e ∙ good), omega (arith, d.1, w))

-- the rules of one nest more
pub record Inner (r : Reading) (nests : ℕ) (inner : Rules) : Type 0 where
  pub value : (i : ℕ) → Within r nests i → Runs r (λ x. inner.value) i (inner.value (later i r))
  pub sum : (i : ℕ) → Within r nests i → Runs r (λ x. inner.sum) i (inner.sum (later i r))
  pub unary : (signs : List UnarySign) (i : ℕ) → Within r nests i → Runs r (λ x. inner.unary signs) i (inner.unary signs (later i r))

module _ (r : Reading) (nests : ℕ) (h : Inner r nests (below nests)) where
  abbrev I : Rules
  I = below nests

  abbrev S : y.Derives (below nests) (nested nests)
  S = nested_derives nests

  subscript_runs : (i : ℕ) → Before r nests i → symbol (later i r) ≡ s.OpenSquare → Runs r (λ x. subscript nests I) i (subscript nests I (later i r))
  unfolding subscript
  subscript_runs i d e =
      open_next r nests _ i d.0 d.1 (λ some.
      take_next r _ i (bind r (λ x. I.sum) _ (suc i) (h.sum (suc i) (enter r nests i s.OpenSquare d e refl refl)) (λ a k ik sound.
      expect_next r s.CloseSquare _ k refl sound (λ l kl on. pure_runs r _ l on))))

  abbrev One : (List Sum → Parser (List Sum)) → List Sum → Parser (List Sum)
  One f found = subscript nests I >>= (λ sum. f (found ++ sum ∷ []))

  abbrev SubsBy : (List Sum → Parser (List Sum)) → List Sum → Symbol → Parser (List Sum)
  SubsBy f found kind = if same_symbol kind s.OpenSquare then One f found else pure found

  abbrev Subs : (List Sum → Parser (List Sum)) → List Sum → Parser (List Sum)
  Subs f found = peek >>= SubsBy f found

  subs_turn : (n : ℕ) (found : List Sum) (m : Reading) → subscripts_from nests I (suc n) found m ≡ Subs (subscripts_from nests I n) found m
  unfolding subscripts_from
  subs_turn n found m = refl

  subs_alike : (f g : List Sum → Parser (List Sum)) (found : List Sum) (m : Reading) → ((y : List Sum) (l : Reading) → left l < left m → f y l ≡ g y l) → Subs f found m ≡ Subs g found m
  subs_alike f g found m k = go (same_symbol (symbol m) s.OpenSquare) refl
    where
      go : (b : Bool) → same_symbol (symbol m) s.OpenSquare ≡ b
          → (if b then subscript nests I >>= (λ sum. f (found ++ sum ∷ [])) else pure found) m ≡ (if b then subscript nests I >>= (λ sum. g (found ++ sum ∷ [])) else pure found) m
      go true e = alike_far m _ (subscript nests I m) _ _ (y.subscript_takes nests I (nested nests) S m (is_same (symbol m) s.OpenSquare e)) (λ a l d. k (found ++ a ∷ []) l d)
      go false e = refl

  abbrev More : List Sum → Parser (List Sum)
  More = again r (subscripts_from nests I) Subs subs_turn subs_alike

  subs_step : (n : ℕ) (found : Reading → List Sum) (i : ℕ) → Before r nests i
      → ((y : Reading → List Sum) (k : ℕ) → i < k → Sound k r → Before r nests k → Runs r (λ z. More (y z)) k (subscripts_from nests I n (y r) (later k r)))
      → Runs r (λ z. Subs More (found z)) i (Subs (subscripts_from nests I n) (found r) (later i r))
  subs_step n found i d rec =
      peek_then r (λ z. SubsBy More (found z)) i _ (choose r (same_symbol (symbol (later i r)) s.OpenSquare)
      (λ z. One More (found z)) (λ z. pure (found z)) (One (subscripts_from nests I n) (found r)) (pure (found r)) i
      (λ e. let open_square : symbol (later i r) ≡ s.OpenSquare = is_same (symbol (later i r)) s.OpenSquare e in
      runs_far r (λ z. subscript nests I) (λ z sum. More (found z ++ sum ∷ [])) (λ sum. subscripts_from nests I n (found r ++ sum ∷ [])) i _ _
      (subscript_runs i d open_square) (y.subscript_takes nests I (nested nests) S (later i r) open_square)
      (λ v k ik sound. rec (λ z. found z ++ v z ∷ []) k ik sound (before_on r nests i k (omega (arith, ik)) d sound)))
      (λ e. pure_runs r found i d.0))

  subs_run : (i : ℕ) → Before r nests i → Runs r (λ x. subscripts nests I) i (subscripts nests I (later i r))
  unfolding subscripts
  subs_run i d = loop_runs r (subscripts_from nests I) Subs subs_turn subs_alike (Before r nests) subs_step (left (later i r)) (λ z. []) i d (omega arith)

  pub target_runs : (i : ℕ) → Before r nests i → Runs r (λ x. target nests I) i (target nests I (later i r))
  unfolding target
  target_runs i d =
      expect_then r s.Name _ i refl d.0 (λ name k ik sound.
      bind r (λ x. subscripts nests I) _ k (subs_run k (before_on r nests i k ik d sound)) (λ found l kl on. pure_runs r _ l on))

  arguments_run : (i : ℕ) → Within r nests i → Runs r (λ x. arguments nests I) i (arguments nests I (later i r))
  unfolding arguments
  arguments_run i d =
      eat_next r s.CloseRound (λ x is_empty. if is_empty then pure [] else (do found ← separated s.Comma (below nests).value; expect s.CloseRound; pure found)) i
      (λ e. pure_runs r (λ x. []) (suc i) (d.0, ap is_sound e))
      (λ e. bind r (λ x. separated s.Comma I.value) _ i
      (separated_runs r s.Comma refl I.value _ S.value (Within r nests) (λ j x. x.0) (within_on r nests) h.value i d) (λ found k ik sound.
      expect_next r s.CloseRound _ k refl sound (λ l kl on. pure_runs r _ l on)))

  call_runs : (name : Reading → Piece) (i : ℕ) → Before r nests i → symbol (later i r) ≡ s.OpenRound → Runs r (λ x. call nests I (name x)) i (call nests I (name r) (later i r))
  unfolding call
  call_runs name i d e =
      open_next r nests _ i d.0 d.1 (λ some.
      take_next r _ i (bind r (λ x. arguments nests I) _ (suc i) (arguments_run (suc i) (enter r nests i s.OpenRound d e refl refl)) (λ a k ik sound. pure_runs r _ k sound)))

  abbrev behind : Piece → Symbol → Parser Primary
  behind name kind = if same_symbol kind s.OpenRound then call nests I name else (do found ← subscripts nests I; pure (pri.Target (roll-Target (record { name = name; subscripts = found }))))

  named_runs : (i : ℕ) → Before r nests i → symbol (later i r) ≡ s.Name → Runs r (λ x. named nests I) i (named nests I (later i r))
  unfolding named
  named_runs i d e =
      let on : Before r nests (suc i) = before_on r nests i (suc i) (omega arith) d (d.0, ap is_sound e) in
      take_then r (λ x name. peek >>= behind name) i _ (peek_then r (λ x. behind (piece (later i x))) (suc i) _ (choose_next r (same_symbol (symbol (later (suc i) r)) s.OpenRound) _ _ (suc i)
      (λ f. call_runs (λ x. piece (later i x)) (suc i) on (is_same (symbol (later (suc i) r)) s.OpenRound f))
      (λ f. bind r (λ x. subscripts nests I) _ (suc i) (subs_run (suc i) on) (λ found k ik sound. pure_runs r _ k sound))))

  operator_runs : (i : ℕ) → Before r nests i → symbol (later i r) ≡ s.Operator → Runs r (λ x. operator nests I) i (operator nests I (later i r))
  unfolding operator
  operator_runs i d e =
      let on : Before r nests (suc i) = before_on r nests i (suc i) (omega arith) d (d.0, ap is_sound e) in
      take_then r (λ x name. peek >>= (λ kind. if same_symbol kind s.OpenRound then call nests I name else refuse)) i _
      (peek_then r (λ x kind. if same_symbol kind s.OpenRound then call nests I (piece (later i x)) else refuse) (suc i) _ (choose_next r (same_symbol (symbol (later (suc i) r)) s.OpenRound) _ _ (suc i)
      (λ f. call_runs (λ x. piece (later i x)) (suc i) on (is_same (symbol (later (suc i) r)) s.OpenRound f))
      (λ f. refuse_runs r Primary (suc i) on.0)))

  bracket_runs : (i : ℕ) → Before r nests i → symbol (later i r) ≡ s.OpenRound → Runs r (λ x. bracket nests I) i (bracket nests I (later i r))
  unfolding bracket
  bracket_runs i d e =
      open_next r nests _ i d.0 d.1 (λ some.
      take_next r _ i (bind r (λ x. I.value) _ (suc i) (h.value (suc i) (enter r nests i s.OpenRound d e refl refl)) (λ a k ik sound.
      expect_next r s.CloseRound _ k refl sound (λ l kl on. pure_runs r _ l on))))

  by_runs : (k : Symbol) (i : ℕ) → Before r nests i → symbol (later i r) ≡ k → Runs r (λ x. primary_by nests I k) i (primary_by nests I k (later i r))
  by_runs s.Integer i d e = take_then r (λ z x. pure (pri.Integer x)) i _ (pure_runs r (λ z. pri.Integer (piece (later i z))) (suc i) (d.0, ap is_sound e))
  by_runs s.Literal i d e = take_then r (λ z x. pure (pri.Literal x)) i _ (pure_runs r (λ z. pri.Literal (piece (later i z))) (suc i) (d.0, ap is_sound e))
  by_runs s.Name i d e = named_runs i d e
  by_runs s.Operator i d e = operator_runs i d e
  by_runs s.OpenRound i d e = bracket_runs i d e
  by_runs _ i d e = refuse_runs r Primary i d.0

  operand_runs : (signs : List UnarySign) (i : ℕ) → Before r nests i → Runs r (λ x. operand nests I signs) i (operand nests I signs (later i r))
  unfolding operand primary
  operand_runs signs i d =
      bind r (λ x. primary nests I) _ i (peek_then r (λ x. primary_by nests I) i _ (by_runs (symbol (later i r)) i d refl)) (λ p k ik sound. pure_runs r _ k sound)

  signs_run : (signs : List UnarySign) (i : ℕ) → Before r nests i → (o : Option UnarySign) → unary_sign (symbol (later i r)) ≡ o
      → Runs r (λ x. unary_by nests I signs o) i (unary_by nests I signs o (later i r))
  signs_run signs i d None e = operand_runs signs i d
  signs_run signs i d (Some x) e =
      open_next r nests _ i d.0 d.1 (λ some.
      take_next r _ i (h.unary (signs ++ x ∷ []) (suc i) (enter r nests i (symbol (later i r)) d refl (unary_sound _ x e) (unary_nest _ x e))))

  pub unary_runs : (signs : List UnarySign) (i : ℕ) → Before r nests i → Runs r (λ x. unary nests I signs) i (unary nests I signs (later i r))
  unfolding unary
  unary_runs signs i d = peek_then r (λ x k. unary_by nests I signs (unary_sign k)) i _ (signs_run signs i d (unary_sign (symbol (later i r))) refl)

  pub product_runs : (i : ℕ) → Before r nests i → Runs r (λ x. product nests I) i (product nests I (later i r))
  unfolding product product_rest
  product_runs i d =
      bind r (λ x. unary nests I []) _ i ((unary_runs []) i d) (λ a k ik sound.
      bind r (λ x. product_rest nests I) _ k (signed_runs r product_sign (unary nests I []) _ (y.first_unary nests I (nested nests) S) product_sound (Before r nests) (λ j
      x. x.0) (before_on r nests) (unary_runs []) k (before_on r nests i k ik d sound)) (λ l m km on. pure_runs r _ m on))

  pub sum_runs : (i : ℕ) → Before r nests i → Runs r (λ x. sum nests I) i (sum nests I (later i r))
  unfolding sum sum_rest
  sum_runs i d =
      position_then r (λ x at. product nests I >>= (λ first. sum_rest nests I >>= (λ rest. pure (roll-Sum (record { at = at; first = first; rest = rest }))))) i _ (
      bind r (λ x. product nests I) _ i (product_runs i d) (λ a k ik sound.
      bind r (λ x. sum_rest nests I) _ k (signed_runs r sum_sign (product nests I) _ (y.product_yields nests I (nested nests) S) sum_sound (Before r nests) (λ j x.
      x.0) (before_on r nests) product_runs k (before_on r nests i k ik d sound)) (λ l m km on. pure_runs r _ m on)))

  pub compare_runs : (i : ℕ) → Before r nests i → Runs r (λ x. compare nests I) i (compare nests I (later i r))
  unfolding compare compare_rest
  compare_runs i d =
      bind r (λ x. sum nests I) _ i (sum_runs i d) (λ a k ik sound.
      bind r (λ x. compare_rest nests I) _ k (signed_runs r rel_sign (sum nests I) _ (y.sum_yields nests I (nested nests) S) rel_sound (Before r nests) (λ j
      x. x.0) (before_on r nests) sum_runs k (before_on r nests i k ik d sound)) (λ l m km on. pure_runs r _ m on))

  pub equal_runs : (i : ℕ) → Before r nests i → Runs r (λ x. equal nests I) i (equal nests I (later i r))
  unfolding equal equal_rest
  equal_runs i d =
      bind r (λ x. compare nests I) _ i (compare_runs i d) (λ a k ik sound.
      bind r (λ x. equal_rest nests I) _ k (signed_runs r equal_sign (compare nests I) _ (y.compare_yields nests I (nested nests) S) equal_sound (Before r nests) (λ j
      x. x.0) (before_on r nests) compare_runs k (before_on r nests i k ik d sound)) (λ l m km on. pure_runs r _ m on))

  and_runs : (i : ℕ) → Before r nests i → Runs r (λ x. and_value nests I) i (and_value nests I (later i r))
  unfolding and_value
  and_runs i d =
      bind r (λ x. separated s.And (equal nests I)) _ i
      (separated_runs r s.And refl (equal nests I) _ (y.equal_yields nests I (nested nests) S) (Before r nests) (λ j x. x.0) (before_on r nests) equal_runs i d)
      (λ a k ik sound. pure_runs r _ k sound)

  or_runs : (i : ℕ) → Before r nests i → Runs r (λ x. or_value nests I) i (or_value nests I (later i r))
  unfolding or_value
  or_runs i d =
      bind r (λ x. separated s.Or (and_value nests I)) _ i
      (separated_runs r s.Or refl (and_value nests I) _ (y.and_yields nests I (nested nests) S) (Before r nests) (λ j x. x.0) (before_on r nests) and_runs i d)
      (λ a k ik sound. pure_runs r _ k sound)

  abbrev two_arms : Parser (Option Arms)
  two_arms = do
    open_nest nests
    take_token
    one ← (below nests).value
    expect s.Colon
    other ← (below nests).value
    pure (Some (roll-Arms (record { yes = one; no = other })))

  arms_run : (i : ℕ) → Before r nests i → Runs r (λ x. arms nests I) i (arms nests I (later i r))
  unfolding arms
  arms_run i d =
      peek_then r (λ x kind. if same_symbol kind s.Question then two_arms else pure None) i _ (choose_next r (same_symbol (symbol (later i r)) s.Question) (λ x. two_arms) (λ x. pure None) i
      (λ e. open_next r nests _ i d.0 d.1 (λ some.
      let in_arm : Within r nests (suc i) = enter r nests i s.Question d (is_same (symbol (later i r)) s.Question e) refl refl in
      take_next r _ i (bind r (λ x. I.value) _ (suc i) (h.value (suc i) in_arm) (λ a k ik sound.
      expect_next r s.Colon _ k refl sound (λ l kl on.
      bind r (λ x. I.value) _ l (h.value l (within_on r nests (suc i) l (omega (arith, ik, kl)) in_arm on)) (λ b m lm far. pure_runs r _ m far))))))
      (λ e. pure_runs r (λ x. None) i d.0))

  pub value_runs : (i : ℕ) → Before r nests i → Runs r (λ x. value nests I) i (value nests I (later i r))
  unfolding value
  value_runs i d =
      position_then r (λ x at. or_value nests I >>= (λ test. arms nests I >>= (λ found. pure (roll-Value (record { at = at; test = test; arms = found }))))) i _ (
      bind r (λ x. or_value nests I) _ i (or_runs i d) (λ a k ik sound.
      bind r (λ x. arms nests I) _ k (arms_run k (before_on r nests i k ik d sound)) (λ b l kl on. pure_runs r _ l on)))

pub inner_runs : (r : Reading) (nests : ℕ) → Inner r nests (below nests)
unfolding below
inner_runs r zero = record {
  value = λ i d. refuse_runs r Value i d.0;
  sum = λ i d. refuse_runs r Sum i d.0;
  unary = λ signs i d. refuse_runs r Unary i d.0;
}
inner_runs r (suc n) =
    let h : Inner r n (below n) = inner_runs r n in
    record {
      value = λ i d. value_runs r n h i (d.0, omega (arith, d.1));
      sum = λ i d. sum_runs r n h i (d.0, omega (arith, d.1));
      unary = λ signs i d. unary_runs r n h signs i (d.0, omega (arith, d.1));
    }
