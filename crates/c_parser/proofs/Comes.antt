-- A parser comes to a tree, unless a limit of depth stops it.
use Rattle.std.proofs.Common.{◌≡◌, ℕ, zero, suc, ◌≤◌, ◌<◌, ◌==◌, Bool, true, false, if◌then◌else◌, List, [], ◌∷◌, ◌++◌, Option, Some, None, Ok, Err, inl, inr, refl, ap, sym, subst, ◌∙◌, arith, append_assoc}
use Rattle.std.specs.Prelude.{◌⊎◌}
use Rattle.std.proofs.lemmas.List.{append-nil}
use Rattle.std.proofs.lemmas.Bool.Decides.{eqb_tells}
use Rattle.suite_base.specs.declared.places.Place.{Place}
use Rattle.suite_base.specs.declared.refusals.Refusal.{Refusal}
use Rattle.suite_base.specs.declared.refusals.Refusal.TheVariants.{TooDeep}
use Rattle.c_lexer.specs.declared.stops.Stop.TheVariants.{Memory, Refused}
use Rattle.c_lexer.specs.declared.symbols.Symbol.{Symbol}
use Rattle.c_lexer.specs.declared.symbols.Symbol.TheVariants as s
use Rattle.c_lexer.specs.declared.pieces.Piece.{Piece}
use Rattle.c_lexer.specs.Readings.{Reading}
use Rattle.c_lexer.specs.Symbols.{same_symbol}
use Rattle.c_lexer.specs.Input.{Outcome, Parser, and_then, ◌>>=◌, ◌>>◌, pure, eat, expect, open_nest, left, here, symbol, piece, after, after_if}
use Rattle.c_lexer.proofs.TokenFacts.{same_is, differs, sees_it, sees_other, left_less, not_true}
use Rattle.c_parser.specs.Values.{signed_from, separated_from, product_sign, sum_sign, rel_sign, equal_sign}
use Rattle.c_parser.specs.Grammar.{Phrase, ◌then◌, token, word, signed, others}
use Rattle.c_parser.proofs.Yields.{Yields, Takes, some_nests, OfToken}

-- the rest of a phrase behind its first token
pub token_then : (k : Symbol) (r : Reading) (E : Reading → Type 0) → ((m : Reading) × token k r m × E m) → (symbol r ≡ k) × E (after r)
token_then k r E d = (d.1.0, subst E (sym d.1.1) d.2)

pub word_then : (k : Symbol) (p : Piece) (r : Reading) (E : Reading → Type 0) → ((m : Reading) × word k p r m × E m) → (symbol r ≡ k) × (piece r ≡ p) × E (after r)
word_then k p r E d = (d.1.0, d.1.1, subst E (sym d.1.2) d.2)

-- how strongly a token binds what stands before it
abbrev pub power : Symbol → ℕ
power s.OpenRound = 0
power s.OpenSquare = 0
power s.Times = 1
power s.Divide = 1
power s.Remainder = 1
power s.Plus = 2
power s.Minus = 2
power s.Less = 3
power s.LessEqual = 3
power s.Greater = 3
power s.GreaterEqual = 3
power s.Same = 4
power s.Differ = 4
power s.And = 5
power s.Or = 6
power s.Question = 7
power _ = 8

pub ends : (k : Symbol) (r : Reading) (n : ℕ) → symbol r ≡ k → n ≤ power k → n ≤ power (symbol r)
ends k r n e h = rw e h

pub no_product : (k : Symbol) → 2 ≤ power k → product_sign k ≡ None
no_product s.Times h = absurd (omega arith)
no_product s.Divide h = absurd (omega arith)
no_product s.Remainder h = absurd (omega arith)
no_product _ h = refl

pub no_sum : (k : Symbol) → 3 ≤ power k → sum_sign k ≡ None
no_sum s.Plus h = absurd (omega arith)
no_sum s.Minus h = absurd (omega arith)
no_sum _ h = refl

pub no_rel : (k : Symbol) → 4 ≤ power k → rel_sign k ≡ None
no_rel s.Less h = absurd (omega arith)
no_rel s.LessEqual h = absurd (omega arith)
no_rel s.Greater h = absurd (omega arith)
no_rel s.GreaterEqual h = absurd (omega arith)
no_rel _ h = refl

pub no_equal : (k : Symbol) → 5 ≤ power k → equal_sign k ≡ None
no_equal s.Same h = absurd (omega arith)
no_equal s.Differ h = absurd (omega arith)
no_equal _ h = refl

-- a token that binds otherwise is another token
pub other : (k : Symbol) (r : Reading) (n : ℕ) → n ≤ power (symbol r) → power k < n → symbol r ≡ k → ⊥
other k r n h g e = let p : power (symbol r) ≡ power k = ap power e in absurd (omega (arith, p))

pub weak_token : (k : Symbol) → power k < 8 → OfToken k
weak_token k h = ((λ e. let p : power k ≡ power s.End = ap power e in absurd (omega (arith, p))), (λ e. let p : power k ≡ power s.Bad = ap power e in absurd (omega (arith, p))))

pub lesser : (k : Symbol) (r : Reading) → symbol r ≡ k → OfToken k → left (after r) < left r
lesser k r e h = left_less r (λ f. h.0 (sym e ∙ f)) (λ f. h.1 (sym e ∙ f))

module _ (Deep : Type 0) where
  -- the refusal is one of depth, and such a one may come
  abbrev pub IsLimit : Refusal → Type 0
  IsLimit (TooDeep p) = Deep
  IsLimit _ = ⊥

  abbrev pub Comes : {A : Type 0} → A → Reading → Outcome A → Type 0
  Comes a m (Ok y) = (y.0 ≡ a) × (y.1 ≡ m)
  Comes a m (Err Memory) = ⊥
  Comes a m (Err (Refused e)) = IsLimit e

  -- so many nests are enough, or a limit may stop the parser
  abbrev pub Room : ℕ → ℕ → Type 0
  Room wanted nests = (wanted ≤ nests) ⊎ Deep

  pub less_room : (wanted nests : ℕ) → Room (suc wanted) (suc nests) → Room wanted nests
  less_room wanted nests (inl h) = inl (omega arith)
  less_room wanted nests (inr d) = inr d

  pub then_comes : {A B : Type 0} (a : A) (m : Reading) (b : B) (n : Reading) (o : Outcome A) (f : A → Parser B) → Comes a m o → Comes b n (f a m) → Comes b n (and_then o f)
  then_comes a m b n (Ok y) f h k = subst (λ x. Comes b n (f x y.1)) (sym h.0) (subst (λ x. Comes b n (f a x)) (sym h.1) k)
  then_comes a m b n (Err Memory) f h k = h
  then_comes a m b n (Err (Refused e)) f h k = h

  -- the same, where reading goes on
  pub goes_on : {A B : Type 0} (a : A) (r m : Reading) (b : B) (n : Reading) (P : A → Reading → Type 0) (o : Outcome A) (f : A → Parser B)
      → Yields r P o → Comes a m o → (left m ≤ left r → Comes b n (f a m)) → Comes b n (and_then o f)
  goes_on a r m b n P (Ok y) f g h k =
      let forth : left m ≤ left r = subst (λ x. left x ≤ left r) h.1 g.0 in
      subst (λ x. Comes b n (f x y.1)) (sym h.0) (subst (λ x. Comes b n (f a x)) (sym h.1) (k forth))
  goes_on a r m b n P (Err Memory) f g h k = h
  goes_on a r m b n P (Err (Refused e)) f g h k = h

  -- the same, where a token is taken at least
  pub goes_far : {A B : Type 0} (a : A) (r m : Reading) (b : B) (n : Reading) (P : A → Reading → Type 0) (o : Outcome A) (f : A → Parser B)
      → Takes r P o → Comes a m o → (left m < left r → Comes b n (f a m)) → Comes b n (and_then o f)
  goes_far a r m b n P (Ok y) f g h k =
      let forth : left m < left r = subst (λ x. left x < left r) h.1 g.0 in
      subst (λ x. Comes b n (f x y.1)) (sym h.0) (subst (λ x. Comes b n (f a x)) (sym h.1) (k forth))
  goes_far a r m b n P (Err Memory) f g h k = h
  goes_far a r m b n P (Err (Refused e)) f g h k = h

  pub expect_comes : (k : Symbol) (r : Reading) → symbol r ≡ k → Comes (piece r) (after r) (expect k r)
  unfolding expect
  expect_comes k r e = rw (sees_it k r e) (refl, refl)

  pub word_comes : (k : Symbol) (p : Piece) (r : Reading) → symbol r ≡ k → piece r ≡ p → Comes p (after r) (expect k r)
  unfolding expect
  word_comes k p r e f = rw (sees_it k r e) (f, refl)

  pub open_comes : {B : Type 0} (b : B) (n r : Reading) (wanted nests : ℕ) (p : Place) (q : Parser B) (t : Bool) → (nests == 0) ≡ t → Room wanted nests → 0 < wanted
      → (0 < nests → Comes b n (q r)) → Comes b n (and_then (if t then Err (Refused (TooDeep p)) else Ok (tt, r)) (λ (x : Unit {0}). q))
  open_comes b n r wanted nests p q true e (inl h) some k = elim (eqb_tells nests 0) [ inl (x, y) ↦ absurd (omega (arith, y)) | inr (x, y) ↦ not_true e x ]
  open_comes b n r wanted nests p q true e (inr d) some k = d
  open_comes b n r wanted nests p q false e h some k = k (some_nests nests e)

  pub opened_comes : {B : Type 0} (b : B) (n r : Reading) (wanted nests : ℕ) (q : Parser B) → Room wanted nests → 0 < wanted
      → (0 < nests → Comes b n (q r)) → Comes b n ((open_nest nests >> q) r)
  unfolding open_nest
  opened_comes b n r wanted nests q h some k = open_comes b n r wanted nests (here r) q (nests == 0) refl h some k

  pub eat_yes : {B : Type 0} (b : B) (n : Reading) (k : Symbol) (r : Reading) (f : Bool → Parser B) → symbol r ≡ k → Comes b n (f true (after r)) → Comes b n ((eat k >>= f) r)
  unfolding after_if
  eat_yes b n k r f e h = rw (sees_it k r e) h

  pub eat_no : {B : Type 0} (b : B) (n : Reading) (k : Symbol) (r : Reading) (f : Bool → Parser B) → (symbol r ≡ k → ⊥) → Comes b n (f false r) → Comes b n ((eat k >>= f) r)
  unfolding after_if
  eat_no b n k r f e h = rw (sees_other k r e) h

  pub choose_yes : {B : Type 0} (b : B) (n r : Reading) (k : Symbol) (p q : Parser B) → symbol r ≡ k → Comes b n (p r) → Comes b n ((if same_symbol (symbol r) k then p else q) r)
  choose_yes b n r k p q e h = rw (same_is (symbol r) k e) h

  pub choose_no : {B : Type 0} (b : B) (n r : Reading) (k : Symbol) (p q : Parser B) → (symbol r ≡ k → ⊥) → Comes b n (q r) → Comes b n ((if same_symbol (symbol r) k then p else q) r)
  choose_no b n r k p q e h = rw (differs (symbol r) k e) h

  -- ---- repetition

  module _ {S A : Type 0} (sign : Symbol → Option S) (mark : S → Symbol) (item : Parser A) (form : A → Phrase) (P : Reading → A → Reading → Type 0) (limit : ℕ)
      (forth : (x : S) → sign (mark x) ≡ Some x) (stops : (k : Symbol) → suc limit ≤ power k → sign k ≡ None) (marks : (x : S) → power (mark x) ≡ limit) (weak : limit < 8)
      (goes : (r : Reading) → Yields r (P r) (item r)) (items : (a : A) (r m : Reading) → form a r m → limit ≤ power (symbol m) → Comes a m (item r)) where
    pub signed_ends : (more : List (S × A)) (r m : Reading) → signed mark form more r m → suc limit ≤ power (symbol m) → limit ≤ power (symbol r)
    signed_ends [] r m d h = rw d (omega arith)
    signed_ends (x ∷ more) r m d h = ends (mark x.0) r limit d.1.0 (omega (arith, marks x.0))

    abbrev item_then : List (S × A) → A → Reading → Reading → Type 0
    item_then more a m z = (form a then signed mark form more) z m

    pub signed_comes : (more : List (S × A)) (n : ℕ) (found : List (S × A)) (r m : Reading) → left r ≤ n → signed mark form more r m → suc limit ≤ power (symbol m)
        → Comes (found ++ more) m (signed_from sign item n found r)
    unfolding signed_from
    signed_comes more zero found r m fuel d h = absurd (omega arith)
    signed_comes [] (suc n) found r m fuel d h =
        let none : sign (symbol r) ≡ None = stops (symbol r) (rw d h) in
        rw none (sym (append-nil found), d)
    signed_comes (x ∷ more) (suc n) found r m fuel d h =
        let a : (symbol r ≡ mark x.0) × (item_then more x.1 m) (after r) = token_then (mark x.0) r (item_then more x.1 m) d in
        let some : sign (symbol r) ≡ Some x.0 = ap sign a.0 ∙ forth x.0 in
        let less : left (after r) < left r = lesser (mark x.0) r a.0 (weak_token (mark x.0) (omega (arith, marks x.0))) in
        rw some (goes_on x.1 (after r) a.1.0 (found ++ x ∷ more) m (P (after r)) (item (after r)) _ (goes (after r)) (items x.1 (after r) a.1.0 a.1.1 (signed_ends more a.1.0 m a.1.2 h))
        (λ f. subst (λ l. Comes l m (signed_from sign item n (found ++ x ∷ []) a.1.0)) (append_assoc found (x ∷ []) more)
        (signed_comes more n (found ++ x ∷ []) a.1.0 m (omega (arith, f, less, fuel)) a.1.2 h)))

  module _ {A : Type 0} (sign : Symbol) (item : Parser A) (form : A → Phrase) (P : Reading → A → Reading → Type 0) (limit : ℕ) (bound : limit ≤ power sign) (token_is : OfToken sign)
      (goes : (r : Reading) → Yields r (P r) (item r)) (items : (a : A) (r m : Reading) → form a r m → limit ≤ power (symbol m) → Comes a m (item r)) where
    others_end : (more : List A) (r m : Reading) → others sign form more r m → limit ≤ power (symbol m) → limit ≤ power (symbol r)
    others_end [] r m d h = rw d h
    others_end (x ∷ more) r m d h = ends sign r limit d.1.0 bound

    pub separated_comes : (more : List A) (x : A) (n : ℕ) (found : List A) (r m : Reading) → left r ≤ n → (form x then others sign form more) r m
        → limit ≤ power (symbol m) → (symbol m ≡ sign → ⊥) → Comes (found ++ x ∷ more) m (separated_from sign item n found r)
    unfolding separated_from
    separated_comes more x zero found r m fuel d h stop = absurd (omega arith)
    separated_comes [] x (suc n) found r m fuel d h stop =
        then_comes x d.0 (found ++ x ∷ []) m (item r) _ (items x r d.0 d.1 (others_end [] d.0 m d.2 h))
        (eat_no (found ++ x ∷ []) m sign d.0 (λ again. if again then separated_from sign item n (found ++ x ∷ []) else pure (found ++ x ∷ []))
        (λ e. stop (sym (ap symbol d.2) ∙ e)) (refl, d.2))
    separated_comes (y ∷ more) x (suc n) found r m fuel d h stop =
        let a : (symbol d.0 ≡ sign) × (form y then others sign form more) (after d.0) m = token_then sign d.0 (λ z. (form y then others sign form more) z m) d.2 in
        let less : left (after d.0) < left d.0 = lesser sign d.0 a.0 token_is in
        goes_on x r d.0 (found ++ x ∷ y ∷ more) m (P r) (item r) _ (goes r) (items x r d.0 d.1 (others_end (y ∷ more) d.0 m d.2 h))
        (λ f. eat_yes (found ++ x ∷ y ∷ more) m sign d.0 (λ again. if again then separated_from sign item n (found ++ x ∷ []) else pure (found ++ x ∷ [])) a.0
        (subst (λ l. Comes l m (separated_from sign item n (found ++ x ∷ []) (after d.0))) (append_assoc found (x ∷ []) (y ∷ more))
        (separated_comes more y n (found ++ x ∷ []) (after d.0) m (omega (arith, f, less, fuel)) a.1 h stop)))
