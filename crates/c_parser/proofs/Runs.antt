-- A parser on two texts that begin with the same tokens: it looks no further than the next one.
use Rattle.std.proofs.Common.{◌≡◌, ℕ, zero, suc, ◌+◌, ◌≤◌, ◌<◌, ◌==◌, Bool, true, false, if◌then◌else◌, List, [], ◌∷◌, ◌++◌, Option, Some, None, Ok, Err, inl, inr, refl, ap, sym, subst, ◌∙◌, arith}
use Rattle.std.proofs.lemmas.Bool.Decides.{eqb_tells}
use Rattle.suite_base.specs.declared.places.Place.{Place}
use Rattle.suite_base.specs.declared.refusals.Refusal.{Refusal}
use Rattle.suite_base.specs.declared.refusals.Refusal.TheVariants.{BadToken, NumberTooLarge, BadSyntax, TooDeep}
use Rattle.suite_base.specs.Limits.{max_nests}
use Rattle.c_lexer.specs.declared.stops.Stop.TheVariants.{Memory, Refused}
use Rattle.c_lexer.specs.declared.symbols.Symbol.{Symbol}
use Rattle.c_lexer.specs.declared.symbols.Symbol.TheVariants as s
use Rattle.c_lexer.specs.declared.pieces.Piece.{Piece}
use Rattle.c_lexer.specs.Readings.{Reading}
use Rattle.c_lexer.specs.Symbols.{same_symbol, is_sound}
use Rattle.c_lexer.specs.Input.{Outcome, Parser, and_then, ◌>>=◌, ◌>>◌, pure, refusal_at, refusal, refuse, peek, position, take_token, eat, expect, open_nest, left, here, symbol, start, piece, after, after_if, sees}
use Rattle.c_lexer.proofs.TokenFacts.{seen, not_seen, left_less}
use Rattle.c_parser.specs.Values.{go_on, signed_from, separated_from, separated}
use Rattle.std.proofs.lemmas.Bool.{eqb-true}
use Rattle.c_parser.proofs.Yields.{Yields, Takes, some_nests}
use Rattle.c_parser.specs.Prefixes.{later, SameTokens, Sound, nests_among, loops_among, IsDeep}

-- ---- beginnings

pub shorter : (j k : ℕ) (r x : Reading) → j ≤ k → SameTokens k r x → SameTokens j r x
shorter zero k r x h d = tt
shorter (suc j) zero r x h d = absurd (omega arith)
shorter (suc j) (suc k) r x h d = elim (eqb_tells j k) [
  | inl (p, q) ↦ subst (λ n. SameTokens (suc n) r x) (sym q) d
  | inr (p, q) ↦ shorter (suc j) k r x (omega (arith, q)) d.0
]

pub more_nests : (i k : ℕ) (r : Reading) → i ≤ k → nests_among i r ≤ nests_among k r
more_nests i zero r h = let e : i ≡ 0 = omega arith in rw e (omega arith)
more_nests i (suc k) r h = elim (eqb_tells i (suc k)) [
  | inl (p, q) ↦ rw q (omega arith)
  | inr (p, q) ↦ let m = more_nests i k r (omega (arith, q)) in omega (arith, m)
]

pub more_loops : (i k : ℕ) (r : Reading) → i ≤ k → loops_among i r ≤ loops_among k r
more_loops i zero r h = let e : i ≡ 0 = omega arith in rw e (omega arith)
more_loops i (suc k) r h = elim (eqb_tells i (suc k)) [
  | inl (p, q) ↦ rw q (omega arith)
  | inr (p, q) ↦ let m = more_loops i k r (omega (arith, q)) in omega (arith, m)
]

sound_less : (r : Reading) → is_sound (symbol r) ≡ true → left (after r) < left r
sound_less r h = left_less r (λ e. let k : false ≡ true = sym (ap is_sound e) ∙ h in absurd (cc)) (λ e. let k : false ≡ true = sym (ap is_sound e) ∙ h in absurd (cc))

-- reading goes on with each token of the grammar
pub progress : (i k : ℕ) (r : Reading) → i < k → Sound k r → left (later k r) < left (later i r)
progress i zero r h d = absurd (omega arith)
progress i (suc k) r h d =
    let less = sound_less (later k r) d.1 in
    elim (eqb_tells i k) [
      | inl (p, q) ↦ rw q less
      | inr (p, q) ↦ let m = progress i k r (omega (arith, q)) d.0 in omega (arith, m, less)
    ]

-- ---- refusals

abbrev pub kind : Refusal → ℕ
kind (BadToken p) = 1
kind (NumberTooLarge p) = 2
kind (BadSyntax p) = 3
kind (TooDeep p) = 4
kind _ = 0

-- a refusal of the same kind
abbrev pub Fails : {A : Type 0} → Refusal → Outcome A → Type 0
Fails e (Ok y) = ⊥
Fails e (Err Memory) = ⊥
Fails e (Err (Refused f)) = kind e ≡ kind f

fails_more : {A B : Type 0} (e : Refusal) (o : Outcome A) (f : A → Parser B) → Fails e o → Fails e (and_then o f)
fails_more e (Ok y) f h = absurd h
fails_more e (Err Memory) f h = h
fails_more e (Err (Refused x)) f h = h

kind_at : (k : Symbol) (p q : Place) → kind (refusal_at k p) ≡ kind (refusal_at k q)
kind_at s.Bad p q = refl
kind_at s.TooLarge p q = refl
kind_at _ p q = refl

-- what follows is the same where it is the same for each reading that is left
pub alike_then : {A B : Type 0} (m : Reading) (P : A → Reading → Type 0) (o : Outcome A) (f g : A → Parser B) → Yields m P o → ((a : A) (l : Reading) → left l ≤ left m → f a l ≡ g a l)
    → and_then o f ≡ and_then o g
alike_then m P (Ok y) f g h k = k y.0 y.1 h.0
alike_then m P (Err e) f g h k = refl

pub alike_far : {A B : Type 0} (m : Reading) (P : A → Reading → Type 0) (o : Outcome A) (f g : A → Parser B) → Takes m P o → ((a : A) (l : Reading) → left l < left m → f a l ≡ g a l)
    → and_then o f ≡ and_then o g
alike_far m P (Ok y) f g h k = k y.0 y.1 h.0
alike_far m P (Err e) f g h k = refl

module _ (r : Reading) where
  -- why the parser stops at the token behind so many
  abbrev pub Cause : ℕ → Refusal → Type 0
  Cause k (BadToken p) = (here (later k r) ≡ p) × (symbol (later k r) ≡ s.Bad)
  Cause k (NumberTooLarge p) = (here (later k r) ≡ p) × (symbol (later k r) ≡ s.TooLarge)
  Cause k (BadSyntax p) = here (later k r) ≡ p
  Cause k (TooDeep p) = (here (later k r) ≡ p) × IsDeep k r
  Cause k _ = ⊥

  -- What a parser does behind i tokens of this text, where this is its outcome: it stops behind k tokens, and on each
  -- text that begins with the same tokens, up to and with the next one, it stops there as well. The parser may
  -- depend on the text, as by the piece of a name.
  unfoldable pub Runs : {A : Type 0} → (Reading → Parser A) → ℕ → Outcome A → Type 0
  Runs {A = A} p i (Ok y) =
      (k : ℕ) × (value : Reading → A) × (i ≤ k) × Sound k r × (y.1 ≡ later k r) × (y.0 ≡ value r) × ((x : Reading) → SameTokens (suc k) r x → p x (later i x) ≡ Ok (value x, later k x))
  Runs p i (Err Memory) = ⊥
  Runs p i (Err (Refused e)) = (k : ℕ) × (i ≤ k) × Sound k r × Cause k e × ((x : Reading) → SameTokens (suc k) r x → Fails e (p x (later i x)))

  -- another parser that does the same, perhaps behind more tokens
  pub runs_as : {A : Type 0} (p q : Reading → Parser A) (i j : ℕ) (o : Outcome A) → i ≤ j → ((x : Reading) → SameTokens (suc i) r x → p x (later i x) ≡ q x (later j x)) → Runs q j o → Runs p i o
  unfolding Runs
  runs_as p q i j (Ok y) h same (k, v, jk, sound, e, f, kept) = (k, v, omega (arith, h, jk), sound, e, f, λ x d. same x (shorter (suc i) (suc k) r x (omega (arith, h, jk)) d) ∙ kept x d)
  runs_as p q i j (Err Memory) h same d = d
  runs_as p q i j (Err (Refused f)) h same (k, jk, sound, c, kept) =
      (k, omega (arith, h, jk), sound, c, λ x d. subst (λ o. Fails f o) (sym (same x (shorter (suc i) (suc k) r x (omega (arith, h, jk)) d))) (kept x d))

  before : {A B : Type 0} (p : Reading → Parser A) (f : Reading → A → Parser B) (v : Reading → A) (i k : ℕ) (o : Outcome B) → i ≤ k
      → ((x : Reading) → SameTokens (suc k) r x → p x (later i x) ≡ Ok (v x, later k x)) → Runs (λ x. f x (v x)) k o → Runs (λ x. p x >>= f x) i o
  unfolding Runs
  before p f v i k (Ok y) h kept (l, w, kl, sound, e, g, next) =
      (l, w, omega (arith, h, kl), sound, e, g, λ x d. ap (λ o. and_then o (f x)) (kept x (shorter (suc k) (suc l) r x (omega (arith, kl)) d)) ∙ next x d)
  before p f v i k (Err Memory) h kept d = d
  before p f v i k (Err (Refused g)) h kept (l, kl, sound, c, next) =
      (l, omega (arith, h, kl), sound, c, λ x d. subst (λ o. Fails g (and_then o (f x))) (sym (kept x (shorter (suc k) (suc l) r x (omega (arith, kl)) d))) (next x d))

  -- one parser and then another; on this text and on the other ones the second may be different ones
  pub runs_then : {A B : Type 0} (p : Reading → Parser A) (f : Reading → A → Parser B) (g : A → Parser B) (i : ℕ) (o : Outcome A) → Runs p i o
      → ((v : Reading → A) (k : ℕ) → i ≤ k → Sound k r → Runs (λ x. f x (v x)) k (g (v r) (later k r))) → Runs (λ x. p x >>= f x) i (and_then o g)
  unfolding Runs
  runs_then p f g i (Ok y) (k, v, ik, sound, e, w, kept) h =
      before p f v i k (g y.0 y.1) ik kept (subst (λ m. Runs (λ x. f x (v x)) k (g y.0 m)) (sym e) (subst (λ a. Runs (λ x. f x (v x)) k (g a (later k r))) (sym w) (h v k ik sound)))
  runs_then p f g i (Err Memory) d h = d
  runs_then p f g i (Err (Refused e)) (k, ik, sound, c, kept) h = (k, ik, sound, c, λ x d. fails_more e (p x (later i x)) (f x) (kept x d))

  -- the same where the first takes a token at least
  pub runs_far : {A B : Type 0} (p : Reading → Parser A) (f : Reading → A → Parser B) (g : A → Parser B) (i : ℕ) (P : A → Reading → Type 0) (o : Outcome A) → Runs p i o → Takes (later i r) P o
      → ((v : Reading → A) (k : ℕ) → i < k → Sound k r → Runs (λ x. f x (v x)) k (g (v r) (later k r))) → Runs (λ x. p x >>= f x) i (and_then o g)
  unfolding Runs
  runs_far p f g i P (Ok y) (k, v, ik, sound, e, w, kept) far h =
      let less : left (later k r) < left (later i r) = subst (λ m. left m < left (later i r)) e far.0 in
      let on : i < k = elim (eqb_tells i k) [ inl (x, z) ↦ absurd (let w : left (later k r) < left (later k r) = subst (λ n. left (later k r) < left (later n r)) z less in omega (arith, w)) | inr (x, z) ↦ omega (arith, ik, z) ] in
      before p f v i k (g y.0 y.1) ik kept (subst (λ m. Runs (λ x. f x (v x)) k (g y.0 m)) (sym e) (subst (λ a. Runs (λ x. f x (v x)) k (g a (later k r))) (sym w) (h v k on sound)))
  runs_far p f g i P (Err Memory) d far h = d
  runs_far p f g i P (Err (Refused e)) (k, ik, sound, c, kept) far h = (k, ik, sound, c, λ x d. fails_more e (p x (later i x)) (f x) (kept x d))

  -- ---- the primitive steps

  pub pure_runs : {A : Type 0} (v : Reading → A) (i : ℕ) → Sound i r → Runs (λ x. pure (v x)) i (Ok (v r, later i r))
  unfolding Runs
  pure_runs v i sound = (i, v, omega arith, sound, refl, refl, λ x d. refl)

  cause_at : (i : ℕ) (k : Symbol) → symbol (later i r) ≡ k → Cause i (refusal_at k (here (later i r)))
  cause_at i s.Bad e = (refl, e)
  cause_at i s.TooLarge e = (refl, e)
  cause_at i _ e = refl

  pub refuse_runs : (A : Type 0) (i : ℕ) → Sound i r → Runs {A = A} (λ x. refuse) i (refuse (later i r))
  unfolding refusal Runs
  refuse_runs A i sound = (
    i,
    omega arith,
    sound,
    cause_at i (symbol (later i r)) refl,
    λ x d. ap (λ k. kind (refusal_at k (here (later i r)))) d.1.0 ∙ kind_at (symbol (later i x)) (here (later i r)) (here (later i x)),
  )

  pub peek_then : {B : Type 0} (f : Reading → Symbol → Parser B) (i : ℕ) (o : Outcome B) → Runs (λ x. f x (symbol (later i r))) i o → Runs (λ x. peek >>= f x) i o
  peek_then f i o h = runs_as (λ x. peek >>= f x) (λ x. f x (symbol (later i r))) i i o (omega arith) (λ x d. ap (λ k. f x k (later i x)) (sym d.1.0)) h

  pub position_then : {B : Type 0} (f : Reading → ℕ → Parser B) (i : ℕ) (o : Outcome B) → Runs (λ x. f x (start (later i x))) i o → Runs (λ x. position >>= f x) i o
  position_then f i o h = runs_as (λ x. position >>= f x) (λ x. f x (start (later i x))) i i o (omega arith) (λ x d. refl) h

  pub take_then : {B : Type 0} (f : Reading → Piece → Parser B) (i : ℕ) (o : Outcome B) → Runs (λ x. f x (piece (later i x))) (suc i) o → Runs (λ x. take_token >>= f x) i o
  take_then f i o h = runs_as (λ x. take_token >>= f x) (λ x. f x (piece (later i x))) i (suc i) o (omega arith) (λ x d. refl) h

  pub choose : {B : Type 0} (b : Bool) (p q : Reading → Parser B) (f g : Parser B) (i : ℕ) → (b ≡ true → Runs p i (f (later i r))) → (b ≡ false → Runs q i (g (later i r)))
      → Runs (λ x. if b then p x else q x) i ((if b then f else g) (later i r))
  choose true p q f g i h l = h refl
  choose false p q f g i h l = l refl

  sees_same : (k : Symbol) (y x : Reading) → symbol y ≡ symbol x → sees k y ≡ sees k x
  unfolding sees
  sees_same k y x e = ap (λ z. same_symbol z k) e

  eat_cases : {B : Type 0} (k : Symbol) (f : Reading → Bool → Parser B) (g : Bool → Parser B) (i : ℕ) (b : Bool) → sees k (later i r) ≡ b
      → (symbol (later i r) ≡ k → Runs (λ x. f x true) (suc i) (g true (later (suc i) r)))
      → ((symbol (later i r) ≡ k → ⊥) → Runs (λ x. f x false) i (g false (later i r))) → Runs (λ x. eat k >>= f x) i (g b (if b then after (later i r) else later i r))
  unfolding after_if
  eat_cases k f g i true e h l =
      runs_as (λ x. eat k >>= f x) (λ x. f x true) i (suc i) _ (omega arith)
      (λ x d. ap (λ t. f x t (if t then after (later i x) else later i x)) (sym (sees_same k (later i r) (later i x) d.1.0) ∙ e)) (h (seen k (later i r) e))
  eat_cases k f g i false e h l =
      runs_as (λ x. eat k >>= f x) (λ x. f x false) i i _ (omega arith)
      (λ x d. ap (λ t. f x t (if t then after (later i x) else later i x)) (sym (sees_same k (later i r) (later i x) d.1.0) ∙ e)) (l (not_seen k (later i r) e))

  pub eat_then : {B : Type 0} (k : Symbol) (f : Reading → Bool → Parser B) (g : Bool → Parser B) (i : ℕ) → (symbol (later i r) ≡ k → Runs (λ x. f x true) (suc i) (g true (later (suc i) r)))
      → ((symbol (later i r) ≡ k → ⊥) → Runs (λ x. f x false) i (g false (later i r))) → Runs (λ x. eat k >>= f x) i ((eat k >>= g) (later i r))
  unfolding after_if
  eat_then k f g i h l = eat_cases k f g i (sees k (later i r)) refl h l

  pub eat_next : {B : Type 0} (k : Symbol) (f : Reading → Bool → Parser B) (i : ℕ) → (symbol (later i r) ≡ k → Runs (λ x. f x true) (suc i) (f r true (later (suc i) r)))
      → ((symbol (later i r) ≡ k → ⊥) → Runs (λ x. f x false) i (f r false (later i r))) → Runs (λ x. eat k >>= f x) i ((eat k >>= f r) (later i r))
  eat_next k f i h l = eat_then k f (f r) i h l

  expect_cases : (k : Symbol) (i : ℕ) (b : Bool) → sees k (later i r) ≡ b → is_sound k ≡ true → Sound i r
      → Runs (λ x. expect k) i (if b then Ok (piece (later i r), after (later i r)) else refuse (later i r))
  unfolding expect Runs
  expect_cases k i true e good sound = (
    suc i,
    (λ x. piece (later i x)),
    omega arith,
    (sound, ap is_sound (seen k (later i r) e) ∙ good),
    refl,
    refl,
    λ x d. ap (λ t. if t then Ok (piece (later i x), after (later i x)) else refuse (later i x)) (sym (sees_same k (later i r) (later i x) d.0.1.0) ∙ e),
  )
  expect_cases k i false e good sound =
      runs_as (λ x. expect k) (λ x. refuse) i i (refuse (later i r)) (omega arith)
      (λ x d. ap (λ t. if t then Ok (piece (later i x), after (later i x)) else refuse (later i x)) (sym (sees_same k (later i r) (later i x) d.1.0) ∙ e)) (refuse_runs Piece i sound)

  pub expect_runs : (k : Symbol) (i : ℕ) → is_sound k ≡ true → Sound i r → Runs (λ x. expect k) i (expect k (later i r))
  unfolding expect
  expect_runs k i good sound = expect_cases k i (sees k (later i r)) refl good sound

  -- a limit of nests or of loops
  pub limit_then : {B : Type 0} (b : Bool) (q : Reading → Parser B) (f : Parser B) (i : ℕ) → Sound i r → (b ≡ true → IsDeep i r) → (b ≡ false → Runs q i (f (later i r)))
      → Runs (λ x m. and_then (if b then Err (Refused (TooDeep (here m))) else Ok (tt, m)) (λ (z : Unit {0}). q x)) i
      (and_then (if b then Err (Refused (TooDeep (here (later i r)))) else Ok (tt, later i r)) (λ (z : Unit {0}). f))
  unfolding Runs
  limit_then true q f i sound deep h = (i, omega arith, sound, (refl, deep refl), λ x d. refl)
  limit_then false q f i sound deep h = h refl

  pub open_next : {B : Type 0} (nests : ℕ) (q : Reading → Parser B) (i : ℕ) → Sound i r → max_nests ≤ nests + nests_among i r → (0 < nests → Runs q i (q r (later i r)))
      → Runs (λ x. open_nest nests >> q x) i ((open_nest nests >> q r) (later i r))
  unfolding open_nest
  open_next nests q i sound room h =
      limit_then (nests == 0) q (q r) i sound (λ e. let z : nests ≡ 0 = eqb-true nests 0 e in inr (omega (arith, room, z))) (λ e. h (some_nests nests e))

  -- the same for one parser on all texts
  pub bind : {A B : Type 0} (p : Reading → Parser A) (f : Reading → A → Parser B) (i : ℕ) → Runs p i (p r (later i r))
      → ((v : Reading → A) (k : ℕ) → i ≤ k → Sound k r → Runs (λ x. f x (v x)) k (f r (v r) (later k r)))
      → Runs (λ x. p x >>= f x) i ((p r >>= f r) (later i r))
  bind p f i h k = runs_then p f (f r) i (p r (later i r)) h k

  pub take_next : {B : Type 0} (q : Reading → Parser B) (i : ℕ) → Runs q (suc i) (q r (later (suc i) r)) → Runs (λ x. take_token >> q x) i ((take_token >> q r) (later i r))
  take_next q i h = take_then (λ x z. q x) i _ h

  pub choose_next : {B : Type 0} (b : Bool) (p q : Reading → Parser B) (i : ℕ) → (b ≡ true → Runs p i (p r (later i r))) → (b ≡ false → Runs q i (q r (later i r)))
      → Runs (λ x. if b then p x else q x) i ((if b then p r else q r) (later i r))
  choose_next b p q i h l = choose b p q (p r) (q r) i h l

  pub expect_then : {B : Type 0} (k : Symbol) (f : Reading → Piece → Parser B) (i : ℕ) → is_sound k ≡ true → Sound i r
      → ((v : Reading → Piece) (l : ℕ) → i ≤ l → Sound l r → Runs (λ x. f x (v x)) l (f r (v r) (later l r)))
      → Runs (λ x. expect k >>= f x) i ((expect k >>= f r) (later i r))
  expect_then k f i good sound h = bind (λ x. expect k) f i (expect_runs k i good sound) h

  pub expect_next : {B : Type 0} (k : Symbol) (q : Reading → Parser B) (i : ℕ) → is_sound k ≡ true → Sound i r → ((l : ℕ) → i ≤ l → Sound l r → Runs q l (q r (later l r)))
      → Runs (λ x. expect k >> q x) i ((expect k >> q r) (later i r))
  expect_next k q i good sound h = bind (λ x. expect k) (λ x z. q x) i (expect_runs k i good sound) (λ v l il on. h l il on)

  -- ---- repetition, where a text with more bytes left has more turns

  module _ {X B : Type 0} (L : ℕ → X → Parser B) (F : (X → Parser B) → X → Parser B) (turn : (n : ℕ) (x : X) (m : Reading) → L (suc n) x m ≡ F (L n) x m)
      (alike : (f g : X → Parser B) (x : X) (m : Reading) → ((y : X) (l : Reading) → left l < left m → f y l ≡ g y l) → F f x m ≡ F g x m) where
    -- with as many turns as are needed
    abbrev pub again : X → Parser B
    again x = λ m. L (left m) x m

    enough : (n k : ℕ) (x : X) (m : Reading) → left m ≤ n → left m ≤ k → L n x m ≡ L k x m
    enough zero k x m h g = absurd (omega arith)
    enough (suc n) zero x m h g = absurd (omega arith)
    enough (suc n) (suc k) x m h g = turn n x m ∙ (alike (L n) (L k) x m (λ y l e. enough n k y l (omega arith) (omega arith)) ∙ sym (turn k x m))

    unrolled : (x : X) (m : Reading) → again x m ≡ F again x m
    unrolled x m =
        enough (left m) (suc (left m)) x m (omega arith) (omega arith)
        ∙ (turn (left m) x m ∙ alike (L (left m)) again x m (λ y l e. enough (left m) (left l) y l (omega arith) (omega arith)))

    module _ (Holds : ℕ → Type 0)
        (step : (n : ℕ) (x : Reading → X) (i : ℕ) → Holds i → ((y : Reading → X) (k : ℕ) → i < k → Sound k r → Holds k → Runs (λ z. again (y z)) k (L n (y r) (later k r)))
        → Runs (λ z. F again (x z)) i (F (L n) (x r) (later i r))) where
      pub loop_runs : (n : ℕ) (x : Reading → X) (i : ℕ) → Holds i → left (later i r) ≤ n → Runs (λ z. again (x z)) i (L n (x r) (later i r))
      loop_runs zero x i h fuel = absurd (omega arith)
      loop_runs (suc n) x i h fuel =
          subst (λ o. Runs (λ z. again (x z)) i o) (sym (turn n (x r) (later i r)))
          (runs_as (λ z. again (x z)) (λ z. F again (x z)) i i _ (omega arith) (λ z d. unrolled (x z) (later i z))
          (step n x i h (λ y k ik sound g. loop_runs n y k g (let p = progress i k r ik sound in omega (arith, p, fuel)))))

  -- ---- the repetitions of the grammar

  module _ {S A : Type 0} (sign : Symbol → Option S) (item : Parser A) (P : Reading → A → Reading → Type 0) (goes : (m : Reading) → Yields m (P m) (item m))
      (good : (k : Symbol) (x : S) → sign k ≡ Some x → is_sound k ≡ true) (Holds : ℕ → Type 0) (sounds : (i : ℕ) → Holds i → Sound i r)
      (holds : (i k : ℕ) → i ≤ k → Holds i → Sound k r → Holds k) (items : (i : ℕ) → Holds i → Runs (λ x. item) i (item (later i r))) where
    abbrev Turn : (List (S × A) → Parser (List (S × A))) → List (S × A) → Parser (List (S × A))
    Turn f found = peek >>= (λ k. go_on item f found (sign k))

    signed_turn : (n : ℕ) (found : List (S × A)) (m : Reading) → signed_from sign item (suc n) found m ≡ Turn (signed_from sign item n) found m
    unfolding signed_from
    signed_turn n found m = refl

    signed_alike : (f g : List (S × A) → Parser (List (S × A))) (found : List (S × A)) (m : Reading) → ((y : List (S × A)) (l : Reading) → left l < left m → f y l ≡ g y l)
        → Turn f found m ≡ Turn g found m
    signed_alike f g found m h = go (sign (symbol m)) refl
      where
        go : (o : Option S) → sign (symbol m) ≡ o → go_on item f found o m ≡ go_on item g found o m
        go None e = refl
        go (Some x) e =
            let less : left (after m) < left m = sound_less m (good (symbol m) x e) in
            alike_then (after m) (P (after m)) (item (after m)) _ _ (goes (after m)) (λ a l d. h (found ++ (x, a) ∷ []) l (omega (arith, d, less)))

    abbrev More : List (S × A) → Parser (List (S × A))
    More = again (signed_from sign item) Turn signed_turn signed_alike

    signed_step : (n : ℕ) (found : Reading → List (S × A)) (i : ℕ) → Holds i
        → ((y : Reading → List (S × A)) (k : ℕ) → i < k → Sound k r → Holds k → Runs (λ z. More (y z)) k (signed_from sign item n (y r) (later k r)))
        → Runs (λ z. Turn More (found z)) i (Turn (signed_from sign item n) (found r) (later i r))
    signed_step n found i h rec = peek_then (λ z k. go_on item More (found z) (sign k)) i _ (go (sign (symbol (later i r))) refl)
      where
        go : (o : Option S) → sign (symbol (later i r)) ≡ o → Runs (λ z. go_on item More (found z) o) i (go_on item (signed_from sign item n) (found r) o (later i r))
        go None e = pure_runs found i (sounds i h)
        go (Some x) e =
            let on : Sound (suc i) r = (sounds i h, good (symbol (later i r)) x e) in
            let g : Holds (suc i) = holds i (suc i) (omega arith) h on in
            take_then (λ z y. item >>= (λ a. More (found z ++ (x, a) ∷ []))) i _
            (runs_then (λ z. item) (λ z a. More (found z ++ (x, a) ∷ [])) (λ a. signed_from sign item n (found r ++ (x, a) ∷ [])) (suc i) (item (later (suc i) r))
            (items (suc i) g)
            (λ v k ik sound. rec (λ z. found z ++ (x, v z) ∷ []) k (omega (arith, ik)) sound (holds (suc i) k ik g sound)))

    pub signed_runs : (i : ℕ) → Holds i → Runs (λ z m. signed_from sign item (left m) [] m) i (signed_from sign item (left (later i r)) [] (later i r))
    signed_runs i h = loop_runs (signed_from sign item) Turn signed_turn signed_alike Holds signed_step (left (later i r)) (λ z. []) i h (omega arith)

  module _ {A : Type 0} (sign : Symbol) (good : is_sound sign ≡ true) (item : Parser A) (P : Reading → A → Reading → Type 0) (goes : (m : Reading) → Yields m (P m) (item m))
      (Holds : ℕ → Type 0) (sounds : (i : ℕ) → Holds i → Sound i r)
      (holds : (i k : ℕ) → i ≤ k → Holds i → Sound k r → Holds k) (items : (i : ℕ) → Holds i → Runs (λ x. item) i (item (later i r))) where
    abbrev Next : (List A → Parser (List A)) → List A → A → Bool → Parser (List A)
    Next f found a more = if more then f (found ++ a ∷ []) else pure (found ++ a ∷ [])

    abbrev Item : (List A → Parser (List A)) → List A → Parser (List A)
    Item f found = item >>= (λ a. eat sign >>= Next f found a)

    separated_turn : (n : ℕ) (found : List A) (m : Reading) → separated_from sign item (suc n) found m ≡ Item (separated_from sign item n) found m
    unfolding separated_from
    separated_turn n found m = refl

    separated_alike : (f g : List A → Parser (List A)) (found : List A) (m : Reading) → ((y : List A) (l : Reading) → left l < left m → f y l ≡ g y l) → Item f found m ≡ Item g found m
    unfolding after_if
    separated_alike f g found m h = alike_then m (P m) (item m) _ _ (goes m) (λ a l d. go a l d)
      where
        pick : (a : A) (l : Reading) → left l ≤ left m → (b : Bool) → sees sign l ≡ b → Next f found a b (if b then after l else l) ≡ Next g found a b (if b then after l else l)
        pick a l d true e = let less : left (after l) < left l = sound_less l (ap is_sound (seen sign l e) ∙ good) in h (found ++ a ∷ []) (after l) (omega (arith, d, less))
        pick a l d false e = refl

        go : (a : A) (l : Reading) → left l ≤ left m → (eat sign >>= Next f found a) l ≡ (eat sign >>= Next g found a) l
        go a l d = pick a l d (sees sign l) refl

    abbrev Others : List A → Parser (List A)
    Others = again (separated_from sign item) Item separated_turn separated_alike

    separated_step : (n : ℕ) (found : Reading → List A) (i : ℕ) → Holds i
        → ((y : Reading → List A) (k : ℕ) → i < k → Sound k r → Holds k → Runs (λ z. Others (y z)) k (separated_from sign item n (y r) (later k r)))
        → Runs (λ z. Item Others (found z)) i (Item (separated_from sign item n) (found r) (later i r))
    separated_step n found i h rec =
        runs_then (λ z. item) (λ z a. eat sign >>= Next Others (found z) a) (λ a. eat sign >>= Next (separated_from sign item n) (found r) a) i (item (later i r)) (items i h)
        (λ v k ik sound. let g : Holds k = holds i k ik h sound in
        eat_then sign (λ z. Next Others (found z) (v z)) (Next (separated_from sign item n) (found r) (v r)) k
        (λ e. let on : Sound (suc k) r = (sound, ap is_sound e ∙ good) in rec (λ z. found z ++ v z ∷ []) (suc k) (omega (arith, ik)) on (holds k (suc k) (omega arith) g on))
        (λ e. pure_runs (λ z. found z ++ v z ∷ []) k sound))

    pub separated_runs : (i : ℕ) → Holds i → Runs (λ z. separated sign item) i (separated sign item (later i r))
    separated_runs i h = loop_runs (separated_from sign item) Item separated_turn separated_alike Holds separated_step (left (later i r)) (λ z. []) i h (omega arith)
