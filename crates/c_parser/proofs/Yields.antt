-- What a rule reads is derived by its production.
use Rattle.std.proofs.Common.{◌≡◌, ℕ, zero, suc, ◌≤◌, ◌<◌, ◌==◌, Bool, true, false, if◌then◌else◌, List, [], ◌∷◌, ◌++◌, Option, Some, None, Ok, Err, inl, inr, refl, sym, ◌∙◌, arith, append_assoc, subst}
use Rattle.std.proofs.lemmas.List.{append-nil}
use Rattle.std.proofs.lemmas.Bool.Decides.{eqb_tells}
use Rattle.c_lexer.specs.declared.stops.Stop.{Stop}
use Rattle.c_lexer.specs.declared.symbols.Symbol.{Symbol}
use Rattle.c_lexer.specs.declared.symbols.Symbol.TheVariants as s
use Rattle.c_lexer.specs.Readings.{Reading}
use Rattle.c_lexer.specs.Input.{Outcome, Parser, and_then, ◌>>=◌, ◌>>◌, pure, refuse, eat, expect, open_nest, left, symbol, piece, after, after_if, sees}
use Rattle.c_lexer.proofs.TokenFacts.{seen, left_after, left_less, not_true}
use Rattle.c_parser.specs.Values.{go_on, signed_from, separated_from, separated}
use Rattle.c_parser.specs.Grammar as g
use Rattle.c_parser.specs.Grammar.{Phrase, ◌then◌, token, word, empty, signed, others, each}

-- what is known of what a parser reads; reading goes on, never back
abbrev pub Yields : {A : Type 0} → Reading → (A → Reading → Type 0) → Outcome A → Type 0
Yields r P (Ok y) = (left y.1 ≤ left r) × P y.0 y.1
Yields r P (Err e) = Unit {0}

pub wider : {A : Type 0} (r m : Reading) (P : A → Reading → Type 0) (o : Outcome A) → left m ≤ left r → Yields m P o → Yields r P o
wider r m P (Ok y) h k = (omega (arith, k.0, h), k.1)
wider r m P (Err e) h k = tt

pub then_yields : {A B : Type 0} (r : Reading) (P : A → Reading → Type 0) (Q : B → Reading → Type 0) (o : Outcome A) (f : A → Parser B)
    → Yields r P o → ((a : A) (m : Reading) → P a m → Yields m Q (f a m)) → Yields r Q (and_then o f)
then_yields r P Q (Ok y) f h k = wider r y.1 Q (f y.0 y.1) h.0 (k y.0 y.1 h.1)
then_yields r P Q (Err e) f h k = tt

-- the primitive steps
pub take_yields : {B : Type 0} (r : Reading) (Q : B → Reading → Type 0) (o : Outcome B) → Yields (after r) Q o → Yields r Q o
take_yields r Q o h = wider r (after r) Q o (left_after r) h

pub if_yields : {B : Type 0} (r : Reading) (Q : B → Reading → Type 0) (b : Bool) (p q : Outcome B)
    → (b ≡ true → Yields r Q p) → (b ≡ false → Yields r Q q) → Yields r Q (if b then p else q)
if_yields r Q true p q f g = f refl
if_yields r Q false p q f g = g refl

pub choose_yields : {B : Type 0} (r : Reading) (Q : B → Reading → Type 0) (b : Bool) (p q : Parser B)
    → (b ≡ true → Yields r Q (p r)) → (b ≡ false → Yields r Q (q r)) → Yields r Q ((if b then p else q) r)
choose_yields r Q true p q f g = f refl
choose_yields r Q false p q f g = g refl

pub expect_yields : (k : Symbol) (r : Reading) → Yields r (λ p m. word k p r m) (expect k r)
unfolding expect
expect_yields k r = if_yields r (λ p m. word k p r m) (sees k r) _ _ (λ e. (left_after r, (seen k r e, refl, refl))) (λ e. tt)

pub yields_so : {A : Type 0} (r : Reading) (P Q : A → Reading → Type 0) (o : Outcome A) → Yields r P o → ((a : A) (m : Reading) → P a m → Q a m) → Yields r Q o
yields_so r P Q (Ok y) h k = (h.0, k y.0 y.1 h.1)
yields_so r P Q (Err e) h k = tt

eat_cases : {B : Type 0} (r : Reading) (Q : B → Reading → Type 0) (f : Bool → Parser B) (b : Bool)
    → (b ≡ true → Yields (after r) Q (f true (after r))) → (b ≡ false → Yields r Q (f false r)) → Yields r Q (f b (if b then after r else r))
eat_cases r Q f true g h = take_yields r Q _ (g refl)
eat_cases r Q f false g h = h refl

pub eat_yields : {B : Type 0} (k : Symbol) (r : Reading) (Q : B → Reading → Type 0) (f : Bool → Parser B)
    → (symbol r ≡ k → Yields (after r) Q (f true (after r))) → (sees k r ≡ false → Yields r Q (f false r)) → Yields r Q ((eat k >>= f) r)
unfolding after_if
eat_yields k r Q f g h = eat_cases r Q f (sees k r) (λ e. g (seen k r e)) h

pub some_nests : (n : ℕ) → (n == 0) ≡ false → 0 < n
some_nests n e = elim (eqb_tells n 0) [ inl (p, q) ↦ not_true p e | inr (p, q) ↦ omega (arith, q) ]

pub open_cases : {B : Type 0} (r : Reading) (Q : B → Reading → Type 0) (b : Bool) (e : Stop) (q : Parser B) → (b ≡ false → Yields r Q (q r))
    → Yields r Q (and_then (if b then Err e else Ok (tt, r)) (λ (x : Unit {0}). q))
open_cases r Q true e q h = tt
open_cases r Q false e q h = h refl

pub opened : {B : Type 0} (nests : ℕ) (r : Reading) (Q : B → Reading → Type 0) (q : Parser B) → (0 < nests → Yields r Q (q r)) → Yields r Q ((open_nest nests >> q) r)
unfolding open_nest
opened nests r Q q h = open_cases r Q (nests == 0) _ q (λ e. h (some_nests nests e))

-- ---- rules that take a token at least

abbrev pub Takes : {A : Type 0} → Reading → (A → Reading → Type 0) → Outcome A → Type 0
Takes r P (Ok y) = (left y.1 < left r) × P y.0 y.1
Takes r P (Err e) = Unit {0}

pub takes_yields : {A : Type 0} (r : Reading) (P : A → Reading → Type 0) (o : Outcome A) → Takes r P o → Yields r P o
takes_yields r P (Ok y) h = (omega (arith, h.0), h.1)
takes_yields r P (Err e) h = tt

narrower : {A : Type 0} (r m : Reading) (P : A → Reading → Type 0) (o : Outcome A) → left m < left r → Yields m P o → Takes r P o
narrower r m P (Ok y) h k = (omega (arith, k.0, h), k.1)
narrower r m P (Err e) h k = tt

pub then_takes : {A B : Type 0} (r : Reading) (P : A → Reading → Type 0) (Q : B → Reading → Type 0) (o : Outcome A) (f : A → Parser B)
    → Takes r P o → ((a : A) (m : Reading) → P a m → Yields m Q (f a m)) → Takes r Q (and_then o f)
then_takes r P Q (Ok y) f h k = narrower r y.1 Q (f y.0 y.1) h.0 (k y.0 y.1 h.1)
then_takes r P Q (Err e) f h k = tt

-- the symbol is that of a token
abbrev pub OfToken : Symbol → Type 0
OfToken k = (k ≡ s.End → ⊥) × (k ≡ s.Bad → ⊥)

pub take_takes : {B : Type 0} (k : Symbol) (r : Reading) (Q : B → Reading → Type 0) (o : Outcome B) → symbol r ≡ k → OfToken k → Yields (after r) Q o → Takes r Q o
take_takes k r Q o e h g = narrower r (after r) Q o (left_less r (λ f. h.0 (sym e ∙ f)) (λ f. h.1 (sym e ∙ f))) g

pub expect_takes : (k : Symbol) (r : Reading) → OfToken k → Takes r (λ p m. word k p r m) (expect k r)
unfolding expect
expect_takes k r h = go (sees k r) refl
  where
    go : (b : Bool) → sees k r ≡ b → Takes r (λ p m. word k p r m) (if b then Ok (piece r, after r) else refuse r)
    go true e = take_takes k r (λ p m. word k p r m) (Ok (piece r, after r)) (seen k r e) h (omega arith, (seen k r e, refl, refl))
    go false e = tt

pub open_takes : {B : Type 0} (r : Reading) (Q : B → Reading → Type 0) (b : Bool) (e : Stop) (q : Parser B) → (b ≡ false → Takes r Q (q r))
    → Takes r Q (and_then (if b then Err e else Ok (tt, r)) (λ (x : Unit {0}). q))
open_takes r Q true e q h = tt
open_takes r Q false e q h = h refl

pub opened_takes : {B : Type 0} (nests : ℕ) (r : Reading) (Q : B → Reading → Type 0) (q : Parser B) → (0 < nests → Takes r Q (q r)) → Takes r Q ((open_nest nests >> q) r)
unfolding open_nest
opened_takes nests r Q q h = open_takes r Q (nests == 0) _ q (λ e. h (some_nests nests e))

-- ---- repetition

module _ {S A : Type 0} (sign : Symbol → Option S) (mark : S → Symbol) (item : Parser A) (form : A → Phrase)
    (back : (k : Symbol) (x : S) → sign k ≡ Some x → k ≡ mark x) (items : (r : Reading) → Yields r (λ a m. form a r m) (item r)) where
  -- behind those that were found
  abbrev Signed : Reading → List (S × A) → List (S × A) → Reading → Type 0
  Signed r found all m = (more : List (S × A)) × (found ++ more ≡ all) × signed mark form more r m

  turn : (more : List (S × A) → Parser (List (S × A))) → ((found : List (S × A)) (r : Reading) → Yields r (Signed r found) (more found r))
      → (found : List (S × A)) (r : Reading) (o : Option S) → sign (symbol r) ≡ o → Yields r (Signed r found) (go_on item more found o r)
  turn more h found r None e = (omega arith, ([], append-nil found, refl))
  turn more h found r (Some x) e =
      take_yields r (Signed r found) _ (then_yields (after r) (λ a m. form a (after r) m) (Signed r found) _ _ (items (after r)) (λ a m d.
      yields_so m (Signed m (found ++ (x, a) ∷ [])) (Signed r found) _ (h (found ++ (x, a) ∷ []) m) (λ all z k.
      ((x, a) ∷ k.0, sym (append_assoc found ((x, a) ∷ []) k.0) ∙ k.1, (after r, (back (symbol r) x e, refl), (m, d, k.2))))))

  pub signed_yields : (n : ℕ) (found : List (S × A)) (r : Reading) → Yields r (Signed r found) (signed_from sign item n found r)
  unfolding signed_from
  signed_yields zero found r = tt
  signed_yields (suc n) found r = turn (signed_from sign item n) (signed_yields n) found r (sign (symbol r)) refl

  pub all_signed : (n : ℕ) (r : Reading) → Yields r (λ all m. signed mark form all r m) (signed_from sign item n [] r)
  all_signed n r = yields_so r _ _ _ (signed_yields n [] r) (λ all m k. let P : List (S × A) → Type 0 = λ x. signed mark form x r m in subst P k.1 k.2)

module _ {A : Type 0} (sign : Symbol) (item : Parser A) (form : A → Phrase) (items : (r : Reading) → Yields r (λ a m. form a r m) (item r)) where
  abbrev Separated : Reading → List A → List A → Reading → Type 0
  Separated r found all m = (x : A) × (more : List A) × (found ++ x ∷ more ≡ all) × (form x then others sign form more) r m

  last : (more : List A → Parser (List A)) → ((found : List A) (r : Reading) → Yields r (Separated r found) (more found r))
      → (found : List A) (r m : Reading) (a : A) → form a r m
      → Yields m (Separated r found) ((eat sign >>= (λ again. if again then more (found ++ a ∷ []) else pure (found ++ a ∷ []))) m)
  unfolding after_if
  last more h found r m a d = if_eat (sees sign m) refl
    where
      if_eat : (b : Bool) → sees sign m ≡ b → Yields m (Separated r found) ((if b then more (found ++ a ∷ []) else pure (found ++ a ∷ [])) (if b then after m else m))
      if_eat true e =
          take_yields m (Separated r found) _ (yields_so (after m) (Separated (after m) (found ++ a ∷ [])) (Separated r found) _ (h (found ++ a ∷ []) (after m)) (λ all z k.
          (a, k.0 ∷ k.1, sym (append_assoc found (a ∷ []) (k.0 ∷ k.1)) ∙ k.2, (m, d, (after m, (seen sign m e, refl), k.3)))))
      if_eat false e = (omega arith, (a, [], refl, (m, d, refl)))

  pub separated_yields : (n : ℕ) (found : List A) (r : Reading) → Yields r (Separated r found) (separated_from sign item n found r)
  unfolding separated_from
  separated_yields zero found r = tt
  separated_yields (suc n) found r = then_yields r (λ a m. form a r m) (Separated r found) _ _ (items r) (λ a m d. last (separated_from sign item n) (separated_yields n) found r m a d)

  pub all_separated : (r : Reading) → Yields r (λ all m. g.separated sign form all r m) (separated sign item r)
  all_separated r = yields_so r _ _ _ (separated_yields (left r) [] r) (λ all m k. let P : List A → Type 0 = λ x. g.separated sign form x r m in subst P k.2 k.3)
