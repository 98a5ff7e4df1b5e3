-- What it means that a reader reads a form of the grammar, and how readers are put together.
use Rattle.std.proofs.Common.{◌≡◌, Bool, true, false, cond, ◌⊎◌, inl, inr, List, [], ◌∷◌, ◌++◌, Result, Ok, Err, ℤ, pos, refl, sym, ap, subst, ◌∙◌, append_assoc}
use Rattle.suite_base.specs.declared.places.Place.{Place}
use Rattle.suite_base.specs.declared.refusals.Refusal.{Refusal}
use Rattle.clay_script.specs.declared.tokens.Token.{Token}
use Rattle.clay_script.specs.declared.tokens.Token.TheVariants.{Number, OpenRound, CloseRound, OpenSquare, CloseSquare, Comma, Semicolon, End}
use Rattle.clay_script.specs.declared.tokens.Lexeme.{Lexeme}
use Rattle.suite_base.specs.Places.{first_place}
use Rattle.clay_script.specs.Reading.{◌>>=◌, fault_of, same_sign, sign_at, number_of, number_at, ended}
use Rattle.clay_script.specs.Grammar.{tokens_of, one_number}
use Rattle.clay_script.proofs.Loops.{read_ok, read_err, same_value, same_left, same_refusal, not_both, number_is}

-- these tokens stand first, and the others are left
abbrev pub Begins : List Token → List Lexeme → List Lexeme → Type 0
Begins [] ts us = ts ≡ us
Begins (k ∷ ks) [] us = ⊥
Begins (k ∷ ks) (t ∷ ts) us = (t.token ≡ k) × Begins ks ts us

-- the end stands last, and only there
abbrev pub IsText : List Lexeme → Type 0
IsText [] = ⊥
IsText (t ∷ []) = t.token ≡ End
IsText (t ∷ u ∷ ts) = (t.token ≡ End → ⊥) × IsText (u ∷ ts)

pub text_after : (t : Lexeme) (ts : List Lexeme) → (t.token ≡ End → ⊥) → IsText (t ∷ ts) → IsText ts
text_after t [] differ h = differ h
text_after t (u ∷ ts) differ h = h.1

-- ---- what stands first, in parts

pub Begins-join : (a b : List Token) (ts ms us : List Lexeme) → Begins a ts ms → Begins b ms us → Begins (a ++ b) ts us
Begins-join [] b ts ms us p q = subst (λ (l : List Lexeme). Begins b l us) (sym p) q
Begins-join (k ∷ a) b [] ms us p q = absurd p
Begins-join (k ∷ a) b (t ∷ ts) ms us p q = (p.0, Begins-join a b ts ms us p.1 q)

pub record Between (a b : List Token) (ts us : List Lexeme) : Type 0 where
  pub mid : List Lexeme
  pub first : Begins a ts mid
  pub second : Begins b mid us

pub Begins-split : (a b : List Token) (ts us : List Lexeme) → Begins (a ++ b) ts us → Between a b ts us
Begins-split [] b ts us p = record { mid = ts; first = refl; second = p }
Begins-split (k ∷ a) b [] us p = absurd p
Begins-split (k ∷ a) b (t ∷ ts) us p =
    let more = Begins-split a b ts us p.1 in
    record { mid = more.mid; first = (p.0, more.first); second = more.second }

-- tokens at one place, to read what only tokens say
abbrev pub placed : List Token → List Lexeme
placed [] = []
placed (k ∷ ks) = record { token = k; place = first_place } ∷ placed ks

pub placed-begins : (a b : List Token) → Begins a (placed (a ++ b)) (placed b)
placed-begins [] b = refl
placed-begins (k ∷ a) b = (refl, placed-begins a b)

pub tokens-placed : (a : List Token) → tokens_of (placed a) ≡ a
tokens-placed [] = refl
tokens-placed (k ∷ a) = ap (λ (l : List Token). k ∷ l) (tokens-placed a)

-- ---- readers

-- some token is the first with which no text of the form goes on
pub record Faulty {X : Type 0} (D : X → Type 0) (S : X → List Token) (ts : List Lexeme) (r : Refusal) : Type 0 where
  pub front : List Token
  pub here : Lexeme
  pub rest : List Lexeme
  pub begins : Begins front ts (here ∷ rest)
  pub is : r ≡ fault_of here.token here.place
  pub some : X
  pub some_fits : D some
  pub more : List Token
  pub goes_on : front ++ more ≡ S some
  pub stops : (x : X) (after others : List Token) → D x → S x ++ after ≡ front ++ here.token ∷ others → ⊥

-- R reads the form S of the values in D
pub record Reads {X : Type 0} (D : X → Type 0) (S : X → List Token) (R : List Lexeme → Result (X × List Lexeme) Refusal) : Type 0 where
  pub sound : (ts us : List Lexeme) (x : X) → R ts ≡ read_ok x us → D x × Begins (S x) ts us
  pub complete : (ts us : List Lexeme) (x : X) → D x → Begins (S x) ts us → R ts ≡ read_ok x us
  pub keeps : (ts us : List Lexeme) (x : X) → R ts ≡ read_ok x us → IsText ts → IsText us
  pub faults : (ts : List Lexeme) (r : Refusal) → IsText ts → R ts ≡ read_err r → Faulty D S ts r

-- a form is no beginning of another
pub unique : {X : Type 0} (D : X → Type 0) (S : X → List Token) (R : List Lexeme → Result (X × List Lexeme) Refusal) → Reads D S R
    → (x y : X) (a b : List Token) → D x → D y → S x ++ a ≡ S y ++ b → (x ≡ y) × (a ≡ b)
unique D S R reads x y a b dx dy e =
    let one : R (placed (S x ++ a)) ≡ read_ok x (placed a) = reads.complete (placed (S x ++ a)) (placed a) x dx (placed-begins (S x) a) in
    let two : R (placed (S y ++ b)) ≡ read_ok y (placed b) = reads.complete (placed (S y ++ b)) (placed b) y dy (placed-begins (S y) b) in
    let same : read_ok x (placed a) ≡ read_ok y (placed b) = sym one ∙ (ap (λ (l : List Token). R (placed l)) e ∙ two) in
    (same_value x y (placed a) (placed b) same, sym (tokens-placed a) ∙ (ap tokens_of (same_left x y (placed a) (placed b) same) ∙ tokens-placed b))

-- ---- readers one after the other

pub bind_ok : {A B : Type 0} (r : Result A Refusal) (f : A → Result B Refusal) (y : B) → (r >>= f) ≡ Ok y → (x : A) × (r ≡ Ok x) × (f x ≡ Ok y)
bind_ok (Ok x) f y e = (x, refl, e)
bind_ok (Err d) f y e = absurd (let no : false ≡ true = cc in cc)

pub bind_err : {A B : Type 0} (r : Result A Refusal) (f : A → Result B Refusal) (d : Refusal) → (r >>= f) ≡ Err d → (r ≡ Err d) ⊎ ((x : A) × (r ≡ Ok x) × (f x ≡ Err d))
bind_err (Ok x) f d e = inr (x, refl, e)
bind_err (Err c) f d e = inl cc

-- values w are made of a first x and a second y
pub record Joins {X Y W : Type 0} (FitsX : X → Type 0) (FitsY : Y → Type 0) (D : W → Type 0) (g : X → Y → W) (a : W → X) (b : W → Y) : Type 0 where
  pub first : (x : X) (y : Y) → FitsX x → FitsY y → a (g x y) ≡ x
  pub second : (x : X) (y : Y) → FitsX x → FitsY y → b (g x y) ≡ y
  pub fits : (x : X) (y : Y) → FitsX x → FitsY y → D (g x y)
  pub fits_first : (w : W) → D w → FitsX (a w)
  pub fits_second : (w : W) → D w → FitsY (b w)
  pub back : (w : W) → D w → g (a w) (b w) ≡ w

abbrev pub both : {X Y W : Type 0} → (X → Y → W) → (List Lexeme → Result (X × List Lexeme) Refusal) → (List Lexeme → Result (Y × List Lexeme) Refusal) → List Lexeme → Result (W × List Lexeme) Refusal
both g R Q ts = R ts >>= λ p. Q p.1 >>= λ q. read_ok (g p.0 q.0) q.1

module _ {X Y W : Type 0} (FitsX : X → Type 0) (FitsY : Y → Type 0) (D : W → Type 0) (g : X → Y → W) (a : W → X) (b : W → Y) (joins : Joins FitsX FitsY D g a b)
    (spellX : X → List Token) (spellY : Y → List Token) (R : List Lexeme → Result (X × List Lexeme) Refusal) (Q : List Lexeme → Result (Y × List Lexeme) Refusal)
    (one : Reads FitsX spellX R) (two : Reads FitsY spellY Q) (y0 : Y) (y0_fits : FitsY y0) where
  abbrev spelled : W → List Token
  spelled w = spellX (a w) ++ spellY (b w)

  both_sound : (ts us : List Lexeme) (w : W) → both g R Q ts ≡ read_ok w us → D w × Begins (spelled w) ts us
  both_sound ts us w e =
      let p = bind_ok (R ts) (λ p. Q p.1 >>= λ q. read_ok (g p.0 q.0) q.1) (w, us) e in
      let q = bind_ok (Q p.0.1) (λ q. read_ok (g p.0.0 q.0) q.1) (w, us) p.2 in
      let made : g p.0.0 q.0.0 ≡ w = same_value (g p.0.0 q.0.0) w q.0.1 us q.2 in
      let left : q.0.1 ≡ us = same_left (g p.0.0 q.0.0) w q.0.1 us q.2 in
      let h = one.sound ts p.0.1 p.0.0 p.1 in
      let k = two.sound p.0.1 q.0.1 q.0.0 q.1 in
      let parts : spelled (g p.0.0 q.0.0) ≡ spellX p.0.0 ++ spellY q.0.0 = rw (joins.first p.0.0 q.0.0 h.0 k.0, joins.second p.0.0 q.0.0 h.0 k.0) refl in
      let at : Begins (spellX p.0.0 ++ spellY q.0.0) ts q.0.1 = Begins-join (spellX p.0.0) (spellY q.0.0) ts p.0.1 q.0.1 h.1 k.1 in
      let placed_right : Begins (spelled (g p.0.0 q.0.0)) ts q.0.1 = subst (λ (l : List Token). Begins l ts q.0.1) (sym parts) at in
      let whole : Begins (spelled (g p.0.0 q.0.0)) ts us = subst (λ (l : List Lexeme). Begins (spelled (g p.0.0 q.0.0)) ts l) left placed_right in
      (subst D made (joins.fits p.0.0 q.0.0 h.0 k.0), subst (λ (v : W). Begins (spelled v) ts us) made whole)

  both_complete : (ts us : List Lexeme) (w : W) → D w → Begins (spelled w) ts us → both g R Q ts ≡ read_ok w us
  both_complete ts us w d begins =
      let cut = Begins-split (spellX (a w)) (spellY (b w)) ts us begins in
      let r : R ts ≡ read_ok (a w) cut.mid = one.complete ts cut.mid (a w) (joins.fits_first w d) cut.first in
      let q : Q cut.mid ≡ read_ok (b w) us = two.complete cut.mid us (b w) (joins.fits_second w d) cut.second in
      rw (r, q, joins.back w d) refl

  both_keeps : (ts us : List Lexeme) (w : W) → both g R Q ts ≡ read_ok w us → IsText ts → IsText us
  both_keeps ts us w e h =
      let p = bind_ok (R ts) (λ p. Q p.1 >>= λ q. read_ok (g p.0 q.0) q.1) (w, us) e in
      let q = bind_ok (Q p.0.1) (λ q. read_ok (g p.0.0 q.0) q.1) (w, us) p.2 in
      let left : q.0.1 ≡ us = same_left (g p.0.0 q.0.0) w q.0.1 us q.2 in
      subst IsText left (two.keeps p.0.1 q.0.1 q.0.0 q.1 (one.keeps ts p.0.1 p.0.0 p.1 h))

  faulty_first : (ts : List Lexeme) (r : Refusal) → Faulty FitsX spellX ts r → Faulty D spelled ts r
  faulty_first ts r f =
      let parts : spelled (g f.some y0) ≡ spellX f.some ++ spellY y0 = rw (joins.first f.some y0 f.some_fits y0_fits, joins.second f.some y0 f.some_fits y0_fits) refl in
      record {
        front = f.front;
        here = f.here;
        rest = f.rest;
        begins = f.begins;
        is = f.is;
        some = g f.some y0;
        some_fits = joins.fits f.some y0 f.some_fits y0_fits;
        more = f.more ++ spellY y0;
        goes_on = sym (append_assoc f.front f.more (spellY y0)) ∙ (ap (λ (l : List Token). l ++ spellY y0) f.goes_on ∙ sym parts);
        stops = λ w after others d e. f.stops (a w) (spellY (b w) ++ after) others (joins.fits_first w d) (sym (append_assoc (spellX (a w)) (spellY (b w)) after) ∙ e);
      }

  faulty_second : (ts mid : List Lexeme) (x : X) (r : Refusal) → R ts ≡ read_ok x mid → Faulty FitsY spellY mid r → Faulty D spelled ts r
  faulty_second ts mid x r e f =
      let h = one.sound ts mid x e in
      let parts : spelled (g x f.some) ≡ spellX x ++ spellY f.some = rw (joins.first x f.some h.0 f.some_fits, joins.second x f.some h.0 f.some_fits) refl in
      record {
        front = spellX x ++ f.front;
        here = f.here;
        rest = f.rest;
        begins = Begins-join (spellX x) f.front ts mid (f.here ∷ f.rest) h.1 f.begins;
        is = f.is;
        some = g x f.some;
        some_fits = joins.fits x f.some h.0 f.some_fits;
        more = f.more;
        goes_on = append_assoc (spellX x) f.front f.more ∙ (ap (λ (l : List Token). spellX x ++ l) f.goes_on ∙ sym parts);
        stops = λ w after others d e.
            let same = unique FitsX spellX R one (a w) x (spellY (b w) ++ after) (f.front ++ f.here.token ∷ others) (joins.fits_first w d) h.0
            (sym (append_assoc (spellX (a w)) (spellY (b w)) after) ∙ (e ∙ append_assoc (spellX x) f.front (f.here.token ∷ others))) in
            f.stops (b w) after others (joins.fits_second w d) same.1;
      }

  both_faults : (ts : List Lexeme) (r : Refusal) → IsText ts → both g R Q ts ≡ read_err r → Faulty D spelled ts r
  both_faults ts r h e =
      elim (bind_err (R ts) (λ p. Q p.1 >>= λ q. read_ok (g p.0 q.0) q.1) r e) [
        | inl early ↦ faulty_first ts r (one.faults ts r h early)
        | inr p ↦ elim (bind_err (Q p.0.1) (λ q. read_ok (g p.0.0 q.0) q.1) r p.2) [
          | inl late ↦ faulty_second ts p.0.1 p.0.0 r p.1 (two.faults p.0.1 r (one.keeps ts p.0.1 p.0.0 p.1 h) late)
          | inr q ↦ absurd (not_both r (g p.0.0 q.0.0) q.0.1 (sym q.2))
        ]
      ]

  pub both_reads : Reads D spelled (both g R Q)
  both_reads = record { sound = both_sound; complete = both_complete; keeps = both_keeps; faults = both_faults }

-- the same form, by a reader that answers the same
pub reads_same : {X : Type 0} (D : X → Type 0) (S : X → List Token) (R Q : List Lexeme → Result (X × List Lexeme) Refusal) → ((ts : List Lexeme) → Q ts ≡ R ts) → Reads D S R → Reads D S Q
reads_same D S R Q same reads = record {
  sound = λ ts us x e. reads.sound ts us x (sym (same ts) ∙ e);
  complete = λ ts us x d h. same ts ∙ reads.complete ts us x d h;
  keeps = λ ts us x e h. reads.keeps ts us x (sym (same ts) ∙ e) h;
  faults = λ ts r h e. reads.faults ts r h (sym (same ts) ∙ e);
}

-- ---- a number

large_or_not : (t : Token) (at : Place) (r : Refusal) (ts : List Lexeme) → number_of t at (λ n. read_ok n ts) ≡ read_err r → (r ≡ fault_of t at) × ((z : ℤ) → Number z ≡ t → ⊥)
large_or_not (Number n) at r ts e = absurd (not_both r n ts (sym e))
large_or_not other at r ts e = (sym (same_refusal (fault_of other at) r e), λ z f. absurd (let no : true ≡ false = cc in cc))

pub head_is : (k l : Token) (a b : List Token) → k ∷ a ≡ l ∷ b → k ≡ l
head_is k l a b e = cc

pub tail_is : (k l : Token) (a b : List Token) → k ∷ a ≡ l ∷ b → a ≡ b
tail_is k l a b e = cc

abbrev pub Any : {X : Type 0} → X → Type 0
Any x = Unit {0}

number_sound : (ts us : List Lexeme) (x : ℤ) → number_at ts ≡ read_ok x us → Any x × Begins (one_number x) ts us
number_sound [] us x e = absurd (not_both ended x us e)
number_sound (t ∷ ts) us x e = let found = number_is t.token t.place ts us x e in (tt, (found.0, found.1))

number_complete : (ts us : List Lexeme) (x : ℤ) → Any x → Begins (one_number x) ts us → number_at ts ≡ read_ok x us
number_complete [] us x d h = absurd h
number_complete (t ∷ ts) us x d h = rw (h.0, ← h.1) refl

number_not_end : (t : Token) (z : ℤ) → t ≡ Number z → t ≡ End → ⊥
number_not_end t z e f = absurd (let no : true ≡ false = cc in cc)

number_keeps : (ts us : List Lexeme) (x : ℤ) → number_at ts ≡ read_ok x us → IsText ts → IsText us
number_keeps [] us x e h = absurd h
number_keeps (t ∷ ts) us x e h =
    let found = number_is t.token t.place ts us x e in
    subst IsText found.1 (text_after t ts (λ f. number_not_end t.token x found.0 f) h)

number_faults : (ts : List Lexeme) (r : Refusal) → IsText ts → number_at ts ≡ read_err r → Faulty {X = ℤ} Any one_number ts r
number_faults [] r h e = absurd h
number_faults (t ∷ ts) r h e =
    let found = large_or_not t.token t.place r ts e in
    record {
      front = [];
      here = t;
      rest = ts;
      begins = refl;
      is = found.0;
      some = pos 0;
      some_fits = tt;
      more = one_number (pos 0);
      goes_on = refl;
      stops = λ x after others d f. found.1 x (head_is (Number x) t.token after others f);
    }

pub number_reads : Reads {X = ℤ} Any one_number number_at
number_reads = record { sound = number_sound; complete = number_complete; keeps = number_keeps; faults = number_faults }

-- ---- a sign

-- a token that is a sign
abbrev pub IsSign : Token → Type 0
IsSign k = same_sign k k ≡ true

same_is : (k t : Token) → same_sign k t ≡ true → t ≡ k
same_is OpenRound OpenRound h = refl
same_is CloseRound CloseRound h = refl
same_is OpenSquare OpenSquare h = refl
same_is CloseSquare CloseSquare h = refl
same_is Comma Comma h = refl
same_is Semicolon Semicolon h = refl
same_is k t h = absurd (let no : false ≡ true = h in cc)

abbrev pub Nothing : Type 0
Nothing = Unit {0}

abbrev pub nothing : Nothing
nothing = tt

abbrev pub passed : List Lexeme → Result (Nothing × List Lexeme) Refusal
passed us = Ok (nothing, us)

-- a reader of one sign
abbrev pub sign_reader : Token → List Lexeme → Result (Nothing × List Lexeme) Refusal
sign_reader k ts = sign_at k ts >>= passed

abbrev pub one_sign : Token → Nothing → List Token
one_sign k _ = k ∷ []

abbrev found_or : Bool → Lexeme → List Lexeme → Result (List Lexeme) Refusal
found_or b t ts = cond b (Ok ts) (Err (fault_of t.token t.place))

found_sign : (b : Bool) (t : Lexeme) (ts us : List Lexeme) → (found_or b t ts >>= passed) ≡ passed us → (b ≡ true) × (ts ≡ us)
found_sign true t ts us e = (refl, same_left nothing nothing ts us e)
found_sign false t ts us e = absurd (not_both (fault_of t.token t.place) nothing us e)

lost_sign : (b : Bool) (t : Lexeme) (ts : List Lexeme) (r : Refusal) → (found_or b t ts >>= passed) ≡ read_err r → (b ≡ false) × (r ≡ fault_of t.token t.place)
lost_sign true t ts r e = absurd (not_both r nothing ts (sym e))
lost_sign false t ts r e = (refl, sym (same_refusal (fault_of t.token t.place) r e))

module _ (k : Token) (sign : IsSign k) (other : k ≡ End → ⊥) where
  sign_sound : (ts us : List Lexeme) (x : Nothing) → sign_reader k ts ≡ read_ok x us → Any x × Begins (one_sign k x) ts us
  sign_sound [] us x e = absurd (not_both ended nothing us e)
  sign_sound (t ∷ ts) us x e = let found = found_sign (same_sign k t.token) t ts us e in (tt, (same_is k t.token found.0, found.1))

  sign_complete : (ts us : List Lexeme) (x : Nothing) → Any x → Begins (one_sign k x) ts us → sign_reader k ts ≡ read_ok x us
  sign_complete [] us x d h = absurd h
  sign_complete (t ∷ ts) us x d h = rw (h.0, sign, ← h.1) refl

  sign_keeps : (ts us : List Lexeme) (x : Nothing) → sign_reader k ts ≡ read_ok x us → IsText ts → IsText us
  sign_keeps [] us x e h = absurd h
  sign_keeps (t ∷ ts) us x e h =
      let found = found_sign (same_sign k t.token) t ts us e in
      subst IsText found.1 (text_after t ts (λ f. other (sym (same_is k t.token found.0) ∙ f)) h)

  sign_faults : (ts : List Lexeme) (r : Refusal) → IsText ts → sign_reader k ts ≡ read_err r → Faulty {X = Nothing} Any (one_sign k) ts r
  sign_faults [] r h e = absurd h
  sign_faults (t ∷ ts) r h e =
      let lost = lost_sign (same_sign k t.token) t ts r e in
      record {
        front = [];
        here = t;
        rest = ts;
        begins = refl;
        is = lost.1;
        some = tt;
        some_fits = tt;
        more = k ∷ [];
        goes_on = refl;
        stops = λ x after others d f.
            let same : k ≡ t.token = head_is k t.token after others f in
            let yes : same_sign k t.token ≡ true = rw (← same) sign in
            absurd (let no : false ≡ true = sym lost.0 ∙ yes in cc);
      }

  pub sign_reads : Reads {X = Nothing} Any (one_sign k) (sign_reader k)
  sign_reads = record { sound = sign_sound; complete = sign_complete; keeps = sign_keeps; faults = sign_faults }

-- the same form, spelled the same way
pub reads_spelled : {X : Type 0} (D : X → Type 0) (S T : X → List Token) (R : List Lexeme → Result (X × List Lexeme) Refusal) → ((x : X) → D x → T x ≡ S x) → Reads D S R → Reads D T R
reads_spelled D S T R same reads = record {
  sound = λ ts us x e.
      let h = reads.sound ts us x e in
      (h.0, subst (λ (l : List Token). Begins l ts us) (sym (same x h.0)) h.1);
  complete = λ ts us x d h. reads.complete ts us x d (subst (λ (l : List Token). Begins l ts us) (same x d) h);
  keeps = reads.keeps;
  faults = λ ts r h e.
      let f = reads.faults ts r h e in
      record {
        front = f.front;
        here = f.here;
        rest = f.rest;
        begins = f.begins;
        is = f.is;
        some = f.some;
        some_fits = f.some_fits;
        more = f.more;
        goes_on = f.goes_on ∙ sym (same f.some f.some_fits);
        stops = λ x after others d g. f.stops x after others d (ap (λ (l : List Token). l ++ after) (sym (same x d)) ∙ g);
      };
}

read_eta : {X : Type 0} (r : Result (X × List Lexeme) Refusal) → r ≡ (r >>= λ q. read_ok q.0 q.1)
read_eta (Ok q) = refl
read_eta (Err e) = refl

-- ---- a sign, and then a form

abbrev pub behind : {X : Type 0} → Token → (List Lexeme → Result (X × List Lexeme) Refusal) → List Lexeme → Result (X × List Lexeme) Refusal
behind k R ts = sign_at k ts >>= R

abbrev pub take_second : {X : Type 0} → Nothing → X → X
take_second n x = x

abbrev pub no_value : {X : Type 0} → X → Nothing
no_value x = nothing

abbrev pub itself : {X : Type 0} → X → X
itself x = x

behind_same : {X : Type 0} (R : List Lexeme → Result (X × List Lexeme) Refusal) (r : Result (List Lexeme) Refusal) → (r >>= R) ≡ ((r >>= passed) >>= λ p. R p.1 >>= λ q. read_ok (take_second p.0 q.0) q.1)
behind_same R (Ok us) = read_eta (R us)
behind_same R (Err e) = refl

behind_joins : {X : Type 0} (D : X → Type 0) → Joins {X = Nothing} {Y = X} {W = X} Any D D take_second no_value itself
behind_joins D = record {
  first = λ x y d e. refl;
  second = λ x y d e. refl;
  fits = λ x y d e. e;
  fits_first = λ w d. tt;
  fits_second = λ w d. d;
  back = λ w d. refl;
}

pub behind_reads : {X : Type 0} (k : Token) → IsSign k → (k ≡ End → ⊥) → (D : X → Type 0) (S : X → List Token) (R : List Lexeme → Result (X × List Lexeme) Refusal) → Reads D S R → (x0 : X) → D x0
    → Reads D (λ x. k ∷ S x) (behind k R)
behind_reads {X} k sign other D S R reads x0 d0 =
    reads_same D (λ x. k ∷ S x) (both take_second (sign_reader k) R) (behind k R) (λ ts. behind_same R (sign_at k ts))
    (both_reads Any D D take_second no_value itself (behind_joins D) (one_sign k) S (sign_reader k) R (sign_reads k sign other) reads x0 d0)

-- ---- a form, and then a sign

abbrev pub before : {X : Type 0} → (List Lexeme → Result (X × List Lexeme) Refusal) → Token → List Lexeme → Result (X × List Lexeme) Refusal
before R k ts = R ts >>= λ x. sign_at k x.1 >>= λ us. read_ok x.0 us

abbrev pub take_first : {X : Type 0} → X → Nothing → X
take_first x n = x

before_sign : {X : Type 0} (x : X) (r : Result (List Lexeme) Refusal) → (r >>= λ us. read_ok x us) ≡ ((r >>= passed) >>= λ q. read_ok (take_first x q.0) q.1)
before_sign x (Ok us) = refl
before_sign x (Err e) = refl

before_same : {X : Type 0} (k : Token) (r : Result (X × List Lexeme) Refusal) → (r >>= λ x. sign_at k x.1 >>= λ us. read_ok x.0 us) ≡ (r >>= λ p. sign_reader k p.1 >>= λ q. read_ok (take_first p.0 q.0) q.1)
before_same k (Ok p) = before_sign p.0 (sign_at k p.1)
before_same k (Err e) = refl

before_joins : {X : Type 0} (D : X → Type 0) → Joins {X = X} {Y = Nothing} {W = X} D Any D take_first itself no_value
before_joins D = record {
  first = λ x y d e. refl;
  second = λ x y d e. refl;
  fits = λ x y d e. d;
  fits_first = λ w d. d;
  fits_second = λ w d. tt;
  back = λ w d. refl;
}

pub before_reads : {X : Type 0} (k : Token) → IsSign k → (k ≡ End → ⊥) → (D : X → Type 0) (S : X → List Token) (R : List Lexeme → Result (X × List Lexeme) Refusal) → Reads D S R
    → Reads D (λ x. S x ++ k ∷ []) (before R k)
before_reads {X} k sign other D S R reads =
    reads_same D (λ x. S x ++ k ∷ []) (both take_first R (sign_reader k)) (before R k) (λ ts. before_same k (R ts))
    (both_reads D Any D take_first itself no_value (before_joins D) S (one_sign k) R (sign_reader k) reads (sign_reads k sign other) nothing tt)
