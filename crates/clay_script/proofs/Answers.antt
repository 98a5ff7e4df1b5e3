-- What reading a text answers is what the grammar says: the script, or the refusal at the first fault.
use Rattle.std.proofs.Common.{◌≡◌, ℕ, zero, suc, ◌-◌, ◌≤◌, ◌==◌, take, true, false, inl, inr, List, [], ◌∷◌, ◌++◌, length, Result, Ok, Err, refl, sym, ap, subst, ◌∙◌, append_assoc, arith}
use Rattle.std.specs.Prelude.{IfOk, IfErr}
use Rattle.std.proofs.lemmas.List.{append-nil}
use Rattle.suite_base.specs.declared.places.Place.{Place}
use Rattle.suite_base.specs.declared.refusals.Refusal.{Refusal}
use Rattle.suite_base.specs.declared.refusals.Refusal.TheVariants.{BadScript, NumberTooLarge, Limit}
use Rattle.suite_base.specs.declared.refusals.Which.TheVariants.{Commands}
use Rattle.suite_base.specs.declared.refusals.Fail.{Fail}
use Rattle.suite_base.specs.declared.refusals.Fail.TheVariants.{Memory, Refused}
use Rattle.suite_base.proofs.LineCuts.{bool_tells}
use Rattle.clay_script.specs.declared.tokens.Token.{Token}
use Rattle.clay_script.specs.declared.tokens.Token.TheVariants.{End}
use Rattle.clay_script.specs.declared.tokens.Lexeme.{Lexeme}
use Rattle.clay_script.specs.declared.commands.Command.{Command}
use Rattle.suite_base.specs.Places.{after_byte}
use Rattle.clay_script.specs.Lexemes.{is_gap, token_of, token_length, line_length, lexemes}
use Rattle.clay_script.specs.Taking.{left_after}
use Rattle.clay_script.specs.Reading.{commands_at, Answers}
use Rattle.clay_script.specs.Grammar.{script_tokens, tokens_of, GoesOn, names_in, IsFault, FirstFault, Refuses}
use Rattle.clay_script.proofs.Lexing.{goes_on, some_length, lexeme_of, lexemes_at}
use Rattle.clay_script.proofs.Laws.{Begins, IsText}
use Rattle.clay_script.proofs.Weights.{names-append, names-script, no_large}
use Rattle.clay_script.proofs.Scripts.{all_read, none_read, TextFault, script_sound, script_complete, script_faults}

-- ---- the tokens of a text end with its end

text_more : (t : Lexeme) (ts : List Lexeme) → (t.token ≡ End → ⊥) → IsText ts → IsText (t ∷ ts)
text_more t [] other text = absurd text
text_more t (u ∷ ts) other text = (other, text)

one_left : Lexeme → List Lexeme
one_left t = t ∷ []

not_the_end : (b : ℕ) (word : List ℕ) (t : Lexeme) → token_of (b ∷ word) ≡ End → ⊥
not_the_end b word t e =
    let none : [] ≡ t ∷ [] = ap (λ (k : Token). left_after k (t ∷ [])) (sym e) ∙ goes_on b word (t ∷ []) in
    absurd (let bad : true ≡ false = cc in cc)

pub text_is : (skip : ℕ) (at : Place) (s : List ℕ) → IsText (lexemes skip at s)
text_is skip at [] = refl
text_is (suc skip) at (b ∷ s) = text_is skip (after_byte at b) s
text_is zero at (b ∷ s) =
    elim (bool_tells (is_gap b)) [
      | inl gap ↦ rw gap (text_is 0 (after_byte at b) s)
      | inr none ↦ elim (bool_tells (b == 35)) [
        | inl comment ↦ rw (none, comment) (text_is (line_length s) (after_byte at b) s)
        | inr token ↦ subst IsText (sym (lexemes_at at b s none token)) (text_more (lexeme_of (token_length (b ∷ s)) at (b ∷ s)) (lexemes (token_length (b ∷ s) - 1) (after_byte at b) s)
            (λ e. not_the_end b (take (token_length (b ∷ s) - 1) s) (record { token = End; place = at })
            (ap (λ n. token_of (take n (b ∷ s))) (sym (some_length b s)) ∙ e))
            (text_is (token_length (b ∷ s) - 1) (after_byte at b) s))
      ]
    ]

-- ---- tokens and their places

tokens_begin : (ts : List Lexeme) (ks : List Token) → tokens_of ts ≡ ks → Begins ks ts []
tokens_begin [] [] e = refl
tokens_begin [] (k ∷ ks) e = absurd (let bad : true ≡ false = cc in cc)
tokens_begin (t ∷ ts) [] e = absurd (let bad : true ≡ false = cc in cc)
tokens_begin (t ∷ ts) (k ∷ ks) e = (cc, tokens_begin ts ks (cc))

begins_tokens : (ks : List Token) (ts us : List Lexeme) → Begins ks ts us → tokens_of ts ≡ ks ++ tokens_of us
begins_tokens [] ts us h = ap tokens_of h
begins_tokens (k ∷ ks) [] us h = absurd h
begins_tokens (k ∷ ks) (t ∷ ts) us h =
    ap (λ (l : Token). l ∷ tokens_of ts) h.0 ∙ ap (λ (l : List Token). k ∷ l) (begins_tokens ks ts us h.1)

-- the tokens that stand first, with their places
record FrontOf (ks : List Token) (ts us : List Lexeme) : Type 0 where
  at : List Lexeme
  parts : ts ≡ at ++ us
  tokens : tokens_of at ≡ ks

front_of : (ks : List Token) (ts us : List Lexeme) → Begins ks ts us → FrontOf ks ts us
front_of [] ts us h = record { at = []; parts = h; tokens = refl }
front_of (k ∷ ks) [] us h = absurd h
front_of (k ∷ ks) (t ∷ ts) us h =
    let more = front_of ks ts us h.1 in
    record {
      at = t ∷ more.at;
      parts = ap (λ (l : List Lexeme). t ∷ l) more.parts;
      tokens = ap (λ (l : Token). l ∷ tokens_of more.at) h.0 ∙ ap (λ (l : List Token). k ∷ l) more.tokens;
    }

begins_of : (front us : List Lexeme) → Begins (tokens_of front) (front ++ us) us
begins_of [] us = refl
begins_of (t ∷ front) us = (refl, begins_of front us)

first_fault : (n : ℕ) (ts : List Lexeme) (r : Refusal) → TextFault n ts r → FirstFault n ts r
first_fault n ts r f =
    let front = front_of f.front ts (f.here ∷ f.rest) f.begins in
    record {
      front = front.at;
      here = f.here;
      rest = f.rest;
      parts = front.parts;
      before = subst GoesOn (sym front.tokens) f.goes_on;
      room = subst (λ (l : List Token). names_in l ≤ n) (sym front.tokens) f.room;
      fault = subst (λ (l : List Token). IsFault n l f.here r) (sym front.tokens) f.fault;
    }

text_fault : (n : ℕ) (ts : List Lexeme) (r : Refusal) → FirstFault n ts r → TextFault n ts r
text_fault n ts r f = record {
  front = tokens_of f.front;
  here = f.here;
  rest = f.rest;
  begins = subst (λ (l : List Lexeme). Begins (tokens_of f.front) l (f.here ∷ f.rest)) (sym f.parts) (begins_of f.front (f.here ∷ f.rest));
  goes_on = f.before;
  room = f.room;
  fault = f.fault;
}

-- ---- a text has one first fault

-- where two tokens of a text stand
data Standing (a : List Token) (x : Lexeme) (b : List Token) (y : Lexeme) : Type 0 where
  Same : a ≡ b → x ≡ y → Standing a x b y
  Earlier : (m : List Token) → b ≡ a ++ x.token ∷ m → Standing a x b y
  Later : (m : List Token) → a ≡ b ++ y.token ∷ m → Standing a x b y

further : (k l : Token) (a b : List Token) (x y : Lexeme) → k ≡ l → Standing a x b y → Standing (k ∷ a) x (l ∷ b) y
further k l a b x y e (Same f g) = Same (ap (λ (m : Token). m ∷ a) e ∙ ap (λ (m : List Token). l ∷ m) f) g
further k l a b x y e (Earlier m f) = Earlier m (ap (λ (m : Token). m ∷ b) (sym e) ∙ ap (λ (m : List Token). k ∷ m) f)
further k l a b x y e (Later m f) = Later m (ap (λ (m : Token). m ∷ a) e ∙ ap (λ (m : List Token). l ∷ m) f)

standing : (a b : List Token) (ts : List Lexeme) (x y : Lexeme) (us vs : List Lexeme) → Begins a ts (x ∷ us) → Begins b ts (y ∷ vs) → Standing a x b y
standing [] [] ts x y us vs h k = Same refl cc
standing [] (l ∷ b) [] x y us vs h k = absurd k
standing [] (l ∷ b) (t ∷ ts) x y us vs h k =
    let here : t ≡ x = cc in
    Earlier b (ap (λ (m : Token). m ∷ b) (sym k.0 ∙ ap (λ (u : Lexeme). u.token) here))
standing (l ∷ a) [] [] x y us vs h k = absurd h
standing (l ∷ a) [] (t ∷ ts) x y us vs h k =
    let here : t ≡ y = cc in
    Later a (ap (λ (m : Token). m ∷ a) (sym h.0 ∙ ap (λ (u : Lexeme). u.token) here))
standing (l ∷ a) (m ∷ b) [] x y us vs h k = absurd h
standing (l ∷ a) (m ∷ b) (t ∷ ts) x y us vs h k = further l m a b x y (sym h.0 ∙ k.0) (standing a b ts x y us vs h.1 k.1)

-- no fault stands where a text goes on within its commands
no_fault : (n : ℕ) (front : List Token) (here : Lexeme) (r : Refusal) (more : List Token) (cs : List Command) → front ++ here.token ∷ more ≡ script_tokens cs
    → (names_in front ≡ n → names_in (here.token ∷ []) ≡ 1 → ⊥) → IsFault n front here r → ⊥
no_fault n front here (NumberTooLarge at) more cs e few h =
    no_large cs front more (ap (λ (k : Token). front ++ k ∷ more) (sym h.0) ∙ e)
no_fault n front here (BadScript at) more cs e few h = h.1 (cs, more, append_assoc front (here.token ∷ []) more ∙ e)
no_fault n front here (Limit Commands zero) more cs e few h = few h.0 h.1
no_fault n front here other more cs e few h = h

names_past : (n : ℕ) (a : List Token) (k : Token) (m : List Token) → names_in (a ++ k ∷ m) ≤ n → names_in a ≡ n → names_in (k ∷ []) ≡ 1 → ⊥
names_past n a k m le e f = absurd (omega (arith, names-append a (k ∷ m), names-append (k ∷ []) m))

not_earlier : (n : ℕ) (a : List Token) (x : Lexeme) (r : Refusal) (b m : List Token) → b ≡ a ++ x.token ∷ m → GoesOn b → names_in b ≤ n → IsFault n a x r → ⊥
not_earlier n a x r b m e (cs, more, f) room h =
    no_fault n a x r (m ++ more) cs
    (sym (append_assoc a (x.token ∷ m) more) ∙ (ap (λ (l : List Token). l ++ more) (sym e) ∙ f))
    (names_past n a x.token m (subst (λ (l : List Token). names_in l ≤ n) e room)) h

large_agrees : (n : ℕ) (front : List Token) (here : Lexeme) (at : Place) (s : Refusal) → IsFault n front here (NumberTooLarge at) → IsFault n front here s → NumberTooLarge at ≡ s
large_agrees n front here at (NumberTooLarge to) h k = ap NumberTooLarge (h.1 ∙ sym k.1)
large_agrees n front here at (BadScript to) h k = absurd (k.0 h.0)
large_agrees n front here at (Limit Commands zero) h k =
    absurd (let bad : 0 ≡ 1 = ap (λ (t : Token). names_in (t ∷ [])) (sym h.0) ∙ k.1 in omega arith)
large_agrees n front here at other h k = absurd k

bad_agrees : (n : ℕ) (front : List Token) (here : Lexeme) (at : Place) (s : Refusal) → IsFault n front here (BadScript at) → IsFault n front here s → BadScript at ≡ s
bad_agrees n front here at (NumberTooLarge to) h k = absurd (h.0 k.0)
bad_agrees n front here at (BadScript to) h k = ap BadScript (h.2 ∙ sym k.2)
bad_agrees n front here at (Limit Commands zero) h k = absurd (h.1 k.2)
bad_agrees n front here at other h k = absurd k

limit_agrees : (n : ℕ) (front : List Token) (here : Lexeme) (s : Refusal) → IsFault n front here (Limit Commands 0) → IsFault n front here s → Limit Commands 0 ≡ s
limit_agrees n front here (NumberTooLarge to) h k =
    absurd (let bad : 0 ≡ 1 = ap (λ (t : Token). names_in (t ∷ [])) (sym k.0) ∙ h.1 in omega arith)
limit_agrees n front here (BadScript to) h k = absurd (k.1 h.2)
limit_agrees n front here (Limit Commands zero) h k = refl
limit_agrees n front here other h k = absurd k

agree : (n : ℕ) (front : List Token) (here : Lexeme) (r s : Refusal) → IsFault n front here r → IsFault n front here s → r ≡ s
agree n front here (NumberTooLarge at) s h k = large_agrees n front here at s h k
agree n front here (BadScript at) s h k = bad_agrees n front here at s h k
agree n front here (Limit Commands zero) s h k = limit_agrees n front here s h k
agree n front here other s h k = absurd h

one_fault : (n : ℕ) (ts : List Lexeme) (r s : Refusal) → TextFault n ts r → TextFault n ts s → r ≡ s
one_fault n ts r s f g =
    elim (standing f.front g.front ts f.here g.here f.rest g.rest f.begins g.begins) [
      | Same e h ↦ agree n f.front f.here r s f.fault (subst (λ (l : List Token). IsFault n l f.here s) (sym e) (subst (λ (x : Lexeme). IsFault n g.front x s) (sym h) g.fault))
      | Earlier m e ↦ absurd (not_earlier n f.front f.here r g.front m e g.goes_on g.room f.fault)
      | Later m e ↦ absurd (not_earlier n g.front g.here s f.front m e f.goes_on f.room g.fault)
    ]

no_fault_in_script : (n : ℕ) (ts : List Lexeme) (r : Refusal) (cs : List Command) → TextFault n ts r → Begins (script_tokens cs) ts [] → length cs ≤ n → ⊥
no_fault_in_script n ts r cs f whole le =
    let tokens : tokens_of ts ≡ script_tokens cs = begins_tokens (script_tokens cs) ts [] whole ∙ append-nil (script_tokens cs) in
    let parts : f.front ++ f.here.token ∷ tokens_of f.rest ≡ script_tokens cs = sym (begins_tokens f.front ts (f.here ∷ f.rest) f.begins) ∙ tokens in
    let few : names_in (f.front ++ f.here.token ∷ tokens_of f.rest) ≤ n = omega (arith, ap names_in parts, names-script cs) in
    no_fault n f.front f.here r (tokens_of f.rest) cs parts (names_past n f.front f.here.token (tokens_of f.rest) few) f.fault

-- ---- what a call answers

fault_reads : (n : ℕ) (ts : List Lexeme) (r : Refusal) → IsText ts → TextFault n ts r → (v : Result (List Command) Refusal) → commands_at n ts ≡ v → v ≡ none_read r
fault_reads n ts r text f (Ok cs) e =
    let found = script_sound n ts cs text e in
    absurd (no_fault_in_script n ts r cs f found.0 found.1)
fault_reads n ts r text f (Err s) e = ap none_read (one_fault n ts s r (script_faults n ts s text e) f)

pub found_is : (n : ℕ) (ts : List Lexeme) (answer : Result (List Command) Fail) → IsText ts → Answers answer (commands_at n ts) → IfOk answer (λ cs. (tokens_of ts ≡ script_tokens cs) × (length cs ≤ n))
found_is n ts (Ok cs) text h =
    let found = script_sound n ts cs text h in
    (begins_tokens (script_tokens cs) ts [] found.0 ∙ append-nil (script_tokens cs), found.1)
found_is n ts (Err e) text h = tt

pub only_is : (n : ℕ) (ts : List Lexeme) (answer : Result (List Command) Fail) (cs : List Command) → Answers answer (commands_at n ts) → tokens_of ts ≡ script_tokens cs → length cs ≤ n → Answers answer (all_read cs)
only_is n ts answer cs h e le = subst (Answers answer) (script_complete cs n ts (tokens_begin ts (script_tokens cs) e) le) h

pub refused_is : (n : ℕ) (ts : List Lexeme) (answer : Result (List Command) Fail) → IsText ts → Answers answer (commands_at n ts) → IfErr answer (λ e. Refuses e (FirstFault n ts))
refused_is n ts (Ok cs) text h = tt
refused_is n ts (Err Memory) text h = tt
refused_is n ts (Err (Refused r)) text h = first_fault n ts r (script_faults n ts r text h)

pub first_is : (n : ℕ) (ts : List Lexeme) (answer : Result (List Command) Fail) (r : Refusal) → IsText ts → Answers answer (commands_at n ts) → FirstFault n ts r → Answers answer (none_read r)
first_is n ts answer r text h f = subst (Answers answer) (fault_reads n ts r text (text_fault n ts r f) (commands_at n ts) refl) h
