-- What the tests of token forms say of a text's first byte, and of how far a front goes.
use Rattle.std.proofs.Common.{◌≡◌, ℕ, zero, suc, ◌+◌, ◌≤◌, ◌==◌, ◌⊎◌, inl, inr, Bool, true, false, not, ◌&&◌, ◌||◌, List, [], ◌∷◌, ◌++◌, length, take, refl, subst, arith}
use Rattle.std.proofs.lemmas.Bool.{leb-true, cases_Bool, eqb-true}
use Rattle.std.specs.Prelude.{slice_index, codes}
use Rattle.std.specs.Int.{is_in_range}
use Rattle.std.specs.Char.{is_ascii_digit}
use Rattle.std.specs.List.{prefix_len, list_all, list_any}
use Rattle.std.specs.Str.{bytes_eq}
use Rattle.std.proofs.lemmas.Slice.Eq.{bytes_eq-Decides}
use Rattle.suite_base.specs.Bytes.{begins_name, is_name_byte}
use Rattle.c_lexer.specs.Tokens.{begins_number, goes_on, number_len, is_integer, is_one_of, is_pair, is_single, sign_len}
use Rattle.c_lexer.specs.declared.tokens.TokenKind.{TokenKind}
use Rattle.c_lexer.specs.declared.tokens.TokenKind.TheVariants.{Name, Integer, Literal, Sign}
use Rattle.c_lexer.proofs.TokenLemmas.{begins_word}
use Rattle.c_lexer.specs.TokenForms.{is_name, all_go_on, is_number, single_signs, double_signs, is_sign, is_token_of}

pub and_left : (a b : Bool) → (a && b) ≡ true → a ≡ true
and_left true b e = refl
and_left false b e = absurd (cc)

pub and_right : (a b : Bool) → (a && b) ≡ true → b ≡ true
and_right true b e = e
and_right false b e = absurd (cc)

pub both : (a b : Bool) → a ≡ true → b ≡ true → (a && b) ≡ true
both true b e f = f
both false b e f = absurd (cc)

pub either : (a b : Bool) → (a || b) ≡ true → (a ≡ true) ⊎ (b ≡ true)
either true b e = inl refl
either false b e = inr e

pub neither : (a b : Bool) → a ≡ false → b ≡ false → (a || b) ≡ false
neither true b e f = absurd (cc)
neither false b e f = f

pub refuted : (a : Bool) → (a ≡ true → false ≡ true) → a ≡ false
refuted true h = absurd (let e = h refl in cc)
refuted false h = refl

-- ---- first bytes

pub in_range : (lo hi b : ℕ) → is_in_range lo hi b ≡ true → (lo ≤ b) × (b ≤ hi)
in_range lo hi b h = (leb-true lo b (and_left _ _ h), leb-true b hi (and_right _ _ h))

out_of_range : (lo hi b : ℕ) → (lo ≤ b → b ≤ hi → false ≡ true) → is_in_range lo hi b ≡ false
out_of_range lo hi b h = refuted _ (λ e. h (in_range lo hi b e).0 (in_range lo hi b e).1)

not_equal : (a b : ℕ) → (a ≡ b → false ≡ true) → (a == b) ≡ false
not_equal a b h = refuted _ (λ e. h (eqb-true a b e))

-- a digit or a point begins no name
pub low_no_name : (b : ℕ) → b ≤ 57 → begins_name b ≡ false
low_no_name b h =
    neither _ _ (neither _ _ (out_of_range 65 90 b (λ lo hi. absurd (omega arith))) (out_of_range 97 122 b (λ lo hi. absurd (omega arith))))
    (not_equal b 95 (λ e. absurd (omega arith)))

number_low : (text : List ℕ) → begins_number text ≡ true → slice_index text 0 ≤ 57
number_low text h = elim (either _ _ h) [
  | inl d ↦ (in_range 48 57 _ d).1
  | inr p ↦ (let e : slice_index text 0 ≡ 46 = eqb-true _ 46 (and_left _ _ p) in omega arith)
]

pub number_no_name : (text : List ℕ) → begins_number text ≡ true → begins_name (slice_index text 0) ≡ false
number_no_name text h = low_no_name (slice_index text 0) (number_low text h)

-- ---- signs

-- a test that each of a list passes is passed by each text that the list has
each_passes : (passes : List ℕ → Bool) (text : List ℕ) (list : List (List ℕ)) → list_all passes list ≡ true → list_any (bytes_eq text) list ≡ true → passes text ≡ true
each_passes passes text [] h e = absurd (cc)
each_passes passes text (x ∷ list) h e = elim (either _ _ e) [
  | inl s ↦ (let k : text ≡ x = (bytes_eq-Decides text x).0 s in rw k (and_left _ _ h))
  | inr s ↦ each_passes passes text list (and_right _ _ h) s
]

pub each_byte_passes : (passes : ℕ → Bool) (b : ℕ) (list : List ℕ) → list_all passes list ≡ true → is_one_of b list ≡ true → passes b ≡ true
each_byte_passes passes b [] h e = absurd (cc)
each_byte_passes passes b (x ∷ list) h e = elim (either _ _ e) [
  | inl s ↦ (let k : x ≡ b = eqb-true x b s in rw (← k) (and_left _ _ h))
  | inr s ↦ each_byte_passes passes b list (and_right _ _ h) s
]

-- what one listed text is: one byte or two
abbrev is_short : List ℕ → Bool
is_short [] = false
is_short (a ∷ []) = is_single a
is_short (a ∷ b ∷ []) = is_pair a b
is_short (a ∷ b ∷ c ∷ more) = false

pub sign_is_short : (text : List ℕ) → is_sign text ≡ true → is_short text ≡ true
sign_is_short text h = each_passes is_short text (single_signs ++ double_signs) refl h

abbrev pub begins_no_other : List ℕ → Bool
begins_no_other text = not (begins_name (slice_index text 0)) && (not (is_ascii_digit (slice_index text 0)) && not (slice_index text 0 == 46))

sign_begins : (text : List ℕ) → is_sign text ≡ true → begins_no_other text ≡ true
sign_begins text h = each_passes begins_no_other text (single_signs ++ double_signs) refl h

pub single_is_sign : (a : ℕ) → is_single a ≡ true → is_sign (a ∷ []) ≡ true
single_is_sign a h = each_byte_passes (λ x. is_sign (x ∷ [])) a (codes "()[]{};,?:=+-*/%<>!") refl h

pub pair_is_sign : (a b : ℕ) → is_pair a b ≡ true → is_sign (a ∷ b ∷ []) ≡ true
pair_is_sign a b h =
    elim (either (b == 61 && is_one_of a (codes "+-*/%<>=!")) (b == a && is_one_of a (codes "+-&|")) h) [
      | inl p ↦
          let e : b ≡ 61 = eqb-true b 61 (and_left (b == 61) _ p) in
          rw e (each_byte_passes (λ x. is_sign (x ∷ 61 ∷ [])) a (codes "+-*/%<>=!") refl (and_right (b == 61) _ p))
      | inr p ↦
          let e : b ≡ a = eqb-true b a (and_left (b == a) _ p) in
          rw e (each_byte_passes (λ x. is_sign (x ∷ x ∷ [])) a (codes "+-&|") refl (and_right (b == a) _ p))
    ]

-- ---- a text is a token of one kind

pub name_begins : (text : List ℕ) → is_name text ≡ true → begins_name (slice_index text 0) ≡ true
name_begins [] h = absurd (cc)
name_begins (b ∷ more) h = and_left _ _ h

pub number_begins : (text : List ℕ) → is_number text ≡ true → begins_number text ≡ true
number_begins [] h = absurd (cc)
number_begins (b ∷ more) h = and_left _ _ h

not_true : (b : Bool) → not b ≡ true → b ≡ false
not_true true h = absurd (cc)
not_true false h = refl

pub sign_text_no_name : (text : List ℕ) → begins_no_other text ≡ true → begins_name (slice_index text 0) ≡ false
sign_text_no_name text h = not_true _ (and_left (not (begins_name (slice_index text 0))) _ h)

pub sign_text_no_number : (text : List ℕ) → begins_no_other text ≡ true → begins_number text ≡ false
sign_text_no_number text h =
    let b = slice_index text 0 in
    let more = and_right (not (begins_name b)) _ h in
    let p : (b == 46) ≡ false = not_true _ (and_right (not (is_ascii_digit b)) _ more) in
    neither _ _ (not_true _ (and_left (not (is_ascii_digit b)) _ more)) (rw p refl)

name_and_number : (X : Type 0) (text : List ℕ) → is_name text ≡ true → is_number text ≡ true → X
name_and_number X text e f =
    let holds = name_begins text e in
    let apart = number_no_name text (number_begins text f) in
    absurd (cc)

name_and_sign : (X : Type 0) (text : List ℕ) → is_name text ≡ true → is_sign text ≡ true → X
name_and_sign X text e f = let holds = name_begins text e in let apart = sign_text_no_name text (sign_begins text f) in absurd (cc)

number_and_sign : (X : Type 0) (text : List ℕ) → is_number text ≡ true → is_sign text ≡ true → X
number_and_sign X text e f = let holds = number_begins text e in let apart = sign_text_no_number text (sign_begins text f) in absurd (cc)

both_numbers : (X : Type 0) (text : List ℕ) → (is_number text && is_integer text) ≡ true → (is_number text && not (is_integer text)) ≡ true → X
both_numbers X text e f =
    let holds = and_right (is_number text) _ e in
    let apart = not_true _ (and_right (is_number text) _ f) in
    absurd (cc)

pub one_kind : (text : List ℕ) (kind other : TokenKind) → is_token_of kind text ≡ true → is_token_of other text ≡ true → kind ≡ other
one_kind text Name Name e f = refl
one_kind text Name Integer e f = name_and_number _ text e (and_left _ _ f)
one_kind text Name Literal e f = name_and_number _ text e (and_left _ _ f)
one_kind text Name Sign e f = name_and_sign _ text e f
one_kind text Integer Name e f = name_and_number _ text f (and_left _ _ e)
one_kind text Integer Integer e f = refl
one_kind text Integer Literal e f = both_numbers _ text e f
one_kind text Integer Sign e f = number_and_sign _ text (and_left _ _ e) f
one_kind text Literal Name e f = name_and_number _ text f (and_left _ _ e)
one_kind text Literal Integer e f = both_numbers _ text f e
one_kind text Literal Literal e f = refl
one_kind text Literal Sign e f = number_and_sign _ text (and_left _ _ e) f
one_kind text Sign Name e f = name_and_sign _ text f e
one_kind text Sign Integer e f = number_and_sign _ text (and_left _ _ f) e
one_kind text Sign Literal e f = number_and_sign _ text (and_left _ _ f) e
one_kind text Sign Sign e f = refl

-- ---- how far a front of a text goes that is a token

all_words_front : (m : ℕ) (text : List ℕ) → m ≤ length text → list_all is_name_byte (take m text) ≡ true → m ≤ prefix_len is_name_byte text
all_words_front zero text l h = omega arith
all_words_front (suc m) [] l h = absurd (omega arith)
all_words_front (suc m) (b ∷ text) l h =
    let w : is_name_byte b ≡ true = and_left _ _ h in
    let more = all_words_front m text (omega arith) (and_right (is_name_byte b) _ h) in
    simp w (omega arith)

all_go_front : (before m : ℕ) (text : List ℕ) → m ≤ length text → all_go_on before (take m text) ≡ true → m ≤ number_len before text
all_go_front before zero text l h = omega arith
all_go_front before (suc m) [] l h = absurd (omega arith)
all_go_front before (suc m) (b ∷ text) l h =
    let w : goes_on before b ≡ true = and_left _ _ h in
    let more = all_go_front b m text (omega arith) (and_right (goes_on before b) _ h) in
    simp w (omega arith)

all_words : (text : List ℕ) → list_all is_name_byte (take (prefix_len is_name_byte text) text) ≡ true
all_words [] = refl
all_words (b ∷ text) = elim (cases_Bool (is_name_byte b)) [
  | inl w ↦ (let n : 1 + prefix_len is_name_byte text ≡ suc (prefix_len is_name_byte text) = omega arith in simp (w, n) (all_words text))
  | inr w ↦ simp w refl
]

all_go : (before : ℕ) (text : List ℕ) → all_go_on before (take (number_len before text) text) ≡ true
all_go before [] = refl
all_go before (b ∷ text) = elim (cases_Bool (goes_on before b)) [
  | inl w ↦ simp w (all_go b text)
  | inr w ↦ simp w refl
]

-- a digit goes on with a number, and so does a point
digit_word : (n d : Bool) → d ≡ true → (n || d) ≡ true
digit_word true d h = refl
digit_word false d h = h

digit_goes : (before b : ℕ) → is_ascii_digit b ≡ true → goes_on before b ≡ true
digit_goes before b h =
    let w : is_name_byte b ≡ true = digit_word (begins_name b) _ h in
    rw w refl

point_goes : (w p q : Bool) → p ≡ true → ((w || p) || q) ≡ true
point_goes true p q h = refl
point_goes false true q h = refl
point_goes false false q h = absurd (cc)

digit_or_point : (b : ℕ) (d : Bool) → (is_ascii_digit b || (b == 46 && d)) ≡ true → goes_on 0 b ≡ true
digit_or_point b d h = elim (either (is_ascii_digit b) (b == 46 && d) h) [
  | inl e ↦ digit_goes 0 b e
  | inr p ↦ point_goes (is_name_byte b) (b == 46) _ (and_left (b == 46) d p)
]

begins_goes : (text : List ℕ) → begins_number text ≡ true → goes_on 0 (slice_index text 0) ≡ true
begins_goes text h = digit_or_point (slice_index text 0) (is_ascii_digit (slice_index text 1)) h

-- ---- the fronts that are tokens, by kind: what the text begins with, and how far they go

pub record Front (test : Bool) (cut m : ℕ) : Type 0 where
  pub begins : test ≡ true
  pub within : m ≤ cut

pub name_front : (m : ℕ) (text : List ℕ) → m ≤ length text → is_name (take m text) ≡ true → Front (begins_name (slice_index text 0)) (prefix_len is_name_byte text) m
name_front zero text l h = absurd (cc)
name_front (suc m) [] l h = absurd (cc)
name_front (suc m) (b ∷ text) l h =
    let n : begins_name b ≡ true = and_left _ _ h in
    let w : is_name_byte b ≡ true = begins_word b n in
    let more = all_words_front m text (omega arith) (and_right (begins_name b) _ h) in
    record { begins = n; within = simp w (omega arith) }

begins_front : (m b : ℕ) (text : List ℕ) → begins_number (b ∷ take m text) ≡ true → begins_number (b ∷ text) ≡ true
begins_front zero b text h = elim (either (is_ascii_digit b) (b == 46 && false) h) [
  | inl d ↦ rw d refl
  | inr p ↦ absurd (let e = and_right (b == 46) false p in cc)
]
begins_front (suc m) b [] h = h
begins_front (suc m) b (c ∷ text) h = h

pub number_front : (m : ℕ) (text : List ℕ) → m ≤ length text → is_number (take m text) ≡ true → Front (begins_number text) (number_len 0 text) m
number_front zero text l h = absurd (cc)
number_front (suc m) [] l h = absurd (cc)
number_front (suc m) (b ∷ text) l h =
    let n : begins_number (b ∷ text) ≡ true = begins_front m b text (and_left _ _ h) in
    let w : goes_on 0 b ≡ true = begins_goes (b ∷ text) n in
    let more = all_go_front b m text (omega arith) (and_right (begins_number (b ∷ take m text)) _ h) in
    record { begins = n; within = simp w (omega arith) }

sign_goes : (m : ℕ) (text : List ℕ) → m ≤ length text → is_short (take m text) ≡ true → m ≤ sign_len text
sign_goes zero text l h = omega arith
sign_goes (suc m) [] l h = absurd (omega arith)
sign_goes (suc zero) (b ∷ text) l h = elim (cases_Bool (is_pair b (slice_index (b ∷ text) 1))) [
  | inl p ↦ simp p (omega arith)
  | inr p ↦ simp (p, h) (omega arith)
]
sign_goes (suc (suc m)) (b ∷ []) l h = absurd (omega arith)
sign_goes (suc (suc zero)) (b ∷ c ∷ text) l h = let p : is_pair b c ≡ true = h in simp p (omega arith)
sign_goes (suc (suc (suc m))) (b ∷ c ∷ []) l h = absurd (omega arith)
sign_goes (suc (suc (suc m))) (b ∷ c ∷ d ∷ text) l h = absurd (cc)

pub sign_front : (m : ℕ) (text : List ℕ) → m ≤ length text → is_sign (take m text) ≡ true → m ≤ sign_len text
sign_front m text l h = sign_goes m text l (sign_is_short (take m text) h)

pub sign_first : (m : ℕ) (text : List ℕ) → is_sign (take m text) ≡ true → (1 ≤ m) × (begins_no_other text ≡ true)
sign_first zero text h = absurd (let e = sign_is_short [] h in cc)
sign_first (suc m) [] h = absurd (let e = sign_is_short [] h in cc)
sign_first (suc m) (b ∷ text) h = (omega arith, sign_begins (b ∷ take m text) h)

-- ---- what is cut is a token

pub name_token : (text : List ℕ) → begins_name (slice_index text 0) ≡ true → is_name (take (prefix_len is_name_byte text) text) ≡ true
name_token [] h = absurd (cc)
name_token (b ∷ text) h =
    let w : is_name_byte b ≡ true = begins_word b h in
    let n : 1 + prefix_len is_name_byte text ≡ suc (prefix_len is_name_byte text) = omega arith in
    simp (w, n) (both _ _ h (all_words text))

begins_short : (b c : ℕ) → goes_on b c ≡ false → (is_ascii_digit b || (b == 46 && is_ascii_digit c)) ≡ true → begins_number (b ∷ []) ≡ true
begins_short b c w h = elim (either (is_ascii_digit b) (b == 46 && is_ascii_digit c) h) [
  | inl d ↦ rw d refl
  | inr p ↦ absurd (let g = digit_goes b c (and_right (b == 46) _ p) in cc)
]

kept_begins : (b : ℕ) (text : List ℕ) → begins_number (b ∷ text) ≡ true → begins_number (b ∷ take (number_len b text) text) ≡ true
kept_begins b [] h = h
kept_begins b (c ∷ text) h = elim (cases_Bool (goes_on b c)) [
  | inl w ↦ simp w h
  | inr w ↦ simp w (begins_short b c w h)
]

pub number_token : (text : List ℕ) → begins_number text ≡ true → is_number (take (number_len 0 text) text) ≡ true
number_token [] h = absurd (cc)
number_token (b ∷ text) h =
    let w : goes_on 0 b ≡ true = begins_goes (b ∷ text) h in
    simp w (both _ _ (kept_begins b text h) (all_go b text))

pub number_within : (before : ℕ) (text : List ℕ) → number_len before text ≤ length text
number_within before [] = omega arith
number_within before (b ∷ text) = elim (cases_Bool (goes_on before b)) [
  | inl w ↦ (let more = number_within b text in simp w (omega arith))
  | inr w ↦ simp w (omega arith)
]

no_pair : (b : ℕ) → is_pair b 0 ≡ false
no_pair b = refuted _ (λ h. elim (either (0 == 61 && is_one_of b (codes "+-*/%<>=!")) (0 == b && is_one_of b (codes "+-&|")) h) [
  | inl p ↦ p
  | inr p ↦
      let e : 0 ≡ b = eqb-true 0 b (and_left (0 == b) _ p) in
      let f = and_right (0 == b) _ p in
      rw (← e) at f
])

pub record SignCut (text : List ℕ) (n : ℕ) : Type 0 where
  pub within : n ≤ length text
  pub token : is_sign (take n text) ≡ true

pub sign_token : (text : List ℕ) (n : ℕ) → sign_len text ≡ suc n → SignCut text (suc n)
sign_token [] n e = absurd (cc)
sign_token (b ∷ []) n e = elim (cases_Bool (is_single b)) [
  | inl s ↦
      let f : 1 ≡ suc n = (simp (no_pair b, s) at e) in
      subst (λ k. SignCut (b ∷ []) k) f (record { within = omega arith; token = single_is_sign b s })
  | inr s ↦ absurd (let f : 0 ≡ suc n = (simp (no_pair b, s) at e) in omega arith)
]
sign_token (b ∷ c ∷ text) n e = elim (cases_Bool (is_pair b c)) [
  | inl p ↦
      let f : 2 ≡ suc n = (simp p at e) in
      subst (λ k. SignCut (b ∷ c ∷ text) k) f (record { within = omega arith; token = pair_is_sign b c p })
  | inr p ↦ elim (cases_Bool (is_single b)) [
    | inl s ↦
        let f : 1 ≡ suc n = (simp (p, s) at e) in
        subst (λ k. SignCut (b ∷ c ∷ text) k) f (record { within = omega arith; token = single_is_sign b s })
    | inr s ↦ absurd (let f : 0 ≡ suc n = (simp (p, s) at e) in omega arith)
  ]
]
