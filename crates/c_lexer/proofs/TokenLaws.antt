-- What is cut is the longest token, and where none is cut there is none.
use Rattle.std.proofs.Common.{◌≡◌, ◌↔◌, ℕ, zero, suc, ◌≤◌, ◌==◌, ◌⊎◌, inl, inr, true, false, not, ◌&&◌, List, length, take, Option, Some, None, refl, ap, sym, subst, ◌∙◌, arith}
use Rattle.std.proofs.lemmas.Bool.{cases_Bool, eqb-true, ltb-true, ltb-false}
use Rattle.std.proofs.lemmas.List.Sums.{prefix_len-le-length}
use Rattle.std.specs.Prelude.{slice_index, nat_lt}
use Rattle.std.specs.Char.{is_ascii_digit}
use Rattle.std.specs.List.{prefix_len}
use Rattle.c_lexer.specs.declared.tokens.TokenKind.{TokenKind}
use Rattle.c_lexer.specs.declared.tokens.TokenKind.TheVariants.{Name, Integer, Literal, Sign}
use Rattle.suite_base.specs.Bytes.{begins_name, is_name_byte}
use Rattle.c_lexer.specs.Tokens.{begins_number, number_len, is_integer, number_kind, sign_len, sign_of, opens_comment, token_at}
use Rattle.c_lexer.specs.TokenForms.{is_name, is_number, is_sign, is_token_of, IsLongest, HasNoToken}
use Rattle.c_lexer.proofs.TokenForms.{and_left, either, refuted, in_range, low_no_name, number_no_name, name_front, number_front, sign_front, sign_first, sign_token, name_token, number_token, number_within, one_kind, sign_text_no_name, sign_text_no_number}

-- ---- where no comment opens

name_no_comment : (text : List ℕ) → begins_name (slice_index text 0) ≡ true → opens_comment text ≡ false
name_no_comment text h =
    refuted _ (λ e.
    let f : slice_index text 0 ≡ 47 = eqb-true _ 47 (and_left (slice_index text 0 == 47) _ e) in
    let g = low_no_name (slice_index text 0) (omega arith) in
    cc)

number_no_comment : (text : List ℕ) → begins_number text ≡ true → opens_comment text ≡ false
number_no_comment text h =
    refuted _ (λ e.
    let f : slice_index text 0 ≡ 47 = eqb-true _ 47 (and_left (slice_index text 0 == 47) _ e) in
    elim (either (is_ascii_digit (slice_index text 0)) (slice_index text 0 == 46 && is_ascii_digit (slice_index text 1)) h) [
      | inl d ↦ (let r = (in_range 48 57 (slice_index text 0) d).0 in absurd (omega arith))
      | inr p ↦ (let q : slice_index text 0 ≡ 46 = eqb-true _ 46 (and_left (slice_index text 0 == 46) _ p) in absurd (omega arith))
    ])

-- ---- what is cut, by what the text begins with

cut_name : (text : List ℕ) → begins_name (slice_index text 0) ≡ true → token_at text ≡ Some (Name, prefix_len is_name_byte text)
cut_name text h = simp h refl

cut_number : (text : List ℕ) → begins_number text ≡ true → token_at text ≡ Some (number_kind (take (number_len 0 text) text), number_len 0 text)
cut_number text h = let n = number_no_name text h in simp (n, h) refl

cut_sign : (text : List ℕ) → begins_name (slice_index text 0) ≡ false → begins_number text ≡ false → opens_comment text ≡ false → token_at text ≡ sign_of (sign_len text)
cut_sign text n m o = simp (n, m, o) refl

cut_comment : (text : List ℕ) → begins_name (slice_index text 0) ≡ false → begins_number text ≡ false → opens_comment text ≡ true → token_at text ≡ None
cut_comment text n m o = simp (n, m, o) refl

-- ---- a token is cut, and it is as long as any front that is one

pub record Reaches (cut : Option (TokenKind × ℕ)) (m : ℕ) : Type 0 where
  pub token : TokenKind × ℕ
  pub is : cut ≡ Some token
  pub far : m ≤ token.1

reaches_name : (m : ℕ) (text : List ℕ) → m ≤ length text → is_name (take m text) ≡ true → Reaches (token_at text) m
reaches_name m text l h =
    let f = name_front m text l h in
    record { token = (Name, prefix_len is_name_byte text); is = cut_name text f.begins; far = f.within }

reaches_number : (m : ℕ) (text : List ℕ) → m ≤ length text → is_number (take m text) ≡ true → Reaches (token_at text) m
reaches_number m text l h =
    let f = number_front m text l h in
    record { token = (number_kind (take (number_len 0 text) text), number_len 0 text); is = cut_number text f.begins; far = f.within }

reaches_some : (m n : ℕ) → 1 ≤ m → m ≤ n → Reaches (sign_of n) m
reaches_some m zero h k = absurd (omega arith)
reaches_some m (suc n) h k = record { token = (Sign, suc n); is = refl; far = k }

reaches_sign : (m : ℕ) (text : List ℕ) → m ≤ length text → opens_comment text ≡ false → is_sign (take m text) ≡ true → Reaches (token_at text) m
reaches_sign m text l o h =
    let first = sign_first m text h in
    let e = cut_sign text (sign_text_no_name text first.1) (sign_text_no_number text first.1) o in
    rw e (reaches_some m (sign_len text) first.0 (sign_front m text l h))

reaches : (kind : TokenKind) (m : ℕ) (text : List ℕ) → m ≤ length text → opens_comment text ≡ false → is_token_of kind (take m text) ≡ true → Reaches (token_at text) m
reaches Name m text l o h = reaches_name m text l h
reaches Integer m text l o h = reaches_number m text l (and_left _ (is_integer (take m text)) h)
reaches Literal m text l o h = reaches_number m text l (and_left _ (not (is_integer (take m text))) h)
reaches Sign m text l o h = reaches_sign m text l o h

-- ---- what is cut is a token

record IsCut (text : List ℕ) (token : TokenKind × ℕ) : Type 0 where
  within : token.1 ≤ length text
  form : is_token_of token.0 (take token.1 text) ≡ true
  plain : opens_comment text ≡ false

kind_form : (bytes : List ℕ) → is_number bytes ≡ true → is_token_of (number_kind bytes) bytes ≡ true
kind_form bytes h = elim (cases_Bool (is_integer bytes)) [
  | inl i ↦ simp (i, h) refl
  | inr i ↦ simp (i, h) refl
]

same_cut : (text : List ℕ) (a b : TokenKind × ℕ) → Some a ≡ Some b → IsCut text a → IsCut text b
same_cut text a b e h = let f : a ≡ b = cc in subst (λ t. IsCut text t) f h

sign_cut : (text : List ℕ) (t : TokenKind × ℕ) (n : ℕ) → opens_comment text ≡ false → sign_len text ≡ n → sign_of n ≡ Some t → IsCut text t
sign_cut text t zero o k e = absurd (cc)
sign_cut text t (suc n) o k e =
    let s = sign_token text n k in
    same_cut text (Sign, suc n) t e (record { within = s.within; form = s.token; plain = o })

cut_is_token : (text : List ℕ) (t : TokenKind × ℕ) → token_at text ≡ Some t → IsCut text t
cut_is_token text t e = elim (cases_Bool (begins_name (slice_index text 0))) [
  | inl n ↦
      same_cut text (Name, prefix_len is_name_byte text) t (sym (cut_name text n) ∙ e)
      (record { within = prefix_len-le-length is_name_byte text; form = name_token text n; plain = name_no_comment text n })
  | inr n ↦ elim (cases_Bool (begins_number text)) [
    | inl m ↦
        same_cut text (number_kind (take (number_len 0 text) text), number_len 0 text) t (sym (cut_number text m) ∙ e)
        (record { within = number_within 0 text; form = kind_form (take (number_len 0 text) text) (number_token text m); plain = number_no_comment text m })
    | inr m ↦ elim (cases_Bool (opens_comment text)) [
      | inl o ↦ absurd (let f : None ≡ Some t = sym (cut_comment text n m o) ∙ e in cc)
      | inr o ↦ sign_cut text t (sign_len text) o refl (sym (cut_sign text n m o) ∙ e)
    ]
  ]
]

-- ---- the laws

longest_of : (text : List ℕ) (kind : TokenKind) (n : ℕ) → token_at text ≡ Some (kind, n) → (opens_comment text ≡ false) × IsLongest text kind n
longest_of text kind n e =
    let c = cut_is_token text (kind, n) e in (
      c.plain,
      record {
        within = c.within;
        token = c.form;
        longest = λ other m l k.
            refuted _ (λ h.
            let r = reaches other m text k c.plain h in
            let s : Some (kind, n) ≡ Some r.token = sym e ∙ r.is in
            let t : (kind, n) ≡ r.token = cc in
            let u : n ≡ r.token.1 = ap (λ x. x.1) t in
            absurd (let f = r.far in omega arith));
      },
    )

same_length : (text : List ℕ) (kind other : TokenKind) (n m : ℕ) → IsLongest text kind n → IsLongest text other m → m ≤ n
same_length text kind other n m a b = elim (cases_Bool (nat_lt n m)) [
  | inl l ↦ absurd (let f = a.longest other m (ltb-true n m l) b.within in let g = b.token in cc)
  | inr l ↦ ltb-false n m l
]

same_token : (text : List ℕ) (kind : TokenKind) (n : ℕ) (t : TokenKind × ℕ) → IsLongest text kind n → IsLongest text t.0 t.1 → t ≡ (kind, n)
same_token text kind n (other, m) a b =
    let p = same_length text kind other n m a b in
    let q = same_length text other kind m n b a in
    let e : m ≡ n = omega arith in
    let f : other ≡ kind = one_kind (take n text) other kind (rw e at b.token) a.token in
    ap (λ x. (x, m)) f ∙ ap (λ x. (kind, x)) e

cut_of_longest : (text : List ℕ) (kind : TokenKind) (n : ℕ) → (opens_comment text ≡ false) × IsLongest text kind n → token_at text ≡ Some (kind, n)
cut_of_longest text kind n (o, a) =
    let r = reaches kind n text a.within o a.token in
    r.is ∙ ap Some (same_token text kind n r.token a (longest_of text r.token.0 r.token.1 r.is).1)

pub tokens_longest : (text : List ℕ) (kind : TokenKind) (n : ℕ) → (token_at text ≡ Some (kind, n)) ↔ ((opens_comment text ≡ false) × IsLongest text kind n)
tokens_longest text kind n = (longest_of text kind n, cut_of_longest text kind n)

none_missed : (text : List ℕ) → token_at text ≡ None → (opens_comment text ≡ true) ⊎ HasNoToken text
none_missed text e = elim (cases_Bool (opens_comment text)) [
  | inl o ↦ inl o
  | inr o ↦
      inr (λ kind m l.
      refuted _ (λ h.
      let r = reaches kind m text l o h in
      let f : None ≡ Some r.token = sym e ∙ r.is in
      absurd (cc)))
]

none_of : (text : List ℕ) (x : Option (TokenKind × ℕ)) → token_at text ≡ x → (opens_comment text ≡ true) ⊎ HasNoToken text → x ≡ None
none_of text None e h = refl
none_of text (Some t) e h =
    let c = cut_is_token text t e in
    elim h [
      | inl o ↦ absurd (let p = c.plain in cc)
      | inr f ↦ absurd (let p = f t.0 t.1 c.within in let q = c.form in cc)
    ]

pub no_token_missed : (text : List ℕ) → (token_at text ≡ None) ↔ ((opens_comment text ≡ true) ⊎ HasNoToken text)
no_token_missed text = (none_missed text, none_of text (token_at text) refl)
