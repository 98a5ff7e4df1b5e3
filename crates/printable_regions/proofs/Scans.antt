-- A text of tokens, with one space for each gap, has no `#`.
use Rattle.std.proofs.Common.{◌≡◌, ◌⊎◌, inl, inr, ℕ, zero, suc, ◌+◌, ◌-◌, ◌≤◌, ◌==◌, Bool, true, false, ◌&&◌, not, if◌then◌else◌, List, [], ◌∷◌, length, take, drop, Option, Some, None, refl, sym, ◌∙◌, ap, subst, arith, length-drop}
use Rattle.std.proofs.lemmas.Bool.{cases_Bool, eqb-true}
use Rattle.std.proofs.lemmas.List.{drop-take}
use Rattle.std.proofs.Math.Seq.{drop-nil}
use Rattle.std.proofs.lemmas.List.Sums.{prefix_len-le-length}
use Rattle.std.specs.Prelude.{slice_index}
use Rattle.std.specs.List.{prefix_len}
use Rattle.c_lexer.specs.Tokens.{is_space, one_more, past_close, comment_len, opens_line_comment, opens_comment, separator_len, gap}
use Rattle.c_lexer.proofs.TokenLemmas.{gap_stops, gap_goes}
use Rattle.printable_regions.proofs.Bytes.{and_first, and_second}

-- ---- lists

pub at_number : {X : Type 0} (j k : ℕ) (xs : List X) → j ≡ k → drop j xs ≡ drop k xs
at_number j k xs e = ap (λ n. drop n xs) e

pub to_number : {X : Type 0} (j k : ℕ) (xs : List X) → j ≡ k → take j xs ≡ take k xs
to_number j k xs e = ap (λ n. take n xs) e

pub dropped : {X : Type 0} (j k : ℕ) (xs : List X) → drop k (drop j xs) ≡ drop (j + k) xs
dropped zero k xs = at_number k (0 + k) xs (omega arith)
dropped (suc j) k [] = (drop-nil k ∙ sym (drop-nil (suc j + k)))
dropped (suc j) k (x ∷ xs) = dropped j k xs ∙ at_number (suc (j + k)) (suc j + k) (x ∷ xs) (omega arith)

pub taken : {X : Type 0} (j m : ℕ) (xs : List X) → j ≤ m → take j (take m xs) ≡ take j xs
taken zero m xs h = refl
taken (suc j) zero xs h = absurd (omega arith)
taken (suc j) (suc m) [] h = refl
taken (suc j) (suc m) (x ∷ xs) h = ap (λ ys. x ∷ ys) (taken j m xs (omega arith))

pub drop_take : {X : Type 0} (j k m : ℕ) (xs : List X) → m ≡ j + k → drop j (take m xs) ≡ take k (drop j xs)
drop_take j k m xs e = ap (λ n. drop j (take n xs)) e ∙ drop-take j k xs

-- ---- a front of a text has the separators that lie in it

pub front_prefix : (p : ℕ → Bool) (m : ℕ) (text : List ℕ) → prefix_len p text ≤ m → prefix_len p (take m text) ≡ prefix_len p text
front_prefix p zero [] h = refl
front_prefix p (suc m) [] h = refl
front_prefix p zero (b ∷ text) h = elim (cases_Bool (p b)) [
  | inl t ↦ absurd (let k : 1 + prefix_len p text ≤ 0 = simp t at h in omega arith)
  | inr f ↦ simp f refl
]
front_prefix p (suc m) (b ∷ text) h = elim (cases_Bool (p b)) [
  | inl t ↦ (let k : 1 + prefix_len p text ≤ suc m = simp t at h in simp t (ap (λ n. 1 + n) (front_prefix p m text (omega arith))))
  | inr f ↦ simp f refl
]

-- the end of a comment that lies in the front
abbrev Fits : ℕ → Option ℕ → Type 0
Fits m None = Unit {0}
Fits m (Some n) = n ≤ m

same_first : (m : ℕ) (text : List ℕ) → slice_index (take (suc m) text) 0 ≡ slice_index text 0
same_first m [] = refl
same_first m (b ∷ text) = refl

same_second : (m : ℕ) (text : List ℕ) → slice_index (take (suc (suc m)) text) 1 ≡ slice_index text 1
same_second m [] = refl
same_second m (b ∷ []) = refl
same_second m (b ∷ c ∷ text) = refl

closes : ℕ → List ℕ → Bool
closes b text = b == 42 && slice_index text 0 == 47

fewer : (m : ℕ) (x : Option ℕ) → Fits (suc m) (one_more x) → Fits m x
fewer m None f = tt
fewer m (Some n) f = omega (arith, f)

never_closes : (b : ℕ) → (b == 42 && 0 == 47) ≡ false
never_closes b = elim (cases_Bool (b == 42)) [ inl t ↦ simp t refl | inr f ↦ simp f refl ]

close_here : (m b : ℕ) (text : List ℕ) (x : Option ℕ) → past_close (b ∷ text) ≡ x → Fits (suc m) x
    → ((y : Option ℕ) → past_close text ≡ y → Fits m y → past_close (take m text) ≡ y) → past_close (b ∷ take m text) ≡ x
close_here m b text x e f more = elim (cases_Bool (b == 42 && slice_index text 0 == 47)) [
  | inl t ↦ (let k : Some 2 ≡ x = simp t at e in by_true m t k (subst (Fits (suc m)) (sym k) f))
  | inr t ↦ (let k : one_more (past_close text) ≡ x = simp t at e in
      let i : past_close (take m text) ≡ past_close text = more (past_close text) refl (fewer m (past_close text) (subst (Fits (suc m)) (sym k) f)) in
      let u : (b == 42 && slice_index (take m text) 0 == 47) ≡ false = still m t in
      simp u (ap one_more i ∙ k))
]
  where
    by_true : (m : ℕ) → (b == 42 && slice_index text 0 == 47) ≡ true → Some 2 ≡ x → 2 ≤ suc m → past_close (b ∷ take m text) ≡ x
    by_true zero t k g = absurd (omega arith)
    by_true (suc m) t k g = let u : (b == 42 && slice_index (take (suc m) text) 0 == 47) ≡ true = rw (same_first m text) t in simp u k

    still : (m : ℕ) → (b == 42 && slice_index text 0 == 47) ≡ false → (b == 42 && slice_index (take m text) 0 == 47) ≡ false
    still zero t = never_closes b
    still (suc m) t = rw (same_first m text) t

pub some_is : {A : Type 0} {a b : A} → Some a ≡ Some b → a ≡ b
some_is {a = a} e = ap (λ o. elim o [ None ↦ a | Some x ↦ x ]) e

two_at_least : (n : ℕ) (x : Option ℕ) → one_more x ≡ Some n → ((j : ℕ) → x ≡ Some j → 2 ≤ j) → 2 ≤ n
two_at_least n None k f = absurd (cc)
two_at_least n (Some j) k f = let i = f j refl in omega (arith, i, some_is k)

past_two : (text : List ℕ) (n : ℕ) → past_close text ≡ Some n → 2 ≤ n
past_two [] n e = absurd (cc)
past_two (b ∷ text) n e = elim (cases_Bool (b == 42 && slice_index text 0 == 47)) [
  | inl t ↦ (let k : Some 2 ≡ Some n = simp t at e in omega (arith, some_is k))
  | inr t ↦ (let k : one_more (past_close text) ≡ Some n = simp t at e in two_at_least n (past_close text) k (λ j p. past_two text j p))
]

pub front_close : (m : ℕ) (text : List ℕ) (x : Option ℕ) → past_close text ≡ x → Fits m x → past_close (take m text) ≡ x
front_close zero [] x e f = e
front_close (suc m) [] x e f = e
front_close zero (b ∷ text) None e f = refl
front_close zero (b ∷ text) (Some n) e f = absurd (let k = past_two (b ∷ text) n e in omega (arith, k, f))
front_close (suc m) (b ∷ text) x e f = close_here m b text x e f (λ y p q. front_close m text y p q)

-- ---- separators

abbrev starts : List ℕ → List ℕ → Type 0
starts short text = (slice_index short 0 ≡ slice_index text 0) × (slice_index short 1 ≡ slice_index text 1)

by_comment : (m : ℕ) (text : List ℕ) (x : Option ℕ) → past_close (drop 2 text) ≡ x → comment_len x ≤ suc (suc m)
    → comment_len (past_close (drop 2 (take (suc (suc m)) text))) ≡ comment_len x
by_comment m text x e f =
    let d : drop 2 (take (suc (suc m)) text) ≡ take m (drop 2 text) = drop_take 2 m (suc (suc m)) text (omega arith) in
    ap (λ t. comment_len (past_close t)) d ∙ ap comment_len (front_close m (drop 2 text) x e (fits x f))
  where
    fits : (x : Option ℕ) → comment_len x ≤ suc (suc m) → Fits m x
    fits None g = tt
    fits (Some n) g = omega arith

line_same : (m : ℕ) (text : List ℕ) → opens_line_comment (take (suc (suc m)) text) ≡ opens_line_comment text
line_same m text =
    ap (λ a. a == 47 && slice_index (take (suc (suc m)) text) 1 == 47) (same_first (suc m) text)
    ∙ ap (λ b. slice_index text 0 == 47 && b == 47) (same_second m text)

comment_same : (m : ℕ) (text : List ℕ) → opens_comment (take (suc (suc m)) text) ≡ opens_comment text
comment_same m text =
    ap (λ a. a == 47 && slice_index (take (suc (suc m)) text) 1 == 42) (same_first (suc m) text)
    ∙ ap (λ b. slice_index text 0 == 47 && b == 42) (same_second m text)

-- a separator by what begins it
abbrev by_tests : Bool → Bool → Bool → ℕ → ℕ → ℕ → ℕ
by_tests space line comment p q r = if space then p else (if line then q else (if comment then r else 0))

same_by : (m : ℕ) (s l c s' l' c' : Bool) (p q r p' q' r' : ℕ) → s' ≡ s → l' ≡ l → c' ≡ c → (p ≤ m → p' ≡ p) → (q ≤ m → q' ≡ q) → (r ≤ m → r' ≡ r)
    → by_tests s l c p q r ≤ m → by_tests s' l' c' p' q' r' ≡ by_tests s l c p q r
same_by m true l c s' l' c' p q r p' q' r' e f g ep eq er h = rw e (ep h)
same_by m false true c s' l' c' p q r p' q' r' e f g ep eq er h = rw (e, f) (eq h)
same_by m false false true s' l' c' p q r p' q' r' e f g ep eq er h = rw (e, f, g) (er h)
same_by m false false false s' l' c' p q r p' q' r' e f g ep eq er h = rw (e, f, g) refl

-- at one byte
slashes : (text : List ℕ) → slice_index text 0 ≡ 47 → 2 ≤ prefix_len (λ b. not (b == 10)) (47 ∷ text)
slashes [] e = absurd (cc)
slashes (c ∷ text) e = rw e (omega arith)

line_long : (b : ℕ) (text : List ℕ) → opens_line_comment (b ∷ text) ≡ true → 2 ≤ prefix_len (λ b. not (b == 10)) (b ∷ text)
line_long b text t =
    let e : b ≡ 47 = eqb-true b 47 (and_first (b == 47) (slice_index text 0 == 47) t) in
    rw e (slashes text (eqb-true _ 47 (and_second (b == 47) (slice_index text 0 == 47) t)))

alone_line : (b : ℕ) → (b == 47 && 0 == 47) ≡ false
alone_line b = elim (cases_Bool (b == 47)) [ inl t ↦ simp t refl | inr f ↦ simp f refl ]

alone_comment : (b : ℕ) → (b == 47 && 0 == 42) ≡ false
alone_comment b = elim (cases_Bool (b == 47)) [ inl t ↦ simp t refl | inr f ↦ simp f refl ]

no_comment : (x : Option ℕ) → comment_len x ≤ 1 → 0 ≡ comment_len x
no_comment None h = refl
no_comment (Some n) h = absurd (omega arith)

one_alone : (b : ℕ) → is_space b ≡ false → separator_len (b ∷ []) ≡ 0
one_alone b s = simp (s, alone_line b) refl

front_one : (b : ℕ) (text : List ℕ) → separator_len (b ∷ text) ≤ 1 → separator_len (b ∷ []) ≡ separator_len (b ∷ text)
front_one b text h = elim (cases_Bool (is_space b)) [
  | inl s ↦ (let k : 1 + prefix_len is_space text ≤ 1 = simp s at h in simp s (omega (arith, k)))
  | inr s ↦ one_alone b s ∙ elim (cases_Bool (opens_line_comment (b ∷ text))) [
    | inl l ↦ absurd (let k : prefix_len (λ b. not (b == 10)) (b ∷ text) ≤ 1 = simp (s, l) at h in omega (arith, k, line_long b text l))
    | inr l ↦ elim (cases_Bool (opens_comment (b ∷ text))) [
      | inl c ↦ (let k : comment_len (past_close (drop 2 (b ∷ text))) ≤ 1 = simp (s, l, c) at h in simp (s, l, c) (no_comment _ k))
      | inr c ↦ simp (s, l, c) refl
    ]
  ]
]

pub front_separator : (m : ℕ) (text : List ℕ) → separator_len text ≤ m → separator_len (take m text) ≡ separator_len text
front_separator zero text h = omega arith
front_separator (suc m) [] h = refl
front_separator (suc zero) (b ∷ text) h = front_one b text h
front_separator (suc (suc m)) (b ∷ text) h =
    same_by (suc (suc m)) (is_space b) (opens_line_comment (b ∷ text)) (opens_comment (b ∷ text)) (is_space b)
    (opens_line_comment (take (suc (suc m)) (b ∷ text))) (opens_comment (take (suc (suc m)) (b ∷ text))) _ _ _ _ _ _
    refl (line_same m (b ∷ text)) (comment_same m (b ∷ text)) (front_prefix is_space (suc (suc m)) (b ∷ text))
    (front_prefix (λ b. not (b == 10)) (suc (suc m)) (b ∷ text)) (by_comment m (b ∷ text) (past_close (drop 2 (b ∷ text))) refl) h

-- ---- gaps

pub zero_or_more : (n : ℕ) → (n ≡ 0) ⊎ (1 ≤ n)
zero_or_more zero = inl refl
zero_or_more (suc n) = inr (omega arith)

-- a separator lies in the text
close_within : (text : List ℕ) (n : ℕ) → past_close text ≡ Some n → n ≤ length text
close_within [] n e = absurd (cc)
close_within (b ∷ text) n e = elim (cases_Bool (b == 42 && slice_index text 0 == 47)) [
  | inl t ↦ (let k : Some 2 ≡ Some n = simp t at e in omega (arith, some_is k, some_byte text (and_second (b == 42) (slice_index text 0 == 47) t)))
  | inr t ↦ (let k : one_more (past_close text) ≡ Some n = simp t at e in one_longer n (past_close text) k (λ j p. close_within text j p))
]
  where
    some_byte : (text : List ℕ) → (slice_index text 0 == 47) ≡ true → 1 ≤ length text
    some_byte [] t = absurd (cc)
    some_byte (c ∷ text) t = omega arith

    one_longer : (n : ℕ) (x : Option ℕ) → one_more x ≡ Some n → ((j : ℕ) → x ≡ Some j → j ≤ length text) → n ≤ suc (length text)
    one_longer n None k f = absurd (cc)
    one_longer n (Some j) k f = let i = f j refl in omega (arith, i, some_is k)

comment_within : (text : List ℕ) (x : Option ℕ) → past_close (drop 2 text) ≡ x → opens_comment text ≡ true → comment_len x ≤ length text
comment_within text None e c = omega arith
comment_within [] (Some n) e c = absurd (cc)
comment_within (b ∷ []) (Some n) e c = absurd (let k : (b == 47 && 0 == 42) ≡ true = c in let q : false ≡ true = sym (alone_comment b) ∙ k in cc)
comment_within (b ∷ d ∷ text) (Some n) e c = let k = close_within text n e in omega (arith, k)

pub separator_within : (text : List ℕ) → separator_len text ≤ length text
separator_within text = elim (cases_Bool (is_space (slice_index text 0))) [
  | inl s ↦ rw s (prefix_len-le-length is_space text)
  | inr s ↦ elim (cases_Bool (opens_line_comment text)) [
    | inl l ↦ rw (s, l) (prefix_len-le-length (λ b. not (b == 10)) text)
    | inr l ↦ elim (cases_Bool (opens_comment text)) [
      | inl c ↦ rw (s, l, c) (comment_within text (past_close (drop 2 text)) refl c)
      | inr c ↦ rw (s, l, c) (omega arith)
    ]
  ]
]

-- the gap of a front in which it lies
pub gap_front : (k m : ℕ) (text : List ℕ) → length text ≤ k → gap text ≤ m → gap (take m text) ≡ gap text
gap_front k zero [] l h = refl
gap_front k (suc m) [] l h = refl
gap_front zero m (b ∷ text) l h = absurd (omega arith)
gap_front (suc k) m (b ∷ text) l h = elim (zero_or_more (separator_len (b ∷ text))) [
  | inl z ↦ (
      let f : separator_len (take m (b ∷ text)) ≡ 0 = front_separator m (b ∷ text) (omega (arith, z)) ∙ z in
      gap_stops (take m (b ∷ text)) f ∙ sym (gap_stops (b ∷ text) z))
  | inr p ↦ (
      let n : ℕ = separator_len (b ∷ text) in
      let w : n ≤ length (b ∷ text) = separator_within (b ∷ text) in
      let e : gap (b ∷ text) ≡ n + gap (drop n (b ∷ text)) = gap_goes (b ∷ text) n refl p w in
      let f : separator_len (take m (b ∷ text)) ≡ n = front_separator m (b ∷ text) (omega (arith, e, h)) in
      let v : n ≤ length (take m (b ∷ text)) = subst (λ j. j ≤ length (take m (b ∷ text))) f (separator_within (take m (b ∷ text))) in
      let g : gap (take m (b ∷ text)) ≡ n + gap (drop n (take m (b ∷ text))) = gap_goes (take m (b ∷ text)) n (sym f) p v in
      let d : drop n (take m (b ∷ text)) ≡ take (m - n) (drop n (b ∷ text)) = drop_take n (m - n) m (b ∷ text) (omega (arith, e, h)) in
      let i : gap (take (m - n) (drop n (b ∷ text))) ≡ gap (drop n (b ∷ text)) =
      gap_front k (m - n) (drop n (b ∷ text)) (omega (arith, length-drop n (b ∷ text), p, l)) (omega (arith, e, h)) in
      g ∙ ap (λ t. n + gap t) d ∙ ap (λ j. n + j) i ∙ sym e)
]

-- behind a gap there is none
pub gap_behind : (k : ℕ) (text : List ℕ) → length text ≤ k → gap (drop (gap text) text) ≡ 0
gap_behind k [] l = refl
gap_behind zero (b ∷ text) l = absurd (omega arith)
gap_behind (suc k) (b ∷ text) l = elim (zero_or_more (separator_len (b ∷ text))) [
  | inl z ↦ (let g : gap (b ∷ text) ≡ 0 = gap_stops (b ∷ text) z in rw g g)
  | inr p ↦ (
      let n : ℕ = separator_len (b ∷ text) in
      let e : gap (b ∷ text) ≡ n + gap (drop n (b ∷ text)) = gap_goes (b ∷ text) n refl p (separator_within (b ∷ text)) in
      let i : gap (drop (gap (drop n (b ∷ text))) (drop n (b ∷ text))) ≡ 0 = gap_behind k (drop n (b ∷ text)) (omega (arith, length-drop n (b ∷ text))) in
      ap (λ m. gap (drop m (b ∷ text))) e ∙ ap gap (sym (dropped n (gap (drop n (b ∷ text))) (b ∷ text))) ∙ i)
]
