-- A gap is separators one after another, and at what follows none stands.
use Rattle.std.proofs.Common.{◌≡◌, ℕ, zero, suc, ◌+◌, ◌≤◌, ◌==◌, inl, inr, Bool, true, false, not, ◌&&◌, List, [], ◌∷◌, ◌++◌, length, take, drop, Option, Some, None, refl, ap, sym, subst, ◌∙◌, arith, length-append, length-drop, append_assoc}
use Rattle.std.proofs.lemmas.Bool.{cases_Bool, eqb-true}
use Rattle.std.proofs.lemmas.List.Sums.{prefix_len-le-length}
use Rattle.std.proofs.Math.Seq.{take-append-add, take-add}
use Rattle.std.proofs.lemmas.List.{take-append-drop, drop-drop}
use Rattle.std.specs.Prelude.{slice_index}
use Rattle.std.specs.List.{prefix_len, list_all}
use Rattle.c_lexer.specs.Tokens.{is_space, one_more, past_close, comment_len, opens_line_comment, opens_comment, separator_len, gap}
use Rattle.c_lexer.specs.Separators.{EndsLine, has_close, IsSeparator, space, line, comment, AreSeparators, none, one, HasNoSeparator}
use Rattle.c_lexer.proofs.TokenForms.{and_left, and_right, neither}
use Rattle.c_lexer.proofs.TokenLemmas.{gap_stops, gap_goes}

abbrev in_line : ℕ → Bool
in_line b = not (b == 10)

-- ---- the bytes that pass a test

all_before : (passes : ℕ → Bool) (n : ℕ) (text : List ℕ) → n ≤ prefix_len passes text → list_all passes (take n text) ≡ true
all_before passes zero text h = refl
all_before passes (suc n) [] h = refl
all_before passes (suc n) (b ∷ text) h = elim (cases_Bool (passes b)) [
  | inl p ↦ (let k : suc n ≤ 1 + prefix_len passes text = (simp p at h) in simp p (all_before passes n text (omega arith)))
  | inr p ↦ absurd (let k : suc n ≤ 0 = (simp p at h) in omega arith)
]

ends_line : (n : ℕ) (text : List ℕ) → n ≡ prefix_len in_line text → EndsLine (drop n text)
ends_line zero [] e = tt
ends_line (suc n) [] e = tt
ends_line zero (b ∷ text) e = elim (cases_Bool (b == 10)) [
  | inl t ↦ eqb-true b 10 t
  | inr t ↦ absurd (let k : 0 ≡ 1 + prefix_len in_line text = (simp t at e) in omega arith)
]
ends_line (suc n) (b ∷ text) e = elim (cases_Bool (b == 10)) [
  | inl t ↦ absurd (let k : suc n ≡ 0 = (simp t at e) in omega arith)
  | inr t ↦ (let k : suc n ≡ 1 + prefix_len in_line text = (simp t at e) in ends_line n text (omega arith))
]

-- ---- a comment with its end

record Closed (text : List ℕ) (n : ℕ) : Type 0 where
  body : List ℕ
  after : List ℕ
  split : text ≡ body ++ (42 ∷ 47 ∷ after)
  size : n ≡ length body + 2
  first : has_close (body ++ (42 ∷ [])) ≡ false

one_more_some : (x : Option ℕ) (n : ℕ) → one_more x ≡ Some n → (k : ℕ) × (x ≡ Some k) × (n ≡ suc k)
one_more_some None n e = absurd (cc)
one_more_some (Some k) n e = (k, refl, cc)

first_same : (body after : List ℕ) → slice_index (body ++ (42 ∷ [])) 0 ≡ slice_index (body ++ (42 ∷ 47 ∷ after)) 0
first_same [] after = refl
first_same (b ∷ body) after = refl

closed_here : (b : ℕ) (text : List ℕ) (n : ℕ) → (b == 42 && slice_index text 0 == 47) ≡ true → 2 ≡ n → Closed (b ∷ text) n
closed_here b [] n h e = absurd (let k : (0 == 47) ≡ true = and_right (b == 42) (0 == 47) h in cc)
closed_here b (c ∷ text) n h e =
    let f : b ≡ 42 = eqb-true b 42 (and_left (b == 42) (c == 47) h) in
    let g : c ≡ 47 = eqb-true c 47 (and_right (b == 42) (c == 47) h) in
    record { body = []; after = text; split = ap (λ x. x ∷ c ∷ text) f ∙ ap (λ x. 42 ∷ x ∷ text) g; size = omega arith; first = refl }

closed_later : (b : ℕ) (text : List ℕ) (n k : ℕ) → (b == 42 && slice_index text 0 == 47) ≡ false → n ≡ suc k → Closed text k → Closed (b ∷ text) n
closed_later b text n k h e c =
    let f : slice_index text 0 ≡ slice_index (c.body ++ (42 ∷ [])) 0 = ap (λ t. slice_index t 0) c.split ∙ sym (first_same c.body c.after) in
    let g : (b == 42 && slice_index (c.body ++ (42 ∷ [])) 0 == 47) ≡ false = sym (ap (λ x. b == 42 && x == 47) f) ∙ h in
    record {
      body = b ∷ c.body;
      after = c.after;
      split = ap (λ t. b ∷ t) c.split;
      size = (let s = c.size in omega arith);
      first = neither _ _ g c.first;
    }

closed_of : (text : List ℕ) (n : ℕ) → past_close text ≡ Some n → Closed text n
closed_of [] n e = absurd (cc)
closed_of (b ∷ text) n e = elim (cases_Bool (b == 42 && slice_index text 0 == 47)) [
  | inl h ↦ (let f : Some 2 ≡ Some n = (simp h at e) in closed_here b text n h (cc))
  | inr h ↦
      let f : one_more (past_close text) ≡ Some n = (simp h at e) in
      let s = one_more_some (past_close text) n f in
      closed_later b text n s.0 h s.2 (closed_of text s.0 s.1)
]

-- ---- one separator more

record Step (n : ℕ) (text more rest : List ℕ) : Type 0 where
  within : n ≤ length text
  pieces : AreSeparators rest (take n text ++ more)

spaces_more : (n : ℕ) (text more rest : List ℕ) → n ≤ prefix_len is_space text → AreSeparators rest more → AreSeparators rest (take n text ++ more)
spaces_more zero text more rest h s = s
spaces_more (suc n) [] more rest h s = s
spaces_more (suc n) (b ∷ text) more rest h s = elim (cases_Bool (is_space b)) [
  | inl p ↦
      let k : suc n ≤ 1 + prefix_len is_space text = (simp p at h) in
      one (b ∷ []) (take n text ++ more) (space b p refl) (spaces_more n text more rest (omega arith) s)
  | inr p ↦ absurd (let k : suc n ≤ 0 = (simp p at h) in omega arith)
]

line_more : (n : ℕ) (text more rest : List ℕ) → n ≡ prefix_len in_line (47 ∷ 47 ∷ text) → drop n (47 ∷ 47 ∷ text) ≡ more ++ rest → AreSeparators rest more
    → AreSeparators rest (take n (47 ∷ 47 ∷ text) ++ more)
line_more zero text more rest e f s = absurd (omega arith)
line_more (suc zero) text more rest e f s = absurd (omega arith)
line_more (suc (suc n)) text more rest e f s =
    let k : n ≡ prefix_len in_line text = omega arith in
    let ends : EndsLine (more ++ rest) = subst EndsLine f (ends_line n text k) in
    one (47 ∷ 47 ∷ take n text) more (line (take n text) (all_before in_line n text (omega arith)) ends refl) s

comment_more : (n k : ℕ) (text more rest : List ℕ) → past_close text ≡ Some k → 2 + k ≡ n → AreSeparators rest more → Step n (47 ∷ 42 ∷ text) more rest
comment_more zero k text more rest e f s = absurd (omega arith)
comment_more (suc zero) k text more rest e f s = absurd (omega arith)
comment_more (suc (suc n)) k text more rest e f s =
    let c = closed_of text k e in
    let z = c.size in
    let m : n ≡ length c.body + 2 = omega arith in
    let t : take n text ≡ c.body ++ (42 ∷ 47 ∷ []) =
    ap (λ x. take x text) m ∙ (ap (λ x. take (length c.body + 2) x) c.split ∙ take-append-add c.body (42 ∷ 47 ∷ c.after) 2) in
    let l : length text ≡ length c.body + suc (suc (length c.after)) = ap length c.split ∙ length-append c.body (42 ∷ 47 ∷ c.after) in
    record {
      within = omega arith;
      pieces = one (47 ∷ 42 ∷ take n text) more (comment c.body c.first (ap (λ x. 47 ∷ 42 ∷ x) t)) s;
    }

comment_step : (n : ℕ) (text more rest : List ℕ) (x : Option ℕ) → past_close text ≡ x → comment_len x ≡ n → 1 ≤ n → AreSeparators rest more → Step n (47 ∷ 42 ∷ text) more rest
comment_step n text more rest None e f h s = absurd (omega arith)
comment_step n text more rest (Some k) e f h s = comment_more n k text more rest e f s

-- the two bytes that a text begins with
two_bytes : (text : List ℕ) (a b : ℕ) → 1 ≤ b → (slice_index text 0 == a && slice_index text 1 == b) ≡ true → text ≡ a ∷ b ∷ drop 2 text
two_bytes [] a b l h = absurd (let k : 0 ≡ b = eqb-true 0 b (and_right (0 == a) (0 == b) h) in omega arith)
two_bytes (c ∷ []) a b l h = absurd (let k : 0 ≡ b = eqb-true 0 b (and_right (c == a) (0 == b) h) in omega arith)
two_bytes (c ∷ d ∷ text) a b l h =
    ap (λ x. x ∷ d ∷ text) (eqb-true c a (and_left (c == a) (d == b) h)) ∙ ap (λ x. a ∷ x ∷ text) (eqb-true d b (and_right (c == a) (d == b) h))

line_step : (n : ℕ) (text more rest tail : List ℕ) → text ≡ 47 ∷ 47 ∷ tail → prefix_len in_line text ≡ n → drop n text ≡ more ++ rest → AreSeparators rest more → Step n text more rest
line_step n text more rest tail t e f s =
    let w = prefix_len-le-length in_line text in
    record {
      within = omega arith;
      pieces =
          subst (λ x. AreSeparators rest (take n x ++ more)) (sym t)
          (line_more n tail more rest (sym e ∙ ap (prefix_len in_line) t) (sym (ap (drop n) t) ∙ f) s);
    }

step : (n : ℕ) (text more rest : List ℕ) → separator_len text ≡ n → 1 ≤ n → drop n text ≡ more ++ rest → AreSeparators rest more → Step n text more rest
step n text more rest e h f s = elim (cases_Bool (is_space (slice_index text 0))) [
  | inl p ↦
      let k : prefix_len is_space text ≡ n = (simp p at e) in
      let w = prefix_len-le-length is_space text in
      record { within = omega arith; pieces = spaces_more n text more rest (omega arith) s }
  | inr p ↦ elim (cases_Bool (opens_line_comment text)) [
    | inl q ↦
        let k : prefix_len in_line text ≡ n = (simp (p, q) at e) in
        line_step n text more rest (drop 2 text) (two_bytes text 47 47 (omega arith) q) k f s
    | inr q ↦ elim (cases_Bool (opens_comment text)) [
      | inl o ↦
          let k : comment_len (past_close (drop 2 text)) ≡ n = (simp (p, q, o) at e) in
          subst (λ x. Step n x more rest) (sym (two_bytes text 47 42 (omega arith) o)) (comment_step n (drop 2 text) more rest (past_close (drop 2 text)) refl k h s)
      | inr o ↦ absurd (let k : 0 ≡ n = (simp (p, q, o) at e) in omega arith)
    ]
  ]
]

-- ---- the gap

record Separated (text : List ℕ) (n : ℕ) : Type 0 where
  pieces : AreSeparators (drop n text) (take n text)
  ends : separator_len (drop n text) ≡ 0

-- the front of a text that begins with a separator of n bytes, and the gap behind it
separated_more : (n k : ℕ) (text : List ℕ) → separator_len text ≡ n → 1 ≤ n → Separated (drop n text) k → (n ≤ length text) × Separated text (n + k)
separated_more n k text e h s =
    let t = step n text (take k (drop n text)) (drop k (drop n text)) e h (sym (take-append-drop k (drop n text))) s.pieces in
    let d : drop k (drop n text) ≡ drop (n + k) text = drop-drop k n text in
    let u : take n text ++ take k (drop n text) ≡ take (n + k) text = sym (take-add n k text) in (
      t.within,
      record {
        pieces = subst (λ x. AreSeparators x (take (n + k) text)) d (subst (λ x. AreSeparators (drop k (drop n text)) x) u t.pieces);
        ends = ap separator_len (sym d) ∙ s.ends;
      },
    )

separated_by : (n : ℕ) (text : List ℕ) → separator_len text ≡ n → (1 ≤ n → Separated (drop n text) (gap (drop n text))) → Separated text (gap text)
separated_by zero text e ih = subst (λ k. Separated text k) (sym (gap_stops text e)) (record { pieces = none; ends = e })
separated_by (suc n) text e ih =
    let l : 1 ≤ suc n = omega arith in
    let s = separated_more (suc n) (gap (drop (suc n) text)) text e l (ih l) in
    subst (λ k. Separated text k) (sym (gap_goes text (suc n) (sym e) l s.0)) s.1

shorter : (n most : ℕ) (text : List ℕ) → 1 ≤ n → length text ≤ suc most → length (drop n text) ≤ most
shorter n most text h l = let d = length-drop n text in omega arith

separated : (most : ℕ) (text : List ℕ) → length text ≤ most → Separated text (gap text)
separated most [] l = record { pieces = none; ends = refl }
separated zero (b ∷ text) l = absurd (omega arith)
separated (suc most) (b ∷ text) l =
    separated_by (separator_len (b ∷ text)) (b ∷ text) refl
    (λ h. separated most (drop (separator_len (b ∷ text)) (b ∷ text)) (shorter (separator_len (b ∷ text)) most (b ∷ text) h l))

-- ---- where nothing is cut no separator stands

one_more_none : (x : Option ℕ) → one_more x ≡ None → x ≡ None
one_more_none None e = refl
one_more_none (Some n) e = absurd (cc)

no_comment : (x : Option ℕ) → comment_len x ≡ 0 → x ≡ None
no_comment None e = refl
no_comment (Some n) e = absurd (omega arith)

closes : (body after : List ℕ) → past_close (body ++ (42 ∷ 47 ∷ after)) ≡ None → ⊥
closes [] after e = absurd (cc)
closes (b ∷ body) after e = elim (cases_Bool (b == 42 && slice_index (body ++ (42 ∷ 47 ∷ after)) 0 == 47)) [
  | inl h ↦ (let f : Some 2 ≡ None = (simp h at e) in absurd (cc))
  | inr h ↦
      let f : one_more (past_close (body ++ (42 ∷ 47 ∷ after))) ≡ None = (simp h at e) in
      closes body after (one_more_none (past_close (body ++ (42 ∷ 47 ∷ after))) f)
]

no_space : (b : ℕ) (after : List ℕ) → is_space b ≡ true → separator_len (b ∷ after) ≡ 0 → ⊥
no_space b after h e = let f : 1 + prefix_len is_space after ≡ 0 = (simp h at e) in absurd (omega arith)

no_line : (text : List ℕ) → separator_len (47 ∷ 47 ∷ text) ≡ 0 → ⊥
no_line text e = absurd (omega arith)

no_block : (body after : List ℕ) → separator_len (47 ∷ 42 ∷ (body ++ (42 ∷ 47 ∷ after))) ≡ 0 → ⊥
no_block body after e = closes body after (no_comment (past_close (body ++ (42 ∷ 47 ∷ after))) e)

no_separator : (piece after : List ℕ) → separator_len (piece ++ after) ≡ 0 → IsSeparator piece after → ⊥
no_separator piece after e (space b h p) = no_space b after h (ap (λ x. separator_len (x ++ after)) (sym p) ∙ e)
no_separator piece after e (line body h l p) = no_line (body ++ after) (ap (λ x. separator_len (x ++ after)) (sym p) ∙ e)
no_separator piece after e (comment body h p) =
    let s : (body ++ (42 ∷ 47 ∷ [])) ++ after ≡ body ++ (42 ∷ 47 ∷ after) = append_assoc body (42 ∷ 47 ∷ []) after in
    no_block body after (ap (λ x. separator_len (47 ∷ 42 ∷ x)) (sym s) ∙ (ap (λ x. separator_len (x ++ after)) (sym p) ∙ e))

pub gaps_separate : (text : List ℕ) → AreSeparators (drop (gap text) text) (take (gap text) text) × HasNoSeparator (drop (gap text) text)
gaps_separate text =
    let s = separated (length text) text (omega arith) in
    (s.pieces, λ piece after e. no_separator piece after (ap separator_len (sym e) ∙ s.ends))
