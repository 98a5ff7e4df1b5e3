-- A run of tokens, with one space for each gap between them, has no `#`.
use Rattle.std.proofs.Common.{◌≡◌, inl, inr, ℕ, zero, suc, ◌+◌, ◌-◌, ◌≤◌, ◌<◌, ◌==◌, Bool, true, false, ◌&&◌, ◌||◌, not, nat_le, if◌then◌else◌, List, [], ◌∷◌, ◌++◌, length, take, drop, Option, Some, None, Result, Ok, Err, refl, sym, ◌∙◌, ap, subst, arith}
use Rattle.std.proofs.lemmas.Bool.{eqb-true, leb-true}
use Rattle.std.proofs.lemmas.Bool.Decides.{nat_tests, eqb_tells}
use Rattle.std.specs.Prelude.{slice_index, codes}
use Rattle.std.specs.List.{list_all, list_any}
use Rattle.std.specs.Str.{bytes_eq}
use Rattle.std.proofs.lemmas.Slice.Eq.{bytes_eq-Decides}
use Rattle.suite_base.specs.Bytes.{is_letter, begins_name, is_name_byte}
use Rattle.suite_base.specs.Numbers.{is_digit}
use Rattle.std.specs.Char.{is_ascii_digit}
use Rattle.c_lexer.specs.declared.tokens.TokenKind.{TokenKind}
use Rattle.c_lexer.specs.declared.tokens.TokenKind.TheVariants.{Name, Integer, Literal, Sign}
use Rattle.c_lexer.specs.Tokens.{is_space, separator_len, gap, begins_number, goes_on, is_one_of, token_at}
use Rattle.c_lexer.specs.Readings.{Lexeme, lexeme_at, next}
use Rattle.c_lexer.specs.TokenForms.{is_name, all_go_on, is_number, is_token_of, single_signs, double_signs}
use Rattle.c_lexer.proofs.TokenLemmas.{gap_stops, gap_goes, begins_word}
use Rattle.c_lexer.proofs.TokenLaws.{tokens_longest}
use Rattle.c_lexer.proofs.TokenForms.{each_byte_passes}
use Rattle.scop_core.specs.Printable.{has_no}
use Rattle.region_trees.specs.Statements.{spaced_from}
use Rattle.printable_regions.proofs.Bytes.{and_first, and_second, third, both_hold, either}
use Rattle.printable_regions.proofs.Scans.{dropped, taken, drop_take, at_number, zero_or_more, gap_front, gap_behind, separator_within}

-- the text as it is copied, with spaces for gaps
abbrev pub spaced : List ℕ → List ℕ
spaced text = spaced_from 0 text

skipped : (k : ℕ) (text : List ℕ) → spaced_from k text ≡ spaced (drop k text)
skipped zero text = refl
skipped (suc k) [] = refl
skipped (suc k) (b ∷ text) = skipped k text

abbrev step_by : ℕ → ℕ → List ℕ → List ℕ
step_by g b text = (if g == 0 then b else 32) ∷ spaced_from (g - 1) text

-- a byte without a gap is copied
pub copied : (b : ℕ) (text : List ℕ) → gap (b ∷ text) ≡ 0 → spaced (b ∷ text) ≡ b ∷ spaced text
copied b text e = ap (λ g. step_by g b text) e

not_zero : (n : ℕ) → (suc n == 0) ≡ false
not_zero n = elim (eqb_tells (suc n) 0) [ inl (p, q) ↦ absurd (omega arith) | inr (p, q) ↦ p ]

closed_by : (g b : ℕ) (text : List ℕ) → 1 ≤ g → step_by g b text ≡ 32 ∷ spaced (drop g (b ∷ text))
closed_by zero b text h = absurd (omega arith)
closed_by (suc g) b text h =
    let e : suc g - 1 ≡ g = omega arith in
    let f : spaced_from (suc g - 1) text ≡ spaced (drop g text) = ap (λ k. spaced_from k text) e ∙ skipped g text in
    simp (not_zero g) (ap (λ xs. 32 ∷ xs) f)

-- a gap is one space
closed : (b : ℕ) (text : List ℕ) → 1 ≤ gap (b ∷ text) → spaced (b ∷ text) ≡ 32 ∷ spaced (drop (gap (b ∷ text)) (b ∷ text))
closed b text h = closed_by (gap (b ∷ text)) b text h

abbrev Clean : List ℕ → Type 0
Clean text = has_no 35 (spaced text) ≡ true

clean_gap : (text : List ℕ) → Clean (drop (gap text) text) → Clean text
clean_gap [] c = refl
clean_gap (b ∷ text) c = elim (zero_or_more (gap (b ∷ text))) [
  | inl z ↦ subst Clean (at_number (gap (b ∷ text)) 0 (b ∷ text) z) c
  | inr p ↦ subst (λ xs. has_no 35 xs ≡ true) (sym (closed b text p)) c
]

clean_byte : (b : ℕ) (text : List ℕ) → gap (b ∷ text) ≡ 0 → (35 == b) ≡ false → Clean text → Clean (b ∷ text)
clean_byte b text e n c =
    let k : has_no 35 (b ∷ spaced text) ≡ true = simp n c in subst (λ xs. has_no 35 xs ≡ true) (sym (copied b text e)) k

-- a byte that begins no separator, whatever follows, and is no `#`
abbrev pub is_solid : ℕ → Bool
is_solid b = (not (is_space b) && not (b == 47)) && not (35 == b)

is_false : (a : Bool) → not a ≡ true → a ≡ false
is_false true h = absurd (cc)
is_false false h = refl

solid_stops : (b : ℕ) (text : List ℕ) → is_solid b ≡ true → gap (b ∷ text) ≡ 0
solid_stops b text h =
    let t = third (not (is_space b)) (not (b == 47)) (not (35 == b)) (grouped (not (is_space b)) (not (b == 47)) (not (35 == b)) h) in
    let s : is_space b ≡ false = is_false _ t.0 in
    let f : (b == 47) ≡ false = is_false _ t.1 in
    gap_stops (b ∷ text) (simp (s, f) refl)
  where
    grouped : (p q r : Bool) → ((p && q) && r) ≡ true → (p && (q && r)) ≡ true
    grouped true q r h = h
    grouped false q r h = h

clean_solid : (n : ℕ) (text : List ℕ) → list_all is_solid (take n text) ≡ true → Clean (drop n text) → Clean text
clean_solid zero text h c = c
clean_solid (suc n) [] h c = refl
clean_solid (suc n) (b ∷ text) h c =
    let f : is_solid b ≡ true = and_first (is_solid b) (list_all is_solid (take n text)) h in
    clean_byte b text (solid_stops b text f) (is_false _ (and_second (not (is_space b) && not (b == 47)) (not (35 == b)) f))
    (clean_solid n text (and_second (is_solid b) (list_all is_solid (take n text)) h) c)

-- ---- tokens: the first byte is no `#`, and the others are solid
abbrev pub is_run : List ℕ → Bool
is_run [] = true
is_run (b ∷ more) = not (35 == b) && list_all is_solid more

from_48 : (b : ℕ) → nat_le 48 b ≡ true → is_solid b ≡ true
from_48 b h =
    let l : 48 ≤ b = leb-true 48 b h in
    let s : is_space b ≡ false = simp (other b 32 (omega arith), other b 9 (omega arith), other b 13 (omega arith), other b 10 (omega arith)) refl in
    simp (s, other b 47 (omega arith), other_way b 35 (omega arith)) refl
  where
    other : (b c : ℕ) → c < b → (b == c) ≡ false
    other b c l = elim (eqb_tells b c) [ inl (p, q) ↦ absurd (omega arith) | inr (p, q) ↦ p ]

    other_way : (b c : ℕ) → c < b → (c == b) ≡ false
    other_way b c l = elim (eqb_tells c b) [ inl (p, q) ↦ absurd (omega arith) | inr (p, q) ↦ p ]

name_byte_from : (b : ℕ) → is_name_byte b ≡ true → nat_le 48 b ≡ true
name_byte_from b h = elim (either (begins_name b) (is_digit b) h) [
  | inl l ↦ elim (either (is_letter b) (b == 95) l) [
    | inl m ↦ elim (either (nat_le 65 b && nat_le b 90) (nat_le 97 b && nat_le b 122) m) [
      | inl u ↦ let e : nat_le 65 b ≡ true = and_first _ _ u in grind (arith, nat_tests)
      | inr u ↦ let e : nat_le 97 b ≡ true = and_first _ _ u in grind (arith, nat_tests)
    ]
    | inr e ↦ grind (arith, nat_tests)
  ]
  | inr d ↦ let e : nat_le 48 b ≡ true = and_first _ _ d in grind (arith, nat_tests)
]

name_byte_solid : (b : ℕ) → is_name_byte b ≡ true → is_solid b ≡ true
name_byte_solid b h = from_48 b (name_byte_from b h)

solid_first : (b : ℕ) → is_solid b ≡ true → not (35 == b) ≡ true
solid_first b h = and_second (not (is_space b) && not (b == 47)) (not (35 == b)) h

bytes_solid : (text : List ℕ) → list_all is_name_byte text ≡ true → list_all is_solid text ≡ true
bytes_solid [] h = refl
bytes_solid (b ∷ text) h =
    both_hold _ _ (name_byte_solid b (and_first (is_name_byte b) (list_all is_name_byte text) h)) (bytes_solid text (and_second (is_name_byte b) (list_all is_name_byte text) h))

goes_solid : (before b : ℕ) → goes_on before b ≡ true → is_solid b ≡ true
goes_solid before b h = elim (either (is_name_byte b || b == 46) (is_one_of b (codes "+-") && is_one_of before (codes "eE")) h) [
  | inl m ↦ elim (either (is_name_byte b) (b == 46) m) [
    | inl l ↦ name_byte_solid b l
    | inr e ↦ (let k : b ≡ 46 = eqb-true b 46 e in rw k refl)
  ]
  | inr s ↦ each_byte_passes is_solid b (codes "+-") refl (and_first (is_one_of b (codes "+-")) (is_one_of before (codes "eE")) s)
]

all_solid : (before : ℕ) (text : List ℕ) → all_go_on before text ≡ true → list_all is_solid text ≡ true
all_solid before [] h = refl
all_solid before (b ∷ text) h =
    both_hold _ _ (goes_solid before b (and_first (goes_on before b) (all_go_on b text) h)) (all_solid b text (and_second (goes_on before b) (all_go_on b text) h))

number_first : (b : ℕ) (more : List ℕ) → begins_number (b ∷ more) ≡ true → is_solid b ≡ true
number_first b more h = elim (either (is_ascii_digit b) _ h) [
  | inl d ↦ from_48 b (and_first (nat_le 48 b) (nat_le b 57) d)
  | inr p ↦ (let k : b ≡ 46 = eqb-true b 46 (and_first (b == 46) (is_ascii_digit (slice_index more 0)) p) in rw k refl)
]

number_runs : (text : List ℕ) → is_number text ≡ true → is_run text ≡ true
number_runs [] h = refl
number_runs (b ∷ more) h =
    both_hold _ _ (solid_first b (number_first b more (and_first (begins_number (b ∷ more)) (all_go_on b more) h)))
    (all_solid b more (and_second (begins_number (b ∷ more)) (all_go_on b more) h))

each_passes : (passes : List ℕ → Bool) (text : List ℕ) (list : List (List ℕ)) → list_all passes list ≡ true → list_any (bytes_eq text) list ≡ true → passes text ≡ true
each_passes passes text [] h e = absurd (cc)
each_passes passes text (x ∷ list) h e = elim (either _ _ e) [
  | inl s ↦ (let k : text ≡ x = (bytes_eq-Decides text x).0 s in rw k (and_first (passes x) (list_all passes list) h))
  | inr s ↦ each_passes passes text list (and_second (passes x) (list_all passes list) h) s
]

name_runs : (text : List ℕ) → is_name text ≡ true → is_run text ≡ true
name_runs [] h = refl
name_runs (b ∷ more) h =
    both_hold _ _ (solid_first b (name_byte_solid b (begins_word b (and_first (begins_name b) (list_all is_name_byte more) h))))
    (bytes_solid more (and_second (begins_name b) (list_all is_name_byte more) h))

token_runs : (kind : TokenKind) (text : List ℕ) → is_token_of kind text ≡ true → is_run text ≡ true
token_runs Name text h = name_runs text h
token_runs Integer text h = number_runs text (and_first (is_number text) _ h)
token_runs Literal text h = number_runs text (and_first (is_number text) _ h)
token_runs Sign text h = each_passes is_run text (single_signs ++ double_signs) refl h

clean_run : (n : ℕ) (text : List ℕ) → gap text ≡ 0 → is_run (take n text) ≡ true → Clean (drop n text) → Clean text
clean_run zero text e r c = c
clean_run (suc n) [] e r c = refl
clean_run (suc n) (b ∷ text) e r c =
    clean_byte b text e (is_false _ (and_first (not (35 == b)) (list_all is_solid (take n text)) r))
    (clean_solid n text (and_second (not (35 == b)) (list_all is_solid (take n text)) r) c)

-- ---- paths: token after token

-- reading goes on, token by token, from one place of a text to another
pub data Path (text : List ℕ) (to : ℕ) : ℕ → Type 0 where
  stop : Path text to to
  token : (at : ℕ) → (w : Lexeme) → next (record { text = text; at = at }) ≡ Ok (Some w) → Path text to w.to → Path text to at

-- a token behind its gap
pub record TokenAt (text : List ℕ) (at : ℕ) (w : Lexeme) : Type 0 where
  pub size : ℕ
  pub from : w.from ≡ at + gap (drop at text)
  pub to : w.to ≡ w.from + size
  pub cut : token_at (drop w.from text) ≡ Some (w.kind, size)

some_lexeme : {a b : Lexeme} → ◌≡◌ {A = Result (Option Lexeme) ℕ} (Ok (Some a)) (Ok (Some b)) → a ≡ b
some_lexeme {a = a} e = ap (λ r. elim r [ Ok o ↦ elim o [ None ↦ a | Some x ↦ x ] | Err at ↦ a ]) e

token_by : (text : List ℕ) (at from : ℕ) (w : Lexeme) (ends : Bool) (t : Option (TokenKind × ℕ)) → from ≡ at + gap (drop at text) → token_at (drop from text) ≡ t
    → (if ends then Ok None else lexeme_at from t) ≡ Ok (Some w) → TokenAt text at w
token_by text at from w true t f c e = absurd (cc)
token_by text at from w false None f c e = absurd (cc)
token_by text at from w false (Some t) f c e =
    let k : record { kind = t.0; from = from; to = from + t.1 } ≡ w = some_lexeme e in
    subst (TokenAt text at) k (record { size = t.1; from = f; to = refl; cut = c })

pub token_is : (text : List ℕ) (at : ℕ) (w : Lexeme) → next (record { text = text; at = at }) ≡ Ok (Some w) → TokenAt text at w
token_is text at w e =
    let from : ℕ = at + gap (drop at text) in
    token_by text at from w (from == length text) (token_at (drop from text)) refl refl e

pub path_goes : (text : List ℕ) (to at : ℕ) → Path text to at → at ≤ to
path_goes text to _ stop = omega arith
path_goes text to _ (token at w e p) = let t = token_is text at w e in let h = path_goes text to w.to p in omega (arith, t.from, t.to, h)

nothing : (m : ℕ) (xs : List ℕ) → drop (m + 0) (take m xs) ≡ []
nothing m xs = drop_take (m + 0) 0 m xs (omega arith)

-- the text from a place on a path up to the token behind it
pub clean_path : (text : List ℕ) (to at end m : ℕ) → Path text to at → end ≡ to + gap (drop to text) → end ≡ at + m → Clean (take m (drop at text))
clean_path text to _ end m stop e f =
    let d : List ℕ = drop to text in
    let k : m ≡ gap d = omega (arith, e, f) in
    let g : gap (take m d) ≡ gap d = gap_front (length d) m d (omega arith) (omega (arith, k)) in
    clean_gap (take m d) (subst Clean (sym (at_number (gap (take m d)) (m + 0) (take m d) (omega (arith, g, k)) ∙ nothing m d)) refl)
clean_path text to _ end m (token at w c p) e f =
    let t = token_is text at w c in
    let h = path_goes text to w.to p in
    let d : List ℕ = drop at text in
    let g : ℕ = gap d in
    let n : ℕ = t.size in
    let r : ℕ = end - w.to in
    let m_is : m ≡ g + (n + r) = omega (arith, t.from, t.to, h, e, f) in
    let x_gap : gap (take m d) ≡ g = gap_front (length d) m d (omega arith) (omega (arith, m_is)) in
    let front : List ℕ = drop w.from text in
    let front_is : drop g d ≡ front = dropped at g text ∙ at_number (at + g) w.from text (sym t.from) in
    let y_is : drop (gap (take m d)) (take m d) ≡ take (n + r) front =
    at_number (gap (take m d)) g (take m d) x_gap ∙ drop_take g (n + r) m d m_is ∙ ap (take (n + r)) front_is in
    let front_gap : gap front ≡ 0 = ap gap (sym front_is) ∙ gap_behind (length d) d (omega arith) in
    let y_gap : gap (take (n + r) front) ≡ 0 =
    gap_front (length front) (n + r) front (omega arith) (omega (arith, front_gap)) ∙ front_gap in
    let run : is_run (take n (take (n + r) front)) ≡ true =
    subst (λ xs. is_run xs ≡ true) (sym (taken n (n + r) front (omega arith))) (token_runs w.kind (take n front) ((tokens_longest front w.kind n).0 t.cut).1.token) in
    let rest : drop n (take (n + r) front) ≡ take r (drop w.to text) =
    drop_take n r (n + r) front refl ∙ ap (take r) (dropped w.from n text ∙ at_number (w.from + n) w.to text (sym t.to)) in
    let more : Clean (take r (drop w.to text)) = clean_path text to w.to end r p e (omega (arith, t.from, t.to, h, e, f)) in
    clean_gap (take m d) (subst Clean (sym y_is) (clean_run n (take (n + r) front) y_gap run (subst Clean (sym rest) more)))

-- the text from a token on, up to the token behind a path
pub clean_start : (text : List ℕ) (to at end m : ℕ) (w : Lexeme) → next (record { text = text; at = at }) ≡ Ok (Some w) → Path text to w.to
    → end ≡ to + gap (drop to text) → end ≡ w.from + m → Clean (take m (drop w.from text)) × (gap (take m (drop w.from text)) ≡ 0) × (end ≡ w.to + (end - w.to))
clean_start text to at end m w c p e f =
    let t = token_is text at w c in
    let h = path_goes text to w.to p in
    let d : List ℕ = drop at text in
    let n : ℕ = t.size in
    let r : ℕ = end - w.to in
    let front : List ℕ = drop w.from text in
    let front_is : drop (gap d) d ≡ front = dropped at (gap d) text ∙ at_number (at + gap d) w.from text (sym t.from) in
    let front_gap : gap front ≡ 0 = ap gap (sym front_is) ∙ gap_behind (length d) d (omega arith) in
    let m_is : m ≡ n + r = omega (arith, t.to, h, e, f) in
    let y_gap : gap (take m front) ≡ 0 = gap_front (length front) m front (omega arith) (omega (arith, front_gap)) ∙ front_gap in
    let run : is_run (take n (take m front)) ≡ true =
    subst (λ xs. is_run xs ≡ true) (sym (taken n m front (omega (arith, m_is)))) (token_runs w.kind (take n front) ((tokens_longest front w.kind n).0 t.cut).1.token) in
    let rest : drop n (take m front) ≡ take r (drop w.to text) =
    drop_take n r m front m_is ∙ ap (take r) (dropped w.from n text ∙ at_number (w.from + n) w.to text (sym t.to)) in
    let more : Clean (take r (drop w.to text)) = clean_path text to w.to end r p e (omega (arith, t.to, h, e, f)) in
    (clean_run n (take m front) y_gap run (subst Clean (sym rest) more), y_gap, omega (arith, h, e))

-- ---- no newline is copied

newline_gap : (text : List ℕ) → 1 ≤ gap (10 ∷ text)
newline_gap text =
    let g = gap_goes (10 ∷ text) (separator_len (10 ∷ text)) refl (omega arith) (separator_within (10 ∷ text)) in omega (arith, g)

kept_byte : (g b : ℕ) → (b ≡ 10 → 1 ≤ g) → not (10 == (if g == 0 then b else 32)) ≡ true
kept_byte zero b f = elim (eqb_tells 10 b) [ inl (p, q) ↦ absurd (let k = f (sym q) in omega (arith, k)) | inr (p, q) ↦ simp p refl ]
kept_byte (suc g) b f = simp (not_zero g) refl

pub no_newline : (k : ℕ) (text : List ℕ) → has_no 10 (spaced_from k text) ≡ true
no_newline k [] = refl
no_newline zero (b ∷ text) = both_hold _ _ (kept_byte (gap (b ∷ text)) b (λ e. subst (λ c. 1 ≤ gap (c ∷ text)) (sym e) (newline_gap text))) (no_newline (gap (b ∷ text) - 1) text)
no_newline (suc k) (b ∷ text) = no_newline k text
