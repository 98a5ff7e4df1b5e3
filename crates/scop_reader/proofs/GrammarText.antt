-- What a line says, its words, and its ends.
use Rattle.std.proofs.Common.{◌≡◌, refl, sym, ap, ◌∙◌, ℕ, ◌+◌, List, [], ◌∷◌, ◌++◌, take, drop, take-append-drop, reverse, Bool, true, false, not, ◌&&◌, ◌==◌, inl, inr}
use Rattle.std.specs.List.{prefix_len}
use Rattle.std.specs.Str.{bytes_eq}
use Rattle.std.proofs.lemmas.Bool.{and_parts, and_from}
use Rattle.std.proofs.lemmas.List.{append-nil, reverse-append, reverse-reverse}
use Rattle.std.proofs.lemmas.Slice.Eq.{bytes_eq-Decides}
use Rattle.suite_base.specs.Lines.{trim, trim_front, is_blank, put}
use Rattle.suite_base.specs.Words.{content, words, begins_word, unbroken, is_word, spaced, without_comment}
use Rattle.suite_base.proofs.LineCuts.{bool_tells}
use Rattle.suite_base.proofs.WordCuts.{words-trim_front, trim_front_begins, word_cut, words-spaced, in_word}
use Rattle.scop_core.specs.Printable.{has_no, is_plain, is_body_line, end_line, body_name}
use Rattle.scop_reader.specs.Lines.{Word, words_of, words_from, put_word, word_bytes, is_silent, is_empty}
use Rattle.scop_reader.proofs.GrammarWords.{commented}

-- ---- blanks

abbrev pub all_blank : List ℕ → Bool
all_blank [] = true
all_blank (b ∷ s) = is_blank b && all_blank s

blank_append : (a b : List ℕ) → all_blank a ≡ true → all_blank b ≡ true → all_blank (a ++ b) ≡ true
blank_append [] b h k = k
blank_append (c ∷ a) b h k =
    let both = and_parts (is_blank c) (all_blank a) h in
    and_from (is_blank c) (all_blank (a ++ b)) both.0 (blank_append a b both.1 k)

reverse_more : (b : ℕ) (s : List ℕ) → reverse (b ∷ s) ≡ reverse s ++ b ∷ []
reverse_more b s = reverse-append (b ∷ []) s

blank_reverse : (s : List ℕ) → all_blank s ≡ true → all_blank (reverse s) ≡ true
blank_reverse [] h = refl
blank_reverse (b ∷ s) h =
    let both = and_parts (is_blank b) (all_blank s) h in
    rw (reverse_more b s) (blank_append (reverse s) (b ∷ []) (blank_reverse s both.1) (and_from (is_blank b) true both.0 refl))

begins_blank : (s : List ℕ) → all_blank s ≡ true → begins_word s ≡ false
begins_blank [] h = refl
begins_blank (b ∷ s) h = rw ((and_parts (is_blank b) (all_blank s) h).0) refl

-- the blanks at the front
record Front (s : List ℕ) : Type 0 where
  before : List ℕ
  blank : all_blank before ≡ true
  is : s ≡ before ++ trim_front s

front : (s : List ℕ) → Front s
front [] = record { before = []; blank = refl; is = refl }
front (b ∷ s) =
    elim (bool_tells (is_blank b)) [
      | inl e ↦
          let more = front s in
          record { before = b ∷ more.before; blank = and_from (is_blank b) (all_blank more.before) e more.blank; is = rw e (ap (λ (t : List ℕ). b ∷ t) more.is) }
      | inr e ↦ record { before = []; blank = refl; is = rw e refl }
    ]

-- the blanks at both ends
pub record Ends (s : List ℕ) : Type 0 where
  pub before : List ℕ
  pub after : List ℕ
  pub before_blank : all_blank before ≡ true
  pub after_blank : all_blank after ≡ true
  pub front_is : trim_front s ≡ trim s ++ after
  pub is : s ≡ before ++ (trim s ++ after)

pub ends : (s : List ℕ) → Ends s
ends s =
    let one = front s in
    let two = front (reverse (trim_front s)) in
    let back : trim_front s ≡ trim s ++ reverse two.before =
    sym (reverse-reverse (trim_front s)) ∙ (ap reverse two.is ∙ reverse-append two.before (trim_front (reverse (trim_front s)))) in
    record {
      before = one.before;
      after = reverse two.before;
      before_blank = one.blank;
      after_blank = blank_reverse two.before two.blank;
      front_is = back;
      is = one.is ∙ ap (λ (t : List ℕ). one.before ++ t) back;
    }

-- ---- words and blanks

words_blank : (s : List ℕ) → all_blank s ≡ true → words s ≡ []
words_blank [] h = refl
words_blank (b ∷ s) h =
    let both = and_parts (is_blank b) (all_blank s) h in
    rw (both.0) (words_blank s both.1)

begins_append : (s t : List ℕ) → all_blank t ≡ true → begins_word (s ++ t) ≡ begins_word s
begins_append [] t h = begins_blank t h
begins_append (b ∷ s) t h = refl

words_before : (s t : List ℕ) → all_blank t ≡ true → words (s ++ t) ≡ words s
words_before [] t h = words_blank t h
words_before (b ∷ s) t h =
    elim (bool_tells (is_blank b)) [
      | inl e ↦ rw e (words_before s t h)
      | inr e ↦ elim (bool_tells (begins_word s)) [
        | inl w ↦ rw (e, begins_append s t h, w) (ap (put b) (words_before s t h))
        | inr w ↦ rw (e, begins_append s t h, w) (ap (λ (ws : List (List ℕ)). (b ∷ []) ∷ ws) (words_before s t h))
      ]
    ]

pub words-trim : (s : List ℕ) → words (trim s) ≡ words s
words-trim s =
    let e = ends s in
    sym (words_before (trim s) e.after e.after_blank) ∙ (ap words (sym e.front_is) ∙ words-trim_front s)

bytes_put : (column b : ℕ) (ws : List Word) → word_bytes (put_word column b ws) ≡ put b (word_bytes ws)
bytes_put column b [] = refl
bytes_put column b (w ∷ ws) = refl

bytes_words : (column : ℕ) (s : List ℕ) → word_bytes (words_from column s) ≡ words s
bytes_words column [] = refl
bytes_words column (b ∷ s) =
    elim (bool_tells (is_blank b)) [
      | inl e ↦ rw e (bytes_words (column + 1) s)
      | inr e ↦ elim (bool_tells (begins_word s)) [
        | inl w ↦ rw (e, w) (bytes_put column b (words_from (column + 1) s) ∙ ap (put b) (bytes_words (column + 1) s))
        | inr w ↦ rw (e, w) (ap (λ (ws : List (List ℕ)). (b ∷ []) ∷ ws) (bytes_words (column + 1) s))
      ]
    ]

-- the words of a line are those of what it says
pub content_words : (line : List ℕ) → word_bytes (words_of line) ≡ words (content line)
content_words line = bytes_words 1 (without_comment line) ∙ sym (words-trim (without_comment line))

-- ---- a line of one word

put_some : (b : ℕ) (ws : List (List ℕ)) → put b ws ≡ [] → ⊥
put_some b [] e = absurd (cc)
put_some b (w ∷ ws) e = absurd (cc)

blank_words : (s : List ℕ) → words s ≡ [] → all_blank s ≡ true
blank_words [] e = refl
blank_words (b ∷ s) e =
    elim (bool_tells (is_blank b)) [
      | inl blank ↦ and_from (is_blank b) (all_blank s) blank (blank_words s (rw blank at e))
      | inr clear ↦ elim (bool_tells (begins_word s)) [
        | inl w ↦ absurd (put_some b (words s) (rw (clear, w) at e))
        | inr w ↦ absurd (let no : (b ∷ []) ∷ words s ≡ [] = rw (clear, w) at e in cc)
      ]
    ]

no_blank_end : (s t : List ℕ) → all_blank t ≡ true → begins_word (reverse (s ++ t)) ≡ true → t ≡ []
no_blank_end s [] h e = refl
no_blank_end s (b ∷ t) h e =
    let turned : begins_word (reverse (b ∷ t) ++ reverse s) ≡ true = ap begins_word (sym (reverse-append s (b ∷ t))) ∙ e in
    let blank : all_blank (reverse (b ∷ t)) ≡ true = blank_reverse (b ∷ t) h in
    absurd (let no : false ≡ true = sym (begins_first (reverse (b ∷ t)) (reverse s) blank (reverse_some b t)) ∙ turned in cc)
  where
    reverse_some : (c : ℕ) (u : List ℕ) → reverse (c ∷ u) ≡ [] → ⊥
    reverse_some c u f = let no : [] ≡ c ∷ u = sym (ap reverse f) ∙ reverse-reverse (c ∷ u) in absurd (cc)

    begins_first : (u v : List ℕ) → all_blank u ≡ true → (u ≡ [] → ⊥) → begins_word (u ++ v) ≡ false
    begins_first [] v k some = absurd (some refl)
    begins_first (c ∷ u) v k some = rw ((and_parts (is_blank c) (all_blank u) k).0) refl

pub one_word : (s w : List ℕ) → begins_word s ≡ true → begins_word (reverse s) ≡ true → words s ≡ w ∷ [] → s ≡ w
one_word s w h k e =
    let n : ℕ = prefix_len in_word s in
    let cut = word_cut s h in
    let pair : take n s ∷ words (drop n s) ≡ w ∷ [] = sym cut.1 ∙ e in
    let first : take n s ≡ w = cc in
    let none : words (drop n s) ≡ [] = cc in
    let whole : take n s ++ drop n s ≡ s = take-append-drop n s in
    let end : drop n s ≡ [] = no_blank_end (take n s) (drop n s) (blank_words (drop n s) none) (ap (λ (t : List ℕ). begins_word (reverse t)) whole ∙ k) in
    sym whole ∙ (ap (λ (t : List ℕ). take n s ++ t) end ∙ (append-nil (take n s) ∙ first))

-- ---- the ends of what a line says

some_empty : (s : List ℕ) → is_empty s ≡ false → s ≡ [] → ⊥
some_empty [] h e = absurd (cc)
some_empty (b ∷ s) h e = absurd (cc)

begins_more : (s t : List ℕ) → (s ≡ [] → ⊥) → begins_word (s ++ t) ≡ begins_word s
begins_more [] t some = absurd (some refl)
begins_more (b ∷ s) t some = refl

pub trim_ends : (s : List ℕ) → is_empty (trim s) ≡ false → (begins_word (trim s) ≡ true) × (begins_word (reverse (trim s)) ≡ true)
trim_ends s some =
    let u : List ℕ = trim_front (reverse (trim_front s)) in
    let not_none : trim s ≡ [] → ⊥ = some_empty (trim s) some in
    let last : begins_word u ≡ true = elim (trim_front_begins (reverse (trim_front s))) [ inl none ↦ absurd (not_none (ap reverse none)) | inr found ↦ found ] in
    let e = ends s in
    let first : begins_word (trim_front s) ≡ true = elim (trim_front_begins s) [
      | inl none ↦ absurd (not_none (ap (λ (t : List ℕ). reverse (trim_front (reverse t))) none))
      | inr found ↦ found
    ] in
    (sym (begins_more (trim s) e.after not_none) ∙ (ap begins_word (sym e.front_is) ∙ first), ap begins_word (reverse-reverse u) ∙ last)

no_parts : (c : ℕ) (a b : List ℕ) → has_no c (a ++ b) ≡ true → (has_no c a ≡ true) × (has_no c b ≡ true)
no_parts c [] b h = (refl, h)
no_parts c (x ∷ a) b h =
    let both = and_parts (not (c == x)) (has_no c (a ++ b)) h in
    let more = no_parts c a b both.1 in
    (and_from (not (c == x)) (has_no c a) both.0 more.0, more.1)

no_trim : (c : ℕ) (s : List ℕ) → has_no c s ≡ true → has_no c (trim s) ≡ true
no_trim c s h =
    let e = ends s in
    let all : has_no c (e.before ++ (trim s ++ e.after)) ≡ true = ap (has_no c) (sym e.is) ∙ h in
    (no_parts c (trim s) e.after (no_parts c e.before (trim s ++ e.after) all).1).0

pub plain_content : (line : List ℕ) → has_no 10 line ≡ true → is_plain (content line) ≡ true
plain_content line h =
    let both = and_parts (has_no 10 (without_comment line)) (has_no 35 (without_comment line)) (commented line h) in
    and_from (has_no 10 (content line)) (has_no 35 (content line)) (no_trim 10 (without_comment line) both.0) (no_trim 35 (without_comment line) both.1)

-- what a line says, where it is not the line that ends a body, can be the text of a body
pub body_line_is : (line : List ℕ) → has_no 10 line ≡ true → is_silent line ≡ false → not (bytes_eq (content line) (end_line body_name)) ≡ true → is_body_line (content line) ≡ true
body_line_is line h some other =
    let e = trim_ends (without_comment line) some in
    let both : (begins_word (content line) && begins_word (reverse (content line))) ≡ true = and_from (begins_word (content line)) (begins_word (reverse (content line))) e.0 e.1 in
    let plain : (begins_word (content line) && begins_word (reverse (content line)) && is_plain (content line)) ≡ true =
    and_from (begins_word (content line) && begins_word (reverse (content line))) (is_plain (content line)) both (plain_content line h) in
    and_from (begins_word (content line) && begins_word (reverse (content line)) && is_plain (content line)) (not (bytes_eq (content line) (end_line body_name))) plain other

-- ---- words with single spaces between them, and the line that ends a body

unbroken_parts : (a b : List ℕ) → unbroken (a ++ b) ≡ true → (unbroken a ≡ true) × (unbroken b ≡ true)
unbroken_parts [] b h = (refl, h)
unbroken_parts (x ∷ a) b h =
    let both = and_parts (not (is_blank x)) (unbroken (a ++ b)) h in
    let more = unbroken_parts a b both.1 in
    (and_from (not (is_blank x)) (unbroken a) both.0 more.0, more.1)

spaced_one : (ws : List (List ℕ)) (w : List ℕ) → is_word w ≡ true → spaced ws ≡ w → ws ≡ w ∷ []
spaced_one [] w h e = absurd (let no : false ≡ true = ap begins_word e ∙ (and_parts (begins_word w) (unbroken w) h).0 in cc)
spaced_one (v ∷ []) w h e = ap (λ (x : List ℕ). x ∷ []) e
spaced_one (v ∷ u ∷ ws) w h e =
    let whole : unbroken (v ++ (32 ∷ spaced (u ∷ ws))) ≡ true = ap unbroken e ∙ (and_parts (begins_word w) (unbroken w) h).1 in
    absurd (let no : false ≡ true = (unbroken_parts v (32 ∷ spaced (u ∷ ws)) whole).1 in cc)

word_words : (w : List ℕ) → is_word w ≡ true → words w ≡ w ∷ []
word_words w h = words-spaced (w ∷ []) (and_from (is_word w) true h refl)

differs : (a b : List ℕ) → (a ≡ b → ⊥) → not (bytes_eq a b) ≡ true
differs a b other =
    elim (bool_tells (bytes_eq a b)) [
      | inl e ↦ absurd (other ((bytes_eq-Decides a b).0 e))
      | inr e ↦ ap not e
    ]

pub differ : (a b : List ℕ) → not (bytes_eq a b) ≡ true → a ≡ b → ⊥
differ a b h e = absurd (let no : false ≡ true = ap not (sym ((bytes_eq-Decides a b).1 e)) ∙ h in cc)

-- a line says one word exactly where its words, with single spaces, are that word
pub spaced_differs : (line w : List ℕ) → is_word w ≡ true → is_silent line ≡ false → not (bytes_eq (content line) w) ≡ true → not (bytes_eq (spaced (word_bytes (words_of line))) w) ≡ true
spaced_differs line w h some other =
    let ws : List (List ℕ) = word_bytes (words_of line) in
    let e = trim_ends (without_comment line) some in
    differs (spaced ws) w (λ same.
    let alone : words (content line) ≡ w ∷ [] = sym (content_words line) ∙ spaced_one ws w h same in
    differ (content line) w other (one_word (content line) w e.0 e.1 alone))

pub content_differs : (line w : List ℕ) → is_word w ≡ true → not (bytes_eq (spaced (word_bytes (words_of line))) w) ≡ true → not (bytes_eq (content line) w) ≡ true
content_differs line w h other =
    differs (content line) w (λ same.
    let ws : word_bytes (words_of line) ≡ w ∷ [] = content_words line ∙ (ap words same ∙ word_words w h) in
    differ (spaced (word_bytes (words_of line))) w other (ap spaced ws))
