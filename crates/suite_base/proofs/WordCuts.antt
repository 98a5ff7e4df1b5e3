use Rattle.std.proofs.Common.{◌≡◌, ℕ, Bool, true, false, List, [], ◌∷◌, ◌++◌, ◌+◌, ◌-◌, ◌==◌, ◌⊎◌, inl, inr, not, take, drop, refl, sym, ap, suc, length, ◌≤◌, ◌<◌, ◌∙◌, arith}
use Rattle.std.specs.List.{prefix_len}
use Rattle.std.proofs.lemmas.Bool.{eqb-true, and_parts}
use Rattle.std.proofs.lemmas.List.{length-drop, drop-drop, append-nil}
use Rattle.std.proofs.lemmas.List.Sums.{prefix_len-le-length}
use Rattle.suite_base.specs.Lines.{is_blank, trim_front, put}
use Rattle.suite_base.specs.Words.{without_comment, words, begins_word, FirstWord, unbroken, is_word, are_words, spaced}
use Rattle.suite_base.proofs.LineCuts.{bool_tells}

-- a byte of a word
abbrev pub in_word : ℕ → Bool
in_word b = not (is_blank b)

abbrev pub in_content : ℕ → Bool
in_content b = not (b == 35)

pub comment_cut : (s : List ℕ) → without_comment s ≡ take (prefix_len in_content s) s
comment_cut [] = refl
comment_cut (b ∷ s) =
    elim (bool_tells (b == 35)) [
      | inl e ↦ simp e refl
      | inr e ↦
          let more : 1 + prefix_len in_content s ≡ suc (prefix_len in_content s) = omega arith in
          simp (e, more) (ap (λ (t : List ℕ). b ∷ t) (comment_cut s))
    ]

-- where the blanks at the front end
pub record FrontCut (s : List ℕ) : Type 0 where
  pub at : ℕ
  pub rest : trim_front s ≡ drop at s
  pub sizes : at + length (trim_front s) ≡ length s

pub front_cut : (s : List ℕ) → FrontCut s
front_cut [] = record { at = 0; rest = refl; sizes = refl }
front_cut (b ∷ s) =
    elim (bool_tells (is_blank b)) [
      | inl e ↦
          let more = front_cut s in
          record { at = suc (more.at); rest = simp e more.rest; sizes = simp e (omega (arith, more.sizes)) }
      | inr e ↦ record { at = 0; rest = simp e refl; sizes = simp e (omega arith) }
    ]

pub words-trim_front : (s : List ℕ) → words (trim_front s) ≡ words s
words-trim_front [] = refl
words-trim_front (b ∷ s) =
    elim (bool_tells (is_blank b)) [
      | inl e ↦ simp e (words-trim_front s)
      | inr e ↦ simp e refl
    ]

pub trim_front_begins : (s : List ℕ) → (trim_front s ≡ []) ⊎ (begins_word (trim_front s) ≡ true)
trim_front_begins [] = inl refl
trim_front_begins (b ∷ s) =
    elim (bool_tells (is_blank b)) [
      | inl e ↦ simp e (trim_front_begins s)
      | inr e ↦ simp e (inr refl)
    ]

no_word : (s : List ℕ) → begins_word s ≡ false → prefix_len in_word s ≡ 0
no_word [] e = refl
no_word (b ∷ s) e = simp e refl

pub word_cut : (s : List ℕ) → begins_word s ≡ true → (0 < prefix_len in_word s) × (words s ≡ take (prefix_len in_word s) s ∷ words (drop (prefix_len in_word s) s))
word_cut [] e = absurd cc
word_cut (b ∷ s) e =
    elim (bool_tells (is_blank b)) [
      | inl blank ↦ absurd (let no : false ≡ true = simp blank at e in cc)
      | inr clear ↦ elim (bool_tells (begins_word s)) [
        | inl more ↦
            let next = word_cut s more in
            let one : 1 + prefix_len in_word s ≡ suc (prefix_len in_word s) = omega arith in
            simp (clear, more, one) (omega arith, ap (put b) next.1)
        | inr last ↦ simp (clear, last, no_word s last) (omega arith, refl)
      ]
    ]

begins_from : (s : List ℕ) → 0 < length (trim_front s) → begins_word (trim_front s) ≡ true
begins_from s h =
    elim (trim_front_begins s) [
      | inl none ↦ absurd (omega (arith, ap length none))
      | inr found ↦ found
    ]

pub none_empty : (rest : List ℕ) → (length rest == 0) ≡ true → rest ≡ []
none_empty [] e = refl
none_empty (b ∷ rest) e = absurd (omega (arith, eqb-true (length (b ∷ rest)) 0 e))

pub some_bytes : (rest : List ℕ) → (length rest == 0) ≡ false → 0 < length rest
some_bytes [] e = absurd cc
some_bytes (b ∷ rest) e = omega arith

pub length_le_trimmed : (s rest : List ℕ) → rest ≡ trim_front s → length rest ≤ length s
length_le_trimmed s rest e = omega (arith, (front_cut s).sizes, ap length e)

-- what is found from the trimmed rest of a line is its first word
pub first_word_is : (line rest : List ℕ) (from size : ℕ) → from ≤ length line → rest ≡ trim_front (drop from line) → (length rest == 0) ≡ false → size ≡ prefix_len in_word rest
    → FirstWord line from (length line - length rest) (length line - length rest + size)
first_word_is line rest from size h e some k =
    let full : 0 < length rest = some_bytes rest some in
    let cut = front_cut (drop from line) in
    let sizes : length rest ≡ length (trim_front (drop from line)) = ap length e in
    let left : length (drop from line) ≡ length line - from = length-drop from line in
    let at : length line - length rest ≡ from + cut.at = omega (arith, cut.sizes) in
    let here : drop (from + cut.at) line ≡ rest = sym (drop-drop cut.at from line) ∙ (sym cut.rest ∙ sym e) in
    let begins : begins_word rest ≡ true = rw e (begins_from (drop from line) (rw (sym e) full)) in
    let found = word_cut rest begins in
    let fits : size ≤ length rest = rw k (prefix_len-le-length in_word rest) in
    let past : drop size rest ≡ drop (from + cut.at + size) line = ap (drop size) (sym here) ∙ drop-drop size (from + cut.at) line in
    let same : from + cut.at + size - (from + cut.at) ≡ size = omega arith in
    rw at (record {
      after = omega arith;
      some = omega (arith, found.0);
      within = omega arith;
      gap = sym e ∙ sym here;
      word = sym (words-trim_front (drop from line)) ∙ (ap words (sym e) ∙ (found.1 ∙ rw (same, here, ← k, past) refl));
    })

-- ---- words joined by single spaces

in_word_clear : (b : Bool) → not b ≡ true → b ≡ false
in_word_clear true h = absurd cc
in_word_clear false h = refl

words_more : (b : ℕ) (s : List ℕ) → is_blank b ≡ false → begins_word s ≡ true → words (b ∷ s) ≡ put b (words s)
words_more b s e h = rw (e, h) refl

words_one : (b : ℕ) (s : List ℕ) → is_blank b ≡ false → begins_word s ≡ false → words (b ∷ s) ≡ (b ∷ []) ∷ words s
words_one b s e h = rw (e, h) refl

-- a word before a blank or the end of the line stands first among the words
word_first : (word rest : List ℕ) → begins_word word ≡ true → unbroken word ≡ true → begins_word rest ≡ false → words (word ++ rest) ≡ word ∷ words rest
word_first [] rest h u e = absurd cc
word_first (b ∷ []) rest h u e = words_one b rest (in_word_clear (is_blank b) h) e
word_first (b ∷ c ∷ word) rest h u e =
    let outer = and_parts (not (is_blank b)) (unbroken (c ∷ word)) u in
    let inner = and_parts (not (is_blank c)) (unbroken word) outer.1 in
    words_more b (c ∷ (word ++ rest)) (in_word_clear (is_blank b) h) inner.0 ∙ ap (put b) (word_first (c ∷ word) rest inner.0 outer.1 e)

-- the words of words with single spaces between them are these words
pub words-spaced : (ws : List (List ℕ)) → are_words ws ≡ true → words (spaced ws) ≡ ws
words-spaced [] h = refl
words-spaced (word ∷ []) h =
    let parts = and_parts (is_word word) true h in
    let own = and_parts (begins_word word) (unbroken word) parts.0 in
    ap words (sym (append-nil word)) ∙ word_first word [] own.0 own.1 refl
words-spaced (word ∷ next ∷ more) h =
    let parts = and_parts (is_word word) (are_words (next ∷ more)) h in
    let own = and_parts (begins_word word) (unbroken word) parts.0 in
    word_first word (32 ∷ spaced (next ∷ more)) own.0 own.1 refl ∙ ap (λ (ws : List (List ℕ)). word ∷ ws) (words-spaced (next ∷ more) parts.1)
