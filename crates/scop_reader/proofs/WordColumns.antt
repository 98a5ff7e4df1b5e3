-- The words of a line with their columns, beside the first word from a place on.
use Rattle.std.proofs.Common.{◌≡◌, ℕ, true, false, List, [], ◌∷◌, ◌+◌, ◌-◌, ◌≤◌, ◌<◌, inl, inr, take, drop, refl, sym, ap, suc, length, ◌∙◌, arith}
use Rattle.std.specs.List.{prefix_len}
use Rattle.std.proofs.lemmas.List.{length-drop, length-take, drop-drop}
use Rattle.std.proofs.lemmas.List.Sums.{prefix_len-le-length}
use Rattle.suite_base.specs.Lines.{is_blank, trim_front, put}
use Rattle.suite_base.specs.Words.{words, begins_word, FirstWord}
use Rattle.suite_base.proofs.LineCuts.{bool_tells}
use Rattle.suite_base.proofs.WordCuts.{in_word, front_cut, words-trim_front, trim_front_begins, word_cut}
use Rattle.scop_reader.specs.Lines.{words_from, put_word}

-- blanks at the front move the words
pub words_behind_blanks : (column : ℕ) (s : List ℕ) → words_from column s ≡ words_from (column + (length s - length (trim_front s))) (trim_front s)
words_behind_blanks column [] = refl
words_behind_blanks column (b ∷ s) =
    elim (bool_tells (is_blank b)) [
      | inl e ↦
          let size : length (trim_front s) ≤ length s = omega (arith, (front_cut s).sizes) in
          let at : column + 1 + (length s - length (trim_front s)) ≡ column + (suc (length s) - length (trim_front s)) = omega arith in
          simp e (words_behind_blanks (column + 1) s ∙ ap (λ n. words_from n (trim_front s)) at)
      | inr e ↦
          let at : column ≡ column + (suc (length s) - suc (length s)) = omega arith in
          simp e (simp e at (ap (λ n. words_from n (b ∷ s)) at))
    ]

no_word : (s : List ℕ) → begins_word s ≡ false → prefix_len in_word s ≡ 0
no_word [] e = refl
no_word (b ∷ s) e = simp e refl

no_put : (b : ℕ) (ws : List (List ℕ)) → put b ws ≡ [] → ⊥
no_put b [] e = cc
no_put b (w ∷ ws) e = cc

begins_at : (s rest : List ℕ) → trim_front s ≡ rest → 0 < length rest → begins_word rest ≡ true
begins_at s rest e full =
    elim (trim_front_begins s) [
      | inl none ↦ absurd (let gone : rest ≡ [] = sym e ∙ none in omega (arith, ap length gone))
      | inr found ↦ rw e at found
    ]

same_first : (v w : List ℕ) (vs ws : List (List ℕ)) → v ∷ vs ≡ w ∷ ws → v ≡ w
same_first v w vs ws e = cc

sized : (m n : ℕ) (s : List ℕ) → m ≤ length s → n ≤ length s → take m s ≡ take n s → n ≡ m
sized m n s h k e = omega (arith, ap length e, length-take m s, length-take n s)

pub word_columns : (column : ℕ) (s : List ℕ) → begins_word s ≡ true
    → words_from column s ≡ record { column = column; bytes = take (prefix_len in_word s) s } ∷ words_from (column + prefix_len in_word s) (drop (prefix_len in_word s) s)
word_columns column [] e = absurd cc
word_columns column (b ∷ s) e =
    elim (bool_tells (is_blank b)) [
      | inl blank ↦ absurd (let wrong : false ≡ true = simp blank at e in cc)
      | inr clear ↦ elim (bool_tells (begins_word s)) [
        | inl more ↦
            let one : 1 + prefix_len in_word s ≡ suc (prefix_len in_word s) = omega arith in
            let at : column + 1 + prefix_len in_word s ≡ column + suc (prefix_len in_word s) = omega arith in
            simp (clear, more, one) (ap (put_word column b) (word_columns (column + 1) s more) ∙ simp at refl)
        | inr last ↦ simp (clear, last, no_word s last) refl
      ]
    ]

-- no words, no words with columns
pub no_columns : (column : ℕ) (s : List ℕ) → words s ≡ [] → words_from column s ≡ []
no_columns column [] e = refl
no_columns column (b ∷ s) e =
    elim (bool_tells (is_blank b)) [
      | inl blank ↦ let rest : words s ≡ [] = simp blank at e in simp blank (no_columns (column + 1) s rest)
      | inr clear ↦ elim (bool_tells (begins_word s)) [
        | inl more ↦ let put_is : put b (words s) ≡ [] = simp (clear, more) at e in absurd (no_put b (words s) put_is)
        | inr last ↦ let two : (b ∷ []) ∷ words s ≡ [] = simp (clear, last) at e in absurd cc
      ]
    ]

-- the first word at or after a place, with its column
pub first_column : (line : List ℕ) (from start end : ℕ) → FirstWord line from start end
    → words_from (from + 1) (drop from line) ≡ record { column = start + 1; bytes = take (end - start) (drop start line) } ∷ words_from (end + 1) (drop end line)
first_column line from start end found =
    let rest = drop start line in
    let rest_size : length rest ≡ length line - start = length-drop start line in
    let from_size : length (drop from line) ≡ length line - from = length-drop from line in
    let trimmed : length (trim_front (drop from line)) ≡ length rest = ap length found.gap in
    let after = found.after in
    let some = found.some in
    let within = found.within in
    let at : from + 1 + (length (drop from line) - length (trim_front (drop from line))) ≡ start + 1 = omega arith in
    let full : 0 < length rest = omega arith in
    let begins : begins_word rest ≡ true = begins_at (drop from line) rest found.gap full in
    let size : prefix_len in_word rest ≡ end - start =
    sized (end - start) (prefix_len in_word rest) rest (omega arith) (prefix_len-le-length in_word rest)
    (same_first (take (end - start) rest) (take (prefix_len in_word rest) rest) (words (drop end line)) (words (drop (prefix_len in_word rest) rest))
    (sym found.word ∙ (sym (words-trim_front (drop from line)) ∙ (ap words found.gap ∙ (word_cut rest begins).1)))) in
    let end_is : drop (end - start) rest ≡ drop end line = let sum : start + (end - start) ≡ end = omega arith in drop-drop (end - start) start line ∙ ap (λ n. drop n line) sum in
    let column : start + 1 + (end - start) ≡ end + 1 = omega arith in
    words_behind_blanks (from + 1) (drop from line)
    ∙ (ap (λ n. words_from n (trim_front (drop from line))) at
    ∙ (ap (words_from (start + 1)) found.gap
    ∙ (word_columns (start + 1) rest begins ∙ rw (size, end_is, column) refl)))
