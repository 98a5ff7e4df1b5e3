-- The words of a line are those of what it says.
use Rattle.std.proofs.Common.{◌≡◌, refl, sym, ap, ◌∙◌, ℕ, List, [], ◌∷◌, ◌++◌, reverse, Bool, true, false, not, ◌&&◌, ◌==◌, inl, inr}
use Rattle.std.proofs.lemmas.Bool.{and_parts, and_from, eqb-false}
use Rattle.std.proofs.lemmas.List.{reverse-append, reverse-reverse}
use Rattle.suite_base.specs.Lines.{trim, trim_front, is_blank, put}
use Rattle.suite_base.specs.Words.{content, words, begins_word, without_comment}
use Rattle.suite_base.proofs.LineCuts.{bool_tells}
use Rattle.suite_base.proofs.WordCuts.{words-trim_front}
use Rattle.scop_core.specs.Printable.{has_no}
use Rattle.schedule_forms.proofs.ReadBackLists.{other_number}

abbrev all_blank : List ℕ → Bool
all_blank [] = true
all_blank (b ∷ s) = is_blank b && all_blank s

blank_append : (a b : List ℕ) → all_blank a ≡ true → all_blank b ≡ true → all_blank (a ++ b) ≡ true
blank_append [] b h k = k
blank_append (c ∷ a) b h k =
    let both = and_parts (is_blank c) (all_blank a) h in
    and_from (is_blank c) (all_blank (a ++ b)) both.0 (blank_append a b both.1 k)

blank_reverse : (s : List ℕ) → all_blank s ≡ true → all_blank (reverse s) ≡ true
blank_reverse [] h = refl
blank_reverse (b ∷ s) h =
    let both = and_parts (is_blank b) (all_blank s) h in
    let more : reverse (b ∷ s) ≡ reverse s ++ b ∷ [] = reverse-append (b ∷ []) s in
    rw more (blank_append (reverse s) (b ∷ []) (blank_reverse s both.1) (and_from (is_blank b) true both.0 refl))

-- the blanks at the front
record Front (s : List ℕ) : Type 0 where
  before : List ℕ
  blank : all_blank before ≡ true
  is : s ≡ before ++ trim_front s

front : (s : List ℕ) → Front s
front [] = record { before = []; blank = refl; is = refl }
front (b ∷ s) =
    elim (bool_tells (is_blank b)) [
      | inl e ↦
          let more = front s in
          record { before = b ∷ more.before; blank = and_from (is_blank b) (all_blank more.before) e more.blank; is = rw e (ap (λ (t : List ℕ). b ∷ t) more.is) }
      | inr e ↦ record { before = []; blank = refl; is = rw e refl }
    ]

words_blank : (s : List ℕ) → all_blank s ≡ true → words s ≡ []
words_blank [] h = refl
words_blank (b ∷ s) h =
    let both = and_parts (is_blank b) (all_blank s) h in
    rw (both.0) (words_blank s both.1)

begins_append : (s t : List ℕ) → all_blank t ≡ true → begins_word (s ++ t) ≡ begins_word s
begins_append [] [] h = refl
begins_append [] (b ∷ t) h = rw ((and_parts (is_blank b) (all_blank t) h).0) refl
begins_append (b ∷ s) t h = refl

words_before : (s t : List ℕ) → all_blank t ≡ true → words (s ++ t) ≡ words s
words_before [] t h = words_blank t h
words_before (b ∷ s) t h =
    elim (bool_tells (is_blank b)) [
      | inl e ↦ rw e (words_before s t h)
      | inr e ↦ elim (bool_tells (begins_word s)) [
        | inl w ↦ rw (e, begins_append s t h, w) (ap (put b) (words_before s t h))
        | inr w ↦ rw (e, begins_append s t h, w) (ap (λ (ws : List (List ℕ)). (b ∷ []) ∷ ws) (words_before s t h))
      ]
    ]

words-trim : (s : List ℕ) → words (trim s) ≡ words s
words-trim s =
    let t = trim_front s in
    let two = front (reverse t) in
    let back : t ≡ trim s ++ reverse two.before = sym (reverse-reverse t) ∙ (ap reverse two.is ∙ reverse-append two.before (trim_front (reverse t))) in
    sym (words_before (trim s) (reverse two.before) (blank_reverse two.before two.blank)) ∙ (ap words (sym back) ∙ words-trim_front s)

true_false : (b : Bool) → not b ≡ true → b ≡ false
true_false true h = absurd cc
true_false false h = refl

no_comment : (line : List ℕ) → has_no 35 line ≡ true → without_comment line ≡ line
no_comment [] h = refl
no_comment (b ∷ line) h =
    let both = and_parts (not (35 == b)) (has_no 35 line) h in
    let other : (b == 35) ≡ false = turned b (true_false (35 == b) both.0) in
    rw other (ap (λ (t : List ℕ). b ∷ t) (no_comment line both.1))
  where
    turned : (b : ℕ) → (35 == b) ≡ false → (b == 35) ≡ false
    turned b e = other_number b 35 (λ same. eqb-false 35 b e (sym same))

-- what a line without a comment says has the words of the line
pub content_words : (line : List ℕ) → has_no 35 line ≡ true → words (content line) ≡ words line
content_words line h = words-trim (without_comment line) ∙ ap words (no_comment line h)
