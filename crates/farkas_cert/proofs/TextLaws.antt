-- A printed certificate reads back, and what is read is in range.
use Rattle.std.proofs.Common.{◌≡◌, refl, ap, sym, ◌∙◌, inl, inr, ℕ, zero, suc, take, drop, get_or, ◌≤◌, ◌-◌, ◌<◌, ◌^◌, List, [], ◌∷◌, ◌++◌, length, arith, append_assoc}
use Rattle.std.specs.Prelude.{Result, Ok, Err, OnOk, ℤ, Bool, true, ◌&&◌, map, Option, Some, None, unsigned_abs}
use Rattle.std.specs.List.{flat_map}
use Rattle.std.specs.Fmt.{signed_decimal}
use Rattle.std.proofs.lemmas.List.{append-nil}
use Rattle.std.proofs.lemmas.Bool.Decides.{nat_tests}
use Rattle.row_core.specs.Rows.{entry}
use Rattle.suite_base.specs.Numbers.{number_read, number_value, is_number_word, is_coefficient}
use Rattle.suite_base.specs.Words.{are_words, is_word}
use Rattle.suite_base.specs.declared.numbers.NumberRead.TheVariants.{Value, TooLarge, NotNumber}
use Rattle.suite_base.proofs.NumberLaws.{signed_decimal_reads, number_is_word}
use Rattle.suite_base.proofs.WordCuts.{words-spaced}
use Rattle.suite_base.proofs.LineCuts.{bool_tells}
use Rattle.relation_core.specs.Layouts.{spaced as after_space}
use Rattle.farkas_cert.specs.Texts.{certificate_line, prepended, one_more, multipliers_read, ReadsBack}

-- the first multiplier, and each other one after a space
pub line_is : (l : ℤ) (ls : List ℤ) → certificate_line (l ∷ ls) ≡ signed_decimal l ++ flat_map after_space ls
line_is l [] = sym (append-nil (signed_decimal l))
line_is l (m ∷ ls) = ap (λ t. signed_decimal l ++ (32 ∷ t)) (line_is m ls)

-- a number that is read is in range
pub read_bounded : (word : List ℕ) (z : ℤ) → number_read word ≡ Value z → unsigned_abs z < 2 ^ 127
read_bounded word z e = elim (bool_tells (is_number_word word)) [
  | inl n ↦ elim (bool_tells (is_coefficient (number_value word))) [
    | inl c ↦ let f : Value (number_value word) ≡ Value z = rw (n, c) at e in
        let g : number_value word ≡ z = cc in
        rw (← g) (grind (arith, nat_tests))
    | inr c ↦ let f : TooLarge ≡ Value z = rw (n, c) at e in cc
  ]
  | inr n ↦ let f : NotNumber ≡ Value z = rw n at e in cc
]

reads_each : (ls : List ℤ) → ((k : ℕ) → unsigned_abs (entry ls k) < 2 ^ 127) → multipliers_read (map signed_decimal ls) ≡ Some ls
reads_each [] h = refl
reads_each (l ∷ ls) h =
    let a : number_read (signed_decimal l) ≡ Value l = signed_decimal_reads l (h 0) in
    let b : multipliers_read (map signed_decimal ls) ≡ Some ls = reads_each ls (λ k. h (suc k)) in
    rw (a, b) refl

both_words : (a b : Bool) → a ≡ true → b ≡ true → (a && b) ≡ true
both_words a b e f = rw (e, f) refl

all_words : (ls : List ℤ) → ((k : ℕ) → unsigned_abs (entry ls k) < 2 ^ 127) → are_words (map signed_decimal ls) ≡ true
all_words [] h = refl
all_words (l ∷ ls) h =
    let b : unsigned_abs l < 2 ^ 127 = h 0 in
    both_words (is_word (signed_decimal l)) (are_words (map signed_decimal ls)) (number_is_word l (omega arith)) (all_words ls (λ k. h (suc k)))

pub reads_back_law : ReadsBack
reads_back_law ls h = ap multipliers_read (words-spaced (map signed_decimal ls) (all_words ls h.bound)) ∙ reads_each ls h.bound

-- a number that is read in a loop joins those before it
pub read_step : (before : List ℤ) (l : ℤ) (rest : Option (List ℤ)) → prepended (before ++ (l ∷ [])) rest ≡ prepended before (one_more (Some l) rest)
read_step before l None = refl
read_step before l (Some rest) = ap Some (append_assoc before (l ∷ []) rest)

take_whole : (n : ℕ) (xs : List ℤ) → n ≡ length xs → take n xs ≡ xs
take_whole zero [] e = refl
take_whole zero (x ∷ xs) e = absurd (omega arith)
take_whole (suc n) [] e = absurd (omega arith)
take_whole (suc n) (x ∷ xs) e = ap (λ t. x ∷ t) (take_whole n xs (omega arith))

line_parts : (xs : List ℤ) (x : ℤ) → 1 ≤ length xs → x ≡ get_or xs 0 x → certificate_line xs ≡ signed_decimal x ++ flat_map after_space (take (length xs - 1) (drop 1 xs))
line_parts [] x l e = absurd (omega arith)
line_parts (y ∷ ys) x l e =
    let t : take (length (y ∷ ys) - 1) ys ≡ ys = take_whole (length (y ∷ ys) - 1) ys (omega arith) in
    rw (t, e) (line_is y ys)

-- a line is pushed as its first multiplier and the others
pub pushed_line : {E : Type 0} (r : Result (Unit {0}) E) (new text mid : List ℕ) (xs : List ℤ) (x : ℤ) → 1 ≤ length xs → x ≡ get_or xs 0 x → mid ≡ text ++ signed_decimal x
    → OnOk r (new ≡ mid ++ flat_map after_space (take (length xs - 1) (drop 1 xs))) → OnOk r (new ≡ text ++ certificate_line xs)
pushed_line (Err e) new text mid xs x l f m p = tt
pushed_line (Ok u) new text mid xs x l f m p =
    p ∙ (ap (λ t. t ++ flat_map after_space (take (length xs - 1) (drop 1 xs))) m
    ∙ (append_assoc text (signed_decimal x) (flat_map after_space (take (length xs - 1) (drop 1 xs)))
    ∙ ap (λ t. text ++ t) (sym (line_parts xs x l f))))
