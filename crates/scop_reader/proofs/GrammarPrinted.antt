-- What is printed for a line says what the line is to say.
use Rattle.std.proofs.Common.{◌≡◌, refl, sym, ap, ◌∙◌, Some, ℕ, ℤ, unsigned_abs, ◌+◌, ◌^◌, ◌≤◌, ◌<◌, List, [], ◌∷◌, ◌++◌, map, reverse, Bool, true, false, not, ◌==◌, inl, inr, arith, append_assoc}
use Rattle.std.specs.Prelude.{nat_le, ◌||◌}
use Rattle.std.specs.List.{flat_map, AllByRecursion}
use Rattle.std.specs.Fmt.{signed_decimal}
use Rattle.std.specs.Str.{bytes_eq}
use Rattle.std.proofs.lemmas.Bool.{and_parts, and_from, or_left, leb-true, lt-leb, eqb-true, false_from_ne_true}
use Rattle.std.proofs.lemmas.Bool.Decides.{leb_tells}
use Rattle.std.proofs.lemmas.List.{append-nil, reverse-append, reverse-reverse}
use Rattle.std.proofs.lemmas.Slice.Eq.{bytes_eq-Decides}
use Rattle.suite_base.specs.Lines.{lines, trim, trim_front, is_blank}
use Rattle.suite_base.specs.Words.{content, words, begins_word, is_word, are_words, spaced, without_comment}
use Rattle.suite_base.specs.Numbers.{number_read, is_digit, all_digits, are_digits, is_number_word}
use Rattle.suite_base.proofs.LineCuts.{bool_tells}
use Rattle.suite_base.proofs.WordCuts.{words-spaced}
use Rattle.suite_base.proofs.NumberLaws.{signed_decimal_word, signed_decimal_reads, number_is_word}
use Rattle.suite_base.specs.Bytes.{begins_name, is_name_byte}
use Rattle.scop_data.specs.LineWords.{are_same, are_numbers, is_value}
use Rattle.scop_data.proofs.LineWords.{words_same, is_its_value}
use Rattle.scop_core.specs.Printable.{has_no, is_plain, is_name, are_names, are_name_bytes, is_extension_name, end_line}
use Rattle.scop_reader.specs.Lines.{Rest, is_empty, is_silent, words_of, word_bytes}
use Rattle.scop_reader.specs.Documents.{Said, Literal, Words, Numbers, Entry, Closing, Raw, End, says, is_raw, is_entry, behind, behind_all, open_line}
use Rattle.scop_reader.proofs.GrammarLines.{false_of, other_way, join_one}
use Rattle.scop_reader.proofs.GrammarWords.{plain_more}
use Rattle.scop_reader.proofs.GrammarText.{content_words, words-trim}

-- ---- what is printed for a line

-- words with a space before each but the first
abbrev pub joined : List (List ℕ) → List ℕ
joined [] = []
joined (word ∷ more) = word ++ flat_map (λ next. 32 ∷ next) more

abbrev pub printed : Said → List ℕ
printed (Literal text) = text
printed (Words words) = joined words
printed (Numbers numbers) = joined (map signed_decimal numbers)
printed (Entry number word) = joined (signed_decimal number ∷ (word ∷ []))
printed (Closing text) = text
printed (Raw text) = text
printed (End text) = text

abbrev pub printed_line : Said → List ℕ
printed_line said = printed said ++ 10 ∷ []

abbrev pub printed_text : List Said → List ℕ
printed_text saids = flat_map printed_line saids

-- what is printed is one line, which says what it is to say, and is not silent where silent lines are skipped
pub record IsGood (said : Said) : Type 0 where
  pub said_is : says said (printed said) ≡ true
  pub one_line : has_no 10 (printed said) ≡ true
  pub speaks : (is_raw said || not (is_silent (printed said))) ≡ true

-- ---- the lines of a printed text

line_end : (text : List ℕ) (more : List ℕ) → has_no 10 text ≡ true → lines (text ++ 10 ∷ more) ≡ text ∷ lines more
line_end [] more h = refl
line_end (b ∷ text) more h =
    let both = and_parts (not (10 == b)) (has_no 10 text) h in
    let other : (b == 10) ≡ false = other_way 10 b (false_of (10 == b) both.0) in
    rw (other, line_end text more both.1) refl

pub printed_lines : (saids : List Said) → AllByRecursion IsGood saids → lines (printed_text saids) ≡ map printed saids
printed_lines [] h = refl
printed_lines (said ∷ saids) h =
    ap lines (append_assoc (printed said) (10 ∷ []) (printed_text saids)) ∙ (line_end (printed said) (printed_text saids) h.0.one_line
    ∙ ap (λ (ls : List (List ℕ)). printed said ∷ ls) (printed_lines saids h.1))

-- each line says what it is to say
printed_behind : (said : Said) (n : ℕ) (ls : List (List ℕ)) → IsGood said → behind said (record { number = n; lines = printed said ∷ ls }) ≡ Some (record { number = n + 1; lines = ls })
printed_behind said n ls good =
    elim (bool_tells (is_raw said)) [
      | inl raw ↦ rw (raw, good.said_is) refl
      | inr plain ↦
          let loud : is_silent (printed said) ≡ false = false_of (is_silent (printed said)) (ap (λ (b : Bool). b || not (is_silent (printed said))) (sym plain) ∙ good.speaks) in
          rw (plain, loud, good.said_is) refl
    ]

pub printed_says : (saids : List Said) (n : ℕ) → AllByRecursion IsGood saids → (rest : Rest) × (behind_all saids (record { number = n; lines = map printed saids }) ≡ Some rest) × (rest.lines ≡ [])
printed_says [] n h = (record { number = n; lines = [] }, refl, refl)
printed_says (said ∷ saids) n h =
    let more = printed_says saids (n + 1) h.1 in
    (more.0, join_one said saids (record { number = n; lines = printed said ∷ map printed saids }) (record { number = n + 1; lines = map printed saids }) more.0 (printed_behind said n (map printed saids) h.0) more.1, more.2)

-- ---- texts that begin and end with no blank

-- one line that begins and ends with no blank, without a comment
pub record IsTrimmed (text : List ℕ) : Type 0 where
  pub begins : begins_word text ≡ true
  pub ends : begins_word (reverse text) ≡ true
  pub plain : is_plain text ≡ true

front_same : (text : List ℕ) → begins_word text ≡ true → trim_front text ≡ text
front_same [] h = refl
front_same (b ∷ text) h = rw (false_of (is_blank b) h) refl

pub trim_same : (text : List ℕ) → begins_word text ≡ true → begins_word (reverse text) ≡ true → trim text ≡ text
trim_same text begins ends =
    ap (λ (t : List ℕ). reverse (trim_front (reverse t))) (front_same text begins) ∙ (ap reverse (front_same (reverse text) ends) ∙ reverse-reverse text)

pub no_comment : (text : List ℕ) → has_no 35 text ≡ true → without_comment text ≡ text
no_comment [] h = refl
no_comment (b ∷ text) h =
    let both = and_parts (not (35 == b)) (has_no 35 text) h in
    let other : (b == 35) ≡ false = other_way 35 b (false_of (35 == b) both.0) in
    rw other (ap (λ (t : List ℕ). b ∷ t) (no_comment text both.1))

content_same : (text : List ℕ) → IsTrimmed text → content text ≡ text
content_same text t =
    ap trim (no_comment text (and_parts (has_no 10 text) (has_no 35 text) t.plain).1) ∙ trim_same text t.begins t.ends

not_empty : (text : List ℕ) → begins_word text ≡ true → not (is_empty text) ≡ true
not_empty [] h = absurd (cc)
not_empty (b ∷ text) h = refl

pub literal_good : (text : List ℕ) → IsTrimmed text → IsGood (Literal text)
literal_good text t = record {
  said_is = (bytes_eq-Decides (content text) text).1 (content_same text t);
  one_line = (and_parts (has_no 10 text) (has_no 35 text) t.plain).0;
  speaks = ap (λ (x : List ℕ). not (is_empty x)) (content_same text t) ∙ not_empty text t.begins;
}

pub closing_good : (text : List ℕ) → IsTrimmed text → IsGood (Closing text)
closing_good text t = record {
  said_is = (bytes_eq-Decides (trim text) text).1 (trim_same text t.begins t.ends);
  one_line = (and_parts (has_no 10 text) (has_no 35 text) t.plain).0;
  speaks = ap (λ (x : List ℕ). not (is_empty x)) (content_same text t) ∙ not_empty text t.begins;
}

pub end_good : (text : List ℕ) → IsTrimmed text → IsGood (End text)
end_good text t = record {
  said_is = (bytes_eq-Decides (trim text) text).1 (trim_same text t.begins t.ends);
  one_line = (and_parts (has_no 10 text) (has_no 35 text) t.plain).0;
  speaks = refl;
}

pub raw_good : (text : List ℕ) → has_no 10 text ≡ true → IsGood (Raw text)
raw_good text h = record { said_is = (bytes_eq-Decides text text).1 refl; one_line = h; speaks = refl }

-- ---- words

pub no_append : (c : ℕ) (a b : List ℕ) → has_no c a ≡ true → has_no c b ≡ true → has_no c (a ++ b) ≡ true
no_append c [] b h k = k
no_append c (x ∷ a) b h k =
    let both = and_parts (not (c == x)) (has_no c a) h in
    and_from (not (c == x)) (has_no c (a ++ b)) both.0 (no_append c a b both.1 k)

pub plain_append : (a b : List ℕ) → is_plain a ≡ true → is_plain b ≡ true → is_plain (a ++ b) ≡ true
plain_append a b h k =
    let one = and_parts (has_no 10 a) (has_no 35 a) h in
    let two = and_parts (has_no 10 b) (has_no 35 b) k in
    and_from (has_no 10 (a ++ b)) (has_no 35 (a ++ b)) (no_append 10 a b one.0 two.0) (no_append 35 a b one.1 two.1)

plain_more_words : (ws : List (List ℕ)) → are_names ws ≡ true → is_plain (flat_map (λ next. 32 ∷ next) ws) ≡ true
plain_more_words [] h = refl
plain_more_words (w ∷ ws) h =
    let both = and_parts (is_name w) (are_names ws) h in
    plain_append (32 ∷ w) (flat_map (λ next. 32 ∷ next) ws) (plain_more 32 w refl (and_parts (is_word w) (is_plain w) both.0).1) (plain_more_words ws both.1)

joined_plain : (ws : List (List ℕ)) → are_names ws ≡ true → is_plain (joined ws) ≡ true
joined_plain [] h = refl
joined_plain (w ∷ ws) h =
    let both = and_parts (is_name w) (are_names ws) h in
    plain_append w (flat_map (λ next. 32 ∷ next) ws) (and_parts (is_word w) (is_plain w) both.0).1 (plain_more_words ws both.1)

pub joined_spaced : (ws : List (List ℕ)) → joined ws ≡ spaced ws
joined_spaced [] = refl
joined_spaced (w ∷ []) = append-nil w
joined_spaced (w ∷ v ∷ ws) = ap (λ (t : List ℕ). w ++ (32 ∷ t)) (joined_spaced (v ∷ ws))

names_words : (ws : List (List ℕ)) → are_names ws ≡ true → are_words ws ≡ true
names_words [] h = refl
names_words (w ∷ ws) h =
    let both = and_parts (is_name w) (are_names ws) h in
    and_from (is_word w) (are_words ws) (and_parts (is_word w) (is_plain w) both.0).0 (names_words ws both.1)

-- the words of joined names are these names
pub joined_words : (ws : List (List ℕ)) → are_names ws ≡ true → word_bytes (words_of (joined ws)) ≡ ws
joined_words ws h =
    content_words (joined ws) ∙ (words-trim (without_comment (joined ws)) ∙ (ap words (no_comment (joined ws) (and_parts (has_no 10 (joined ws)) (has_no 35 (joined ws)) (joined_plain ws h)).1)
    ∙ (ap words (joined_spaced ws) ∙ words-spaced ws (names_words ws h))))

-- a line with a word is not silent
words_speak : (line : List ℕ) (w : List ℕ) (ws : List (List ℕ)) → word_bytes (words_of line) ≡ w ∷ ws → not (is_silent line) ≡ true
words_speak line w ws e = some (content line) (sym (content_words line) ∙ e)
  where
    some : (text : List ℕ) → words text ≡ w ∷ ws → not (is_empty text) ≡ true
    some [] f = absurd (cc)
    some (b ∷ text) f = refl

pub words_good : (w : List ℕ) (ws : List (List ℕ)) → are_names (w ∷ ws) ≡ true → IsGood (Words (w ∷ ws))
words_good w ws h =
    let same : word_bytes (words_of (joined (w ∷ ws))) ≡ w ∷ ws = joined_words (w ∷ ws) h in
    record {
      said_is = ap (λ (vs : List (List ℕ)). are_same vs (w ∷ ws)) same ∙ words_same (w ∷ ws);
      one_line = (and_parts (has_no 10 (joined (w ∷ ws))) (has_no 35 (joined (w ∷ ws))) (joined_plain (w ∷ ws) h)).0;
      speaks = words_speak (joined (w ∷ ws)) w ws same;
    }

-- ---- numbers

not_low : (c b : ℕ) → c < 45 → 45 ≤ b → not (c == b) ≡ true
not_low c b h k =
    elim (bool_tells (c == b)) [
      | inl e ↦ absurd (omega (arith, eqb-true c b e))
      | inr e ↦ ap not e
    ]

high_plain : (b : ℕ) → 45 ≤ b → is_plain (b ∷ []) ≡ true
high_plain b h =
    and_from (has_no 10 (b ∷ [])) (has_no 35 (b ∷ [])) (and_from (not (10 == b)) true (not_low 10 b (omega arith) h) refl) (and_from (not (35 == b)) true (not_low 35 b (omega arith) h) refl)

digits_plain : (ds : List ℕ) → all_digits ds ≡ true → is_plain ds ≡ true
digits_plain [] h = refl
digits_plain (d ∷ ds) h =
    let both = and_parts (is_digit d) (all_digits ds) h in
    let low : 48 ≤ d = leb-true 48 d (and_parts (nat_le 48 d) (nat_le d 57) both.0).0 in
    plain_more d ds (high_plain d (omega arith)) (digits_plain ds both.1)

are_digits_plain : (ds : List ℕ) → are_digits ds ≡ true → is_plain ds ≡ true
are_digits_plain [] h = absurd (cc)
are_digits_plain (d ∷ ds) h = digits_plain (d ∷ ds) h

number_plain : (word : List ℕ) → is_number_word word ≡ true → is_plain word ≡ true
number_plain [] h = absurd (cc)
number_plain (b ∷ ds) h =
    elim (bool_tells (b == 45)) [
      | inl e ↦
          let more : are_digits ds ≡ true = rw e at h in
          let is : b ≡ 45 = eqb-true b 45 e in
          plain_more b ds (high_plain b (omega arith)) (are_digits_plain ds more)
      | inr e ↦ let all : are_digits (b ∷ ds) ≡ true = rw e at h in are_digits_plain (b ∷ ds) all
    ]

-- numbers that a coefficient can be
abbrev pub AreSmall : List ℤ → Type 0
AreSmall ns = AllByRecursion (λ n. unsigned_abs n < 2 ^ 127) ns

number_name : (n : ℤ) → unsigned_abs n < 2 ^ 127 → is_name (signed_decimal n) ≡ true
number_name n h = and_from (is_word (signed_decimal n)) (is_plain (signed_decimal n)) (number_is_word n (omega arith)) (number_plain (signed_decimal n) (signed_decimal_word n (omega arith)).0)

number_names : (ns : List ℤ) → AreSmall ns → are_names (map signed_decimal ns) ≡ true
number_names [] h = refl
number_names (n ∷ ns) h = and_from (is_name (signed_decimal n)) (are_names (map signed_decimal ns)) (number_name n h.0) (number_names ns h.1)

numbers_are : (ns : List ℤ) → AreSmall ns → are_numbers (map signed_decimal ns) ns ≡ true
numbers_are [] h = refl
numbers_are (n ∷ ns) h = and_from (is_value n (number_read (signed_decimal n))) (are_numbers (map signed_decimal ns) ns) (is_its_value n (number_read (signed_decimal n)) (signed_decimal_reads n h.0)) (numbers_are ns h.1)

pub numbers_good : (n : ℤ) (ns : List ℤ) → AreSmall (n ∷ ns) → IsGood (Numbers (n ∷ ns))
numbers_good n ns h =
    let ws : List (List ℕ) = map signed_decimal (n ∷ ns) in
    let same : word_bytes (words_of (joined ws)) ≡ ws = joined_words ws (number_names (n ∷ ns) h) in
    record {
      said_is = ap (λ (vs : List (List ℕ)). are_numbers vs (n ∷ ns)) same ∙ numbers_are (n ∷ ns) h;
      one_line = (and_parts (has_no 10 (joined ws)) (has_no 35 (joined ws)) (joined_plain ws (number_names (n ∷ ns) h))).0;
      speaks = words_speak (joined ws) (signed_decimal n) (map signed_decimal ns) same;
    }

pub entry_good : (n : ℤ) (word : List ℕ) → unsigned_abs n < 2 ^ 127 → is_name word ≡ true → IsGood (Entry n word)
entry_good n word h k =
    let ws : List (List ℕ) = signed_decimal n ∷ (word ∷ []) in
    let named : are_names ws ≡ true = and_from (is_name (signed_decimal n)) (are_names (word ∷ [])) (number_name n h) (and_from (is_name word) true k refl) in
    let same : word_bytes (words_of (joined ws)) ≡ ws = joined_words ws named in
    record {
      said_is = ap (λ (vs : List (List ℕ)). is_entry vs n word) same
          ∙ and_from (is_value n (number_read (signed_decimal n))) (bytes_eq word word) (is_its_value n (number_read (signed_decimal n)) (signed_decimal_reads n h)) ((bytes_eq-Decides word word).1 refl);
      one_line = (and_parts (has_no 10 (joined ws)) (has_no 35 (joined ws)) (joined_plain ws named)).0;
      speaks = words_speak (joined ws) (signed_decimal n) (word ∷ []) same;
    }

-- ---- the lines that open and end an extension

letter_high : (c : ℕ) → is_name_byte c ≡ true → 45 ≤ c
letter_high c e =
    elim (leb_tells 45 c) [
      | inl high ↦ high.1
      | inr low ↦
          let below : c < 45 = low.1 in
          let a : nat_le 65 c ≡ false = lt-leb 65 c (omega arith) in
          let b : nat_le 97 c ≡ false = lt-leb 97 c (omega arith) in
          let d : nat_le 48 c ≡ false = lt-leb 48 c (omega arith) in
          let f : (c == 95) ≡ false = false_from_ne_true (c == 95) (λ t. absurd (omega (arith, eqb-true c 95 t))) in
          absurd (let no : false ≡ true = rw (a, b, d, f) at e in cc)
    ]

letters_plain : (name : List ℕ) → are_name_bytes name ≡ true → is_plain name ≡ true
letters_plain [] h = refl
letters_plain (b ∷ name) h =
    let both = and_parts (is_name_byte b) (are_name_bytes name) h in
    plain_more b name (high_plain b (letter_high b both.0)) (letters_plain name both.1)

name_plain : (name : List ℕ) → is_extension_name name ≡ true → is_plain name ≡ true
name_plain [] h = absurd (cc)
name_plain (b ∷ name) h =
    let both = and_parts (begins_name b) (are_name_bytes name) h in
    letters_plain (b ∷ name) (and_from (is_name_byte b) (are_name_bytes name) (or_left (begins_name b) (is_digit b) both.0) both.1)

last_ends : (text : List ℕ) (b : ℕ) → is_blank b ≡ false → begins_word (reverse (text ++ b ∷ [])) ≡ true
last_ends text b h = ap begins_word (reverse-append text (b ∷ [])) ∙ ap not h

pub open_trimmed : (name : List ℕ) → is_extension_name name ≡ true → IsTrimmed (open_line name)
open_trimmed name h = record {
  begins = refl;
  ends = last_ends (60 ∷ name) 62 refl;
  plain = plain_more 60 (name ++ 62 ∷ []) refl (plain_append name (62 ∷ []) (name_plain name h) refl);
}

pub end_trimmed : (name : List ℕ) → is_extension_name name ≡ true → IsTrimmed (end_line name)
end_trimmed name h = record {
  begins = refl;
  ends = last_ends (60 ∷ 47 ∷ name) 62 refl;
  plain = plain_more 60 (47 ∷ (name ++ 62 ∷ [])) refl (plain_more 47 (name ++ 62 ∷ []) refl (plain_append name (62 ∷ []) (name_plain name h) refl));
}
