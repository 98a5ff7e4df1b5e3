-- What the lines of a printed block say: the words and the numbers that were printed.
use Rattle.std.proofs.Common.{◌≡◌, refl, sym, ap, ◌∙◌, ℕ, zero, suc, ◌+◌, ◌*◌, ◌<◌, ◌≤◌, ◌^◌, List, [], ◌∷◌, ◌++◌, map, length, true, false, not, ◌&&◌, ◌==◌, ℤ, pos, negsuc, unsigned_abs, arith}
use Rattle.std.specs.Prelude.{nat_le, codes, bytes_eq, Some}
use Rattle.std.specs.List.{flat_map}
use Rattle.std.specs.Fmt.{digits, decimal, signed_decimal}
use Rattle.std.proofs.lemmas.Bool.{and_parts, and_from}
use Rattle.std.proofs.lemmas.Bool.Decides.{Decides-int_eq, nat_tests}
use Rattle.std.proofs.lemmas.Int.{ints}
use Rattle.std.proofs.lemmas.Slice.Eq.{bytes_eq-Decides}
use Rattle.suite_base.specs.Words.{content, words, is_word, are_words, spaced}
use Rattle.suite_base.specs.Numbers.{number_read, is_digit, all_digits, are_digits}
use Rattle.suite_base.proofs.NumberLaws.{decimal_digits, signed_decimal_reads, number_is_word}
use Rattle.suite_base.proofs.WordCuts.{words-spaced}
use Rattle.row_core.specs.Rows.{entry, AreCoefficients}
use Rattle.relation_core.specs.Systems.{System, IsWellFormed, columns}
use Rattle.relation_core.specs.Layouts as layout
use Rattle.relation_core.specs.declared.part_rows.PartRow.{PartRow}
use Rattle.relation_core.specs.declared.part_rows.RowKind.{RowKind}
use Rattle.relation_core.specs.declared.part_rows.RowKind.TheVariants.{Equal, AtLeast}
use Rattle.scop_data.specs.LineWords.{are_same, is_value, are_numbers, kind_number, row_numbers, header_numbers}
use Rattle.farkas_cert.specs.Texts.{certificate_line, certificate_read, multipliers_read}
use Rattle.farkas_cert.proofs.TextLaws.{line_is, reads_back_law}
use Rattle.scop_core.specs.Printable.{has_no}
use Rattle.schedule_forms.proofs.ReadBackLists.{other_number}
use Rattle.dependence_systems.specs.declared.dependences.Dep.{Dep}
use Rattle.dependence_systems.specs.declared.dependences.DepKind.{DepKind}
use Rattle.dependence_systems.specs.declared.dependences.DepKind.TheVariants.{Raw, War, Waw}
use Rattle.dependence_blocks.specs.Blocks.{kind_word, entry_numbers, entry_words, head_line}
use Rattle.dependence_blocks.specs.KeptLines.{HasRange}
use Rattle.dependence_audit.specs.Contents.{before, contents, says}
use Rattle.dependence_audit.proofs.TrimmedWords.{content_words}

-- ---- lines without a comment

no_append : (a b : List ℕ) → has_no 35 a ≡ true → has_no 35 b ≡ true → has_no 35 (a ++ b) ≡ true
no_append [] b h k = k
no_append (x ∷ a) b h k =
    let both = and_parts (not (35 == x)) (has_no 35 a) h in
    and_from (not (35 == x)) (has_no 35 (a ++ b)) both.0 (no_append a b both.1 k)

-- none of the words has the byte of a comment
abbrev NoComments : List (List ℕ) → Type 0
NoComments [] = Unit {0}
NoComments (word ∷ more) = (has_no 35 word ≡ true) × NoComments more

spaced_plain : (ws : List (List ℕ)) → NoComments ws → has_no 35 (spaced ws) ≡ true
spaced_plain [] h = refl
spaced_plain (w ∷ []) h = h.0
spaced_plain (w ∷ (v ∷ ws)) h = no_append w (32 ∷ spaced (v ∷ ws)) h.0 (no_append (32 ∷ []) (spaced (v ∷ ws)) refl (spaced_plain (v ∷ ws) h.1))

digits_plain : (ds : List ℕ) → all_digits ds ≡ true → has_no 35 ds ≡ true
digits_plain [] h = refl
digits_plain (d ∷ ds) h =
    let p = and_parts (is_digit d) (all_digits ds) h in
    let low : nat_le 48 d ≡ true = (and_parts (nat_le 48 d) (nat_le d 57) p.0).0 in
    let l : 48 ≤ d = grind (arith, nat_tests) in
    and_from (not (35 == d)) (has_no 35 ds) (ap not (other_number 35 d (λ e. omega arith))) (digits_plain ds p.1)

all_are : (ds : List ℕ) → are_digits ds ≡ true → all_digits ds ≡ true
all_are [] h = absurd cc
all_are (d ∷ ds) h = h

decimal_plain : (k : ℕ) → k < 10 ^ 64 → has_no 35 (decimal k) ≡ true
decimal_plain k h = digits_plain (decimal k) (all_are (decimal k) (decimal_digits k h).digits)

signed_plain : (z : ℤ) → unsigned_abs z < 10 ^ 64 → has_no 35 (signed_decimal z) ≡ true
signed_plain (pos n) h = decimal_plain n (omega (arith, ints))
signed_plain (negsuc n) h = no_append (45 ∷ []) (decimal (suc n)) refl (decimal_plain (suc n) (omega (arith, ints)))

-- ---- what a line of words says

-- the words of what the line says are these words
words_said : (ws : List (List ℕ)) → are_words ws ≡ true → NoComments ws → words (content (spaced ws)) ≡ ws
words_said ws h k = content_words (spaced ws) (spaced_plain ws k) ∙ words-spaced ws h

something : (text w : List ℕ) (ws lines : List (List ℕ)) → words text ≡ w ∷ ws → before text lines ≡ text ∷ lines
something [] w ws lines e = absurd cc
something (b ∷ text) w ws lines e = refl

-- a line of words is not left out
pub line_said : (w : List ℕ) (ws lines : List (List ℕ)) → are_words (w ∷ ws) ≡ true → NoComments (w ∷ ws)
    → contents (spaced (w ∷ ws) ∷ lines) ≡ content (spaced (w ∷ ws)) ∷ contents lines
line_said w ws lines h k = something (content (spaced (w ∷ ws))) w ws (contents lines) (words_said (w ∷ ws) h k)

-- ---- what a line of numbers says

abbrev AreSmall : List ℤ → Type 0
AreSmall zs = (k : ℕ) → unsigned_abs (entry zs k) < 2 ^ 127

number_words : (zs : List ℤ) → AreSmall zs → are_words (map signed_decimal zs) ≡ true
number_words [] h = refl
number_words (z ∷ zs) h =
    let small : unsigned_abs z < 2 ^ 127 = h 0 in
    and_from (is_word (signed_decimal z)) (are_words (map signed_decimal zs)) (number_is_word z (omega (arith, small))) (number_words zs (λ k. h (suc k)))

numbers_plain : (zs : List ℤ) → AreSmall zs → NoComments (map signed_decimal zs)
numbers_plain [] h = tt
numbers_plain (z ∷ zs) h = let small : unsigned_abs z < 2 ^ 127 = h 0 in (signed_plain z (omega (arith, small)), numbers_plain zs (λ k. h (suc k)))

numbers_are : (zs : List ℤ) → AreSmall zs → are_numbers (map signed_decimal zs) zs ≡ true
numbers_are [] h = refl
numbers_are (z ∷ zs) h =
    and_from (is_value z (number_read (signed_decimal z))) (are_numbers (map signed_decimal zs) zs)
    (ap (λ r. is_value z r) (signed_decimal_reads z (h 0)) ∙ (Decides-int_eq z z).1 refl) (numbers_are zs (λ k. h (suc k)))

-- the content line of numbers
abbrev pub numbers_line : List ℤ → List ℕ
numbers_line zs = content (certificate_line zs)

pub numbers_said : (z : ℤ) (zs : List ℤ) (lines : List (List ℕ)) → AreCoefficients (z ∷ zs)
    → contents (certificate_line (z ∷ zs) ∷ lines) ≡ numbers_line (z ∷ zs) ∷ contents lines
numbers_said z zs lines h =
    line_said (signed_decimal z) (map signed_decimal zs) lines (number_words (z ∷ zs) h.bound) (numbers_plain (z ∷ zs) h.bound)

pub says_numbers : (zs : List ℤ) → AreCoefficients zs → says (numbers_line zs) zs ≡ true
says_numbers zs h =
    ap (λ ws. are_numbers ws zs) (words_said (map signed_decimal zs) (number_words zs h.bound) (numbers_plain zs h.bound)) ∙ numbers_are zs h.bound

pub reads_numbers : (zs : List ℤ) → AreCoefficients zs → certificate_read (numbers_line zs) ≡ Some zs
reads_numbers zs h = ap multipliers_read (content_words (certificate_line zs) (spaced_plain (map signed_decimal zs) (numbers_plain zs h.bound))) ∙ reads_back_law zs h

-- ---- rows, headers and counts are lines of numbers

kind_is : (kind : RowKind) → signed_decimal (kind_number kind) ≡ layout.kind_digit kind ∷ []
unfolding digits
kind_is Equal = refl
kind_is AtLeast = refl

pub row_line_is : (row : PartRow) → layout.row_text row ≡ certificate_line (row_numbers row)
row_line_is row = ap (λ t. t ++ flat_map layout.spaced row.entries) (sym (kind_is row.kind)) ∙ sym (line_is (kind_number row.kind) row.entries)

pub header_line_is : (system : System) → layout.header_text (length system.rows) system.shape ≡ certificate_line (header_numbers system)
header_line_is system =
    sym (line_is (pos (length system.rows)) (pos (columns system.shape + 2) ∷ (pos system.shape.outputs
    ∷ (pos system.shape.inputs ∷ (pos system.shape.locals ∷ (pos system.shape.parameters ∷ []))))))

pub count_line_is : (n : ℕ) → decimal n ≡ certificate_line (pos n ∷ [])
count_line_is n = refl

small_kind : (kind : RowKind) → unsigned_abs (kind_number kind) < 2 ^ 127
small_kind Equal = omega arith
small_kind AtLeast = omega arith

-- one more number in front
pub one_more : (z : ℤ) (zs : List ℤ) → unsigned_abs z < 2 ^ 127 → AreSmall zs → AreSmall (z ∷ zs)
one_more z zs h k zero = h
one_more z zs h k (suc i) = k i

none_small : AreSmall []
none_small k = omega arith

pub row_coefficients : (row : PartRow) → AreCoefficients row.entries → AreCoefficients (row_numbers row)
row_coefficients row h = record { bound = one_more (kind_number row.kind) row.entries (small_kind row.kind) h.bound }

pub count_coefficient : (n : ℕ) → n < 2 ^ 127 → AreCoefficients (pos n ∷ [])
count_coefficient n h = record { bound = one_more (pos n) [] h none_small }

pub header_coefficients : (system : System) → IsWellFormed system.shape system.rows → length system.rows < 2 ^ 64 → AreCoefficients (header_numbers system)
header_coefficients system h small =
    let l = h.limits in
    let within : columns system.shape ≤ 4 * 65536 = omega (arith, l.outputs, l.inputs, l.locals, l.parameters) in
    let p = one_more (pos system.shape.parameters) [] (omega (arith, l.parameters)) none_small in
    let q = one_more (pos system.shape.locals) (pos system.shape.parameters ∷ []) (omega (arith, l.locals)) p in
    let r = one_more (pos system.shape.inputs) (pos system.shape.locals ∷ (pos system.shape.parameters ∷ [])) (omega (arith, l.inputs)) q in
    let three = pos system.shape.inputs ∷ (pos system.shape.locals ∷ (pos system.shape.parameters ∷ [])) in
    let s = one_more (pos system.shape.outputs) three (omega (arith, l.outputs)) r in
    let t = one_more (pos (columns system.shape + 2)) (pos system.shape.outputs ∷ three) (omega (arith, within)) s in
    record { bound = one_more (pos (length system.rows)) (pos (columns system.shape + 2) ∷ (pos system.shape.outputs ∷ three)) (omega (arith, small)) t }

-- ---- the head of an entry

kind_plain : (kind : DepKind) → has_no 35 (kind_word kind) ≡ true
kind_plain Raw = refl
kind_plain War = refl
kind_plain Waw = refl

kind_is_word : (kind : DepKind) → is_word (kind_word kind) ≡ true
kind_is_word Raw = refl
kind_is_word War = refl
kind_is_word Waw = refl

abbrev AllBelow : List ℕ → Type 0
AllBelow [] = Unit {0}
AllBelow (n ∷ ns) = (n < 2 ^ 32) × AllBelow ns

below : (e : Dep) → HasRange e → AllBelow (entry_numbers e)
below e h = (h.source, (h.target, (h.source_access, (h.target_access, (h.source_part, (h.target_part, (h.level, tt)))))))

counts_words : (ns : List ℕ) (last : List ℕ) → AllBelow ns → is_word last ≡ true → are_words (map decimal ns ++ last ∷ []) ≡ true
counts_words [] last h k = and_from (is_word last) true k refl
counts_words (n ∷ ns) last h k =
    let small : n < 2 ^ 32 = h.0 in
    and_from (is_word (decimal n)) (are_words (map decimal ns ++ last ∷ [])) (number_is_word (pos n) (omega (arith, small))) (counts_words ns last h.1 k)

counts_plain : (ns : List ℕ) (last : List ℕ) → AllBelow ns → has_no 35 last ≡ true → NoComments (map decimal ns ++ last ∷ [])
counts_plain [] last h k = (k, tt)
counts_plain (n ∷ ns) last h k = let small : n < 2 ^ 32 = h.0 in (decimal_plain n (omega (arith, small)), counts_plain ns last h.1 k)

-- the content line of an entry's head
abbrev pub head_said : Dep → List ℕ → List ℕ
head_said e verdict = content (head_line e verdict)

pub head_kept_in : (e : Dep) (verdict : List ℕ) (lines : List (List ℕ)) → HasRange e → is_word verdict ≡ true → has_no 35 verdict ≡ true
    → contents (head_line e verdict ∷ lines) ≡ head_said e verdict ∷ contents lines
head_kept_in e verdict lines h k p =
    line_said (kind_word e.kind) (map decimal (entry_numbers e) ++ verdict ∷ []) lines
    (and_from (is_word (kind_word e.kind)) _ (kind_is_word e.kind) (counts_words (entry_numbers e) verdict (below e h) k))
    (kind_plain e.kind, counts_plain (entry_numbers e) verdict (below e h) p)

pub head_words : (e : Dep) (verdict : List ℕ) → HasRange e → is_word verdict ≡ true → has_no 35 verdict ≡ true
    → words (head_said e verdict) ≡ entry_words e ++ verdict ∷ []
head_words e verdict h k p =
    words_said (entry_words e ++ verdict ∷ [])
    (and_from (is_word (kind_word e.kind)) _ (kind_is_word e.kind) (counts_words (entry_numbers e) verdict (below e h) k))
    (kind_plain e.kind, counts_plain (entry_numbers e) verdict (below e h) p)

-- ---- words that are compared

front_same : (ws : List (List ℕ)) (v w : List ℕ) → are_same (ws ++ v ∷ []) (ws ++ w ∷ []) ≡ (bytes_eq v w && true)
front_same [] v w = refl
front_same (x ∷ ws) v w = ap (λ b. b && are_same (ws ++ v ∷ []) (ws ++ w ∷ [])) ((bytes_eq-Decides x x).1 refl) ∙ front_same ws v w

pub other_verdict : (e : Dep) → are_same (entry_words e ++ codes "dropped" ∷ []) (entry_words e ++ codes "kept" ∷ []) ≡ false
other_verdict e = front_same (entry_words e) (codes "dropped") (codes "kept")
