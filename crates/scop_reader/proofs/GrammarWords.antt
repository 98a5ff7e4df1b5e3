-- Lines of words and of numbers, read and said.
use Rattle.std.proofs.Common.{◌≡◌, refl, sym, ap, subst, ◌∙◌, Some, ℕ, ℤ, pos, unsigned_abs, ◌+◌, ◌≤◌, suc, List, [], ◌∷◌, length, Result, Ok, Err, Bool, true, false, not, ◌&&◌, ◌==◌, inl, inr, arith}
use Rattle.std.specs.Prelude.{int_le}
use Rattle.std.specs.Str.{bytes_eq}
use Rattle.std.proofs.lemmas.Int.{ints}
use Rattle.std.proofs.lemmas.Bool.{and_parts, and_from}
use Rattle.std.proofs.lemmas.Bool.Decides.{Decides-eqb}
use Rattle.suite_base.specs.declared.refusals.Refusal.{Refusal}
use Rattle.suite_base.specs.declared.refusals.Refusal.TheVariants.{BadScop}
use Rattle.suite_base.specs.declared.numbers.NumberRead.{NumberRead}
use Rattle.suite_base.specs.declared.numbers.NumberRead.TheVariants.{Value, TooLarge, NotNumber}
use Rattle.suite_base.specs.Lines.{trim, is_blank}
use Rattle.suite_base.specs.Words.{content, begins_word, unbroken, is_word, without_comment}
use Rattle.suite_base.specs.Numbers.{number_read}
use Rattle.suite_base.proofs.LineCuts.{bool_tells}
use Rattle.scop_data.specs.LineWords.{are_numbers, is_value}
use Rattle.scop_data.proofs.LineWords.{same_words, words_same, value_is, is_its_value}
use Rattle.scop_core.specs.Printable.{has_no, is_plain, is_name, are_names}
use Rattle.scop_reader.specs.Lines.{Rest, Line, Word, words_of, words_from, put_word, word_bytes}
use Rattle.scop_reader.specs.Reading.{check, said_line, literal, closing, word_line, number_in, with_number, numbers_in, at_least}
use Rattle.scop_reader.specs.Rules.{number_line, count_line, first_number}
use Rattle.scop_reader.specs.Documents.{Literal, Words, Numbers, Closing, behind, count}
use Rattle.scop_reader.proofs.GrammarLines.{other_way, if_cases, then_ok, check_then, result_then, read_ok, same_value, same_left, behind_line, line_behind, line_keeps, are_lines}

-- ---- the end of a reader

pub check_end : (holds : Bool) (r : Refusal) (rest now : Rest) (u : Unit {0}) → check holds r rest ≡ Ok (u, now) → (holds ≡ true) × (rest ≡ now)
check_end true r rest now u e = (refl, same_left tt u rest now e)
check_end false r rest now u e = absurd (cc)

-- ---- lines of fixed text

pub literal_reads : (text : List ℕ) (rest now : Rest) → behind (Literal text) rest ≡ Some now → literal text rest ≡ Ok (tt, now)
unfolding literal
literal_reads text rest now e =
    let l = behind_line (Literal text) rest now refl e in
    rw (l.read, l.said_is) refl

pub literal_said : (text : List ℕ) (rest now : Rest) (u : Unit {0}) → literal text rest ≡ Ok (u, now) → behind (Literal text) rest ≡ Some now
unfolding literal
literal_said text rest now u e =
    let t = then_ok (said_line rest) _ u now e in
    let c = check_end (bytes_eq (content t.value.bytes) text) (BadScop t.value.number) t.mid now u t.second in
    line_behind (Literal text) rest now t.value refl (t.first ∙ ap (λ (r : Rest). read_ok t.value r) c.1) c.0

pub closing_reads : (text : List ℕ) (rest now : Rest) → behind (Closing text) rest ≡ Some now → closing text rest ≡ Ok (tt, now)
unfolding closing
closing_reads text rest now e =
    let l = behind_line (Closing text) rest now refl e in
    rw (l.read, l.said_is) refl

pub closing_said : (text : List ℕ) (rest now : Rest) (u : Unit {0}) → closing text rest ≡ Ok (u, now) → behind (Closing text) rest ≡ Some now
unfolding closing
closing_said text rest now u e =
    let t = then_ok (said_line rest) _ u now e in
    let c = check_end (bytes_eq (trim t.value.bytes) text) (BadScop t.value.number) t.mid now u t.second in
    line_behind (Closing text) rest now t.value refl (t.first ∙ ap (λ (r : Rest). read_ok t.value r) c.1) c.0

-- ---- words

pub length-word_bytes : (ws : List Word) → length (word_bytes ws) ≡ length ws
length-word_bytes [] = refl
length-word_bytes (w ∷ ws) = ap suc (length-word_bytes ws)

pub word_line_reads : (n : ℕ) (ws : List (List ℕ)) (rest now : Rest) → behind (Words ws) rest ≡ Some now → length ws ≡ n → word_line n rest ≡ Ok (ws, now)
unfolding word_line
word_line_reads n ws rest now e size =
    let l = behind_line (Words ws) rest now refl e in
    let same : word_bytes (words_of l.line.bytes) ≡ ws = same_words (word_bytes (words_of l.line.bytes)) ws l.said_is in
    let long : length (words_of l.line.bytes) ≡ n = sym (length-word_bytes (words_of l.line.bytes)) ∙ (ap length same ∙ size) in
    rw (l.read, (Decides-eqb (length (words_of l.line.bytes)) n).1 long, same) refl

pub record WordLine (n : ℕ) (ws : List (List ℕ)) (rest now : Rest) : Type 0 where
  pub line : Line
  pub read : said_line rest ≡ Ok (line, now)
  pub words_are : ws ≡ word_bytes (words_of line.bytes)
  pub size : length ws ≡ n
  pub said : behind (Words ws) rest ≡ Some now

pub word_line_said : (n : ℕ) (ws : List (List ℕ)) (rest now : Rest) → word_line n rest ≡ Ok (ws, now) → WordLine n ws rest now
unfolding word_line
word_line_said n ws rest now e =
    let t = then_ok (said_line rest) _ ws now e in
    let c = check_then (length (words_of t.value.bytes) == n) (BadScop t.value.number) t.mid _ ws now t.second in
    let same : word_bytes (words_of t.value.bytes) ≡ ws = same_value (word_bytes (words_of t.value.bytes)) ws t.mid now c.1 in
    let left : t.mid ≡ now = same_left (word_bytes (words_of t.value.bytes)) ws t.mid now c.1 in
    let read : said_line rest ≡ Ok (t.value, now) = t.first ∙ ap (λ (r : Rest). read_ok t.value r) left in
    record {
      line = t.value;
      read = read;
      words_are = sym same;
      size = ap length (sym same) ∙ (length-word_bytes (words_of t.value.bytes) ∙ (Decides-eqb (length (words_of t.value.bytes)) n).0 c.0);
      said = line_behind (Words ws) rest now t.value refl read (rw same (words_same ws));
    }

-- ---- the words of a line without a newline are names

pub plain_parts : (b : ℕ) (line : List ℕ) → is_plain (b ∷ line) ≡ true → (is_plain (b ∷ []) ≡ true) × (is_plain line ≡ true)
plain_parts b line h =
    let both = and_parts (has_no 10 (b ∷ line)) (has_no 35 (b ∷ line)) h in
    let one = and_parts (not (10 == b)) (has_no 10 line) both.0 in
    let two = and_parts (not (35 == b)) (has_no 35 line) both.1 in
    (and_from (has_no 10 (b ∷ [])) (has_no 35 (b ∷ [])) (and_from (not (10 == b)) true one.0 refl) (and_from (not (35 == b)) true two.0 refl), and_from (has_no 10 line) (has_no 35 line) one.1 two.1)

pub plain_more : (b : ℕ) (line : List ℕ) → is_plain (b ∷ []) ≡ true → is_plain line ≡ true → is_plain (b ∷ line) ≡ true
plain_more b line h k =
    let first = and_parts (has_no 10 (b ∷ [])) (has_no 35 (b ∷ [])) h in
    let more = and_parts (has_no 10 line) (has_no 35 line) k in
    let one = and_parts (not (10 == b)) true first.0 in
    let two = and_parts (not (35 == b)) true first.1 in
    and_from (has_no 10 (b ∷ line)) (has_no 35 (b ∷ line)) (and_from (not (10 == b)) (has_no 10 line) one.0 more.0) (and_from (not (35 == b)) (has_no 35 line) two.0 more.1)

not_sharp : (b : ℕ) → (b == 35) ≡ false → not (35 == b) ≡ true
not_sharp b e = rw (other_way b 35 e) refl

pub commented : (line : List ℕ) → has_no 10 line ≡ true → is_plain (without_comment line) ≡ true
commented [] h = refl
commented (b ∷ line) h =
    let both = and_parts (not (10 == b)) (has_no 10 line) h in
    elim (bool_tells (b == 35)) [
      | inl e ↦ rw e refl
      | inr e ↦
          let alone : is_plain (b ∷ []) ≡ true = and_from (has_no 10 (b ∷ [])) (has_no 35 (b ∷ [])) (and_from (not (10 == b)) true both.0 refl) (and_from (not (35 == b)) true (not_sharp b e) refl) in
          rw e (plain_more b (without_comment line) alone (commented line both.1))
    ]

not_blank : (b : ℕ) → is_blank b ≡ false → not (is_blank b) ≡ true
not_blank b e = ap not e

pub name_alone : (b : ℕ) → is_blank b ≡ false → is_plain (b ∷ []) ≡ true → is_name (b ∷ []) ≡ true
name_alone b clear plain =
    and_from (is_word (b ∷ [])) (is_plain (b ∷ []))
    (and_from (not (is_blank b)) (unbroken (b ∷ [])) (not_blank b clear) (and_from (not (is_blank b)) true (not_blank b clear) refl)) plain

pub name_more : (b : ℕ) (word : List ℕ) → is_blank b ≡ false → is_plain (b ∷ []) ≡ true → is_name word ≡ true → is_name (b ∷ word) ≡ true
name_more b word clear plain h =
    let both = and_parts (is_word word) (is_plain word) h in
    let own = and_parts (begins_word word) (unbroken word) both.0 in
    and_from (is_word (b ∷ word)) (is_plain (b ∷ word))
    (and_from (not (is_blank b)) (unbroken (b ∷ word)) (not_blank b clear) (and_from (not (is_blank b)) (unbroken word) (not_blank b clear) own.1))
    (plain_more b word plain both.1)

put_named : (column b : ℕ) (ws : List Word) → is_blank b ≡ false → is_plain (b ∷ []) ≡ true → are_names (word_bytes ws) ≡ true → are_names (word_bytes (put_word column b ws)) ≡ true
put_named column b [] clear plain h = and_from (is_name (b ∷ [])) true (name_alone b clear plain) refl
put_named column b (w ∷ ws) clear plain h =
    let both = and_parts (is_name w.bytes) (are_names (word_bytes ws)) h in
    and_from (is_name (b ∷ w.bytes)) (are_names (word_bytes ws)) (name_more b w.bytes clear plain both.0) both.1

words_named : (column : ℕ) (line : List ℕ) → is_plain line ≡ true → are_names (word_bytes (words_from column line)) ≡ true
words_named column [] h = refl
words_named column (b ∷ line) h =
    let parts = plain_parts b line h in
    let more : are_names (word_bytes (words_from (column + 1) line)) ≡ true = words_named (column + 1) line parts.1 in
    elim (bool_tells (is_blank b)) [
      | inl blank ↦ rw blank more
      | inr clear ↦ elim (bool_tells (begins_word line)) [
        | inl word ↦ rw (clear, word) (put_named column b (words_from (column + 1) line) clear parts.0 more)
        | inr alone ↦ rw (clear, alone) (and_from (is_name (b ∷ [])) (are_names (word_bytes (words_from (column + 1) line))) (name_alone b clear parts.0) more)
      ]
    ]

pub line_words_named : (line : List ℕ) → has_no 10 line ≡ true → are_names (word_bytes (words_of line)) ≡ true
line_words_named line h = words_named 1 (without_comment line) (commented line h)

-- the words of a line that was read are names
pub read_words_named : (n : ℕ) (ws : List (List ℕ)) (rest now : Rest) → WordLine n ws rest now → are_lines rest.lines ≡ true → are_names ws ≡ true
read_words_named n ws rest now w h = rw (w.words_are) (line_words_named w.line.bytes (line_keeps rest now w.line w.read h))

-- ---- numbers

abbrev pub all_pass : (ℤ → Bool) → List ℤ → Bool
all_pass allowed [] = true
all_pass allowed (n ∷ ns) = allowed n && all_pass allowed ns

abbrev ok : {A : Type 0} → A → Result A Refusal
ok a = Ok a

abbrev ok_or : {A : Type 0} → A → Result A Refusal → A
ok_or a (Ok b) = b
ok_or a (Err r) = a

pub same_ok : {A : Type 0} (a b : A) → ok a ≡ ok b → a ≡ b
same_ok a b e = ap (ok_or a) e

abbrev err : {A : Type 0} → Refusal → Result A Refusal
err r = Err r

pub not_ok : {A : Type 0} (r : Refusal) (a : A) → err r ≡ ok a → ⊥
not_ok r a e = absurd (cc)

pub number_in_ok : (line : Line) (allowed : ℤ → Bool) (word : Word) (r : NumberRead) (n : ℤ) → number_in line allowed word r ≡ Ok n → (r ≡ Value n) × (allowed n ≡ true)
number_in_ok line allowed word (Value m) n e =
    elim (if_cases (allowed m) (Ok m) (Err (BadScop line.number)) (Ok n) e) [
      | inl found ↦
          let same : m ≡ n = same_ok m n found.1 in
          (ap (λ (z : ℤ). Value z) same, subst (λ (z : ℤ). allowed z ≡ true) same found.0)
      | inr bad ↦ absurd (not_ok (BadScop line.number) n bad.1)
    ]
number_in_ok line allowed word TooLarge n e = absurd (cc)
number_in_ok line allowed word NotNumber n e = absurd (cc)

pub with_number_ok : (a : Result ℤ Refusal) (b : Result (List ℤ) Refusal) (ns : List ℤ) → with_number a b ≡ Ok ns → (n : ℤ) × (more : List ℤ) × (a ≡ Ok n) × (b ≡ Ok more) × (ns ≡ n ∷ more)
with_number_ok (Err e) b ns h = absurd (cc)
with_number_ok (Ok n) (Err e) ns h = absurd (cc)
with_number_ok (Ok n) (Ok more) ns h =
    let same : n ∷ more ≡ ns = same_ok (n ∷ more) ns h in
    (n, more, refl, refl, sym same)

pub numbers_read : (line : Line) (allowed : ℤ → Bool) (ws : List Word) (ns : List ℤ) → are_numbers (word_bytes ws) ns ≡ true → all_pass allowed ns ≡ true → numbers_in line allowed ws ≡ Ok ns
numbers_read line allowed [] [] e h = refl
numbers_read line allowed [] (n ∷ ns) e h = absurd (cc)
numbers_read line allowed (w ∷ ws) [] e h = absurd (cc)
numbers_read line allowed (w ∷ ws) (n ∷ ns) e h =
    let said = and_parts (is_value n (number_read w.bytes)) (are_numbers (word_bytes ws) ns) e in
    let pass = and_parts (allowed n) (all_pass allowed ns) h in
    let value : number_read w.bytes ≡ Value n = value_is n (number_read w.bytes) said.0 in
    rw (value, pass.0, numbers_read line allowed ws ns said.1 pass.1) refl

pub record NumbersIn (allowed : ℤ → Bool) (ws : List Word) (ns : List ℤ) : Type 0 where
  pub are : are_numbers (word_bytes ws) ns ≡ true
  pub pass : all_pass allowed ns ≡ true
  pub size : length ns ≡ length ws

pub numbers_said : (line : Line) (allowed : ℤ → Bool) (ws : List Word) (ns : List ℤ) → numbers_in line allowed ws ≡ Ok ns → NumbersIn allowed ws ns
numbers_said line allowed [] ns e =
    let same : [] ≡ ns = same_ok [] ns e in
    subst (λ (l : List ℤ). NumbersIn allowed [] l) same (record { are = refl; pass = refl; size = refl })
numbers_said line allowed (w ∷ ws) ns e =
    let both = with_number_ok (number_in line allowed w (number_read w.bytes)) (numbers_in line allowed ws) ns e in
    let one = number_in_ok line allowed w (number_read w.bytes) both.0 both.2 in
    let more = numbers_said line allowed ws both.1 both.3 in
    subst (λ (l : List ℤ). NumbersIn allowed (w ∷ ws) l) (sym both.4) (record {
      are = and_from (is_value both.0 (number_read w.bytes)) (are_numbers (word_bytes ws) both.1) (is_its_value both.0 (number_read w.bytes) one.0) more.are;
      pass = and_from (allowed both.0) (all_pass allowed both.1) one.1 more.pass;
      size = ap suc more.size;
    })

pub length-are_numbers : (ws : List (List ℕ)) (ns : List ℤ) → are_numbers ws ns ≡ true → length ws ≡ length ns
length-are_numbers [] [] e = refl
length-are_numbers [] (n ∷ ns) e = absurd (cc)
length-are_numbers (w ∷ ws) [] e = absurd (cc)
length-are_numbers (w ∷ ws) (n ∷ ns) e = ap suc (length-are_numbers ws ns (and_parts (is_value n (number_read w)) (are_numbers ws ns) e).1)

-- ---- lines of numbers

pub record NumberLine (n : ℕ) (allowed : ℤ → Bool) (ns : List ℤ) (rest now : Rest) : Type 0 where
  pub size : length ns ≡ n
  pub pass : all_pass allowed ns ≡ true
  pub said : behind (Numbers ns) rest ≡ Some now

pub number_line_reads : (n : ℕ) (allowed : ℤ → Bool) (ns : List ℤ) (rest now : Rest) → NumberLine n allowed ns rest now → (line : Line) × (number_line n allowed rest ≡ Ok ((line, ns), now))
unfolding number_line
number_line_reads n allowed ns rest now h =
    let l = behind_line (Numbers ns) rest now refl h.said in
    let long : length (words_of l.line.bytes) ≡ n = sym (length-word_bytes (words_of l.line.bytes)) ∙ (length-are_numbers (word_bytes (words_of l.line.bytes)) ns l.said_is ∙ h.size) in
    (l.line, rw (l.read, (Decides-eqb (length (words_of l.line.bytes)) n).1 long, numbers_read l.line allowed (words_of l.line.bytes) ns l.said_is h.pass) refl)

pub number_line_said : (n : ℕ) (allowed : ℤ → Bool) (p : Line × List ℤ) (rest now : Rest) → number_line n allowed rest ≡ Ok (p, now) → NumberLine n allowed p.1 rest now
unfolding number_line
number_line_said n allowed p rest now e =
    let t = then_ok (said_line rest) _ p now e in
    let c = check_then (length (words_of t.value.bytes) == n) (BadScop t.value.number) t.mid _ p now t.second in
    let r = result_then (numbers_in t.value allowed (words_of t.value.bytes)) t.mid _ p now c.1 in
    let numbers = numbers_said t.value allowed (words_of t.value.bytes) r.0 r.1 in
    let pair : Line × List ℤ = (t.value, r.0) in
    let same : pair ≡ p = same_value pair p t.mid now r.2 in
    let left : t.mid ≡ now = same_left pair p t.mid now r.2 in
    let read : said_line rest ≡ Ok (t.value, now) = t.first ∙ ap (λ (r : Rest). read_ok t.value r) left in
    subst (λ (q : Line × List ℤ). NumberLine n allowed q.1 rest now) same (record {
      size = numbers.size ∙ (Decides-eqb (length (words_of t.value.bytes)) n).0 c.0;
      pass = numbers.pass;
      said = line_behind (Numbers r.0) rest now t.value refl read numbers.are;
    })

-- ---- lines of one number

pub at_least_passes : (least n : ℕ) → least ≤ n → int_le (pos least) (pos n) ≡ true
at_least_passes least n h =
    elim (bool_tells (int_le (pos least) (pos n))) [
      | inl e ↦ e
      | inr e ↦ absurd (omega (arith, ints))
    ]

pub count_line_reads : (least n : ℕ) (rest now : Rest) → behind (count n) rest ≡ Some now → least ≤ n → (line : Line) × (count_line least rest ≡ Ok ((line, n), now))
unfolding count_line
count_line_reads least n rest now e h =
    let pass : int_le (pos least) (pos n) ≡ true = at_least_passes least n h in
    let read = number_line_reads 1 (at_least least) (pos n ∷ []) rest now (record { size = refl; pass = and_from (int_le (pos least) (pos n)) true pass refl; said = e }) in
    (read.0, rw (read.1) refl)

one_number : (least : ℕ) (ns : List ℤ) → length ns ≡ 1 → all_pass (at_least least) ns ≡ true → (ns ≡ pos (first_number ns) ∷ []) × (least ≤ first_number ns)
one_number least [] size h = absurd (omega (arith, size))
one_number least (z ∷ []) size h =
    let pass : int_le (pos least) z ≡ true = (and_parts (int_le (pos least) z) true h).0 in
    let same : z ≡ pos (unsigned_abs z) = omega (arith, ints) in
    (ap (λ (x : ℤ). x ∷ []) same, omega (arith, ints))
one_number least (z ∷ (y ∷ ns)) size h = absurd (omega (arith, size))

pub count_line_said : (least : ℕ) (p : Line × ℕ) (rest now : Rest) → count_line least rest ≡ Ok (p, now) → (least ≤ p.1) × (behind (count p.1) rest ≡ Some now)
unfolding count_line
count_line_said least p rest now e =
    let t = then_ok (number_line 1 (at_least least) rest) _ p now e in
    let line = number_line_said 1 (at_least least) t.value rest t.mid t.first in
    let one = one_number least t.value.1 line.size line.pass in
    let pair : Line × ℕ = (t.value.0, first_number t.value.1) in
    let same : pair ≡ p = same_value pair p t.mid now t.second in
    let left : t.mid ≡ now = same_left pair p t.mid now t.second in
    let said : behind (count (first_number t.value.1)) rest ≡ Some t.mid = rw (one.0) at line.said in
    (subst (λ (q : Line × ℕ). least ≤ q.1) same one.1, subst (λ (q : Line × ℕ). behind (count q.1) rest ≡ Some now) same (said ∙ ap (λ (r : Rest). Some r) left))
