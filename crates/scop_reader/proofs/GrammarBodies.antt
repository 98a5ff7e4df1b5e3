-- Names, bodies, arrays and the lines of other extensions, read and said.
use Rattle.std.proofs.Common.{◌≡◌, refl, sym, ap, subst, ◌∙◌, Some, ℕ, ◌+◌, zero, suc, List, [], ◌∷◌, ◌++◌, length, Ok, true, false, not, ◌&&◌, ◌==◌, inl, inr, arith}
use Rattle.std.specs.Str.{bytes_eq}
use Rattle.std.proofs.lemmas.Bool.{and_parts, and_from}
use Rattle.std.proofs.lemmas.Bool.Decides.{Decides-eqb}
use Rattle.std.proofs.lemmas.Slice.Eq.{bytes_eq-Decides}
use Rattle.suite_base.specs.declared.refusals.Refusal.TheVariants.{BadScop}
use Rattle.suite_base.specs.Words.{content, spaced}
use Rattle.suite_base.proofs.LineCuts.{bool_tells}
use Rattle.scop_data.specs.declared.statements.Body.{Body}
use Rattle.scop_data.proofs.LineWords.{same_words}
use Rattle.scop_core.specs.Printable.{are_names, end_line, body_name, is_body_line, is_body}
use Rattle.scop_reader.specs.Lines.{Rest, Line, words_of, word_bytes, behind_silent, is_silent}
use Rattle.scop_reader.specs.Reading.{Reader, and_then, said_line, next_said, first_line, word_line, closing}
use Rattle.scop_reader.specs.Rules
use Rattle.scop_reader.specs.Rules.{count_line, kept_from, kept_lines, names, no_end, iterator_names, body_text, array_of, array_line, arrays_from}
use Rattle.scop_reader.specs.Documents.{Said, Literal, Words, Closing, count, said_names, behind, behind_all}
use Rattle.scop_reader.proofs.GrammarLines.{then_ok, check_then, read_ok, same_value, same_left, behind_line, line_behind, line_keeps, are_lines, all_keeps, split, split_one, join, join_one, one_alone, alone_one}
use Rattle.scop_reader.proofs.GrammarWords.{closing_reads, closing_said, word_line_reads, WordLine, word_line_said, read_words_named, count_line_reads, count_line_said}
use Rattle.scop_reader.proofs.GrammarRelations.{next_is}
use Rattle.scop_reader.proofs.GrammarText.{spaced_differs, content_differs, body_line_is}

-- ---- names

pub names_reads : (n : ℕ) (ws : List (List ℕ)) (rest now : Rest) → length ws ≡ n → behind_all (said_names ws) rest ≡ Some now → names n rest ≡ Ok (ws, now)
unfolding names
names_reads zero [] rest now size e =
    let same : rest ≡ now = cc in
    rw same refl
names_reads (suc n) [] rest now size e = absurd (omega (arith, size))
names_reads zero (w ∷ ws) rest now size e = absurd (omega (arith, size))
names_reads (suc n) (w ∷ ws) rest now size e = word_line_reads (suc n) (w ∷ ws) rest now (alone_one (Words (w ∷ ws)) rest now e) size

-- names that were read
pub record NamesRead (n : ℕ) (ws : List (List ℕ)) (rest now : Rest) : Type 0 where
  pub size : length ws ≡ n
  pub are : are_names ws ≡ true
  pub said : behind_all (said_names ws) rest ≡ Some now

none_read : (ws : List (List ℕ)) (rest now : Rest) → read_ok [] rest ≡ Ok (ws, now) → NamesRead 0 ws rest now
none_read ws rest now e =
    subst (λ (l : List (List ℕ)). NamesRead 0 l rest now) (same_value [] ws rest now e) (record { size = refl; are = refl; said = ap (λ (r : Rest). Some r) (same_left [] ws rest now e) })

some_read : (n : ℕ) (ws : List (List ℕ)) (rest now : Rest) → WordLine (suc n) ws rest now → are_lines rest.lines ≡ true → NamesRead (suc n) ws rest now
some_read n [] rest now w h = absurd (omega (arith, w.size))
some_read n (v ∷ ws) rest now w h = record { size = w.size; are = read_words_named (suc n) (v ∷ ws) rest now w h; said = one_alone (Words (v ∷ ws)) rest now w.said }

pub names_said : (n : ℕ) (ws : List (List ℕ)) (rest now : Rest) → are_lines rest.lines ≡ true → names n rest ≡ Ok (ws, now) → NamesRead n ws rest now
unfolding names
names_said zero ws rest now h e = none_read ws rest now e
names_said (suc n) ws rest now h e = some_read n ws rest now (word_line_said (suc n) ws rest now e) h

-- ---- a line that does not end the body

no_end_ok : (rest now : Rest) (line : Line) → said_line rest ≡ Ok (line, now) → not (bytes_eq (content line.bytes) (end_line body_name)) ≡ true → no_end rest ≡ Ok (tt, rest)
unfolding no_end
no_end_ok rest now line e other = rw (next_is rest now line e, other) refl

no_end_then : {B : Type 0} (rest : Rest) (f : Unit {0} → Reader B) (b : B) (now : Rest) → and_then (no_end rest) f ≡ Ok (b, now)
    → (not (bytes_eq (content (next_said rest)) (end_line body_name)) ≡ true) × (f tt rest ≡ Ok (b, now))
unfolding no_end
no_end_then rest f b now e =
    check_then (not (bytes_eq (content (next_said rest)) (end_line body_name))) (BadScop (behind_silent rest.number rest.lines).number) rest f b now e

-- ---- the names of iterators

pub iterators_reads : (n : ℕ) (ws : List (List ℕ)) (rest now : Rest) → length ws ≡ n → not (bytes_eq (spaced ws) (end_line body_name)) ≡ true → behind_all (said_names ws) rest ≡ Some now → iterator_names n rest ≡ Ok (ws, now)
unfolding iterator_names
iterators_reads zero [] rest now size other e =
    let same : rest ≡ now = cc in
    rw same refl
iterators_reads (suc n) [] rest now size other e = absurd (omega (arith, size))
iterators_reads zero (w ∷ ws) rest now size other e = absurd (omega (arith, size))
iterators_reads (suc n) (w ∷ ws) rest now size other e =
    let one = alone_one (Words (w ∷ ws)) rest now e in
    let l = behind_line (Words (w ∷ ws)) rest now refl one in
    let same : word_bytes (words_of l.line.bytes) ≡ w ∷ ws = same_words (word_bytes (words_of l.line.bytes)) (w ∷ ws) l.said_is in
    let content_other : not (bytes_eq (content l.line.bytes) (end_line body_name)) ≡ true =
    content_differs l.line.bytes (end_line body_name) refl (ap (λ (vs : List (List ℕ)). not (bytes_eq (spaced vs) (end_line body_name))) same ∙ other) in
    rw (no_end_ok rest now l.line l.read content_other) (word_line_reads (suc n) (w ∷ ws) rest now one size)

-- the names of a body's iterators that were read
pub record IteratorsRead (n : ℕ) (ws : List (List ℕ)) (rest now : Rest) : Type 0 where
  pub names_read : NamesRead n ws rest now
  pub other : not (bytes_eq (spaced ws) (end_line body_name)) ≡ true

-- the line that was read is not silent
first_silent : (n : ℕ) (ls : List (List ℕ)) (line : Line) (now : Rest) → first_line (behind_silent n ls) ≡ Ok (line, now) → is_silent line.bytes ≡ false
first_silent n [] line now e = absurd (cc)
first_silent n (l ∷ ls) line now e =
    elim (bool_tells (is_silent l)) [
      | inl silent ↦ first_silent (n + 1) ls line now (rw silent at e)
      | inr some ↦
          let at : first_line (record { number = n; lines = l ∷ ls }) ≡ Ok (line, now) = rw some at e in
          ap (λ (x : Line). is_silent x.bytes) (sym (same_value (record { number = n; bytes = l }) line (record { number = n + 1; lines = ls }) now at)) ∙ some
    ]

pub line_speaks : (rest now : Rest) (line : Line) → said_line rest ≡ Ok (line, now) → is_silent line.bytes ≡ false
unfolding said_line
line_speaks rest now line e = first_silent rest.number rest.lines line now e

pub iterators_said : (n : ℕ) (ws : List (List ℕ)) (rest now : Rest) → are_lines rest.lines ≡ true → iterator_names n rest ≡ Ok (ws, now) → IteratorsRead n ws rest now
unfolding iterator_names
iterators_said zero ws rest now h e = record { names_read = none_read ws rest now e; other = ap (λ (l : List (List ℕ)). not (bytes_eq (spaced l) (end_line body_name))) (sym (same_value [] ws rest now e)) }
iterators_said (suc n) ws rest now h e =
    let t = no_end_then rest (λ _. word_line (suc n)) ws now e in
    let w = word_line_said (suc n) ws rest now t.1 in
    let content_other : not (bytes_eq (content w.line.bytes) (end_line body_name)) ≡ true = ap (λ (l : List ℕ). not (bytes_eq (content l) (end_line body_name))) (sym (next_is rest now w.line w.read)) ∙ t.0 in
    record {
      names_read = some_read n ws rest now w h;
      other = ap (λ (l : List (List ℕ)). not (bytes_eq (spaced l) (end_line body_name))) (w.words_are) ∙ spaced_differs w.line.bytes (end_line body_name) refl (line_speaks rest now w.line w.read) content_other;
    }

-- ---- the text of a body

text_parts : (text : List ℕ) → is_body_line text ≡ true → not (bytes_eq text (end_line body_name)) ≡ true
text_parts text h = (and_parts _ (not (bytes_eq text (end_line body_name))) h).1

pub text_reads : (text : List ℕ) (rest now : Rest) → is_body_line text ≡ true → behind (Literal text) rest ≡ Some now → body_text rest ≡ Ok (text, now)
unfolding body_text
text_reads text rest now is e =
    let l = behind_line (Literal text) rest now refl e in
    let same : content l.line.bytes ≡ text = (bytes_eq-Decides (content l.line.bytes) text).0 l.said_is in
    let other : not (bytes_eq (content l.line.bytes) (end_line body_name)) ≡ true = ap (λ (t : List ℕ). not (bytes_eq t (end_line body_name))) same ∙ text_parts text is in
    rw (no_end_ok rest now l.line l.read other, l.read) (ap (λ (t : List ℕ). read_ok t now) same)

pub text_said : (text : List ℕ) (rest now : Rest) → are_lines rest.lines ≡ true → body_text rest ≡ Ok (text, now) → (is_body_line text ≡ true) × (behind (Literal text) rest ≡ Some now)
unfolding body_text
text_said text rest now h e =
    let t = no_end_then rest _ text now e in
    let u = then_ok (said_line rest) _ text now t.1 in
    let same : content u.value.bytes ≡ text = same_value (content u.value.bytes) text u.mid now u.second in
    let left : u.mid ≡ now = same_left (content u.value.bytes) text u.mid now u.second in
    let read : said_line rest ≡ Ok (u.value, now) = u.first ∙ ap (λ (r : Rest). read_ok u.value r) left in
    let other : not (bytes_eq (content u.value.bytes) (end_line body_name)) ≡ true = ap (λ (l : List ℕ). not (bytes_eq (content l) (end_line body_name))) (sym (next_is rest now u.value read)) ∙ t.0 in (
      ap is_body_line (sym same) ∙ body_line_is u.value.bytes (line_keeps rest now u.value read h) (line_speaks rest now u.value read) other,
      line_behind (Literal text) rest now u.value refl read ((bytes_eq-Decides (content u.value.bytes) text).1 same),
    )

-- ---- a body behind its opening line

abbrev pub said_behind_body : Body → List Said
said_behind_body b = count (length b.iterators) ∷ (said_names b.iterators ++ Literal b.text ∷ (Closing (end_line body_name) ∷ []))

-- a body that can be printed, of so many iterators
pub record IsBody (iterators : ℕ) (b : Body) : Type 0 where
  pub printable : is_body b ≡ true
  pub size : length b.iterators ≡ iterators

pub body_reads : (iterators : ℕ) (b : Body) (rest now : Rest) → IsBody iterators b → behind_all (said_behind_body b) rest ≡ Some now → Rules.body iterators rest ≡ Ok (b, now)
unfolding Rules.body
body_reads iterators b rest now is e =
    let both = and_parts (are_names b.iterators && not (bytes_eq (spaced b.iterators) (end_line body_name))) (is_body_line b.text) is.printable in
    let named = and_parts (are_names b.iterators) (not (bytes_eq (spaced b.iterators) (end_line body_name))) both.0 in
    let s = split_one (count (length b.iterators)) (said_names b.iterators ++ Literal b.text ∷ (Closing (end_line body_name) ∷ [])) rest now e in
    let t = split (said_names b.iterators) (Literal b.text ∷ (Closing (end_line body_name) ∷ [])) s.mid now s.second in
    let u = split_one (Literal b.text) (Closing (end_line body_name) ∷ []) t.mid now t.second in
    let counted = count_line_reads 0 (length b.iterators) rest s.mid s.first (omega arith) in
    rw (
      counted.1,
      (Decides-eqb (length b.iterators) iterators).1 is.size,
      iterators_reads iterators b.iterators s.mid t.mid is.size named.1 t.first,
      text_reads b.text t.mid u.mid both.1 u.first,
      closing_reads (end_line body_name) u.mid now (alone_one (Closing (end_line body_name)) u.mid now u.second),
    ) refl

pub body_said : (iterators : ℕ) (b : Body) (rest now : Rest) → are_lines rest.lines ≡ true → Rules.body iterators rest ≡ Ok (b, now) → IsBody iterators b × (behind_all (said_behind_body b) rest ≡ Some now)
unfolding Rules.body
body_said iterators b rest now h e =
    let t = then_ok (count_line 0 rest) _ b now e in
    let counted = count_line_said 0 t.value rest t.mid t.first in
    let c = check_then (t.value.1 == iterators) (BadScop t.value.0.number) t.mid _ b now t.second in
    let n : t.value.1 ≡ iterators = (Decides-eqb t.value.1 iterators).0 c.0 in
    let h1 : are_lines t.mid.lines ≡ true = all_keeps (count t.value.1 ∷ []) rest t.mid (one_alone (count t.value.1) rest t.mid counted.1) h in
    let u = then_ok (iterator_names iterators t.mid) _ b now c.1 in
    let named = iterators_said iterators u.value t.mid u.mid h1 u.first in
    let h2 : are_lines u.mid.lines ≡ true = all_keeps (said_names u.value) t.mid u.mid named.names_read.said h1 in
    let v = then_ok (body_text u.mid) _ b now u.second in
    let text = text_said v.value u.mid v.mid h2 v.first in
    let w = then_ok (closing (end_line body_name) v.mid) _ b now v.second in
    let made : Body = record { text = v.value; iterators = u.value } in
    let same : made ≡ b = same_value made b w.mid now w.second in
    let left : w.mid ≡ now = same_left made b w.mid now w.second in
    let end : behind (Closing (end_line body_name)) v.mid ≡ Some now = closing_said (end_line body_name) v.mid w.mid w.value w.first ∙ ap (λ (r : Rest). Some r) left in
    let size : t.value.1 ≡ length u.value = n ∙ sym named.names_read.size in
    let count_said : behind (count (length u.value)) rest ≡ Some t.mid = ap (λ (m : ℕ). behind (count m) rest) (sym size) ∙ counted.1 in
    let is : IsBody iterators made = record {
      printable = and_from (are_names u.value && not (bytes_eq (spaced u.value) (end_line body_name))) (is_body_line v.value)
          (and_from (are_names u.value) (not (bytes_eq (spaced u.value) (end_line body_name))) named.names_read.are named.other) text.0;
      size = named.names_read.size;
    } in
    let tail : behind_all (Literal v.value ∷ (Closing (end_line body_name) ∷ [])) u.mid ≡ Some now = join_one (Literal v.value) (Closing (end_line body_name) ∷ []) u.mid v.mid now text.1 (one_alone (Closing (end_line body_name)) v.mid now end) in
    let said : behind_all (said_behind_body made) rest ≡ Some now =
    join_one (count (length u.value)) (said_names u.value ++ Literal v.value ∷ (Closing (end_line body_name) ∷ [])) rest t.mid now count_said
    (join (said_names u.value) (Literal v.value ∷ (Closing (end_line body_name) ∷ [])) t.mid u.mid now named.names_read.said tail) in
    (subst (IsBody iterators) same is, subst (λ (x : Body). behind_all (said_behind_body x) rest ≡ Some now) same said)
