-- Arrays and the lines of extensions that are kept, read and said.
use Rattle.std.proofs.Common.{◌≡◌, refl, sym, ap, subst, ◌∙◌, Some, ℕ, ℤ, pos, zero, suc, List, [], ◌∷◌, ◌++◌, length, map, Result, Ok, Err, true, false, not, ◌&&◌, inl, inr, arith}
use Rattle.std.specs.Prelude.{nat_lt, int_le}
use Rattle.std.specs.Ordering.{int_eq}
use Rattle.std.specs.Str.{bytes_eq}
use Rattle.std.proofs.lemmas.Bool.{and_parts, and_from}
use Rattle.std.proofs.lemmas.List.{append-nil}
use Rattle.std.proofs.lemmas.Bool.Decides.{Decides-int_eq}
use Rattle.std.proofs.lemmas.Slice.Eq.{bytes_eq-Decides}
use Rattle.suite_base.specs.declared.refusals.Refusal.{Refusal}
use Rattle.suite_base.specs.declared.refusals.Refusal.TheVariants.{BadScop}
use Rattle.suite_base.specs.declared.refusals.Which.TheVariants as which
use Rattle.suite_base.specs.Numbers.{number_read}
use Rattle.suite_base.specs.declared.numbers.NumberRead.TheVariants.{Value}
use Rattle.suite_base.proofs.LineCuts.{bool_tells}
use Rattle.scop_data.specs.LineWords.{is_value}
use Rattle.scop_data.proofs.LineWords.{value_is, is_its_value}
use Rattle.scop_core.specs.Printable.{is_name, are_names, end_line, arrays_name, has_no_array, are_arrays}
use Rattle.scop_reader.specs.Lines.{Rest, Line, Word, words_of, word_bytes}
use Rattle.scop_reader.specs.Reading.{said_line, closing, number_in, at_least}
use Rattle.scop_reader.specs.Rules
use Rattle.scop_reader.specs.Rules.{count_line, kept_from, array_of, array_line, arrays_from}
use Rattle.scop_reader.specs.Documents.{Said, Closing, count, said_array, is_entry, behind, behind_all}
use Rattle.scop_reader.proofs.GrammarLines.{then_ok, check_then, result_then, read_ok, same_value, same_left, behind_line, line_behind, line_keeps, are_lines, all_keeps, split, split_one, join, join_one, one_alone, alone_one}
use Rattle.scop_reader.proofs.GrammarWords.{closing_reads, closing_said, count_line_reads, count_line_said, number_in_ok, line_words_named, same_ok, not_ok}
use Rattle.scop_reader.proofs.GrammarParts.{within_then, push_list}

-- ---- one array

-- an identifier and a name
abbrev pub Array : Type 0
Array = ℤ × List ℕ

number_makes : (line : Line) (u : Word) (n : ℤ) → number_read u.bytes ≡ Value n → int_le (pos 1) n ≡ true → number_in line (at_least 1) u (number_read u.bytes) ≡ Ok n
number_makes line u n e h = rw (e, h) refl

abbrev with_name : List ℕ → Result ℤ Refusal → Result Array Refusal
with_name name r = elim r [ Ok n ↦ Ok (n, name) | Err e ↦ Err e ]

array_pair : (line : Line) (ws : List Word) (a : Array) → is_entry (word_bytes ws) a.0 a.1 ≡ true → int_le (pos 1) a.0 ≡ true → array_of line ws ≡ Ok a
array_pair line [] a e h = absurd (cc)
array_pair line (u ∷ []) a e h = absurd (cc)
array_pair line (u ∷ v ∷ []) a e h =
    let both = and_parts (is_value a.0 (number_read u.bytes)) (bytes_eq v.bytes a.1) e in
    ap (with_name v.bytes) (number_makes line u a.0 (value_is a.0 (number_read u.bytes) both.0) h) ∙ (ap (λ (name : List ℕ). Ok (a.0, name)) ((bytes_eq-Decides v.bytes a.1).0 both.1))
array_pair line (u ∷ v ∷ w ∷ ws) a e h = absurd (cc)

-- the words of a line that gave an array
record ArrayIn (ws : List Word) (a : Array) : Type 0 where
  is : is_entry (word_bytes ws) a.0 a.1 ≡ true
  least : int_le (pos 1) a.0 ≡ true
  named : are_names (word_bytes ws) ≡ true → is_name a.1 ≡ true

with_name_ok : (name : List ℕ) (r : Result ℤ Refusal) (a : Array) → with_name name r ≡ Ok a → (r ≡ Ok a.0) × (name ≡ a.1)
with_name_ok name (Ok n) a e =
    let pair : Array = (n, name) in
    let same : pair ≡ a = same_ok pair a e in
    (ap (λ (p : Array). Ok p.0) same, ap (λ (p : Array). p.1) same)
with_name_ok name (Err r) a e = absurd (not_ok r a e)

array_in : (line : Line) (ws : List Word) (a : Array) → array_of line ws ≡ Ok a → ArrayIn ws a
array_in line [] a e = absurd (not_ok (BadScop line.number) a e)
array_in line (u ∷ []) a e = absurd (not_ok (BadScop line.number) a e)
array_in line (u ∷ v ∷ []) a e =
    let both = with_name_ok v.bytes (number_in line (at_least 1) u (number_read u.bytes)) a e in
    let n = number_in_ok line (at_least 1) u (number_read u.bytes) a.0 both.0 in
    record {
      is = and_from (is_value a.0 (number_read u.bytes)) (bytes_eq v.bytes a.1) (is_its_value a.0 (number_read u.bytes) n.0) ((bytes_eq-Decides v.bytes a.1).1 both.1);
      least = n.1;
      named = λ h. ap is_name (sym both.1) ∙ (and_parts (is_name v.bytes) true (and_parts (is_name u.bytes) (are_names (v.bytes ∷ [])) h).1).0;
    }
array_in line (u ∷ v ∷ w ∷ ws) a e = absurd (not_ok (BadScop line.number) a e)

array_reads : (found : List Array) (a : Array) (rest now : Rest) → int_le (pos 1) a.0 ≡ true → has_no_array a.0 found ≡ true → behind (said_array a) rest ≡ Some now → array_line found rest ≡ Ok (a, now)
unfolding array_line
array_reads found a rest now least new e =
    let l = behind_line (said_array a) rest now refl e in
    rw (l.read, array_pair l.line (words_of l.line.bytes) a l.said_is least, new) refl

record ArrayRead (found : List Array) (a : Array) (rest now : Rest) : Type 0 where
  least : int_le (pos 1) a.0 ≡ true
  named : is_name a.1 ≡ true
  new : has_no_array a.0 found ≡ true
  said : behind (said_array a) rest ≡ Some now

array_said : (found : List Array) (a : Array) (rest now : Rest) → are_lines rest.lines ≡ true → array_line found rest ≡ Ok (a, now) → ArrayRead found a rest now
unfolding array_line
array_said found a rest now h e =
    let t = then_ok (said_line rest) _ a now e in
    let r = result_then (array_of t.value (words_of t.value.bytes)) t.mid _ a now t.second in
    let c = check_then (has_no_array r.0.0 found) (BadScop t.value.number) t.mid _ a now r.2 in
    let same : r.0 ≡ a = same_value r.0 a t.mid now c.1 in
    let left : t.mid ≡ now = same_left r.0 a t.mid now c.1 in
    let one = array_in t.value (words_of t.value.bytes) a (r.1 ∙ ap (λ (p : Array). Ok p) same) in
    let read : said_line rest ≡ Ok (t.value, now) = t.first ∙ ap (λ (r : Rest). read_ok t.value r) left in
    record {
      least = one.least;
      named = one.named (line_words_named t.value.bytes (line_keeps rest now t.value read h));
      new = ap (λ (p : Array). has_no_array p.0 found) (sym same) ∙ c.0;
      said = line_behind (said_array a) rest now t.value refl read one.is;
    }

-- ---- arrays with distinct identifiers

other_way_z : (a b : ℤ) → not (int_eq a b) ≡ true → not (int_eq b a) ≡ true
other_way_z a b h =
    elim (bool_tells (int_eq b a)) [
      | inl e ↦ absurd (let no : false ≡ true = ap not (sym ((Decides-int_eq a b).1 (sym ((Decides-int_eq b a).0 e)))) ∙ h in cc)
      | inr e ↦ ap not e
    ]

-- the array is none of those before it
none_before : (n : ℤ) (found : List Array) (a : Array) (more : List Array) → has_no_array n (found ++ a ∷ more) ≡ true → not (int_eq n a.0) ≡ true
none_before n [] a more h = (and_parts (not (int_eq n a.0)) (has_no_array n more) h).0
none_before n (f ∷ found) a more h = none_before n found a more (and_parts (not (int_eq n f.0)) (has_no_array n (found ++ a ∷ more)) h).1

-- an array among others
record AmongArrays (found : List Array) (a : Array) : Type 0 where
  least : int_le (pos 1) a.0 ≡ true
  named : is_name a.1 ≡ true
  new : has_no_array a.0 found ≡ true

among : (found : List Array) (a : Array) (more : List Array) → are_arrays (found ++ a ∷ more) ≡ true → AmongArrays found a
among [] a more h =
    let all = and_parts (int_le (pos 1) a.0 && is_name a.1 && has_no_array a.0 more) (are_arrays more) h in
    let own = and_parts (int_le (pos 1) a.0 && is_name a.1) (has_no_array a.0 more) all.0 in
    let both = and_parts (int_le (pos 1) a.0) (is_name a.1) own.0 in
    record { least = both.0; named = both.1; new = refl }
among (f ∷ found) a more h =
    let all = and_parts (int_le (pos 1) f.0 && is_name f.1 && has_no_array f.0 (found ++ a ∷ more)) (are_arrays (found ++ a ∷ more)) h in
    let own = and_parts (int_le (pos 1) f.0 && is_name f.1) (has_no_array f.0 (found ++ a ∷ more)) all.0 in
    let m = among found a more all.1 in
    record { least = m.least; named = m.named; new = and_from (not (int_eq a.0 f.0)) (has_no_array a.0 found) (other_way_z f.0 a.0 (none_before f.0 found a more own.1)) m.new }

no_array_push : (n : ℤ) (found : List Array) (a : Array) → has_no_array n found ≡ true → not (int_eq n a.0) ≡ true → has_no_array n (found ++ a ∷ []) ≡ true
no_array_push n [] a h k = and_from (not (int_eq n a.0)) true k refl
no_array_push n (f ∷ found) a h k =
    let both = and_parts (not (int_eq n f.0)) (has_no_array n found) h in
    and_from (not (int_eq n f.0)) (has_no_array n (found ++ a ∷ [])) both.0 (no_array_push n found a both.1 k)

arrays_push : (found : List Array) (a : Array) → are_arrays found ≡ true → int_le (pos 1) a.0 ≡ true → is_name a.1 ≡ true → has_no_array a.0 found ≡ true → are_arrays (found ++ a ∷ []) ≡ true
arrays_push [] a h least named new =
    and_from (int_le (pos 1) a.0 && is_name a.1 && true) true (and_from (int_le (pos 1) a.0 && is_name a.1) true (and_from (int_le (pos 1) a.0) (is_name a.1) least named) refl) refl
arrays_push (f ∷ found) a h least named new =
    let all = and_parts (int_le (pos 1) f.0 && is_name f.1 && has_no_array f.0 found) (are_arrays found) h in
    let own = and_parts (int_le (pos 1) f.0 && is_name f.1) (has_no_array f.0 found) all.0 in
    let differs = and_parts (not (int_eq a.0 f.0)) (has_no_array a.0 found) new in
    and_from (int_le (pos 1) f.0 && is_name f.1 && has_no_array f.0 (found ++ a ∷ [])) (are_arrays (found ++ a ∷ []))
    (and_from (int_le (pos 1) f.0 && is_name f.1) (has_no_array f.0 (found ++ a ∷ [])) own.0 (no_array_push f.0 found a own.1 (other_way_z a.0 f.0 differs.0)))
    (arrays_push found a all.1 least named differs.1)

arrays_from_reads : (n : ℕ) (arrays found : List Array) (rest now : Rest) → are_arrays (found ++ arrays) ≡ true → length arrays ≡ n → behind_all (map said_array arrays) rest ≡ Some now → arrays_from n found rest ≡ Ok (found ++ arrays, now)
unfolding arrays_from
arrays_from_reads zero [] found rest now are size e =
    let same : rest ≡ now = cc in
    rw (append-nil, same) refl
arrays_from_reads (suc n) [] found rest now are size e = absurd (omega (arith, size))
arrays_from_reads zero (a ∷ arrays) found rest now are size e = absurd (omega (arith, size))
arrays_from_reads (suc n) (a ∷ arrays) found rest now are size e =
    let s = split_one (said_array a) (map said_array arrays) rest now e in
    let m = among found a arrays are in
    let more = arrays_from_reads n arrays (found ++ a ∷ []) s.mid now (ap are_arrays (push_list found a arrays) ∙ are) (omega (arith, size)) s.second in
    rw (array_reads found a rest s.mid m.least m.new s.first) (more ∙ ap (λ (l : List Array). read_ok l now) (push_list found a arrays))

record ArraysRead (n : ℕ) (found all : List Array) (rest now : Rest) : Type 0 where
  arrays : List Array
  are : are_arrays all ≡ true
  all_are : all ≡ found ++ arrays
  size : length arrays ≡ n
  said : behind_all (map said_array arrays) rest ≡ Some now

arrays_from_said : (n : ℕ) (all found : List Array) (rest now : Rest) → are_lines rest.lines ≡ true → are_arrays found ≡ true → arrays_from n found rest ≡ Ok (all, now) → ArraysRead n found all rest now
unfolding arrays_from
arrays_from_said zero all found rest now h are e =
    let same : found ≡ all = same_value found all rest now e in
    record { arrays = []; are = ap are_arrays (sym same) ∙ are; all_are = sym same ∙ sym (append-nil found); size = refl; said = ap (λ (r : Rest). Some r) (same_left found all rest now e) }
arrays_from_said (suc n) all found rest now h are e =
    let t = then_ok (array_line found rest) _ all now e in
    let one = array_said found t.value rest t.mid h t.first in
    let h1 : are_lines t.mid.lines ≡ true = all_keeps (said_array t.value ∷ []) rest t.mid (one_alone (said_array t.value) rest t.mid one.said) h in
    let more = arrays_from_said n all (found ++ t.value ∷ []) t.mid now h1 (arrays_push found t.value are one.least one.named one.new) t.second in
    record {
      arrays = t.value ∷ more.arrays;
      are = more.are;
      all_are = more.all_are ∙ push_list found t.value more.arrays;
      size = ap suc more.size;
      said = join_one (said_array t.value) (map said_array more.arrays) rest t.mid now one.said more.said;
    }

-- ---- the arrays behind their opening line

abbrev pub said_behind_arrays : List Array → List Said
said_behind_arrays arrays = count (length arrays) ∷ (map said_array arrays ++ Closing (end_line arrays_name) ∷ [])

-- arrays that can be printed, at most 4,096
pub record AreArrays (arrays : List Array) : Type 0 where
  pub are : are_arrays arrays ≡ true
  pub few : nat_lt 4096 (length arrays) ≡ false

pub arrays_reads : (arrays : List Array) (rest now : Rest) → AreArrays arrays → behind_all (said_behind_arrays arrays) rest ≡ Some now → Rules.arrays rest ≡ Ok (arrays, now)
unfolding Rules.arrays
arrays_reads arrays rest now is e =
    let s = split_one (count (length arrays)) (map said_array arrays ++ Closing (end_line arrays_name) ∷ []) rest now e in
    let t = split (map said_array arrays) (Closing (end_line arrays_name) ∷ []) s.mid now s.second in
    let counted = count_line_reads 0 (length arrays) rest s.mid s.first (omega arith) in
    rw (counted.1, is.few, arrays_from_reads (length arrays) arrays [] s.mid t.mid is.are refl t.first, closing_reads (end_line arrays_name) t.mid now (alone_one (Closing (end_line arrays_name)) t.mid now t.second)) refl

pub arrays_said : (arrays : List Array) (rest now : Rest) → are_lines rest.lines ≡ true → Rules.arrays rest ≡ Ok (arrays, now) → AreArrays arrays × (behind_all (said_behind_arrays arrays) rest ≡ Some now)
unfolding Rules.arrays
arrays_said arrays rest now h e =
    let t = then_ok (count_line 0 rest) _ arrays now e in
    let counted = count_line_said 0 t.value rest t.mid t.first in
    let c = within_then 4096 t.value.1 which.Arrays 0 t.mid _ arrays now t.second in
    let h1 : are_lines t.mid.lines ≡ true = all_keeps (count t.value.1 ∷ []) rest t.mid (one_alone (count t.value.1) rest t.mid counted.1) h in
    let u = then_ok (arrays_from t.value.1 [] t.mid) _ arrays now c.1 in
    let read = arrays_from_said t.value.1 u.value [] t.mid u.mid h1 refl u.first in
    let v = then_ok (closing (end_line arrays_name) u.mid) _ arrays now u.second in
    let all : read.arrays ≡ arrays = sym read.all_are ∙ same_value u.value arrays v.mid now v.second in
    let left : v.mid ≡ now = same_left u.value arrays v.mid now v.second in
    let end : behind_all (Closing (end_line arrays_name) ∷ []) u.mid ≡ Some now = one_alone (Closing (end_line arrays_name)) u.mid now (closing_said (end_line arrays_name) u.mid v.mid v.value v.first ∙ ap (λ (r : Rest). Some r) left) in
    let count_said : behind (count (length read.arrays)) rest ≡ Some t.mid = ap (λ (m : ℕ). behind (count m) rest) read.size ∙ counted.1 in
    let is : AreArrays read.arrays = record { are = ap are_arrays (sym read.all_are) ∙ read.are; few = ap (nat_lt 4096) read.size ∙ c.0 } in
    let said : behind_all (said_behind_arrays read.arrays) rest ≡ Some now = join_one (count (length read.arrays)) (map said_array read.arrays ++ Closing (end_line arrays_name) ∷ []) rest t.mid now count_said
    (join (map said_array read.arrays) (Closing (end_line arrays_name) ∷ []) t.mid u.mid now read.said end) in
    (subst AreArrays all is, subst (λ (l : List Array). behind_all (said_behind_arrays l) rest ≡ Some now) all said)
