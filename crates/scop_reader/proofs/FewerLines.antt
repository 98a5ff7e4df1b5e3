-- A global extension takes a line at least, so the loop over them ends.
use Rattle.std.proofs.Common.{◌≡◌, ap, ℕ, ℤ, zero, suc, ◌≤◌, ◌<◌, ◌+◌, ◌==◌, if◌then◌else◌, List, [], ◌∷◌, ◌++◌, length, Option, Some, None, Result, Ok, Err, Bool, true, false, inl, inr, arith}
use Rattle.std.specs.Str.{bytes_eq}
use Rattle.suite_base.specs.declared.refusals.Refusal.{Refusal}
use Rattle.suite_base.specs.declared.refusals.Refusal.TheVariants.{BadScop}
use Rattle.suite_base.specs.declared.refusals.Which.TheVariants.{Arrays}
use Rattle.suite_base.specs.Lines.{trim}
use Rattle.suite_base.specs.Words.{content}
use Rattle.scop_core.specs.Printable.{end_line, arrays_name, has_no_array}
use Rattle.scop_reader.specs.Lines.{Rest, Line, behind_silent, words_of}
use Rattle.scop_reader.specs.Reading.{Reader, ◌>>=◌, pure, check, unless, of_result, said_line, first_line, closing, numbers_in, at_least}
use Rattle.scop_reader.specs.Rules.{Extensions, within, number_line, count_line, first_number, array_of, array_line, arrays_from, arrays, kept_from, kept_lines, kept, extension, is_opening, opened_name, is_none}
use Rattle.scop_reader.proofs.GrammarLines.{then_ok, if_cases, same_left, silent_fewer}

abbrev Array : Type 0
Array = ℤ × List ℕ

-- no line comes back
abbrev Fewer : {A : Type 0} → Reader A → Type 0
Fewer {A} r = (rest now : Rest) (a : A) → r rest ≡ Ok (a, now) → length now.lines ≤ length rest.lines

pure_fewer : {A : Type 0} (a : A) → Fewer (pure a)
pure_fewer a rest now b e = omega (arith, ap (λ (r : Rest). length r.lines) (same_left a b rest now e))

bind_fewer : {A B : Type 0} (r : Reader A) (f : A → Reader B) → Fewer r → ((a : A) → Fewer (f a)) → Fewer (r >>= f)
bind_fewer r f h k rest now b e =
    let t = then_ok (r rest) f b now e in
    omega (arith, h rest t.mid t.value t.first, k t.value t.mid now b t.second)

check_fewer : (holds : Bool) (refusal : Refusal) → Fewer (check holds refusal)
check_fewer true refusal = pure_fewer tt
check_fewer false refusal = λ rest now a e. absurd (cc)

unless_fewer : (refusal : Option Refusal) → Fewer (unless refusal)
unless_fewer None = pure_fewer tt
unless_fewer (Some refusal) = λ rest now a e. absurd (cc)

of_result_fewer : {A : Type 0} (result : Result A Refusal) → Fewer (of_result result)
of_result_fewer (Ok a) = pure_fewer a
of_result_fewer (Err refusal) = λ rest now a e. absurd (cc)

first_fewer : (n : ℕ) (ls : List (List ℕ)) (now : Rest) (line : Line) → first_line (record { number = n; lines = ls }) ≡ Ok (line, now) → length now.lines < length ls
first_fewer n [] now line e = absurd (cc)
first_fewer n (l ∷ ls) now line e = omega (arith, ap (λ (r : Rest). length r.lines) (same_left (record { number = n; bytes = l }) line (record { number = n + 1; lines = ls }) now e))

said_fewer : (rest now : Rest) (line : Line) → said_line rest ≡ Ok (line, now) → length now.lines < length rest.lines
unfolding said_line
said_fewer rest now line e =
    let skipped : Rest = behind_silent rest.number rest.lines in
    omega (arith, first_fewer skipped.number skipped.lines now line e, silent_fewer rest.number rest.lines)

said_line_fewer : Fewer said_line
said_line_fewer rest now line e = omega (arith, said_fewer rest now line e)

number_line_fewer : (n : ℕ) (allowed : ℤ → Bool) → Fewer (number_line n allowed)
unfolding number_line
number_line_fewer n allowed =
    bind_fewer said_line _ said_line_fewer (λ line.
    bind_fewer (check (length (words_of line.bytes) == n) (BadScop line.number)) _ (check_fewer (length (words_of line.bytes) == n) (BadScop line.number)) (λ _.
    bind_fewer (of_result (numbers_in line allowed (words_of line.bytes))) _ (of_result_fewer (numbers_in line allowed (words_of line.bytes))) (λ numbers. pure_fewer (line, numbers))))

count_line_fewer : (least : ℕ) → Fewer (count_line least)
unfolding count_line
count_line_fewer least = bind_fewer (number_line 1 (at_least least)) _ (number_line_fewer 1 (at_least least)) (λ found. pure_fewer (found.0, first_number found.1))

closing_fewer : (text : List ℕ) → Fewer (closing text)
unfolding closing
closing_fewer text = bind_fewer said_line _ said_line_fewer (λ line. check_fewer (bytes_eq (trim line.bytes) text) (BadScop line.number))

array_line_fewer : (found : List Array) → Fewer (array_line found)
unfolding array_line
array_line_fewer found =
    bind_fewer said_line _ said_line_fewer (λ line.
    bind_fewer (of_result (array_of line (words_of line.bytes))) _ (of_result_fewer (array_of line (words_of line.bytes))) (λ array.
    bind_fewer (check (has_no_array array.0 found) (BadScop line.number)) _ (check_fewer (has_no_array array.0 found) (BadScop line.number)) (λ _. pure_fewer array)))

arrays_from_fewer : (n : ℕ) (found : List Array) → Fewer (arrays_from n found)
unfolding arrays_from
arrays_from_fewer zero found = pure_fewer found
arrays_from_fewer (suc n) found = bind_fewer (array_line found) _ (array_line_fewer found) (λ next. arrays_from_fewer n (found ++ next ∷ []))

arrays_fewer : Fewer arrays
unfolding arrays
arrays_fewer =
    bind_fewer (count_line 0) _ (count_line_fewer 0) (λ count.
    bind_fewer (within 4096 count.1 Arrays 0) _ (unless_fewer _) (λ _.
    bind_fewer (arrays_from count.1 []) _ (arrays_from_fewer count.1 []) (λ found.
    bind_fewer (closing (end_line arrays_name)) _ (closing_fewer (end_line arrays_name)) (λ _. pure_fewer found))))

kept_from_fewer : (name : List ℕ) (number : ℕ) (found : List (List ℕ)) (ls : List (List ℕ)) (now : Rest) (a : List (List ℕ)) → kept_from name number found ls ≡ Ok (a, now) → length now.lines ≤ length ls
unfolding kept_from
kept_from_fewer name number found [] now a e = absurd (cc)
kept_from_fewer name number found (l ∷ ls) now a e =
    elim (if_cases (bytes_eq (trim l) (end_line name)) (Ok (found, record { number = number + 1; lines = ls })) (kept_from name (number + 1) (found ++ l ∷ []) ls) (Ok (a, now)) e) [
      | inl ends ↦ omega (arith, ap (λ (r : Rest). length r.lines) (same_left found a (record { number = number + 1; lines = ls }) now ends.1))
      | inr goes ↦ omega (arith, kept_from_fewer name (number + 1) (found ++ l ∷ []) ls now a goes.1)
    ]

kept_fewer : (name : List ℕ) → Fewer (kept name)
unfolding kept kept_lines
kept_fewer name = bind_fewer (kept_lines name) _ (λ rest now a e. kept_from_fewer name rest.number [] rest.lines now a e) (λ lines. pure_fewer (record { name = name; lines = lines }))

-- the part of an extension behind its opening line
choice_fewer : {A : Type 0} (b : Bool) (r q : Reader A) → Fewer r → Fewer q → Fewer (λ rest. (if b then r else q) rest)
choice_fewer true r q h k = h
choice_fewer false r q h k = k

pub global_fewer : (found next : Extensions (List Array)) (rest now : Rest) → extension arrays_name arrays found rest ≡ Ok (next, now) → length now.lines < length rest.lines
unfolding extension
global_fewer found next rest now e =
    let t = then_ok (said_line rest) _ next now e in
    let line = t.value in
    let name = opened_name (content line.bytes) in
    let behind : length now.lines ≤ length t.mid.lines =
    bind_fewer (check (is_opening (content line.bytes)) (BadScop line.number)) _ (check_fewer (is_opening (content line.bytes)) (BadScop line.number)) (λ _.
    choice_fewer (bytes_eq name arrays_name) _ _
    (bind_fewer (check (is_none found.special) (BadScop line.number)) _ (check_fewer (is_none found.special) (BadScop line.number)) (λ _.
    bind_fewer arrays _ arrays_fewer (λ made. pure_fewer (record found { special = Some made }))))
    (bind_fewer (kept name) _ (kept_fewer name) (λ made. pure_fewer (record found { others = found.others ++ made ∷ [] }))))
    t.mid now next t.second in
    omega (arith, behind, said_fewer rest t.mid line t.first)
