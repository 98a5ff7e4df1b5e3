-- Readers taken apart step by step, and what is left behind the lines that say something.
use Rattle.std.proofs.Common.{not, ◌≡◌, refl, sym, ap, subst, ◌∙◌, Option, Some, None, ℕ, ◌+◌, ◌≤◌, ◌<◌, suc, List, [], ◌∷◌, ◌++◌, length, Result, Ok, Err, Bool, true, false, ◌&&◌, ◌==◌, ◌⊎◌, inl, inr, arith}
use Rattle.std.specs.Prelude.{if◌then◌else◌}
use Rattle.std.proofs.lemmas.Bool.{and_parts, eqb-true}
use Rattle.suite_base.specs.declared.refusals.Refusal.{Refusal}
use Rattle.suite_base.specs.Lines.{lines, put}
use Rattle.suite_base.proofs.LineCuts.{bool_tells}
use Rattle.scop_core.specs.Printable.{has_no}
use Rattle.scop_reader.specs.Lines.{Rest, Line, behind_silent, is_silent}
use Rattle.scop_reader.specs.Reading.{Outcome, Reader, and_then, check, unless, of_result, first_line, said_line}
use Rattle.scop_reader.specs.Documents.{Said, says, is_raw, behind_first, behind, behind_all}

-- ---- tests

pub false_of : (b : Bool) → not b ≡ true → b ≡ false
false_of true e = absurd (cc)
false_of false e = refl

pub if_cases : {A : Type 0} (b : Bool) (x y z : A) → (if b then x else y) ≡ z → ((b ≡ true) × (x ≡ z)) ⊎ ((b ≡ false) × (y ≡ z))
if_cases true x y z e = inl (refl, e)
if_cases false x y z e = inr (refl, e)

-- ---- a reader's outcome and what goes on from it

-- what a reader passed on to the next
pub record Then {A B : Type 0} (o : Outcome A) (f : A → Reader B) (z : Outcome B) : Type 0 where
  pub value : A
  pub mid : Rest
  pub first : o ≡ Ok (value, mid)
  pub second : f value mid ≡ z

pub then_ok : {A B : Type 0} (o : Outcome A) (f : A → Reader B) (b : B) (now : Rest) → and_then o f ≡ Ok (b, now) → Then o f (Ok (b, now))
then_ok (Ok p) f b now e = record { value = p.0; mid = p.1; first = refl; second = e }
then_ok (Err r) f b now e = absurd (cc)

-- steps that are grouped otherwise
pub regroup : {A B C : Type 0} (o : Outcome A) (f : A → Reader B) (g : B → Reader C) (z : Outcome C) → and_then (and_then o f) g ≡ z → and_then o (λ a r. and_then (f a r) g) ≡ z
regroup (Ok p) f g z e = e
regroup (Err r) f g z e = e

pub check_then : {B : Type 0} (holds : Bool) (r : Refusal) (rest : Rest) (f : Unit {0} → Reader B) (b : B) (now : Rest) → and_then (check holds r rest) f ≡ Ok (b, now) → (holds ≡ true) × (f tt rest ≡ Ok (b, now))
check_then true r rest f b now e = (refl, e)
check_then false r rest f b now e = absurd (cc)

pub unless_then : {B : Type 0} (o : Option Refusal) (rest : Rest) (f : Unit {0} → Reader B) (b : B) (now : Rest) → and_then (unless o rest) f ≡ Ok (b, now) → (o ≡ None) × (f tt rest ≡ Ok (b, now))
unless_then None rest f b now e = (refl, e)
unless_then (Some r) rest f b now e = absurd (cc)

pub result_then : {A B : Type 0} (o : Result A Refusal) (rest : Rest) (f : A → Reader B) (b : B) (now : Rest) → and_then (of_result o rest) f ≡ Ok (b, now) → (a : A) × (o ≡ Ok a) × (f a rest ≡ Ok (b, now))
result_then (Ok a) rest f b now e = (a, refl, e)
result_then (Err r) rest f b now e = absurd (cc)

abbrev value_or : {A : Type 0} → A → Outcome A → A
value_or a (Ok p) = p.0
value_or a (Err r) = a

abbrev left_or : {A : Type 0} → Rest → Outcome A → Rest
left_or rest (Ok p) = p.1
left_or rest (Err r) = rest

abbrev pub read_ok : {A : Type 0} → A → Rest → Outcome A
read_ok a rest = Ok (a, rest)

pub same_value : {A : Type 0} (a b : A) (rest now : Rest) → read_ok a rest ≡ read_ok b now → a ≡ b
same_value a b rest now e = ap (value_or a) e

pub same_left : {A : Type 0} (a b : A) (rest now : Rest) → read_ok a rest ≡ read_ok b now → rest ≡ now
same_left a b rest now e = ap (left_or rest) e

-- ---- lines without a newline

abbrev pub are_lines : List (List ℕ) → Bool
are_lines [] = true
are_lines (line ∷ more) = has_no 10 line && are_lines more

pub other_way : (a b : ℕ) → (a == b) ≡ false → (b == a) ≡ false
other_way a b e =
    elim (bool_tells (b == a)) [
      | inl same ↦
          let is : a ≡ b = sym (eqb-true b a same) in
          absurd (let no : true ≡ false = sym same ∙ (subst (λ (x : ℕ). (b == a) ≡ (a == x)) is (subst (λ (x : ℕ). (x == a) ≡ (a == a)) is refl) ∙ e) in cc)
      | inr differ ↦ differ
    ]

put_lines : (b : ℕ) (more : List (List ℕ)) → (b == 10) ≡ false → are_lines more ≡ true → are_lines (put b more) ≡ true
put_lines b [] e h = rw (other_way b 10 e) refl
put_lines b (line ∷ more) e h = rw (other_way b 10 e) h

pub lines_are : (bytes : List ℕ) → are_lines (lines bytes) ≡ true
lines_are [] = refl
lines_are (b ∷ bytes) =
    elim (bool_tells (b == 10)) [
      | inl e ↦ rw e (lines_are bytes)
      | inr e ↦ rw e (put_lines b (lines bytes) e (lines_are bytes))
    ]

-- ---- the next line that says something

pub record LineOf (said : Said) (rest now : Rest) : Type 0 where
  pub line : Line
  pub read : said_line rest ≡ Ok (line, now)
  pub said_is : says said line.bytes ≡ true

first_ok : (test : List ℕ → Bool) (n : ℕ) (ls : List (List ℕ)) (now : Rest) → behind_first test (record { number = n; lines = ls }) ≡ Some now
    → (line : Line) × (first_line (record { number = n; lines = ls }) ≡ Ok (line, now)) × (test line.bytes ≡ true)
first_ok test n [] now e = absurd (cc)
first_ok test n (l ∷ ls) now e =
    elim (if_cases (test l) (Some (record { number = n + 1; lines = ls })) None (Some now) e) [
      | inl yes_it ↦
          let same : record { number = n + 1; lines = ls } ≡ now = cc in
          (record { number = n; bytes = l }, ap (λ (r : Rest). read_ok (record { number = n; bytes = l }) r) same, yes_it.0)
      | inr no_it ↦ absurd (let no : None ≡ Some now = no_it.1 in cc)
    ]

first_some : (test : List ℕ → Bool) (n : ℕ) (ls : List (List ℕ)) (line : Line) (now : Rest) → first_line (record { number = n; lines = ls }) ≡ Ok (line, now) → test line.bytes ≡ true
    → behind_first test (record { number = n; lines = ls }) ≡ Some now
first_some test n [] line now e h = absurd (cc)
first_some test n (l ∷ ls) line now e h =
    let bytes : l ≡ line.bytes = ap (λ (x : Line). x.bytes) (same_value (record { number = n; bytes = l }) line (record { number = n + 1; lines = ls }) now e) in
    let left : record { number = n + 1; lines = ls } ≡ now = same_left (record { number = n; bytes = l }) line (record { number = n + 1; lines = ls }) now e in
    let held : test l ≡ true = rw bytes h in
    rw held (ap (λ (r : Rest). Some r) left)

pub behind_line : (said : Said) (rest now : Rest) → is_raw said ≡ false → behind said rest ≡ Some now → LineOf said rest now
unfolding said_line
behind_line said rest now plain e =
    let skipped : Rest = behind_silent rest.number rest.lines in
    let at : behind_first (says said) skipped ≡ Some now = rw plain at e in
    let found = first_ok (says said) skipped.number skipped.lines now at in
    record { line = found.0; read = found.1; said_is = found.2 }

pub line_behind : (said : Said) (rest now : Rest) (line : Line) → is_raw said ≡ false → said_line rest ≡ Ok (line, now) → says said line.bytes ≡ true → behind said rest ≡ Some now
unfolding said_line
line_behind said rest now line plain e h =
    let skipped : Rest = behind_silent rest.number rest.lines in
    rw plain (first_some (says said) skipped.number skipped.lines line now e h)

-- ---- lines that say several things

pub record Split (a b : List Said) (rest now : Rest) : Type 0 where
  pub mid : Rest
  pub first : behind_all a rest ≡ Some mid
  pub second : behind_all b mid ≡ Some now

pub record SplitOne (said : Said) (more : List Said) (rest now : Rest) : Type 0 where
  pub mid : Rest
  pub first : behind said rest ≡ Some mid
  pub second : behind_all more mid ≡ Some now

abbrev then_all : List Said → Option Rest → Option Rest
then_all more next = elim next [ None ↦ None | Some mid ↦ behind_all more mid ]

split_at : (said : Said) (more : List Said) (rest now : Rest) (o : Option Rest) → behind said rest ≡ o → then_all more o ≡ Some now → SplitOne said more rest now
split_at said more rest now None at e = absurd (cc)
split_at said more rest now (Some mid) at e = record { mid = mid; first = at; second = e }

pub split_one : (said : Said) (more : List Said) (rest now : Rest) → behind_all (said ∷ more) rest ≡ Some now → SplitOne said more rest now
split_one said more rest now e = split_at said more rest now (behind said rest) refl e

pub join_one : (said : Said) (more : List Said) (rest mid now : Rest) → behind said rest ≡ Some mid → behind_all more mid ≡ Some now → behind_all (said ∷ more) rest ≡ Some now
join_one said more rest mid now first second = ap (then_all more) first ∙ second

pub split : (a b : List Said) (rest now : Rest) → behind_all (a ++ b) rest ≡ Some now → Split a b rest now
split [] b rest now e = record { mid = rest; first = refl; second = e }
split (said ∷ a) b rest now e =
    let one = split_one said (a ++ b) rest now e in
    let more = split a b one.mid now one.second in
    record { mid = more.mid; first = join_one said a rest one.mid more.mid one.first more.first; second = more.second }

pub join : (a b : List Said) (rest mid now : Rest) → behind_all a rest ≡ Some mid → behind_all b mid ≡ Some now → behind_all (a ++ b) rest ≡ Some now
join [] b rest mid now first second =
    let same : rest ≡ mid = cc in
    rw same second
join (said ∷ a) b rest mid now first second =
    let one = split_one said a rest mid first in
    join_one said (a ++ b) rest one.mid now one.first (join a b one.mid mid now one.second second)

pub one_alone : (said : Said) (rest now : Rest) → behind said rest ≡ Some now → behind_all (said ∷ []) rest ≡ Some now
one_alone said rest now e = ap (then_all []) e

pub alone_one : (said : Said) (rest now : Rest) → behind_all (said ∷ []) rest ≡ Some now → behind said rest ≡ Some now
alone_one said rest now e =
    let one = split_one said [] rest now e in
    let same : one.mid ≡ now = let h : Some one.mid ≡ Some now = one.second in cc in
    one.first ∙ ap (λ (r : Rest). Some r) same

-- ---- the lines left behind others have no newline either

first_keeps : (test : List ℕ → Bool) (n : ℕ) (ls : List (List ℕ)) (now : Rest) → behind_first test (record { number = n; lines = ls }) ≡ Some now → are_lines ls ≡ true → are_lines now.lines ≡ true
first_keeps test n [] now e h = absurd (cc)
first_keeps test n (l ∷ ls) now e h =
    elim (if_cases (test l) (Some (record { number = n + 1; lines = ls })) None (Some now) e) [
      | inl found ↦
          let same : record { number = n + 1; lines = ls } ≡ now = cc in
          subst (λ (r : Rest). are_lines r.lines ≡ true) same (and_parts (has_no 10 l) (are_lines ls) h).1
      | inr other ↦ absurd (let no : None ≡ Some now = other.1 in cc)
    ]

silent_keeps : (n : ℕ) (ls : List (List ℕ)) → are_lines ls ≡ true → are_lines (behind_silent n ls).lines ≡ true
silent_keeps n [] h = refl
silent_keeps n (l ∷ ls) h =
    elim (bool_tells (is_silent l)) [
      | inl e ↦ rw e (silent_keeps (n + 1) ls (and_parts (has_no 10 l) (are_lines ls) h).1)
      | inr e ↦ rw e h
    ]

behind_keeps : (said : Said) (rest now : Rest) → behind said rest ≡ Some now → are_lines rest.lines ≡ true → are_lines now.lines ≡ true
behind_keeps said rest now e h =
    elim (bool_tells (is_raw said)) [
      | inl raw ↦ first_keeps (says said) rest.number rest.lines now (rw raw at e) h
      | inr plain ↦
          let skipped : Rest = behind_silent rest.number rest.lines in
          first_keeps (says said) skipped.number skipped.lines now (rw plain at e) (silent_keeps rest.number rest.lines h)
    ]

pub all_keeps : (saids : List Said) (rest now : Rest) → behind_all saids rest ≡ Some now → are_lines rest.lines ≡ true → are_lines now.lines ≡ true
all_keeps [] rest now e h =
    let same : rest ≡ now = cc in
    subst (λ (r : Rest). are_lines r.lines ≡ true) same h
all_keeps (said ∷ more) rest now e h =
    let one = split_one said more rest now e in
    all_keeps more one.mid now one.second (behind_keeps said rest one.mid one.first h)

-- a line that was read has none
pub line_keeps : (rest now : Rest) (line : Line) → said_line rest ≡ Ok (line, now) → are_lines rest.lines ≡ true → has_no 10 line.bytes ≡ true
unfolding said_line
line_keeps rest now line e h =
    let skipped : Rest = behind_silent rest.number rest.lines in
    line_of skipped.number skipped.lines e (silent_keeps rest.number rest.lines h)
  where
    line_of : (n : ℕ) (ls : List (List ℕ)) → first_line (record { number = n; lines = ls }) ≡ Ok (line, now) → are_lines ls ≡ true → has_no 10 line.bytes ≡ true
    line_of n [] g k = absurd (cc)
    line_of n (l ∷ ls) g k =
        let bytes : l ≡ line.bytes = ap (λ (x : Line). x.bytes) (same_value (record { number = n; bytes = l }) line (record { number = n + 1; lines = ls }) now g) in
        rw (← bytes) (and_parts (has_no 10 l) (are_lines ls) k).0

-- ---- fewer lines are left

first_fewer : (test : List ℕ → Bool) (n : ℕ) (ls : List (List ℕ)) (now : Rest) → behind_first test (record { number = n; lines = ls }) ≡ Some now → length now.lines + 1 ≡ length ls
first_fewer test n [] now e = absurd (cc)
first_fewer test n (l ∷ ls) now e =
    elim (if_cases (test l) (Some (record { number = n + 1; lines = ls })) None (Some now) e) [
      | inl found ↦
          let same : record { number = n + 1; lines = ls } ≡ now = cc in
          subst (λ (r : Rest). length r.lines + 1 ≡ suc (length ls)) same (omega arith)
      | inr other ↦ absurd (let no : None ≡ Some now = other.1 in cc)
    ]

pub silent_fewer : (n : ℕ) (ls : List (List ℕ)) → length (behind_silent n ls).lines ≤ length ls
silent_fewer n [] = omega arith
silent_fewer n (l ∷ ls) =
    elim (bool_tells (is_silent l)) [
      | inl e ↦ rw e (omega (arith, silent_fewer (n + 1) ls))
      | inr e ↦ rw e (omega arith)
    ]

pub behind_fewer : (said : Said) (rest now : Rest) → behind said rest ≡ Some now → length now.lines < length rest.lines
behind_fewer said rest now e =
    elim (bool_tells (is_raw said)) [
      | inl raw ↦ omega (arith, first_fewer (says said) rest.number rest.lines now (rw raw at e))
      | inr plain ↦
          let skipped : Rest = behind_silent rest.number rest.lines in
          omega (arith, first_fewer (says said) skipped.number skipped.lines now (rw plain at e), silent_fewer rest.number rest.lines)
    ]

pub all_fewer : (saids : List Said) (rest now : Rest) → behind_all saids rest ≡ Some now → length now.lines ≤ length rest.lines
all_fewer [] rest now e =
    let same : rest ≡ now = cc in
    rw same (omega arith)
all_fewer (said ∷ more) rest now e =
    let one = split_one said more rest now e in
    omega (arith, behind_fewer said rest one.mid one.first, all_fewer more one.mid now one.second)
