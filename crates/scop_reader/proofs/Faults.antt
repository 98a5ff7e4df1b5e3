-- Each refusal of a reader is one that a text can meet: the steps, and the readers of lines.
use Rattle.std.proofs.Common.{ℕ, ℤ, ◌==◌, if◌then◌else◌, List, [], ◌∷◌, length, Option, Some, None, IfSome, Result, Ok, Err, Bool, true, false}
use Rattle.std.specs.Prelude.{nat_lt}
use Rattle.std.specs.Str.{bytes_eq}
use Rattle.suite_base.specs.declared.refusals.Refusal.{Refusal}
use Rattle.suite_base.specs.declared.refusals.Refusal.TheVariants.{BadScop, Limit}
use Rattle.suite_base.specs.declared.refusals.Which.{Which}
use Rattle.suite_base.specs.declared.numbers.NumberRead.{NumberRead}
use Rattle.suite_base.specs.declared.numbers.NumberRead.TheVariants.{Value, TooLarge, NotNumber}
use Rattle.suite_base.specs.Lines.{trim}
use Rattle.suite_base.specs.Words.{content}
use Rattle.suite_base.specs.Numbers.{number_read}
use Rattle.scop_reader.specs.Lines.{Rest, Line, Word, behind_silent, words_of}
use Rattle.scop_reader.specs.Reading.{Outcome, Reader, ◌>>=◌, and_then, pure, check, unless, of_result, said_line, first_line, literal, closing, word_line, number_in, with_number, numbers_in, at_least}
use Rattle.scop_reader.specs.Rules.{within, number_line, count_line}
use Rattle.scop_reader.specs.Texts.{IsTextRefusal}

-- a result that is no refusal, or one that a text can meet
abbrev pub MeetsText : {A : Type 0} → Result A Refusal → Type 0
MeetsText (Ok a) = Unit {0}
MeetsText (Err refusal) = IsTextRefusal refusal

-- a reader whose refusals a text can meet
abbrev pub OfText : {A : Type 0} → Reader A → Type 0
OfText r = (rest : Rest) → MeetsText (r rest)

-- a refusal, if there is one, that a text can meet
pub record MayMeet (refusal : Option Refusal) : Type 0 where
  pub meets : IfSome refusal IsTextRefusal

-- ---- steps

pub pure_meets : {A : Type 0} (a : A) → OfText (pure a)
pure_meets a rest = tt

then_meets : {A B : Type 0} (o : Outcome A) (f : A → Reader B) → MeetsText o → ((a : A) → OfText (f a)) → MeetsText (and_then o f)
then_meets (Ok p) f h k = k p.0 p.1
then_meets (Err refusal) f h k = h

pub bind_meets : {A B : Type 0} (r : Reader A) (f : A → Reader B) → OfText r → ((a : A) → OfText (f a)) → OfText (r >>= f)
bind_meets r f h k rest = then_meets (r rest) f (h rest) k

pub check_meets : (holds : Bool) (line : ℕ) → OfText (check holds (BadScop line))
check_meets true line rest = tt
check_meets false line rest = tt

pub none_meets : MayMeet None
none_meets = record { meets = tt }

pub unless_meets : (refusal : Option Refusal) → MayMeet refusal → OfText (unless refusal)
unless_meets None h rest = tt
unless_meets (Some refusal) h rest = h.meets

pub of_result_meets : {A : Type 0} (result : Result A Refusal) → MeetsText result → OfText (of_result result)
of_result_meets (Ok a) h rest = tt
of_result_meets (Err refusal) h rest = h

pub if_meets : {A : Type 0} (b : Bool) (o p : Result A Refusal) → MeetsText o → MeetsText p → MeetsText (if b then o else p)
if_meets true o p h k = h
if_meets false o p h k = k

pub choice_meets : {A : Type 0} (b : Bool) (r q : Reader A) → OfText r → OfText q → OfText (if b then r else q)
choice_meets true r q h k = h
choice_meets false r q h k = k

pub limited : (b : Bool) (refusal : Refusal) (next : Option Refusal) → IsTextRefusal refusal → MayMeet next → MayMeet (if b then Some refusal else next)
limited true refusal next h k = record { meets = h }
limited false refusal next h k = k

pub within_meets : (most count : ℕ) (which : Which) (k : ℕ) → OfText (within most count which k)
within_meets most count which k = unless_meets _ (limited (nat_lt most count) (Limit which k) None tt none_meets)

-- ---- lines

first_line_meets : (n : ℕ) (ls : List (List ℕ)) → MeetsText (first_line (record { number = n; lines = ls }))
first_line_meets n [] = tt
first_line_meets n (l ∷ ls) = tt

pub said_meets : OfText said_line
unfolding said_line
said_meets rest = let found : Rest = behind_silent rest.number rest.lines in first_line_meets found.number found.lines

-- a line that says something, and passes a test
pub said_then : {B : Type 0} (f : Line → Reader B) → ((line : Line) → OfText (f line)) → OfText (said_line >>= f)
said_then f h = bind_meets said_line f said_meets h

pub checked : {B : Type 0} (holds : Bool) (line : ℕ) (f : Unit {0} → Reader B) → ((u : Unit {0}) → OfText (f u)) → OfText (check holds (BadScop line) >>= f)
checked holds line f h = bind_meets (check holds (BadScop line)) f (check_meets holds line) h

pub literal_meets : (text : List ℕ) → OfText (literal text)
unfolding literal
literal_meets text = said_then _ (λ line. check_meets (bytes_eq (content line.bytes) text) line.number)

pub closing_meets : (text : List ℕ) → OfText (closing text)
unfolding closing
closing_meets text = said_then _ (λ line. check_meets (bytes_eq (trim line.bytes) text) line.number)

pub word_line_meets : (n : ℕ) → OfText (word_line n)
unfolding word_line
word_line_meets n = said_then _ (λ line. checked (length (words_of line.bytes) == n) line.number _ (λ u rest. tt))

-- ---- numbers

pub number_meets : (line : Line) (allowed : ℤ → Bool) (word : Word) (read : NumberRead) → MeetsText (number_in line allowed word read)
number_meets line allowed word NotNumber = tt
number_meets line allowed word TooLarge = tt
number_meets line allowed word (Value n) = if_meets (allowed n) (Ok n) (Err (BadScop line.number)) tt tt

pub with_meets : (number : Result ℤ Refusal) (more : Result (List ℤ) Refusal) → MeetsText number → MeetsText more → MeetsText (with_number number more)
with_meets (Err refusal) more h k = h
with_meets (Ok n) (Err refusal) h k = k
with_meets (Ok n) (Ok ns) h k = tt

pub numbers_meets : (line : Line) (allowed : ℤ → Bool) (words : List Word) → MeetsText (numbers_in line allowed words)
numbers_meets line allowed [] = tt
numbers_meets line allowed (word ∷ words) = with_meets (number_in line allowed word (number_read word.bytes)) (numbers_in line allowed words) (number_meets line allowed word (number_read word.bytes)) (numbers_meets line allowed words)

pub number_line_meets : (n : ℕ) (allowed : ℤ → Bool) → OfText (number_line n allowed)
unfolding number_line
number_line_meets n allowed =
    said_then _ (λ line.
    checked (length (words_of line.bytes) == n) line.number _ (λ u.
    bind_meets (of_result (numbers_in line allowed (words_of line.bytes))) _ (of_result_meets _ (numbers_meets line allowed (words_of line.bytes))) (λ numbers rest. tt)))

pub count_line_meets : (least : ℕ) → OfText (count_line least)
unfolding count_line
count_line_meets least = bind_meets (number_line 1 (at_least least)) _ (number_line_meets 1 (at_least least)) (λ found rest. tt)
