-- One line more before the one that opens a SCoP.
use Rattle.std.proofs.Common.{◌≡◌, ℕ, true, false, List, [], ◌∷◌, refl, sym, ap, ◌∙◌, Option, Some, None, Ok, Err}
use Rattle.std.specs.Str.{bytes_eq}
use Rattle.std.proofs.lemmas.Slice.Eq.{bytes_eq-Decides}
use Rattle.suite_base.specs.declared.refusals.Refusal.{Refusal}
use Rattle.suite_base.specs.declared.refusals.Refusal.TheVariants.{BadScop, SecondScop}
use Rattle.suite_base.specs.Words.{content}
use Rattle.scop_reader.specs.Lines.{Rest, Line, TakesLine, is_silent, is_empty}
use Rattle.scop_reader.specs.Reading.{literal, said_line}
use Rattle.scop_reader.specs.Rules.{from_open, open_word, opening, no_second}

abbrev pub opened : Rest → Rest
opened r = from_open r.number r.lines

open_skips : (old new : Rest) (line : Line) → TakesLine old (Some line) new → bytes_eq (content line.bytes) open_word ≡ false → opened old ≡ opened new
open_skips old new line (e, f) other = ap opened e ∙ (simp other refl ∙ sym (ap opened f))

open_found : (old new : Rest) (line : Line) → TakesLine old (Some line) new → bytes_eq (content line.bytes) open_word ≡ true → opened old ≡ record { number = line.number; lines = line.bytes ∷ new.lines }
open_found old new line (e, f) found = ap opened e ∙ simp found refl

open_none : (old new : Rest) → TakesLine old None new → opened old ≡ record { number = new.number; lines = [] }
open_none old new (e, f) = rw e (ap (λ (r : Rest). record { number = r.number; lines = [] }) (sym f))

-- a line that opens a SCoP says something
not_silent : (line : List ℕ) → bytes_eq (content line) open_word ≡ true → is_silent line ≡ false
not_silent line e = ap is_empty ((bytes_eq-Decides (content line) open_word).0 e)

pub opening_skips : (old new : Rest) (line : Line) → TakesLine old (Some line) new → bytes_eq (content line.bytes) open_word ≡ false → opening old ≡ opening new
unfolding opening
opening_skips old new line h other = ap (literal open_word) (open_skips old new line h other)

pub opening_found : (old new : Rest) (line : Line) → TakesLine old (Some line) new → bytes_eq (content line.bytes) open_word ≡ true → opening old ≡ Ok (tt, new)
unfolding opening literal said_line
opening_found old new line h found =
    let silent : is_silent line.bytes ≡ false = not_silent line.bytes found in
    ap (literal open_word) (open_found old new line h found) ∙ (simp (silent, found) (ap (λ (r : Rest). Ok (tt, r)) (sym h.1)))

pub opening_none : (old new : Rest) → TakesLine old None new → opening old ≡ Err (BadScop new.number)
unfolding opening literal said_line
opening_none old new h = ap (literal open_word) (open_none old new h)

-- the refusal of what is left from an opening line on
second_of : Rest → Option Refusal
second_of r = elim r.lines [ [] ↦ None | line ∷ lines ↦ Some (SecondScop r.number) ]

pub second_skips : (old new : Rest) (line : Line) → TakesLine old (Some line) new → bytes_eq (content line.bytes) open_word ≡ false → no_second old ≡ no_second new
unfolding second_of
second_skips old new line h other = ap second_of (open_skips old new line h other)

pub second_found : (old new : Rest) (line : Line) → TakesLine old (Some line) new → bytes_eq (content line.bytes) open_word ≡ true → no_second old ≡ Some (SecondScop line.number)
unfolding second_of
second_found old new line h found = ap second_of (open_found old new line h found)

pub second_none : (old new : Rest) → TakesLine old None new → no_second old ≡ None
unfolding second_of
second_none old new h = ap second_of (open_none old new h)
