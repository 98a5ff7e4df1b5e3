-- How the steps of a cursor join to the readers of lines.
use Rattle.std.proofs.Common.{◌≡◌, ℕ, true, false, List, [], refl, sym, ap, subst, ◌∙◌, Option, Some, None}
use Rattle.scop_reader.specs.Lines.{Rest, Line, TakesLine, is_silent, behind_silent}

abbrev pub said : Rest → Rest
said r = behind_silent r.number r.lines

pub said_silent : (old new : Rest) (line : Line) → TakesLine old (Some line) new → is_silent line.bytes ≡ true → said old ≡ said new
said_silent old new line (e, f) silent = ap said e ∙ (simp silent refl ∙ sym (ap said f))

pub said_found : (old new : Rest) (line : Line) → TakesLine old (Some line) new → is_silent line.bytes ≡ false → TakesLine (said old) (Some line) new
said_found old new line (e, f) says = (ap said e ∙ simp says refl, f)

pub said_none : (old new : Rest) → TakesLine old None new → TakesLine (said old) None new
said_none old new (e, f) =
    let none : said old ≡ record { number = old.number; lines = [] } = rw e refl in
    (ap (λ (r : Rest). r.lines) none, f ∙ (ap (λ (ls : List (List ℕ)). record { number = old.number; lines = ls }) e ∙ sym none))

-- what is known of one reading holds of an equal one
pub takes_along : (a b new : Rest) (line : Option Line) → a ≡ b → TakesLine b line new → TakesLine a line new
takes_along a b new line e t = let P : Rest → Type 0 = λ r. TakesLine r line new in subst P (sym e) t
