-- One line more of an extension that is kept.
use Rattle.std.proofs.Common.{◌≡◌, ℕ, true, false, List, [], ◌∷◌, ◌++◌, refl, sym, ap, ◌∙◌, Some, None, Ok, Err}
use Rattle.std.specs.Str.{bytes_eq}
use Rattle.suite_base.specs.declared.refusals.Refusal.TheVariants.{BadScop}
use Rattle.suite_base.specs.Lines.{trim}
use Rattle.scop_core.specs.Printable.{end_line}
use Rattle.scop_reader.specs.Lines.{Rest, Line, TakesLine}
use Rattle.scop_reader.specs.Reading.{Outcome}
use Rattle.scop_reader.specs.Rules.{kept_from}

abbrev pub kept_at : List ℕ → List (List ℕ) → Rest → Outcome (List (List ℕ))
kept_at name found rest = kept_from name rest.number found rest.lines

pub kept_more : (name : List ℕ) (found : List (List ℕ)) (old new : Rest) (line : Line) → TakesLine old (Some line) new
    → bytes_eq (trim line.bytes) (end_line name) ≡ false → kept_at name found old ≡ kept_at name (found ++ line.bytes ∷ []) new
unfolding kept_from
kept_more name found old new line (e, f) goes = ap (kept_at name found) e ∙ (simp goes refl ∙ sym (ap (kept_at name (found ++ line.bytes ∷ [])) f))

pub kept_ends : (name : List ℕ) (found : List (List ℕ)) (old new : Rest) (line : Line) → TakesLine old (Some line) new
    → bytes_eq (trim line.bytes) (end_line name) ≡ true → kept_at name found old ≡ Ok (found, new)
unfolding kept_from
kept_ends name found old new line (e, f) ends = ap (kept_at name found) e ∙ (simp ends refl ∙ sym (ap (λ (r : Rest). Ok (found, r)) f))

pub kept_none : (name : List ℕ) (found : List (List ℕ)) (old new : Rest) → TakesLine old None new
    → kept_at name found old ≡ Err (BadScop new.number)
unfolding kept_from
kept_none name found old new (e, f) = rw e (ap (λ (r : Rest). Err (BadScop r.number)) (sym f))
