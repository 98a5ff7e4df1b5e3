use Rattle.std.proofs.Common.{ap, sym, ◌∙◌}
use Rattle.std.specs.Prelude.{pos}
use Rattle.c_lexer.specs.Symbols.{value_from}
use Rattle.clan_rows.specs.Fitting.{in_range}
use Rattle.region_forms.proofs.Leaves.{value_of_integer}
use Rattle.region_forms.proofs.evaluations.number.Goals as goal

pub returns-in_ok-form-in-Some : goal.returns-in_ok-form-in-Some
returns-in_ok-form-in-Some c =
    value_of_integer _ _ _ _ _ (ap (λ b. in_range (pos (value_from 0 b))) (sym c.piece_bytes.ensures) ∙ sym c.integer.ensures ∙ c.in-Some.is) c.in_ok-form-in-Some.ensures
