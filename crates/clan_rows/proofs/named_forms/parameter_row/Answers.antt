use Rattle.std.proofs.Common.{◌∙◌, sym, length}
use Rattle.clan_extract.specs.Forms.{first_of_name}
use Rattle.clan_rows.proofs.Multiples.{named_zeros}
use Rattle.clan_rows.proofs.named_forms.parameter_row.Goals as goal

pub returns-then-is_named : goal.returns-then-is_named
returns-then-is_named c =
    c.in_ok-zeros.ensures
    ∙ named_zeros c.args.factor _ (length c.args.parameters.now) (first_of_name c.args.parameters.now c.args.name.now) (sym c.is_named.ensures ∙ c.if-is_named.true)
