use Rattle.std.proofs.Common.{[], ◌∷◌, ◌++◌, ap, ◌∙◌}
use Rattle.region_names.specs.Roles.{role_is}
use Rattle.region_names.specs.Tables.{role_in}
use Rattle.region_names.proofs.Tables.{entries, goes_last}
use Rattle.region_names.proofs.role_tables.RoleTable.add.Goals as goal

pub returns : goal.returns
returns c =
    ap entries c.in_ok-insert.ensures.entries
    ∙ goes_last c.self.inside.roles.entries c.args.name c.args.role (ap (λ es. role_in es c.args.name.now) c.self.view_is ∙ c.requires)
    ∙ ap (λ es. es ++ (c.args.name.now, role_is c.args.role) ∷ []) c.self.view_is
