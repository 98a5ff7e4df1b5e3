use Rattle.std.proofs.Common.{ap, ◌∙◌}
use Rattle.region_names.specs.Roles.{given}
use Rattle.region_names.specs.Tables.{role_in}
use Rattle.region_names.proofs.Tables.{found_is}
use Rattle.region_names.proofs.role_tables.RoleTable.get.Goals as goal

pub returns : goal.returns
returns c =
    ap given (c.copied.ensures ∙ c.get.ensures.value) ∙ found_is c.self.inside.roles.entries c.args.name.now
    ∙ ap (λ es. role_in es c.args.name.now) c.self.view_is
