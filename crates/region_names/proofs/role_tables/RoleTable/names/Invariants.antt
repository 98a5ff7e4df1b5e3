use Rattle.std.proofs.Common.{◌≡◌, take}
use Rattle.region_names.specs.Roles.{lists}
use Rattle.region_names.specs.Tables.{names_in}
use Rattle.region_names.proofs.role_tables.RoleTable.names.Given as goal

abbrev pub invariant-loop-k : goal.invariant-loop-k
invariant-loop-k l = l.names ≡ names_in (lists l.listed) (take l.k l.self)
