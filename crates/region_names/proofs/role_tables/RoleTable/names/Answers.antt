use Rattle.region_names.specs.Roles.{role_is, lists}
use Rattle.region_names.proofs.Tables.{names_more}
use Rattle.region_names.proofs.role_tables.RoleTable.names.Goals as goal

pub loop-k-preserved : goal.loop-k-preserved
loop-k-preserved c =
    names_more (lists c.args.listed) c.args.self.now c.loop-k.k (c.in-Some.name.now, role_is c.in-Some.role) c.loop-k.names c.push_listed.new.names
    c.in-Some.ensures c.loop-k.invariant c.in_ok-push_listed-in-Some.ensures
