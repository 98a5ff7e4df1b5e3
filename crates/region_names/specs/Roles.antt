-- The roles of names, as code keeps them.
use Rattle.std.specs.Prelude.{Bool, Option, Some, None}
use Rattle.clan_extract.specs.Names.{Role, Function, ArrayOf, Iterator, Parameter, is_parameter, is_array_role}
use Rattle.region_names.specs.declared.roles.Role.{Role as KeptRole}
use Rattle.region_names.specs.declared.roles.Role.TheVariants as kept
use Rattle.region_names.specs.declared.roles.Listed.{Listed}
use Rattle.region_names.specs.declared.roles.Listed.TheVariants as listed

abbrev pub role_is : KeptRole → Role
role_is kept.Function = Function
role_is (kept.ArrayOf subscripts) = ArrayOf subscripts
role_is kept.Iterator = Iterator
role_is kept.Parameter = Parameter

-- a role of its own, or none
abbrev pub given : Option KeptRole → Option Role
given None = None
given (Some role) = Some (role_is role)

-- the roles of the names that are listed
abbrev pub lists : Listed → Role → Bool
lists listed.Parameters = is_parameter
lists listed.Arrays = is_array_role
