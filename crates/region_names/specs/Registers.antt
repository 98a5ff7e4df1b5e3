-- What a walk keeps of the occurrences of names: which names are parameters, and the role of each name, up to the first clash.
use Rattle.std.specs.Prelude.{ℕ, List, [], ◌∷◌, ◌++◌, Bool, true, false, cond, not, ◌||◌, Option, Some, None}
use Rattle.clan_extract.specs.Names.{Role, ArrayOf, Parameter, Occurrence, same_role, says_parameter, role_with}
use Rattle.region_names.specs.declared.registers.Register.{Register}
use Rattle.region_names.specs.declared.registers.Walk.{Walk}
use Rattle.region_names.specs.declared.registers.Walk.TheVariants as walk
use Rattle.region_names.specs.Tables.{role_in}

-- ---- parameters

-- a name that is new is added
abbrev pub with_name : List (List ℕ × Role) → List ℕ → Option Role → List (List ℕ × Role)
with_name es name None = es ++ (name, Parameter) ∷ []
with_name es name (Some role) = es

-- an occurrence that is a parameter by itself makes its name one
abbrev pub noted : List (List ℕ × Role) → Occurrence → List (List ℕ × Role)
noted es o = cond (says_parameter o.role) (with_name es o.name (role_in es o.name)) es

abbrev pub with_parameter : Register → List ℕ → Register
with_parameter s name = record s { parameters = with_name s.parameters name (role_in s.parameters name) }

-- ---- roles

-- the role of a plain name: parameter where it is one anywhere, else an array without subscripts
abbrev pub plain_by : Option Role → Role
plain_by (Some role) = Parameter
plain_by None = ArrayOf 0

-- the role of an occurrence, where these names are parameters
abbrev pub resolved : List (List ℕ × Role) → List ℕ → Option Role → Role
resolved parameters name own = role_with (plain_by (role_in parameters name)) own

abbrev pub clashing : Register → ℕ → Register
clashing s at = record s { clash = Some at }

-- an occurrence of this role, where the name has this role by then
abbrev pub met : Option Role → Register → Role → List ℕ → Bool → ℕ → Register
met None s role name shadows at = cond shadows (clashing s at) (record s { roles = s.roles ++ (name, role) ∷ [] })
met (Some first) s role name shadows at = cond (shadows || not (same_role role first)) (clashing s at) s

-- nothing more is kept behind a clash
abbrev pub until_clash : Option ℕ → Register → Role → List ℕ → Bool → ℕ → Register
until_clash (Some at) s role name shadows here = s
until_clash None s role name shadows here = met (role_in s.roles name) s role name shadows here

-- ---- walks

-- at the start of the first walk, where these names are parameters
abbrev pub started : List (List ℕ × Role) → Register
started es = record { walk = walk.First; parameters = es; roles = []; clash = None; plain = false }

-- at the start of the second walk
abbrev pub restarted : Register → Register
restarted s = record s { walk = walk.Second; roles = []; clash = None }

-- the first walk notes parameters, and meets the names that have a role of their own
abbrev pub told_first : Option Role → Register → Occurrence → Register
told_first None s o = record s { plain = true }
told_first (Some own) s o = until_clash s.clash (record s { parameters = noted s.parameters o }) own o.name o.shadows o.at

abbrev pub told_by : Walk → Register → Occurrence → Register
told_by walk.First s o = told_first o.role s o
told_by walk.Second s o = until_clash s.clash s (resolved s.parameters o.name o.role) o.name o.shadows o.at

abbrev pub told : Register → Occurrence → Register
told s o = told_by s.walk s o

-- what is kept after these occurrences, one by one
abbrev pub after : Register → List Occurrence → Register
after s [] = s
after s (o ∷ os) = after (told s o) os
