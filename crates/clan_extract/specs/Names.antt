-- The roles of names, over all their occurrences in the order of the text: parameters, arrays, and the first clash.
use Rattle.std.specs.Prelude.{◌≡◌, ℕ, List, [], ◌∷◌, Bool, true, false, cond, not, ◌&&◌, ◌||◌, nat_eq, bytes_eq, Option, None, Some}
use Rattle.scop_core.specs.Sequences.{In}
use Rattle.clan_extract.specs.Regions.{is_among, first_occurrences}

-- the role of a name: before a bracket of arguments, with so many subscripts, of a loop in its scope, or of a value from outside
pub data Role : Type 0 where
  Function : Role
  ArrayOf : (subscripts : ℕ) → Role
  Iterator : Role
  Parameter : Role

-- an occurrence of a name at a place of the source. It has a role of its own, or none where it stands plain in a right side outside
-- the loops of its name. The name of a loop inside a loop of this name shadows it
pub record Occurrence : Type 0 where
  pub name : List ℕ
  pub role : Option Role
  pub shadows : Bool
  pub at : ℕ

abbrev pub is_parameter : Role → Bool
is_parameter Function = false
is_parameter (ArrayOf subscripts) = false
is_parameter Iterator = false
is_parameter Parameter = true

abbrev pub is_array_role : Role → Bool
is_array_role Function = false
is_array_role (ArrayOf subscripts) = true
is_array_role Iterator = false
is_array_role Parameter = false

abbrev pub same_role : Role → Role → Bool
same_role Function Function = true
same_role (ArrayOf j) (ArrayOf k) = nat_eq j k
same_role Iterator Iterator = true
same_role Parameter Parameter = true
same_role r s = false

-- an occurrence is a parameter by itself
abbrev pub says_parameter : Option Role → Bool
says_parameter None = false
says_parameter (Some role) = is_parameter role

-- some occurrence of the name is a parameter by itself
abbrev pub has_parameter : List Occurrence → List ℕ → Bool
has_parameter [] name = false
has_parameter (o ∷ os) name = (bytes_eq o.name name && says_parameter o.role) || has_parameter os name

-- the role that an occurrence has, where plain ones have this role
abbrev pub role_with : Role → Option Role → Role
role_with plain None = plain
role_with plain (Some role) = role

-- a plain name is a parameter where the name is one anywhere, else an array without subscripts
abbrev pub plain_role : List Occurrence → List ℕ → Role
plain_role all name = cond (has_parameter all name) Parameter (ArrayOf 0)

-- the role of an occurrence, among all
abbrev pub role_of : List Occurrence → Occurrence → Role
role_of all o = role_with (plain_role all o.name) o.role

-- the role of the first of these occurrences that has the name
abbrev pub first_role : List Occurrence → List Occurrence → List ℕ → Role
first_role all [] name = Function
first_role all (o ∷ os) name = cond (bytes_eq o.name name) (role_of all o) (first_role all os name)

-- an occurrence breaks the rules: its role is not that of the name's first occurrence, or it shadows a loop
abbrev pub breaks : List Occurrence → Occurrence → Bool
breaks all o = o.shadows || not (same_role (role_of all o) (first_role all all o.name))

-- the place of the first of these occurrences that breaks the rules
abbrev pub first_break : List Occurrence → List Occurrence → Option ℕ
first_break all [] = None
first_break all (o ∷ os) = cond (breaks all o) (Some o.at) (first_break all os)

abbrev pub clash : List Occurrence → Option ℕ
clash all = first_break all all

-- the names of the occurrences that have such a role
abbrev pub names_with : (Role → Bool) → List Occurrence → List Occurrence → List (List ℕ)
names_with test all [] = []
names_with test all (o ∷ os) = cond (test (role_of all o)) (o.name ∷ names_with test all os) (names_with test all os)

-- the parameters and the arrays, by first occurrence
abbrev pub parameters_in : List Occurrence → List (List ℕ)
parameters_in all = first_occurrences (names_with is_parameter all all)

abbrev pub arrays_in : List Occurrence → List (List ℕ)
arrays_in all = first_occurrences (names_with is_array_role all all)

-- where nothing clashes, all occurrences of a name have one role
abbrev pub NamesHaveOneRole : Type 0
NamesHaveOneRole = (all : List Occurrence) → clash all ≡ None → (o p : Occurrence) → In o all → In p all → o.name ≡ p.name → role_of all o ≡ role_of all p

-- the parameters and the arrays are the names of such occurrences, each once
abbrev pub NamesAreListed : Type 0
NamesAreListed = (all : List Occurrence) (o : Occurrence) → In o all
    → (is_parameter (role_of all o) ≡ true → is_among o.name (parameters_in all) ≡ true) × (is_array_role (role_of all o) ≡ true → is_among o.name (arrays_in all) ≡ true)
