-- Names with their roles, in the order in which they were added.
use Rattle.std.specs.Prelude.{◌≡◌, ℕ, List, [], ◌∷◌, Bool, cond, bytes_eq, slice_get, Option, Some, None}
use Rattle.clan_extract.specs.Names.{Role}

-- the role of a name, where it has one
abbrev pub role_in : List (List ℕ × Role) → List ℕ → Option Role
role_in [] name = None
role_in (e ∷ es) name = cond (bytes_eq name e.0) (Some e.1) (role_in es name)

-- the names whose role passes a test
abbrev pub names_in : (Role → Bool) → List (List ℕ × Role) → List (List ℕ)
names_in test [] = []
names_in test (e ∷ es) = cond (test e.1) (e.0 ∷ names_in test es) (names_in test es)

-- the entry at a place, from 0
abbrev pub IsAt : List (List ℕ × Role) → ℕ → List ℕ → Role → Type 0
IsAt es k name role = slice_get es k ≡ Some (name, role)
