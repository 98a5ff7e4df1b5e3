-- An occurrence of a name, as it is told.
use Rattle.std.specs.Prelude.{ℕ, List, Bool, Option}
use Rattle.clan_extract.specs.Names.{Role, Occurrence}

abbrev pub seen : List ℕ → Option Role → Bool → ℕ → Occurrence
seen name role shadows at = record { name = name; role = role; shadows = shadows; at = at }
