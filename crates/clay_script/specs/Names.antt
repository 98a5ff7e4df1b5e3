-- The names of the commands.
use Rattle.std.specs.Prelude.{ℕ, List, [], ◌∷◌, Option, Some, None, codes, if◌then◌else◌}
use Rattle.std.specs.Str.{bytes_eq}
use Rattle.clay_script.specs.declared.command_names.CommandName.{CommandName}
use Rattle.clay_script.specs.declared.command_names.CommandName.TheVariants.{Fission, Fuse, Reorder, Interchange, Skew, Shift, Reverse, Stripmine, Tile, Iss}

-- the letters of a command's name
abbrev pub letters_of : CommandName → List ℕ
letters_of Fission = codes "fission"
letters_of Fuse = codes "fuse"
letters_of Reorder = codes "reorder"
letters_of Interchange = codes "interchange"
letters_of Skew = codes "skew"
letters_of Shift = codes "shift"
letters_of Reverse = codes "reverse"
letters_of Stripmine = codes "stripmine"
letters_of Tile = codes "tile"
letters_of Iss = codes "iss"

-- all names
abbrev pub all_names : List CommandName
all_names = Fission ∷ Fuse ∷ Reorder ∷ Interchange ∷ Skew ∷ Shift ∷ Reverse ∷ Stripmine ∷ Tile ∷ Iss ∷ []

-- the first of some names that is written with these letters
abbrev pub named_among : List CommandName → List ℕ → Option CommandName
named_among [] letters = None
named_among (name ∷ more) letters = if bytes_eq letters (letters_of name) then Some name else named_among more letters

-- the command that has this name
abbrev pub named : List ℕ → Option CommandName
named letters = named_among all_names letters
