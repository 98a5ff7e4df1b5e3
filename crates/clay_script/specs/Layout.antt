-- The printed text of a script.
use Rattle.std.specs.Prelude.{ℕ, ◌<◌, ◌^◌, List, [], ◌∷◌, ◌++◌, map, ℤ, unsigned_abs, codes}
use Rattle.std.specs.List.{flat_map}
use Rattle.std.specs.Fmt.{signed_decimal}
use Rattle.row_core.specs.Rows.{AreCoefficients}
use Rattle.clay_script.specs.declared.commands.Command.{Command}
use Rattle.clay_script.specs.Names.{letters_of}
use Rattle.clay_script.specs.Commands.{Argument, OneNumber, OneVector, name_of, arguments_of}

-- a text behind `, `
abbrev pub behind_comma : List ℕ → List ℕ
behind_comma text = codes ", " ++ text

-- texts with `, ` between each two
abbrev pub comma_joined : List (List ℕ) → List ℕ
comma_joined [] = []
comma_joined (text ∷ more) = text ++ flat_map behind_comma more

abbrev pub vector_text : List ℤ → List ℕ
vector_text zs = codes "[" ++ comma_joined (map signed_decimal zs) ++ codes "]"

abbrev pub argument_text : Argument → List ℕ
argument_text (OneNumber z) = signed_decimal z
argument_text (OneVector zs) = vector_text zs

-- a command's line
abbrev pub command_text : Command → List ℕ
command_text c = letters_of (name_of c) ++ codes "(" ++ comma_joined (map argument_text (arguments_of c)) ++ codes ");\n"

-- the printed script: one line for each command
abbrev pub layout : List Command → List ℕ
layout script = flat_map command_text script

-- every number of an argument is a coefficient
abbrev pub FitsArgument : Argument → Type 0
FitsArgument (OneNumber z) = unsigned_abs z < 2 ^ 127
FitsArgument (OneVector zs) = AreCoefficients zs

abbrev pub FitArguments : List Argument → Type 0
FitArguments [] = Unit {0}
FitArguments (a ∷ more) = FitsArgument a × FitArguments more

-- every number of a script is a coefficient
abbrev pub FitCommands : List Command → Type 0
FitCommands [] = Unit {0}
FitCommands (c ∷ more) = FitArguments (arguments_of c) × FitCommands more
