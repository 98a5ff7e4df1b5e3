-- The names of a region, or the place of their first clash.
use Rattle.std.specs.Prelude.{ℕ, List, Option, Some, None, Result, Ok, Err}
use Rattle.clan_extract.specs.Names.{Occurrence, clash, parameters_in, arrays_in, is_parameter, is_array_role}
use Rattle.region_names.specs.declared.region.Names.{Names}
use Rattle.region_names.specs.declared.registers.Register.{Register}
use Rattle.region_names.specs.Tables.{names_in}

-- the parameters and the arrays by first occurrence, unless there is a clash
abbrev pub unless_clash : List Occurrence → Option ℕ → Result Names ℕ
unless_clash all (Some at) = Err at
unless_clash all None = Ok (record { parameters = parameters_in all; arrays = arrays_in all })

abbrev pub names_or_clash : List Occurrence → Result Names ℕ
names_or_clash all = unless_clash all (clash all)

-- what a register of roles answers where all occurrences were told
abbrev pub answer_of : Option ℕ → Register → Result Names ℕ
answer_of (Some at) s = Err at
answer_of None s = Ok (record { parameters = names_in is_parameter s.roles; arrays = names_in is_array_role s.roles })

abbrev pub kept_names : Register → Result Names ℕ
kept_names s = answer_of s.clash s
