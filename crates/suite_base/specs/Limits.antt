-- The limits of the project: what passes one is refused. The constants of the code are proved to agree (`limits_agree`).
use Rattle.std.specs.Prelude.{ℕ, ◌-◌, ◌^◌}

-- bytes of a file
abbrev pub max_input : ℕ
max_input = 16777216

-- statements of a SCoP or a region
abbrev pub max_statements : ℕ
max_statements = 1024

-- iterators of a statement
abbrev pub max_iterators : ℕ
max_iterators = 12

-- parameters of a SCoP or a region
abbrev pub max_parameters : ℕ
max_parameters = 16

-- levels of a statement's schedule
abbrev pub max_levels : ℕ
max_levels = 24

-- locals of a part
abbrev pub max_locals : ℕ
max_locals = 24

-- rows of a part
abbrev pub max_rows : ℕ
max_rows = 256

-- parts of a relation
abbrev pub max_parts : ℕ
max_parts = 64

-- accesses of a statement
abbrev pub max_accesses : ℕ
max_accesses = 256

-- subscripts of an access
abbrev pub max_subscripts : ℕ
max_subscripts = 12

-- arrays of a SCoP or a region
abbrev pub max_arrays : ℕ
max_arrays = 4096

-- commands of a script
abbrev pub max_commands : ℕ
max_commands = 4096

-- dependence systems of a SCoP
abbrev pub max_systems : ℕ
max_systems = 65536

-- outputs, inputs, locals or parameters of a relation as it is read or built, before its own limit is asked
abbrev pub max_dimensions : ℕ
max_dimensions = 65536

-- the absolute value of a coefficient, and the weight of a sum
abbrev pub max_weight : ℕ
max_weight = 2 ^ 127 - 1

-- rows of one stage of an elimination
abbrev pub max_stage_rows : ℕ
max_stage_rows = 16384

-- brackets of C that are open at one time
abbrev pub max_nests : ℕ
max_nests = 64

-- loops of C around a statement
abbrev pub max_loops : ℕ
max_loops = 12
