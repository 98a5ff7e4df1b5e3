-- Commands on one statement's levels that are not refused for it.
use Rattle.std.specs.Prelude.{◌≡◌, ◌<◌, ◌^◌, ℤ, pos, int_le, ℕ, Bool, true, false, ◌&&◌, List, [], ◌∷◌, length, unsigned_abs}
use Rattle.std.specs.Ordering.{int_eq}
use Rattle.scop_data.specs.declared.affines.Affine.{Affine}
use Rattle.scop_data.specs.declared.schedules.Schedule.{Schedule}
use Rattle.scop_core.specs.AffineSums.{sum_weight, move_weight}
use Rattle.clay_script.specs.declared.commands.Command.{Command}
use Rattle.clay_script.specs.declared.commands.Command.TheVariants.{Interchange, Skew, Shift, Reverse}
use Rattle.clay_commands.specs.Arguments.{place}
use Rattle.clay_commands.specs.Drafts.{form_at, forms_after}

-- a schedule with these levels
abbrev pub at_levels : Schedule → List Affine → Schedule
at_levels schedule levels = record schedule { levels = levels }

-- level k, from 1, is one of these
abbrev pub is_level : ℤ → List Affine → Bool
is_level k levels = int_le (pos 1) k && int_le k (pos (length levels))

-- a command on levels is not refused for them: those that it names are there, it names two for a skew, its arguments are as many
-- as the parameters, and its sums are coefficients
abbrev pub Suits : ℕ → Command → List Affine → Type 0
Suits parameters (Interchange p k l) levels = (is_level k levels ≡ true) × (is_level l levels ≡ true)
Suits parameters (Skew p k l f) levels =
    (is_level k levels ≡ true) × (is_level l levels ≡ true) × (int_eq k l ≡ false) × (sum_weight (form_at levels (place k)) f (form_at levels (place l)) < 2 ^ 127)
Suits parameters (Shift p k v c) levels = (is_level k levels ≡ true) × (length v ≡ parameters) × (move_weight (form_at levels (place k)) v c < 2 ^ 127)
Suits parameters (Reverse p k) levels = is_level k levels ≡ true
Suits parameters other levels = ⊥

-- commands, none of them refused for a statement under their prefix, lead its schedule from a to b
abbrev pub Runs : ℕ → List Command → Schedule → Schedule → Type 0
Runs parameters [] a b = a ≡ b
Runs parameters (command ∷ commands) a b = Suits parameters command a.levels × Runs parameters commands (forms_after command a) b

-- each entry is a coefficient
abbrev pub Small : List ℤ → Type 0
Small [] = Unit {0}
Small (z ∷ row) = (unsigned_abs z < 2 ^ 127) × Small row

-- each row is small
abbrev pub AllSmall : List (List ℤ) → Type 0
AllSmall [] = Unit {0}
AllSmall (row ∷ rows) = Small row × AllSmall rows

-- target levels over so many parameters, without floors, whose parameters' coefficients and constants are coefficients
abbrev pub AreForms : ℕ → List Affine → Type 0
AreForms n [] = Unit {0}
AreForms n (form ∷ levels) =
    ((form.floors ≡ []) × (length form.parameters ≡ n) × Small form.parameters × (unsigned_abs form.constant < 2 ^ 127)) × AreForms n levels
