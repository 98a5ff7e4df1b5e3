-- Worked cases of the definitions.
use Rattle.std.proofs.Common.{◌≡◌, List, [], ◌∷◌, ℤ, pos, negsuc, None, refl}
use Rattle.std.specs.Prelude.{codes, map}
use Rattle.relation_core.specs.declared.part_rows.PartRow.{PartRow}
use Rattle.relation_core.specs.declared.part_rows.RowKind.TheVariants.{AtLeast}
use Rattle.scop_data.specs.declared.affines.Affine.{Affine}
use Rattle.scop_data.specs.declared.statements.Statement.{Statement}
use Rattle.scop_core.specs.ScopData.{ScopData}
use Rattle.scop_core.specs.Meaning.{Instance, floors_after, stamp}
use Rattle.dependence_systems.specs.Originals.{as_original}
use Rattle.clay_script.specs.declared.commands.Command.{Command}
use Rattle.clay_script.specs.declared.commands.Command.TheVariants.{Stripmine, Iss}
use Rattle.clay_commands.specs.Afters.{after_script, IsFormed}
use Rattle.clay_commands.specs.Spots.{edits, stamp_at}
use Rattle.edit_laws.specs.Stamping.{SplitsNone, edited_instance}

abbrev at_least : List ℤ → PartRow
at_least entries = record { kind = AtLeast; entries = entries }

abbrev same_value : Affine
same_value = record { iterators = pos 1 ∷ []; floors = []; parameters = []; constant = pos 0 }

-- i from -5 to 5
abbrev eleven : Statement
eleven = record {
  domain = record { shape = record { outputs = 1; inputs = 0; locals = 0; parameters = 0 }; rows = at_least (pos 1 ∷ (pos 5 ∷ [])) ∷ (at_least (negsuc 0 ∷ (pos 5 ∷ [])) ∷ []) } ∷ [];
  schedule = record { floors = []; levels = same_value ∷ []; betas = pos 0 ∷ (pos 0 ∷ []) };
  accesses = [];
  body = record { text = codes "S"; iterators = codes "i" ∷ [] };
  extensions = [];
}

abbrev loop : ScopData
loop = record {
  language = codes "C";
  context = record { shape = record { outputs = 0; inputs = 0; locals = 0; parameters = 0 }; rows = [] };
  parameters = None;
  statements = eleven ∷ [];
  arrays = None;
  extensions = [];
}

-- the part from 0 on first, then strips of four of all
abbrev script : List Command
script = Iss (pos 0 ∷ (pos 0 ∷ [])) (pos 1 ∷ []) [] (pos 0) ∷ (Stripmine (pos 0 ∷ []) (pos 1) (pos 4) ∷ [])

abbrev low : Instance
low = record { statement = 1; values = negsuc 4 ∷ [] }

abbrev edited_low : Instance
edited_low = record { statement = 2; values = negsuc 4 ∷ [] }

formed : IsFormed loop script
formed = refl

-- -5 is below 0, so it goes to the second statement, and to the strip from -8 to -5
second_part : edited_instance loop script [] low ≡ edited_low
second_part = refl

edited_stamp : stamp_at (edits loop script 1 (negsuc 4 ∷ []) []) ≡ pos 0 ∷ (negsuc 1 ∷ (pos 0 ∷ (negsuc 4 ∷ (pos 1 ∷ []))))
edited_stamp = refl

new_stamp : stamp (after_script loop script).scop [] edited_low ≡ stamp_at (edits loop script 1 (negsuc 4 ∷ []) [])
new_stamp = refl

from_the_first : as_original (after_script loop script).of edited_low ≡ low
from_the_first = refl

-- 0 itself stays in the first statement
first_part : (edits loop script 1 (pos 0 ∷ []) []).spot.number ≡ 1
first_part = refl

-- the new floor of both statements
floors_of_five : map (λ s. floors_after [] s.schedule.floors (pos 5 ∷ []) []) (after_script loop script).scop.statements ≡ (pos 1 ∷ []) ∷ ((pos 1 ∷ []) ∷ [])
floors_of_five = refl

no_split : SplitsNone (Stripmine (pos 0 ∷ []) (pos 1) (pos 4) ∷ [])
no_split = tt
