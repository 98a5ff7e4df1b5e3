-- What the SCoP of a C region has to be.
use Rattle.std.specs.Prelude.{◌≡◌, ℕ, List, [], pos, Some}
use Rattle.scop_core.specs.ScopData.{ScopData}
use Rattle.scop_core.specs.Memory.{Agree, initial}
use Rattle.scop_core.specs.Meaning.{Instance, Run, final}
use Rattle.clan_extract.specs.Regions.{Nodes, numbered, names_if_any}
use Rattle.clan_extract.specs.Execution.{Setting, run_nodes}

-- S has a run at the values of the parameters, whose final memory is the memory after the region
pub record RunsAs (S : ScopData) (setting : Setting) (region : Nodes) : Type 0 where
  pub run : List Instance
  pub is_run : Run S setting.values run
  pub same_memory : Agree (final S setting.values run) (run_nodes setting [] region initial)

-- S names these parameters, or has no list of names where there are none, and its list of arrays numbers these arrays in order
pub record HasNames (S : ScopData) (parameters arrays : List (List ℕ)) : Type 0 where
  pub parameters_are : S.parameters ≡ names_if_any parameters
  pub arrays_are : S.arrays ≡ Some (numbered (pos 1) arrays)
