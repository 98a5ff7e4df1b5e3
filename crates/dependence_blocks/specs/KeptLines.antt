-- Lines that an extension can keep: a line without a newline and without `<` ends no extension.
use Rattle.std.specs.Prelude.{ℕ, ℤ, ◌<◌, ◌^◌, Bool, ◌&&◌, List, length, Option, IfSome}
use Rattle.row_core.specs.Rows.{AreCoefficients}
use Rattle.relation_core.specs.Systems.{System, IsWellFormed}
use Rattle.scop_core.specs.Printable.{has_no}
use Rattle.dependence_systems.specs.declared.dependences.Dep.{Dep}

-- no newline and no `<`
abbrev pub is_kept_line : List ℕ → Bool
is_kept_line line = has_no 10 line && has_no 60 line

-- the numbers of an entry fit their type
pub record HasRange (e : Dep) : Type 0 where
  pub source : e.source < 2 ^ 32
  pub target : e.target < 2 ^ 32
  pub source_access : e.source_access < 2 ^ 32
  pub target_access : e.target_access < 2 ^ 32
  pub source_part : e.source_part < 2 ^ 32
  pub target_part : e.target_part < 2 ^ 32
  pub level : e.level < 2 ^ 32

-- all numbers of an entry's lines fit their types, so that they can be read back
pub record IsReadable (e : Dep) (system : System) (verdict : Option (List ℤ)) : Type 0 where
  pub range : HasRange e
  pub formed : IsWellFormed system.shape system.rows
  pub few : length system.rows < 2 ^ 64
  pub multipliers : IfSome verdict AreCoefficients
