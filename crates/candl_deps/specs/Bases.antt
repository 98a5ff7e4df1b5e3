-- The rows that the systems of an entry share with those of the entries that differ from it in the level alone.
use Rattle.std.specs.Prelude.{◌≡◌, ◌^◌, ◌<◌, List, length, IfSome}
use Rattle.relation_core.specs.Systems.{System, truncated}
use Rattle.dependence_systems.specs.declared.dependences.Dep.{Dep}
use Rattle.dependence_systems.specs.declared.dependences.DepKind.TheVariants.{Raw}
use Rattle.dependence_systems.specs.Sides.{Side}
use Rattle.dependence_systems.specs.Systems.{pairing_of, ground_of, base_of, base_weight}
use Rattle.candl_deps.specs.declared.bases.Base.{Base}

-- an entry without its level
abbrev pub without_level : Dep → Dep
without_level e = record e { level = 0 }

-- an entry without what tells one pair of accesses from another, and without its level
abbrev pub without_accesses : Dep → Dep
without_accesses e = record e { kind = Raw; source_access = 0; target_access = 0; level = 0 }

-- a base without the rows of a level
abbrev pub cut_back : Base → Base
cut_back base = record base { part = truncated base.count base.part }

-- the base of its entry, no rows of a level behind it
pub record IsBase (context : System) (sides : List Side) (base : Base) : Type 0 where
  pub part : base.part ≡ base_of (pairing_of context sides base.entry)
  pub count : base.count ≡ length base.part.rows
  pub ground : base.ground ≡ length (ground_of (pairing_of context sides base.entry)).rows
  pub reduced : IfSome base.reduced (λ rows. rows ≡ base.part)
  pub light : base_weight (pairing_of context sides base.entry) < 2 ^ 127

-- that of an entry, or of one that differs from it in the level alone
pub record IsBaseOf (context : System) (sides : List Side) (e : Dep) (base : Base) : Type 0 where
  pub is : IsBase context sides base
  pub same : without_level base.entry ≡ without_level e
