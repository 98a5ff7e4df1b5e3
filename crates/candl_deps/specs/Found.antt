-- The dependences of a SCoP held in memory, and the lines of their block.
use Rattle.std.specs.Prelude.{◌≡◌, ℤ, ℕ, ◌≤◌, List, [], ◌∷◌, ◌++◌, length, slice_get, Option, Some, None}
use Rattle.std.specs.Fmt.{decimal}
use Rattle.suite_base.specs.Limits.{max_systems}
use Rattle.relation_core.specs.Systems.{System}
use Rattle.scop_core.specs.ScopData.{ScopData}
use Rattle.dependence_systems.specs.declared.dependences.Dep.{Dep}
use Rattle.dependence_systems.specs.Sides.{Side, own_sides}
use Rattle.dependence_systems.specs.Entries.{entries}
use Rattle.dependence_blocks.specs.Blocks.{entry_lines, block_of}
use Rattle.dependence_blocks.specs.KeptLines.{IsReadable}
use Rattle.candl_deps.specs.declared.held.Decided.{Decided}
use Rattle.candl_deps.specs.declared.held.Dependences.{Dependences}
use Rattle.candl_deps.specs.Decisions.{IsDecided, IsBlock}

abbrev system_in : Option Decided → Option System
system_in None = None
system_in (Some one) = Some one.system

abbrev certificate_in : Option Decided → Option (List ℤ)
certificate_in None = None
certificate_in (Some one) = one.certificate

-- the system at a place, from 0
abbrev pub system_at : List Decided → ℕ → Option System
system_at decided k = system_in (slice_get decided k)

-- the certificate at a place; none where the system is kept
abbrev pub certificate_at : List Decided → ℕ → Option (List ℤ)
certificate_at decided k = certificate_in (slice_get decided k)

-- the verdicts, in order
abbrev pub verdicts_of : List Decided → List (Option (List ℤ))
verdicts_of [] = []
verdicts_of (one ∷ decided) = one.certificate ∷ verdicts_of decided

-- an entry with its own system and the right verdict on it; all their numbers fit their types
pub record IsFound (context : System) (sides : List Side) (e : Dep) (one : Decided) : Type 0 where
  pub decided : IsDecided context sides e one.system one.certificate
  pub readable : IsReadable e one.system one.certificate

-- each entry is decided
abbrev pub AreDecided : System → List Side → List Dep → List Decided → Type 0
AreDecided context sides [] [] = Unit {0}
AreDecided context sides [] (one ∷ decided) = ⊥
AreDecided context sides (e ∷ list) [] = ⊥
AreDecided context sides (e ∷ list) (one ∷ decided) = IsFound context sides e one × AreDecided context sides list decided

-- the decided system of an entry was appended
pub record IsPushed (context : System) (sides : List Side) (e : Dep) (old new : List Decided) : Type 0 where
  pub one : Decided
  pub found : IsFound context sides e one
  pub is : new ≡ old ++ one ∷ []

-- all systems of a SCoP, in order, each decided
pub record AreDependences (S : ScopData) (found : Dependences) : Type 0 where
  pub few : length (entries (own_sides S)) ≤ max_systems
  pub list : found.deps ≡ entries (own_sides S)
  pub decided : AreDecided S.context (own_sides S) found.deps found.decided

-- the lines of entries, each with the decided system at its place
abbrev pub found_lines : List Dep → List Decided → List (List ℕ)
found_lines [] decided = []
found_lines (e ∷ list) [] = []
found_lines (e ∷ list) (one ∷ decided) = entry_lines e one.system one.certificate ++ found_lines list decided

-- the lines of the block: the number of systems, then the entries
abbrev pub found_block : Dependences → List (List ℕ)
found_block found = decimal (length found.deps) ∷ found_lines found.deps found.decided

-- the block that is printed of a SCoP's dependences is the block of the SCoP
abbrev pub FoundBlocksAreBlocks : Type 0
FoundBlocksAreBlocks = (S : ScopData) (found : Dependences) → AreDependences S found → IsBlock S (block_of (found_block found))
