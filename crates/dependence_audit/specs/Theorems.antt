-- What an audited block says.
use Rattle.std.specs.Prelude.{◌≡◌, ◌<◌, ◌≤◌, ◌^◌, ◌↔◌, ℕ, ℤ, length, List, [], ◌∷◌, Option, Some, None, IfSome, Ok}
use Rattle.suite_base.specs.Limits.{max_systems}
use Rattle.relation_core.specs.Systems.{System, columns}
use Rattle.farkas_cert.specs.Certificates.{Valid, IsTooHeavy}
use Rattle.scop_core.specs.ScopData.{ScopData, extended}
use Rattle.scop_core.specs.Validity.{IsValid}
use Rattle.scop_core.specs.Meaning.{Instance, InContext, Conflict}
use Rattle.dependence_systems.specs.declared.dependences.Dep.{Dep}
use Rattle.dependence_systems.specs.Sides.{Side, own_sides}
use Rattle.dependence_systems.specs.Entries.{entries}
use Rattle.dependence_systems.specs.Systems.{system_of, summand_weight}
use Rattle.dependence_blocks.specs.Blocks.{block_lines, block_of}
use Rattle.dependence_blocks.specs.KeptLines.{IsReadable}
use Rattle.dependence_blocks.specs.Conflicts.{AreSound, LiesInKept}
use Rattle.dependence_audit.specs.declared.audits.Counts.{Counts}
use Rattle.dependence_audit.specs.Audits.{Verdicts, verdicts_in, counts_of, audited}

-- the multipliers of a dropped system are a valid certificate
abbrev pub IsCertified : System → Option (List ℤ) → Type 0
IsCertified system None = Unit {0}
IsCertified system (Some certificate) = Valid (columns system.shape) system.rows certificate

-- each entry has a verdict, and the multipliers of each dropped one are a valid certificate
abbrev pub AreCertified : System → List Side → List Dep → Verdicts → Type 0
AreCertified context sides [] [] = Unit {0}
AreCertified context sides [] (verdict ∷ verdicts) = ⊥
AreCertified context sides (e ∷ list) [] = ⊥
AreCertified context sides (e ∷ list) (verdict ∷ verdicts) = IsCertified (system_of context sides e) verdict × AreCertified context sides list verdicts

-- a pair of instances lies in a kept system exactly where it conflicts, in context
abbrev pub KeptAreConflicts : ScopData → Verdicts → Type 0
KeptAreConflicts S verdicts = (n : List ℤ) → InContext S n → (a b : Instance)
    → LiesInKept S.context (own_sides S) n (entries (own_sides S)) verdicts a b ↔ Conflict S n a b

-- what holds of a block with these counts: it states verdicts of these counts, one for each system; the multipliers of
-- each dropped system are a valid certificate, and no such system has a rational point; the kept systems hold the conflicts
pub record IsAudited (S : ScopData) (counts : Counts) : Type 0 where
  pub verdicts : Verdicts
  pub states : verdicts_in S ≡ Ok verdicts
  pub counts_are : counts ≡ counts_of verdicts
  pub certified : AreCertified S.context (own_sides S) (entries (own_sides S)) verdicts
  pub sound : AreSound S.context (own_sides S) (entries (own_sides S)) verdicts
  pub kept : KeptAreConflicts S verdicts

-- a block that passes says what it should
abbrev pub AuditedBlocksAreSound : Type 0
AuditedBlocksAreSound = (S : ScopData) → IsValid S → (counts : Counts) → audited S ≡ Ok counts → IsAudited S counts

-- the numbers of an entry can be read back, the multipliers of a dropped one are a valid certificate that is not too heavy,
-- and no summands of its system overflow
pub record IsPrintable (e : Dep) (system : System) (weight : ℕ) (verdict : Option (List ℤ)) : Type 0 where
  pub light : weight < 2 ^ 127
  pub readable : IsReadable e system verdict
  pub certified : IfSome verdict (λ certificate. Valid (columns system.shape) system.rows certificate × (¬ IsTooHeavy (columns system.shape) system.rows certificate))

-- each entry has a verdict, and they are so
abbrev pub ArePrintable : System → List Side → List Dep → Verdicts → Type 0
ArePrintable context sides [] [] = Unit {0}
ArePrintable context sides [] (verdict ∷ verdicts) = ⊥
ArePrintable context sides (e ∷ list) [] = ⊥
ArePrintable context sides (e ∷ list) (verdict ∷ verdicts) =
    IsPrintable e (system_of context sides e) (summand_weight context sides e) verdict × ArePrintable context sides list verdicts

-- the SCoP with the block of these verdicts as its last extension, in place of an older one
abbrev pub with_block : ScopData → Verdicts → ScopData
with_block S verdicts = extended S (block_of (block_lines S.context (own_sides S) (entries (own_sides S)) verdicts))

-- a printed block passes with the verdicts that it was printed of
abbrev pub PrintedBlocksPass : Type 0
PrintedBlocksPass = (S : ScopData) (verdicts : Verdicts) → length (entries (own_sides S)) ≤ max_systems
    → ArePrintable S.context (own_sides S) (entries (own_sides S)) verdicts
    → (verdicts_in (with_block S verdicts) ≡ Ok verdicts) × (audited (with_block S verdicts) ≡ Ok (counts_of verdicts))
