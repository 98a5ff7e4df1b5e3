-- The verdicts on the dependence systems of a SCoP, and what keeps a system from its verdict. A verdict is a Farkas
-- certificate, or none where the system is kept.
use Rattle.std.specs.Prelude.{◌≡◌, ℤ, ℕ, ◌+◌, ◌^◌, ◌<◌, ◌≤◌, max, List, [], ◌∷◌, ◌++◌, length, Option, Some, None}
use Rattle.suite_base.specs.declared.refusals.Fail.{Fail}
use Rattle.suite_base.specs.declared.refusals.Fail.TheVariants as fail
use Rattle.suite_base.specs.declared.refusals.Refusal.{Refusal}
use Rattle.suite_base.specs.declared.refusals.Refusal.TheVariants.{Limit, Overflow, TooManyRows}
use Rattle.suite_base.specs.declared.refusals.Where.TheVariants.{System as OfSystem}
use Rattle.suite_base.specs.declared.refusals.Which.TheVariants.{Systems}
use Rattle.suite_base.specs.Limits.{max_systems, max_stage_rows}
use Rattle.relation_core.specs.Systems.{System, columns}
use Rattle.relation_core.specs.Points.{HasPoint}
use Rattle.elim_core.specs.declared.verdicts.ElimFail.{ElimFail}
use Rattle.elim_core.specs.declared.verdicts.ElimFail.TheVariants as cause
use Rattle.elim_core.specs.Peaks.{Peak, peak, IsRefutedBy}
use Rattle.scop_core.specs.ScopData.{ScopData}
use Rattle.scop_core.specs.ScopData.{extended}
use Rattle.scop_data.specs.declared.statements.Extension.{Extension}
use Rattle.dependence_systems.specs.declared.dependences.Dep.{Dep}
use Rattle.dependence_systems.specs.Sides.{Side, own_sides}
use Rattle.dependence_systems.specs.Entries.{entries}
use Rattle.dependence_systems.specs.Systems.{system_of, summand_weight}
use Rattle.dependence_blocks.specs.Blocks.{lines_of, block_lines, block_of}
use Rattle.dependence_blocks.specs.KeptLines.{IsReadable}

-- a system is kept exactly where it has a rational point; the certificate of a dropped one is valid and light
abbrev pub IsRight : System → Option (List ℤ) → Type 0
IsRight system None = HasPoint (columns system.shape) system.rows
IsRight system (Some certificate) = IsRefutedBy system certificate

-- each entry has a verdict, and it is right
abbrev pub AreRight : System → List Side → List Dep → List (Option (List ℤ)) → Type 0
AreRight context sides [] [] = Unit {0}
AreRight context sides [] (verdict ∷ verdicts) = ⊥
AreRight context sides (e ∷ entries) [] = ⊥
AreRight context sides (e ∷ entries) (verdict ∷ verdicts) = IsRight (system_of context sides e) verdict × AreRight context sides entries verdicts

-- each entry has a verdict, and the numbers of its lines fit their types
abbrev pub AreReadable : System → List Side → List Dep → List (Option (List ℤ)) → Type 0
AreReadable context sides [] [] = Unit {0}
AreReadable context sides [] (verdict ∷ verdicts) = ⊥
AreReadable context sides (e ∷ entries) [] = ⊥
AreReadable context sides (e ∷ entries) (verdict ∷ verdicts) =
    IsReadable e (system_of context sides e) verdict × AreReadable context sides entries verdicts

-- in no system do the absolute values of an entry's summands sum above 2^127 - 1
abbrev pub AreLight : System → List Side → List Dep → Type 0
AreLight context sides [] = Unit {0}
AreLight context sides (e ∷ entries) = (summand_weight context sides e < 2 ^ 127) × AreLight context sides entries

-- the greatest number that the stated elimination of an entry's system meets, sums of summands included, and the most rows
abbrev pub entry_peak : System → List Side → Dep → Peak
entry_peak context sides e =
    let stated = peak (system_of context sides e) in record { weight = max (summand_weight context sides e) stated.weight; rows = stated.rows }

-- what keeps one system from its verdict passes a limit of its peak
abbrev pub FailsOne : System → List Side → Dep → ElimFail → Type 0
FailsOne context sides e cause.Memory = Unit {0}
FailsOne context sides e cause.Overflow = 2 ^ 127 ≤ (entry_peak context sides e).weight
FailsOne context sides e cause.TooManyRows = max_stage_rows < (entry_peak context sides e).rows

-- the refusal of the system with this number
abbrev pub refused : ElimFail → ℕ → Fail
refused cause.Memory k = fail.Memory
refused cause.Overflow k = fail.Refused (Overflow OfSystem k)
refused cause.TooManyRows k = fail.Refused (TooManyRows k)

-- one system is refused with its number, or memory is wanting
pub record StopsOne (context : System) (sides : List Side) (e : Dep) (k : ℕ) (failure : Fail) : Type 0 where
  pub from : ElimFail
  pub fails : FailsOne context sides e from
  pub is : failure ≡ refused from k

-- a system is refused by its peak, and the summands of those before it are light; it is number k, from 1
pub record StopsAt (context : System) (sides : List Side) (list : List Dep) (k : ℕ) (Passes : Peak → Type 0) : Type 0 where
  pub before : List Dep
  pub entry : Dep
  pub behind : List Dep
  pub split : list ≡ before ++ entry ∷ behind
  pub number : k ≡ length before + 1
  pub light : AreLight context sides before
  pub passes : Passes (entry_peak context sides entry)

-- why the systems of a list are refused
abbrev pub IsRefusal : System → List Side → List Dep → Refusal → Type 0
IsRefusal context sides list (Limit which k) = (which ≡ Systems) × (k ≡ 0) × (max_systems < length list)
IsRefusal context sides list (Overflow what k) = (what ≡ OfSystem) × (length list ≤ max_systems) × StopsAt context sides list k (λ p. 2 ^ 127 ≤ p.weight)
IsRefusal context sides list (TooManyRows k) = (length list ≤ max_systems) × StopsAt context sides list k (λ p. max_stage_rows < p.rows)
IsRefusal context sides list refusal = ⊥

-- the same for a SCoP's own systems; want of memory has no cause
abbrev pub IsCause : ScopData → Fail → Type 0
IsCause S fail.Memory = Unit {0}
IsCause S (fail.Refused refusal) = IsRefusal S.context (own_sides S) (entries (own_sides S)) refusal

-- the verdicts on all systems of a SCoP
pub record AreVerdicts (S : ScopData) (verdicts : List (Option (List ℤ))) : Type 0 where
  pub few : length (entries (own_sides S)) ≤ max_systems
  pub light : AreLight S.context (own_sides S) (entries (own_sides S))
  pub right : AreRight S.context (own_sides S) (entries (own_sides S)) verdicts
  pub readable : AreReadable S.context (own_sides S) (entries (own_sides S)) verdicts

-- the lines of the block with these verdicts
abbrev pub lines_with : ScopData → List (Option (List ℤ)) → List (List ℕ)
lines_with S verdicts = block_lines S.context (own_sides S) (entries (own_sides S)) verdicts

-- lines were appended: those of the first entries of a list, each with a right verdict
pub record IsPrinted (context : System) (sides : List Side) (list : List Dep) (old new : List (List ℕ)) : Type 0 where
  pub verdicts : List (Option (List ℤ))
  pub light : AreLight context sides list
  pub right : AreRight context sides list verdicts
  pub readable : AreReadable context sides list verdicts
  pub lines : new ≡ old ++ lines_of context sides list verdicts

-- what a decided entry of a list is
pub record IsDecided (context : System) (sides : List Side) (e : Dep) (system : System) (verdict : Option (List ℤ)) : Type 0 where
  pub system_is : system ≡ system_of context sides e
  pub light : summand_weight context sides e < 2 ^ 127
  pub right : IsRight system verdict

-- the extension is the block of the SCoP's dependences
pub record IsBlock (S : ScopData) (extension : Extension) : Type 0 where
  pub verdicts : List (Option (List ℤ))
  pub are : AreVerdicts S verdicts
  pub is : extension ≡ block_of (lines_with S verdicts)

-- the SCoP with its block in place of an older one
pub record WithDependences (S made : ScopData) : Type 0 where
  pub block : Extension
  pub is_block : IsBlock S block
  pub made_is : made ≡ extended S block

-- each peak is within both limits
abbrev pub AreWithin : System → List Side → List Dep → Type 0
AreWithin context sides [] = Unit {0}
AreWithin context sides (e ∷ entries) =
    let p = entry_peak context sides e in (p.weight < 2 ^ 127) × (p.rows ≤ max_stage_rows) × AreWithin context sides entries

-- a SCoP of which every system can be decided
pub record IsDecidable (S : ScopData) : Type 0 where
  pub few : length (entries (own_sides S)) ≤ max_systems
  pub within : AreWithin S.context (own_sides S) (entries (own_sides S))
