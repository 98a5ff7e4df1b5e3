-- Two systems held in memory, the first dropped and the second kept.
use Rattle.std.proofs.Common.{◌≡◌, refl, ℤ, pos, List, [], ◌∷◌}
use Rattle.std.specs.Fmt.{digits}
use Rattle.std.specs.Prelude.{codes, Some, None}
use Rattle.relation_core.specs.Systems.{System}
use Rattle.dependence_systems.specs.declared.dependences.Dep.{Dep}
use Rattle.dependence_systems.specs.declared.dependences.DepKind.TheVariants.{Waw}
use Rattle.candl_deps.specs.declared.held.Decided.{Decided}
use Rattle.candl_deps.specs.declared.held.Dependences.{Dependences}
use Rattle.candl_deps.specs.Found.{system_at, certificate_at, verdicts_of, found_block}

-- the system without columns and without rows
abbrev bare : System
bare = record { shape = record { outputs = 0; inputs = 0; locals = 0; parameters = 0 }; rows = [] }

abbrev two : List Decided
two = record { system = bare; certificate = Some (pos 1 ∷ []) } ∷ (record { system = bare; certificate = None } ∷ [])

systems : (system_at two 1 ≡ Some bare) × (system_at two 2 ≡ None)
systems = (refl, refl)

certificates : (certificate_at two 0 ≡ Some (pos 1 ∷ [])) × (certificate_at two 1 ≡ None) × (certificate_at two 2 ≡ None)
certificates = (refl, refl, refl)

verdicts : verdicts_of two ≡ Some (pos 1 ∷ []) ∷ (None ∷ [])
verdicts = refl

-- `x = 0; x = 1;` has one system, without rows
abbrev written : Dep
written = record { kind = Waw; source = 1; target = 2; source_access = 1; target_access = 1; source_part = 1; target_part = 1; level = 0 }

abbrev kept : Dependences
kept = record { deps = written ∷ []; decided = record { system = bare; certificate = None } ∷ [] }

block : found_block kept ≡ codes "1" ∷ (codes "WAW 1 2 1 1 1 1 0 kept" ∷ (codes "0 2 0 0 0 0" ∷ []))
unfolding digits
block = refl
