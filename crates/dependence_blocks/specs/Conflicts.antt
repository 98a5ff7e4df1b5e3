-- What the kept systems of a SCoP say: a pair of instances lies in one exactly where it conflicts.
use Rattle.std.specs.Prelude.{◌≡◌, ◌↔◌, ◌⊎◌, ℤ, List, [], ◌∷◌, Option, Some, None}
use Rattle.relation_core.specs.Systems.{System, columns}
use Rattle.farkas_cert.specs.Certificates.{HasNoPoint}
use Rattle.scop_core.specs.ScopData.{ScopData}
use Rattle.scop_core.specs.Validity.{IsValid}
use Rattle.scop_core.specs.Meaning.{Instance, InContext, Conflict}
use Rattle.dependence_systems.specs.declared.dependences.Dep.{Dep}
use Rattle.dependence_systems.specs.Sides.{Side, own_sides}
use Rattle.dependence_systems.specs.Entries.{entries}
use Rattle.dependence_systems.specs.Systems.{system_of}
use Rattle.dependence_systems.specs.Pairs.{LiesInEntry}

-- a dropped system has no rational point
abbrev pub IsSound : System → Option (List ℤ) → Type 0
IsSound system None = Unit {0}
IsSound system (Some certificate) = HasNoPoint (columns system.shape) system.rows

-- each entry has a verdict, and no dropped system has a rational point
abbrev pub AreSound : System → List Side → List Dep → List (Option (List ℤ)) → Type 0
AreSound context sides [] [] = Unit {0}
AreSound context sides [] (verdict ∷ verdicts) = ⊥
AreSound context sides (e ∷ entries) [] = ⊥
AreSound context sides (e ∷ entries) (verdict ∷ verdicts) = IsSound (system_of context sides e) verdict × AreSound context sides entries verdicts

-- the pair lies in a system that is kept
abbrev pub LiesInKept : System → List Side → List ℤ → List Dep → List (Option (List ℤ)) → Instance → Instance → Type 0
LiesInKept context sides n [] verdicts a b = ⊥
LiesInKept context sides n (e ∷ entries) [] a b = ⊥
LiesInKept context sides n (e ∷ entries) (verdict ∷ verdicts) a b =
    ((verdict ≡ None) × LiesInEntry context sides n e a b) ⊎ LiesInKept context sides n entries verdicts a b

-- where no dropped system has a rational point, a pair lies in a kept one exactly where it conflicts, in context
abbrev pub KeptSystemsHoldConflicts : Type 0
KeptSystemsHoldConflicts = (S : ScopData) → IsValid S → (verdicts : List (Option (List ℤ)))
    → AreSound S.context (own_sides S) (entries (own_sides S)) verdicts
    → (n : List ℤ) → InContext S n → (a b : Instance)
    → LiesInKept S.context (own_sides S) n (entries (own_sides S)) verdicts a b ↔ Conflict S n a b
