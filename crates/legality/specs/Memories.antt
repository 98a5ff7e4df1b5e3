-- When one SCoP computes what another one does.
use Rattle.std.specs.Prelude.{List, ℤ}
use Rattle.scop_core.specs.ScopData.{ScopData}
use Rattle.scop_core.specs.Memory.{Agree}
use Rattle.scop_core.specs.Meaning.{InContext, Instance, Run, final}
use Rattle.legality.specs.Violations.{Edit, violations}
use Rattle.legality.specs.Answers.{AreNone}
use Rattle.legality.specs.Edits.{KeepsInstances}

-- for all parameter values in context at which S has a run, T has one, and both end with the same term in every cell
abbrev pub KeepsMemory : ScopData → ScopData → Type 0
KeepsMemory S T = (n : List ℤ) → InContext S n → (L : List Instance) → Run S n L → (M : List Instance) × Run T n M × Agree (final T n M) (final S n L)

-- an edit whose violation systems have no rational point keeps the final memory
abbrev pub AcceptedEditsKeepMemory : Type 0
AcceptedEditsKeepMemory = (E : Edit) → KeepsInstances E → AreNone E (violations E) → KeepsMemory E.old E.now
