-- What an edit keeps of the statements of a SCoP: each new statement is a piece of an old one.
use Rattle.std.specs.Prelude.{◌≡◌, ℕ, ℤ, List, [], ◌∷◌, length, IsSomeAnd}
use Rattle.scop_data.specs.declared.statements.Statement.{Statement}
use Rattle.scop_core.specs.Meaning.{Instance}
use Rattle.scop_core.specs.Validity.{IsValid}
use Rattle.scop_core.specs.MappedRuns.{MapsInstances, IsReversed}
use Rattle.scop_core.specs.RunLaws.{HasNoTies}
use Rattle.relation_core.specs.Points.{LiesIn}
use Rattle.scop_core.specs.Meaning.{InContext, Run}
use Rattle.scop_core.specs.Sequences.{In}
use Rattle.dependence_systems.specs.Sides.{member}
use Rattle.dependence_systems.specs.Originals.{as_original}
use Rattle.edit_laws.specs.Keeping.{FloorsGoOn}
use Rattle.legality.specs.Violations.{Edit, Violation, violations, violation_system}

-- a statement has the iterators of its original, and floors that go on those of it
pub record IsPieceOf (original s : Statement) : Type 0 where
  pub iterators : length original.body.iterators ≡ length s.body.iterators
  pub floors : FloorsGoOn original.schedule s.schedule

-- each statement is a piece of the one of its number among the old ones
abbrev pub ArePiecesOf : List Statement → List Statement → List ℕ → Type 0
ArePiecesOf old [] [] = Unit {0}
ArePiecesOf old [] (k ∷ of) = ⊥
ArePiecesOf old (s ∷ now) [] = ⊥
ArePiecesOf old (s ∷ now) (k ∷ of) = IsSomeAnd (member old k) (λ original. IsPieceOf original s) × ArePiecesOf old now of

-- the SCoPs of an edit are valid, have one context, and the new statements are pieces of the old ones
pub record IsEdit (E : Edit) : Type 0 where
  pub old_valid : IsValid E.old
  pub now_valid : IsValid E.now
  pub context : E.old.context ≡ E.now.context
  pub pieces : ArePiecesOf E.old.statements E.now.statements E.of

-- a pair of instances lies in the system of a violation in the list
pub record LiesInViolation (E : Edit) (n : List ℤ) (a b : Instance) : Type 0 where
  pub violation : Violation
  pub listed : In violation (violations E)
  pub source_is : a.statement ≡ violation.entry.source
  pub target_is : b.statement ≡ violation.entry.target
  pub lies : LiesIn (violation_system E violation) a.values b.values n

-- in context, a pair that touches, whose originals run in this order and which itself runs in the other one, lies in one
abbrev pub ReversedPairsLieInViolations : Type 0
ReversedPairsLieInViolations = (E : Edit) → IsEdit E → (n : List ℤ) → InContext E.now n → (a b : Instance)
    → IsReversed E.now E.old n (as_original E.of) a b → LiesInViolation E n a b

-- for parameter values of the right length, the new instances are those of the old SCoP under the numbers of their originals, each
-- once and with the same events; and where the old SCoP has a run, no two new ones have one stamp
pub record KeepsInstances (E : Edit) : Type 0 where
  pub edit : IsEdit E
  pub instances : (n : List ℤ) → length n ≡ E.old.context.shape.parameters → MapsInstances E.now E.old n (as_original E.of)
  pub no_ties : (n : List ℤ) (L : List Instance) → length n ≡ E.old.context.shape.parameters → Run E.old n L → HasNoTies E.now n
