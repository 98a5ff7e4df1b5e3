-- Which SCoPs a script is recovered for, and that it does what it is for.
use Rattle.std.specs.Prelude.{◌≡◌, ℕ, List, [], ◌∷◌, length}
use Rattle.scop_data.specs.declared.statements.Statement.{Statement}
use Rattle.scop_core.specs.ScopData.{ScopData}
use Rattle.scop_core.specs.Validity.{IsValid}
use Rattle.chlore_recover.specs.Recoverable.{IsClans, IsRecoverable}
use Rattle.chlore_recover.specs.Strategy.{strategy, Recovers}

-- the statements s and t, over so many parameters, have as many iterators, s is in Clan's form, and t is recoverable
pub record IsPaired (parameters : ℕ) (s t : Statement) : Type 0 where
  pub iterators : length s.body.iterators ≡ length t.body.iterators
  pub clans : IsClans parameters s
  pub recoverable : IsRecoverable t

-- so are the statements of two SCoPs, number by number
abbrev pub ArePaired : ℕ → List Statement → List Statement → Type 0
ArePaired parameters [] [] = Unit {0}
ArePaired parameters [] (t ∷ target) = ⊥
ArePaired parameters (s ∷ original) [] = ⊥
ArePaired parameters (s ∷ original) (t ∷ target) = IsPaired parameters s t × ArePaired parameters original target

-- O and T have as many parameters and statements, each pair of which is such
pub record CanRecover (O T : ScopData) : Type 0 where
  pub parameters : O.context.shape.parameters ≡ T.context.shape.parameters
  pub statements : ArePaired O.context.shape.parameters O.statements T.statements

-- then the script turns the schedules of O into those of T, however many commands it has
abbrev pub StrategyRecovers : Type 0
StrategyRecovers = (O T : ScopData) → IsValid O → IsValid T → CanRecover O T → Recovers O T (strategy O T)
