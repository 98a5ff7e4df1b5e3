-- What an answer says of the violation systems of an edited SCoP.
use Rattle.std.specs.Prelude.{◌≡◌, ◌⊎◌, Bool, true, false, ℕ, ◌+◌, ◌^◌, ◌<◌, ◌≤◌, List, [], ◌∷◌, ◌++◌, length, Result, Ok, Err}
use Rattle.suite_base.specs.declared.refusals.Fail.{Fail}
use Rattle.suite_base.specs.declared.refusals.Fail.TheVariants as fail
use Rattle.suite_base.specs.declared.refusals.Refusal.{Refusal}
use Rattle.suite_base.specs.declared.refusals.Refusal.TheVariants.{Limit, Overflow, TooManyRows}
use Rattle.suite_base.specs.declared.refusals.Where.TheVariants.{System as OfSystem}
use Rattle.suite_base.specs.declared.refusals.Which.TheVariants.{Systems}
use Rattle.suite_base.specs.Limits.{max_systems, max_stage_rows}
use Rattle.relation_core.specs.Systems.{System, columns}
use Rattle.relation_core.specs.Points.{HasPoint}
use Rattle.farkas_cert.specs.Certificates.{HasNoPoint}
use Rattle.elim_core.specs.Peaks.{peak}
use Rattle.legality.specs.declared.legal.Legal.{Legal}
use Rattle.legality.specs.declared.legal.Legal.TheVariants.{Yes, Illegal}
use Rattle.legality.specs.Violations.{Edit, Violation, dependences, violations, violation_system, violation_weight, violation_peak}

-- the absolute values of an entry's summands sum to at most 2^127 - 1 in the system of a violation
abbrev pub IsLight : Edit → Violation → Type 0
IsLight E v = violation_weight E v < 2 ^ 127

-- the system of a violation has a rational point
abbrev pub IsReal : Edit → Violation → Type 0
IsReal E v = HasPoint (columns (violation_system E v).shape) (violation_system E v).rows

-- it has none, and its rows can be built
pub record IsNone (E : Edit) (v : Violation) : Type 0 where
  pub light : IsLight E v
  pub no_point : HasNoPoint (columns (violation_system E v).shape) (violation_system E v).rows

-- none of a list of violations has a rational point
abbrev pub AreNone : Edit → List Violation → Type 0
AreNone E [] = Unit {0}
AreNone E (v ∷ vs) = IsNone E v × AreNone E vs

-- violation number k, from 1, is such, and those before it have no rational point
pub record StopsAt (E : Edit) (k : ℕ) (Holds : Violation → Type 0) : Type 0 where
  pub before : List Violation
  pub violation : Violation
  pub behind : List Violation
  pub split : violations E ≡ before ++ violation ∷ behind
  pub number : k ≡ length before + 1
  pub none : AreNone E before
  pub holds : Holds violation

-- why the list is refused
abbrev pub IsRefusal : Edit → Refusal → Type 0
IsRefusal E (Limit which k) = (which ≡ Systems) × (k ≡ 0) × (max_systems < length (dependences E))
IsRefusal E (Overflow what k) =
    (what ≡ OfSystem) × (length (dependences E) ≤ max_systems) × StopsAt E k (λ v. 2 ^ 127 ≤ (violation_peak E v).weight)
IsRefusal E (TooManyRows k) =
    (length (dependences E) ≤ max_systems) × StopsAt E k (λ v. IsLight E v × (max_stage_rows < (violation_peak E v).rows))
IsRefusal E refusal = ⊥

-- no violation has a rational point
pub record IsAccepted (E : Edit) : Type 0 where
  pub few : length (dependences E) ≤ max_systems
  pub none : AreNone E (violations E)

-- violation number k is the first with a rational point
pub record IsRejected (E : Edit) (k : ℕ) : Type 0 where
  pub few : length (dependences E) ≤ max_systems
  pub first : StopsAt E k (λ v. IsLight E v × IsReal E v)

-- want of memory says nothing
abbrev pub IsAnswer : Edit → Result Legal Fail → Type 0
IsAnswer E (Ok Yes) = IsAccepted E
IsAnswer E (Ok (Illegal k)) = IsRejected E k
IsAnswer E (Err fail.Memory) = Unit {0}
IsAnswer E (Err (fail.Refused refusal)) = IsRefusal E refusal

-- what an answer says of violation number k where it ends the search there
abbrev pub StopsHere : Edit → ℕ → Violation → Result Legal Fail → Type 0
StopsHere E k v (Ok Yes) = ⊥
StopsHere E k v (Ok (Illegal i)) = (i ≡ k) × IsLight E v × IsReal E v
StopsHere E k v (Err fail.Memory) = Unit {0}
StopsHere E k v (Err (fail.Refused (Overflow what i))) = (what ≡ OfSystem) × (i ≡ k) × (2 ^ 127 ≤ (violation_peak E v).weight)
StopsHere E k v (Err (fail.Refused (TooManyRows i))) = (i ≡ k) × IsLight E v × (max_stage_rows < (violation_peak E v).rows)
StopsHere E k v (Err (fail.Refused refusal)) = ⊥

-- what an answer says where the list ends
abbrev pub IsEnd : Result Legal Fail → Type 0
IsEnd (Ok Yes) = Unit {0}
IsEnd (Ok (Illegal i)) = ⊥
IsEnd (Err fail.Memory) = Unit {0}
IsEnd (Err (fail.Refused refusal)) = ⊥

-- what an answer says of a list of violations, the first of which is number k
abbrev pub IsSaid : Edit → ℕ → List Violation → Result Legal Fail → Type 0
IsSaid E k [] answer = IsEnd answer
IsSaid E k (v ∷ vs) answer = StopsHere E k v answer ⊎ (IsNone E v × IsSaid E (k + 1) vs answer)

-- what is said of violation number k alone: whether it has a rational point, or why that is not known
abbrev pub IsTried : Edit → Violation → ℕ → Result Bool Fail → Type 0
IsTried E v k (Ok true) = IsLight E v × IsReal E v
IsTried E v k (Ok false) = IsNone E v
IsTried E v k (Err failed) = StopsHere E k v (Err failed)

-- what is said of a system alone
abbrev pub IsDecided : System → ℕ → Result Bool Fail → Type 0
IsDecided system k (Ok true) = HasPoint (columns system.shape) system.rows
IsDecided system k (Ok false) = HasNoPoint (columns system.shape) system.rows
IsDecided system k (Err fail.Memory) = Unit {0}
IsDecided system k (Err (fail.Refused (Overflow what i))) = (what ≡ OfSystem) × (i ≡ k) × (2 ^ 127 ≤ (peak system).weight)
IsDecided system k (Err (fail.Refused (TooManyRows i))) = (i ≡ k) × (max_stage_rows < (peak system).rows)
IsDecided system k (Err (fail.Refused refusal)) = ⊥

-- the rows that several systems share have no rational point, where that is said of them
abbrev pub IsKnown : System → Bool → Type 0
IsKnown base false = Unit {0}
IsKnown base true = HasNoPoint (columns base.shape) base.rows
