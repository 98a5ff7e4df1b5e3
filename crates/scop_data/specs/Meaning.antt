-- What a SCoP means at parameter values n: its instances, their stamps and steps, its runs and its final memory.
-- Statements are numbered from 1.
use Rattle.std.specs.Prelude.{◌≡◌, ℕ, zero, suc, List, [], ◌∷◌, ◌++◌, map, length, ℤ, ◌+ℤ◌, Option, Some, None, IsSomeAnd, slice_get}
use Rattle.std.specs.Int.{int_div_euclid}
use Rattle.row_core.specs.Rows.{dot}
use Rattle.relation_core.specs.Points.{LiesIn, LiesInSome}
use Rattle.scop_data.specs.declared.affines.Affine.{Affine}
use Rattle.scop_data.specs.declared.accesses.Access.{Access}
use Rattle.scop_data.specs.declared.schedules.Floor.{Floor}
use Rattle.scop_data.specs.declared.schedules.Schedule.{Schedule}
use Rattle.scop_data.specs.declared.statements.Statement.{Statement}
use Rattle.scop_data.specs.ScopData.{ScopData}
use Rattle.scop_data.specs.Order.{Before}
use Rattle.scop_data.specs.Sequences.{RunOf, fold_steps}
use Rattle.scop_data.specs.Memory.{Memory, initial, Use, Event, EventsTouch, step_of}

-- the parameter values n are in context: they lie in the context, which has no other columns
abbrev pub InContext : ScopData → List ℤ → Type 0
InContext S n = LiesIn S.context [] [] n

-- one execution of a statement: the statement's number, from 1, and the values of its iterators
pub record Instance : Type 0 where
  pub statement : ℕ
  pub values : List ℤ

-- statement number k, where there is one
abbrev pub statement_at : List Statement → ℕ → Option Statement
statement_at statements zero = None
statement_at statements (suc k) = slice_get statements k

-- x is in the domain of the statement: one value for each iterator, and in some part
abbrev pub InDomain : Statement → List ℤ → List ℤ → Type 0
InDomain s x n = (length x ≡ length s.body.iterators) × LiesInSome s.domain x [] n

-- a is an instance of S at n: there is such a statement, and the values are in its domain
abbrev pub IsInstance : ScopData → List ℤ → Instance → Type 0
IsInstance S n a = IsSomeAnd (statement_at S.statements a.statement) (λ s. InDomain s a.values n)

-- the value of an affine form at iterators x, floors f and parameters n
abbrev pub affine_at : Affine → List ℤ → List ℤ → List ℤ → ℤ
affine_at form x f n = ((dot form.iterators x +ℤ dot form.floors f) +ℤ dot form.parameters n) +ℤ form.constant

-- the greatest integer not above e / s, for a size s of at least 1
abbrev pub floor_of : ℤ → ℤ → ℤ
floor_of e s = int_div_euclid e s

-- the values of the floors, each from those before it
abbrev pub floors_after : List ℤ → List Floor → List ℤ → List ℤ → List ℤ
floors_after earlier [] x n = earlier
floors_after earlier (f ∷ fs) x n = floors_after (earlier ++ floor_of (affine_at f.value x earlier n) f.size ∷ []) fs x n

-- the values of the levels
abbrev pub levels_at : List Affine → List ℤ → List ℤ → List ℤ → List ℤ
levels_at levels x f n = map (λ level. affine_at level x f n) levels

-- betas and levels in turn, a beta at both ends
abbrev pub interleaved : List ℤ → List ℤ → List ℤ
interleaved [] levels = []
interleaved (b ∷ betas) [] = b ∷ []
interleaved (b ∷ betas) (v ∷ levels) = b ∷ (v ∷ interleaved betas levels)

-- the stamp that a schedule gives to iterator values x at n
abbrev pub stamp_of : Schedule → List ℤ → List ℤ → List ℤ
stamp_of schedule x n = interleaved schedule.betas (levels_at schedule.levels x (floors_after [] schedule.floors x n) n)

-- the stamp in a statement; where there is none, the empty list
abbrev pub stamp_in : Option Statement → List ℤ → List ℤ → List ℤ
stamp_in None x n = []
stamp_in (Some s) x n = stamp_of s.schedule x n

-- the stamp of an instance: b0, v1, b1, .., vm, bm of its statement
abbrev pub stamp : ScopData → List ℤ → Instance → List ℤ
stamp S n a = stamp_in (statement_at S.statements a.statement) a.values n

-- what an access does at iterator values x: its kind, and the cell of its array at its subscripts
abbrev pub use_at : List ℤ → List ℤ → Access → Use
use_at x n access = record { kind = access.kind; cell = record { array = access.array; subscripts = map (λ subscript. affine_at subscript x [] n) access.subscripts } }

-- the execution of a statement at iterator values x; where there is none, it does nothing
abbrev pub event_in : Option Statement → List ℤ → List ℤ → Event
event_in None x n = record { uses = []; text = []; names = []; values = x; parameters = n }
event_in (Some s) x n = record { uses = map (λ access. use_at x n access) s.accesses; text = s.body.text; names = s.body.iterators; values = x; parameters = n }

-- the accesses and the body of an instance
abbrev pub event : ScopData → List ℤ → Instance → Event
event S n a = event_in (statement_at S.statements a.statement) a.values n

-- the memory after one instance
abbrev pub step : ScopData → List ℤ → Instance → Memory → Memory
step S n a m = step_of (event S n a) m

-- two instances have a cell in common that one of them writes or may write
abbrev pub Touch : ScopData → List ℤ → Instance → Instance → Type 0
Touch S n a b = EventsTouch (event S n a) (event S n b)

-- the two touch, and a is to run before b
pub record Conflict (S : ScopData) (n : List ℤ) (a b : Instance) : Type 0 where
  pub source : IsInstance S n a
  pub target : IsInstance S n b
  pub touch : Touch S n a b
  pub order : Before (stamp S n a) (stamp S n b)

-- L is the run of S at n: every instance, and consecutive stamps rise
abbrev pub Run : ScopData → List ℤ → List Instance → Type 0
Run S n L = RunOf Instance (IsInstance S n) (stamp S n) L

-- the memory after the steps of L, from the memory m on
abbrev pub memory_after : ScopData → List ℤ → List Instance → Memory → Memory
memory_after S n L m = fold_steps (step S n) L m

-- the memory after the steps of L
abbrev pub final : ScopData → List ℤ → List Instance → Memory
final S n L = memory_after S n L initial
