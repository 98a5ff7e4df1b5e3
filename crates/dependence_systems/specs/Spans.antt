-- Two statements whose accesses cannot meet, from the least and the greatest array of each and from whether it writes.
use Rattle.std.specs.Prelude.{◌≡◌, ◌⊎◌, ◌≤ℤ◌, ◌<ℤ◌, false, List, [], ◌∷◌}
use Rattle.scop_data.specs.declared.accesses.AccessKind.TheVariants.{Read}
use Rattle.scop_data.specs.declared.accesses.Access.{Access}
use Rattle.scop_data.specs.declared.statements.Statement.{Statement}
use Rattle.dependence_systems.specs.declared.spans.Span.{Span}

-- an access is to an array of the span, and only reads where the span does not write
pub record IsIn (span : Span) (access : Access) : Type 0 where
  pub from_low : span.low ≤ℤ access.array
  pub to_high : access.array ≤ℤ span.high
  pub reads : span.writes ≡ false → access.kind ≡ Read

-- a span has all arrays of another, and writes where that does
pub record IsWider (inner outer : Span) : Type 0 where
  pub low : outer.low ≤ℤ inner.low
  pub high : inner.high ≤ℤ outer.high
  pub writes : outer.writes ≡ false → inner.writes ≡ false

-- every access is
abbrev pub Covers : Span → List Access → Type 0
Covers span [] = Unit {0}
Covers span (access ∷ accesses) = IsIn span access × Covers span accesses

-- one span for each statement, in their order
abbrev pub CoverEach : List Span → List Statement → Type 0
CoverEach [] [] = Unit {0}
CoverEach [] (s ∷ statements) = ⊥
CoverEach (span ∷ spans) [] = ⊥
CoverEach (span ∷ spans) (s ∷ statements) = Covers span s.accesses × CoverEach spans statements

-- neither writes, or no array is in both
abbrev pub AreApart : Span → Span → Type 0
AreApart s t = ((s.writes ≡ false) × (t.writes ≡ false)) ⊎ ((s.high <ℤ t.low) ⊎ (t.high <ℤ s.low))
