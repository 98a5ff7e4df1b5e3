-- SCoPs whose statements are pieces of the statements of an older one.
use Rattle.std.specs.Prelude.{◌≡◌, ◌↔◌, ℕ, ℤ, List, [], ◌∷◌, length, IsSomeAnd}
use Rattle.std.specs.List.{range_with_len}
use Rattle.scop_data.specs.declared.statements.Statement.{Statement}
use Rattle.scop_core.specs.ScopData.{ScopData}
use Rattle.scop_core.specs.Order.{Before}
use Rattle.scop_core.specs.Meaning.{InContext, Instance, IsInstance, stamp, Touch, Conflict}
use Rattle.scop_core.specs.Validity.{IsValid}
use Rattle.dependence_systems.specs.Sides.{member, sides, own_sides, member_or}
use Rattle.dependence_systems.specs.Pairs.{LiesInList}

-- a statement has an original of this number among the old ones, with as many iterators
abbrev pub IsPiece : List Statement → Statement → ℕ → Type 0
IsPiece old s k = IsSomeAnd (member old k) (λ original. length original.body.iterators ≡ length s.body.iterators)

-- each statement has one, in their order
abbrev pub ArePieces : List Statement → List Statement → List ℕ → Type 0
ArePieces old [] [] = Unit {0}
ArePieces old [] (k ∷ originals) = ⊥
ArePieces old (s ∷ now) [] = ⊥
ArePieces old (s ∷ now) (k ∷ originals) = IsPiece old s k × ArePieces old now originals

-- both SCoPs have one context, and the numbers name an original in `old` for each statement of `now`
pub record HasOriginals (old now : ScopData) (originals : List ℕ) : Type 0 where
  pub context : old.context ≡ now.context
  pub pieces : ArePieces old.statements now.statements originals

-- the instance of the original at the same iterators
abbrev pub as_original : List ℕ → Instance → Instance
as_original originals a = record { statement = member_or 0 (member originals a.statement); values = a.values }

-- both are instances of `now`, they touch, and the old stamp of the first one's original is before that of the second one's
pub record ConflictsByOld (old now : ScopData) (originals : List ℕ) (n : List ℤ) (a b : Instance) : Type 0 where
  pub source : IsInstance now n a
  pub target : IsInstance now n b
  pub touch : Touch now n a b
  pub order : Before (stamp old n (as_original originals a)) (stamp old n (as_original originals b))

-- in context, a pair lies in a system exactly where it conflicts by the old stamps
abbrev pub SystemsHoldOldConflicts : Type 0
SystemsHoldOldConflicts = (old now : ScopData) (originals : List ℕ) → IsValid old → IsValid now → HasOriginals old now originals
    → (n : List ℤ) → InContext now n → (a b : Instance) → LiesInList now.context (sides old now originals) n a b ↔ ConflictsByOld old now originals n a b

-- for one SCoP, exactly where it conflicts
abbrev pub SystemsHoldConflicts : Type 0
SystemsHoldConflicts = (S : ScopData) → IsValid S → (n : List ℤ) → InContext S n → (a b : Instance) → LiesInList S.context (own_sides S) n a b ↔ Conflict S n a b

-- each statement of a SCoP as its own original, by number
abbrev pub own_originals : ScopData → List ℕ
own_originals S = range_with_len 1 (length S.statements)

-- so are the sides of one SCoP as old and new its own
pub record OwnSides (S : ScopData) : Type 0 where
  pub has : HasOriginals S S (own_originals S)
  pub same : sides S S (own_originals S) ≡ own_sides S

abbrev pub OriginalsAreOwn : Type 0
OriginalsAreOwn = (S : ScopData) → OwnSides S
