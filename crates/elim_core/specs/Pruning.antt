-- Pruning by marks: which of the first rows stay, and where the inequalities with each key stand.
use Rattle.std.specs.Prelude.{◌≡◌, ℕ, ◌+◌, ◌<◌, List, [], ◌∷◌, Bool, true, false, cond, Option, Some, None, length}
use Rattle.std.proofs.Common.{get_or}
use Rattle.relation_core.specs.declared.part_rows.PartRow.{PartRow}
use Rattle.relation_core.specs.Systems.{row_at}
use Rattle.elim_core.specs.Elimination.{is_constant, is_equal, alike, admitted}
use Rattle.elim_core.specs.Keys.{key}
use Rattle.elim_core.specs.declared.marks.Place.{Place}
use Rattle.elim_core.specs.declared.marks.Place.TheVariants.{Only, Several}

-- the rows that are marked to stay; those without a mark don't
abbrev pub marked : List PartRow → List Bool → List PartRow
marked [] marks = []
marked (w ∷ ws) [] = []
marked (w ∷ ws) (stays ∷ marks) = cond stays (w ∷ marked ws marks) (marked ws marks)

-- the row at place i stays and is alike to w
abbrev pub is_partner : ℕ → List PartRow → List Bool → PartRow → ℕ → Bool
is_partner n rows marks w i = cond (get_or marks i false) (alike n (row_at rows i) w) false

-- no row that stays is alike to w
pub record IsAlone (n : ℕ) (rows : List PartRow) (marks : List Bool) (w : PartRow) : Type 0 where
  pub apart : (i : ℕ) → is_partner n rows marks w i ≡ false

-- the row at place k is the first that stays and is alike to w
pub record IsFirstPartner (n : ℕ) (rows : List PartRow) (marks : List Bool) (w : PartRow) (k : ℕ) : Type 0 where
  pub is_one : is_partner n rows marks w k ≡ true
  pub first : (i : ℕ) → i < k → is_partner n rows marks w i ≡ false

-- what a map has at a key leads to place k
abbrev pub LeadsTo : Option Place → ℕ → Type 0
LeadsTo None k = ⊥
LeadsTo (Some (Only i)) k = i ≡ k
LeadsTo (Some Several) k = Unit {0}

-- the key of each inequality that stays leads to its place
pub record IsIndexed (n : ℕ) (rows : List PartRow) (marks : List Bool) (at : ℕ → Option Place) : Type 0 where
  pub leads : (k : ℕ) → get_or marks k false ≡ true → is_equal (row_at rows k).kind ≡ false → LeadsTo (at (key n (row_at rows k))) k

-- a map after a place is put at a key
pub record Puts (old new : ℕ → Option Place) (own : ℕ) (place : Place) : Type 0 where
  pub value : new own ≡ Some place
  pub others : (other : ℕ) → ¬ (other ≡ own) → new other ≡ old other

-- what leads to a place but for i does so still, and the new place to k
pub record Follows (old : Option Place) (place : Place) (i k : ℕ) : Type 0 where
  pub kept : (j : ℕ) → ¬ (j ≡ i) → LeadsTo old j → LeadsTo (Some place) j
  pub own : LeadsTo (Some place) k

-- the row at place k is marked, and the marks still say which rows stay
pub record AddsMark (n : ℕ) (rows : List PartRow) (k : ℕ) (old new : List Bool) (at : ℕ → Option Place) : Type 0 where
  pub count : length new ≡ k + 1
  pub rows_are : marked rows new ≡ cond (is_constant n (row_at rows k)) (marked rows old) (admitted n (marked rows old) (row_at rows k))
  pub indexed : IsIndexed n rows new at
