-- Points of systems, in the words of linear algebra. A point in homogeneous coordinates is the list
-- of its integers and, last, the factor q of the constants.
use Rattle.std.specs.Prelude.{ℤ, pos, ◌+ℤ◌, ◌*ℤ◌, ◌≤ℤ◌, ℕ, ◌+◌, ◌≡◌, ◌⊎◌, List, [], ◌∷◌, ◌++◌, length, unsigned_abs}
use Rattle.row_core.specs.Rows.{entry, dot, add_rows, scale}
use Rattle.relation_core.specs.declared.part_rows.PartRow.{PartRow}
use Rattle.relation_core.specs.declared.part_rows.RowKind.{RowKind}
use Rattle.relation_core.specs.declared.part_rows.RowKind.TheVariants.{Equal, AtLeast}
use Rattle.relation_core.specs.Systems.{System, columns}

-- a value is as a row's kind wants it
abbrev pub Meets : RowKind → ℤ → Type 0
Meets Equal value = value ≡ pos 0
Meets AtLeast value = pos 0 ≤ℤ value

-- every row holds at a point in homogeneous coordinates
abbrev pub MeetsAll : List PartRow → List ℤ → Type 0
MeetsAll [] point = Unit {0}
MeetsAll (row ∷ rows) point = Meets row.kind (dot row.entries point) × MeetsAll rows point

-- a rational point: integers x and a q of at least 1, with which every row holds when its constant is multiplied by q
pub record RationalPoint (rows : List PartRow) (x : List ℤ) (q : ℤ) : Type 0 where
  pub positive : pos 1 ≤ℤ q
  pub meets : MeetsAll rows (x ++ q ∷ [])

-- the rows have a rational point over n columns
pub record HasPoint (n : ℕ) (rows : List PartRow) : Type 0 where
  pub at : List ℤ
  pub factor : ℤ
  pub length_is : length at ≡ n
  pub point : RationalPoint rows at factor

-- the combination of rows by one multiplier each
abbrev pub combination : List ℤ → List PartRow → List ℤ
combination [] rows = []
combination (l ∷ ls) [] = []
combination (l ∷ ls) (row ∷ rows) = add_rows (scale l row.entries) (combination ls rows)

-- entry k of the combination of rows
abbrev pub column : List ℤ → List PartRow → ℕ → ℤ
column [] rows k = pos 0
column (l ∷ ls) [] k = pos 0
column (l ∷ ls) (row ∷ rows) k = (l *ℤ entry row.entries k) +ℤ column ls rows k

-- the sum of the absolute values of the products of which entry k of the combination is the sum
abbrev pub column_weight : List ℤ → List PartRow → ℕ → ℕ
column_weight [] rows k = 0
column_weight (l ∷ ls) [] k = 0
column_weight (l ∷ ls) (row ∷ rows) k = unsigned_abs (l *ℤ entry row.entries k) + column_weight ls rows k

-- the coordinates in the order of a row's columns, with factor 1
abbrev pub coordinates : List ℤ → List ℤ → List ℤ → List ℤ → List ℤ
coordinates outputs inputs locals parameters = outputs ++ (inputs ++ (locals ++ (parameters ++ pos 1 ∷ [])))

-- a point lies in a part where it has one integer for each output, input and parameter, and integers
-- for the locals exist with which every row holds
pub record LiesIn (part : System) (outputs inputs parameters : List ℤ) : Type 0 where
  pub outputs_are : length outputs ≡ part.shape.outputs
  pub inputs_are : length inputs ≡ part.shape.inputs
  pub parameters_are : length parameters ≡ part.shape.parameters
  pub locals : List ℤ
  pub locals_are : length locals ≡ part.shape.locals
  pub meets : MeetsAll part.rows (coordinates outputs inputs locals parameters)

-- a point lies in a relation where it lies in some part
abbrev pub LiesInSome : List System → List ℤ → List ℤ → List ℤ → Type 0
LiesInSome [] outputs inputs parameters = ⊥
LiesInSome (part ∷ parts) outputs inputs parameters =
    LiesIn part outputs inputs parameters ⊎ LiesInSome parts outputs inputs parameters

-- a point that lies in a part is a rational point of its rows, with the values of the locals among its coordinates
abbrev pub MembersAreRationalPoints : Type 0
MembersAreRationalPoints = (part : System) (outputs inputs parameters : List ℤ)
    → LiesIn part outputs inputs parameters → HasPoint (columns part.shape) part.rows
