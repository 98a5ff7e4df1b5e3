-- The order in which columns are projected, the peak of a system, and what a right verdict is.
use Rattle.std.specs.Prelude.{ℕ, zero, suc, ◌+◌, List, [], ◌∷◌, ◌++◌, Option, Some, None, max, ℤ, unsigned_abs}
use Rattle.relation_core.specs.declared.shapes.Shape.{Shape}
use Rattle.relation_core.specs.declared.part_rows.PartRow.{PartRow}
use Rattle.relation_core.specs.Systems.{System, columns}
use Rattle.relation_core.specs.Points.{HasPoint, column_weight}
use Rattle.farkas_cert.specs.Certificates.{Valid, HasNoPoint, IsTooHeavy}
use Rattle.elim_core.specs.Elimination.{Elimination, elimination}
use Rattle.elim_core.specs.declared.verdicts.Verdict.{Verdict}
use Rattle.elim_core.specs.declared.verdicts.Verdict.TheVariants.{HasPoint as Point, Empty}

-- the places below start + count, down to start
abbrev pub down : ℕ → ℕ → List ℕ
down start zero = []
down start (suc k) = (start + k) ∷ down start k

-- locals, then inputs, outputs and parameters, each from its last
abbrev pub column_order : Shape → List ℕ
column_order shape = down (shape.outputs + shape.inputs) shape.locals ++ (down shape.outputs shape.inputs ++ (down 0 shape.outputs ++ down (shape.outputs + shape.inputs + shape.locals) shape.parameters))

-- the stated elimination of a system
abbrev pub stated : System → Elimination
stated system = elimination (columns system.shape) (column_order system.shape) system.rows

-- the greatest absolute value of an entry
abbrev pub row_weight : List ℤ → ℕ
row_weight [] = 0
row_weight (c ∷ cells) = max (unsigned_abs c) (row_weight cells)

abbrev pub rows_weight : List PartRow → ℕ
rows_weight [] = 0
rows_weight (row ∷ rows) = max (row_weight row.entries) (rows_weight rows)

-- the greatest weight of the first w columns of a combination
abbrev pub greatest_weight : ℕ → List PartRow → List ℤ → ℕ
greatest_weight zero rows ls = 0
greatest_weight (suc k) rows ls = max (column_weight ls rows k) (greatest_weight k rows ls)

-- the weight of the certificate that an elimination of n variables ends with
abbrev pub refutation_weight : ℕ → List PartRow → Option (List ℤ) → ℕ
refutation_weight n rows None = 0
refutation_weight n rows (Some certificate) = greatest_weight (n + 1) rows certificate

-- the greatest number that the stated elimination of a system meets, and the most rows of one projection
pub record Peak : Type 0 where
  pub weight : ℕ
  pub rows : ℕ

abbrev pub peak : System → Peak
peak system = record {
  weight = max (rows_weight system.rows) (max (stated system).weight (refutation_weight (columns system.shape) system.rows (stated system).refutation));
  rows = (stated system).count;
}

-- a certificate is valid for a system, its check is not too heavy, and so the system has no point
pub record IsRefutedBy (system : System) (certificate : List ℤ) : Type 0 where
  pub valid : Valid (columns system.shape) system.rows certificate
  pub light : ¬ IsTooHeavy (columns system.shape) system.rows certificate
  pub no_point : HasNoPoint (columns system.shape) system.rows

-- a verdict is right: there is a rational point, or the certificate refutes every one
abbrev pub IsRight : System → Verdict → Type 0
IsRight system Point = HasPoint (columns system.shape) system.rows
IsRight system (Empty certificate) = IsRefutedBy system certificate
