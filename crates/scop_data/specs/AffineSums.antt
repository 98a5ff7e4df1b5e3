-- Arithmetic of affine values.
use Rattle.std.specs.Prelude.{ℤ, pos, neg_ℤ, ◌+ℤ◌, ◌*ℤ◌, ℕ, ◌≡◌, List, [], ◌∷◌, ◌++◌, length, map, max}
use Rattle.row_core.specs.Rows.{add_rows, scale, combined_weight, pair_weight}
use Rattle.scop_data.specs.declared.affines.Affine.{Affine}
use Rattle.scop_data.specs.SolvedRows.{zeros}

-- the sum a + q b
abbrev pub plus_multiple : Affine → ℤ → Affine → Affine
plus_multiple a q b = record {
  iterators = add_rows a.iterators (scale q b.iterators);
  floors = add_rows a.floors (scale q b.floors);
  parameters = add_rows a.parameters (scale q b.parameters);
  constant = a.constant +ℤ (q *ℤ b.constant);
}

-- the sum of a form and an affine value of the parameters
abbrev pub moved : Affine → List ℤ → ℤ → Affine
moved form v c = record form { parameters = add_rows form.parameters v; constant = form.constant +ℤ c }

-- the negative of a form
abbrev pub negative : Affine → Affine
negative form = record {
  iterators = map neg_ℤ form.iterators;
  floors = map neg_ℤ form.floors;
  parameters = map neg_ℤ form.parameters;
  constant = neg_ℤ form.constant;
}

-- the form with the coefficient 0 of one more floor
abbrev pub widened : Affine → Affine
widened form = record form { floors = form.floors ++ pos 0 ∷ [] }

-- the form that is one more floor behind those of another form
abbrev pub last_floor : Affine → Affine
last_floor form = record {
  iterators = zeros (length form.iterators);
  floors = zeros (length form.floors) ++ pos 1 ∷ [];
  parameters = zeros (length form.parameters);
  constant = pos 0;
}

-- two forms have as many coefficients of each sort
pub record HaveOneSize (a b : Affine) : Type 0 where
  pub iterators : length a.iterators ≡ length b.iterators
  pub floors : length a.floors ≡ length b.floors
  pub parameters : length a.parameters ≡ length b.parameters

-- the greatest weight of a column of a + q b
abbrev pub sum_weight : Affine → ℤ → Affine → ℕ
sum_weight a q b =
    max (combined_weight (pos 1) a.iterators q b.iterators) (max (combined_weight (pos 1) a.floors q b.floors)
    (max (combined_weight (pos 1) a.parameters q b.parameters) (pair_weight (pos 1) a.constant q b.constant)))

-- the greatest weight of a column of a form and what it is moved by
abbrev pub move_weight : Affine → List ℤ → ℤ → ℕ
move_weight form v c = max (combined_weight (pos 1) form.parameters (pos 1) v) (pair_weight (pos 1) form.constant (pos 1) c)
