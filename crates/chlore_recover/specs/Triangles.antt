-- Matrices as lists of rows: unit lower triangles, signed permutations, and the last coefficient of a row.
use Rattle.std.specs.Prelude.{◌≡◌, ℤ, pos, negsuc, ℕ, ◌+◌, ◌-◌, ◌==◌, Bool, true, if◌then◌else◌, ◌&&◌, ◌||◌, not, ◌⊎◌, List, [], ◌∷◌, ◌++◌, length, map, take, get_or}
use Rattle.std.specs.List.{list_any}
use Rattle.std.specs.Ordering.{int_eq}
use Rattle.std.proofs.Math.Dec.{eqb}
use Rattle.row_core.specs.Rows.{scale}
use Rattle.scop_core.specs.SolvedRows.{zeros}
use Rattle.beta_tree.specs.Edits.{is_permutation_of}

-- rows, from row i on, of a unit lower triangle with d rows: 1 at place i, 0 behind it
abbrev pub IsTriangleFrom : ℕ → ℕ → List (List ℤ) → Type 0
IsTriangleFrom i d [] = i ≡ d
IsTriangleFrom i d (row ∷ rows) = (length row ≡ d) × (row ≡ take i row ++ pos 1 ∷ zeros (d - (i + 1))) × IsTriangleFrom (i + 1) d rows

-- a unit lower triangle with d rows
abbrev pub IsTriangle : ℕ → List (List ℤ) → Type 0
IsTriangle d L = IsTriangleFrom 0 d L

-- 1 or -1
abbrev pub IsSign : ℤ → Type 0
IsSign g = (g ≡ pos 1) ⊎ (g ≡ negsuc 0)

-- each row has d entries
abbrev pub AreLong : ℕ → List (List ℤ) → Type 0
AreLong d [] = Unit {0}
AreLong d (row ∷ rows) = (length row ≡ d) × AreLong d rows

-- a signed permutation: for each row of the product, the place of a row and the sign that it gets
abbrev pub Signed : Type 0
Signed = List (ℕ × ℤ)

-- the signs are 1 or -1
abbrev pub AreSigned : Signed → Type 0
AreSigned [] = Unit {0}
AreSigned (e ∷ P) = IsSign e.1 × AreSigned P

-- the places below d, each once, with signs 1 or -1
pub record IsSignedPermutation (d : ℕ) (P : Signed) : Type 0 where
  pub places : is_permutation_of d (map (λ e. e.0) P) ≡ true
  pub signs : AreSigned P

-- the rows of the product of a signed permutation and a matrix
abbrev pub product : Signed → List (List ℤ) → List (List ℤ)
product P L = map (λ e. scale e.1 (get_or L e.0 [])) P

-- rows are those of a signed permutation times a unit lower triangle
pub record IsFactored (d : ℕ) (P : Signed) (L rows : List (List ℤ)) : Type 0 where
  pub permutation : IsSignedPermutation d P
  pub triangle : IsTriangle d L
  pub is : rows ≡ product P L

-- each entry is 0
abbrev pub is_zero : List ℤ → Bool
is_zero [] = true
is_zero (z ∷ row) = int_eq z (pos 0) && is_zero row

-- the last entry that isn't 0; 0 where there is none
abbrev pub last_value : List ℤ → ℤ
last_value [] = pos 0
last_value (z ∷ row) = if is_zero row then z else last_value row

-- its place
abbrev pub last_place : List ℤ → ℕ
last_place [] = 0
last_place (z ∷ row) = if is_zero row then 0 else last_place row + 1

-- 1 or -1
abbrev pub is_sign : ℤ → Bool
is_sign g = int_eq g (pos 1) || int_eq g (negsuc 0)

-- numbers that differ
abbrev pub differ : List ℕ → Bool
differ [] = true
differ (k ∷ ks) = not (list_any (eqb k) ks) && differ ks

-- the last values of all rows are 1 or -1
abbrev pub end_in_signs : List (List ℤ) → Bool
end_in_signs [] = true
end_in_signs (row ∷ rows) = is_sign (last_value row) && end_in_signs rows

-- last place and last value of each row
abbrev pub leads : List (List ℤ) → Signed
leads rows = map (λ row. (last_place row, last_value row)) rows

-- the row that ends at place i, times its sign
abbrev pub row_ending_at : ℕ → List (List ℤ) → List ℤ
row_ending_at i [] = []
row_ending_at i (row ∷ rows) = if last_place row == i then scale (last_value row) row else row_ending_at i rows

-- the sign of the row that ends at place i
abbrev pub sign_at : ℕ → List (List ℤ) → ℤ
sign_at i [] = pos 0
sign_at i (row ∷ rows) = if last_place row == i then last_value row else sign_at i rows
