-- Sparse rows: the entries that are not 0, with their places.
use Rattle.std.specs.Prelude.{ℤ, pos, negsuc, ℕ, zero, suc, ◌≡◌, ◌≤◌, Bool, true, false, cond, nat_lt, min, ◌==◌, List, [], ◌∷◌}
use Rattle.row_core.specs.declared.entries.Entry.{Entry}
use Rattle.row_core.specs.Rows.{AreCoefficients}

abbrev pub is_zero : ℤ → Bool
is_zero (pos zero) = true
is_zero (pos (suc n)) = false
is_zero (negsuc n) = false

-- the entries of a row that are not 0, each with its place, where the row's first place is k
abbrev pub nonzeros : ℕ → List ℤ → List Entry
nonzeros k [] = []
nonzeros k (c ∷ row) = cond (is_zero c) (nonzeros (suc k) row) (record { place = k; value = c } ∷ nonzeros (suc k) row)

-- no entry stands before place k, if they are in rising order of their places
abbrev pub Begins : ℕ → List Entry → Type 0
Begins k [] = Unit {0}
Begins k (e ∷ entries) = k ≤ e.place

-- the row of n entries from place k on that has these entries, and 0 elsewhere
abbrev pub spread : ℕ → ℕ → List Entry → List ℤ
spread k zero entries = []
spread k (suc n) [] = pos 0 ∷ spread (suc k) n []
spread k (suc n) (e ∷ entries) =
    cond (e.place == k) (e.value ∷ spread (suc k) n entries) (pos 0 ∷ spread (suc k) n (e ∷ entries))

-- the entries are those of the row that is not 0 there, and coefficients
pub record IsSparse (n : ℕ) (entries : List Entry) : Type 0 where
  pub exact : entries ≡ nonzeros 0 (spread 0 n entries)
  pub range : AreCoefficients (spread 0 n entries)

-- the value of the first entry where it stands at this place, else 0
abbrev pub value_at : ℕ → List Entry → ℤ
value_at k [] = pos 0
value_at k (e ∷ entries) = cond (e.place == k) e.value (pos 0)

-- the entries without the first one where it stands at this place
abbrev pub past : ℕ → List Entry → List Entry
past k [] = []
past k (e ∷ entries) = cond (e.place == k) entries (e ∷ entries)

-- the value of the first entry at this place, else 0
abbrev pub value_among : ℕ → List Entry → ℤ
value_among k [] = pos 0
value_among k (e ∷ entries) = cond (e.place == k) e.value (value_among k entries)

-- the place of the first entry from place start on, where it stands before end; else end
abbrev pub place_from : ℕ → ℕ → List Entry → ℕ
place_from start end [] = end
place_from start end (e ∷ entries) = cond (nat_lt e.place start) (place_from start end entries) (min e.place end)
