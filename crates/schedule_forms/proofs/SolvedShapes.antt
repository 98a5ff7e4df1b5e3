-- The sizes and ranges of what a part in solved form gives.
use Rattle.std.proofs.Common.{◌≡◌, ℕ, zero, suc, ◌+◌, ◌-◌, ◌*◌, ◌<◌, ◌≤◌, ◌^◌, Bool, true, false, ◌&&◌, List, [], ◌∷◌, ◌++◌, length, take, drop, get_or, ℤ, pos, negsuc, ◌+ℤ◌, neg_ℤ, unsigned_abs, refl, ap, sym, ◌∙◌, arith, add-one, inl, inr, ◌⊎◌}
use Rattle.std.specs.Prelude.{slice_range, ◌==◌, nat_le, ◌%◌}
use Rattle.std.proofs.lemmas.Bool.Decides.{nat_tests, Decides-int_eq}
use Rattle.std.specs.Ordering.{int_eq}
use Rattle.std.proofs.lemmas.List.{get_or-take, get_or-drop}
use Rattle.row_core.specs.Rows.{entry}
use Rattle.relation_core.specs.Systems.{System, columns, width}
use Rattle.relation_core.specs.declared.shapes.Shape.{Shape}
use Rattle.relation_core.specs.declared.part_rows.PartRow.{PartRow}
use Rattle.std.proofs.lemmas.Int.{ints}
use Rattle.scop_data.specs.declared.affines.Affine.{Affine}
use Rattle.scop_data.specs.SolvedRows.{PairFits}
use Rattle.schedule_forms.specs.SolvedForm.{each_below, cleared, is_pair, local_column, affine_of, floor_at, size_at, has_floor, has_output, low_row_of, high_row_of, is_scattering, is_access}

pub both : (a b : Bool) → (a && b) ≡ true → (a ≡ true) × (b ≡ true)
both true b h = (refl, h)
both false b h = cc

below_or_last : (k n : ℕ) → k < suc n → (k < n) ⊎ (k ≡ n)
below_or_last zero zero h = inr refl
below_or_last zero (suc n) h = inl (omega arith)
below_or_last (suc k) zero h = absurd (omega arith)
below_or_last (suc k) (suc n) h =
    elim (below_or_last k n (omega arith)) [ inl l ↦ inl (omega arith) | inr e ↦ inr (ap suc e) ]

same_place : (shape : Shape) (k : ℕ) → local_column shape 0 + k ≡ local_column shape k
same_place shape k = omega arith

equal_from : (a b : ℕ) → (a == b) ≡ true → a ≡ b
equal_from a b h = grind (arith, nat_tests)

at_least_from : (a b : ℕ) → nat_le a b ≡ true → a ≤ b
at_least_from a b h = grind (arith, nat_tests)

pub scattering_odd : (part : System) → is_scattering part ≡ true → part.shape.outputs % 2 ≡ 1
scattering_odd part h = equal_from _ _ (both _ _ (both _ _ (both _ _ (both _ _ h).0).0).0).0

pub scattering_outputs : (part : System) → is_scattering part ≡ true → each_below (has_output part) part.shape.outputs ≡ true
scattering_outputs part h = (both _ _ (both _ _ (both _ _ h).0).0).1

pub scattering_floors : (part : System) → is_scattering part ≡ true → each_below (has_floor part) part.shape.locals ≡ true
scattering_floors part h = (both _ _ (both _ _ h).0).1

pub access_locals : (part : System) → is_access part ≡ true → part.shape.locals ≡ 0
access_locals part h = equal_from _ _ (both _ _ (both _ _ (both _ _ (both _ _ (both _ _ h).0).0).0).0).0

pub access_given : (part : System) → is_access part ≡ true → each_below (has_output part) part.shape.outputs ≡ true
access_given part h = (both _ _ (both _ _ h).0).1

pub access_outputs : (part : System) → is_access part ≡ true → 1 ≤ part.shape.outputs
access_outputs part h = at_least_from _ _ (both _ _ (both _ _ (both _ _ (both _ _ (both _ _ h).0).0).0).0).1

-- a test that passes at every number below n passes at each
pub each_at : (test : ℕ → Bool) (n k : ℕ) → k < n → each_below test n ≡ true → test k ≡ true
each_at test zero k h e = absurd (omega arith)
each_at test (suc n) k h e =
    let parts = both (each_below test n) (test n) e in
    let where_is : (k < n) ⊎ (k ≡ n) = below_or_last k n (omega arith) in
    elim where_is [ inl l ↦ each_at test n k l parts.0 | inr s ↦ ap test s ∙ parts.1 ]

cleared_here : (row : List ℤ) (k : ℕ) → k < length row → entry (cleared row k) k ≡ pos 0
cleared_here [] k h = absurd (omega arith)
cleared_here (x ∷ row) zero h = refl
cleared_here (x ∷ row) (suc k) h = rw add-one (rw add-one at (cleared_here row k (omega arith)))

cleared_later : (row : List ℤ) (k j : ℕ) → k < j → k < length row → entry (cleared row k) j ≡ entry row j
cleared_later [] k j l h = absurd (omega arith)
cleared_later (x ∷ row) k zero l h = absurd (omega arith)
cleared_later (x ∷ row) zero (suc j) l h = refl
cleared_later (x ∷ row) (suc k) (suc j) l h = rw add-one (rw add-one at (cleared_later row k j (omega arith) (omega arith)))

range_entry : (row : List ℤ) (a b k : ℕ) → a + k < b → entry (slice_range row a b) k ≡ entry row (a + k)
range_entry row a b k h = get_or-take (b - a) (drop a row) k (pos 0) (omega arith) ∙ get_or-drop a row k (pos 0)

-- the form of a floor has coefficient 0 at its own local
pub own_local : (shape : Shape) (row : List ℤ) (k : ℕ) → k < shape.locals → length row ≡ width shape
    → entry (affine_of shape (cleared row (local_column shape k))).floors k ≡ pos 0
own_local shape row k h w =
    range_entry (cleared row (local_column shape k)) (local_column shape 0) (local_column shape shape.locals) k (omega arith)
    ∙ ap (λ j. entry (cleared row (local_column shape k)) j) (same_place shape k) ∙ cleared_here row (local_column shape k) (omega arith)

-- the constant of the form is that of the row
pub own_constant : (shape : Shape) (row : List ℤ) (k : ℕ) → k < shape.locals → length row ≡ width shape
    → (affine_of shape (cleared row (local_column shape k))).constant ≡ entry row (columns shape)
own_constant shape row k h w = cleared_later row (local_column shape k) (columns shape) (omega arith) (omega arith)

-- the constants of the two rows of a floor
pub pair_constant : (shape : Shape) (size : ℤ) (low high : List ℤ) → is_pair shape size low high ≡ true
    → entry high (columns shape) ≡ (neg_ℤ (entry low (columns shape)) +ℤ size) +ℤ negsuc 0
pair_constant shape size low high h = (Decides-int_eq _ _).0 (both _ _ h).1

same_pair : (part : System) (k : ℕ) (low high : PartRow) (size : ℤ) → low ≡ low_row_of part k → high ≡ high_row_of part k
    → size ≡ neg_ℤ (entry low.entries (local_column part.shape k))
    → is_pair part.shape (size_at part k) (low_row_of part k).entries (high_row_of part k).entries ≡ true
    → is_pair part.shape size low.entries high.entries ≡ true
same_pair part k low high size el eh es g =
    let e : is_pair part.shape size low.entries high.entries ≡ is_pair part.shape (size_at part k) (low_row_of part k).entries (high_row_of part k).entries
    = ap (λ s. is_pair part.shape s low.entries high.entries) (es ∙ ap (λ r. neg_ℤ (entry r.entries (local_column part.shape k))) el)
    ∙ (ap (λ r. is_pair part.shape (size_at part k) r.entries high.entries) el ∙ ap (λ r. is_pair part.shape (size_at part k) (low_row_of part k).entries r.entries) eh)
    in e ∙ g

in_range_local : (z size : ℤ) → z ≡ pos 0 → unsigned_abs size < 2 ^ 127 → unsigned_abs (z +ℤ neg_ℤ size) < 2 ^ 127
in_range_local z size e h = omega (arith, ints)

in_range_constant : (v c size d e : ℤ) → v ≡ c → d ≡ e → e ≡ (neg_ℤ c +ℤ size) +ℤ negsuc 0 → unsigned_abs d < 2 ^ 127
    → unsigned_abs ((neg_ℤ v +ℤ size) +ℤ negsuc 0) < 2 ^ 127
in_range_constant v c size d e f g q h = omega (arith, ints)

-- the two rows of a floor are in range where the rows that they were read from are
pub pair_fits : (part : System) (k : ℕ) (low high : PartRow) (value : Affine) (size d : ℤ) → low ≡ low_row_of part k → high ≡ high_row_of part k
    → value ≡ affine_of part.shape (cleared low.entries (local_column part.shape k)) → size ≡ neg_ℤ (entry low.entries (local_column part.shape k))
    → d ≡ entry high.entries (columns part.shape) → k < part.shape.locals → has_floor part k ≡ true → length low.entries ≡ width part.shape
    → unsigned_abs size < 2 ^ 127 → unsigned_abs d < 2 ^ 127 → PairFits k (record { value = value; size = size })
pair_fits part k low high value size d el eh ev es ed h given w size_fits d_fits =
    let z : entry value.floors k ≡ pos 0 = ap (λ v. entry v.floors k) ev ∙ own_local part.shape low.entries k h w in
    let c : value.constant ≡ entry low.entries (columns part.shape) = ap (λ v. v.constant) ev ∙ own_constant part.shape low.entries k h w in
    let p : is_pair part.shape size low.entries high.entries ≡ true = same_pair part k low high size el eh es (both _ _ given).1 in
    let q : entry high.entries (columns part.shape) ≡ (neg_ℤ (entry low.entries (columns part.shape)) +ℤ size) +ℤ negsuc 0
    = pair_constant part.shape size low.entries high.entries p in
    record { local = in_range_local _ _ z size_fits; constant = in_range_constant _ _ _ _ _ c ed q d_fits }
