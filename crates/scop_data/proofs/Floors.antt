-- The value of a floor is the greatest integer not above its quotient.
use Rattle.std.proofs.Common.{◌≡◌, arith, ℤ, pos, negsuc, neg_ℤ, ◌+ℤ◌, ◌*ℤ◌, ◌≤ℤ◌, ◌<ℤ◌}
use Rattle.std.proofs.lemmas.Int.{ints}
use Rattle.row_core.proofs.Ring.{less_z}
use Rattle.scop_data.specs.Meaning.{floor_of}
use Rattle.scop_data.specs.Theorems.{FloorIsGreatest}

floor_low : (e s : ℤ) → pos 1 ≤ℤ s → (s *ℤ floor_of e s) ≤ℤ e
floor_low (pos a) (pos b) h = omega (arith, ints)
floor_low (negsuc a) (pos b) h = omega (arith, ints)
floor_low e (negsuc b) h = absurd (omega (arith, ints))

floor_high : (e s : ℤ) → pos 1 ≤ℤ s → e <ℤ ((s *ℤ floor_of e s) +ℤ s)
floor_high (pos a) (pos b) h = omega (arith, ints)
floor_high (negsuc a) (pos b) h = omega (arith, ints)
floor_high e (negsuc b) h = absurd (omega (arith, ints))

pub floor_greatest : FloorIsGreatest
floor_greatest e s h = (floor_low e s h, λ k below. at_most k below)
  where
    at_most : (k : ℤ) → (s *ℤ k) ≤ℤ e → k ≤ℤ floor_of e s
    at_most k below =
        let positive : pos 0 <ℤ s = omega (arith, ints) in
        let high : e <ℤ ((s *ℤ floor_of e s) +ℤ s) = floor_high e s h in
        let less : (s *ℤ k) <ℤ ((s *ℤ floor_of e s) +ℤ s) = omega (arith, ints) in
        less_z s k (floor_of e s) positive less

-- the two rows of a floor hold at its value
pub floor_meets_rows : (e s : ℤ) → pos 1 ≤ℤ s → (pos 0 ≤ℤ (e +ℤ neg_ℤ (s *ℤ floor_of e s))) × (pos 0 ≤ℤ (((neg_ℤ e +ℤ (s *ℤ floor_of e s)) +ℤ s) +ℤ negsuc 0))
floor_meets_rows e s h = let low = floor_low e s h in let high = floor_high e s h in (omega (arith, ints), omega (arith, ints))

-- and at no other integer
pub rows_give_floor : (e s l : ℤ) → pos 1 ≤ℤ s → pos 0 ≤ℤ (e +ℤ neg_ℤ (s *ℤ l)) → pos 0 ≤ℤ (((neg_ℤ e +ℤ (s *ℤ l)) +ℤ s) +ℤ negsuc 0) → l ≡ floor_of e s
rows_give_floor e s l h low high =
    let positive : pos 0 <ℤ s = omega (arith, ints) in
    let low' = floor_low e s h in
    let high' = floor_high e s h in
    let above : l ≤ℤ floor_of e s = less_z s l (floor_of e s) positive (omega (arith, ints)) in
    let below : floor_of e s ≤ℤ l = less_z s (floor_of e s) l positive (omega (arith, ints)) in
    omega (arith, ints)
