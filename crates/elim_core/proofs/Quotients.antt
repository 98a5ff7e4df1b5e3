-- Division by the greatest common divisor is exact.
use Rattle.std.proofs.Common.{◌≡◌, refl, ap, inl, inr, ℕ, zero, suc, ◌+◌, ◌*◌, ◌/◌, ◌%◌, ◌<◌, ◌≤◌, List, [], ◌∷◌, length, arith}
use Rattle.std.specs.Prelude.{nat_eq, int_div, ℤ, pos, negsuc, ◌*ℤ◌, ◌<ℤ◌, unsigned_abs}
use Rattle.std.proofs.lemmas.Int.{ints}
use Rattle.std.proofs.lemmas.Bool.Decides.{nat_tests}
use Rattle.std.specs.Int.{IsGcd}
use Prim.Native.Nat.{◌∣◌}
use Rattle.std.proofs.lemmas.Nat.Gcd.{dvd_refl, dvd_trans, IsGcd-from_zero, IsGcd-from_mod}
use Rattle.std.proofs.Math.Nat.{mul-div_cancel', eq-one_of_dvd-one}
use Rattle.row_core.proofs.Ring.{mul_neg_z}
use Rattle.row_core.specs.Rows.{scale}
use Rattle.elim_core.specs.Gcd.{gcd_within, gcd, gcd_onto, divided_by, divided}
use Rattle.elim_core.proofs.Tests.{by_bool}

pub gcd_within_is : (steps a b : ℕ) → b < steps → IsGcd a b (gcd_within steps a b)
unfolding gcd_within
gcd_within_is zero a b l = absurd (omega arith)
gcd_within_is (suc steps) a b l = elim (by_bool (nat_eq b 0)) [
  | inl e ↦ let z : b ≡ 0 = grind (arith, nat_tests) in rw e (IsGcd-from_zero a b z)
  | inr e ↦ let p : 0 < b = grind (arith, nat_tests) in
      let m : a % b < steps = omega arith in
      rw e (IsGcd-from_mod a b (gcd_within steps b (a % b)) (gcd_within_is steps b (a % b) m))
]

pub gcd_is : (a b : ℕ) → IsGcd a b (gcd a b)
unfolding gcd
gcd_is a b = gcd_within_is (b + 1) a b (omega arith)

-- a number divides each entry of a row
abbrev pub DividesAll : ℕ → List ℤ → Type 0
DividesAll g [] = Unit {0}
DividesAll g (c ∷ cells) = (g ∣ unsigned_abs c) × DividesAll g cells

pub gcd_onto_divides : (g : ℕ) (cells : List ℤ) → (gcd_onto g cells ∣ g) × DividesAll (gcd_onto g cells) cells
gcd_onto_divides g [] = (dvd_refl g, tt)
gcd_onto_divides g (c ∷ cells) =
    let r = gcd_onto_divides (gcd g (unsigned_abs c)) cells in
    let d = gcd_is g (unsigned_abs c) in
    (dvd_trans _ r.0 d.0, (dvd_trans _ r.0 d.1, r.1))

pub times_quotient : (g : ℕ) (c : ℤ) → 0 < g → g ∣ unsigned_abs c → pos g *ℤ int_div c (pos g) ≡ c
times_quotient g (pos a) p d = ap pos (mul-div_cancel' g d)
times_quotient g (negsuc a) p d =
    let e : g * (suc a / g) ≡ suc a = mul-div_cancel' g d in
    omega (arith, ints, mul_neg_z (pos g) (pos (suc a / g)))

pub times_divided : (g : ℕ) (cells : List ℤ) → 0 < g → DividesAll g cells → scale (pos g) (divided_by g cells) ≡ cells
times_divided g [] p d = refl
times_divided g (c ∷ cells) p d =
    let e = times_quotient g c p d.0 in
    let f = times_divided g cells p d.1 in
    cc

-- a row is a positive multiple of the divided row
pub record IsMultiple (cells quotient : List ℤ) : Type 0 where
  pub factor : ℤ
  pub positive : pos 0 <ℤ factor
  pub times : scale factor quotient ≡ cells

scale_one : (cells : List ℤ) → scale (pos 1) cells ≡ cells
scale_one [] = refl
scale_one (c ∷ cells) = let e : pos 1 *ℤ c ≡ c = omega (arith, ints) in let f = scale_one cells in cc

pub divided_is : (cells : List ℤ) → IsMultiple cells (divided cells)
divided_is cells = elim (by_bool (nat_eq (gcd_onto 0 cells) 0)) [
  | inl e ↦ rw e (record { factor = pos 1; positive = omega (arith, ints); times = scale_one cells })
  | inr e ↦ let p : 0 < gcd_onto 0 cells = grind (arith, nat_tests) in
      rw e (record { factor = pos (gcd_onto 0 cells); positive = omega (arith, ints); times = times_divided (gcd_onto 0 cells) cells p (gcd_onto_divides 0 cells).1 })
]

length_map : (g : ℕ) (cells : List ℤ) → length (divided_by g cells) ≡ length cells
length_map g [] = refl
length_map g (c ∷ cells) = omega (arith, length_map g cells)

pub length_divided : (cells : List ℤ) → length (divided cells) ≡ length cells
length_divided cells = elim (by_bool (nat_eq (gcd_onto 0 cells) 0)) [
  | inl e ↦ rw e refl
  | inr e ↦ rw e (length_map (gcd_onto 0 cells) cells)
]

one_divides : (n : ℕ) → gcd 1 n ≡ 1
one_divides n = eq-one_of_dvd-one (gcd_is 1 n).0

pub gcd_onto_one : (cells : List ℤ) → gcd_onto 1 cells ≡ 1
gcd_onto_one [] = refl
gcd_onto_one (c ∷ cells) = rw (one_divides (unsigned_abs c)) (gcd_onto_one cells)

quotient_one : (c : ℤ) → int_div c (pos 1) ≡ c
quotient_one (pos a) = omega (arith, ints)
quotient_one (negsuc a) = omega (arith, ints)

quotients_one : (cells : List ℤ) → divided_by 1 cells ≡ cells
quotients_one [] = refl
quotients_one (c ∷ cells) = let e = quotient_one c in let f = quotients_one cells in cc

pub divided_small : (cells : List ℤ) → gcd_onto 0 cells < 2 → divided cells ≡ cells
divided_small cells l = elim (by_bool (nat_eq (gcd_onto 0 cells) 0)) [
  | inl e ↦ rw e refl
  | inr e ↦ let g : gcd_onto 0 cells ≡ 1 = grind (arith, nat_tests) in rw (e, g) (quotients_one cells)
]

pub divided_large : (cells : List ℤ) → 2 ≤ gcd_onto 0 cells → divided cells ≡ divided_by (gcd_onto 0 cells) cells
divided_large cells l = elim (by_bool (nat_eq (gcd_onto 0 cells) 0)) [
  | inl e ↦ absurd (grind (arith, nat_tests))
  | inr e ↦ rw e refl
]
