-- The laws of a commutative ordered ring over ℤ that linear arithmetic alone does not find.
use Rattle.std.specs.Prelude.{ℤ, pos, negsuc, ◌+ℤ◌, ◌*ℤ◌, neg_ℤ, ◌≤ℤ◌, ◌<ℤ◌, ◌*◌, ◌≤◌, ◌≡◌}
use Rattle.std.proofs.Common.{ap, sym, ◌∙◌, arith}
use Rattle.std.proofs.lemmas.Int.{ints, by_lt_z}
use Rattle.std.proofs.Math.Nat.{mul-le-mul_left}
use borrow.Author.Differences.{up, down, neg_is}
pub use Rattle.row_core.specs.Linear.{mul_comm_z, mul_add_z, add_mul_z, mul_assoc_z}

pub mul_one_z : (a : ℤ) → a *ℤ pos 1 ≡ a
mul_one_z a = omega (arith, ints)

pub neg_mul_z : (a b : ℤ) → neg_ℤ a *ℤ b ≡ neg_ℤ (a *ℤ b)
neg_mul_z a b = omega (arith, ints, ap (λ n. n * up b) (neg_is a).0, ap (λ n. n * down b) (neg_is a).0, ap (λ n. n * up b) (neg_is a).1, ap (λ n. n * down b) (neg_is a).1)

pub mul_neg_z : (a b : ℤ) → a *ℤ neg_ℤ b ≡ neg_ℤ (a *ℤ b)
mul_neg_z a b = omega (arith, ints, mul_comm_z a (neg_ℤ b), neg_mul_z b a, mul_comm_z a b)

pub mul_nonneg_z : (a b : ℤ) → pos 0 ≤ℤ a → pos 0 ≤ℤ b → pos 0 ≤ℤ (a *ℤ b)
mul_nonneg_z a b g h = grind (arith, ints)

pub mul_pos_z : (a b : ℤ) → pos 0 <ℤ a → pos 0 <ℤ b → pos 0 <ℤ (a *ℤ b)
mul_pos_z (pos a) (pos b) g h =
    let l1 : 1 ≤ a = omega (arith, ints) in
    let l2 : 1 ≤ b = omega (arith, ints) in
    omega (arith, ints, mul-le-mul_left a l2)
mul_pos_z (pos a) (negsuc b) g h = omega (arith, ints)
mul_pos_z (negsuc a) b g h = omega (arith, ints)

-- a product by a nonnegative factor keeps the order
pub mul_le_z : (c a b : ℤ) → pos 0 ≤ℤ c → a ≤ℤ b → (c *ℤ a) ≤ℤ (c *ℤ b)
mul_le_z c a b g h =
    let d : pos 0 ≤ℤ (b +ℤ neg_ℤ a) = omega (arith, ints) in
    let p : pos 0 ≤ℤ (c *ℤ (b +ℤ neg_ℤ a)) = mul_nonneg_z c (b +ℤ neg_ℤ a) g d in
    omega (arith, ints, mul_add_z c b (neg_ℤ a), mul_neg_z c a)

-- a positive factor may be cancelled
pub cancel_z : (c a b : ℤ) → pos 0 <ℤ c → (c *ℤ a) ≤ℤ (c *ℤ b) → a ≤ℤ b
cancel_z c a b g h = by_lt_z b a
    (λ l. let s : (b +ℤ pos 1) ≤ℤ a = omega (arith, ints) in
    let n : pos 0 ≤ℤ c = omega (arith, ints) in
    absurd (omega (arith, ints, mul_le_z c (b +ℤ pos 1) a n s, mul_add_z c b (pos 1), mul_one_z c)))
    (λ l. omega (arith, ints))

-- of two multiples by c, less than one step apart
pub less_z : (c a b : ℤ) → pos 0 <ℤ c → (c *ℤ a) <ℤ ((c *ℤ b) +ℤ c) → a ≤ℤ b
less_z c a b g h = by_lt_z b a
    (λ l. let s : (b +ℤ pos 1) ≤ℤ a = omega (arith, ints) in
    let n : pos 0 ≤ℤ c = omega (arith, ints) in
    absurd (omega (arith, ints, mul_le_z c (b +ℤ pos 1) a n s, mul_add_z c b (pos 1), mul_one_z c)))
    (λ l. omega (arith, ints))

pub mul_swap_z : (a b c : ℤ) → a *ℤ (b *ℤ c) ≡ b *ℤ (a *ℤ c)
mul_swap_z a b c = sym (mul_assoc_z a b c) ∙ ap (λ n. n *ℤ c) (mul_comm_z a b) ∙ mul_assoc_z b a c

pub mul_swap3_z : (a b c : ℤ) → a *ℤ (b *ℤ c) ≡ c *ℤ (b *ℤ a)
mul_swap3_z a b c = ap (λ n. a *ℤ n) (mul_comm_z b c) ∙ mul_swap_z a c b ∙ ap (λ n. c *ℤ n) (mul_comm_z a b)

-- the order of fractions v / s with positive s is transitive
pub fraction_trans : (v1 v2 v3 s1 s2 s3 : ℤ) → pos 0 <ℤ s1 → pos 0 <ℤ s2 → pos 0 <ℤ s3
    → (v1 *ℤ s2) ≤ℤ (v2 *ℤ s1) → (v2 *ℤ s3) ≤ℤ (v3 *ℤ s2) → (v1 *ℤ s3) ≤ℤ (v3 *ℤ s1)
fraction_trans v1 v2 v3 s1 s2 s3 p1 p2 p3 g h =
    let n1 : pos 0 ≤ℤ s1 = omega (arith, ints) in
    let n3 : pos 0 ≤ℤ s3 = omega (arith, ints) in
    let a : (s3 *ℤ (v1 *ℤ s2)) ≤ℤ (s3 *ℤ (v2 *ℤ s1)) = mul_le_z s3 (v1 *ℤ s2) (v2 *ℤ s1) n3 g in
    let b : (s1 *ℤ (v2 *ℤ s3)) ≤ℤ (s1 *ℤ (v3 *ℤ s2)) = mul_le_z s1 (v2 *ℤ s3) (v3 *ℤ s2) n1 h in
    let e1 : s3 *ℤ (v1 *ℤ s2) ≡ s2 *ℤ (v1 *ℤ s3) = mul_swap3_z s3 v1 s2 in
    let e2 : s3 *ℤ (v2 *ℤ s1) ≡ s1 *ℤ (v2 *ℤ s3) = mul_swap3_z s3 v2 s1 in
    let e3 : s1 *ℤ (v3 *ℤ s2) ≡ s2 *ℤ (v3 *ℤ s1) = mul_swap3_z s1 v3 s2 in
    cancel_z s2 (v1 *ℤ s3) (v3 *ℤ s1) p2 (omega (arith, ints))
