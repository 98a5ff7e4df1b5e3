-- The law of row combinations, which every way to keep a row meets, and what it rests on.
use Rattle.std.specs.Prelude.{ℤ, ◌+ℤ◌, ◌*ℤ◌, ◌*◌, ◌≡◌, refl, List, [], ◌∷◌, length}
use Rattle.std.proofs.Common.{ap, ◌∙◌, arith}
use Rattle.std.proofs.lemmas.Int.{ints}
use borrow.Author.Differences.{up, down, sum_is_lem, product_is}
use Rattle.row_core.specs.Rows.{dot, add_rows, scale, combined}

pub mul_comm_z : (a b : ℤ) → a *ℤ b ≡ b *ℤ a
mul_comm_z a b = omega (arith, ints)

pub mul_add_z : (a b c : ℤ) → a *ℤ (b +ℤ c) ≡ (a *ℤ b) +ℤ (a *ℤ c)
mul_add_z a b c = omega (arith, ints, ap (λ n. up a * n) (sum_is_lem b c), ap (λ n. down a * n) (sum_is_lem b c))

pub add_mul_z : (a b c : ℤ) → (a +ℤ b) *ℤ c ≡ (a *ℤ c) +ℤ (b *ℤ c)
add_mul_z a b c = omega (arith, ints, mul_comm_z (a +ℤ b) c, mul_comm_z a c, mul_comm_z b c, mul_add_z c a b)

pub mul_assoc_z : (a b c : ℤ) → (a *ℤ b) *ℤ c ≡ a *ℤ (b *ℤ c)
mul_assoc_z a b c = omega (arith, ints, ap (λ n. n * up c) (product_is a b).0, ap (λ n. n * down c) (product_is a b).0, ap (λ n. n * up c) (product_is a b).1, ap (λ n. n * down c) (product_is a b).1, ap (λ n. up a * n) (product_is b c).0, ap (λ n. down a * n) (product_is b c).0, ap (λ n. up a * n) (product_is b c).1, ap (λ n. down a * n) (product_is b c).1)

pub dot_add : (a b v : List ℤ) → dot (add_rows a b) v ≡ dot a v +ℤ dot b v
dot_add [] b v = omega (arith, ints)
dot_add (x ∷ a) [] v = omega (arith, ints)
dot_add (x ∷ a) (y ∷ b) [] = refl
dot_add (x ∷ a) (y ∷ b) (z ∷ v) = omega (arith, ints, add_mul_z x y z, dot_add a b v)

pub dot_scale : (p : ℤ) (a v : List ℤ) → dot (scale p a) v ≡ p *ℤ dot a v
dot_scale p [] v = omega (arith, ints)
dot_scale p (x ∷ a) [] = omega (arith, ints)
dot_scale p (x ∷ a) (z ∷ v) = omega (arith, ints, mul_add_z p (x *ℤ z) (dot a v), mul_assoc_z p x z, dot_scale p a v)

-- of rows of one length, the combination is the sum of the multiples
pub combined_is : (p : ℤ) (a : List ℤ) (q : ℤ) (b : List ℤ) → length a ≡ length b → combined p a q b ≡ add_rows (scale p a) (scale q b)
combined_is p [] q [] e = refl
combined_is p [] q (y ∷ b) e = absurd (omega arith)
combined_is p (x ∷ a) q [] e = absurd (omega arith)
combined_is p (x ∷ a) q (y ∷ b) e =
    let l : length a ≡ length b = omega arith in
    ap (λ rest. ((p *ℤ x) +ℤ (q *ℤ y)) ∷ rest) (combined_is p a q b l)

-- the value of a combination, at every point
pub dot_combined : (p : ℤ) (a : List ℤ) (q : ℤ) (b v : List ℤ) → length a ≡ length b
    → dot (combined p a q b) v ≡ (p *ℤ dot a v) +ℤ (q *ℤ dot b v)
dot_combined p a q b v e =
    rw (combined_is p a q b e) (dot_add (scale p a) (scale q b) v ∙ ap (λ n. n +ℤ dot (scale q b) v) (dot_scale p a v) ∙ ap (λ n. (p *ℤ dot a v) +ℤ n) (dot_scale q b v))

-- the value of a row that is a combination, at every point
pub dot_combination : (p : ℤ) (a : List ℤ) (q : ℤ) (b row : List ℤ) → length a ≡ length b → row ≡ combined p a q b
    → (point : List ℤ) → dot row point ≡ (p *ℤ dot a point) +ℤ (q *ℤ dot b point)
dot_combination p a q b row e is point = rw is (dot_combined p a q b point e)
