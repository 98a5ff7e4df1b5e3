-- Sums, multiples and combinations of rows, entry by entry and part by part.
use Rattle.std.proofs.Common.{◌≡◌, refl, ap, sym, ◌∙◌, ℕ, zero, suc, List, [], ◌∷◌, length, drop, arith}
use Rattle.std.specs.Prelude.{ℤ, negsuc, ◌+ℤ◌, ◌*ℤ◌, neg_ℤ, map}
use Rattle.std.proofs.lemmas.Int.{ints}
use Rattle.row_core.proofs.Ring.{add_mul_z, mul_assoc_z, mul_add_z}
use Rattle.row_core.proofs.Rows.{combined_is}
use Rattle.row_core.specs.Rows.{entry, add_rows, scale, combined}
use Rattle.relation_core.specs.declared.part_rows.PartRow.{PartRow}
use Rattle.relation_core.specs.Points.{column}
use Rattle.farkas_cert.proofs.Laws.{entry_add, entry_scale}

pub entry_combined : (p : ℤ) (a : List ℤ) (q : ℤ) (b : List ℤ) (k : ℕ) → length a ≡ length b → entry (combined p a q b) k ≡ (p *ℤ entry a k) +ℤ (q *ℤ entry b k)
entry_combined p a q b k l = rw (combined_is p a q b l) (entry_add (scale p a) (scale q b) k ∙ (ap (λ n. n +ℤ entry (scale q b) k) (entry_scale p a k) ∙ ap (λ n. (p *ℤ entry a k) +ℤ n) (entry_scale q b k)))

pub length_combined : (p : ℤ) (a : List ℤ) (q : ℤ) (b : List ℤ) → length a ≡ length b → length (combined p a q b) ≡ length a
length_combined p [] q b l = refl
length_combined p (x ∷ a) q [] l = absurd (omega arith)
length_combined p (x ∷ a) q (y ∷ b) l = let e : length a ≡ length b = omega arith in omega (arith, length_combined p a q b e)

pub length_scale : (p : ℤ) (a : List ℤ) → length (scale p a) ≡ length a
length_scale p [] = refl
length_scale p (x ∷ a) = omega (arith, length_scale p a)

add_nothing : (a : List ℤ) → add_rows a [] ≡ a
add_nothing [] = refl
add_nothing (x ∷ a) = refl

pub drop_add : (k : ℕ) (a b : List ℤ) → drop k (add_rows a b) ≡ add_rows (drop k a) (drop k b)
drop_add zero a b = refl
drop_add (suc k) [] b = refl
drop_add (suc k) (x ∷ a) [] = sym (add_nothing (drop k a))
drop_add (suc k) (x ∷ a) (y ∷ b) = drop_add k a b

pub drop_scale : (k : ℕ) (p : ℤ) (a : List ℤ) → drop k (scale p a) ≡ scale p (drop k a)
drop_scale zero p a = refl
drop_scale (suc k) p [] = refl
drop_scale (suc k) p (x ∷ a) = drop_scale k p a

pub drop_combined : (k : ℕ) (p : ℤ) (a : List ℤ) (q : ℤ) (b : List ℤ) → length a ≡ length b → drop k (combined p a q b) ≡ add_rows (scale p (drop k a)) (scale q (drop k b))
drop_combined k p a q b l = rw (combined_is p a q b l) (drop_add k (scale p a) (scale q b) ∙ (ap (λ t. add_rows t (drop k (scale q b))) (drop_scale k p a) ∙ ap (λ t. add_rows (scale p (drop k a)) t) (drop_scale k q b)))

pub column_add : (ls ms : List ℤ) (rows : List PartRow) (k : ℕ) → column (add_rows ls ms) rows k ≡ column ls rows k +ℤ column ms rows k
column_add [] ms rows k = omega (arith, ints)
column_add (l ∷ ls) [] rows k = omega (arith, ints)
column_add (l ∷ ls) (m ∷ ms) [] k = omega (arith, ints)
column_add (l ∷ ls) (m ∷ ms) (r ∷ rows) k = omega (arith, ints, add_mul_z l m (entry r.entries k), column_add ls ms rows k)

pub column_scale : (p : ℤ) (ls : List ℤ) (rows : List PartRow) (k : ℕ) → column (scale p ls) rows k ≡ p *ℤ column ls rows k
column_scale p [] rows k = omega (arith, ints)
column_scale p (l ∷ ls) [] k = omega (arith, ints)
column_scale p (l ∷ ls) (r ∷ rows) k = omega (arith, ints, mul_assoc_z p l (entry r.entries k), mul_add_z p (l *ℤ entry r.entries k) (column ls rows k), column_scale p ls rows k)

pub negated_is : (ls : List ℤ) → map neg_ℤ ls ≡ scale (negsuc 0) ls
negated_is [] = refl
negated_is (l ∷ ls) = let e : neg_ℤ l ≡ negsuc 0 *ℤ l = omega (arith, ints) in let f = negated_is ls in cc
