-- A valid certificate leaves no rational point: the combination of the rows would have to be both
-- nonnegative and negative there.
use Rattle.std.proofs.Common.{◌≡◌, refl, ap, sym, subst, ◌∙◌, ℕ, zero, suc, ◌<◌, List, [], ◌∷◌, ◌++◌, length, drop, get_or, ◌+◌, arith}
use Rattle.std.specs.Prelude.{Bool, Result, Ok, Err, IsTrue, IfOk, MatchResult, ◌↔◌, ℤ, pos, ◌+ℤ◌, ◌*ℤ◌, neg_ℤ, unsigned_abs, ◌≤ℤ◌, ◌<ℤ◌}
use Rattle.std.proofs.lemmas.Int.{ints}
use Rattle.row_core.proofs.Ring.{neg_mul_z, mul_nonneg_z, mul_pos_z}
use Rattle.row_core.proofs.Rows.{dot_add, dot_scale}
use Rattle.row_core.specs.Rows.{dot, add_rows, scale, entry}
use Rattle.relation_core.specs.declared.part_rows.PartRow.{PartRow}
use Rattle.relation_core.specs.declared.part_rows.RowKind.{RowKind}
use Rattle.relation_core.specs.declared.part_rows.RowKind.TheVariants.{Equal, AtLeast}
use Rattle.relation_core.specs.Points.{Meets, MeetsAll, RationalPoint, combination, column, column_weight}
use Rattle.farkas_cert.specs.Certificates.{AllowedOne, Allowed, Valid, HasNoPoint, ValidMeansEmpty, BeginsAt}

pub entry_add : (a b : List ℤ) (k : ℕ) → entry (add_rows a b) k ≡ entry a k +ℤ entry b k
entry_add [] b k = omega (arith, ints)
entry_add (x ∷ a) [] k = omega (arith, ints)
entry_add (x ∷ a) (y ∷ b) zero = refl
entry_add (x ∷ a) (y ∷ b) (suc k) = entry_add a b k

pub entry_scale : (p : ℤ) (a : List ℤ) (k : ℕ) → entry (scale p a) k ≡ p *ℤ entry a k
entry_scale p [] k = omega (arith, ints)
entry_scale p (x ∷ a) zero = refl
entry_scale p (x ∷ a) (suc k) = entry_scale p a k

pub entry_combination : (ls : List ℤ) (rs : List PartRow) (k : ℕ) → entry (combination ls rs) k ≡ column ls rs k
entry_combination [] rs k = refl
entry_combination (l ∷ ls) [] k = refl
entry_combination (l ∷ ls) (r ∷ rs) k =
    entry_add (scale l r.entries) (combination ls rs) k ∙
    (ap (λ n. n +ℤ entry (combination ls rs) k) (entry_scale l r.entries k) ∙
    ap (λ n. (l *ℤ entry r.entries k) +ℤ n) (entry_combination ls rs k))

scaled_meets : (kind : RowKind) (l d : ℤ) → AllowedOne kind l → Meets kind d → pos 0 ≤ℤ (l *ℤ d)
scaled_meets Equal l d a m = omega (arith, ints, ap (λ n. l *ℤ n) m)
scaled_meets AtLeast l d a m = mul_nonneg_z l d a m

pub combination_holds : (rs : List PartRow) (ls v : List ℤ) → Allowed rs ls → MeetsAll rs v → pos 0 ≤ℤ dot (combination ls rs) v
combination_holds [] [] v a m = omega (arith, ints)
combination_holds [] (l ∷ ls) v a m = absurd a
combination_holds (r ∷ rs) [] v a m = absurd a
combination_holds (r ∷ rs) (l ∷ ls) v a m =
    let e : pos 0 ≤ℤ (l *ℤ dot r.entries v) = scaled_meets r.kind l (dot r.entries v) a.0 m.0 in
    let f : pos 0 ≤ℤ dot (combination ls rs) v = combination_holds rs ls v a.1 m.1 in
    omega (arith, ints, dot_add (scale l r.entries) (combination ls rs) v, dot_scale l r.entries v)

pub dot_empty : (cs : List ℤ) → dot cs [] ≡ pos 0
dot_empty [] = refl
dot_empty (c ∷ cs) = refl

-- a row with no variables takes the value of its constant times q
pub constant_row : (cs x : List ℤ) (q : ℤ) → ((k : ℕ) → k < length x → entry cs k ≡ pos 0) → dot cs (x ++ (q ∷ [])) ≡ entry cs (length x) *ℤ q
constant_row [] x q h = omega (arith, ints)
constant_row (c ∷ cs) [] q h =
    let e : dot cs [] ≡ pos 0 = dot_empty cs in omega (arith, ints)
constant_row (c ∷ cs) (z ∷ x) q h =
    let e : c ≡ pos 0 = h 0 (omega arith) in
    let f : dot cs (x ++ (q ∷ [])) ≡ entry cs (length x) *ℤ q = constant_row cs x q (λ k l. h (suc k) (omega arith)) in
    omega (arith, ints, ap (λ n. n *ℤ z) e)

pub no_point : (rows : List PartRow) (multipliers x : List ℤ) (q : ℤ) → Valid (length x) rows multipliers → RationalPoint rows x q → ⊥
no_point rows multipliers x q v p =
    let c : dot (combination multipliers rows) (x ++ (q ∷ [])) ≡ entry (combination multipliers rows) (length x) *ℤ q =
    constant_row (combination multipliers rows) x q (λ k l. entry_combination multipliers rows k ∙ v.cleared k l) in
    let e : entry (combination multipliers rows) (length x) ≡ column multipliers rows (length x) = entry_combination multipliers rows (length x) in
    let g : pos 0 ≤ℤ dot (combination multipliers rows) (x ++ (q ∷ [])) = combination_holds rows multipliers (x ++ (q ∷ [])) v.allowed p.meets in
    let n : pos 0 <ℤ neg_ℤ (column multipliers rows (length x)) = omega (arith, ints, v.contradicts) in
    let q1 : pos 0 <ℤ q = omega (arith, ints, p.positive) in
    let m : pos 0 <ℤ (neg_ℤ (column multipliers rows (length x)) *ℤ q) = mul_pos_z (neg_ℤ (column multipliers rows (length x))) q n q1 in
    omega (arith, ints, neg_mul_z (column multipliers rows (length x)) q, ap (λ n. n *ℤ q) e)

pub valid_law : ValidMeansEmpty
valid_law n rows multipliers v x q e p = no_point rows multipliers x q (subst (λ (k : ℕ). Valid k rows multipliers) (sym e) v) p

-- allowed multipliers are as many as the rows
pub allowed_length : (rows : List PartRow) (ls : List ℤ) → Allowed rows ls → length ls ≡ length rows
allowed_length [] [] a = refl
allowed_length [] (l ∷ ls) a = absurd a
allowed_length (r ∷ rows) [] a = absurd a
allowed_length (r ∷ rows) (l ∷ ls) a = omega (arith, allowed_length rows ls a.1)

-- where an answer is true exactly for a valid certificate, true means that there is no point
pub meaning_of : {E : Type 0} (answer : Result Bool E) (n : ℕ) (rows : List PartRow) (ls : List ℤ) (P : E → Type 0)
    → MatchResult answer (λ valid. IsTrue valid ↔ Valid n rows ls) P → IfOk answer (λ valid. IsTrue valid → HasNoPoint n rows)
meaning_of (Ok valid) n rows ls P m = λ t. valid_law n rows ls (m.0 t)
meaning_of (Err e) n rows ls P m = tt

column_empty : (ls : List ℤ) (k : ℕ) → column ls [] k ≡ pos 0
column_empty [] k = refl
column_empty (z ∷ ls) k = refl

weight_empty : (ls : List ℤ) (k : ℕ) → column_weight ls [] k ≡ 0
weight_empty [] k = refl
weight_empty (z ∷ ls) k = refl

-- a multiplier that is 0 adds nothing to a column
column_past : (ls : List ℤ) (rows : List PartRow) (k i : ℕ) → i < length ls → entry ls i ≡ pos 0
    → column (drop (suc i) ls) (drop (suc i) rows) k ≡ column (drop i ls) (drop i rows) k
column_past [] rows k i l e = absurd (omega arith)
column_past (z ∷ ls) [] k zero l e = column_empty ls k
column_past (z ∷ ls) [] k (suc i) l e = column_empty (drop (suc i) ls) k ∙ sym (column_empty (drop i ls) k)
column_past (z ∷ ls) (row ∷ rows) k zero l e = omega (arith, ints, ap (λ n. n *ℤ entry row.entries k) e)
column_past (z ∷ ls) (row ∷ rows) k (suc i) l e = column_past ls rows k i (omega arith) e

weight_past : (ls : List ℤ) (rows : List PartRow) (k i : ℕ) → i < length ls → entry ls i ≡ pos 0
    → column_weight (drop (suc i) ls) (drop (suc i) rows) k ≡ column_weight (drop i ls) (drop i rows) k
weight_past [] rows k i l e = absurd (omega arith)
weight_past (z ∷ ls) [] k zero l e = weight_empty ls k
weight_past (z ∷ ls) [] k (suc i) l e = weight_empty (drop (suc i) ls) k ∙ sym (weight_empty (drop i ls) k)
weight_past (z ∷ ls) (row ∷ rows) k zero l e = omega (arith, ints, ap (λ n. unsigned_abs (n *ℤ entry row.entries k)) e)
weight_past (z ∷ ls) (row ∷ rows) k (suc i) l e = weight_past ls rows k i (omega arith) e

-- a multiplier that is 0 does not matter
pub begins_past : (ls : List ℤ) (i : ℕ) (x : ℤ) → BeginsAt ls i → i < length ls → x ≡ get_or ls i x → x ≡ pos 0 → BeginsAt ls (i + 1)
begins_past ls i x b l r z =
    let e : entry ls i ≡ pos 0 = sym (rw z at r) in
    let f : i + 1 ≡ suc i = omega arith in
    rw f (record {
      within = omega arith;
      value = λ rows k. column_past ls rows k i l e ∙ b.value rows k;
      weight = λ rows k. weight_past ls rows k i l e ∙ b.weight rows k;
    })
