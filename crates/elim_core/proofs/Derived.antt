-- The multipliers of a working row: the row is the combination of the system's rows by them, and
-- they are allowed. So a contradiction carries a valid certificate.
use Rattle.std.proofs.Common.{◌≡◌, ap, sym, subst, ◌∙◌, inl, inr, ℕ, ◌+◌, ◌<◌, ◌≤◌, List, [], ◌∷◌, length, drop, arith}
use Rattle.std.specs.Prelude.{true, false, int_lt, ℤ, pos, negsuc, ◌+ℤ◌, ◌*ℤ◌, ◌≤ℤ◌, ◌<ℤ◌, unsigned_abs}
use Rattle.std.proofs.lemmas.Int.{ints}
use Rattle.row_core.proofs.Ring.{mul_nonneg_z, cancel_z}
use Rattle.row_core.specs.Rows.{entry, add_rows, scale, combined}
use Rattle.relation_core.specs.declared.part_rows.PartRow.{PartRow}
use Rattle.relation_core.specs.declared.part_rows.RowKind.{RowKind}
use Rattle.relation_core.specs.declared.part_rows.RowKind.TheVariants.{Equal, AtLeast}
use Rattle.relation_core.specs.Points.{column}
use Rattle.farkas_cert.specs.Certificates.{AllowedOne, Allowed, Valid}
use Rattle.farkas_cert.proofs.Laws.{entry_scale}
pub use Rattle.elim_core.specs.Multipliers.{FreeOne, Free, AllowedFor, IsDerived, Derived}
use Rattle.elim_core.specs.Gcd.{divided}
use Rattle.elim_core.specs.Elimination.{is_zero, is_constant, is_contradiction, fails, certificate_of, crossing, substituted_row, turned, is_equal}
use Rattle.elim_core.proofs.Tests.{by_bool, nonzero_is, all_zero_is, first_of_cond, second_of_cond, not_less}
use Rattle.elim_core.proofs.Quotients.{divided_is, length_divided}
use Rattle.elim_core.proofs.Algebra.{entry_combined, length_combined, drop_scale, drop_combined, column_add, column_scale, negated_is}

free_one_allowed : (kind : RowKind) (l : ℤ) → FreeOne kind l → AllowedOne kind l
free_one_allowed Equal l f = tt
free_one_allowed AtLeast l f = omega (arith, ints)

pub free_allowed : (rows : List PartRow) (ls : List ℤ) → Free rows ls → Allowed rows ls
free_allowed [] [] f = tt
free_allowed [] (l ∷ ls) f = absurd f
free_allowed (r ∷ rows) [] f = absurd f
free_allowed (r ∷ rows) (l ∷ ls) f = (free_one_allowed r.kind l f.0, free_allowed rows ls f.1)

free_one_scale : (kind : RowKind) (c l : ℤ) → FreeOne kind l → FreeOne kind (c *ℤ l)
free_one_scale Equal c l f = tt
free_one_scale AtLeast c l f = omega (arith, ints, ap (λ n. c *ℤ n) f)

pub free_scale : (rows : List PartRow) (c : ℤ) (ls : List ℤ) → Free rows ls → Free rows (scale c ls)
free_scale [] c [] f = tt
free_scale [] c (l ∷ ls) f = absurd f
free_scale (r ∷ rows) c [] f = absurd f
free_scale (r ∷ rows) c (l ∷ ls) f = (free_one_scale r.kind c l f.0, free_scale rows c ls f.1)

free_one_add : (kind : RowKind) (l m : ℤ) → FreeOne kind l → FreeOne kind m → FreeOne kind (l +ℤ m)
free_one_add Equal l m f g = tt
free_one_add AtLeast l m f g = omega (arith, ints)

pub free_add : (rows : List PartRow) (ls ms : List ℤ) → Free rows ls → Free rows ms → Free rows (add_rows ls ms)
free_add [] [] ms f g = g
free_add [] (l ∷ ls) ms f g = absurd f
free_add (r ∷ rows) [] ms f g = absurd f
free_add (r ∷ rows) (l ∷ ls) [] f g = absurd g
free_add (r ∷ rows) (l ∷ ls) (m ∷ ms) f g = (free_one_add r.kind l m f.0 g.0, free_add rows ls ms f.1 g.1)

allowed_one_scale : (kind : RowKind) (c l : ℤ) → pos 0 ≤ℤ c → AllowedOne kind l → AllowedOne kind (c *ℤ l)
allowed_one_scale Equal c l p f = tt
allowed_one_scale AtLeast c l p f = mul_nonneg_z c l p f

pub allowed_scale : (rows : List PartRow) (c : ℤ) (ls : List ℤ) → pos 0 ≤ℤ c → Allowed rows ls → Allowed rows (scale c ls)
allowed_scale [] c [] p f = tt
allowed_scale [] c (l ∷ ls) p f = absurd f
allowed_scale (r ∷ rows) c [] p f = absurd f
allowed_scale (r ∷ rows) c (l ∷ ls) p f = (allowed_one_scale r.kind c l p f.0, allowed_scale rows c ls p f.1)

allowed_one_add : (kind : RowKind) (l m : ℤ) → AllowedOne kind l → AllowedOne kind m → AllowedOne kind (l +ℤ m)
allowed_one_add Equal l m f g = tt
allowed_one_add AtLeast l m f g = omega (arith, ints)

pub allowed_add : (rows : List PartRow) (ls ms : List ℤ) → Allowed rows ls → Allowed rows ms → Allowed rows (add_rows ls ms)
allowed_add [] [] ms f g = g
allowed_add [] (l ∷ ls) ms f g = absurd f
allowed_add (r ∷ rows) [] ms f g = absurd f
allowed_add (r ∷ rows) (l ∷ ls) [] f g = absurd g
allowed_add (r ∷ rows) (l ∷ ls) (m ∷ ms) f g = (allowed_one_add r.kind l m f.0 g.0, allowed_add rows ls ms f.1 g.1)

-- a positive factor may be taken out
allowed_one_unscale : (kind : RowKind) (c l : ℤ) → pos 0 <ℤ c → AllowedOne kind (c *ℤ l) → AllowedOne kind l
allowed_one_unscale Equal c l p f = tt
allowed_one_unscale AtLeast c l p f = cancel_z c (pos 0) l p (omega (arith, ints))

allowed_unscale : (rows : List PartRow) (c : ℤ) (ls : List ℤ) → pos 0 <ℤ c → Allowed rows (scale c ls) → Allowed rows ls
allowed_unscale [] c [] p f = tt
allowed_unscale [] c (l ∷ ls) p f = absurd f
allowed_unscale (r ∷ rows) c [] p f = absurd f
allowed_unscale (r ∷ rows) c (l ∷ ls) p f = (allowed_one_unscale r.kind c l p f.0, allowed_unscale rows c ls p f.1)

pub cancel_zero : (c l : ℤ) → pos 0 <ℤ c → c *ℤ l ≡ pos 0 → l ≡ pos 0
cancel_zero c l p e =
    let a : pos 0 ≤ℤ l = cancel_z c (pos 0) l p (omega (arith, ints)) in
    let b : l ≤ℤ pos 0 = cancel_z c l (pos 0) p (omega (arith, ints)) in
    omega (arith, ints)

free_one_unscale : (kind : RowKind) (c l : ℤ) → pos 0 <ℤ c → FreeOne kind (c *ℤ l) → FreeOne kind l
free_one_unscale Equal c l p f = tt
free_one_unscale AtLeast c l p f = cancel_zero c l p f

free_unscale : (rows : List PartRow) (c : ℤ) (ls : List ℤ) → pos 0 <ℤ c → Free rows (scale c ls) → Free rows ls
free_unscale [] c [] p f = tt
free_unscale [] c (l ∷ ls) p f = absurd f
free_unscale (r ∷ rows) c [] p f = absurd f
free_unscale (r ∷ rows) c (l ∷ ls) p f = (free_one_unscale r.kind c l p f.0, free_unscale rows c ls p f.1)

allowed_for_unscale : (kind : RowKind) (rows : List PartRow) (c : ℤ) (ls : List ℤ) → pos 0 <ℤ c → AllowedFor kind rows (scale c ls) → AllowedFor kind rows ls
allowed_for_unscale Equal rows c ls p f = free_unscale rows c ls p f
allowed_for_unscale AtLeast rows c ls p f = allowed_unscale rows c ls p f

pub divided_derived : (n : ℕ) (rows : List PartRow) (kind : RowKind) (cells : List ℤ) → IsDerived n rows kind cells → IsDerived n rows kind (divided cells)
divided_derived n rows kind cells d =
    let m = divided_is cells in
    let parts : scale m.factor (drop (n + 1) (divided cells)) ≡ drop (n + 1) cells = sym (drop_scale (n + 1) m.factor (divided cells)) ∙ ap (λ t. drop (n + 1) t) m.times in
    record {
      width = length_divided cells ∙ d.width;
      combines = λ k l.
          let e1 : m.factor *ℤ entry (divided cells) k ≡ entry cells k = sym (entry_scale m.factor (divided cells) k) ∙ ap (λ t. entry t k) m.times in
          let e2 : m.factor *ℤ column (drop (n + 1) (divided cells)) rows k ≡ column (drop (n + 1) cells) rows k = sym (column_scale m.factor (drop (n + 1) (divided cells)) rows k) ∙ ap (λ t. column t rows k) parts in
          let e3 : entry cells k ≡ column (drop (n + 1) cells) rows k = d.combines k l in
          let p : pos 0 <ℤ m.factor = m.positive in
          let a : entry (divided cells) k ≤ℤ column (drop (n + 1) (divided cells)) rows k = cancel_z m.factor (entry (divided cells) k) (column (drop (n + 1) (divided cells)) rows k) p (omega (arith, ints)) in
          let b : column (drop (n + 1) (divided cells)) rows k ≤ℤ entry (divided cells) k = cancel_z m.factor (column (drop (n + 1) (divided cells)) rows k) (entry (divided cells) k) p (omega (arith, ints)) in
          omega (arith, ints);
      allowed = allowed_for_unscale kind rows m.factor (drop (n + 1) (divided cells)) m.positive (subst (AllowedFor kind rows) (sym parts) d.allowed);
    }

-- the multipliers of p a + q b, where they stay allowed
combined_derived : (n : ℕ) (rows : List PartRow) (kind kind_a kind_b : RowKind) (p : ℤ) (a : List ℤ) (q : ℤ) (b : List ℤ)
    → IsDerived n rows kind_a a → IsDerived n rows kind_b b
    → AllowedFor kind rows (add_rows (scale p (drop (n + 1) a)) (scale q (drop (n + 1) b)))
    → IsDerived n rows kind (combined p a q b)
combined_derived n rows kind kind_a kind_b p a q b da db f =
    let l : length a ≡ length b = da.width ∙ sym db.width in
    record {
      width = length_combined p a q b l ∙ da.width;
      combines = λ k i.
          let e1 = entry_combined p a q b k l in
          let e2 : column (drop (n + 1) (combined p a q b)) rows k ≡ column (add_rows (scale p (drop (n + 1) a)) (scale q (drop (n + 1) b))) rows k = ap (λ t. column t rows k) (drop_combined (n + 1) p a q b l) in
          let e3 = column_add (scale p (drop (n + 1) a)) (scale q (drop (n + 1) b)) rows k in
          let e4 = column_scale p (drop (n + 1) a) rows k in
          let e5 = column_scale q (drop (n + 1) b) rows k in
          let e6 : p *ℤ entry a k ≡ p *ℤ column (drop (n + 1) a) rows k = ap (λ t. p *ℤ t) (da.combines k i) in
          let e7 : q *ℤ entry b k ≡ q *ℤ column (drop (n + 1) b) rows k = ap (λ t. q *ℤ t) (db.combines k i) in
          omega (arith, ints);
      allowed = subst (AllowedFor kind rows) (sym (drop_combined (n + 1) p a q b l)) f;
    }

-- an inequality's and an equality's multipliers are allowed for an inequality
allowed_of : (kind : RowKind) (rows : List PartRow) (ls : List ℤ) → AllowedFor kind rows ls → Allowed rows ls
allowed_of Equal rows ls f = free_allowed rows ls f
allowed_of AtLeast rows ls f = f

pub crossing_derived : (n : ℕ) (rows : List PartRow) (j : ℕ) (p q : PartRow) → Derived n rows p → Derived n rows q → int_lt (pos 0) (entry p.entries j) ≡ true → int_lt (entry q.entries j) (pos 0) ≡ true → Derived n rows (crossing j p q)
crossing_derived n rows j p q dp dq lp lq =
    let np : pos 0 ≤ℤ entry p.entries j = omega (arith, ints) in
    let nq : pos 0 ≤ℤ pos (unsigned_abs (entry q.entries j)) = omega (arith, ints) in
    divided_derived n rows AtLeast (combined (pos (unsigned_abs (entry q.entries j))) p.entries (entry p.entries j) q.entries)
    (combined_derived n rows AtLeast p.kind q.kind (pos (unsigned_abs (entry q.entries j))) p.entries (entry p.entries j) q.entries dp dq
    (allowed_add rows (scale (pos (unsigned_abs (entry q.entries j))) (drop (n + 1) p.entries)) (scale (entry p.entries j) (drop (n + 1) q.entries))
    (allowed_scale rows (pos (unsigned_abs (entry q.entries j))) (drop (n + 1) p.entries) nq (allowed_of p.kind rows (drop (n + 1) p.entries) dp.allowed))
    (allowed_scale rows (entry p.entries j) (drop (n + 1) q.entries) np (allowed_of q.kind rows (drop (n + 1) q.entries) dq.allowed))))

-- an equality may be added with any factor
plus_equality : (kind : RowKind) (rows : List PartRow) (s : ℤ) (ls : List ℤ) (t : ℤ) (ms : List ℤ) → pos 0 ≤ℤ s → AllowedFor kind rows ls → Free rows ms → AllowedFor kind rows (add_rows (scale s ls) (scale t ms))
plus_equality Equal rows s ls t ms p f g = free_add rows (scale s ls) (scale t ms) (free_scale rows s ls f) (free_scale rows t ms g)
plus_equality AtLeast rows s ls t ms p f g = allowed_add rows (scale s ls) (scale t ms) (allowed_scale rows s ls p f) (free_allowed rows (scale t ms) (free_scale rows t ms g))

free_of : (kind : RowKind) (rows : List PartRow) (ls : List ℤ) → is_equal kind ≡ true → AllowedFor kind rows ls → Free rows ls
free_of Equal rows ls e f = f
free_of AtLeast rows ls e f = cc

substituted_whole : (n : ℕ) (rows : List PartRow) (j : ℕ) (e : PartRow) → Derived n rows e → is_equal e.kind ≡ true → (w : PartRow) → Derived n rows w
    → IsDerived n rows w.kind (divided (combined (pos (unsigned_abs (entry e.entries j))) w.entries (turned (entry e.entries j) (entry w.entries j)) e.entries))
substituted_whole n rows j e de k w dw =
    let s : ℤ = pos (unsigned_abs (entry e.entries j)) in
    let t : ℤ = turned (entry e.entries j) (entry w.entries j) in
    let p : pos 0 ≤ℤ pos (unsigned_abs (entry e.entries j)) = omega (arith, ints) in
    divided_derived n rows w.kind (combined s w.entries t e.entries)
    (combined_derived n rows w.kind w.kind e.kind s w.entries t e.entries dw de
    (plus_equality w.kind rows s (drop (n + 1) w.entries) t (drop (n + 1) e.entries) p dw.allowed (free_of e.kind rows (drop (n + 1) e.entries) k de.allowed)))

pub substituted_derived : (n : ℕ) (rows : List PartRow) (j : ℕ) (e : PartRow) → Derived n rows e → is_equal e.kind ≡ true → (w : PartRow) → Derived n rows w → Derived n rows (substituted_row j e w)
substituted_derived n rows j e de k w dw = elim (by_bool (is_zero (entry w.entries j))) [
  | inl z ↦ rw z dw
  | inr z ↦ rw z (substituted_whole n rows j e de k w dw)
]

-- a contradiction's multipliers, turned where an equality needs it, are a valid certificate
straight : (n : ℕ) (rows : List PartRow) (kind : RowKind) (cells : List ℤ) → IsDerived n rows kind cells → ((k : ℕ) → k < n → entry cells k ≡ pos 0) → entry cells n <ℤ pos 0 → Valid n rows (drop (n + 1) cells)
straight n rows kind cells d z l = record {
  allowed = allowed_of kind rows (drop (n + 1) cells) d.allowed;
  cleared = λ k i. let h : k ≤ n = omega arith in sym (d.combines k h) ∙ z k i;
  contradicts = let e = d.combines n (omega arith) in omega (arith, ints);
}

reversed : (n : ℕ) (rows : List PartRow) (cells : List ℤ) → IsDerived n rows Equal cells → ((k : ℕ) → k < n → entry cells k ≡ pos 0) → pos 0 <ℤ entry cells n → Valid n rows (scale (negsuc 0) (drop (n + 1) cells))
reversed n rows cells d z l = record {
  allowed = free_allowed rows (scale (negsuc 0) (drop (n + 1) cells)) (free_scale rows (negsuc 0) (drop (n + 1) cells) d.allowed);
  cleared = λ k i.
      let h : k ≤ n = omega arith in
      let e : column (drop (n + 1) cells) rows k ≡ pos 0 = sym (d.combines k h) ∙ z k i in
      column_scale (negsuc 0) (drop (n + 1) cells) rows k ∙ ap (λ t. negsuc 0 *ℤ t) e;
  contradicts = let e = d.combines n (omega arith) in let f = column_scale (negsuc 0) (drop (n + 1) cells) rows n in omega (arith, ints);
}

certificate_by_kind : (n : ℕ) (rows : List PartRow) (kind : RowKind) (cells : List ℤ) → IsDerived n rows kind cells → ((k : ℕ) → k < n → entry cells k ≡ pos 0) → fails kind (entry cells n) ≡ true → Valid n rows (certificate_of n (record { kind = kind; entries = cells }))
certificate_by_kind n rows AtLeast cells d z f =
    let l : entry cells n <ℤ pos 0 = omega (arith, ints) in
    let e : int_lt (pos 0) (entry cells n) ≡ false = not_less (pos 0) (entry cells n) (omega (arith, ints)) in
    rw e (straight n rows AtLeast cells d z l)
certificate_by_kind n rows Equal cells d z f = elim (by_bool (int_lt (pos 0) (entry cells n))) [
  | inl e ↦ let l : pos 0 <ℤ entry cells n = omega (arith, ints) in rw (e, negated_is (drop (n + 1) cells)) (reversed n rows cells d z l)
  | inr e ↦ elim (by_bool (is_zero (entry cells n))) [
    | inl y ↦ let g : false ≡ true = rw y at f in cc
    | inr y ↦ elim (nonzero_is (entry cells n) y) [
      | inl l ↦ rw e (straight n rows Equal cells d z l)
      | inr l ↦ absurd (omega (arith, ints))
    ]
  ]
]

pub contradiction_valid : (n : ℕ) (rows : List PartRow) (w : PartRow) → Derived n rows w → is_contradiction n w ≡ true → Valid n rows (certificate_of n w)
contradiction_valid n rows w d c =
    certificate_by_kind n rows w.kind w.entries d
    (all_zero_is n w.entries (first_of_cond (is_constant n w) (fails w.kind (entry w.entries n)) c))
    (second_of_cond (is_constant n w) (fails w.kind (entry w.entries n)) c)
