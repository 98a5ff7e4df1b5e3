-- The merge of the entries of two sparse rows.
use Rattle.std.specs.Prelude.{ℤ, pos, ◌+ℤ◌, ◌*ℤ◌, ℕ, zero, suc, ◌+◌, ◌-◌, ◌<◌, ◌≤◌, ◌^◌, ◌≡◌, ◌↔◌, refl, true, false, cond, List, [], ◌∷◌, ◌++◌, length, drop, replicate}
use Rattle.std.proofs.Common.{ap, inl, inr, sym, subst, ◌∙◌, arith, append_assoc}
use Rattle.std.proofs.Math.ListN.{length-append}
use Rattle.std.proofs.lemmas.Int.{ints}
use Rattle.std.proofs.lemmas.List.{append-nil, drop_all, drop-drop, length-drop, length-replicate}
use Rattle.std.proofs.lemmas.Bool.{cases_lt}
use Rattle.row_core.specs.declared.entries.Entry.{Entry}
use Rattle.row_core.specs.Rows.{entry, pair_weight, combined, combined_weight, IsHeavy}
use Rattle.row_core.specs.Sparse.{is_zero, nonzeros, Begins, value_at, past}
use Rattle.row_core.proofs.Rows.{from_heavy, combined_step, weight_step}
use Rattle.row_core.proofs.Sparse.{zero_is, begins, taken_value, taken_rest}

-- the combination of the first k columns is made, and these entries are left
pub record Merged (k : ℕ) (p : ℤ) (a : List ℤ) (q : ℤ) (b row : List ℤ) (left right : List Entry) : Type 0 where
  pub count : length row ≡ k
  pub range : k ≤ length a
  pub left_is : left ≡ nonzeros k (drop k a)
  pub right_is : right ≡ nonzeros k (drop k b)
  pub rest : row ++ combined p (drop k a) q (drop k b) ≡ combined p a q b
  pub weight : 2 ^ 127 ≤ combined_weight p (drop k a) q (drop k b) ↔ 2 ^ 127 ≤ combined_weight p a q b

pub merged_none : (p : ℤ) (a : List ℤ) (q : ℤ) (b row : List ℤ) (left right : List Entry) → row ≡ [] → left ≡ nonzeros 0 a → right ≡ nonzeros 0 b → Merged 0 p a q b row left right
merged_none p a q b row left right e f g = rw (e, f, g) (record {
  count = refl;
  range = omega arith;
  left_is = refl;
  right_is = refl;
  rest = refl;
  weight = (λ h. h, λ h. h);
})

begins_here : (k j : ℕ) (row : List ℤ) (entries : List Entry) → entries ≡ nonzeros k row → j ≡ k → Begins j entries
begins_here k j row entries e f = rw (e, f) (begins k row)

-- no entry is left before the columns that are made
pub left_begins : (k : ℕ) (p : ℤ) (a : List ℤ) (q : ℤ) (b row : List ℤ) (left right : List Entry) → Merged k p a q b row left right → Begins (length row) left
left_begins k p a q b row left right m = begins_here k (length row) (drop k a) left m.left_is m.count

pub right_begins : (k : ℕ) (p : ℤ) (a : List ℤ) (q : ℤ) (b row : List ℤ) (left right : List Entry) → Merged k p a q b row left right → Begins (length row) right
right_begins k p a q b row left right m = begins_here k (length row) (drop k b) right m.right_is m.count

-- a row whose first entry stands d places further on begins with d zeros
record Skipped (d k : ℕ) (row : List ℤ) : Type 0 where
  zeros : row ≡ replicate d (pos 0) ++ drop d row
  entries : nonzeros k row ≡ nonzeros (k + d) (drop d row)

skipped : (d k : ℕ) (row : List ℤ) → d ≤ length row → Begins (k + d) (nonzeros k row) → Skipped d k row
skipped zero k row h b = record { zeros = refl; entries = ap (λ m. nonzeros m row) (omega arith) }
skipped (suc d) k [] h b = absurd (omega arith)
skipped (suc d) k (c ∷ row) h b =
    let e : k + suc d ≡ suc k + d = omega arith in
    elim (is_zero c) as (λ t. t ≡ is_zero c → Begins (k + suc d) (cond t (nonzeros (suc k) row) (record { place = k; value = c } ∷ nonzeros (suc k) row)) → Skipped (suc d) k (c ∷ row)) [
      | true ↦ λ z g.
          let r = skipped d (suc k) row (omega arith) (subst (λ (m : ℕ). Begins m (nonzeros (suc k) row)) e g) in
          record {
            zeros = ap (λ x. x ∷ row) (zero_is c (sym z)) ∙ ap (λ t. pos 0 ∷ t) r.zeros;
            entries = rw (← z) (r.entries ∙ ap (λ m. nonzeros m (drop d row)) (sym e));
          }
      | false ↦ λ z g. absurd (omega arith)
    ] refl b

combined_zeros : (d : ℕ) (p : ℤ) (a : List ℤ) (q : ℤ) (b : List ℤ) → combined p (replicate d (pos 0) ++ a) q (replicate d (pos 0) ++ b) ≡ replicate d (pos 0) ++ combined p a q b
combined_zeros zero p a q b = refl
combined_zeros (suc d) p a q b =
    let z : (p *ℤ pos 0) +ℤ (q *ℤ pos 0) ≡ pos 0 = omega (arith, ints) in
    ap (λ x. x ∷ combined p (replicate d (pos 0) ++ a) q (replicate d (pos 0) ++ b)) z ∙ ap (λ r. pos 0 ∷ r) (combined_zeros d p a q b)

weight_zeros : (d : ℕ) (p : ℤ) (a : List ℤ) (q : ℤ) (b : List ℤ) → combined_weight p (replicate d (pos 0) ++ a) q (replicate d (pos 0) ++ b) ≡ combined_weight p a q b
weight_zeros zero p a q b = refl
weight_zeros (suc d) p a q b =
    let z : pair_weight p (pos 0) q (pos 0) ≡ 0 = omega (arith, ints) in
    omega (arith, z, weight_zeros d p a q b)

merged_more : (d k : ℕ) (p : ℤ) (a : List ℤ) (q : ℤ) (b row : List ℤ) (left right : List Entry) → length a ≡ length b → Merged k p a q b row left right
    → k + d ≤ length a → Begins (k + d) left → Begins (k + d) right → Merged (k + d) p a q b (row ++ replicate d (pos 0)) left right
merged_more d k p a q b row left right l m h f g =
    let la : d ≤ length (drop k a) = omega (arith, length-drop k a) in
    let lb : d ≤ length (drop k b) = omega (arith, length-drop k b) in
    let x = skipped d k (drop k a) la (subst (Begins (k + d)) m.left_is f) in
    let y = skipped d k (drop k b) lb (subst (Begins (k + d)) m.right_is g) in
    let da : drop d (drop k a) ≡ drop (k + d) a = drop-drop d k a in
    let db : drop d (drop k b) ≡ drop (k + d) b = drop-drop d k b in
    let xa : drop k a ≡ replicate d (pos 0) ++ drop (k + d) a = x.zeros ∙ ap (λ t. replicate d (pos 0) ++ t) da in
    let yb : drop k b ≡ replicate d (pos 0) ++ drop (k + d) b = y.zeros ∙ ap (λ t. replicate d (pos 0) ++ t) db in
    let c : combined p (drop k a) q (drop k b) ≡ replicate d (pos 0) ++ combined p (drop (k + d) a) q (drop (k + d) b) =
    ap (λ t. combined p t q (drop k b)) xa ∙ (ap (λ t. combined p (replicate d (pos 0) ++ drop (k + d) a) q t) yb ∙ combined_zeros d p (drop (k + d) a) q (drop (k + d) b)) in
    let w : combined_weight p (drop k a) q (drop k b) ≡ combined_weight p (drop (k + d) a) q (drop (k + d) b) =
    ap (λ t. combined_weight p t q (drop k b)) xa ∙ (ap (λ t. combined_weight p (replicate d (pos 0) ++ drop (k + d) a) q t) yb ∙ weight_zeros d p (drop (k + d) a) q (drop (k + d) b)) in
    record {
      count = omega (arith, m.count, length-append row (replicate d (pos 0)), length-replicate d (pos 0));
      range = h;
      left_is = m.left_is ∙ (x.entries ∙ ap (nonzeros (k + d)) da);
      right_is = m.right_is ∙ (y.entries ∙ ap (nonzeros (k + d)) db);
      rest = append_assoc row (replicate d (pos 0)) (combined p (drop (k + d) a) q (drop (k + d) b)) ∙ (ap (λ t. row ++ t) (sym c) ∙ m.rest);
      weight = (λ u. m.weight.0 (omega (arith, w, u)), λ u. let v = m.weight.1 u in omega (arith, w, v));
    }

-- zeros up to place j, before which no entry is left
pub merged_zeros : (k j : ℕ) (p : ℤ) (a : List ℤ) (q : ℤ) (b row made : List ℤ) (left right : List Entry) → length a ≡ length b → Merged k p a q b row left right
    → made ≡ row ++ replicate (j - length row) (pos 0) → length row ≤ j → j ≤ length a → Begins j left → Begins j right → Merged j p a q b made left right
merged_zeros k j p a q b row made left right l m is s h f g =
    let e : k + (j - length row) ≡ j = omega (arith, m.count) in
    subst (λ (t : List ℤ). Merged j p a q b t left right) (sym is)
    (subst (λ (i : ℕ). Merged i p a q b (row ++ replicate (j - length row) (pos 0)) left right) e
    (merged_more (j - length row) k p a q b row left right l m (rw e h) (rw e f) (rw e g)))

-- the column at k
pub merged_next : (k : ℕ) (p : ℤ) (a : List ℤ) (q : ℤ) (b row made : List ℤ) (left right after_left after_right : List Entry) (x y c : ℤ)
    → length a ≡ length b → Merged k p a q b row left right → k < length a → x ≡ value_at k left → y ≡ value_at k right
    → after_left ≡ past k left → after_right ≡ past k right → c ≡ (p *ℤ x) +ℤ (q *ℤ y) → pair_weight p x q y < 2 ^ 127 → made ≡ row ++ c ∷ []
    → Merged (k + 1) p a q b made after_left after_right
merged_next k p a q b row made left right after_left after_right x y c l m f ex ey el er is light longer =
    let g : k < length b = omega arith in
    let x_is : x ≡ entry a k = ex ∙ taken_value k a left f m.left_is in
    let y_is : y ≡ entry b k = ey ∙ taken_value k b right g m.right_is in
    let entry_is : c ≡ (p *ℤ entry a k) +ℤ (q *ℤ entry b k) = rw (x_is, y_is) at is in
    let light_is : pair_weight p (entry a k) q (entry b k) < 2 ^ 127 = rw (x_is, y_is) at light in
    let after = combined p (drop (k + 1) a) q (drop (k + 1) b) in
    let weights = weight_step p a q b k f g in
    record {
      count = omega (arith, m.count, ap length longer, length-append row (c ∷ []));
      range = omega arith;
      left_is = el ∙ taken_rest k a left f m.left_is;
      right_is = er ∙ taken_rest k b right g m.right_is;
      rest = ap (λ r. r ++ after) longer ∙ (append_assoc row (c ∷ []) after ∙ (ap (λ e. row ++ e ∷ after) entry_is ∙ (ap (λ r. row ++ r) (sym (combined_step p a q b k f g)) ∙ m.rest)));
      weight = (λ h. m.weight.0 (omega (arith, weights, h)), λ h. let v = m.weight.1 h in omega (arith, weights, v));
    }

pub merged_heavy : (k : ℕ) (p : ℤ) (a : List ℤ) (q : ℤ) (b row : List ℤ) (left right : List Entry) (x y : ℤ) → length a ≡ length b → Merged k p a q b row left right
    → k < length a → x ≡ value_at k left → y ≡ value_at k right → 2 ^ 127 ≤ pair_weight p x q y → IsHeavy p a q b
merged_heavy k p a q b row left right x y l m f ex ey h =
    let g : k < length b = omega arith in
    let x_is : x ≡ entry a k = ex ∙ taken_value k a left f m.left_is in
    let y_is : y ≡ entry b k = ey ∙ taken_value k b right g m.right_is in
    (k, f, g, rw (x_is, y_is) at h)

-- every column is made
pub record Finished (p : ℤ) (a : List ℤ) (q : ℤ) (b row : List ℤ) : Type 0 where
  pub row_is : row ≡ combined p a q b
  pub light : combined_weight p a q b < 2 ^ 127

pub merged_all : (k : ℕ) (p : ℤ) (a : List ℤ) (q : ℤ) (b row : List ℤ) (left right : List Entry) → Merged k p a q b row left right → length a ≤ k → Finished p a q b row
merged_all k p a q b row left right m h =
    let e = drop_all k a h in
    let w : combined_weight p (drop k a) q (drop k b) ≡ 0 = ap (λ t. combined_weight p t q (drop k b)) e in
    record {
      row_is = sym (append-nil row) ∙ rw e at m.rest;
      light = elim (cases_lt (combined_weight p a q b) (2 ^ 127)) [ inl f ↦ f | inr f ↦ absurd (let v = m.weight.1 (omega arith) in omega (arith, w, v)) ];
    }

pub not_heavy : (p : ℤ) (a : List ℤ) (q : ℤ) (b : List ℤ) → combined_weight p a q b < 2 ^ 127 → ¬ IsHeavy p a q b
not_heavy p a q b l h = absurd (omega (arith, from_heavy p a q b h))
