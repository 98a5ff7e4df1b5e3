-- One turn of the elimination: what is left to do ends as the whole does, and its peak is no higher.
use Rattle.std.proofs.Common.{◌≡◌, refl, ap, sym, ◌∙◌, ℕ, zero, suc, ◌+◌, ◌≤◌, List, ◌∷◌, length, arith}
use Rattle.std.specs.Prelude.{Some, None, ℤ}
use Rattle.relation_core.specs.declared.part_rows.PartRow.{PartRow}
use Rattle.elim_core.specs.Elimination.{Elimination, after, refutation_of, projected, crossed_weight, normalised, first_equality, without, without_weight, from_columns, from_equalities}

pub record Leads (part whole : Elimination) : Type 0 where
  pub refutation : part.refutation ≡ whole.refutation
  pub weight : part.weight ≤ whole.weight
  pub count : part.count ≤ whole.count

pub leads_refl : (e : Elimination) → Leads e e
leads_refl e = record { refutation = refl; weight = omega arith; count = omega arith }

pub leads_trans : {a b c : Elimination} → Leads a b → Leads b c → Leads a c
leads_trans p q = record { refutation = p.refutation ∙ q.refutation; weight = omega (arith, p.weight, q.weight); count = omega (arith, p.count, q.count) }

-- one column
pub column_leads : (n j : ℕ) (js : List ℕ) (ws : List PartRow) → refutation_of n (projected j ws) ≡ None → Leads (from_columns n js (normalised n (projected j ws))) (from_columns n (j ∷ js) ws)
column_leads n j js ws e = record { refutation = rw e refl; weight = rw e (omega arith); count = rw e (omega arith) }

pub column_ends : (n j : ℕ) (js : List ℕ) (ws : List PartRow) (c : List ℤ) → refutation_of n (projected j ws) ≡ Some c → (from_columns n (j ∷ js) ws).refutation ≡ Some c
column_ends n j js ws c e = rw e refl

pub column_weight_within : (n j : ℕ) (js : List ℕ) (ws : List PartRow) → crossed_weight j ws ws ≤ (from_columns n (j ∷ js) ws).weight
column_weight_within n j js ws = omega arith

pub column_count_within : (n j : ℕ) (js : List ℕ) (ws : List PartRow) → length (projected j ws) ≤ (from_columns n (j ∷ js) ws).count
column_count_within n j js ws = omega arith

-- one equality
equality_step : (n m : ℕ) (js : List ℕ) (e : PartRow) (ws : List PartRow) → first_equality ws ≡ Some e → refutation_of n (without n e ws) ≡ None
    → from_equalities n js (suc m) ws ≡ after (without_weight n e ws) 0 (from_equalities n js m (normalised n (without n e ws)))
equality_step n m js e ws f r = rw (f, from_equalities) (rw r refl)

pub equality_leads : (n m k : ℕ) (js : List ℕ) (e : PartRow) (ws : List PartRow) → m ≡ k + 1 → first_equality ws ≡ Some e → refutation_of n (without n e ws) ≡ None → Leads (from_equalities n js k (normalised n (without n e ws))) (from_equalities n js m ws)
equality_leads n zero k js e ws l f r = absurd (omega arith)
equality_leads n (suc m) k js e ws l f r =
    let h : m ≡ k = omega arith in
    let q = equality_step n m js e ws f r in
    rw (← h) (record {
      refutation = sym (ap (λ (t : Elimination). t.refutation) q);
      weight = omega (arith, ap (λ (t : Elimination). t.weight) q);
      count = omega (arith, ap (λ (t : Elimination). t.count) q);
    })

pub equality_ends : (n m k : ℕ) (js : List ℕ) (e : PartRow) (ws : List PartRow) (c : List ℤ) → m ≡ k + 1 → first_equality ws ≡ Some e → refutation_of n (without n e ws) ≡ Some c → (from_equalities n js m ws).refutation ≡ Some c
equality_ends n zero k js e ws c l f r = absurd (omega arith)
equality_ends n (suc m) k js e ws c l f r = rw (f, from_equalities) (rw r refl)

pub equality_weight_within : (n m k : ℕ) (js : List ℕ) (e : PartRow) (ws : List PartRow) → m ≡ k + 1 → first_equality ws ≡ Some e → without_weight n e ws ≤ (from_equalities n js m ws).weight
equality_weight_within n zero k js e ws l f = absurd (omega arith)
equality_weight_within n (suc m) k js e ws l f = rw (f, from_equalities) (omega arith)

pub no_equality_leads : (n m : ℕ) (js : List ℕ) (ws : List PartRow) → first_equality ws ≡ None → from_equalities n js m ws ≡ from_columns n js ws
no_equality_leads n zero js ws f = refl
no_equality_leads n (suc m) js ws f = rw (f, from_equalities) refl
