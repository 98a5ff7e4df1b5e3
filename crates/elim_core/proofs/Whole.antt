-- The whole elimination is right both ways: where it ends without a refutation there is a rational
-- point, and a refutation is a valid certificate.
use Rattle.std.proofs.Common.{◌≡◌, refl, ap, sym, subst, ◌∙◌, inl, inr, ℕ, zero, suc, ◌+◌, ◌<◌, ◌≤◌, List, [], ◌∷◌, length, take, replicate, arith}
use Rattle.std.specs.Prelude.{true, false, ◌⊎◌, Option, Some, None, nat_eq, int_lt, ℤ, pos, ◌*ℤ◌, neg_ℤ, unsigned_abs}
use Rattle.std.proofs.lemmas.Int.{ints}
use Rattle.std.proofs.lemmas.Bool.Decides.{nat_tests}
use Rattle.std.proofs.lemmas.List.{length-replicate}
use Rattle.row_core.proofs.Ring.{neg_mul_z, mul_comm_z}
use Rattle.row_core.specs.Rows.{entry, combined}
use Rattle.relation_core.specs.declared.part_rows.PartRow.{PartRow}
use Rattle.relation_core.specs.Points.{HasPoint}
use Rattle.farkas_cert.specs.Certificates.{Valid}
use Rattle.farkas_cert.proofs.Laws.{entry_scale}
use Rattle.elim_core.specs.Gcd.{divided}
use Rattle.elim_core.specs.Elimination.{is_zero, all_zero, refutation_of, without, normalised, first_equality, without_equality, last_variable, substituted, crossing, projected, started, from_columns, from_equalities, from_rows, elimination, In, Covers, Below}
use Rattle.elim_core.proofs.Tests.{by_bool, zero_is, all_zero_is, all_zero_test}
use Rattle.elim_core.proofs.Quotients.{divided_is}
use Rattle.elim_core.proofs.Algebra.{entry_combined}
use Rattle.elim_core.specs.RowLists.{AllRows, Wide}
use Rattle.elim_core.proofs.AllRows.{all_normalised, all_projected, all_substituted, all_without_equality, HasVariables, normalised_variables, at_first_equality, no_equality, at_refutation, no_refutation}
use Rattle.elim_core.proofs.Derived.{Derived, crossing_derived, substituted_derived, contradiction_valid, cancel_zero}
use Rattle.elim_core.proofs.Points.{from_normalised}
use Rattle.elim_core.proofs.Back.{IsInequality, from_substituted, from_projected}
use Rattle.elim_core.proofs.Started.{started_derived, length_started, from_started}
use Rattle.elim_core.proofs.Lengths.{length_normalised, length_substituted, length_without}

pub by_option : {X : Type 0} (o : Option X) → ((x : X) × (o ≡ Some x)) ⊎ (o ≡ None)
by_option (Some x) = inl (x, refl)
by_option None = inr refl

all_both : (P Q : PartRow → Type 0) (ws : List PartRow) → AllRows P ws → AllRows Q ws → AllRows (λ w. P w × Q w) ws
all_both P Q [] p q = tt
all_both P Q (w ∷ ws) p q = ((p.0, q.0), all_both P Q ws p.1 q.1)

all_map : (P Q : PartRow → Type 0) (ws : List PartRow) → ((w : PartRow) → P w → Q w) → AllRows P ws → AllRows Q ws
all_map P Q [] h p = tt
all_map P Q (w ∷ ws) h p = (h w p.0, all_map P Q ws h p.1)

pub wide_of : (n : ℕ) (rows ws : List PartRow) → AllRows (Derived n rows) ws → AllRows (Wide (n + 1 + length rows)) ws
wide_of n rows ws d = all_map (Derived n rows) (Wide (n + 1 + length rows)) ws (λ w e. e.width) d

valid_refutation : (n : ℕ) (rows ws : List PartRow) (c : List ℤ) → refutation_of n ws ≡ Some c → AllRows (Derived n rows) ws → Valid n rows c
valid_refutation n rows ws c e d = at_refutation (Derived n rows) (Valid n rows) n ws c (contradiction_valid n rows) e d

-- a variable that isn't left to project has no entry
abbrev pub Gone : ℕ → List ℕ → PartRow → Type 0
Gone n js w = (k : ℕ) → k < n → In k js ⊎ (entry w.entries k ≡ pos 0)

zero_divided : (cells : List ℤ) (k : ℕ) → entry cells k ≡ pos 0 → entry (divided cells) k ≡ pos 0
zero_divided cells k e =
    let m = divided_is cells in
    cancel_zero m.factor (entry (divided cells) k) m.positive (sym (entry_scale m.factor (divided cells) k) ∙ (ap (λ t. entry t k) m.times ∙ e))

crossing_clears : (j : ℕ) (p q : PartRow) → length p.entries ≡ length q.entries → int_lt (entry q.entries j) (pos 0) ≡ true → entry (crossing j p q).entries j ≡ pos 0
crossing_clears j p q l e =
    let s : pos (unsigned_abs (entry q.entries j)) ≡ neg_ℤ (entry q.entries j) = omega (arith, ints) in
    zero_divided (combined (pos (unsigned_abs (entry q.entries j))) p.entries (entry p.entries j) q.entries) j
    (omega (arith, ints, entry_combined (pos (unsigned_abs (entry q.entries j))) p.entries (entry p.entries j) q.entries j l, ap (λ n. n *ℤ entry p.entries j) s, neg_mul_z (entry q.entries j) (entry p.entries j), mul_comm_z (entry q.entries j) (entry p.entries j)))

crossing_zero : (j k : ℕ) (p q : PartRow) → length p.entries ≡ length q.entries → entry p.entries k ≡ pos 0 → entry q.entries k ≡ pos 0 → entry (crossing j p q).entries k ≡ pos 0
crossing_zero j k p q l e f =
    zero_divided (combined (pos (unsigned_abs (entry q.entries j))) p.entries (entry p.entries j) q.entries) k
    (omega (arith, ints, entry_combined (pos (unsigned_abs (entry q.entries j))) p.entries (entry p.entries j) q.entries k l, ap (λ n. pos (unsigned_abs (entry q.entries j)) *ℤ n) e, ap (λ n. entry p.entries j *ℤ n) f))

crossing_gone : (n j : ℕ) (js : List ℕ) (p q : PartRow) → length p.entries ≡ length q.entries → Gone n (j ∷ js) p → Gone n (j ∷ js) q → int_lt (entry q.entries j) (pos 0) ≡ true → Gone n js (crossing j p q)
crossing_gone n j js p q l gp gq e = λ k i. elim (gp k i) [
  | inl a ↦ elim a [ inl s ↦ inr (rw (sym s) (crossing_clears j p q l e)) | inr b ↦ inl b ]
  | inr zp ↦ elim (gq k i) [
    | inl a ↦ elim a [ inl s ↦ inr (rw (sym s) (crossing_clears j p q l e)) | inr b ↦ inl b ]
    | inr zq ↦ inr (crossing_zero j k p q l zp zq)
  ]
]

flat_gone : (n j : ℕ) (js : List ℕ) (w : PartRow) → Gone n (j ∷ js) w → is_zero (entry w.entries j) ≡ true → Gone n js w
flat_gone n j js w g z = λ k i. elim (g k i) [
  | inl a ↦ elim a [ inl s ↦ inr (rw (sym s) (zero_is (entry w.entries j) z)) | inr b ↦ inl b ]
  | inr e ↦ inr e
]

-- what holds of the rows before the columns js are projected
pub record Ready (n : ℕ) (rows : List PartRow) (js : List ℕ) (ws : List PartRow) : Type 0 where
  pub derived : AllRows (Derived n rows) ws
  pub inequalities : AllRows IsInequality ws
  pub variables : AllRows (HasVariables n) ws
  pub gone : AllRows (Gone n js) ws
  pub below : Below n js

projected_derived : (n : ℕ) (rows : List PartRow) (j : ℕ) (ws : List PartRow) → AllRows (Derived n rows) ws → AllRows (Derived n rows) (projected j ws)
projected_derived n rows j ws d = all_projected (Derived n rows) (Derived n rows) j ws (λ w p z. p) (λ p q dp dq lp lq. crossing_derived n rows j p q dp dq lp lq) d

next_ready : (n : ℕ) (rows : List PartRow) (j : ℕ) (js : List ℕ) (ws : List PartRow) → Ready n rows (j ∷ js) ws → Ready n rows js (normalised n (projected j ws))
next_ready n rows j js ws r = record {
  derived = all_normalised (Derived n rows) n (projected j ws) (projected_derived n rows j ws r.derived);
  inequalities = all_normalised IsInequality n (projected j ws) (all_projected IsInequality IsInequality j ws (λ w p z. p) (λ p q dp dq lp lq. refl) r.inequalities);
  variables = normalised_variables n (projected j ws);
  gone = all_normalised (Gone n js) n (projected j ws) (all_projected (λ w. Derived n rows w × Gone n (j ∷ js) w) (Gone n js) j ws
      (λ w p z. flat_gone n j js w p.1 z)
      (λ p q dp dq lp lq. crossing_gone n j js p q (dp.0.width ∙ sym dq.0.width) dp.1 dq.1 lq)
      (all_both (Derived n rows) (Gone n (j ∷ js)) ws r.derived r.gone));
  below = r.below.1;
}

no_rows_left : (n : ℕ) (w : PartRow) → HasVariables n w → Gone n [] w → ⊥
no_rows_left n w v g =
    let e : all_zero (take n w.entries) ≡ true = all_zero_test n w.entries (λ k l. elim (g k l) [ inl a ↦ absurd a | inr z ↦ z ]) in
    let c : true ≡ false = sym e ∙ v in cc

pub columns_solved : (n : ℕ) (rows : List PartRow) (js : List ℕ) (ws : List PartRow) → Ready n rows js ws → (from_columns n js ws).refutation ≡ None → HasPoint n ws
columns_solved n rows [] [] r e = record { at = replicate n (pos 0); factor = pos 1; length_is = length-replicate n (pos 0); point = record { positive = omega (arith, ints); meets = tt } }
columns_solved n rows [] (w ∷ ws) r e = absurd (no_rows_left n w r.variables.0 r.gone.0)
columns_solved n rows (j ∷ js) ws r e = elim (by_option (refutation_of n (projected j ws))) [
  | inl c ↦ let f : Some c.0 ≡ None = rw c.1 at e in cc
  | inr c ↦ let f : (from_columns n js (normalised n (projected j ws))).refutation ≡ None = rw c at e in
      from_projected n (n + 1 + length rows) j ws r.below.0 r.inequalities (wide_of n rows ws r.derived)
      (from_normalised n (projected j ws) (no_refutation n (projected j ws) c) (columns_solved n rows js (normalised n (projected j ws)) (next_ready n rows j js ws r) f))
]

pub columns_refuted : (n : ℕ) (rows : List PartRow) (js : List ℕ) (ws : List PartRow) (cert : List ℤ) → AllRows (Derived n rows) ws → (from_columns n js ws).refutation ≡ Some cert → Valid n rows cert
columns_refuted n rows [] ws cert d e = cc
columns_refuted n rows (j ∷ js) ws cert d e = elim (by_option (refutation_of n (projected j ws))) [
  | inl c ↦ let f : Some c.0 ≡ Some cert = rw c.1 at e in
      let g : c.0 ≡ cert = cc in
      subst (Valid n rows) g (valid_refutation n rows (projected j ws) c.0 c.1 (projected_derived n rows j ws d))
  | inr c ↦ let f : (from_columns n js (normalised n (projected j ws))).refutation ≡ Some cert = rw c at e in
      columns_refuted n rows js (normalised n (projected j ws)) cert (all_normalised (Derived n rows) n (projected j ws) (projected_derived n rows j ws d)) f
]

-- The equalities.

pub record HasEntry (n : ℕ) (cells : List ℤ) (j : ℕ) : Type 0 where
  pub entry_is : is_zero (entry cells j) ≡ false
  pub below : j < n

one_more : (k : ℕ) (cells : List ℤ) → all_zero (take k cells) ≡ true → is_zero (entry cells k) ≡ true → (i : ℕ) → i < suc k → entry cells i ≡ pos 0
one_more k cells a z i l = elim (by_bool (nat_eq i k)) [
  | inl e ↦ let s : i ≡ k = grind (arith, nat_tests) in rw s (zero_is (entry cells k) z)
  | inr e ↦ let g : i < k = grind (arith, nat_tests) in all_zero_is k cells a i g
]

pub last_is : (n : ℕ) (cells : List ℤ) → all_zero (take n cells) ≡ false → HasEntry n cells (last_variable n cells)
last_is zero cells v = cc
last_is (suc k) cells v = elim (by_bool (is_zero (entry cells k))) [
  | inl z ↦ elim (by_bool (all_zero (take k cells))) [
    | inl a ↦
        let e : all_zero (take (suc k) cells) ≡ true = all_zero_test (suc k) cells (λ i l. one_more k cells a z i l) in
        let c : true ≡ false = sym e ∙ v in cc
    | inr a ↦ let h = last_is k cells a in rw z (record { entry_is = h.entry_is; below = omega (arith, h.below) })
  ]
  | inr z ↦ rw z (record { entry_is = z; below = omega arith })
]

pub substituted_all_derived : (n : ℕ) (rows ws : List PartRow) (j : ℕ) (e : PartRow) → first_equality ws ≡ Some e → AllRows (Derived n rows) ws → AllRows (Derived n rows) (substituted j e (without_equality ws))
substituted_all_derived n rows ws j e f d =
    let h = at_first_equality (Derived n rows) ws e f d in
    all_substituted (Derived n rows) (Derived n rows) j e (without_equality ws) (substituted_derived n rows j e h.0 h.1) (all_without_equality (Derived n rows) ws d)

no_rows_ready : (n : ℕ) (rows : List PartRow) (js : List ℕ) → Below n js → Ready n rows js []
no_rows_ready n rows js b = record { derived = tt; inequalities = tt; variables = tt; gone = tt; below = b }

all_covered : (n : ℕ) (js : List ℕ) (ws : List PartRow) → Covers n js → AllRows (Gone n js) ws
all_covered n js [] c = tt
all_covered n js (w ∷ ws) c = ((λ k l. inl (c k l)), all_covered n js ws c)

columns_ready : (n : ℕ) (rows : List PartRow) (js : List ℕ) (ws : List PartRow) → Covers n js → Below n js → AllRows (Derived n rows) ws → AllRows (HasVariables n) ws → first_equality ws ≡ None → Ready n rows js ws
columns_ready n rows js ws c b d v e = record { derived = d; inequalities = no_equality ws e; variables = v; gone = all_covered n js ws c; below = b }

pub equalities_solved : (n : ℕ) (rows : List PartRow) (js : List ℕ) (more : ℕ) (ws : List PartRow) → length ws ≤ more → Covers n js → Below n js → AllRows (Derived n rows) ws → AllRows (HasVariables n) ws
    → (from_equalities n js more ws).refutation ≡ None → HasPoint n ws
equalities_solved n rows js zero [] l c b d v r = columns_solved n rows js [] (no_rows_ready n rows js b) r
equalities_solved n rows js zero (w ∷ ws) l c b d v r = absurd (omega arith)
equalities_solved n rows js (suc more) ws l c b d v r = elim (by_option (first_equality ws)) [
  | inl e ↦
      let j : ℕ = last_variable n e.0.entries in
      let h = at_first_equality (λ w. Derived n rows w × HasVariables n w) ws e.0 e.1 (all_both (Derived n rows) (HasVariables n) ws d v) in
      let g = last_is n e.0.entries h.0.1 in
      elim (by_option (refutation_of n (without n e.0 ws))) [
        | inl a ↦ let f : Some a.0 ≡ None = rw a.1 at (rw (e.1, from_equalities) at r) in cc
        | inr a ↦
            let f : (from_equalities n js more (normalised n (without n e.0 ws))).refutation ≡ None = rw a at (rw (e.1, from_equalities) at r) in
            let s = substituted_all_derived n rows ws (last_variable n e.0.entries) e.0 e.1 d in
            let k : length (normalised n (without n e.0 ws)) ≤ more =
            omega (arith, length_normalised n (without n e.0 ws), length_substituted (last_variable n e.0.entries) e.0 (without_equality ws), length_without ws e.0 e.1) in
            from_substituted n (n + 1 + length rows) (last_variable n e.0.entries) e.0 ws e.1 h.1 g.entry_is g.below h.0.0.width
            (all_without_equality (Wide (n + 1 + length rows)) ws (wide_of n rows ws d))
            (from_normalised n (without n e.0 ws) (no_refutation n (without n e.0 ws) a)
            (equalities_solved n rows js more (normalised n (without n e.0 ws)) k c b
            (all_normalised (Derived n rows) n (without n e.0 ws) s)
            (normalised_variables n (without n e.0 ws)) f))
      ]
  | inr e ↦ let f : (from_columns n js ws).refutation ≡ None = rw (e, from_equalities) at r in
      columns_solved n rows js ws (columns_ready n rows js ws c b d v e) f
]

pub equalities_refuted : (n : ℕ) (rows : List PartRow) (js : List ℕ) (more : ℕ) (ws : List PartRow) (cert : List ℤ) → AllRows (Derived n rows) ws → (from_equalities n js more ws).refutation ≡ Some cert → Valid n rows cert
equalities_refuted n rows js zero ws cert d r = columns_refuted n rows js ws cert d r
equalities_refuted n rows js (suc more) ws cert d r = elim (by_option (first_equality ws)) [
  | inl e ↦
      let s = substituted_all_derived n rows ws (last_variable n e.0.entries) e.0 e.1 d in
      elim (by_option (refutation_of n (without n e.0 ws))) [
        | inl a ↦ let f : Some a.0 ≡ Some cert = rw a.1 at (rw (e.1, from_equalities) at r) in
            let g : a.0 ≡ cert = cc in
            subst (Valid n rows) g (valid_refutation n rows (without n e.0 ws) a.0 a.1 s)
        | inr a ↦
            let f : (from_equalities n js more (normalised n (without n e.0 ws))).refutation ≡ Some cert = rw a at (rw (e.1, from_equalities) at r) in
            equalities_refuted n rows js more (normalised n (without n e.0 ws)) cert
            (all_normalised (Derived n rows) n (without n e.0 ws) s) f
      ]
  | inr e ↦ let f : (from_columns n js ws).refutation ≡ Some cert = rw (e, from_equalities) at r in
      columns_refuted n rows js ws cert d f
]

-- The whole.

pub rows_solved : (n : ℕ) (rows : List PartRow) (js : List ℕ) (most : ℕ) (ws : List PartRow) → length ws ≤ most → Covers n js → Below n js → AllRows (Derived n rows) ws → (from_rows n js most ws).refutation ≡ None → HasPoint n ws
rows_solved n rows js most ws l c b d r = elim (by_option (refutation_of n ws)) [
  | inl a ↦ let f : Some a.0 ≡ None = rw (a.1, from_rows) at r in cc
  | inr a ↦
      let f : (from_equalities n js most (normalised n ws)).refutation ≡ None = rw (a, from_rows) at r in
      let k : length (normalised n ws) ≤ most = omega (arith, length_normalised n ws) in
      from_normalised n ws (no_refutation n ws a)
      (equalities_solved n rows js most (normalised n ws) k c b (all_normalised (Derived n rows) n ws d) (normalised_variables n ws) f)
]

pub rows_refuted : (n : ℕ) (rows : List PartRow) (js : List ℕ) (most : ℕ) (ws : List PartRow) (cert : List ℤ) → AllRows (Derived n rows) ws → (from_rows n js most ws).refutation ≡ Some cert → Valid n rows cert
rows_refuted n rows js most ws cert d r = elim (by_option (refutation_of n ws)) [
  | inl a ↦ let f : Some a.0 ≡ Some cert = rw (a.1, from_rows) at r in
      let g : a.0 ≡ cert = cc in
      subst (Valid n rows) g (valid_refutation n rows ws a.0 a.1 d)
  | inr a ↦ let f : (from_equalities n js most (normalised n ws)).refutation ≡ Some cert = rw (a, from_rows) at r in
      equalities_refuted n rows js most (normalised n ws) cert (all_normalised (Derived n rows) n ws d) f
]

pub elimination_solved : (n : ℕ) (js : List ℕ) (rows : List PartRow) → AllRows (Wide (n + 1)) rows → Covers n js → Below n js → (elimination n js rows).refutation ≡ None → HasPoint n rows
elimination_solved n js rows w c b r =
    from_started n rows w (rows_solved n rows js (length rows) (started rows) (omega (arith, length_started (length rows) 0 rows)) c b (started_derived n rows w) r)

pub elimination_refuted : (n : ℕ) (js : List ℕ) (rows : List PartRow) (cert : List ℤ) → AllRows (Wide (n + 1)) rows → (elimination n js rows).refutation ≡ Some cert → Valid n rows cert
elimination_refuted n js rows cert w r = rows_refuted n rows js (length rows) (started rows) cert (started_derived n rows w) r
