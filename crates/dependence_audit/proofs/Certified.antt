-- The test of a certificate as the definition has it, and what the check of certificates answers.
use Rattle.std.proofs.Common.{◌≡◌, ◌≢◌, true≢false, refl, ap, sym, ◌∙◌, inl, inr, ℕ, zero, suc, ◌+◌, ◌<◌, ◌^◌, ◌==◌, List, [], ◌∷◌, length, Bool, true, false, ◌&&◌, arith}
use Rattle.std.specs.Prelude.{ℤ, pos, ◌<ℤ◌, nat_le, int_le, int_lt, IsTrue, ◌↔◌, Some}
use Rattle.std.specs.Ordering.{int_eq}
use Rattle.std.proofs.lemmas.Bool.{le-leb, leb-true, eqb-true, eqb-false, and_parts}
use Rattle.std.proofs.lemmas.Int.{ints}
use Rattle.std.proofs.lemmas.Bool.Decides.{Decides-int_eq, Decides-eqb}
use Rattle.suite_base.proofs.LineCuts.{bool_tells}
use Rattle.relation_core.specs.Systems.{System, columns}
use Rattle.relation_core.specs.Points.{column, column_weight}
use Rattle.relation_core.specs.declared.part_rows.PartRow.{PartRow}
use Rattle.relation_core.specs.declared.part_rows.RowKind.{RowKind}
use Rattle.relation_core.specs.declared.part_rows.RowKind.TheVariants.{Equal, AtLeast}
use Rattle.farkas_cert.specs.Certificates.{AllowedOne, Allowed, Valid, IsTooHeavy}
use Rattle.dependence_audit.specs.declared.readings.Finding.TheVariants as finding
use Rattle.dependence_audit.specs.Readings.{may_multiply, are_allowed, each_below, some_below, is_valid, is_heavy, judged, IsFound}

both : (a b : Bool) → a ≡ true → b ≡ true → (a && b) ≡ true
both a b e f = rw (e, f) refl

-- ---- each multiplier is allowed

one_allowed : (kind : RowKind) (l : ℤ) → may_multiply kind l ≡ true → AllowedOne kind l
one_allowed Equal l e = tt
one_allowed AtLeast l e = omega (arith, ints)

allowed_one : (kind : RowKind) (l : ℤ) → AllowedOne kind l → may_multiply kind l ≡ true
allowed_one Equal l h = refl
allowed_one AtLeast l h = elim (bool_tells (int_le (pos 0) l)) [ inl e ↦ e | inr e ↦ absurd (omega (arith, ints)) ]

all_allowed : (rows : List PartRow) (ls : List ℤ) → are_allowed rows ls ≡ true → Allowed rows ls
all_allowed [] [] e = tt
all_allowed [] (l ∷ ls) e = absurd cc
all_allowed (row ∷ rows) [] e = absurd cc
all_allowed (row ∷ rows) (l ∷ ls) e =
    let parts = and_parts (may_multiply row.kind l) (are_allowed rows ls) e in
    (one_allowed row.kind l parts.0, all_allowed rows ls parts.1)

allowed_all : (rows : List PartRow) (ls : List ℤ) → Allowed rows ls → are_allowed rows ls ≡ true
allowed_all [] [] h = refl
allowed_all [] (l ∷ ls) h = absurd h
allowed_all (row ∷ rows) [] h = absurd h
allowed_all (row ∷ rows) (l ∷ ls) h = both _ _ (allowed_one row.kind l h.0) (allowed_all rows ls h.1)

-- ---- tests below a number

each_passes : (n : ℕ) (test : ℕ → Bool) → each_below n test ≡ true → (k : ℕ) → k < n → test k ≡ true
each_passes zero test e k h = absurd (omega arith)
each_passes (suc n) test e k h =
    let parts = and_parts (test n) (each_below n test) e in
    elim (bool_tells (k == n)) [
      | inl same ↦ ap test (eqb-true k n same) ∙ parts.0
      | inr other ↦ let apart : k ≢ n = eqb-false k n other in each_passes n test parts.1 k (omega arith)
    ]

passes_each : (n : ℕ) (test : ℕ → Bool) → ((k : ℕ) → k < n → test k ≡ true) → each_below n test ≡ true
passes_each zero test h = refl
passes_each (suc n) test h = both _ _ (h n (omega arith)) (passes_each n test (λ k less. h k (omega arith)))

pub record PassesBelow (n : ℕ) (test : ℕ → Bool) : Type 0 where
  pub at : ℕ
  pub within : at < n
  pub passes : test at ≡ true

some_passes : (n : ℕ) (test : ℕ → Bool) → some_below n test ≡ true → PassesBelow n test
some_passes zero test e = absurd cc
some_passes (suc n) test e =
    elim (bool_tells (test n)) [
      | inl here ↦ record { at = n; within = omega arith; passes = here }
      | inr fails ↦
          let more : some_below n test ≡ true = rw fails at e in
          let found = some_passes n test more in
          record { at = found.at; within = omega (arith, found.within); passes = found.passes }
    ]

passes_some : (n : ℕ) (test : ℕ → Bool) (k : ℕ) → k < n → test k ≡ true → some_below n test ≡ true
passes_some zero test k h e = absurd (omega arith)
passes_some (suc n) test k h e =
    elim (bool_tells (test n)) [
      | inl here ↦ rw here refl
      | inr fails ↦
          elim (bool_tells (k == n)) [
            | inl same ↦ absurd (true≢false (sym (ap test (sym (eqb-true k n same)) ∙ e) ∙ fails))
            | inr other ↦ let apart : k ≢ n = eqb-false k n other in rw fails (passes_some n test k (omega arith) e)
          ]
    ]

-- ---- the whole certificate

lt_right : (z : ℤ) → int_lt z (pos 0) ≡ true → z <ℤ pos 0
lt_right z h = omega (arith, ints)

pub valid_tells : (system : System) (ls : List ℤ) → is_valid system ls ≡ true → Valid (columns system.shape) system.rows ls
valid_tells system ls e =
    let zero_at = λ (k : ℕ). int_eq (column ls system.rows k) (pos 0) in
    let outer = and_parts (are_allowed system.rows ls) (each_below (columns system.shape) zero_at && int_lt (column ls system.rows (columns system.shape)) (pos 0)) e in
    let inner = and_parts (each_below (columns system.shape) zero_at) (int_lt (column ls system.rows (columns system.shape)) (pos 0)) outer.1 in
    record {
      allowed = all_allowed system.rows ls outer.0;
      cleared = λ k h. (Decides-int_eq (column ls system.rows k) (pos 0)).0 (each_passes (columns system.shape) zero_at inner.0 k h);
      contradicts = lt_right (column ls system.rows (columns system.shape)) inner.1;
    }

negative_tells : (z : ℤ) → z <ℤ pos 0 → int_lt z (pos 0) ≡ true
negative_tells z h = elim (bool_tells (int_lt z (pos 0))) [ inl e ↦ e | inr e ↦ absurd (omega (arith, ints)) ]

pub valid_is : (system : System) (ls : List ℤ) → Valid (columns system.shape) system.rows ls → is_valid system ls ≡ true
valid_is system ls v =
    both _ _ (allowed_all system.rows ls v.allowed)
    (both _ _ (passes_each (columns system.shape) _ (λ k h. (Decides-int_eq (column ls system.rows k) (pos 0)).1 (v.cleared k h)))
    (negative_tells (column ls system.rows (columns system.shape)) v.contradicts))

pub heavy_is : (system : System) (ls : List ℤ) → IsTooHeavy (columns system.shape) system.rows ls → is_heavy system ls ≡ true
heavy_is system ls h =
    both _ _ ((Decides-eqb (length ls) (length system.rows)).1 h.lengths)
    (passes_some (columns system.shape + 1) _ h.column.at h.column.within (le-leb (2 ^ 127) (column_weight ls system.rows h.column.at) h.column.heavy))

pub heavy_tells : (system : System) (ls : List ℤ) → is_heavy system ls ≡ true → IsTooHeavy (columns system.shape) system.rows ls
heavy_tells system ls e =
    let test = λ (k : ℕ). nat_le (2 ^ 127) (column_weight ls system.rows k) in
    let parts = and_parts (length ls == length system.rows) (some_below (columns system.shape + 1) test) e in
    let found = some_passes (columns system.shape + 1) test parts.1 in
    record {
      lengths = eqb-true (length ls) (length system.rows) parts.0;
      column = record { at = found.at; within = found.within; heavy = leb-true (2 ^ 127) (column_weight ls system.rows found.at) found.passes };
    }

-- a test that does not pass where its meaning does not hold
none_passes : (b : Bool) (P : Type 0) → (b ≡ true → P) → (P → ⊥) → b ≡ false
none_passes b P f never = elim (bool_tells b) [ inl e ↦ absurd (never (f e)) | inr e ↦ e ]

pub not_heavy : (system : System) (ls : List ℤ) → (IsTooHeavy (columns system.shape) system.rows ls → ⊥) → is_heavy system ls ≡ false
not_heavy system ls never = none_passes (is_heavy system ls) _ (heavy_tells system ls) never

pub not_valid : (system : System) (ls : List ℤ) → (Valid (columns system.shape) system.rows ls → ⊥) → is_valid system ls ≡ false
not_valid system ls never = none_passes (is_valid system ls) _ (valid_tells system ls) never

-- ---- what is found of a dropped entry

pub found_heavy : (system : System) (ls : List ℤ) → IsTooHeavy (columns system.shape) system.rows ls
    → (lines : List (List ℕ)) → IsFound (judged system (Some ls) lines) finding.Heavy lines
found_heavy system ls h lines = rw (heavy_is system ls h) tt

pub found_valid : (system : System) (ls : List ℤ) (answer : Bool) → answer ≡ true → (IsTrue answer ↔ Valid (columns system.shape) system.rows ls)
    → (IsTooHeavy (columns system.shape) system.rows ls → ⊥) → (lines : List (List ℕ)) → IsFound (judged system (Some ls) lines) finding.Dropped lines
found_valid system ls answer e same light lines = rw (not_heavy system ls light, valid_is system ls (same.0 e)) refl

pub found_wrong : (system : System) (ls : List ℤ) (answer : Bool) → answer ≡ false → (IsTrue answer ↔ Valid (columns system.shape) system.rows ls)
    → (IsTooHeavy (columns system.shape) system.rows ls → ⊥) → (lines : List (List ℕ)) → IsFound (judged system (Some ls) lines) finding.Wrong lines
found_wrong system ls answer e same light lines =
    rw (not_heavy system ls light, not_valid system ls (λ v. true≢false (sym (same.1 v) ∙ e))) tt
