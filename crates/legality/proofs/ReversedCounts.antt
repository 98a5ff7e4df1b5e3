-- The levels that the rows of a new level speak of are there.
use Rattle.std.proofs.Common.{◌≡◌, ℕ, zero, suc, ◌-◌, ◌<◌, ◌≤◌, List, length, ℤ, refl, ap, ◌∙◌, arith}
use Rattle.scop_data.specs.declared.affines.Affine.{Affine}
use Rattle.scop_data.specs.declared.schedules.Schedule.{Schedule}
use Rattle.scop_core.specs.LevelOrder.{common_loops, IsLevel}
use Rattle.dependence_systems.specs.declared.widths.Widths.{Widths}
use Rattle.dependence_systems.specs.Fits.{SchedulesFit}
use Rattle.legality.proofs.ReversedRows.{common}

-- as many levels as loops in common
pub source_count : (w : Widths) (parameters : ℕ) (s t : Schedule) (ps qs : List ℤ) (sources : List Affine) (count : ℕ) → SchedulesFit w parameters s t
    → count ≡ common_loops ps qs → ps ≡ t.betas → qs ≡ s.betas → sources ≡ s.levels → count ≤ length sources
source_count w parameters s t ps qs sources count fits e ep eq es =
    let most = common w parameters s t fits in
    let same : count ≡ common_loops t.betas s.betas = e ∙ (ap (λ p. common_loops p qs) ep ∙ ap (λ q. common_loops t.betas q) eq) in
    omega (arith, most.source, same, ap length es)

pub target_count : (w : Widths) (parameters : ℕ) (s t : Schedule) (ps qs : List ℤ) (targets : List Affine) (count : ℕ) → SchedulesFit w parameters s t
    → count ≡ common_loops ps qs → ps ≡ t.betas → qs ≡ s.betas → targets ≡ t.levels → count ≤ length targets
target_count w parameters s t ps qs targets count fits e ep eq et =
    let most = common w parameters s t fits in
    let same : count ≡ common_loops t.betas s.betas = e ∙ (ap (λ p. common_loops p qs) ep ∙ ap (λ q. common_loops t.betas q) eq) in
    omega (arith, most.target, same, ap length et)

-- a level that is not 0 is one of the loops in common
within : (s t : Schedule) (level : ℕ) → IsLevel t.betas s.betas level → (level ≡ 0 → ⊥) → level - 1 < common_loops t.betas s.betas
within s t zero h e = absurd (e refl)
within s t (suc k) h e = omega (arith, h)

pub source_place : (w : Widths) (parameters : ℕ) (s t : Schedule) (sources : List Affine) (level : ℕ) → SchedulesFit w parameters s t
    → IsLevel t.betas s.betas level → (level ≡ 0 → ⊥) → sources ≡ s.levels → level - 1 < length sources
source_place w parameters s t sources level fits h e es =
    let most = common w parameters s t fits in
    let below = within s t level h e in
    omega (arith, most.source, ap length es)

pub target_place : (w : Widths) (parameters : ℕ) (s t : Schedule) (targets : List Affine) (level : ℕ) → SchedulesFit w parameters s t
    → IsLevel t.betas s.betas level → (level ≡ 0 → ⊥) → targets ≡ t.levels → level - 1 < length targets
target_place w parameters s t targets level fits h e et =
    let most = common w parameters s t fits in
    let below = within s t level h e in
    omega (arith, most.target, ap length et)
