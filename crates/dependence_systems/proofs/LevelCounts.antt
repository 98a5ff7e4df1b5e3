-- A level is one of both schedules.
use Rattle.std.proofs.Common.{◌≡◌, ℕ, zero, suc, ◌-◌, ◌<◌, ◌≤◌, List, length, ℤ, refl, ap, ◌∙◌, arith}
use Rattle.scop_data.specs.declared.affines.Affine.{Affine}
use Rattle.scop_data.specs.declared.schedules.Schedule.{Schedule}
use Rattle.scop_core.specs.LevelOrder.{common_loops, IsLevel}
use Rattle.dependence_systems.specs.declared.widths.Widths.{Widths}
use Rattle.dependence_systems.specs.Fits.{SchedulesFit}
use Rattle.dependence_systems.proofs.SystemRows.{common_levels}

pub count_source : (w : Widths) (parameters : ℕ) (s t : Schedule) (p q : List ℤ) (xs : List Affine) (k : ℕ) → SchedulesFit w parameters s t
    → k ≡ common_loops p q → p ≡ s.betas → q ≡ t.betas → xs ≡ s.levels → k ≤ length xs
count_source w parameters s t p q xs k fits e ep eq el =
    let below = (common_levels w parameters s t fits).0 in
    let same : common_loops p q ≡ common_loops s.betas t.betas = ap (λ z. common_loops z q) ep ∙ ap (λ z. common_loops s.betas z) eq in
    omega (arith, e, same, below, ap length el)

pub count_target : (w : Widths) (parameters : ℕ) (s t : Schedule) (p q : List ℤ) (xs : List Affine) (k : ℕ) → SchedulesFit w parameters s t
    → k ≡ common_loops p q → p ≡ s.betas → q ≡ t.betas → xs ≡ t.levels → k ≤ length xs
count_target w parameters s t p q xs k fits e ep eq el =
    let below = (common_levels w parameters s t fits).1 in
    let same : common_loops p q ≡ common_loops s.betas t.betas = ap (λ z. common_loops z q) ep ∙ ap (λ z. common_loops s.betas z) eq in
    omega (arith, e, same, below, ap length el)

pub level_source : (w : Widths) (parameters : ℕ) (s t : Schedule) (xs : List Affine) (level : ℕ) → SchedulesFit w parameters s t → IsLevel s.betas t.betas level
    → (level ≡ 0 → ⊥) → xs ≡ s.levels → level - 1 < length xs
level_source w parameters s t xs zero fits is_level some e = absurd (some refl)
level_source w parameters s t xs (suc j) fits is_level some e =
    let below = (common_levels w parameters s t fits).0 in
    omega (arith, is_level, below, ap length e)

pub level_target : (w : Widths) (parameters : ℕ) (s t : Schedule) (xs : List Affine) (level : ℕ) → SchedulesFit w parameters s t → IsLevel s.betas t.betas level
    → (level ≡ 0 → ⊥) → xs ≡ t.levels → level - 1 < length xs
level_target w parameters s t xs zero fits is_level some e = absurd (some refl)
level_target w parameters s t xs (suc j) fits is_level some e =
    let below = (common_levels w parameters s t fits).1 in
    omega (arith, is_level, below, ap length e)
