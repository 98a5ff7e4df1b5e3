-- A dependence has at most 25 violations, so that all numbers of violations are below 2^32.
use Rattle.std.proofs.Common.{◌≡◌, ℕ, zero, suc, ◌≤◌, ◌<◌, ◌+◌, slice_index_or, ℤ, Bool, true, false, if◌then◌else◌, List, [], ◌∷◌, ◌++◌, length, ap, sym, subst, arith}
use Rattle.std.proofs.lemmas.List.{length-append}
use Rattle.std.proofs.lemmas.List.FromFn.{length-range_with_len}
use Rattle.std.specs.List.{range_with_len}
use Rattle.std.specs.Ordering.{int_eq}
use Rattle.scop_core.specs.LevelOrder.{common_loops, is_textually_before, levels_between}
use Rattle.scop_core.specs.KeptLimits.{StatementKeepsLimits}
use Rattle.scop_core.specs.Sequences.{In}
use Rattle.scop_core.proofs.KeptLimits.{keeps_limits}
use Rattle.dependence_systems.specs.declared.dependences.Dep.{Dep}
use Rattle.dependence_systems.specs.Sides.{schedule_in, sides}
use Rattle.dependence_systems.proofs.EntryFound.{listed_entry}
use Rattle.dependence_systems.proofs.Pairs.{all_member}
use Rattle.legality.specs.Edits.{IsEdit}
use Rattle.legality.specs.Violations.{Edit, dependences, new_levels, new_schedule}
use Rattle.legality.proofs.ReversedPairs.{Statements}
use Rattle.legality.proofs.ReadyEntries.{statements_in, can_build}
use Rattle.legality.proofs.Answered.{entry_in}

-- a list of n + 1 betas has at most n loops, and at most n + 1 levels
one_loop_more : (t : Bool) (k n : ℕ) → k ≤ n → (if t then suc k else 0) ≤ suc n
one_loop_more true k n h = omega (arith, h)
one_loop_more false k n h = omega arith

few_loops : (p q : List ℤ) (n : ℕ) → length p ≤ n + 1 → common_loops p q ≤ n
few_loops [] q n h = omega arith
few_loops (b ∷ []) q n h = omega arith
few_loops (b ∷ (b' ∷ p)) [] n h = omega arith
few_loops (b ∷ (b' ∷ p)) (c ∷ []) n h = omega arith
few_loops (b ∷ (b' ∷ p)) (c ∷ (c' ∷ q)) zero h = absurd (omega (arith, h))
few_loops (b ∷ (b' ∷ p)) (c ∷ (c' ∷ q)) (suc n) h =
    one_loop_more (int_eq b c) (common_loops (b' ∷ p) (c' ∷ q)) n (few_loops (b' ∷ p) (c' ∷ q) n (omega (arith, h)))

at_most_one : (t : Bool) → length {A = ℕ} (if t then 0 ∷ [] else []) ≤ 1
at_most_one true = omega arith
at_most_one false = omega arith

few_between : (p q : List ℤ) (n : ℕ) → length p ≤ n + 1 → length (levels_between p q) ≤ n + 1
few_between p q n h =
    let both = length-append (range_with_len 1 (common_loops p q)) (if is_textually_before p q then 0 ∷ [] else []) in
    let one = at_most_one (is_textually_before p q) in
    let loops = few_loops p q n h in
    omega (arith, both, length-range_with_len 1 (common_loops p q), one, loops)

-- a statement has at most 24 loops, so a dependence has at most 25 levels
few_levels : (E : Edit) → IsEdit E → (e : Dep) → In e (dependences E) → length (new_levels E e) ≤ 25
few_levels E edit e listed =
    let t : Statements E e = statements_in E edit e (listed_entry (sides E.old E.now E.of) e listed) in
    let kept : StatementKeepsLimits t.target = all_member StatementKeepsLimits E.now.statements e.target t.target t.target_is (keeps_limits E.now edit.now_valid).each in
    let levels : length (new_schedule E e.target).levels ≤ 24 = subst (λ z. length z.levels ≤ 24) (sym (ap schedule_in t.target_is)) kept.levels in
    let betas : length (new_schedule E e.target).betas ≡ length (new_schedule E e.target).levels + 1 = (can_build E edit e listed).new_fit.target_betas in
    few_between (new_schedule E e.target).betas (new_schedule E e.source).betas 24 (omega (arith, levels, betas))

-- so has the one at place i of the list
pub few_at : (E : Edit) → IsEdit E → (list : List Dep) (i : ℕ) (d : Dep) → list ≡ dependences E → i < length list
    → (levels : List ℕ) → levels ≡ new_levels E (slice_index_or list i d) → length levels ≤ 25
few_at E edit list i d is h levels listed =
    subst (λ z. length z ≤ 25) (sym listed) (few_levels E edit (slice_index_or list i d) (entry_in E list i d is h))
