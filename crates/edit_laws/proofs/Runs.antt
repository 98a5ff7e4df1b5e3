-- The schedules after a script are valid, and the edited SCoP has a run.
use Rattle.std.proofs.Common.{◌≡◌, ℕ, zero, suc, ◌+◌, ◌<◌, ◌≤◌, ◌^◌, true, Some, List, [], ◌∷◌, length, map, pos, ap, sym, subst, ◌∙◌, arith}
use Rattle.std.specs.Prelude.{All, is_none}
use Rattle.std.proofs.lemmas.List.{length-map}
use Rattle.std.proofs.lemmas.List.Elements.{All-head, All-tail}
use Rattle.row_core.specs.Dense.{dense_among}
use Rattle.beta_tree.specs.Vectors.{IsTree}
use Rattle.beta_tree.proofs.Dense.{dense_tree}
use Rattle.beta_tree.proofs.Orders.{and_left, and_right}
use Rattle.scop_data.specs.declared.statements.Statement.{Statement}
use Rattle.scop_core.specs.ScopData.{ScopData, betas_in}
use Rattle.scop_core.specs.Validity.{IsValid}
use Rattle.scop_core.specs.Theorems.{IsStatement, HasValidSchedules}
use Rattle.scop_data.proofs.MappedRuns.{mapped_run_exists}
use Rattle.dependence_systems.specs.Originals.{as_original}
use Rattle.clay_script.specs.declared.commands.Command.{Command}
use Rattle.clay_commands.specs.Drafts.{Draft, betas_of, drafted, draft_after, drafts_after}
use Rattle.clay_commands.specs.Refusals.{condition_of, is_formed}
use Rattle.clay_commands.specs.Spots.{vectors_after}
use Rattle.clay_commands.specs.Afters.{closed_leaf, after_script, IsFormed}
use Rattle.clay_commands.specs.Soundness.{IsSoundLeaf}
use Rattle.clay_commands.proofs.Closings.{can_number, drafted_betas, drafted_sound, apart_closed}
use Rattle.edit_laws.specs.Keeping.{ScriptsKeepSchedulesValid, ScriptsKeepRuns}
use Rattle.edit_laws.proofs.Vectors.{betas_after, long_after}
use Rattle.edit_laws.proofs.Trees.{AreSized, step_sized, step_tree}
use Rattle.edit_laws.proofs.Scripts.{none_is}
use Rattle.edit_laws.proofs.Instances.{scripts_keep_instances, scripts_make_no_ties}

-- the vectors are a tree, each longer by one than the levels
pub record IsPlanted (D : Draft) : Type 0 where
  pub tree : IsTree (betas_of D)
  pub sized : AreSized D

pub length_betas : (D : Draft) → length (betas_of D) ≡ length D
length_betas D = length-map D (λ leaf. leaf.beta)

pub step_planted : (m : ℕ) (command : Command) (D : Draft) → is_none (condition_of m 1 command D) ≡ true → IsPlanted D → length D + 1 < 2 ^ 32 → IsPlanted (draft_after command D)
step_planted m command D h planted few = record {
  tree = subst (λ V. IsTree V) (sym (betas_after command D))
      (step_tree m command D (none_is (condition_of m 1 command D) h) planted.sized planted.tree (omega (arith, length_betas D, few)));
  sized = step_sized command D planted.sized;
}

pub step_long : (command : Command) (D : Draft) → IsPlanted D → length (draft_after command D) ≤ length D + 1
step_long command D planted =
    let long = long_after command (betas_of D) planted.tree.free in
    let now : length (draft_after command D) ≡ length (vectors_after command (betas_of D)) = sym (length_betas (draft_after command D)) ∙ ap length (betas_after command D) in
    omega (arith, long, now, length_betas D)

pub all_planted : (m : ℕ) (script : List Command) (D : Draft) → is_formed m script D ≡ true → IsPlanted D → length D + length script < 2 ^ 32 → IsPlanted (drafts_after script D)
all_planted m [] D h planted few = planted
all_planted m (command ∷ script) D h planted few =
    let first = and_left (is_none (condition_of m 1 command D)) (is_formed m script (draft_after command D)) h in
    let rest = and_right (is_none (condition_of m 1 command D)) (is_formed m script (draft_after command D)) h in
    let long = step_long command D planted in
    all_planted m script (draft_after command D) rest (step_planted m command D first planted (omega (arith, few))) (omega (arith, few, long))

-- at the start

sized_leaves : (m : ℕ) (D : Draft) → All (IsSoundLeaf m) D → AreSized D
sized_leaves m [] all = tt
sized_leaves m (leaf ∷ D) all =
    let own = All-head (IsSoundLeaf m) leaf D all in
    (sym (length-map leaf.beta (λ b. pos b)) ∙ own.shape.schedule.relation.betas, sized_leaves m D (All-tail (IsSoundLeaf m) leaf D all))

pub start_long : (S : ScopData) → length (drafted S) ≡ length S.statements
start_long S =
    sym (length_betas (drafted S)) ∙ ap length (drafted_betas S) ∙ length-map (betas_in S.statements) (dense_among (betas_in S.statements)) ∙ length-map S.statements (λ s. s.schedule.betas)

pub start_planted : (S : ScopData) → IsValid S → IsPlanted (drafted S)
start_planted S valid =
    let can = can_number S valid in
    record {
      tree = subst (λ V. IsTree V) (sym (drafted_betas S)) (dense_tree (betas_in S.statements) can.few can.filled can.free);
      sized = sized_leaves S.context.shape.parameters (drafted S) (drafted_sound S valid).leaves;
    }

pub script_planted : (S : ScopData) (script : List Command) → IsValid S → IsFormed S script → length S.statements + length script < 2 ^ 32 → IsPlanted (drafts_after script (drafted S))
script_planted S script valid formed few =
    all_planted S.context.shape.parameters script (drafted S) formed (start_planted S valid) (omega (arith, few, start_long S))

-- valid schedules

same_statement : (s t : Statement) → Some s ≡ Some t → s ≡ t
same_statement s t e = cc

closed_sized : (D : Draft) (k : ℕ) (s : Statement) → AreSized D → IsStatement (map closed_leaf D) k s → length s.schedule.betas ≡ length s.schedule.levels + 1
closed_sized D zero s h is = absurd (cc)
closed_sized [] (suc k) s h is = absurd (cc)
closed_sized (leaf ∷ D) (suc zero) s h is =
    subst (λ t. length t.schedule.betas ≡ length t.schedule.levels + 1) (same_statement (closed_leaf leaf) s is) (length-map leaf.beta (λ b. pos b) ∙ h.0)
closed_sized (leaf ∷ D) (suc (suc k)) s h is = closed_sized D (suc k) s h.1 is

pub planted_valid : (D : Draft) → IsPlanted D → HasValidSchedules (map closed_leaf D)
planted_valid D planted = record { sizes = λ k s is. closed_sized D k s planted.sized is; apart = apart_closed D planted.tree.free }

pub scripts_keep_schedules_valid : ScriptsKeepSchedulesValid
scripts_keep_schedules_valid S script valid formed few = planted_valid (drafts_after script (drafted S)) (script_planted S script valid formed few)

pub scripts_keep_runs : ScriptsKeepRuns
scripts_keep_runs S script valid formed few n L en run =
    let T = (after_script S script).scop in
    let good = scripts_keep_schedules_valid S script valid formed few in
    mapped_run_exists T S n (as_original (after_script S script).of) L ((scripts_keep_instances S script valid formed).instances n en) run good
    (scripts_make_no_ties S script valid formed good n L en run)
