-- The leaves along a script of which no condition fails.
use Rattle.std.proofs.Common.{◌≡◌, ℕ, zero, suc, ◌+◌, Bool, true, false, not, ◌||◌, if◌then◌else◌, Option, Some, None, List, [], ◌∷◌, length, ℤ, refl, ap, sym, ◌∙◌, append-nil, arith}
use Rattle.std.specs.Prelude.{slice_get, All, IsSomeAnd, is_none}
use Rattle.std.proofs.lemmas.List.{length-map}
use Rattle.std.proofs.lemmas.List.Elements.{All-head, All-tail}
use Rattle.suite_base.specs.declared.refusals.Refusal.{Refusal}
use Rattle.suite_base.specs.declared.refusals.Refusal.TheVariants as refusal
use Rattle.beta_tree.specs.Vectors.{no_statement, dense_of}
use Rattle.row_core.specs.Dense.{dense_among}
use Rattle.beta_tree.proofs.Orders.{and_left, and_right}
use Rattle.scop_data.specs.declared.affines.Affine.{Affine}
use Rattle.scop_data.specs.declared.statements.Statement.{Statement}
use Rattle.scop_core.specs.ScopData.{ScopData, betas_in}
use Rattle.scop_core.specs.SolvedRows.{HasSizes}
use Rattle.scop_core.specs.Shapes.{IsShapedStatement}
use Rattle.scop_core.specs.Validity.{IsValid}
use Rattle.scop_core.specs.Meaning.{InDomain, floors_after, statement_at}
use Rattle.scop_core.proofs.ScopShapes.{scops_are_shaped}
use Rattle.dependence_systems.specs.Sides.{member}
use Rattle.clay_script.specs.declared.commands.Command.{Command}
use Rattle.clay_script.specs.Commands.{prefix_of}
use Rattle.clay_commands.specs.Arguments.{are_natural, prefix_in}
use Rattle.clay_commands.specs.Drafts.{Draft, betas_of, leaves_from, drafted, draft_after, drafts_after}
use Rattle.clay_commands.specs.Refusals.{condition_under, condition_of, is_formed}
use Rattle.clay_commands.specs.Steps.{AllUnder}
use Rattle.edit_laws.proofs.Levels.{AreWide}
use Rattle.edit_laws.proofs.Pieces.{Fits, fits}
use Rattle.edit_laws.proofs.Comes.{ComesFrom, AllHave, step_has}
use Rattle.edit_laws.proofs.Once.{Only, step_only, only_from}

pub none_is : (o : Option Refusal) → is_none o ≡ true → o ≡ None
none_is None h = refl
none_is (Some r) h = absurd (cc)

-- no condition fails, so none behind NoBeta does
under_condition : (b : Bool) (o : Option Refusal) (r : Refusal) → (if b then Some r else o) ≡ None → o ≡ None
under_condition true o r h = absurd (cc)
under_condition false o r h = h

pub step_fits : (parameters : ℕ) (command : Command) (D : Draft) → is_none (condition_of parameters 1 command D) ≡ true → AllUnder (prefix_in command) (Fits parameters command) D
step_fits m command D h =
    fits m 1 command (prefix_in command) D
    (under_condition (not (are_natural (prefix_of command)) || no_statement (prefix_in command) (betas_of D)) (condition_under m 1 command (prefix_in command) D) (refusal.NoBeta 1)
    (none_is (condition_of m 1 command D) h))

pub all_have : (parameters : ℕ) (old : List Statement) (script : List Command) (D : Draft) → is_formed parameters script D ≡ true → AllHave old D → AllHave old (drafts_after script D)
all_have m old [] D h have = have
all_have m old (command ∷ script) D h have =
    let first = and_left (is_none (condition_of m 1 command D)) (is_formed m script (draft_after command D)) h in
    let rest = and_right (is_none (condition_of m 1 command D)) (is_formed m script (draft_after command D)) h in
    all_have m old script (draft_after command D) rest (step_has m command old D (step_fits m command D first) have)

pub all_only : (parameters j : ℕ) (x n : List ℤ) (script : List Command) (D : Draft) → length n ≡ parameters → is_formed parameters script D ≡ true → Only j x n D → Only j x n (drafts_after script D)
all_only m j x n [] D en h only = only
all_only m j x n (command ∷ script) D en h only =
    let first = and_left (is_none (condition_of m 1 command D)) (is_formed m script (draft_after command D)) h in
    let rest = and_right (is_none (condition_of m 1 command D)) (is_formed m script (draft_after command D)) h in
    all_only m j x n script (draft_after command D) en rest (step_only m j x n command D en (step_fits m command D first) only)

-- at the start

wide_levels : (d m p : ℕ) (levels : List Affine) → All (HasSizes d m p) levels → AreWide m levels
wide_levels d m p [] all = tt
wide_levels d m p (form ∷ levels) all = ((All-head (HasSizes d m p) form levels all).floors_are, wide_levels d m p levels (All-tail (HasSizes d m p) form levels all))

from_itself : (s : Statement) → AreWide (length s.schedule.floors) s.schedule.levels → ComesFrom s s
from_itself s w = record {
  piece = record { body = refl; accesses = refl; floors = λ x n. ([], sym (append-nil (floors_after [] s.schedule.floors x n))) };
  domain = λ x n h. h;
  wide = w;
  back = λ x y n e. e;
}

have_from : (old : List Statement) (m k : ℕ) (V : List (List ℕ)) (statements : List Statement) → ((i : ℕ) → member old (k + i) ≡ slice_get statements i)
    → All (IsShapedStatement m) statements → AllHave old (leaves_from k V statements)
have_from old m k [] statements at shaped = tt
have_from old m k (v ∷ V) [] at shaped = tt
have_from old m k (v ∷ V) (s ∷ statements) at shaped =
    let own = All-head (IsShapedStatement m) s statements shaped in
    let here : k ≡ k + 0 = omega arith in (
      record {
        original = s;
        named = ap (λ j. member old j) here ∙ at 0;
        comes = from_itself s (wide_levels (length s.body.iterators) (length s.schedule.floors) m s.schedule.levels own.schedule.relation.levels);
      },
      have_from old m (k + 1) V statements (λ i. ap (λ j. member old j) (shift k i) ∙ at (suc i)) (All-tail (IsShapedStatement m) s statements shaped),
    )
  where
    shift : (k i : ℕ) → (k + 1) + i ≡ k + suc i
    shift k i = omega arith

pub start_has : (S : ScopData) → IsValid S → AllHave S.statements (drafted S)
start_has S valid =
    have_from S.statements S.context.shape.parameters 1 (dense_of (betas_in S.statements)) S.statements (λ i. ap (λ j. member S.statements j) (first i)) (scops_are_shaped S valid).statements
  where
    first : (i : ℕ) → 1 + i ≡ suc i
    first i = omega arith

pub start_only : (S : ScopData) (j : ℕ) (x n : List ℤ) → IsSomeAnd (statement_at S.statements j) (λ s. InDomain s x n) → Only j x n (drafted S)
start_only S zero x n h = absurd h
start_only S (suc i) x n h =
    only_from (suc i) x n 1 (dense_of (betas_in S.statements)) S.statements i
    (length-map (betas_in S.statements) (dense_among (betas_in S.statements)) ∙ length-map S.statements (λ s. s.schedule.betas)) (omega arith) h
