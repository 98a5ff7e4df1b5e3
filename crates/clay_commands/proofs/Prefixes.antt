-- A prefix that fits 32 bits and has statements, and one that doesn't.
use Rattle.std.proofs.Common.{◌≡◌, ℕ, ◌^◌, nat_lt, Bool, true, false, not, ◌||◌, ◌&&◌, if◌then◌else◌, inl, inr, Option, Some, List, [], ◌∷◌, ◌++◌, map, ℤ, pos, negsuc, refl, ap, sym, ◌∙◌, subst, arith}
use Rattle.std.proofs.lemmas.Bool.{ltb-false}
use Rattle.suite_base.specs.declared.refusals.Refusal.{Refusal}
use Rattle.suite_base.specs.declared.refusals.Refusal.TheVariants as refusal
use Rattle.beta_tree.specs.Vectors.{no_statement, Fit, IsTree}
use Rattle.beta_tree.proofs.Places.{bool_tells, from_In-under}
use Rattle.beta_tree.proofs.Trees.{some_under, fit_of_tree}
use Rattle.scop_core.specs.Assembly.{or_else}
use Rattle.clay_script.specs.declared.commands.Command.{Command}
use Rattle.clay_script.specs.Commands.{prefix_of}
use Rattle.clay_commands.specs.Arguments.{natural, are_natural, prefix_in, all_fit}
use Rattle.clay_commands.specs.Drafts.{Draft, betas_of}
use Rattle.clay_commands.specs.Refusals.{condition_under, limit_of, overflow_of, refusal_at}
use Rattle.clay_commands.specs.Steps.{refusal_under}
use Rattle.clay_commands.specs.Soundness.{IsStep, IsCommandStep}
use Rattle.clay_commands.proofs.Clamps.{fit_natural}

unfit_vector : (zs : List ℤ) (w : List ℕ) → are_natural zs ≡ true → Fit (map natural zs ++ w) → all_fit zs ≡ true
unfit_vector [] w n f = refl
unfit_vector (negsuc z ∷ zs) w n f = absurd (cc)
unfit_vector (pos z ∷ zs) w n f =
    elim (bool_tells (nat_lt z (2 ^ 32))) [
      | inl t ↦ ap (λ b. b && all_fit zs) t ∙ unfit_vector zs w n f.1
      | inr h ↦ absurd (let l = ltb-false z (2 ^ 32) h in let m = f.0 in omega arith)
    ]

nothing_under : (zs : List ℤ) (V : List (List ℕ)) → IsTree V → are_natural zs ≡ true → all_fit zs ≡ false → no_statement (map natural zs) V ≡ true
nothing_under zs V t n f =
    elim (bool_tells (no_statement (map natural zs) V)) [
      | inl y ↦ y
      | inr s ↦
          let (w, i) = some_under (map natural zs) V s in
          let fit = unfit_vector zs w n (fit_of_tree (map natural zs ++ w) V t (from_In-under (map natural zs) w V i)) in
          absurd (let both : true ≡ false = sym fit ∙ f in cc)
    ]

-- the refusal by the test of the prefix
abbrev by_prefix : ℕ → ℕ → Command → Draft → Bool → Option Refusal
by_prefix parameters i command D t =
    or_else (if t then Some (refusal.NoBeta i) else condition_under parameters i command (prefix_in command) D) (or_else (limit_of i command D) (overflow_of i command D))

pub unfit_prefix : (parameters i : ℕ) (command : Command) (D : Draft) → IsTree (betas_of D) → all_fit (prefix_of command) ≡ false
    → refusal_at parameters i command D ≡ Some (refusal.NoBeta i)
unfit_prefix parameters i command D t f =
    elim (bool_tells (are_natural (prefix_of command))) [
      | inr s ↦ ap (λ b. by_prefix parameters i command D (not b || no_statement (prefix_in command) (betas_of D))) s
      | inl n ↦
          ap (λ b. by_prefix parameters i command D (not b || no_statement (prefix_in command) (betas_of D))) n
          ∙ ap (λ b. by_prefix parameters i command D b) (nothing_under (prefix_of command) (betas_of D) t n f)
    ]

pub no_prefix : (parameters i : ℕ) (command : Command) (P : List ℕ) (D : Draft) → P ≡ map natural (prefix_of command) → all_fit (prefix_of command) ≡ true
    → no_statement P (betas_of D) ≡ true → refusal_at parameters i command D ≡ Some (refusal.NoBeta i)
no_prefix parameters i command P D e f s =
    let own : no_statement (prefix_in command) (betas_of D) ≡ true = subst (λ Q. no_statement Q (betas_of D) ≡ true) e s in
    ap (λ b. by_prefix parameters i command D (not b || no_statement (prefix_in command) (betas_of D))) (fit_natural (prefix_of command) f)
    ∙ ap (λ b. by_prefix parameters i command D b) own

pub under_prefix : (parameters i : ℕ) (command : Command) (P : List ℕ) (D : Draft) → P ≡ map natural (prefix_of command) → all_fit (prefix_of command) ≡ true
    → no_statement P (betas_of D) ≡ false → refusal_at parameters i command D ≡ refusal_under parameters i command P D
under_prefix parameters i command P D e f s =
    let own : no_statement (prefix_in command) (betas_of D) ≡ false = subst (λ Q. no_statement Q (betas_of D) ≡ false) e s in
    ap (λ b. by_prefix parameters i command D (not b || no_statement (prefix_in command) (betas_of D))) (fit_natural (prefix_of command) f)
    ∙ ap (λ b. by_prefix parameters i command D b) own ∙ sym (ap (λ Q. refusal_under parameters i command Q D) e)

pub step_of_command : (parameters i : ℕ) (command : Command) (P : List ℕ) (D E : Draft) (V : List (List ℕ)) → P ≡ map natural (prefix_of command) → all_fit (prefix_of command) ≡ true
    → no_statement P (betas_of D) ≡ false → IsStep parameters i command D E V → IsCommandStep parameters i command D E V
step_of_command parameters i command P D E V e f s step = record {
  unrefused = under_prefix parameters i command P D e f s ∙ ap (λ Q. refusal_under parameters i command Q D) e ∙ step.unrefused;
  draft = step.draft;
  vectors = step.vectors;
}
