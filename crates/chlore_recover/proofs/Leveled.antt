-- Commands on levels under one prefix, on drafts.
use Rattle.std.proofs.Common.{◌≡◌, ℕ, ◌+◌, Bool, true, false, if◌then◌else◌, None, List, [], ◌∷◌, map, refl, sym, ◌∙◌, ap, subst}
use Rattle.beta_tree.specs.Vectors.{no_statement}
use Rattle.scop_core.specs.Assembly.{or_else}
use Rattle.clay_script.specs.declared.commands.Command.{Command}
use Rattle.clay_commands.specs.declared.leaves.Leaf.{Leaf}
use Rattle.clay_commands.specs.Arguments.{natural, are_natural, prefix_in}
use Rattle.clay_commands.specs.Drafts.{Draft, betas_of, is_under, forms_after, scheduled, draft_after, drafts_after}
use Rattle.clay_commands.specs.Refusals.{refusal_at, first_refusal}
use Rattle.clay_commands.specs.Steps.{AllUnder, changed}
use Rattle.clay_commands.proofs.DraftMaps.{plain_draft, changed_betas}
use Rattle.chlore_recover.specs.LevelScripts.{forms_along}
use Rattle.chlore_recover.specs.Runs.{Suits}
use Rattle.chlore_recover.specs.Drafted.{IsTaken, leveled, LevelsAreLed}
use Rattle.chlore_recover.proofs.Unrefused.{under_map, suited_is_unrefused}

-- the leaf, where the test holds, with its statement changed
abbrev changed_where : Command → Leaf → Bool → Leaf
changed_where command leaf u = if u then record leaf { statement = scheduled leaf.statement (forms_after command leaf.statement.schedule) } else leaf

taken_on : (n : ℕ) (command : Command) (script : List Command) (P : List ℕ) (D : Draft) → AllUnder P (λ s. IsTaken n (command ∷ script) s.schedule) D → AllUnder P (λ s. IsTaken n script s.schedule) (map (changed command P) D)
taken_on n command script P [] h = tt
taken_on n command script P (leaf ∷ D) (h, more) = (
  elim (is_under P leaf.beta) as (λ u. is_under P leaf.beta ≡ u → is_under P (changed_where command leaf u).beta ≡ true → IsTaken n script (changed_where command leaf u).statement.schedule) [
    | true ↦ λ e g. (h e).1
    | false ↦ λ e g. let no : false ≡ true = sym e ∙ g in absurd (cc)
  ] refl,
  taken_on n command script P D more,
)

leveled_none : (P : List ℕ) (D : Draft) → D ≡ map (leveled [] P) D
leveled_none P [] = refl
leveled_none P (leaf ∷ D) =
    ap (λ t. t ∷ D) (elim (is_under P leaf.beta) as (λ u. leaf ≡ (if u then record leaf { statement = scheduled leaf.statement leaf.statement.schedule } else leaf)) [ true ↦ refl | false ↦ refl ])
    ∙ ap (λ t. leveled [] P leaf ∷ t) (leveled_none P D)

leveled_leaf : (command : Command) (script : List Command) (P : List ℕ) (leaf : Leaf) → leveled script P (changed command P leaf) ≡ leveled (command ∷ script) P leaf
leveled_leaf command script P leaf =
    elim (is_under P leaf.beta) as (λ u. is_under P leaf.beta ≡ u → leveled script P (changed_where command leaf u) ≡ (if u then record leaf { statement = scheduled leaf.statement (forms_along (command ∷ script) leaf.statement.schedule) } else leaf)) [
      | true ↦ λ e. rw e refl
      | false ↦ λ e. rw e refl
    ] refl

leveled_on : (command : Command) (script : List Command) (P : List ℕ) (D : Draft) → map (leveled script P) (map (changed command P) D) ≡ map (leveled (command ∷ script) P) D
leveled_on command script P [] = refl
leveled_on command script P (leaf ∷ D) =
    ap (λ t. t ∷ map (leveled script P) (map (changed command P) D)) (leveled_leaf command script P leaf)
    ∙ ap (λ t. leveled (command ∷ script) P leaf ∷ t) (leveled_on command script P D)

pub levels_are_led : LevelsAreLed
levels_are_led n i p [] D natural_p some are taken = (refl, leveled_none (map natural p) D)
levels_are_led n i p (command ∷ script) D natural_p some (is, own, are) taken =
    let P : List ℕ = map natural p in
    let same : prefix_in command ≡ P = ap (map natural) own in
    let suits : AllUnder P (λ s. Suits n command s.schedule.levels) D = under_map P (λ s. IsTaken n (command ∷ script) s.schedule) (λ s. Suits n command s.schedule.levels) D (λ s q. q.0) taken in
    let first : refusal_at n i command D ≡ None =
    suited_is_unrefused n i command D (subst (λ z. are_natural z ≡ true) (sym own) natural_p) (subst (λ Q. no_statement Q (betas_of D) ≡ false) (sym same) some)
    (subst (λ Q. AllUnder Q (λ s. Suits n command s.schedule.levels) D) (sym same) suits) in
    let E : Draft = map (changed command P) D in
    let draft : draft_after command D ≡ E = plain_draft command D is ∙ ap (λ Q. map (changed command Q) D) same in
    let betas : betas_of E ≡ betas_of D = changed_betas command P D in
    let (none, drafts) = levels_are_led n (i + 1) p script E natural_p (subst (λ V. no_statement P V ≡ false) (sym betas) some) are (taken_on n command script P D taken) in (
      subst (λ z. or_else z (first_refusal n (i + 1) script (draft_after command D)) ≡ None) (sym first) (subst (λ z. first_refusal n (i + 1) script z ≡ None) (sym draft) none),
      ap (drafts_after script) draft ∙ (drafts ∙ leveled_on command script P D),
    )
