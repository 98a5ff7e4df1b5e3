-- The scripts for the levels of statements that stand alone, one after the other.
use Rattle.std.proofs.Common.{◌≡◌, ◌≢◌, pos, ℕ, ◌+◌, ◌<◌, ◌==◌, Bool, true, false, if◌then◌else◌, inl, inr, Option, Some, None, List, [], ◌∷◌, ◌++◌, map, refl, sym, ◌∙◌, ap, subst, arith}
use Rattle.std.specs.Option.{is_some}
use Rattle.std.proofs.lemmas.Bool.{eqb-true}
use Rattle.beta_tree.specs.Vectors.{no_statement}
use Rattle.beta_tree.proofs.Places.{bool_tells, same_no}
use Rattle.suite_base.specs.declared.refusals.Refusal.{Refusal}
use Rattle.scop_core.specs.Assembly.{or_else}
use Rattle.scop_core.specs.ScopData.{ScopData}
use Rattle.scop_data.specs.declared.statements.Statement.{Statement}
use Rattle.clay_script.specs.declared.commands.Command.{Command}
use Rattle.clay_commands.specs.declared.leaves.Leaf.{Leaf}
use Rattle.clay_commands.specs.Drafts.{Draft, betas_of, is_under, scheduled, draft_after, drafts_after}
use Rattle.clay_commands.specs.Refusals.{refusal_at, first_refusal}
use Rattle.clay_commands.specs.Steps.{AllUnder}
use Rattle.chlore_recover.specs.LevelScripts.{forms_along}
use Rattle.chlore_recover.specs.Strategy.{Placed, levels_in, all_levels}
use Rattle.chlore_recover.specs.Drafted.{IsTaken, leveled, script_at, Await, leveled_from, AllLevelsAreLed}
use Rattle.chlore_recover.proofs.Leveled.{levels_are_led}
use Rattle.chlore_recover.proofs.Taken.{script_is}

-- one script behind another

pub drafts_on : (A B : List Command) (D : Draft) → drafts_after (A ++ B) D ≡ drafts_after B (drafts_after A D)
drafts_on [] B D = refl
drafts_on (command ∷ A) B D = drafts_on A B (draft_after command D)

first_none : (a b : Option Refusal) → or_else a b ≡ None → a ≡ None
first_none None b h = refl
first_none (Some r) b h = absurd (cc)

then_none : (a b : Option Refusal) → or_else a b ≡ None → b ≡ None
then_none None b h = h
then_none (Some r) b h = absurd (cc)

pub refusals_on : (n i : ℕ) (A B : List Command) (D : Draft) → first_refusal n i A D ≡ None → ((j : ℕ) → first_refusal n j B (drafts_after A D) ≡ None) → first_refusal n i (A ++ B) D ≡ None
refusals_on n i [] B D a b = b i
refusals_on n i (command ∷ A) B D a b =
    let here = first_none (refusal_at n i command D) (first_refusal n (i + 1) A (draft_after command D)) a in
    let more = refusals_on n (i + 1) A B (draft_after command D) (then_none (refusal_at n i command D) (first_refusal n (i + 1) A (draft_after command D)) a) b in
    subst (λ z. or_else z (first_refusal n (i + 1) (A ++ B) (draft_after command D)) ≡ None) (sym here) more

-- a leaf in one loop is in no other

one_loop : (r q : ℕ) (v : List ℕ) → r ≢ q → is_under (r ∷ []) v ≡ true → is_under (q ∷ []) v ≡ false
one_loop r q [] ne h = refl
one_loop r q (x ∷ v) ne h =
    elim (bool_tells (x == r)) [
      | inl t ↦
          let e : x ≡ r = eqb-true x r t in
          let other : x ≢ q = λ f. ne (sym e ∙ f) in
          rw (same_no x q other) refl
      | inr f ↦ let no : false ≡ true = subst (λ b. is_some (if b then Some v else None) ≡ true) f h in absurd (cc)
    ]

-- the leaf, where the test holds, with other levels
abbrev leveled_where : List Command → Leaf → Bool → Leaf
leveled_where script leaf u = if u then record leaf { statement = scheduled leaf.statement (forms_along script leaf.statement.schedule) } else leaf

pub leveled_beta : (script : List Command) (P : List ℕ) (leaf : Leaf) → (leveled script P leaf).beta ≡ leaf.beta
leveled_beta script P leaf = elim (is_under P leaf.beta) as (λ u. (leveled_where script leaf u).beta ≡ leaf.beta) [ true ↦ refl | false ↦ refl ]

pub leveled_betas : (script : List Command) (P : List ℕ) (D : Draft) → betas_of (map (leveled script P) D) ≡ betas_of D
leveled_betas script P [] = refl
leveled_betas script P (leaf ∷ D) =
    ap (λ v. v ∷ betas_of (map (leveled script P) D)) (leveled_beta script P leaf) ∙ ap (λ V. leaf.beta ∷ V) (leveled_betas script P D)

others_stay : (Q : Statement → Type 0) (script : List Command) (r q : ℕ) (D : Draft) → r ≢ q → AllUnder (q ∷ []) Q D → AllUnder (q ∷ []) Q (map (leveled script (r ∷ [])) D)
others_stay Q script r q [] ne h = tt
others_stay Q script r q (leaf ∷ D) ne (h, more) = (
  elim (is_under (r ∷ []) leaf.beta) as (λ u. is_under (r ∷ []) leaf.beta ≡ u → is_under (q ∷ []) (leveled_where script leaf u).beta ≡ true → Q (leveled_where script leaf u).statement) [
    | true ↦ λ e g. let no : false ≡ true = sym (one_loop r q leaf.beta ne e) ∙ g in absurd (cc)
    | false ↦ λ e g. h g
  ] refl,
  others_stay Q script r q D ne more,
)

await_on : (n : ℕ) (O T : ScopData) (script : List Command) (r q : ℕ) (placed : List Placed) (D : Draft) → r < q → Await n O T q placed D → Await n O T q placed (map (leveled script (r ∷ [])) D)
await_on n O T script r q [] D l a = tt
await_on n O T script r q (e ∷ placed) D l (some, taken, more) =
    let ne : r ≢ q = λ z. omega arith in (
      subst (λ V. no_statement (q ∷ []) V ≡ false) (sym (leveled_betas script (r ∷ []) D)) some,
      others_stay (λ s. IsTaken n (script_at O T q e) s.schedule) script r q D ne taken,
      await_on n O T script r (q + 1) placed D (omega arith) more,
    )

leveled_twice : (O T : ScopData) (r : ℕ) (e : Placed) (placed : List Placed) (D : Draft) → map (leveled_from O T (r + 1) placed) (map (leveled (script_at O T r e) (r ∷ [])) D) ≡ map (leveled_from O T r (e ∷ placed)) D
leveled_twice O T r e placed [] = refl
leveled_twice O T r e placed (leaf ∷ D) = ap (λ t. leveled_from O T r (e ∷ placed) leaf ∷ t) (leveled_twice O T r e placed D)

leveled_by_none : (D : Draft) → D ≡ map (λ leaf. leaf) D
leveled_by_none [] = refl
leveled_by_none (leaf ∷ D) = ap (λ t. leaf ∷ t) (leveled_by_none D)

pub all_levels_are_led : AllLevelsAreLed
all_levels_are_led n i r O T [] D a = (refl, leveled_by_none D)
all_levels_are_led n i r O T (e ∷ placed) D (some, taken, more) =
    let script : List Command = script_at O T r e in
    let rest : List Command = all_levels O T (r + 1) placed in
    let E : Draft = map (leveled script (r ∷ [])) D in
    let (none, drafts) = levels_are_led n i (pos r ∷ []) script D refl some (script_is (pos r ∷ []) (levels_in O e.0) (levels_in T e.0)) taken in
    let next : Await n O T (r + 1) placed E = await_on n O T script r (r + 1) placed D (omega arith) more in
    let later : (j : ℕ) → first_refusal n j rest (drafts_after script D) ≡ None = λ j. subst (λ z. first_refusal n j rest z ≡ None) (sym drafts) (all_levels_are_led n j (r + 1) O T placed E next).0 in (
      refusals_on n i script rest D none later,
      drafts_on script rest D ∙ (ap (drafts_after rest) drafts ∙ ((all_levels_are_led n i (r + 1) O T placed E next).1 ∙ leveled_twice O T r e placed D)),
    )
