-- The output of `chlore`, and its refusals: none is TooLong, and texts that it takes have none.
use Rattle.std.proofs.Common.{◌≡◌, inl, inr, ℕ, ◌≤◌, true, Option, Some, None, List, length, if◌then◌else◌, refl, ap, ◌∙◌, subst}
use Rattle.std.specs.Prelude.{nat_le, option_map, Bool, false}
use Rattle.std.proofs.lemmas.Bool.{le-leb}
use Rattle.suite_base.specs.Limits.{max_commands}
use Rattle.suite_base.specs.declared.refusals.Fail.{Fail}
use Rattle.suite_base.specs.declared.refusals.Fail.TheVariants.{Refused}
use Rattle.suite_base.specs.declared.refusals.Refusal.{Refusal}
use Rattle.suite_base.specs.declared.refusals.Refusal.TheVariants as refusal
use Rattle.suite_base.specs.declared.refusals.Which.TheVariants.{Commands}
use Rattle.scop_core.specs.Assembly.{or_else, HasCause}
use Rattle.scop_core.specs.ScopData.{ScopData}
use Rattle.clay_script.specs.declared.commands.Command.{Command}
use Rattle.clay_script.specs.Grammar.{IsScript}
use Rattle.clay_script.specs.Layout.{layout}
use Rattle.scop_reader.specs.Texts.{IsScopText, fault}
use Rattle.scop_reader.proofs.FaultPieces.{fault_is_not_too_long_law}
use Rattle.scop_reader.proofs.GrammarProper.{stands_for_one_law}
use Rattle.chlore_recover.specs.Recovered.{CanRecover}
use Rattle.chlore_recover.specs.Refusals.{first_different, first_failing, has_clans_form, can_be_recovered, same_counts, difference_of, pair_refusal, length_refusal, recovery_refusal}
use Rattle.chlore_recover.specs.Strategy.{strategy, Recovers}
use Rattle.chlore_recover.proofs.Decisions.{unrefused_can_recover}
use Rattle.suite_cli.specs.ChlorePromise as chlore
use Rattle.suite_cli.proofs.ScopTexts.{text_has_no_fault}

-- the printed script is the output
pub recovered : (O T : ScopData) (script : List Command) (output : List ℕ) → recovery_refusal O T ≡ None → script ≡ strategy O T → Recovers O T script
    → output ≡ layout script → IsScript output script → chlore.IsRecoveredText O T output
recovered O T script output unrefused is recovers printed stands = record {
  unrefused = unrefused;
  layout_is = printed ∙ ap layout is;
  stands = subst (IsScript output) is stands;
  recovers = subst (Recovers O T) is recovers;
}

-- the texts are refused for their SCoPs
pub refused_together : (first second : List ℕ) (O T : ScopData) (place : ℕ) (fail : Fail) (r : Refusal) → IsScopText first O → IsScopText second T
    → place ≡ chlore.place_of r → fail ≡ Refused r → HasCause (recovery_refusal O T) fail → chlore.Refuses first second place r
refused_together first second O T place fail r read_first read_second place_is fail_is cause =
    let refused : recovery_refusal O T ≡ Some r = subst (HasCause (recovery_refusal O T)) fail_is cause in
    let texts : chlore.AreScopTexts first second O T = record { first_text = read_first; second_text = read_second } in
    inr (inr (place_is, record { original = O; target = T; texts = texts; refusal_is = refused }))

-- no refusal of a pair is TooLong

abbrev is_length : Refusal → Bool
is_length refusal.TooLong = true
is_length other = false

abbrev says : Option Refusal → Bool
says None = false
says (Some r) = is_length r

or_says : (a b : Option Refusal) → says a ≡ false → says b ≡ false → says (or_else a b) ≡ false
or_says None b f g = g
or_says (Some r) b f g = f

if_says : (b : Bool) (x y : Option Refusal) → says x ≡ false → says y ≡ false → says (if b then x else y) ≡ false
if_says true x y f g = f
if_says false x y f g = g

map_says : (f : ℕ → Refusal) (o : Option ℕ) → ((k : ℕ) → is_length (f k) ≡ false) → says (option_map f o) ≡ false
map_says f None h = refl
map_says f (Some k) h = h k

recovery_says : (O T : ScopData) → says (recovery_refusal O T) ≡ false
recovery_says O T =
    let not_clans : Option Refusal = option_map refusal.NotClanForm (first_failing has_clans_form 1 O.statements) in
    let not_recoverable : Option Refusal = option_map refusal.NotRecoverable (first_failing can_be_recovered 1 T.statements) in
    let different = if_says (same_counts O T) (option_map refusal.Different (first_different 1 O.statements T.statements)) (Some (refusal.Different 0))
    (map_says refusal.Different (first_different 1 O.statements T.statements) (λ k. refl)) refl in
    let form = map_says refusal.NotClanForm (first_failing has_clans_form 1 O.statements) (λ k. refl) in
    let lost = map_says refusal.NotRecoverable (first_failing can_be_recovered 1 T.statements) (λ k. refl) in
    let long = if_says (nat_le (length (strategy O T)) max_commands) None (Some (refusal.Limit Commands 0)) refl refl in
    or_says (pair_refusal O T) (length_refusal (strategy O T))
    (or_says (difference_of O T) (or_else not_clans not_recoverable) different (or_says not_clans not_recoverable form lost)) long

pub says_no_length : (O T : ScopData) → ¬ (recovery_refusal O T ≡ Some refusal.TooLong)
says_no_length O T e =
    let no = recovery_says O T in
    let yes : says (recovery_refusal O T) ≡ true = ap says e in
    absurd (cc)

pub chlore_not_too_long : (first second : List ℕ) (place : ℕ) → ¬ chlore.Refuses first second place refusal.TooLong
chlore_not_too_long first second place (inl h) = fault_is_not_too_long_law first h.1
chlore_not_too_long first second place (inr (inl h)) = fault_is_not_too_long_law second h.1.fault_is
chlore_not_too_long first second place (inr (inr h)) = says_no_length h.1.original h.1.target h.1.refusal_is

-- SCoPs with a short script have no refusal

no_length : (O T : ScopData) → length (strategy O T) ≤ max_commands → length_refusal (strategy O T) ≡ None
no_length O T few = ap (λ (b : Bool). if b then None else Some (refusal.Limit Commands 0)) (le-leb (length (strategy O T)) max_commands few)

no_refusal : (O T : ScopData) → CanRecover O T → length (strategy O T) ≤ max_commands → recovery_refusal O T ≡ None
no_refusal O T can few =
    ap (λ r. or_else r (length_refusal (strategy O T))) ((unrefused_can_recover O T).1 can) ∙ no_length O T few

no_text_fault : (text : List ℕ) (S : ScopData) (r : Refusal) → IsScopText text S → ¬ (fault text ≡ Some r)
no_text_fault text S r t h = let none : fault text ≡ None = text_has_no_fault text S t in absurd (cc)

pub no_chlore_refusal : (first second : List ℕ) (place : ℕ) (r : Refusal) → chlore.Takes first second → ¬ chlore.Refuses first second place r
no_chlore_refusal first second place r t (inl h) = no_text_fault first t.original r t.texts.first_text h.1
no_chlore_refusal first second place r t (inr (inl h)) = no_text_fault second t.target r t.texts.second_text h.1.fault_is
no_chlore_refusal first second place r t (inr (inr h)) =
    let same_original : h.1.original ≡ t.original = stands_for_one_law first h.1.original t.original h.1.texts.first_text t.texts.first_text in
    let same_target : h.1.target ≡ t.target = stands_for_one_law second h.1.target t.target h.1.texts.second_text t.texts.second_text in
    let refused : recovery_refusal t.original t.target ≡ Some r =
    subst (λ S. recovery_refusal S t.target ≡ Some r) same_original (subst (λ S. recovery_refusal h.1.original S ≡ Some r) same_target h.1.refusal_is) in
    let none = no_refusal t.original t.target t.can t.few in
    absurd (cc)
