-- The four steps of the script as one list, and what a search says that ended early.
use Rattle.std.proofs.Common.{◌≡◌, ◌<◌, ◌≤◌, Bool, if◌then◌else◌, inl, inr, Some, None, List, [], ◌++◌, length, map, refl, sym, ◌∙◌, ap, subst, arith, append_assoc}
use Rattle.std.specs.Prelude.{nat_le, Result, Ok, Err, OnOk, IfOk, IfErr}
use Rattle.std.proofs.lemmas.Bool.{le-leb, leb-true}
use Rattle.beta_tree.proofs.Places.{bool_tells}
use Rattle.suite_base.specs.Limits.{max_commands}
use Rattle.suite_base.specs.declared.refusals.Fail.{Fail}
use Rattle.suite_base.specs.declared.refusals.Fail.TheVariants.{Memory, Refused}
use Rattle.suite_base.specs.declared.refusals.Refusal.{Refusal}
use Rattle.suite_base.specs.declared.refusals.Refusal.TheVariants.{Limit}
use Rattle.suite_base.specs.declared.refusals.Which.TheVariants.{Commands}
use Rattle.scop_core.specs.Assembly.{or_else, HasCause}
use Rattle.scop_core.specs.ScopData.{ScopData}
use Rattle.scop_core.specs.Validity.{IsValid}
use Rattle.clay_script.specs.declared.commands.Command.{Command}
use Rattle.chlore_recover.specs.Orders.{vectors_of}
use Rattle.chlore_recover.specs.Passes.{fissions_of}
use Rattle.chlore_recover.specs.Refusals.{pair_refusal, length_refusal, recovery_refusal}
use Rattle.chlore_recover.specs.Strategy.{Placed, in_beta_order, all_levels, order_for, reorder_unless_same, fissions, fuses, strategy}
use Rattle.chlore_recover.proofs.Parting.{fissions_are_read}
use Rattle.schedule_recovery.specs.Lengths.{IsTooLong}

-- the script for statements in these orders
abbrev pub steps_of : ScopData → ScopData → List Placed → List Placed → List Command
steps_of O T from to =
    fissions_of (vectors_of from) ++ (all_levels O T 0 from ++ (reorder_unless_same (order_for from to) ++ fuses (vectors_of to)))

-- the script's words for these orders
abbrev script_of : ScopData → ScopData → List Placed → List Placed → List Command
script_of O T p q = fissions (map (λ e. e.1) p) ++ all_levels O T 0 p ++ reorder_unless_same (order_for p q) ++ fuses (map (λ e. e.1) q)

same_script : (O T : ScopData) (p q : List Placed) → fissions (vectors_of p) ++ (all_levels O T 0 p ++ (reorder_unless_same (order_for p q) ++ fuses (vectors_of q))) ≡ script_of O T p q
same_script O T p q =
    let F : List Command = fissions (vectors_of p) in
    let L : List Command = all_levels O T 0 p in
    let R : List Command = reorder_unless_same (order_for p q) in
    let U : List Command = fuses (vectors_of q) in
    sym (append_assoc (F ++ L) R U ∙ append_assoc F L (R ++ U))

whole_script : (O T : ScopData) → script_of O T (in_beta_order O) (in_beta_order T) ≡ strategy O T
whole_script O T = refl

pub steps_are : (O T : ScopData) (from to : List Placed) → IsValid O → from ≡ in_beta_order O → to ≡ in_beta_order T → steps_of O T from to ≡ strategy O T
steps_are O T from to valid e f =
    let first : fissions_of (vectors_of from) ≡ fissions (vectors_of from) = subst (λ z. fissions_of (vectors_of z) ≡ fissions (vectors_of z)) (sym e) (sym (fissions_are_read O valid)) in
    ap (λ z. z ++ (all_levels O T 0 from ++ (reorder_unless_same (order_for from to) ++ fuses (vectors_of to)))) first
    ∙ (same_script O T from to ∙ (ap (λ z. script_of O T z to) e ∙ (ap (script_of O T (in_beta_order O)) f ∙ whole_script O T)))

-- what was appended so far, and what is still to come

pub after_one : (F L R U s0 all : List Command) → F ++ (L ++ (R ++ U)) ≡ all → s0 ≡ [] → (s0 ++ F) ++ (L ++ (R ++ U)) ≡ all
after_one F L R U s0 all h e = ap (λ z. (z ++ F) ++ (L ++ (R ++ U))) e ∙ h

pub after_two : (F L R U s0 s1 all : List Command) → F ++ (L ++ (R ++ U)) ≡ all → s0 ≡ [] → s1 ≡ s0 ++ F → (s1 ++ L) ++ (R ++ U) ≡ all
after_two F L R U s0 s1 all h e f = ap (λ z. (z ++ L) ++ (R ++ U)) f ∙ (append_assoc (s0 ++ F) L (R ++ U) ∙ after_one F L R U s0 all h e)

pub after_three : (F L R U s0 s1 s2 s3 all : List Command) → F ++ (L ++ (R ++ U)) ≡ all → s0 ≡ [] → s1 ≡ s0 ++ F → s2 ≡ s1 ++ L → s3 ≡ s2 ++ R → s3 ++ U ≡ all
after_three F L R U s0 s1 s2 s3 all h e f g k =
    ap (λ z. z ++ U) k ∙ (append_assoc s2 R U ∙ (ap (λ z. z ++ (R ++ U)) g ∙ after_two F L R U s0 s1 all h e f))

-- the refusal of a script that is too long

too_many : (script : List Command) → max_commands < length script → length_refusal script ≡ Some (Limit Commands 0)
too_many script l =
    elim (bool_tells (nat_le (length script) max_commands)) [
      | inl t ↦ let m = leb-true (length script) max_commands t in absurd (omega arith)
      | inr f ↦ ap (λ (b : Bool). if b then None else Some (Limit Commands 0)) f
    ]

pub few_enough : (script : List Command) → length script ≤ max_commands → length_refusal script ≡ None
few_enough script l = ap (λ (b : Bool). if b then None else Some (Limit Commands 0)) (le-leb (length script) max_commands l)

pub none_for_short : (O T : ScopData) (script : List Command) → None ≡ pair_refusal O T → script ≡ strategy O T → length script ≤ max_commands → recovery_refusal O T ≡ None
none_for_short O T script h e l =
    ap (λ r. or_else r (length_refusal (strategy O T))) (sym h) ∙ few_enough (strategy O T) (subst (λ z. length z ≤ max_commands) e l)

pub pair_is_cause : (O T : ScopData) (refusal : Refusal) → Some refusal ≡ pair_refusal O T → HasCause (recovery_refusal O T) (Refused refusal)
pair_is_cause O T refusal h = ap (λ r. or_else r (length_refusal (strategy O T))) (sym h)

pub length_is_cause : (O T : ScopData) (fail : Fail) → None ≡ pair_refusal O T → IsTooLong (strategy O T) fail → HasCause (recovery_refusal O T) fail
length_is_cause O T Memory h long = tt
length_is_cause O T (Refused refusal) h long =
    ap (λ r. or_else r (length_refusal (strategy O T))) (sym h) ∙ (too_many (strategy O T) long.1 ∙ ap Some (sym long.0))

-- what a search says of both SCoPs, whether it found the script or not

pub none_of_search : (O T : ScopData) (found : Result (List Command) Fail) → None ≡ pair_refusal O T → IfOk found (λ script. script ≡ strategy O T)
    → IfOk found (λ script. length script ≤ max_commands) → OnOk found (recovery_refusal O T ≡ None)
none_of_search O T (Ok script) h e l = none_for_short O T script h e l
none_of_search O T (Err fail) h e l = tt

pub cause_of_search : (O T : ScopData) (found : Result (List Command) Fail) → None ≡ pair_refusal O T → IfErr found (IsTooLong (strategy O T)) → IfErr found (HasCause (recovery_refusal O T))
cause_of_search O T (Ok script) h long = tt
cause_of_search O T (Err fail) h long = length_is_cause O T fail h long
