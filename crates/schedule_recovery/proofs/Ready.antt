-- What is known of a target that isn't refused.
use Rattle.std.proofs.Common.{◌≡◌, ℤ, ℕ, zero, suc, ◌+◌, ◌<◌, ◌==◌, true, ◌&&◌, inl, inr, Option, Some, None, List, [], ◌∷◌, length, map, refl, sym, ◌∙◌, subst, arith}
use Rattle.std.specs.Prelude.{All, option_map, slice_get}
use Rattle.std.proofs.lemmas.Bool.{eqb-true}
use Rattle.std.proofs.lemmas.List.{length-map}
use Rattle.std.proofs.lemmas.List.Elements.{All-head, All-tail}
use Rattle.std.proofs.lemmas.Option.{slice_get_within}
use Rattle.beta_tree.specs.Vectors.{In}
use Rattle.beta_tree.proofs.Orders.{and_left, and_right}
use Rattle.suite_base.specs.declared.refusals.Refusal.{Refusal}
use Rattle.suite_base.specs.declared.refusals.Refusal.TheVariants.{NotClanForm, NotRecoverable}
use Rattle.scop_data.specs.declared.affines.Affine.{Affine}
use Rattle.scop_data.specs.declared.statements.Statement.{Statement}
use Rattle.scop_core.specs.Assembly.{or_else}
use Rattle.scop_core.specs.ScopData.{ScopData}
use Rattle.scop_core.specs.Meaning.{statement_at}
use Rattle.scop_core.specs.Shapes.{IsShapedStatement}
use Rattle.scop_core.specs.Validity.{IsValid}
use Rattle.scop_core.proofs.ScopShapes.{scops_are_shaped}
use Rattle.chlore_recover.specs.Triangles.{AreLong, end_in_signs, differ, last_place}
use Rattle.chlore_recover.specs.Recoverable.{rows_of, ends_apart}
use Rattle.chlore_recover.specs.Refusals.{first_failing, has_clans_form, can_be_recovered, difference_of, pair_refusal}
use Rattle.chlore_recover.specs.Strategy.{levels_in}
use Rattle.chlore_recover.proofs.Decisions.{IsApart, apart_of_test, none_fails, then_none, map_none}
use Rattle.chlore_recover.proofs.Factors.{places_below, signed_of_test}
use Rattle.schedule_recovery.specs.Lengths.{EndApart, AllEndApart}
use Rattle.schedule_recovery.specs.Steps.{AreBelow}

apart_levels : (t : Statement) → IsApart t → EndApart t.schedule.levels
apart_levels t a =
    let d : ℕ = length t.body.iterators in
    let rows : List (List ℤ) = rows_of t.schedule.levels in
    let many : length rows ≡ d = eqb-true (length rows) d (and_left (length rows == d) (end_in_signs rows) (and_left ((length rows == d) && end_in_signs rows) (differ (map last_place rows)) a.apart)) in
    let same : d ≡ length t.schedule.levels = sym many ∙ length-map t.schedule.levels (λ form. form.iterators) in
    record {
      long = subst (λ n. AreLong n rows) same a.long;
      apart = subst (λ n. ends_apart n rows ≡ true) same a.apart;
    }

no_levels : EndApart []
no_levels = record { long = tt; apart = refl }

at_get : {A : Type 0} (P : A → Type 0) (k : ℕ) (a : A) (xs : List A) → All P xs → slice_get xs k ≡ Some a → P a
at_get P k a [] all e = let l = slice_get_within [] k a e in absurd (omega arith)
at_get P zero a (x ∷ xs) all e = let same : x ≡ a = cc in subst P same (All-head P x xs all)
at_get P (suc k) a (x ∷ xs) all e = at_get P k a xs (All-tail P x xs all) e

found_apart : (n : ℕ) (found : Option Statement) → ((t : Statement) → found ≡ Some t → IsApart t) → EndApart (elim found [ None ↦ [] | Some s ↦ s.schedule.levels ])
found_apart n None h = no_levels
found_apart n (Some t) h = apart_levels t (h t refl)

pub all_end_apart : (O T : ScopData) → IsValid T → pair_refusal O T ≡ None → AllEndApart T
all_end_apart O T valid h k =
    let n : ℕ = T.context.shape.parameters in
    let form : Option Refusal = option_map NotClanForm (first_failing has_clans_form 1 O.statements) in
    let lost : Option Refusal = option_map NotRecoverable (first_failing can_be_recovered 1 T.statements) in
    let none = map_none NotRecoverable (first_failing can_be_recovered 1 T.statements) (then_none form lost (then_none (difference_of O T) (or_else form lost) h)) in
    let tests = none_fails can_be_recovered 1 T.statements none in
    let shapes = (scops_are_shaped T valid).statements in
    let up : suc k ≡ k + 1 = omega arith in
    let here : EndApart (levels_in T k) = subst (λ j. EndApart (elim (statement_at T.statements j) [ None ↦ [] | Some s ↦ s.schedule.levels ])) up
    (found_apart n (slice_get T.statements k) (λ t e. apart_of_test n t (at_get (IsShapedStatement n) k t T.statements shapes e) (at_get (λ s. can_be_recovered s ≡ true) k t T.statements tests e))) in
    here

-- what such levels give

pub signs_of : (levels : List Affine) → EndApart levels → end_in_signs (rows_of levels) ≡ true
signs_of levels a =
    let rows : List (List ℤ) = rows_of levels in
    and_right (length rows == length levels) (end_in_signs rows) (and_left ((length rows == length levels) && end_in_signs rows) (differ (map last_place rows)) a.apart)

are_below : (d : ℕ) (xs : List ℕ) → ((x : ℕ) → In x xs → x < d) → AreBelow d xs
are_below d [] h = tt
are_below d (x ∷ xs) h = (h x (inl refl), are_below d xs (λ y i. h y (inr i)))

pub places_are_below : (levels : List Affine) → EndApart levels → AreBelow (length (map last_place (rows_of levels))) (map last_place (rows_of levels))
places_are_below levels a =
    let rows : List (List ℤ) = rows_of levels in
    let long : length (map last_place rows) ≡ length levels = length-map rows last_place ∙ length-map levels (λ form. form.iterators) in
    subst (λ d. AreBelow d (map last_place rows)) (sym long)
    (are_below (length levels) (map last_place rows) (places_below (length levels) rows a.long (signed_of_test rows (signs_of levels a))))
