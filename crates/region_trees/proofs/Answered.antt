-- What is answered is the SCoP of a region, and means it.
use Rattle.std.proofs.Common.{◌≡◌, ℕ, List, [], ap, subst, refl, Option, None, Some, Result, Ok, Err}
use Rattle.suite_base.specs.declared.refusals.Refusal.{Refusal}
use Rattle.scop_core.specs.ScopData.{ScopData}
use Rattle.clan_extract.specs.Regions.{Nodes}
use Rattle.clan_extract.specs.Names.{Occurrence, clash, parameters_in, arrays_in}
use Rattle.clan_extract.specs.Refusals.{refusal_of}
use Rattle.clan_extract.specs.Scops.{scop_of}
use Rattle.clan_extract.specs.Translation.{RunsAs, HasNames}
use Rattle.clan_extract.proofs.Meanings.{scop_means, scop_names}
use Rattle.region_trees.specs.Statements.{Statements}
use Rattle.region_trees.specs.Regions.{nodes_of}
use Rattle.region_trees.specs.Occurrences.{occurrences_in_all}
use Rattle.region_trees.specs.Translation.{unless_refused, of_region, of_names, of_statements}
use Rattle.region_trees.specs.Laws.{IsTranslated}
use Rattle.region_trees.proofs.Affine.{nodes_are_affine}

error_is_no_answer : {A E : Type 0} (e : E) (a : A) → Err e ≡ Ok a → ⊥
error_is_no_answer e a p = cc

abbrev ok_value : {A E : Type 0} (default : A) → Result A E → A
ok_value default (Ok a) = a
ok_value default (Err e) = default

unrefused : (o : Option Refusal) (scop S : ScopData) → unless_refused o scop ≡ Ok S → (o ≡ None) × (scop ≡ S)
unrefused None scop S p = (refl, ap (ok_value scop) p)
unrefused (Some r) scop S p = absurd (error_is_no_answer r S p)

abbrev Found : List (List ℕ) → List (List ℕ) → Result Nodes ℕ → ScopData → Type 0
Found parameters arrays r S = (region : Nodes) × (r ≡ Ok region) × (refusal_of parameters arrays region ≡ None) × (scop_of parameters arrays region ≡ S)

found : (source : List ℕ) (parameters arrays : List (List ℕ)) (r : Result Nodes ℕ) (S : ScopData) → of_region source parameters arrays r ≡ Ok S → Found parameters arrays r S
found source parameters arrays (Ok region) S p =
    let t = unrefused (refusal_of parameters arrays region) (scop_of parameters arrays region) S p in (region, refl, t.0, t.1)
found source parameters arrays (Err at) S p = absurd (error_is_no_answer _ S p)

named : (source : List ℕ) (c : Option ℕ) (names : List Occurrence) (r : Result Nodes ℕ) (S : ScopData) → of_names source c names r ≡ Ok S
    → (c ≡ None) × Found (parameters_in names) (arrays_in names) r S
named source None names r S p = (refl, found source (parameters_in names) (arrays_in names) r S p)
named source (Some at) names r S p = absurd (error_is_no_answer _ S p)

translated : (xs : Statements) (S : ScopData) → let names = occurrences_in_all [] xs in (clash names ≡ None) × Found (parameters_in names) (arrays_in names) (nodes_of xs) S → IsTranslated xs S
translated xs S t =
    let names = occurrences_in_all [] xs in
    let region = t.1.0 in record {
      region = region;
      is_region = t.1.1;
      no_clash = t.0;
      no_refusal = t.1.2;
      names = subst (λ S. HasNames S (parameters_in names) (arrays_in names)) t.1.3 (scop_names (parameters_in names) (arrays_in names) region);
      means = λ n is. subst (λ S. RunsAs S (record { parameters = parameters_in names; values = n; arrays = arrays_in names }) region) t.1.3
          (scop_means (record { parameters = parameters_in names; values = n; arrays = arrays_in names }) region (nodes_are_affine xs region t.1.1) is);
    }

pub answers_are_translated : (source : List ℕ) (xs : Statements) (S : ScopData) → of_statements source xs ≡ Ok S → IsTranslated xs S
answers_are_translated source xs S p = translated xs S (named source (clash (occurrences_in_all [] xs)) (occurrences_in_all [] xs) (nodes_of xs) S p)
