-- The laws of the translation of trees.
use Rattle.std.specs.Prelude.{◌≡◌, ℕ, List, [], length, ℤ, true, Some, None, Ok, Err}
use Rattle.suite_base.specs.declared.refusals.Refusal.TheVariants.{NameClash}
use Rattle.suite_base.specs.Places.{place_at}
use Rattle.clan_extract.specs.Regions.{Nodes}
use Rattle.scop_core.specs.ScopData.{ScopData}
use Rattle.clan_extract.specs.Names.{clash, parameters_in, arrays_in}
use Rattle.clan_extract.specs.Refusals.{refusal_of}
use Rattle.clan_extract.specs.Translation.{RunsAs, HasNames}
use Rattle.clan_extract.specs.Scops.{are_affine_nodes}
use Rattle.region_trees.specs.Statements.{Statements}
use Rattle.region_trees.specs.Regions.{nodes_of}
use Rattle.region_trees.specs.Occurrences.{occurrences_in_all}
use Rattle.region_trees.specs.Translation.{of_statements}

-- where names clash, nothing but the clash is answered
abbrev pub ClashesComeFirst : Type 0
ClashesComeFirst = (source : List ℕ) (xs : Statements) (at : ℕ) → clash (occurrences_in_all [] xs) ≡ Some at
    → of_statements source xs ≡ Err (NameClash (place_at source at))

-- what statements stand for, where no place of control is at fault, is within the rules of affine values, bounds and conditions
abbrev pub RegionsAreAffine : Type 0
RegionsAreAffine = (xs : Statements) (region : Nodes) → nodes_of xs ≡ Ok region → are_affine_nodes region ≡ true

-- S is the SCoP of the region that statements stand for: no name clashes, nothing is refused, it has the parameters and the arrays
-- of the names by first occurrence, and for all values of the parameters it has a run whose final memory is that after the region
pub record IsTranslated (xs : Statements) (S : ScopData) : Type 0 where
  pub region : Nodes
  pub is_region : nodes_of xs ≡ Ok region
  pub no_clash : clash (occurrences_in_all [] xs) ≡ None
  pub no_refusal : refusal_of (parameters_in (occurrences_in_all [] xs)) (arrays_in (occurrences_in_all [] xs)) region ≡ None
  pub names : HasNames S (parameters_in (occurrences_in_all [] xs)) (arrays_in (occurrences_in_all [] xs))
  pub means : (n : List ℤ) → length n ≡ length (parameters_in (occurrences_in_all [] xs))
      → RunsAs S (record {
        parameters = parameters_in (occurrences_in_all [] xs);
        values = n;
        arrays = arrays_in (occurrences_in_all [] xs);
      }) region

abbrev pub AnswersAreTranslated : Type 0
AnswersAreTranslated = (source : List ℕ) (xs : Statements) (S : ScopData) → of_statements source xs ≡ Ok S → IsTranslated xs S
