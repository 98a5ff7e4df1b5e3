-- What `clan` promises of the text of its file.
use Rattle.std.specs.Prelude.{◌≡◌, ℕ, List, [], None, Ok}
use Rattle.suite_base.specs.declared.refusals.Refusal.{Refusal}
use Rattle.c_parser.specs.declared.tree.Node.{Node}
use Rattle.scop_core.specs.ScopData.{ScopData}
use Rattle.scop_core.specs.Layouts.{layout}
use Rattle.scop_reader.specs.Texts.{IsScopText}
use Rattle.clan_extract.specs.Names.{Occurrence, arrays_in, clash, parameters_in}
use Rattle.clan_extract.specs.Refusals.{refusal_of}
use Rattle.clan_extract.specs.Regions.{Nodes}
use Rattle.region_trees.specs.Laws.{IsTranslated}
use Rattle.region_trees.specs.Occurrences.{occurrences_in_all}
use Rattle.region_trees.specs.Regions.{nodes_of}
use Rattle.region_trees.specs.Statements.{statements_of}
use Rattle.region_extract.specs.Answers as region
use Rattle.region_extract.specs.Answers.{IsParsed, IsTranslation}

-- the output is the layout of the SCoP that the text's region is translated to, and a text of that SCoP: its parameters and arrays are
-- those of the region, numbered by their first occurrences, and for all values of the parameters it has a run whose final memory is the
-- memory after the region
pub record Makes (text output : List ℕ) : Type 0 where
  pub scop : ScopData
  pub translation : IsTranslation text scop
  pub layout_is : output ≡ layout scop
  pub stands : IsScopText output scop
  pub means : IsTranslated (statements_of text translation.nodes) scop

-- the names in the region's statements, in the order of the text
abbrev pub names_in : List ℕ → List Node → List Occurrence
names_in text nodes = occurrences_in_all [] (statements_of text nodes)

-- it takes a text of one region that the grammar derives, in which no name clashes, each place of control keeps the rules, and no limit
-- and no range is passed
pub record Takes (text : List ℕ) : Type 0 where
  pub nodes : List Node
  pub parsed : IsParsed text nodes
  pub no_clash : clash (names_in text nodes) ≡ None
  pub region : Nodes
  pub is_region : nodes_of (statements_of text nodes) ≡ Ok region
  pub no_refusal : refusal_of (parameters_in (names_in text nodes)) (arrays_in (names_in text nodes)) region ≡ None

-- it refuses each other text for its pragma lines, for the first token with which the grammar does not go on, or for the first refusal of
-- its region
abbrev pub Refuses : List ℕ → Refusal → Type 0
Refuses text refusal = region.Refuses text refusal
