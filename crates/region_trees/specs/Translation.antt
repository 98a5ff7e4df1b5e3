-- The SCoP of a region that was parsed, or its first refusal: NameClash, then NotAffine, then what limits and range ask.
use Rattle.std.specs.Prelude.{ℕ, List, [], Option, Some, None, Result, Ok, Err}
use Rattle.suite_base.specs.declared.refusals.Refusal.{Refusal}
use Rattle.suite_base.specs.declared.refusals.Refusal.TheVariants.{NameClash, NotAffine}
use Rattle.suite_base.specs.Places.{place_at}
use Rattle.c_parser.specs.declared.tree.Node.{Node}
use Rattle.scop_core.specs.ScopData.{ScopData}
use Rattle.clan_extract.specs.Regions.{Nodes}
use Rattle.clan_extract.specs.Names.{Occurrence, clash, parameters_in, arrays_in}
use Rattle.clan_extract.specs.Refusals.{refusal_of}
use Rattle.clan_extract.specs.Scops.{scop_of}
use Rattle.region_trees.specs.Statements.{Statements, statements_of}
use Rattle.region_trees.specs.Regions.{nodes_of}
use Rattle.region_trees.specs.Occurrences.{occurrences_in_all}

-- the SCoP, unless there is a refusal
abbrev pub unless_refused : Option Refusal → ScopData → Result ScopData Refusal
unless_refused (Some refusal) scop = Err refusal
unless_refused None scop = Ok scop

-- of a region with these parameters and arrays, or of the place of its first fault
abbrev pub of_region : List ℕ → List (List ℕ) → List (List ℕ) → Result Nodes ℕ → Result ScopData Refusal
of_region source parameters arrays (Err at) = Err (NotAffine (place_at source at))
of_region source parameters arrays (Ok nodes) = unless_refused (refusal_of parameters arrays nodes) (scop_of parameters arrays nodes)

-- of names, and of the place where they clash
abbrev pub of_names : List ℕ → Option ℕ → List Occurrence → Result Nodes ℕ → Result ScopData Refusal
of_names source (Some at) names nodes = Err (NameClash (place_at source at))
of_names source None names nodes = of_region source (parameters_in names) (arrays_in names) nodes

abbrev pub of_statements : List ℕ → Statements → Result ScopData Refusal
of_statements source xs = let names = occurrences_in_all [] xs in of_names source (clash names) names (nodes_of xs)

-- the SCoP of these trees of the source, or their first refusal
abbrev pub clan_of : List ℕ → List Node → Result ScopData Refusal
clan_of source nodes = of_statements source (statements_of source nodes)
