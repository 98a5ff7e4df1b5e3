-- What the laws say.
use Rattle.std.specs.Prelude.{◌≡◌, ℕ, List, [], true, Ok}
use Rattle.suite_base.specs.Limits.{max_loops}
use Rattle.c_lexer.specs.declared.regions.Span.{Span}
use Rattle.c_parser.specs.declared.tree.Node.{Node}
use Rattle.c_parser.specs.Regions.{IsRegion}
use Rattle.clan_extract.specs.Regions.{Nodes}
use Rattle.clan_extract.specs.Names.{parameters_in, arrays_in}
use Rattle.clan_extract.specs.ReadBack.{IsPrintableRegion}
use Rattle.region_trees.specs.Statements.{Statements, statements_of}
use Rattle.region_trees.specs.Regions.{nodes_of}
use Rattle.region_trees.specs.Occurrences.{occurrences_in_all}
use Rattle.printable_regions.specs.Sound.{are_sound}

-- what is derived from a span is sound, with at most `max_loops` loops one inside another
abbrev pub DerivedRegionsAreSound : Type 0
DerivedRegionsAreSound = (source : List ℕ) (span : Span) (nodes : List Node) → IsRegion source span nodes → are_sound max_loops (statements_of source nodes) ≡ true

-- the names and texts of statements can be printed in the SCoP of this region
abbrev pub PrintsAs : Statements → Nodes → Type 0
PrintsAs xs region = IsPrintableRegion (parameters_in (occurrences_in_all [] xs)) (arrays_in (occurrences_in_all [] xs)) region

abbrev pub SoundRegionsArePrintable : Type 0
SoundRegionsArePrintable = (xs : Statements) (region : Nodes) → are_sound max_loops xs ≡ true → nodes_of xs ≡ Ok region → PrintsAs xs region

abbrev pub DerivedRegionsArePrintable : Type 0
DerivedRegionsArePrintable = (source : List ℕ) (span : Span) (nodes : List Node) (region : Nodes) → IsRegion source span nodes
    → nodes_of (statements_of source nodes) ≡ Ok region → PrintsAs (statements_of source nodes) region
