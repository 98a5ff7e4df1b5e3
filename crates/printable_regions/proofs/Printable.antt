-- The names and texts of sound statements can be printed.
use Rattle.std.proofs.Common.{List, []}
use Rattle.clan_extract.specs.Names.{Occurrence, parameters_in, arrays_in}
use Rattle.region_trees.specs.Occurrences.{occurrences_in_all}
use Rattle.region_trees.specs.Statements.{statements_of}
use Rattle.printable_regions.specs.Laws.{DerivedRegionsArePrintable, SoundRegionsArePrintable}
use Rattle.printable_regions.proofs.Derived.{region_told}
use Rattle.printable_regions.proofs.Bytes.{c_names_are_names}
use Rattle.printable_regions.proofs.Occurrences.{statements_have, parameters_are, arrays_are}
use Rattle.printable_regions.proofs.Placed.{each_is_printable, some_array}

pub sound_is_printable : SoundRegionsArePrintable
sound_is_printable xs region h e =
    let all : List Occurrence = occurrences_in_all [] xs in
    let named = statements_have 12 [] xs h in
    record {
      parameters_are = c_names_are_names (parameters_in all) (parameters_are all named);
      arrays_are = c_names_are_names (arrays_in all) (arrays_are all named);
      some_array = some_array xs region e;
      assignments = each_is_printable xs region h e;
    }

pub derived_is_printable : DerivedRegionsArePrintable
derived_is_printable source span nodes region r e = sound_is_printable (statements_of source nodes) region (region_told source span nodes r) e
