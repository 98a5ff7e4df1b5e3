use Rattle.std.proofs.Common.{◌∙◌, sym, subst}
use Rattle.c_parser.specs.Regions.{IsRegion}
use Rattle.region_extract.proofs.Answering.{names_print}
use Rattle.region_extract.proofs.regions.extract.Goals as goal

pub named_scop-requires : goal.named_scop-requires
named_scop-requires c =
    let source = c.args.region.now.source.now in
    record {
      printable =
          names_print source c.requires.parsed.0 c.as_slice-nodes.result.now c.in-Ok-Ok.names
          (subst (IsRegion source c.requires.parsed.0) (sym c.as_slice-nodes.ensures) c.requires.parsed.1) (sym c.in-Ok-Ok.field-0-is ∙ c.in-Ok-Ok.ensures);
    }
