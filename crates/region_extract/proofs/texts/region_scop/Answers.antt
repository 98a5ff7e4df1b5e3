use Rattle.region_extract.proofs.Answering.{parsed_answers, unparsed_answers}
use Rattle.region_extract.proofs.texts.region_scop.Goals as goal

pub returns-in-Err-parse_region : goal.returns-in-Err-parse_region
returns-in-Err-parse_region c =
    let failed = c.in-Err-parse_region in
    unparsed_answers c.args.text.now c.in-Ok.span failed.fail c.in-Ok.ensures.value failed.ensures.complete failed.ensures.cause

pub returns-in-Ok-parse_region : goal.returns-in-Ok-parse_region
returns-in-Ok-parse_region c =
    let found = c.in-Ok-parse_region in
    parsed_answers c.args.text.now c.in-Ok.span found.parsed c.extract.result c.in-Ok.ensures.value found.ensures.derived found.ensures.complete c.extract.ensures
