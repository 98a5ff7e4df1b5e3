use Rattle.c_parser.proofs.RegionLemmas.{read_derived, read_complete, read_cause}
use Rattle.c_parser.proofs.regions.parse_region.Goals as goal

pub returns-clause-derived : goal.returns-clause-derived
returns-clause-derived c = read_derived c.args.bytes.now c.args.span c.read.result c.read.ensures

pub returns-clause-complete : goal.returns-clause-complete
returns-clause-complete c = read_complete c.args.bytes.now c.args.span c.read.result c.read.ensures

pub returns-clause-cause : goal.returns-clause-cause
returns-clause-cause c = read_cause c.args.bytes.now c.args.span c.read.result c.read.ensures
