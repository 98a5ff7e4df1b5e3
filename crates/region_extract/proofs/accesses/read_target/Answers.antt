use Rattle.region_trees.specs.Terms.{target_of}
use Rattle.region_extract.proofs.Naming.{array_named, value_named}
use Rattle.region_extract.proofs.Reading.{on_ok}
use Rattle.region_extract.proofs.accesses.read_target.Goals as goal

pub returns-then-is_value : goal.returns-then-is_value
returns-then-is_value c = value_named (target_of c.args.source.now c.args.target.now) c.args.place.now c.if-is_value.ensures

pub returns : goal.returns
returns c = on_ok c.add_target.result (λ p. array_named (target_of c.args.source.now c.args.target.now) c.args.place.now c.add_target.new.place c.if-is_value.ensures p) c.add_target.ensures
