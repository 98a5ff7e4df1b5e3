use Rattle.std.proofs.Common.{arith}
use Rattle.std.proofs.lemmas.Grind.{common_steps}
use Rattle.region_rules.proofs.Faults.{by_target}
use Rattle.region_rules.proofs.references.target_fault.Goals as goal

pub returns : goal.returns
returns c = by_target c.args.source.now c.args.target.now _ (grind (arith, common_steps))
