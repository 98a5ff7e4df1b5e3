use Rattle.std.proofs.Common.{arith}
use Rattle.std.specs.Prelude.{All}
use Rattle.scop_core.specs.Assembly.{HasInputs}
use Rattle.scop_core.proofs.Assemblies.{accesses_more, accesses_left, item_has}
use Rattle.scop_core.proofs.assembling.accesses_from.Goals as goal

pub loop-access-preserved : goal.loop-access-preserved
loop-access-preserved c = record {
  all = accesses_more c.args.accesses.now c.loop-access.access-index c.access-item.result c.loop-access.made c.push_access.new.made _ (omega arith) c.access-item.is c.in_ok-push_access.ensures.made c.loop-access.invariant.all;
  left = accesses_left c.args.accesses.now c.loop-access.access-index c.access-item.result (omega arith) c.access-item.is c.loop-access.invariant.left;
  printable = λ d p all. c.in_ok-push_access.ensures.printable d p
      (item_has (λ access. All (HasInputs d p) access.1) c.args.accesses.now c.loop-access.access-index c.access-item.result (omega arith) c.access-item.is all)
      (c.loop-access.invariant.printable d p all);
}
