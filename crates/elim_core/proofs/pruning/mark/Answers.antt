use Rattle.std.proofs.Common.{refl, arith}
use Rattle.std.specs.BTreeMap.{get}
use Rattle.std.specs.Ordering.{nat_cmp}
use Rattle.elim_core.proofs.Marking.{mark_begins, mark_goes_on, nothing_indexed}
use Rattle.elim_core.proofs.pruning.mark.Goals as goal

pub loop-k-init : goal.loop-k-init
loop-k-init g c =
    let e = c.in_ok-with_capacity.ensures.items in
    record {
      left = mark_begins c.args.tableau.now.variables c.args.tableau.now.rows c.in_ok-with_capacity.field-0.items e;
      count = rw e refl;
      indexed = rw e (nothing_indexed c.args.tableau.now.variables c.args.tableau.now.rows _);
    }

pub loop-k-preserved : goal.loop-k-preserved
loop-k-preserved g c =
    let a = c.in_ok-mark_row.ensures in
    record {
      left = mark_goes_on c.args.tableau.now.variables c.args.tableau.now.rows c.loop-k.k c.loop-k.marks.stays.items c.mark_row.new.marks.stays.items (get nat_cmp c.mark_row.new.marks.places)
          (omega (arith, c.loop-k-test.true, c.row_count-k-end.ensures)) a c.loop-k.invariant.left;
      count = a.count;
      indexed = a.indexed;
    }
