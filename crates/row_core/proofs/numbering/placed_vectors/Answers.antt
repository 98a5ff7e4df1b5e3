use Rattle.std.proofs.Common.{◌≡◌, slice_get, Some, rules, arith}
use Rattle.std.proofs.lemmas.Option.{slice_get_read}
use Rattle.std.proofs.lemmas.Grind.{common_steps}
use Rattle.row_core.proofs.DensePlaces.{push_each, push_all}
use Rattle.row_core.proofs.numbering.placed_vectors.Goals as goal

pub loop-vector-preserved : goal.loop-vector-preserved
loop-vector-preserved c =
    let inv = c.loop-vector.invariant in
    let here : slice_get c.args.vectors.now c.len.result ≡ Some c.as_slice.result.now = grind (arith, common_steps, slice_get_read) in
    record {
      count = grind (arith, common_steps);
      each = push_each c.args.vectors.now c.loop-vector.placed.items c.push.new.self.items (c.len.result, c.as_slice.result) (search rules) here inv.each;
      all = push_all c.loop-vector.placed.items c.push.new.self.items (c.len.result, c.as_slice.result) c.loop-vector.vector-index (search rules) (search rules) inv.all;
    }

pub returns-clause-all : goal.returns-clause-all
returns-clause-all c = λ k b. c.loop-vector.invariant.all k (grind (arith, common_steps))
