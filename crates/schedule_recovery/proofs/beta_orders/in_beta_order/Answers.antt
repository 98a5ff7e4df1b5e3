use Rattle.std.proofs.Common.{reverse, sym, ap, ◌∙◌, subst}
use Rattle.schedule_recovery.specs.Falling.{Falls}
use Rattle.schedule_recovery.proofs.Counts.{less_is, order_more}
use Rattle.schedule_recovery.proofs.Falling.{put_falls, put_turned}
use Rattle.schedule_recovery.proofs.beta_orders.in_beta_order.Goals as goal

pub loop-vector-preserved : goal.loop-vector-preserved
loop-vector-preserved c = record {
  vectors = less_is c.in_ok-vectors.vectors c.loop-vector.vectors c.pop.new.self c.in-Some.vector c.loop-vector.invariant.vectors c.in-Some.ensures;
  placed = order_more c.in_ok-vectors.vectors c.loop-vector.vectors c.pop.new.self c.in-Some.vector c.len-place.result (reverse c.loop-vector.fallen) _ c.loop-vector.invariant.vectors c.in-Some.ensures c.len-place.ensures c.loop-vector.invariant.placed
      (ap reverse c.in_ok-put_behind.ensures ∙ put_turned _ c.loop-vector.fallen c.loop-vector.invariant.falls);
  falls = subst Falls (sym c.in_ok-put_behind.ensures) (put_falls _ c.loop-vector.fallen c.loop-vector.invariant.falls);
}
