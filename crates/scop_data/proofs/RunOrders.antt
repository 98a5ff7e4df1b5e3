-- Runs exist, order their members by their stamps, and can be compared over two SCoPs.
use Rattle.std.proofs.Common.{◌≡◌, ◌⊎◌, inl, inr, List, sym, ap, subst}
use Rattle.scop_data.specs.Order.{Before}
use Rattle.scop_data.specs.Sequences.{In}
use Rattle.scop_data.specs.Memory.{EventsTouch, step_of}
use Rattle.scop_data.specs.Meaning.{Instance, stamp, step, event, Run}
use Rattle.scop_data.proofs.Orders.{precedes_is_before}
use Rattle.scop_data.proofs.Reordering.{precedes_begins_in, precedes_ends_in}
use Rattle.scop_data.proofs.Stamps.{stamps_ordered}
use Rattle.scop_data.specs.RunLaws.{RunExists, PrecedesIsBefore, SameEventsGiveOneMemory, SameEventsTouch}
use Rattle.scop_data.proofs.Sorting.{Placed, Sorted, sorted, before_precedes}
use Rattle.scop_data.proofs.MappedLists.{fold_map}

pub run_exists : RunExists
run_exists S v n L lists free = run (sorted (stamp S n) L placed)
  where
    by : (a b : Instance) → In a L → In b L → Before (stamp S n a) (stamp S n b) ⊎ (Before (stamp S n b) (stamp S n a) ⊎ (stamp S n a ≡ stamp S n b)) → Placed (stamp S n) a b
    by a b i j (inl h) = inl h
    by a b i j (inr (inl h)) = inr (inl h)
    by a b i j (inr (inr e)) = inr (inr (free a b (lists.only a i) (lists.only b j) e))

    placed : (a b : Instance) → In a L → In b L → Placed (stamp S n) a b
    placed a b i j = by a b i j (stamps_ordered S v n a b (lists.only a i) (lists.only b j))

    run : Sorted Instance (stamp S n) L → (M : List Instance) × Run S n M
    run s = (s.list, record { all = λ a h. s.into a (lists.all a h); only = λ a i. lists.only a (s.back a i); rising = s.rising })

pub precedes_is_earlier : PrecedesIsBefore
precedes_is_earlier S n L r a b = (
  (λ p. (precedes_begins_in L a b p, precedes_ends_in L a b p, precedes_is_before (stamp S n) L r.rising a b p)),
  λ h. before_precedes (stamp S n) L r.rising a b h.0 h.1 h.2,
)

pub same_events_give_one_memory : SameEventsGiveOneMemory
same_events_give_one_memory T S n f L same m = fold_map f (step T n) (step S n) L (λ a i k. ap (λ e. step_of e k) (same a i)) m

pub same_events_touch : SameEventsTouch
same_events_touch T S n a b c d e f = (
  (λ t. subst (λ w. EventsTouch (event S n c) w) f (subst (λ w. EventsTouch w (event T n b)) e t)),
  λ t. subst (λ w. EventsTouch (event T n a) w) (sym f) (subst (λ w. EventsTouch w (event S n d)) (sym e) t),
)
