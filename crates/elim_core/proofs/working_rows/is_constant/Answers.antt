use Rattle.elim_core.proofs.Entries.{constant_by_place}
use Rattle.elim_core.proofs.working_rows.is_constant.Goals as goal

pub returns : goal.returns
returns g c = constant_by_place c.args.n c.next_place.result c.args.w.now.entries c.next_place.ensures.to (λ i a b. c.next_place.ensures.zeros i a b) c.next_place.ensures.found
