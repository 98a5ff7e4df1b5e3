use Rattle.std.proofs.Common.{◌∙◌}
use Rattle.schedule_forms.proofs.SolvedShapes.{both}
use Rattle.scop_core.proofs.Assemblies.{statement_fits}
use Rattle.scop_core.proofs.assembling.statement_from.Goals as goal

pub schedule_from-requires : goal.schedule_from-requires
schedule_from-requires c = (both _ _ c.requires.solved).0

pub accesses_from-requires : goal.accesses_from-requires
accesses_from-requires c = rw c.as_slice.ensures (both _ _ c.requires.solved).1

pub returns-clause-printable : goal.returns-clause-printable
returns-clause-printable c = λ p shapes.
    let f = statement_fits p _ c.args.raw c.in_ok-schedule.schedule c.in_ok-accesses.accesses c.requires.solved c.in_ok-schedule.ensures.printable
    (λ d q h. c.in_ok-accesses.ensures.printable d q (rw c.as_slice.ensures h)) (c.in_ok-body.ensures.count ∙ c.iterator_count-iterators.ensures.answer) shapes in
    record { schedule = f.0; accesses = f.1 }
