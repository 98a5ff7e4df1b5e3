use Rattle.std.proofs.Common.{sym, subst}
use Rattle.std.proofs.lemmas.List.Elements.{All-push}
use Rattle.scop_data.specs.SolvedRows.{HasSizes, PairFits}
use Rattle.schedule_forms.proofs.SolvedForms.{pairs_push}
use Rattle.schedule_forms.proofs.part_solutions.push_floor.Goals as goal

pub returns-clause-sizes : goal.returns-clause-sizes
returns-clause-sizes c = λ all.
    rw c.in_ok-push.ensures.ok
    (All-push (λ floor. HasSizes c.args.part.now.shape.inputs c.args.part.now.shape.locals c.args.part.now.shape.parameters floor.value)
    c.args.made.now c.in_ok-floor.floor all c.in_ok-floor.ensures.sizes)

pub returns-clause-pairs : goal.returns-clause-pairs
returns-clause-pairs c = λ all.
    pairs_push c.args.made.now c.push.new.self c.in_ok-floor.floor c.in_ok-push.ensures.ok
    (subst (λ m. PairFits m c.in_ok-floor.floor) (sym c.requires.behind) c.in_ok-floor.ensures.pair) all
