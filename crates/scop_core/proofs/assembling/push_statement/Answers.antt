use Rattle.std.proofs.lemmas.List.Elements.{All-push}
use Rattle.scop_data.specs.SolvedData.{HasRelations}
use Rattle.scop_core.proofs.assembling.push_statement.Goals as goal

pub returns-clause-printable : goal.returns-clause-printable
returns-clause-printable c = λ p shapes before.
    rw c.in_ok-push.ensures.ok (All-push (HasRelations p) c.args.made.now c.in_ok-one.one before (c.in_ok-one.ensures.printable p shapes))
