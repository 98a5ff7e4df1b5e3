use Rattle.scop_core.proofs.Assemblies.{access_pushed}
use Rattle.scop_core.proofs.assembling.push_access.Goals as goal

pub returns-clause-printable : goal.returns-clause-printable
returns-clause-printable c = λ d p inputs before.
    access_pushed d p c.args.access.now.1 c.requires c.args.made.now c.push.new.self c.in_ok-one.one c.in_ok-push.ensures.ok c.in_ok-one.ensures.printable inputs before
