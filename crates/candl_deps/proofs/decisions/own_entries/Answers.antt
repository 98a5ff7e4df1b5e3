use Rattle.std.proofs.Common.{refl}
use Rattle.std.proofs.lemmas.Result.{IfErr-weaker}
use Rattle.dependence_systems.specs.Sides.{own_sides}
use Rattle.dependence_systems.specs.Entries.{entries, IsTooMany}
use Rattle.candl_deps.specs.Decisions.{IsCause}
use Rattle.candl_deps.proofs.Printing.{many_is_cause}
use Rattle.candl_deps.proofs.decisions.own_entries.Goals as goal

pub returns-clause-cause : goal.returns-clause-cause
returns-clause-cause c =
    IfErr-weaker c.own_deps.result (IsTooMany (entries (own_sides c.args.scop.now))) (IsCause c.args.scop.now) (many_is_cause c.args.scop.now) c.own_deps.ensures.cause
