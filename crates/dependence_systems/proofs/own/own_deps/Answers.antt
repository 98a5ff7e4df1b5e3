use Rattle.std.proofs.Common.{IfErr, ◌≡◌, ap, subst, List, IfOk, IfErr}
use Rattle.dependence_systems.specs.declared.dependences.Dep.{Dep}
use Rattle.dependence_systems.specs.Sides.{Side, sides}
use Rattle.dependence_systems.specs.Entries.{entries, IsTooMany}
use Rattle.dependence_systems.proofs.OwnSystems.{own_has, own_same}
use Rattle.dependence_systems.proofs.own.own_deps.Goals as goal

pub deps-requires : goal.deps-requires
deps-requires c = own_has c.args.scop.now c.args.pieces.now c.requires.own

pub returns-clause-list : goal.returns-clause-list
returns-clause-list c =
    subst (λ (s : List Side). IfOk c.deps.result (λ (list : List Dep). list ≡ entries s)) (own_same c.args.scop.now c.args.pieces.now c.requires.own) c.deps.ensures.list

pub returns-clause-cause : goal.returns-clause-cause
returns-clause-cause c =
    subst (λ (s : List Side). IfErr c.deps.result (IsTooMany (entries s))) (own_same c.args.scop.now c.args.pieces.now c.requires.own) c.deps.ensures.cause
