use Rattle.std.proofs.Common.{◌≡◌, ◌∙◌, ap, length, refl}
use Rattle.scop_core.specs.ScopData.{ScopData}
use Rattle.candl_deps.specs.declared.held.Dependences.{Dependences}
use Rattle.dependence_systems.specs.Sides.{own_sides}
use Rattle.demo.proofs.Kept.{counted, same_many}
use Rattle.demo.proofs.counting.count_systems.Goals as goal

pub count_kept-kept-requires : goal.count_kept-kept-requires
count_kept-kept-requires c =
    let S : ScopData = c.args.scop.now in
    let found : Dependences = c.in-Ok.found in
    let all : c.len-all.result ≡ length found.deps = c.len-all.ensures ∙ ap length c.deps.ensures in
    all ∙ same_many S.context (own_sides S) found.deps found.decided c.in-Ok.ensures.are.decided

pub returns-in-Ok-clause-ok : goal.returns-in-Ok-clause-ok
returns-in-Ok-clause-ok c =
    let found : Dependences = c.in-Ok.found in
    let all : c.len-all.result ≡ length found.deps = c.len-all.ensures ∙ ap length c.deps.ensures in
    counted c.args.scop.now found c.len-all.result c.count_kept-kept.result _ c.in-Ok.ensures.are all c.count_kept-kept.ensures.kept refl
