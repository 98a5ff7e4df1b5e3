use Rattle.std.proofs.Common.{◌≡◌, arith}
use Rattle.std.proofs.lemmas.Grind.{common_steps}
use Rattle.elim_core.specs.Pruning.{marked}
use Rattle.elim_core.specs.RowLists.{Wide}
use Rattle.elim_core.proofs.Marking.{all_marked}
use Rattle.elim_core.proofs.normalising.keep_marked.Goals as goal

pub new-requires-clause-wide : goal.new-requires-clause-wide
new-requires-clause-wide g c =
    let h : c.loop-w.kept.items ≡ marked c.args.tableau.rows c.args.stays.now = grind (arith, common_steps) in
    rw (c.width-width.ensures.value, h) (all_marked (Wide c.args.tableau.width) c.args.tableau.rows c.args.stays.now c.width-width.ensures.wide)
