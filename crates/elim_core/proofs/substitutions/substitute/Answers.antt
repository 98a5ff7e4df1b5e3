use Rattle.std.proofs.Common.{◌≡◌, arith}
use Rattle.std.proofs.lemmas.Grind.{common_steps}
use Rattle.elim_core.specs.Elimination.{substituted}
use Rattle.elim_core.proofs.Widths.{wide_substituted}
use Rattle.elim_core.proofs.substitutions.substitute.Goals as goal

pub new-requires-clause-wide : goal.new-requires-clause-wide
new-requires-clause-wide g c =
    let h : c.loop-w.made.items ≡ substituted c.args.j c.args.e.now c.args.tableau.rows = grind (arith, common_steps) in
    rw (c.width-width.ensures.value, h) (wide_substituted c.args.tableau.width c.args.j c.args.e.now c.args.tableau.rows c.requires.row c.width-width.ensures.wide)
