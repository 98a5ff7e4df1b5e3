use Rattle.std.proofs.Common.{◌≡◌, arith}
use Rattle.std.proofs.lemmas.Grind.{common_steps}
use Rattle.elim_core.specs.Elimination.{substituted}
use Rattle.elim_core.proofs.Widths.{wide_substituted}
use Rattle.elim_core.proofs.substitutions.substitute_copies.Goals as goal

pub new-requires-clause-wide : goal.new-requires-clause-wide
new-requires-clause-wide g c =
    let h : c.loop-k.made.items ≡ substituted c.args.j c.args.e.now c.args.tableau.now.rows = grind (arith, common_steps) in
    rw (c.width.ensures.value, h) (wide_substituted c.args.tableau.now.width c.args.j c.args.e.now c.args.tableau.now.rows c.requires.row c.width.ensures.wide)
