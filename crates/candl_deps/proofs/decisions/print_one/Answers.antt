use Rattle.dependence_systems.specs.Sides.{own_sides}
use Rattle.candl_deps.proofs.Printing.{printed_one}
use Rattle.candl_deps.proofs.decisions.print_one.Goals as goal

pub returns-in_ok-print_entry-in-Ok-clause-printed : goal.returns-in_ok-print_entry-in-Ok-clause-printed
returns-in_ok-print_entry-in-Ok-clause-printed c =
    printed_one c.args.scop.now.context (own_sides c.args.scop.now) c.args.entry.now c.in-Ok.level.base.part c.in-Ok.level.certificate
    c.args.lines.now c.print_entry.new.lines c.in-Ok.ensures.decided c.print_entry.ensures.readable c.in_ok-print_entry-in-Ok.ensures.lines
