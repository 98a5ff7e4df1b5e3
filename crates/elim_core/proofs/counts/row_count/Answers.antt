use Rattle.elim_core.proofs.Started.{all_wide}
use Rattle.elim_core.proofs.Widths.{wide_started}
use Rattle.elim_core.proofs.counts.row_count.Goals as goal

pub returns-clause-wide : goal.returns-clause-wide
returns-clause-wide c = all_wide _ c.args.system.now.rows c.row_count-form.ensures.form.widths

pub returns-clause-started : goal.returns-clause-started
returns-clause-started c = wide_started _ c.args.system.now.rows (all_wide _ c.args.system.now.rows c.row_count-form.ensures.form.widths)
