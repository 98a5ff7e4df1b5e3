use Rattle.demo.proofs.Appends.{summary_made}
use Rattle.demo.proofs.summaries.summary.Goals as goal

pub returns : goal.returns
returns c =
    summary_made c.new-text.result c.push_count.new.text c.push_count-2.new.text c.push_systems.new.text c.push_count-3.new.text c.push_count-4.new.text
    c.args.counts.now c.new-text.ensures c.in_ok-push_count.ensures c.in_ok-push_count-2.ensures c.in_ok-push_systems.ensures c.in_ok-push_count-3.ensures
    c.in_ok-push_count-4.ensures
