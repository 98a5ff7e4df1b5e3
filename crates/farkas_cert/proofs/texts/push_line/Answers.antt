use Rattle.farkas_cert.proofs.TextLaws.{pushed_line}
use Rattle.farkas_cert.proofs.texts.push_line.Goals as goal

pub returns-in_ok-push_multiplier-in-len1-up : goal.returns-in_ok-push_multiplier-in-len1-up
returns-in_ok-push_multiplier-in-len1-up c =
    pushed_line c.push_rest.result c.push_rest.new.text c.args.text.now _ c.args.multipliers.now c.first-item.result c.in-len1-up.len_at_least c.first-item.is c.in_ok-push_multiplier-in-len1-up.ensures c.push_rest.ensures
