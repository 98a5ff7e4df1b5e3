use Rattle.demo.proofs.Appends.{text_made}
use Rattle.demo.proofs.texts.demo_text.Goals as goal

pub returns : goal.returns
returns c =
    text_made c.new-text.result c.push_bytes.new.self c.push_loops.new.text c.push_bytes-2.new.self c.args.k
    c.new-text.ensures c.in_ok-push_bytes.ensures.ok c.in_ok-push_loops.ensures c.in_ok-push_bytes-2.ensures.ok
