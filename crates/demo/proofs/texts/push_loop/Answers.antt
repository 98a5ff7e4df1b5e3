use Rattle.demo.proofs.Appends.{loop_pushed}
use Rattle.demo.proofs.texts.push_loop.Goals as goal

pub returns : goal.returns
returns c = loop_pushed c.args.text.now c.push_bytes.new.self c.push_assignment.new.text c.args.k c.in_ok-push_bytes.ensures.ok c.in_ok-push_assignment.ensures
