use Rattle.scop_reader.proofs.LastBytes.{last_tells}
use Rattle.scop_reader.proofs.extension_names.is_bracketed.Goals as goal

pub returns-then-first-eq60 : goal.returns-then-first-eq60
returns-then-first-eq60 c = last_tells c.args.line.now 60 62 c.in-len2-up.len_at_least c.if-first-eq60.true
