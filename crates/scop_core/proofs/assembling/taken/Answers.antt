use Rattle.std.proofs.lemmas.List.{length-set, drop-set-lt}
use Rattle.std.proofs.Common.{◌+◌, ◌∙◌, ap, drop, length, arith}
use Rattle.scop_core.proofs.assembling.taken.Goals as goal

pub returns-clause-rest : goal.returns-clause-rest
returns-clause-rest c = ap (drop (c.args.k + 1)) c.set.ensures.items ∙ drop-set-lt (c.args.k + 1) c.args.raws.now c.args.k _ (omega arith)

pub returns-clause-count : goal.returns-clause-count
returns-clause-count c = ap length c.set.ensures.items ∙ length-set c.args.raws.now c.args.k _
