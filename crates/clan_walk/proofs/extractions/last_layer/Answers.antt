use Rattle.std.proofs.Common.{length, arith, ◌-◌}
use Rattle.clan_rows.specs.Contents.{said}
use Rattle.clan_walk.proofs.Placed.{last_at}
use Rattle.clan_walk.proofs.extractions.last_layer.Goals as goal

pub returns-in-len1-up : goal.returns-in-len1-up
returns-in-len1-up c = last_at said (said c.args.base.now) c.args.layers.now (length c.args.layers.now - 1) c.last-item.result (omega (arith, c.in-len1-up.len_at_least)) c.last-item.is
