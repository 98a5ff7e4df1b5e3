use Rattle.std.proofs.Common.{◌∙◌}
use Rattle.clan_walk.proofs.Placed.{skipped}
use Rattle.clan_walk.proofs.extractions.Extraction.skip_assignment.Goals as goal

pub returns : goal.returns
returns c a = c.count.ensures ∙ skipped c.args.self.now a c.requires
