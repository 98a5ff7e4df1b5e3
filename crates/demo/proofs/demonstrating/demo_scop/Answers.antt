use Rattle.std.proofs.Common.{◌∙◌}
use Rattle.demo.proofs.Stages.{short_text, text_translates}
use Rattle.demo.proofs.demonstrating.demo_scop.Goals as goal

pub region_scop-requires : goal.region_scop-requires
region_scop-requires c = record { short = short_text c.args.k c.bytes.result.now (c.bytes.ensures ∙ c.in-Ok.ensures) c.requires.most }

pub returns-in-Ok : goal.returns-in-Ok
returns-in-Ok c = text_translates c.args.k c.bytes.result.now c.region_scop.result (c.bytes.ensures ∙ c.in-Ok.ensures) c.region_scop.ensures
