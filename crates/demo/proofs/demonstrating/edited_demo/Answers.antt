use Rattle.std.proofs.Common.{◌∙◌, ap, length}
use Rattle.demo.proofs.Stages.{demo_accepted, demo_made, script_stops, short_script}
use Rattle.demo.proofs.demonstrating.edited_demo.Goals as goal

pub edited_scop-requires : goal.edited_scop-requires
edited_scop-requires c = record { few = short_script c.args.k c.args.script.now c.requires.script c.requires.most }

pub recovered_demo-requires-clause-read : goal.recovered_demo-requires-clause-read
recovered_demo-requires-clause-read c = c.requires.read

pub recovered_demo-requires-clause-commands : goal.recovered_demo-requires-clause-commands
recovered_demo-requires-clause-commands c = c.len.ensures ∙ ap length c.requires.script

pub recovered_demo-requires-clause-accepted : goal.recovered_demo-requires-clause-accepted
recovered_demo-requires-clause-accepted c = demo_accepted c.args.k c.args.scop.now c.args.script.now c.requires.script c.in-Ok.ensures.accepted

pub recovered_demo-requires-clause-made : goal.recovered_demo-requires-clause-made
recovered_demo-requires-clause-made c =
    demo_made c.args.k c.args.scop.now c.args.script.now c.in-Ok.made c.requires.script c.in-Ok.ensures.made

pub returns-in-Err-clause-err : goal.returns-in-Err-clause-err
returns-in-Err-clause-err c =
    script_stops c.args.k c.args.scop.now c.args.systems c.args.script.now c.in-Err.fail c.requires.read c.requires.script c.in-Err.ensures.err

pub returns-in-Ok-clause-ok : goal.returns-in-Ok-clause-ok
returns-in-Ok-clause-ok c = c.recovered_demo.ensures.ok

pub returns-in-Ok-clause-err : goal.returns-in-Ok-clause-err
returns-in-Ok-clause-err c = c.recovered_demo.ensures.err
