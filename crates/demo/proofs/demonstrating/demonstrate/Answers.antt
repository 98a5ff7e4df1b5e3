use Rattle.demo.proofs.Stages.{stops_complete, text_completes}
use Rattle.demo.proofs.demonstrating.demonstrate.Goals as goal

pub returns-in-Err-clause-complete : goal.returns-in-Err-clause-complete
returns-in-Err-clause-complete c = text_completes c.args.k c.in-Err.fail c.in-Err.ensures

pub returns-in-Ok-clause-complete : goal.returns-in-Ok-clause-complete
returns-in-Ok-clause-complete c = stops_complete c.args.k c.counted_demo.result c.counted_demo.ensures.err
