use Rattle.std.proofs.Common.{◌≡◌, rules}
use Rattle.script_tests.proofs.Samples.{sample, sample_free}
use Rattle.script_tests.proofs.beta_tests.loop_and_statement.Goals as goal

pub dense-requires-clause-free : goal.dense-requires-clause-free
dense-requires-clause-free c =
    let is : c.push-4.new.self ≡ sample = search rules in
    rw is sample_free
