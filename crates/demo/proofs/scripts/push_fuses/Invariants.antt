use Rattle.std.proofs.Common.{◌≡◌, ◌++◌}
use Rattle.std.specs.Prelude.{replicate}
use Rattle.demo.specs.Inputs as spec
use Rattle.demo.proofs.scripts.push_fuses.Given as goal

abbrev pub invariant-loop : goal.invariant-loop
invariant-loop l = l.script ≡ l.fn.script ++ replicate l.counter spec.fuse_next
