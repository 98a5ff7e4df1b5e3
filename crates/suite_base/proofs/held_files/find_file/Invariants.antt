use Rattle.std.proofs.Common.{◌≡◌, drop}
use Rattle.suite_base.specs.Outside.{bytes_under}
use Rattle.suite_base.proofs.held_files.find_file.Given as goal

abbrev pub invariant-loop-k : goal.invariant-loop-k
invariant-loop-k l = bytes_under l.name (drop l.k l.files) ≡ bytes_under l.name l.files
