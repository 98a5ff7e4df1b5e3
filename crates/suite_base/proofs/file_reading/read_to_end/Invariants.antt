use Rattle.std.proofs.Common.{◌≡◌, ◌+◌, ◌-◌, ◌≤◌, length, true}
use Rattle.suite_base.specs.Limits.{max_input}
use Rattle.suite_base.specs.Outside.{Took}
use Rattle.suite_base.proofs.file_reading.read_to_end.Given as goal

abbrev pub invariant-loop-files : goal.invariant-loop-files
invariant-loop-files g l = record {
  within : length l.text ≤ max_input + 1;
  took : Took (g.F.Files.left l.fn.files) l.text (g.F.Files.left l.files);
  stays : g.F.Files.is_open l.files ≡ true;
  held : g.F.Files.held l.files ≡ g.F.Files.held l.fn.files;
  grows : g.F.Files.faults l.fn.files ≤ g.F.Files.faults l.files;
}

abbrev pub decreases-loop-files : goal.decreases-loop-files
decreases-loop-files g l = max_input + 1 - length l.text
