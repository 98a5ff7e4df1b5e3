use Rattle.std.proofs.Common.{◌≡◌, ◌-◌, true, false, length}
use Rattle.suite_cli.specs.Commands.{command_of, files_of, has_input, has_no_name}
use Rattle.suite_cli.specs.Worlds.{inputs_of}
use Rattle.suite_cli.proofs.FileLists.{HaveRead}
use Rattle.suite_cli.proofs.readings.read_files.Given as goal

abbrev pub invariant-loop-file : goal.invariant-loop-file
invariant-loop-file g l = record {
  read : HaveRead (inputs_of g.F.Files g.I.Source l.fn.files l.fn.input) (inputs_of g.F.Files g.I.Source l.files l.input) (files_of (command_of l.work)) l.texts;
  held : g.F.Files.held l.files ≡ g.F.Files.held l.fn.files;
  untouched : has_no_name (files_of (command_of l.work)) ≡ true → l.files ≡ l.fn.files;
  unread : has_input (files_of (command_of l.work)) ≡ false → l.input ≡ l.fn.input;
}

abbrev pub decreases-loop-file : goal.decreases-loop-file
decreases-loop-file g l = length (files_of (command_of l.work)) - length l.texts
