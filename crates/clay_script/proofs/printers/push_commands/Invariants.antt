use Rattle.std.proofs.Common.{◌≡◌, ◌++◌, drop}
use Rattle.clay_script.specs.Layout.{layout, FitCommands}
use Rattle.clay_script.proofs.printers.push_commands.Given as goal

abbrev pub invariant-loop-command : goal.invariant-loop-command
invariant-loop-command l = record {
  text : l.text ++ layout (drop l.command-index l.commands) ≡ l.fn.text ++ layout l.commands;
  fits : FitCommands (drop l.command-index l.commands) → FitCommands l.commands;
}
