use Rattle.std.proofs.Common.{◌≡◌, drop}
use Rattle.clay_script.specs.Names.{named_among}
use Rattle.clay_script.proofs.command_names.named_in.Given as goal

abbrev pub invariant-loop-name : goal.invariant-loop-name
invariant-loop-name l = named_among (drop l.name-index l.names) l.letters ≡ named_among l.names l.letters
