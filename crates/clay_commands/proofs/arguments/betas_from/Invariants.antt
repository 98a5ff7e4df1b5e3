use Rattle.std.proofs.Common.{◌≡◌, map, take, drop}
use Rattle.clay_commands.specs.Arguments.{natural, all_fit}
use Rattle.clay_commands.proofs.arguments.betas_from.Given as goal

abbrev pub invariant-loop-number : goal.invariant-loop-number
invariant-loop-number l = record {
  made : l.made ≡ map natural (take l.number-index l.numbers);
  rest : all_fit (drop l.number-index l.numbers) ≡ all_fit l.numbers;
}
