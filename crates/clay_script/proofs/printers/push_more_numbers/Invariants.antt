use Rattle.std.proofs.Common.{◌≡◌, ◌++◌, map, drop}
use Rattle.std.specs.List.{flat_map}
use Rattle.std.specs.Fmt.{signed_decimal}
use Rattle.clay_script.specs.Layout.{behind_comma}
use Rattle.clay_script.proofs.printers.push_more_numbers.Given as goal

abbrev pub invariant-loop-number : goal.invariant-loop-number
invariant-loop-number l = l.text ++ flat_map behind_comma (map signed_decimal (drop l.number-index l.numbers)) ≡ l.fn.text ++ flat_map behind_comma (map signed_decimal l.numbers)
