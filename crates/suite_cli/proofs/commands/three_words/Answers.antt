use Rattle.std.proofs.Common.{◌≡◌, length, arith, sym}
use Rattle.suite_cli.proofs.WordLists.{three_words}
use Rattle.suite_cli.proofs.commands.three_words.Goals as goal

pub returns-in-Some-word-2 : goal.returns-in-Some-word-2
returns-in-Some-word-2 c =
    let three : length c.args.words.now ≡ 3 = omega arith in
    three_words _ _ _ _ three (sym c.in-Some.ensures.value) (sym c.in-Some-word.ensures.value) (sym c.in-Some-word-2.ensures.value)
