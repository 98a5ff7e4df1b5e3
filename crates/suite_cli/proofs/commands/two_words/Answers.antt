use Rattle.std.proofs.Common.{◌≡◌, length, arith, sym}
use Rattle.suite_cli.proofs.WordLists.{two_words}
use Rattle.suite_cli.proofs.commands.two_words.Goals as goal

pub returns-in-Some-word : goal.returns-in-Some-word
returns-in-Some-word c =
    let two : length c.args.words.now ≡ 2 = omega arith in
    two_words _ _ _ two (sym c.in-Some.ensures.value) (sym c.in-Some-word.ensures.value)
