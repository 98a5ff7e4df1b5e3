use Rattle.std.proofs.Common.{◌≡◌, ◌∙◌, neg_ℤ, ◌+ℤ◌, negsuc, arith}
use Rattle.std.proofs.lemmas.Int.{ints}
use Rattle.clay_commands.proofs.SplitConditions.{half_is}
use Rattle.clay_commands.proofs.splits.other_half.Goals as goal

pub returns : goal.returns
returns c =
    let below : c.bounded-constant.result ≡ neg_ℤ c.args.constant +ℤ negsuc 0 = omega (arith, ints) in
    half_is c.args.iterators.now c.args.parameters.now c.as_slice.result.now c.as_slice-2.result.now c.args.constant c.bounded-constant.result c.args.statement.now c.in_ok-made.made
    c.restrict.new.statement c.in_ok-made.ensures (c.as_slice.ensures ∙ c.in_ok-iterators.ensures) (c.as_slice-2.ensures ∙ c.in_ok-parameters.ensures) below c.in_ok-restrict.ensures
