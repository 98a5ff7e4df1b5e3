use Rattle.std.proofs.Common.{◌≡◌, ◌∙◌, arith}
use Rattle.std.proofs.lemmas.Grind.{common_steps}
use Rattle.beta_tree.specs.Vectors.{heads, under}
use Rattle.beta_tree.proofs.Counts.{past_greatest, past_is_count}
use Rattle.beta_tree.proofs.Trees.{closed_children}
use Rattle.beta_tree.proofs.looks.count_children.Goals as goal

pub returns : goal.returns
returns c =
    let e : c.loop-vector.count ≡ past_greatest (heads (under c.args.prefix.now c.args.vectors.now)) = grind (arith, common_steps) in
    e ∙ past_is_count _ (closed_children _ _ c.requires)
