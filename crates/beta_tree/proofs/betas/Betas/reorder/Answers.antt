use Rattle.std.proofs.Common.{◌≡◌, rules, true, false, arith}
use Rattle.beta_tree.specs.Vectors.{no_statement, is_leaf, children_of}
use Rattle.beta_tree.specs.Edits.{is_permutation_of}
use Rattle.beta_tree.specs.Answers.{reorder_answer}
use Rattle.beta_tree.proofs.Calls.{Done, reorder_done, children_fit}
use Rattle.beta_tree.proofs.Tabled.{permutation_length, permutes_itself}
use Rattle.beta_tree.proofs.betas.Betas.reorder.Goals as goal

pub reorder_all-requires-clause-few : goal.reorder_all-requires-clause-few
reorder_all-requires-clause-few c =
    let permutes : is_permutation_of (children_of c.args.prefix.now c.self.inside.vectors) c.args.order.now ≡ true = search rules in
    let few = children_fit c.args.prefix.now c.self.inside.vectors c.self.invariant in
    let long = permutation_length (children_of c.args.prefix.now c.self.inside.vectors) c.args.order.now permutes in
    omega arith

pub reorder_all-requires-clause-permutes : goal.reorder_all-requires-clause-permutes
reorder_all-requires-clause-permutes c =
    let permutes : is_permutation_of (children_of c.args.prefix.now c.self.inside.vectors) c.args.order.now ≡ true = search rules in
    permutes_itself (children_of c.args.prefix.now c.self.inside.vectors) c.args.order.now permutes

done : (c : goal.After-drop-self-inside) → Done (reorder_answer c.args.prefix.now c.args.order.now c.self.inside.vectors) c.in_ok-self-inside.field-0
done c =
    let some : no_statement c.args.prefix.now c.self.inside.vectors ≡ false = search rules in
    let leafless : is_leaf c.args.prefix.now c.self.inside.vectors ≡ false = search rules in
    let permutes : is_permutation_of (children_of c.args.prefix.now c.self.inside.vectors) c.args.order.now ≡ true = search rules in
    rw c.in_ok-self-inside.ensures (reorder_done _ _ _ c.self.invariant some leafless permutes)

pub invariant_of-self : goal.invariant_of-self
invariant_of-self c = (done c).tree

pub returns-clause-tree : goal.returns-clause-tree
returns-clause-tree c = (done c).tree
