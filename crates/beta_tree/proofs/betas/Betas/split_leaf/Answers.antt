use Rattle.std.proofs.Common.{◌≡◌, ◌+◌, ◌<◌, ◌^◌, rules, arith, true, false, length, []}
use Rattle.beta_tree.specs.Vectors.{no_statement, is_leaf}
use Rattle.beta_tree.specs.Answers.{leaf_answer}
use Rattle.beta_tree.proofs.Calls.{Done, leaf_done, next_fits, room_fit, nil_no_leaf}
use Rattle.beta_tree.proofs.betas.Betas.split_leaf.Goals as goal

pub returns-in_default-clause-cause : goal.returns-in_default-clause-cause
returns-in_default-clause-cause c =
    let nil : c.args.vector.now ≡ [] = search rules in
    let leaf : is_leaf c.args.vector.now c.self.inside.vectors ≡ true = search rules in
    let none : is_leaf c.args.vector.now c.self.inside.vectors ≡ false = rw nil (nil_no_leaf _ c.self.invariant) in
    absurd (cc)

pub split_leaves-requires-clause-next : goal.split_leaves-requires-clause-next
split_leaves-requires-clause-next c =
    let some : no_statement c.args.vector.now c.self.inside.vectors ≡ false = search rules in
    next_fits _ _ _ _ c.self.invariant c.in-Some.ensures some

pub split_leaves-requires-clause-fit : goal.split_leaves-requires-clause-fit
split_leaves-requires-clause-fit c =
    let leaf : is_leaf c.args.vector.now c.self.inside.vectors ≡ true = search rules in
    let few : length c.self.inside.vectors + 1 < 2 ^ 32 = rw c.self.view_is (omega arith) in
    room_fit _ _ _ _ c.self.invariant few c.in-Some.ensures leaf

done : (c : goal.After-drop-self-inside) → Done (leaf_answer c.args.vector.now c.self.inside.vectors) c.in_ok-self-inside.field-0
done c =
    let some : no_statement c.args.vector.now c.self.inside.vectors ≡ false = search rules in
    let leaf : is_leaf c.args.vector.now c.self.inside.vectors ≡ true = search rules in
    let few : length c.self.inside.vectors + 1 < 2 ^ 32 = rw c.self.view_is (omega arith) in
    rw c.in_ok-self-inside.ensures (leaf_done _ _ _ _ c.self.invariant few c.in-Some.ensures some leaf)

pub invariant_of-self : goal.invariant_of-self
invariant_of-self c = (done c).tree

pub returns-clause-tree : goal.returns-clause-tree
returns-clause-tree c = (done c).tree
