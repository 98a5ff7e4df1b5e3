use Rattle.std.proofs.Common.{◌≡◌, ◌<◌, rules, arith, false}
use Rattle.beta_tree.specs.Vectors.{no_statement, is_leaf, children_of}
use Rattle.beta_tree.specs.Answers.{fission_answer}
use Rattle.beta_tree.proofs.Calls.{Done, fission_done}
use Rattle.beta_tree.proofs.betas.Betas.fission.Goals as goal

pub split_all-requires : goal.split_all-requires
split_all-requires c =
    let some : no_statement c.args.prefix.now c.self.inside.vectors ≡ false = search rules in
    let leafless : is_leaf c.args.prefix.now c.self.inside.vectors ≡ false = search rules in
    let first : 0 < c.args.first = omega arith in
    let within : c.args.first < children_of c.args.prefix.now c.self.inside.vectors = omega arith in
    (fission_done _ _ _ _ _ c.self.invariant c.in-Some.ensures some leafless first within).fit

done : (c : goal.After-drop-self-inside) → Done (fission_answer c.args.prefix.now c.args.first c.self.inside.vectors) c.in_ok-self-inside.field-0
done c =
    let some : no_statement c.args.prefix.now c.self.inside.vectors ≡ false = search rules in
    let leafless : is_leaf c.args.prefix.now c.self.inside.vectors ≡ false = search rules in
    let first : 0 < c.args.first = omega arith in
    let within : c.args.first < children_of c.args.prefix.now c.self.inside.vectors = omega arith in
    rw c.in_ok-self-inside.ensures (fission_done _ _ _ _ _ c.self.invariant c.in-Some.ensures some leafless first within)

pub invariant_of-self : goal.invariant_of-self
invariant_of-self c = (done c).tree

pub returns-clause-ok : goal.returns-clause-ok
returns-clause-ok c = rw (← c.self.view_is) (done c).answer_is

pub returns-clause-tree : goal.returns-clause-tree
returns-clause-tree c = (done c).tree
