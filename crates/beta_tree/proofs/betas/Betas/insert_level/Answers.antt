use Rattle.std.proofs.Common.{◌≡◌, rules, false}
use Rattle.beta_tree.specs.Vectors.{no_statement, LongerUnder}
use Rattle.beta_tree.specs.Answers.{level_answer}
use Rattle.beta_tree.proofs.Calls.{Done, level_done}
use Rattle.beta_tree.proofs.betas.Betas.insert_level.Goals as goal

done : (c : goal.After-drop-self-inside) → Done (level_answer c.args.prefix.now c.args.level c.self.inside.vectors) c.in_ok-self-inside.field-0
done c =
    let some : no_statement c.args.prefix.now c.self.inside.vectors ≡ false = search rules in
    let longer : LongerUnder c.args.prefix.now c.args.level c.self.inside.vectors = rw c.self.view_is c.requires.longer in
    rw c.in_ok-self-inside.ensures (level_done _ _ _ c.self.invariant c.requires.below longer some)

pub invariant_of-self : goal.invariant_of-self
invariant_of-self c = (done c).tree

pub returns-clause-tree : goal.returns-clause-tree
returns-clause-tree c = (done c).tree
