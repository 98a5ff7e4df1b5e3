use Rattle.std.proofs.Common.{◌≡◌, ◌+◌, ◌<◌, ◌^◌, rules, true, false, [], ◌∷◌, ◌++◌}
use Rattle.beta_tree.specs.Vectors.{no_statement, is_leaf, children_of}
use Rattle.beta_tree.specs.Answers.{fuse_answer}
use Rattle.beta_tree.proofs.Calls.{Done, fuse_done, fuse_no_next, fuse_leaf, fuse_next_leaf, next_fits, children_fit}
use Rattle.beta_tree.proofs.betas.Betas.fuse.Goals as goal

pub next_sibling-requires : goal.next_sibling-requires
next_sibling-requires c =
    let some : no_statement c.args.prefix.now c.self.inside.vectors ≡ false = search rules in
    next_fits _ _ _ _ c.self.invariant c.in-Some.ensures some

pub returns-then-not-is_under-2-clause-cause : goal.returns-then-not-is_under-2-clause-cause
returns-then-not-is_under-2-clause-cause c =
    let some : no_statement c.args.prefix.now c.self.inside.vectors ≡ false = search rules in
    let none : no_statement (c.in-Some.siblings.now ++ (c.in-Some.p + 1) ∷ []) c.self.inside.vectors ≡ true = search rules in
    rw (← c.self.view_is) (fuse_no_next _ _ _ _ c.in-Some.ensures some none)

pub returns-then-is_leaf-clause-cause : goal.returns-then-is_leaf-clause-cause
returns-then-is_leaf-clause-cause c =
    let some : no_statement c.args.prefix.now c.self.inside.vectors ≡ false = search rules in
    let next : no_statement (c.in-Some.siblings.now ++ (c.in-Some.p + 1) ∷ []) c.self.inside.vectors ≡ false = search rules in
    let leaf : is_leaf c.args.prefix.now c.self.inside.vectors ≡ true = search rules in
    rw (← c.self.view_is) (fuse_leaf _ _ _ _ c.in-Some.ensures some next leaf)

pub returns-then-is_leaf-2-clause-cause : goal.returns-then-is_leaf-2-clause-cause
returns-then-is_leaf-2-clause-cause c =
    let some : no_statement c.args.prefix.now c.self.inside.vectors ≡ false = search rules in
    let next : no_statement (c.in-Some.siblings.now ++ (c.in-Some.p + 1) ∷ []) c.self.inside.vectors ≡ false = search rules in
    let leafless : is_leaf c.args.prefix.now c.self.inside.vectors ≡ false = search rules in
    let leaf : is_leaf (c.in-Some.siblings.now ++ (c.in-Some.p + 1) ∷ []) c.self.inside.vectors ≡ true = search rules in
    rw (← c.self.view_is) (fuse_next_leaf _ _ _ _ c.in-Some.ensures some next leafless leaf)

pub overflow_cast-count : goal.overflow_cast-count
overflow_cast-count c =
    let few : children_of c.args.prefix.now c.self.inside.vectors < 2 ^ 32 = children_fit _ _ c.self.invariant in
    let is : c.count_children-count.result ≡ children_of c.args.prefix.now c.self.inside.vectors = c.count_children-count.ensures in
    search rules

pub join_all-requires : goal.join_all-requires
join_all-requires c =
    let some : no_statement c.args.prefix.now c.self.inside.vectors ≡ false = search rules in
    let next : no_statement (c.in-Some.siblings.now ++ (c.in-Some.p + 1) ∷ []) c.self.inside.vectors ≡ false = search rules in
    let leafless : is_leaf c.args.prefix.now c.self.inside.vectors ≡ false = search rules in
    let next_leafless : is_leaf (c.in-Some.siblings.now ++ (c.in-Some.p + 1) ∷ []) c.self.inside.vectors ≡ false = search rules in
    rw c.count_children-count.ensures (fuse_done _ _ _ _ c.self.invariant c.in-Some.ensures some next leafless next_leafless).fit

done : (c : goal.After-drop-next-inside-2) → Done (fuse_answer c.args.prefix.now c.self.inside.vectors) c.in_ok-self-inside.field-0
done c =
    let some : no_statement c.args.prefix.now c.self.inside.vectors ≡ false = search rules in
    let next : no_statement (c.in-Some.siblings.now ++ (c.in-Some.p + 1) ∷ []) c.self.inside.vectors ≡ false = search rules in
    let leafless : is_leaf c.args.prefix.now c.self.inside.vectors ≡ false = search rules in
    let next_leafless : is_leaf (c.in-Some.siblings.now ++ (c.in-Some.p + 1) ∷ []) c.self.inside.vectors ≡ false = search rules in
    rw (c.in_ok-self-inside.ensures, c.count_children-count.ensures) (fuse_done _ _ _ _ c.self.invariant c.in-Some.ensures some next leafless next_leafless)

pub invariant_of-self : goal.invariant_of-self
invariant_of-self c = (done c).tree

pub returns-clause-ok : goal.returns-clause-ok
returns-clause-ok c = rw (← c.self.view_is) (done c).answer_is

pub returns-clause-tree : goal.returns-clause-tree
returns-clause-tree c = (done c).tree
