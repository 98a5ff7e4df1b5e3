use Rattle.std.proofs.Common.{◌≡◌, ◌≢◌, ◌+◌, [], ◌∷◌, ◌++◌, rules, sym, ◌∙◌}
use Rattle.beta_tree.specs.Edits.{leaf_split, below, make_room}
use Rattle.beta_tree.proofs.Leaves.{split_leaf, split_other, same_vector_yes, same_vector_no}
use Rattle.beta_tree.proofs.rebuilds.push_split.Goals as goal

pub returns-then-eq : goal.returns-then-eq
returns-then-eq c =
    let same : c.args.vector.now ≡ c.args.siblings.now ++ c.args.p ∷ [] = same_vector_yes c.args.vector.now c.args.leaf.now (sym c.eq.ensures ∙ c.if-eq.true) ∙ c.requires.leaf in
    let made : leaf_split (c.args.siblings.now ++ c.args.p ∷ []) c.args.vector.now ≡ c.args.vector.now ∷ ((c.args.siblings.now ++ (c.args.p + 1) ∷ []) ∷ []) = split_leaf c.args.siblings.now c.args.p c.args.vector.now same in
    rw (c.requires.leaf, made) (search rules)

pub returns-in_ok-room_vector : goal.returns-in_ok-room_vector
returns-in_ok-room_vector c =
    let other : c.args.vector.now ≢ c.args.siblings.now ++ c.args.p ∷ [] = λ e. same_vector_no c.args.vector.now c.args.leaf.now (sym c.eq.ensures ∙ c.if-eq.false) (e ∙ sym c.requires.leaf) in
    let made : leaf_split (c.args.siblings.now ++ c.args.p ∷ []) c.args.vector.now ≡ below c.args.siblings.now (make_room c.args.p) c.args.vector.now ∷ [] = split_other c.args.siblings.now c.args.p c.args.vector.now other in
    rw (c.requires.leaf, made) (search rules)
