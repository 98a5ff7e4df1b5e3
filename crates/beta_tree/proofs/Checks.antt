-- Worked cases of the definitions.
use Rattle.std.proofs.Common.{◌≡◌, ℕ, pos, negsuc, List, [], ◌∷◌, Ok, Err, refl}
use Rattle.beta_tree.specs.declared.refusals.BetaFail.TheVariants.{NoBeta, NotALoop, BadArgument}
use Rattle.beta_tree.specs.Vectors.{dense_of, children_of}
use Rattle.beta_tree.specs.Laws.{inverse_of}
use Rattle.beta_tree.specs.Answers.{fission_answer, fuse_answer, reorder_answer, level_answer, leaf_answer}

-- a loop of two statements, and one statement after it
abbrev first : List (List ℕ)
first = (0 ∷ (0 ∷ [])) ∷ ((0 ∷ (1 ∷ [])) ∷ ((1 ∷ []) ∷ []))

abbrev parted : List (List ℕ)
parted = (0 ∷ (0 ∷ [])) ∷ ((1 ∷ (0 ∷ [])) ∷ ((2 ∷ []) ∷ []))

fission_of_first : fission_answer (0 ∷ []) 1 first ≡ Ok parted
fission_of_first = refl

fission_past_the_last : fission_answer (0 ∷ []) 2 first ≡ Err BadArgument
fission_past_the_last = refl

fission_of_a_leaf : fission_answer (1 ∷ []) 0 first ≡ Err NotALoop
fission_of_a_leaf = refl

fission_of_all : fission_answer [] 1 first ≡ Err NotALoop
fission_of_all = refl

fission_of_none : fission_answer (2 ∷ []) 1 first ≡ Err NoBeta
fission_of_none = refl

fuse_of_parted : fuse_answer (0 ∷ []) parted ≡ Ok first
fuse_of_parted = refl

fuse_with_a_leaf : fuse_answer (1 ∷ []) parted ≡ Err NotALoop
fuse_with_a_leaf = refl

fuse_of_the_last : fuse_answer (1 ∷ []) first ≡ Err NoBeta
fuse_of_the_last = refl

reorder_of_parted : reorder_answer [] (2 ∷ (0 ∷ (1 ∷ []))) parted ≡ Ok ((1 ∷ (0 ∷ [])) ∷ ((2 ∷ (0 ∷ [])) ∷ ((0 ∷ []) ∷ [])))
reorder_of_parted = refl

reorder_twice : reorder_answer [] (0 ∷ (0 ∷ (1 ∷ []))) parted ≡ Err BadArgument
reorder_twice = refl

level_in_first : level_answer (0 ∷ []) 1 first ≡ Ok ((0 ∷ (0 ∷ (0 ∷ []))) ∷ ((0 ∷ (0 ∷ (1 ∷ []))) ∷ ((1 ∷ []) ∷ [])))
level_in_first = refl

leaf_in_first : leaf_answer (0 ∷ (0 ∷ [])) first ≡ Ok ((0 ∷ (0 ∷ [])) ∷ ((0 ∷ (1 ∷ [])) ∷ ((0 ∷ (2 ∷ [])) ∷ ((1 ∷ []) ∷ []))))
leaf_in_first = refl

leaf_of_a_loop : leaf_answer (0 ∷ []) first ≡ Err BadArgument
leaf_of_a_loop = refl

dense_of_sparse : dense_of ((pos 7 ∷ (pos 5 ∷ [])) ∷ ((pos 7 ∷ (negsuc 8 ∷ [])) ∷ ((negsuc 0 ∷ (pos 3 ∷ [])) ∷ ((pos 9 ∷ []) ∷ [])))) ≡ (1 ∷ (1 ∷ [])) ∷ ((1 ∷ (0 ∷ [])) ∷ ((0 ∷ (0 ∷ [])) ∷ ((2 ∷ []) ∷ [])))
dense_of_sparse = refl

children_of_all : children_of [] parted ≡ 3
children_of_all = refl

inverse_of_an_order : inverse_of (2 ∷ (0 ∷ (1 ∷ []))) ≡ 1 ∷ (2 ∷ (0 ∷ []))
inverse_of_an_order = refl
