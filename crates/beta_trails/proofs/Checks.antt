-- Worked cases of the definitions.
use Rattle.std.proofs.Common.{◌≡◌, ℕ, List, [], ◌∷◌, Ok, refl}
use Rattle.beta_tree.specs.Answers.{fission_answer, fuse_answer, reorder_answer}
use Rattle.beta_trails.specs.Trails.{zeros, trail, steps_from, ranked}
use Rattle.beta_trails.specs.Laws.{parted_loop, parted_child, placed_from}

-- a loop of two statements, and one statement after it
abbrev two_and_one : List (List ℕ)
two_and_one = (0 ∷ (0 ∷ [])) ∷ ((0 ∷ (1 ∷ [])) ∷ ((1 ∷ []) ∷ []))

steps_of_two_and_one : steps_from (0 ∷ (0 ∷ [])) ((0 ∷ (1 ∷ [])) ∷ ((1 ∷ []) ∷ [])) ≡ (1, 2) ∷ ((0, 1) ∷ [])
steps_of_two_and_one = refl

trail_of_two_and_one : trail (zeros 2) ((1, 2) ∷ ((0, 1) ∷ [])) ≡ two_and_one
trail_of_two_and_one = refl

parted_two_and_one : fission_answer (parted_loop 2 1 []) (parted_child 2 1 []) two_and_one ≡ Ok (trail (zeros 2) ((0, 2) ∷ ((0, 1) ∷ [])))
parted_two_and_one = refl

parted_loop_is : parted_loop 2 1 [] ≡ 0 ∷ []
parted_loop_is = refl

parted_child_is : parted_child 2 1 [] ≡ 1
parted_child_is = refl

joined_two_and_one : fuse_answer (0 ∷ []) (trail (zeros 2) ((0, 2) ∷ ((0, 1) ∷ []))) ≡ Ok two_and_one
joined_two_and_one = refl

-- two statements in a loop and one in a loop after it: the fission, the reorder and the fuse that make the second a loop of its own
abbrev two_loops : List (List ℕ)
two_loops = (0 ∷ (0 ∷ [])) ∷ ((0 ∷ (1 ∷ [])) ∷ ((1 ∷ (0 ∷ [])) ∷ []))

two_loops_parted : fission_answer (0 ∷ []) 1 two_loops ≡ Ok (ranked 0 (2 ∷ (2 ∷ (2 ∷ []))))
two_loops_parted = refl

two_loops_placed : reorder_answer [] (0 ∷ (2 ∷ (1 ∷ []))) (ranked 0 (2 ∷ (2 ∷ (2 ∷ [])))) ≡ Ok (placed_from 0 (0 ∷ (2 ∷ (1 ∷ []))) (2 ∷ (2 ∷ (2 ∷ []))))
two_loops_placed = refl

two_loops_joined : fuse_answer (0 ∷ []) (placed_from 0 (0 ∷ (2 ∷ (1 ∷ []))) (2 ∷ (2 ∷ (2 ∷ [])))) ≡ Ok ((0 ∷ (0 ∷ [])) ∷ ((1 ∷ (0 ∷ [])) ∷ ((0 ∷ (1 ∷ [])) ∷ [])))
two_loops_joined = refl

-- a nest of loops: its steps, and three fissions, outermost agreement last
steps_of_nest : steps_from (0 ∷ (0 ∷ [])) ((0 ∷ (1 ∷ (0 ∷ []))) ∷ ((0 ∷ (1 ∷ (1 ∷ []))) ∷ [])) ≡ (1, 3) ∷ ((2, 3) ∷ [])
steps_of_nest = refl

trail_of_nest : trail (zeros 2) ((1, 3) ∷ ((2, 3) ∷ [])) ≡ (0 ∷ (0 ∷ [])) ∷ ((0 ∷ (1 ∷ (0 ∷ []))) ∷ ((0 ∷ (1 ∷ (1 ∷ []))) ∷ []))
trail_of_nest = refl

nest_parted : fission_answer (0 ∷ (1 ∷ [])) 1 (trail (zeros 2) ((1, 3) ∷ ((2, 3) ∷ []))) ≡ Ok (trail (zeros 2) ((1, 3) ∷ ((1, 3) ∷ [])))
nest_parted = refl

nest_parted_again : fission_answer (0 ∷ []) 1 (trail (zeros 2) ((1, 3) ∷ ((1, 3) ∷ []))) ≡ Ok (trail (zeros 2) ((0, 3) ∷ ((1, 3) ∷ [])))
nest_parted_again = refl

nest_parted_last : fission_answer (1 ∷ []) 1 (trail (zeros 2) ((0, 3) ∷ ((1, 3) ∷ []))) ≡ Ok (trail (zeros 2) ((0, 3) ∷ ((0, 3) ∷ [])))
nest_parted_last = refl

-- a cycle of three, where the places differ from the order
cycle_placed : reorder_answer [] (1 ∷ (2 ∷ (0 ∷ []))) (ranked 0 (2 ∷ (3 ∷ (3 ∷ [])))) ≡ Ok ((2 ∷ (0 ∷ [])) ∷ ((0 ∷ (0 ∷ (0 ∷ []))) ∷ ((1 ∷ (0 ∷ (0 ∷ []))) ∷ [])))
cycle_placed = refl
