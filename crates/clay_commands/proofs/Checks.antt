-- Worked cases of the definitions.
use Rattle.std.proofs.Common.{◌≡◌, ℕ, List, [], ◌∷◌, ℤ, pos, negsuc, Some, None, refl}
use Rattle.std.specs.Prelude.{map}
use Rattle.suite_base.specs.declared.refusals.Refusal.TheVariants.{NoBeta, NotALoop, BadLevel, BadArgument, Overflow}
use Rattle.suite_base.specs.declared.refusals.Where.TheVariants as count
use Rattle.scop_data.specs.declared.affines.Affine.{Affine}
use Rattle.scop_core.specs.ScopData.{ScopData}
use Rattle.scop_core.specs.Meaning.{Instance, stamp}
use Rattle.clay_script.specs.declared.commands.Command.{Command}
use Rattle.clay_script.specs.declared.commands.Command.TheVariants.{Fission, Fuse, Reorder, Interchange, Skew, Shift, Reverse, Stripmine, Tile, Iss}
use Rattle.clay_commands.specs.Drafts.{betas_of, drafted, drafts_after}
use Rattle.clay_commands.specs.Spots.{edits, stamp_at, vectors_after}
use Rattle.clay_commands.specs.Afters.{after_script, refusal_of}
use Rattle.clay_commands.proofs.Samples.{form, part, at_least, ten, pair, line}

-- strips of four of negative values: the first instance
abbrev strips : List Command
strips = Stripmine (pos 0 ∷ []) (pos 1) (pos 4) ∷ []

abbrev first_of_ten : Instance
first_of_ten = record { statement = 1; values = negsuc 4 ∷ [] }

abbrev first_stamp : List ℤ
first_stamp = pos 0 ∷ (negsuc 1 ∷ (pos 0 ∷ (negsuc 4 ∷ (pos 0 ∷ []))))

edited_stamp : stamp_at (edits ten strips 1 (negsuc 4 ∷ []) []) ≡ first_stamp
edited_stamp = refl

stamp_in_the_new_scop : stamp (after_script ten strips).scop [] first_of_ten ≡ first_stamp
stamp_in_the_new_scop = refl

unrefused_strips : refusal_of ten strips ≡ None
unrefused_strips = refl

-- the levels of the new statements
abbrev levels_of : ScopData → List (List Affine)
levels_of S = map (λ s. s.schedule.levels) S.statements

-- the wave front of a pair of loops
abbrev skewed : List Command
skewed = Skew (pos 0 ∷ []) (pos 2) (pos 1) (pos 1) ∷ (Interchange (pos 0 ∷ []) (pos 1) (pos 2) ∷ [])

levels_of_skewed : levels_of (after_script pair skewed).scop
    ≡ (form (pos 1 ∷ (pos 1 ∷ [])) (pos 0 ∷ (pos 0 ∷ [])) (pos 0) ∷ (form (pos 1 ∷ (pos 0 ∷ [])) (pos 0 ∷ (pos 0 ∷ [])) (pos 0) ∷ [])) ∷ []
levels_of_skewed = refl

edits_of_skewed : (edits pair skewed 1 (pos 3 ∷ (pos 4 ∷ [])) (pos 9 ∷ (pos 9 ∷ []))).spot.values ≡ pos 7 ∷ (pos 3 ∷ [])
edits_of_skewed = refl

unrefused_skews : refusal_of pair skewed ≡ None
unrefused_skews = refl

-- a factor whose square passes the greatest coefficient
abbrev large : ℤ
large = pos 1000000000000000000000000000000

overflow_of_two : refusal_of pair (Skew (pos 0 ∷ []) (pos 1) (pos 2) large ∷ (Skew (pos 0 ∷ []) (pos 2) (pos 1) large ∷ [])) ≡ Some (Overflow count.Command 2)
overflow_of_two = refl

-- a split of one statement in two
abbrev split : List Command
split = Iss (pos 0 ∷ (pos 0 ∷ [])) (negsuc 1 ∷ []) (pos 1 ∷ []) (negsuc 0) ∷ []

parts_of_split : map (λ s. s.domain) (after_script line split).scop.statements
    ≡ (part 1 1 (at_least (pos 1 ∷ (pos 0 ∷ (pos 0 ∷ []))) ∷ (at_least (negsuc 0 ∷ (pos 1 ∷ (negsuc 0 ∷ []))) ∷ (at_least (negsuc 1 ∷ (pos 1 ∷ (negsuc 0 ∷ []))) ∷ []))) ∷ [])
    ∷ ((part 1 1 (at_least (pos 1 ∷ (pos 0 ∷ (pos 0 ∷ []))) ∷ (at_least (negsuc 0 ∷ (pos 1 ∷ (negsuc 0 ∷ []))) ∷ (at_least (pos 2 ∷ (negsuc 0 ∷ (pos 0 ∷ []))) ∷ []))) ∷ []) ∷ [])
parts_of_split = refl

betas_of_split : betas_of (drafts_after split (drafted line)) ≡ (0 ∷ (0 ∷ [])) ∷ ((0 ∷ (1 ∷ [])) ∷ [])
betas_of_split = refl

originals_of_split : (after_script line split).of ≡ 1 ∷ (1 ∷ [])
originals_of_split = refl

-- at N = 4 the condition -2 i + N - 1 >= 0 holds at 1 and not at 2
number_of_one : (edits line split 1 (pos 1 ∷ []) (pos 4 ∷ [])).spot.number ≡ 1
number_of_one = refl

number_of_two : (edits line split 1 (pos 2 ∷ []) (pos 4 ∷ [])).spot.number ≡ 2
number_of_two = refl

fission_of_split : refusal_of line (Iss (pos 0 ∷ (pos 0 ∷ [])) (negsuc 1 ∷ []) (pos 1 ∷ []) (negsuc 0) ∷ (Fission (pos 0 ∷ []) (pos 1) ∷ [])) ≡ None
fission_of_split = refl

-- the vectors of a loop of two statements and a statement behind it
abbrev three : List (List ℕ)
three = (0 ∷ (0 ∷ [])) ∷ ((0 ∷ (1 ∷ [])) ∷ ((1 ∷ []) ∷ []))

abbrev parted : List (List ℕ)
parted = (0 ∷ (0 ∷ [])) ∷ ((1 ∷ (0 ∷ [])) ∷ ((2 ∷ []) ∷ []))

fission_of_three : vectors_after (Fission (pos 0 ∷ []) (pos 1)) three ≡ parted
fission_of_three = refl

fuse_of_parted : vectors_after (Fuse (pos 0 ∷ [])) parted ≡ three
fuse_of_parted = refl

reorder_of_parted : vectors_after (Reorder [] (pos 2 ∷ (pos 0 ∷ (pos 1 ∷ [])))) parted ≡ (1 ∷ (0 ∷ [])) ∷ ((2 ∷ (0 ∷ [])) ∷ ((0 ∷ []) ∷ []))
reorder_of_parted = refl

leaf_of_three : vectors_after (Iss (pos 0 ∷ (pos 0 ∷ [])) [] [] (pos 0)) three ≡ (0 ∷ (0 ∷ [])) ∷ ((0 ∷ (1 ∷ [])) ∷ ((0 ∷ (2 ∷ [])) ∷ ((1 ∷ []) ∷ [])))
leaf_of_three = refl

level_of_three : vectors_after (Stripmine (pos 0 ∷ []) (pos 1) (pos 4)) three ≡ (0 ∷ (0 ∷ (0 ∷ []))) ∷ ((0 ∷ (0 ∷ (1 ∷ []))) ∷ ((1 ∷ []) ∷ []))
level_of_three = refl

-- each refusal of a script on one loop
no_beta : refusal_of line (Reverse (pos 1 ∷ []) (pos 1) ∷ []) ≡ Some (NoBeta 1)
no_beta = refl

negative_beta : refusal_of line (Fission (negsuc 0 ∷ []) (negsuc 0) ∷ []) ≡ Some (NoBeta 1)
negative_beta = refl

bad_level : refusal_of line (Reverse (pos 0 ∷ []) (pos 2) ∷ []) ≡ Some (BadLevel 1)
bad_level = refl

too_deep_a_strip : refusal_of line (Stripmine (pos 0 ∷ (pos 0 ∷ [])) (pos 1) (pos 4) ∷ []) ≡ Some (BadLevel 1)
too_deep_a_strip = refl

bad_size : refusal_of line (Stripmine (pos 0 ∷ []) (pos 1) (pos 0) ∷ []) ≡ Some (BadArgument 1)
bad_size = refl

not_a_loop : refusal_of line (Fission (pos 0 ∷ (pos 0 ∷ [])) (pos 1) ∷ []) ≡ Some (NotALoop 1)
not_a_loop = refl

one_child : refusal_of line (Fission (pos 0 ∷ []) (pos 1) ∷ []) ≡ Some (BadArgument 1)
one_child = refl

no_next_sibling : refusal_of line (Fuse (pos 0 ∷ []) ∷ []) ≡ Some (NoBeta 1)
no_next_sibling = refl

short_shift : refusal_of line (Shift (pos 0 ∷ []) (pos 1) [] (pos 1) ∷ []) ≡ Some (BadArgument 1)
short_shift = refl

skew_by_itself : refusal_of line (Skew (pos 0 ∷ []) (pos 1) (pos 1) (pos 2) ∷ []) ≡ Some (BadArgument 1)
skew_by_itself = refl

second_command : refusal_of line (Reverse (pos 0 ∷ []) (pos 1) ∷ (Reverse (pos 0 ∷ []) (pos 2) ∷ [])) ≡ Some (BadLevel 2)
second_command = refl

-- tiles of two loops: the levels are the two floors, then i and j
abbrev tiled : List Command
tiled = Tile (pos 0 ∷ []) (pos 1) (pos 32) (pos 1) ∷ (Tile (pos 0 ∷ []) (pos 3) (pos 32) (pos 2) ∷ [])

edits_of_tiled : stamp_at (edits pair tiled 1 (pos 70 ∷ (pos 33 ∷ [])) (pos 99 ∷ (pos 99 ∷ [])))
    ≡ pos 0 ∷ (pos 2 ∷ (pos 0 ∷ (pos 1 ∷ (pos 0 ∷ (pos 70 ∷ (pos 0 ∷ (pos 33 ∷ (pos 0 ∷ []))))))))
edits_of_tiled = refl

stamp_of_tiled : stamp (after_script pair tiled).scop (pos 99 ∷ (pos 99 ∷ [])) (record { statement = 1; values = pos 70 ∷ (pos 33 ∷ []) })
    ≡ stamp_at (edits pair tiled 1 (pos 70 ∷ (pos 33 ∷ [])) (pos 99 ∷ (pos 99 ∷ [])))
stamp_of_tiled = refl
