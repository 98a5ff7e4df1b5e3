-- What the edits of leaves ask and answer, statement by statement.
use Rattle.std.specs.Prelude.{◌≡◌, ◌≤◌, ◌^◌, ◌+◌, ℤ, pos, negsuc, neg_ℤ, ◌+ℤ◌, int_le, ℕ, true, if◌then◌else◌, Option, Result, Ok, List, [], ◌∷◌, length, map, insert, slice_set}
use Rattle.suite_base.specs.declared.refusals.Refusal.{Refusal}
use Rattle.suite_base.specs.declared.refusals.Refusal.TheVariants as refusal
use Rattle.suite_base.specs.declared.refusals.Where.TheVariants as count
use Rattle.suite_base.specs.declared.refusals.Fail.{Fail}
use Rattle.suite_base.specs.declared.refusals.Fail.TheVariants as fail
use Rattle.scop_data.specs.declared.affines.Affine.{Affine}
use Rattle.scop_data.specs.declared.statements.Statement.{Statement}
use Rattle.scop_core.specs.AffineSums.{HaveOneSize}
use Rattle.scop_core.specs.Assembly.{or_else}
use Rattle.beta_tree.specs.Edits.{same_vector}
use Rattle.beta_tree.specs.declared.refusals.BetaFail.{BetaFail}
use Rattle.beta_tree.specs.declared.refusals.BetaFail.TheVariants as beta
use Rattle.clay_script.specs.declared.commands.Command.{Command}
use Rattle.clay_script.specs.declared.commands.Command.TheVariants.{Fission, Fuse, Reorder, Interchange, Skew, Shift, Reverse, Stripmine, Tile, Iss}
use Rattle.clay_commands.specs.declared.leaves.Leaf.{Leaf}
use Rattle.clay_commands.specs.declared.edit_fails.EditFail.{EditFail}
use Rattle.clay_commands.specs.declared.edit_fails.EditFail.TheVariants.{Memory, Heavy}
use Rattle.beta_tree.specs.Answers.{fission_answer, fuse_answer, reorder_answer}
use Rattle.clay_commands.specs.Arguments.{natural, order_in, place}
use Rattle.clay_commands.specs.Drafts.{Draft, is_under, form_at, forms_after, scheduled, restricted, with_beta}
use Rattle.clay_commands.specs.Refusals.{has_level, condition_under, limit_of, overflow_of}

-- the forms of level k
abbrev pub level_form : ℤ → Statement → Affine
level_form k s = form_at s.schedule.levels (place k)

-- the levels that a command names are there, and what it sums has one size
abbrev pub IsChangeable : Command → Statement → Type 0
IsChangeable (Interchange p k l) s = (has_level k s ≡ true) × (has_level l s ≡ true)
IsChangeable (Skew p k l f) s = (has_level k s ≡ true) × (has_level l s ≡ true) × HaveOneSize (level_form k s) (level_form l s)
IsChangeable (Shift p k v c) s = (has_level k s ≡ true) × (length (level_form k s).parameters ≡ length v)
IsChangeable (Reverse p k) s = has_level k s ≡ true
IsChangeable (Stripmine p k size) s = (has_level k s ≡ true) × (int_le (pos 1) size ≡ true)
IsChangeable (Tile p k size t) s = (has_level k s ≡ true) × (int_le (pos 1) size ≡ true) × (int_le (pos 1) t ≡ true) × (int_le t k ≡ true)
IsChangeable other s = ⊥

-- every statement under P is such
abbrev pub AllUnder : List ℕ → (Statement → Type 0) → Draft → Type 0
AllUnder P Holds [] = Unit {0}
AllUnder P Holds (leaf ∷ D) = ((is_under P leaf.beta ≡ true) → Holds leaf.statement) × AllUnder P Holds D

-- a leaf whose statement is changed where it is under P
abbrev pub changed : Command → List ℕ → Leaf → Leaf
changed command P leaf =
    if is_under P leaf.beta then record leaf { statement = scheduled leaf.statement (forms_after command leaf.statement.schedule) } else leaf

-- what counts of a leaf, where it is under P
abbrev pub counted : List ℕ → (Statement → ℕ) → Leaf → ℕ
counted P number leaf = if is_under P leaf.beta then number leaf.statement else 0

-- an edit was given up for want of memory, or since a sum of such a weight passes the greatest coefficient
abbrev pub IsHeavy : ℕ → EditFail → Type 0
IsHeavy weight Memory = Unit {0}
IsHeavy weight Heavy = 2 ^ 127 ≤ weight

-- the leaves with these vectors in place of their own
abbrev pub joined : List (List ℕ) → Draft → Draft
joined [] D = []
joined (v ∷ V) [] = []
joined (v ∷ V) (leaf ∷ D) = with_beta v leaf ∷ joined V D

-- the refusal of command number i where P, its prefix, has statements
abbrev pub refusal_under : ℕ → ℕ → Command → List ℕ → Draft → Option Refusal
refusal_under parameters i command P D = or_else (condition_under parameters i command P D) (or_else (limit_of i command D) (overflow_of i command D))

-- the command edits forms or domains, and not only vectors
abbrev pub IsLevelCommand : Command → Type 0
IsLevelCommand (Fission p c) = ⊥
IsLevelCommand (Fuse p) = ⊥
IsLevelCommand (Reorder p order) = ⊥
IsLevelCommand other = Unit {0}

-- the command changes floors or levels
abbrev pub IsFormCommand : Command → Type 0
IsFormCommand (Fission p c) = ⊥
IsFormCommand (Fuse p) = ⊥
IsFormCommand (Reorder p order) = ⊥
IsFormCommand (Iss p xs ns c) = ⊥
IsFormCommand other = Unit {0}

-- the command changes levels and nothing else
abbrev pub IsPlainCommand : Command → Type 0
IsPlainCommand (Interchange p k l) = Unit {0}
IsPlainCommand (Skew p k l f) = Unit {0}
IsPlainCommand (Shift p k v c) = Unit {0}
IsPlainCommand (Reverse p k) = Unit {0}
IsPlainCommand other = ⊥

-- the command cuts level k into strips
abbrev pub IsCut : Command → ℤ → Type 0
IsCut (Stripmine p j size) k = j ≡ k
IsCut (Tile p j size t) k = j ≡ k
IsCut other k = ⊥

-- the command edits vectors alone
abbrev pub IsVectorCommand : Command → Type 0
IsVectorCommand (Fission p c) = Unit {0}
IsVectorCommand (Fuse p) = Unit {0}
IsVectorCommand (Reorder p order) = Unit {0}
IsVectorCommand other = ⊥

-- what such a command answers of the vectors V
abbrev pub vector_answer : Command → List ℕ → List (List ℕ) → Result (List (List ℕ)) BetaFail
vector_answer (Fission p c) P V = fission_answer P (natural c) V
vector_answer (Fuse p) P V = fuse_answer P V
vector_answer (Reorder p order) P V = reorder_answer P (order_in order) V
vector_answer other P V = Ok V

-- the command is iss of P
abbrev pub IsSplit : Command → List ℕ → Type 0
IsSplit (Iss p xs ns c) P = P ≡ map natural p
IsSplit other P = ⊥

-- what a split keeps in the leaf, and the new leaf for the rest, whose vector comes later
abbrev pub first_half : List ℤ → List ℤ → ℤ → Leaf → Leaf
first_half xs ns c leaf = record leaf { statement = restricted xs ns c leaf.statement }

abbrev pub second_half : List ℤ → List ℤ → ℤ → Leaf → Leaf
second_half xs ns c leaf =
    record { beta = []; statement = restricted (map neg_ℤ xs) (map neg_ℤ ns) (neg_ℤ c +ℤ negsuc 0) leaf.statement; original = leaf.original }

-- the place, from 0, of the leaf whose vector is P
abbrev pub place_in : List ℕ → Draft → ℕ
place_in P [] = 0
place_in P (leaf ∷ D) = if same_vector leaf.beta P then 0 else place_in P D + 1

-- the leaf at place j in two halves
abbrev pub split_at : ℕ → List ℤ → List ℤ → ℤ → Leaf → Draft → Draft
split_at j xs ns c leaf D = insert (slice_set D j (first_half xs ns c leaf)) (j + 1) (second_half xs ns c leaf)

-- the command is iss of P with these arguments
abbrev pub IsSplitBy : Command → List ℤ → List ℤ → ℤ → Type 0
IsSplitBy (Iss p xs ns c) ys ms d = (xs ≡ ys) × (ns ≡ ms) × (c ≡ d)
IsSplitBy other ys ms d = ⊥

-- the failure of command number i by an operation on the vectors
abbrev pub fail_of : ℕ → BetaFail → Fail
fail_of i beta.Memory = fail.Memory
fail_of i beta.NoBeta = fail.Refused (refusal.NoBeta i)
fail_of i beta.NotALoop = fail.Refused (refusal.NotALoop i)
fail_of i beta.BadArgument = fail.Refused (refusal.BadArgument i)

-- the failure of command number i by an edit of forms
abbrev pub edit_fail_of : ℕ → EditFail → Fail
edit_fail_of i Memory = fail.Memory
edit_fail_of i Heavy = fail.Refused (refusal.Overflow count.Command i)
