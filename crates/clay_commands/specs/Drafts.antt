-- A SCoP as a list of leaves: its statements with dense beta vectors. What a command does to each leaf, over unbounded integers.
use Rattle.std.specs.Prelude.{ℤ, pos, negsuc, neg_ℤ, ◌+ℤ◌, ℕ, ◌+◌, Bool, if◌then◌else◌, is_some, List, [], ◌∷◌, ◌++◌, map, insert, swap, slice_set, get_or}
use Rattle.std.specs.List.{flat_map}
use Rattle.beta_tree.specs.Vectors.{after, children_of, dense_of}
use Rattle.beta_tree.specs.Edits.{fissioned, fused, reordered, with_level, below, front, last, make_room, next_sibling, same_vector}
use Rattle.relation_core.specs.Systems.{System, with_row}
use Rattle.relation_core.specs.declared.part_rows.RowKind.TheVariants.{AtLeast}
use Rattle.scop_data.specs.declared.affines.Affine.{Affine}
use Rattle.scop_data.specs.declared.schedules.Floor.{Floor}
use Rattle.scop_data.specs.declared.schedules.Schedule.{Schedule}
use Rattle.scop_data.specs.declared.statements.Statement.{Statement}
use Rattle.scop_core.specs.ScopData.{ScopData, betas_in}
use Rattle.scop_core.specs.SolvedRows.{zeros}
use Rattle.scop_core.specs.AffineSums.{plus_multiple, moved, negative, widened, last_floor}
use Rattle.clay_script.specs.declared.commands.Command.{Command}
use Rattle.clay_script.specs.declared.commands.Command.TheVariants.{Fission, Fuse, Reorder, Interchange, Skew, Shift, Reverse, Stripmine, Tile, Iss}
use Rattle.clay_commands.specs.declared.leaves.Leaf.{Leaf}
use Rattle.clay_commands.specs.Arguments.{natural, prefix_in, order_in, place}

-- leaves in the statements' order
abbrev pub Draft : Type 0
Draft = List Leaf

-- the vectors of the leaves
abbrev pub betas_of : Draft → List (List ℕ)
betas_of D = map (λ leaf. leaf.beta) D

-- statements with these vectors, numbered from k on
abbrev pub leaves_from : ℕ → List (List ℕ) → List Statement → Draft
leaves_from k [] statements = []
leaves_from k (v ∷ V) [] = []
leaves_from k (v ∷ V) (s ∷ statements) = record { beta = v; statement = s; original = k } ∷ leaves_from (k + 1) V statements

-- the statements of a SCoP, with their vectors numbered densely
abbrev pub drafted : ScopData → Draft
drafted S = leaves_from 1 (dense_of (betas_in S.statements)) S.statements

-- a leaf with another vector
abbrev pub with_beta : List ℕ → Leaf → Leaf
with_beta v leaf = record leaf { beta = v }

-- a vector begins with P
abbrev pub is_under : List ℕ → List ℕ → Bool
is_under P v = is_some (after P v)

-- a form that is not there
abbrev pub no_form : Affine
no_form = record { iterators = []; floors = []; parameters = []; constant = pos 0 }

-- the form of the level at place k
abbrev pub form_at : List Affine → ℕ → Affine
form_at levels k = get_or levels k no_form

-- every form of the schedule gets a 0 for one more floor
abbrev pub widened_floor : Floor → Floor
widened_floor floor = record floor { value = widened floor.value }

-- strips of size s of the level at place k: a new last floor, and a level with its value at place t
abbrev pub cut : ℕ → ℤ → ℕ → Schedule → Schedule
cut k s t schedule = record schedule {
  floors = map widened_floor schedule.floors ++ record { value = widened (form_at schedule.levels k); size = s } ∷ [];
  levels = insert (map widened schedule.levels) t (last_floor (form_at schedule.levels k));
}

-- a level in place of the one at place k
abbrev pub with_form : ℕ → Affine → Schedule → Schedule
with_form k form schedule = record schedule { levels = slice_set schedule.levels k form }

-- floors and levels of a statement under the command's prefix
abbrev pub forms_after : Command → Schedule → Schedule
forms_after (Interchange p k l) schedule = record schedule { levels = swap schedule.levels (place k) (place l) }
forms_after (Skew p k l f) schedule =
    with_form (place k) (plus_multiple (form_at schedule.levels (place k)) f (form_at schedule.levels (place l))) schedule
forms_after (Shift p k v c) schedule = with_form (place k) (moved (form_at schedule.levels (place k)) v c) schedule
forms_after (Reverse p k) schedule = with_form (place k) (negative (form_at schedule.levels (place k))) schedule
forms_after (Stripmine p k s) schedule = cut (place k) s (place k) schedule
forms_after (Tile p k s t) schedule = cut (place k) s (place t) schedule
forms_after other schedule = schedule

-- a vector among V after any command but iss
abbrev pub vector_after : Command → List (List ℕ) → List ℕ → List ℕ
vector_after (Fission p c) V v = fissioned (map natural p) (natural c) v
vector_after (Fuse p) V v = fused (map natural p) (children_of (map natural p) V) v
vector_after (Reorder p order) V v = reordered (map natural p) (order_in order) v
vector_after (Stripmine p k s) V v = with_level (map natural p) (natural k) v
vector_after (Tile p k s t) V v = with_level (map natural p) (natural k) v
vector_after other V v = v

-- the statement with these floors and levels
abbrev pub scheduled : Statement → Schedule → Statement
scheduled statement schedule = record statement { schedule = schedule }

-- a statement whose vector is v
abbrev pub statement_after : Command → List ℕ → Statement → Statement
statement_after command v statement =
    if is_under (prefix_in command) v then scheduled statement (forms_after command statement.schedule) else statement

-- the row of an affine value of iterators and parameters, in a part
abbrev pub condition_row : System → List ℤ → List ℤ → ℤ → List ℤ
condition_row part xs ns c = xs ++ (zeros part.shape.locals ++ (ns ++ c ∷ []))

-- the parts where the affine value is at least 0
abbrev pub parts_where : List ℤ → List ℤ → ℤ → List System → List System
parts_where xs ns c parts = map (λ part. with_row part AtLeast (condition_row part xs ns c)) parts

-- the statement where the affine value is at least 0
abbrev pub restricted : List ℤ → List ℤ → ℤ → Statement → Statement
restricted xs ns c statement = record statement { domain = parts_where xs ns c statement.domain }

-- the leaf whose vector is P, split in two: where f is at least 0, and right after it where -f - 1 is
abbrev pub halves : List ℕ → List ℤ → List ℤ → ℤ → Leaf → List Leaf
halves P xs ns c leaf =
    record leaf { statement = restricted xs ns c leaf.statement }
    ∷ (record leaf { beta = next_sibling P; statement = restricted (map neg_ℤ xs) (map neg_ℤ ns) (neg_ℤ c +ℤ negsuc 0) leaf.statement } ∷ [])

-- a leaf among those of the vectors V after a command; iss makes two of one
abbrev pub leaf_after : Command → List (List ℕ) → Leaf → List Leaf
leaf_after (Iss p xs ns c) V leaf =
    if same_vector leaf.beta (map natural p) then halves (map natural p) xs ns c leaf
    else record leaf { beta = below (front (map natural p)) (make_room (last (map natural p))) leaf.beta } ∷ []
leaf_after other V leaf =
    record leaf { beta = vector_after other V leaf.beta; statement = statement_after other leaf.beta leaf.statement } ∷ []

-- the leaves after a command
abbrev pub draft_after : Command → Draft → Draft
draft_after command D = flat_map (leaf_after command (betas_of D)) D

-- the leaves after the commands of a script in turn
abbrev pub drafts_after : List Command → Draft → Draft
drafts_after [] D = D
drafts_after (command ∷ commands) D = drafts_after commands (draft_after command D)
