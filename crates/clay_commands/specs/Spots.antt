-- What a command does to one instance, as numbers: to the number of its statement and to the values of its levels.
use Rattle.std.specs.Prelude.{ℤ, pos, neg_ℤ, ◌+ℤ◌, ◌*ℤ◌, ℕ, zero, suc, ◌+◌, ◌==◌, nat_lt, int_le, Bool, if◌then◌else◌, Option, Some, None, List, [], ◌∷◌, map, insert, swap, slice_set}
use Rattle.std.specs.List.{flat_map}
use Rattle.std.proofs.Common.{get_or}
use Rattle.row_core.specs.Rows.{dot, entry}
use Rattle.beta_tree.specs.Vectors.{dense_of}
use Rattle.beta_tree.specs.Edits.{leaf_split, same_vector}
use Rattle.scop_data.specs.declared.statements.Statement.{Statement}
use Rattle.scop_core.specs.ScopData.{ScopData, betas_in}
use Rattle.scop_core.specs.Meaning.{statement_at, floor_of, floors_after, levels_at, interleaved}
use Rattle.clay_script.specs.declared.commands.Command.{Command}
use Rattle.clay_script.specs.declared.commands.Command.TheVariants.{Interchange, Skew, Shift, Reverse, Stripmine, Tile, Iss}
use Rattle.clay_commands.specs.Arguments.{natural, prefix_in, place}
use Rattle.clay_commands.specs.Drafts.{is_under, vector_after}

-- the number of a statement, from 1, and the values of its levels at one instance
pub record Spot : Type 0 where
  pub number : ℕ
  pub values : List ℤ

-- the vectors after a command
abbrev pub vectors_after : Command → List (List ℕ) → List (List ℕ)
vectors_after (Iss p xs ns c) V = flat_map (leaf_split (map natural p)) V
vectors_after other V = map (vector_after other V) V

-- the vector of statement number k
abbrev pub vector_at : List (List ℕ) → ℕ → List ℕ
vector_at V zero = []
vector_at V (suc k) = get_or V k []

-- the number of the statement whose vector is P
abbrev pub number_of : List ℕ → List (List ℕ) → ℕ
number_of P [] = 1
number_of P (v ∷ V) = if same_vector v P then 1 else number_of P V + 1

-- the values of the levels of a statement under the command's prefix, at parameters n
abbrev pub values_after : Command → List ℤ → List ℤ → List ℤ
values_after (Interchange p k l) n v = swap v (place k) (place l)
values_after (Skew p k l f) n v = slice_set v (place k) (entry v (place k) +ℤ (f *ℤ entry v (place l)))
values_after (Shift p k w c) n v = slice_set v (place k) ((entry v (place k) +ℤ dot w n) +ℤ c)
values_after (Reverse p k) n v = slice_set v (place k) (neg_ℤ (entry v (place k)))
values_after (Stripmine p k s) n v = insert v (place k) (floor_of (entry v (place k)) s)
values_after (Tile p k s t) n v = insert v (place t) (floor_of (entry v (place k)) s)
values_after other n v = v

-- number k after statement number i was split in two; what was number i stays where the condition holds
abbrev pub number_after : ℕ → Bool → ℕ → ℕ
number_after i holds k = if nat_lt k i then k else (if k == i then (if holds then k else k + 1) else k + 1)

-- the instance with iterators x at parameters n, among statements with the vectors V, after a command
abbrev pub spot_after : Command → List (List ℕ) → List ℤ → List ℤ → Spot → Spot
spot_after (Iss p xs ns c) V x n spot =
    record spot { number = number_after (number_of (map natural p) V) (int_le (pos 0) ((dot xs x +ℤ dot ns n) +ℤ c)) spot.number }
spot_after other V x n spot =
    if is_under (prefix_in other) (vector_at V spot.number) then record spot { values = values_after other n spot.values } else spot

-- the vectors, and an instance among them, after the commands of a script in turn
pub record Place : Type 0 where
  pub vectors : List (List ℕ)
  pub spot : Spot

abbrev pub places_after : List Command → List ℤ → List ℤ → Place → Place
places_after [] x n at = at
places_after (command ∷ commands) x n at =
    places_after commands x n (record { vectors = vectors_after command at.vectors; spot = spot_after command at.vectors x n at.spot })

-- the values of a statement's levels at iterators x; none where there is no statement
abbrev pub values_in : Option Statement → List ℤ → List ℤ → List ℤ
values_in None x n = []
values_in (Some s) x n = levels_at s.schedule.levels x (floors_after [] s.schedule.floors x n) n

-- the values of the levels of statement number k at iterators x, among the dense vectors
abbrev pub placed : ScopData → ℕ → List ℤ → List ℤ → Place
placed S k x n = record {
  vectors = dense_of (betas_in S.statements);
  spot = record { number = k; values = values_in (statement_at S.statements k) x n };
}

-- where a script brings statement number k at iterators x and parameters n
abbrev pub edits : ScopData → List Command → ℕ → List ℤ → List ℤ → Place
edits S script k x n = places_after script x n (placed S k x n)

-- the stamp there: betas and values in turn
abbrev pub stamp_at : Place → List ℤ
stamp_at at = interleaved (map (λ b. pos b) (vector_at at.vectors at.spot.number)) at.spot.values
