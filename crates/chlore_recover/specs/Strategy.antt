-- The whole script: fissions until each statement stands alone, each statement's levels, a reorder, and fuses.
use Rattle.std.specs.Prelude.{◌≡◌, ◌≤◌, ℤ, pos, ℕ, zero, suc, ◌+◌, nat_lt, nat_le, Bool, true, false, if◌then◌else◌, ◌&&◌, ◌||◌, ◌==◌, Option, Some, None, List, [], ◌∷◌, ◌++◌, length, map, take}
use Rattle.std.specs.List.{range_with_len, flat_map}
use Rattle.suite_base.specs.Limits.{max_levels}
use Rattle.beta_tree.specs.Vectors.{children_of, dense_of}
use Rattle.beta_tree.specs.Edits.{fissioned, place_of, same_vector}
use Rattle.beta_trails.specs.Trails.{agreement}
use Rattle.scop_data.specs.declared.affines.Affine.{Affine}
use Rattle.scop_core.specs.ScopData.{ScopData, betas_in}
use Rattle.scop_core.specs.Meaning.{statement_at, interleaved}
use Rattle.clay_script.specs.declared.commands.Command.{Command}
use Rattle.clay_script.specs.declared.commands.Command.TheVariants.{Fission, Fuse, Reorder}
use Rattle.clay_commands.specs.Spots.{edits, stamp_at, vector_at, values_in}
use Rattle.clay_commands.specs.Afters.{refusal_of}
use Rattle.chlore_recover.specs.LevelScripts.{level_script}

-- u is before v in lexicographic order
abbrev pub is_before : List ℕ → List ℕ → Bool
is_before [] v = true
is_before (x ∷ u) [] = false
is_before (x ∷ u) (y ∷ v) = nat_lt x y || ((x == y) && is_before u v)

-- a statement's place in the SCoP, from 0, and its vector
abbrev pub Placed : Type 0
Placed = ℕ × List ℕ

-- a statement among others that are in beta order
abbrev pub put_in_order : Placed → List Placed → List Placed
put_in_order e [] = e ∷ []
put_in_order e (f ∷ fs) = if is_before e.1 f.1 then e ∷ (f ∷ fs) else f ∷ put_in_order e fs

-- the statements with these vectors, from place k on, in beta order
abbrev pub ordered_from : ℕ → List (List ℕ) → List Placed
ordered_from k [] = []
ordered_from k (v ∷ V) = put_in_order (k, v) (ordered_from (k + 1) V)

-- the statements of a SCoP with their dense vectors, in beta order
abbrev pub in_beta_order : ScopData → List Placed
in_beta_order S = ordered_from 0 (dense_of (betas_in S.statements))

-- the least loop of length n with at least 2 children among V; the vectors to look at are in beta order
abbrev pub least_wide_loop : ℕ → List (List ℕ) → List (List ℕ) → Option (List ℕ)
least_wide_loop n V [] = None
least_wide_loop n V (v ∷ rest) =
    if nat_lt n (length v) && nat_le 2 (children_of (take n v) V) then Some (take n v) else least_wide_loop n V rest

-- the loops of length n that are split at their child 1, one after the other: the least that has at least 2 children, at most so often
abbrev pub splits : ℕ → ℕ → List (List ℕ) → List (List ℕ)
splits zero n V = []
splits (suc most) n V = elim (least_wide_loop n V V) [ None ↦ [] | Some P ↦ P ∷ splits most n (map (fissioned P 1) V) ]

-- the vectors after these loops were split at their child 1
abbrev pub split_at_all : List (List ℕ) → List (List ℕ) → List (List ℕ)
split_at_all [] V = V
split_at_all (P ∷ loops) V = split_at_all loops (map (fissioned P 1) V)

-- the loops that are split, of length n and of each shorter one down to 1
abbrev pub all_splits : ℕ → List (List ℕ) → List (List ℕ)
all_splits zero V = []
all_splits (suc n) V =
    let loops = splits (length V) (suc n) V
    in loops ++ all_splits n (split_at_all loops V)

-- the arguments of a beta prefix
abbrev pub as_prefix : List ℕ → List ℤ
as_prefix P = map (λ b. pos b) P

-- the fissions that leave each of these vectors, in beta order, alone
abbrev pub fissions : List (List ℕ) → List Command
fissions V = map (λ P. Fission (as_prefix P) (pos 1)) (all_splits max_levels V)

-- the levels of the statement at a place
abbrev pub levels_in : ScopData → ℕ → List Affine
levels_in S k = elim (statement_at S.statements (k + 1)) [ None ↦ [] | Some s ↦ s.schedule.levels ]

-- the commands for the levels of these statements, the first of which stands in the loop r
abbrev pub all_levels : ScopData → ScopData → ℕ → List Placed → List Command
all_levels O T r [] = []
all_levels O T r (e ∷ placed) = level_script (pos r ∷ []) (levels_in O e.0) (levels_in T e.0) ++ all_levels O T (r + 1) placed

-- for each statement in the target's order, its place in the original's
abbrev pub order_for : List Placed → List Placed → List ℕ
order_for original target = map (λ e. place_of e.0 (map (λ f. f.0) original)) target

-- the reorder, where it changes something
abbrev pub reorder_unless_same : List ℕ → List Command
reorder_unless_same order = if same_vector order (range_with_len 0 (length order)) then [] else Reorder [] (as_prefix order) ∷ []

-- a fuse of the n first entries of each vector that agrees in them with the one before, which is v for the first
abbrev pub fuses_of_length : ℕ → List ℕ → List (List ℕ) → List Command
fuses_of_length n v [] = []
fuses_of_length n v (w ∷ W) = (if nat_le n (agreement v w) then Fuse (as_prefix (take n w)) ∷ [] else []) ++ fuses_of_length n w W

-- the fuses that make these vectors, in beta order, of vectors that stand alone
abbrev pub fuses : List (List ℕ) → List Command
fuses [] = []
fuses (v ∷ V) = flat_map (λ n. fuses_of_length n v V) (range_with_len 1 max_levels)

-- the script that turns the original's schedules into the target's
abbrev pub strategy : ScopData → ScopData → List Command
strategy O T =
    fissions (map (λ e. e.1) (in_beta_order O)) ++ all_levels O T 0 (in_beta_order O)
    ++ reorder_unless_same (order_for (in_beta_order O) (in_beta_order T)) ++ fuses (map (λ e. e.1) (in_beta_order T))

-- a script is not refused for O, and brings each statement, at all iterators x and parameters n, to its dense stamp in T
pub record Recovers (O T : ScopData) (script : List Command) : Type 0 where
  pub unrefused : refusal_of O script ≡ None
  pub edited : (k : ℕ) (x n : List ℤ) → 1 ≤ k → k ≤ length O.statements
      → ((edits O script k x n).spot.number ≡ k)
      × (stamp_at (edits O script k x n) ≡ interleaved (as_prefix (vector_at (dense_of (betas_in T.statements)) k)) (values_in (statement_at T.statements k) x n))
