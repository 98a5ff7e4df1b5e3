-- What the fissions of the script's first step, and the fuses of its last, do to vectors in beta order.
use Rattle.std.specs.Prelude.{◌≡◌, ℕ, true, ◌+◌, ◌<◌, ◌^◌, Some, None, Ok, List, [], ◌∷◌, ◌++◌, length, map}
use Rattle.suite_base.specs.Limits.{max_levels}
use Rattle.beta_tree.specs.Edits.{fissioned, is_permutation_of}
use Rattle.beta_tree.specs.Answers.{fission_answer}
use Rattle.beta_trails.specs.Trails.{Step, zeros, trail, ranked, Agreeing, AllBelow}
use Rattle.beta_trails.specs.Laws.{parted_loop, placed_from}
use Rattle.clay_script.specs.declared.commands.Command.{Command}
use Rattle.clay_script.specs.Commands.{prefix_of}
use Rattle.clay_commands.specs.Arguments.{are_natural, prefix_in}
use Rattle.clay_commands.specs.Steps.{IsVectorCommand, vector_answer}
use Rattle.chlore_recover.specs.Strategy.{least_wide_loop, all_splits, fissions, reorder_unless_same, fuses}

-- where neighbours agree in fewer than n entries up to the first that agree in n, theirs is the least loop of length n with two
-- children; where all agree in fewer than n, there is none
abbrev pub LeastIsFirst : Type 0
LeastIsFirst =
    ((m n l : ℕ) (before more : List Step) → 0 < m → length (before ++ (n, l) ∷ more) + 1 < 2 ^ 32 → Agreeing m (before ++ (n, l) ∷ more) → AllBelow n before
    → least_wide_loop n (trail (zeros m) (before ++ (n, l) ∷ more)) (trail (zeros m) (before ++ (n, l) ∷ more)) ≡ Some (parted_loop m n before))
    × ((m n : ℕ) (steps : List Step) → 0 < m → length steps + 1 < 2 ^ 32 → Agreeing m steps → AllBelow n steps
    → least_wide_loop n (trail (zeros m) steps) (trail (zeros m) steps) ≡ None)

-- fissions of these loops at their child 1, one after the other, are accepted, and lead from V to W
abbrev pub SplitsLead : List (List ℕ) → List (List ℕ) → List (List ℕ) → Type 0
SplitsLead [] V W = V ≡ W
SplitsLead (P ∷ loops) V W = (fission_answer P 1 V ≡ Ok (map (fissioned P 1) V)) × SplitsLead loops (map (fissioned P 1) V) W

-- how long the vectors of steps are
abbrev pub lengths_of : List Step → List ℕ
lengths_of steps = map (λ step. step.1) steps

-- the first step's fissions of loops of length n and less, over vectors that agree in n entries at most, leave each vector alone
abbrev pub SplitsLeaveAlone : Type 0
SplitsLeaveAlone =
    (n m : ℕ) (steps : List Step) → 0 < m → length steps + 1 < 2 ^ 32 → Agreeing m steps → AllBelow (n + 1) steps
    → SplitsLead (all_splits n (trail (zeros m) steps)) (trail (zeros m) steps) (ranked 0 (m ∷ lengths_of steps))

-- commands on vectors alone, none of them refused, lead from V to W
abbrev pub VectorsLead : List Command → List (List ℕ) → List (List ℕ) → Type 0
VectorsLead [] V W = V ≡ W
VectorsLead (command ∷ commands) V W =
    (U : List (List ℕ)) × IsVectorCommand command × (are_natural (prefix_of command) ≡ true) × (vector_answer command (prefix_in command) V ≡ Ok U)
    × VectorsLead commands U W

-- the script's fuses lead from vectors that stand alone to the target's, whose neighbours agree in `max_levels` entries at most
abbrev pub FusesLead : Type 0
FusesLead =
    (m : ℕ) (steps : List Step) → 0 < m → length steps + 1 < 2 ^ 32 → Agreeing m steps → AllBelow (max_levels + 1) steps
    → VectorsLead (fuses (trail (zeros m) steps)) (ranked 0 (m ∷ lengths_of steps)) (trail (zeros m) steps)

-- the script's fissions lead from vectors that agree in `max_levels` entries at most to vectors that stand alone
abbrev pub FissionsLead : Type 0
FissionsLead =
    (m : ℕ) (steps : List Step) → 0 < m → length steps + 1 < 2 ^ 32 → Agreeing m steps → AllBelow (max_levels + 1) steps
    → VectorsLead (fissions (trail (zeros m) steps)) (trail (zeros m) steps) (ranked 0 (m ∷ lengths_of steps))

-- the script's reorder leads from vectors that stand alone to those that stand at their ranks' places in the order
abbrev pub ReorderLeads : Type 0
ReorderLeads =
    (order lengths : List ℕ) → 0 < length lengths → is_permutation_of (length lengths) order ≡ true
    → VectorsLead (reorder_unless_same order) (ranked 0 lengths) (placed_from 0 order lengths)
