-- The fissions of the script, read off the dense vectors of the original in beta order and how far neighbours agree.
use Rattle.std.specs.Prelude.{◌≡◌, pos, ℕ, zero, suc, ◌+◌, ◌-◌, nat_le, if◌then◌else◌, List, [], ◌∷◌, ◌++◌, map, take}
use Rattle.suite_base.specs.Limits.{max_levels}
use Rattle.beta_trails.specs.Trails.{agreement}
use Rattle.clay_script.specs.declared.commands.Command.{Command}
use Rattle.clay_script.specs.declared.commands.Command.TheVariants.{Fission, Fuse}
use Rattle.scop_core.specs.ScopData.{ScopData}
use Rattle.scop_core.specs.Validity.{IsValid}
use Rattle.chlore_recover.specs.Orders.{vectors_of}
use Rattle.chlore_recover.specs.Strategy.{as_prefix, fissions, in_beta_order}

-- the fissions of loops at their child 1
abbrev pub as_fissions : List (List ℕ) → List Command
as_fissions loops = map (λ P. Fission (as_prefix P) (pos 1)) loops

-- the loop of length n that is split between v, which is in the loop with this number, and a vector that has so many entries in common
-- with it
abbrev pub parted_between : ℕ → ℕ → List ℕ → ℕ → List (List ℕ)
parted_between n child v common = if nat_le n common then (take (n - 1) v ++ child ∷ []) ∷ [] else []

-- the number of the next vector's loop of length n, after one with this number: 0 in another loop round it
abbrev pub next_child : ℕ → ℕ → ℕ → ℕ
next_child n child common = if nat_le n (common + 1) then child + 1 else 0

-- the loops of length n that are split between v and each of these vectors in turn, v being in the one with this number
abbrev pub parted_loops : ℕ → ℕ → List ℕ → List (List ℕ) → List (List ℕ)
parted_loops n child v [] = []
parted_loops n child v (w ∷ W) =
    parted_between n child v (agreement v w) ++ parted_loops n (next_child n child (agreement v w)) w W

-- those of length n and of each shorter one down to 1
abbrev pub all_parted : ℕ → List ℕ → List (List ℕ) → List (List ℕ)
all_parted zero v V = []
all_parted (suc n) v V = parted_loops (suc n) 0 v V ++ all_parted n v V

-- the fuse of the n first entries of a vector that has so many entries in common with the one before
abbrev pub fused_between : ℕ → ℕ → List ℕ → List Command
fused_between n common w = if nat_le n common then Fuse (as_prefix (take n w)) ∷ [] else []

-- the fissions of vectors in beta order
abbrev pub fissions_of : List (List ℕ) → List Command
fissions_of [] = []
fissions_of (v ∷ V) = as_fissions (all_parted max_levels v V)

-- for a valid SCoP, these are the script's fissions
abbrev pub FissionsAreRead : Type 0
FissionsAreRead = (S : ScopData) → IsValid S → fissions (vectors_of (in_beta_order S)) ≡ fissions_of (vectors_of (in_beta_order S))
