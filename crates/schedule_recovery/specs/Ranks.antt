-- A table of where numbers stand in a list.
use Rattle.std.specs.Prelude.{◌≡◌, ◌<◌, ℕ, List, length, get_or}
use Rattle.beta_tree.specs.Edits.{place_of}

-- entry p is where p stands among these numbers
abbrev pub AreRanks : List ℕ → List ℕ → Type 0
AreRanks numbers ranks = (p d : ℕ) → p < length ranks → get_or ranks p d ≡ place_of p numbers
