-- The outside at a moment, as far as it is told.
use Rattle.std.specs.Prelude.{◌≡◌, ℕ, ◌≤◌, List, Option}
use Rattle.suite_base.specs.Outside.{HasFault}
use Rattle.suite_base.specs.declared.outside.Files as files
use Rattle.suite_base.specs.declared.outside.Sink as sink
use Rattle.suite_base.specs.declared.outside.Source as source

-- the files that are held and the bytes left of standard input, where they are told, and the counts of faults
pub record Inputs : Type 0 where
  pub held : Option (List (List ℕ × List ℕ))
  pub opening : ℕ
  pub left : Option (List ℕ)
  pub reading : ℕ

-- the bytes that were written, where they are told, and the count of faults
pub record Output : Type 0 where
  pub written : Option (List ℕ)
  pub writing : ℕ

-- what a run reads from and writes to
pub record World : Type 0 where
  pub inputs : Inputs
  pub output : Output

-- what the objects tell
abbrev pub inputs_of : {F I : Type 0} → files.Ghosts F → source.Ghosts I → F → I → Inputs
inputs_of F I f i = record { held = F.held f; opening = F.faults f; left = I.left i; reading = I.faults i }

abbrev pub output_of : {O : Type 0} → sink.Ghosts O → O → Output
output_of O o = record { written = O.written o; writing = O.faults o }

abbrev pub world_of : {F I O : Type 0} → files.Ghosts F → source.Ghosts I → sink.Ghosts O → F → I → O → World
world_of F I O f i o = record { inputs = inputs_of F I f i; output = output_of O o }

-- no count of faults fell
pub record Grows (before now : Inputs) : Type 0 where
  pub opening : before.opening ≤ now.opening
  pub reading : before.reading ≤ now.reading

-- nothing was written
abbrev pub IsUnwritten : World → World → Type 0
IsUnwritten before now = now.output.written ≡ before.output.written

-- a fault of writing was counted
abbrev pub IsWriteFaulty : Output → Output → Type 0
IsWriteFaulty before now = HasFault before.writing now.writing
