-- What each outcome of a run tells of what was read and written.
use Rattle.std.specs.Prelude.{◌≡◌, ◌⊎◌, ℕ, List}
use Rattle.suite_base.specs.Outside.{Wrote, WrotePart}
use Rattle.suite_base.specs.declared.reading.ReadFail.{ReadFail}
use Rattle.suite_base.specs.declared.reading.ReadFail.TheVariants as fail
use Rattle.suite_base.specs.declared.refusals.Refusal.{Refusal}
use Rattle.suite_base.specs.declared.refusals.Refusal.TheVariants.{TooLong}
use Rattle.suite_cli.specs.declared.outcomes.Outcome.{Outcome}
use Rattle.suite_cli.specs.declared.outcomes.Outcome.TheVariants.{Done, Refused, Usage, ReadFault, WriteFault, Memory}
use Rattle.suite_cli.specs.Commands.{Command, IsNoCommand, Words, files_of}
use Rattle.suite_cli.specs.Messages.{message}
use Rattle.suite_cli.specs.Promises.{Makes, Takes, Refuses}
use Rattle.suite_cli.specs.Reads.{AreRead, AreReadable, HasReadFault, IsTooLong}
use Rattle.suite_cli.specs.Worlds.{Inputs, IsUnwritten, IsWriteFaulty, Output, World}

-- a run that ended well: the whole output was written
pub record Writes (command : Command) (before now : World) : Type 0 where
  pub texts : List (List ℕ)
  pub output : List ℕ
  pub read : AreRead before.inputs now.inputs (files_of command) texts
  pub makes : Makes command texts output
  pub wrote : Wrote before.output.written output now.output.written

-- a run whose output was cut short
pub record WritesPart (command : Command) (before now : World) : Type 0 where
  pub texts : List (List ℕ)
  pub output : List ℕ
  pub read : AreRead before.inputs now.inputs (files_of command) texts
  pub makes : Makes command texts output
  pub wrote : WrotePart before.output.written output now.output.written

-- the files were read whole, and the command refuses them
pub record IsRefused (command : Command) (before now : Inputs) (place : ℕ) (refusal : Refusal) : Type 0 where
  pub texts : List (List ℕ)
  pub read : AreRead before now (files_of command) texts
  pub refused : Refuses command texts place refusal

-- why the file at this place was refused: TooLong for its length alone, every other refusal for the texts
abbrev pub RefusalCause : Command → Inputs → Inputs → ℕ → Refusal → Type 0
RefusalCause command before now place TooLong = IsTooLong before now (files_of command) place
RefusalCause command before now place refusal = IsRefused command before now place refusal

-- what the outcome says of this command
abbrev pub CommandAnswers : Command → World → World → Outcome → Type 0
CommandAnswers command before now Done = Writes command before now
CommandAnswers command before now (Refused place refusal) =
    RefusalCause command before.inputs now.inputs place refusal × IsUnwritten before now
CommandAnswers command before now Usage = ⊥
CommandAnswers command before now ReadFault =
    HasReadFault before.inputs now.inputs (files_of command) × IsUnwritten before now
CommandAnswers command before now WriteFault = IsWriteFaulty before.output now.output × WritesPart command before now
CommandAnswers command before now Memory = IsUnwritten before now

-- what the outcome says of the words
abbrev pub Answers : List (List ℕ) → World → World → Outcome → Type 0
Answers words before now Usage =
    IsNoCommand words × (now.inputs.left ≡ before.inputs.left) × IsUnwritten before now
Answers words before now outcome =
    (command : Command) × Words words command × CommandAnswers command before now outcome

-- what the outcome of a run says that ended before all files were read
abbrev pub ReadingAnswers : List (List ℕ) → Inputs → Inputs → Outcome → Type 0
ReadingAnswers files before now (Refused place TooLong) = IsTooLong before now files place
ReadingAnswers files before now ReadFault = HasReadFault before now files
ReadingAnswers files before now Memory = Unit {0}
ReadingAnswers files before now outcome = ⊥

-- the outcome of a file that was not read to its end
abbrev pub unread_at : ℕ → ReadFail → Outcome
unread_at place fail.Memory = Memory
unread_at place fail.Fault = ReadFault
unread_at place fail.TooLong = Refused place TooLong

-- the message of the outcome was written, or a first part of it where the sink had a fault; at Done nothing was
abbrev pub Reported : Output → Output → Outcome → Type 0
Reported before now Done = now.written ≡ before.written
Reported before now outcome =
    Wrote before.written (message outcome) now.written
    ⊎ (IsWriteFaulty before now × WrotePart before.written (message outcome) now.written)

-- the words are a command that takes the texts of its files, which are told and may be read, and no fault was counted
pub record IsComplete (words : List (List ℕ)) (before now : World) : Type 0 where
  pub command : Command
  pub texts : List (List ℕ)
  pub asked : Words words command
  pub readable : AreReadable before.inputs now.inputs (files_of command) texts
  pub taken : Takes command texts
  pub wrote : ¬ IsWriteFaulty before.output now.output

-- then the run ends well, unless memory is wanting
abbrev pub Completes : List (List ℕ) → World → World → Outcome → Type 0
Completes words before now outcome = IsComplete words before now → (outcome ≡ Done) ⊎ (outcome ≡ Memory)
