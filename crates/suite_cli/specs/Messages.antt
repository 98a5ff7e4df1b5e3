-- The one message of each outcome, a line on standard error.
use Rattle.std.specs.Prelude.{ℕ, List, [], ◌++◌, codes}
use Rattle.std.specs.Fmt.{decimal}
use Rattle.suite_base.specs.declared.refusals.Refusal.{Refusal}
use Rattle.suite_base.specs.Refusals.{Told, entry_of}
use Rattle.suite_cli.specs.declared.outcomes.Outcome.{Outcome}
use Rattle.suite_cli.specs.declared.outcomes.Outcome.TheVariants.{Done, Refused, Usage, ReadFault, WriteFault, Memory}
use Rattle.suite_cli.specs.declared.messages.Head.{Head}

-- the line of a refusal of this file
abbrev pub line_of : ℕ → Told → List ℕ
line_of file told = codes "suite: refused " ++ (decimal file ++ (codes " " ++ (decimal told.number ++ (codes " " ++ (told.name ++ told.fields)))))

abbrev pub refusal_line : ℕ → Refusal → List ℕ
refusal_line file refusal = line_of file (entry_of refusal)

abbrev pub message : Outcome → List ℕ
message Done = []
message (Refused file refusal) = refusal_line file refusal
message Usage = codes "suite: usage\n"
message ReadFault = codes "suite: read fault\n"
message WriteFault = codes "suite: write fault\n"
message Memory = codes "suite: want of memory\n"

-- the status with which the program ends
abbrev pub status_of : Outcome → ℕ
status_of Done = 0
status_of (Refused file refusal) = 1
status_of Usage = 2
status_of ReadFault = 3
status_of WriteFault = 4
status_of Memory = 5

-- a line that begins with these words of a refusal
abbrev pub line_with : Head → List ℕ → List ℕ
line_with head fields = codes "suite: refused " ++ (head.file.now ++ (codes " " ++ (head.number.now ++ (codes " " ++ (head.name.now ++ fields)))))
