-- The commands that the program's words name.
use Rattle.std.specs.Prelude.{◌≡◌, ℕ, ◌≤◌, Bool, true, false, not, ◌||◌, ◌==◌, List, [], ◌∷◌, codes}
use Rattle.std.specs.Fmt.{decimal}
use Rattle.std.specs.List.{AllPass, count_by, list_all, list_any}
use Rattle.std.specs.Str.{bytes_eq}
use Rattle.suite_cli.specs.declared.commands.Work.{Work}
use Rattle.suite_cli.specs.declared.commands.Work.TheVariants as work

-- a command with the words of its files, or with its number of loops
pub data Command : Type 0 where
  Clan : (file : List ℕ) → Command
  Scop : (file : List ℕ) → Command
  Candl : (file : List ℕ) → Command
  Audit : (file : List ℕ) → Command
  Clay : (script file : List ℕ) → Command
  Chlore : (original target : List ℕ) → Command
  Demo : (loops : ℕ) → Command

-- the command that a work is
abbrev pub command_of : Work → Command
command_of (work.Clan file) = Clan file.now
command_of (work.Scop file) = Scop file.now
command_of (work.Candl file) = Candl file.now
command_of (work.Audit file) = Audit file.now
command_of (work.Clay script file) = Clay script.now file.now
command_of (work.Chlore original target) = Chlore original.now target.now
command_of (work.Demo loops) = Demo loops

-- the words of the files that a command reads, in their order
abbrev pub files_of : Command → List (List ℕ)
files_of (Clan file) = file ∷ []
files_of (Scop file) = file ∷ []
files_of (Candl file) = file ∷ []
files_of (Audit file) = file ∷ []
files_of (Clay script file) = script ∷ (file ∷ [])
files_of (Chlore original target) = original ∷ (target ∷ [])
files_of (Demo loops) = []

-- the words of a command
abbrev pub words_of : Command → List (List ℕ)
words_of (Clan file) = codes "clan" ∷ (file ∷ [])
words_of (Scop file) = codes "scop" ∷ (file ∷ [])
words_of (Candl file) = codes "candl" ∷ (file ∷ [])
words_of (Audit file) = codes "audit" ∷ (file ∷ [])
words_of (Clay script file) = codes "clay" ∷ (script ∷ (file ∷ []))
words_of (Chlore original target) = codes "chlore" ∷ (original ∷ (target ∷ []))
words_of (Demo loops) = codes "demo" ∷ (decimal loops ∷ [])

-- the word for standard input
abbrev pub is_input : List ℕ → Bool
is_input word = bytes_eq word (codes "-")

-- not empty, and no `-` first
abbrev pub is_file_name : List ℕ → Bool
is_file_name [] = false
is_file_name (b ∷ word) = not (b == 45)

abbrev pub is_file_word : List ℕ → Bool
is_file_word word = is_input word || is_file_name word

-- some file is standard input
abbrev pub has_input : List (List ℕ) → Bool
has_input files = list_any is_input files

-- each file is standard input
abbrev pub has_no_name : List (List ℕ) → Bool
has_no_name files = list_all is_input files

-- each word names a file, and standard input is named at most once
pub record AreFileWords (files : List (List ℕ)) : Type 0 where
  pub each : AllPass is_file_word files
  pub once : count_by is_input files ≤ 1

-- how many loops a demo may have
abbrev pub IsLoopCount : ℕ → Type 0
IsLoopCount loops = (1 ≤ loops) × (loops ≤ 32)

-- the word says this number of loops: decimal digits without a leading zero
pub record IsLoopWord (word : List ℕ) (loops : ℕ) : Type 0 where
  pub count : IsLoopCount loops
  pub digits : word ≡ decimal loops

-- a demo has as many loops as it may have
abbrev pub HasLoops : Command → Type 0
HasLoops (Demo loops) = IsLoopCount loops
HasLoops command = Unit {0}

-- these words are this command
pub record Words (words : List (List ℕ)) (command : Command) : Type 0 where
  pub words_are : words ≡ words_of command
  pub files : AreFileWords (files_of command)
  pub loops : HasLoops command

-- the words of none
abbrev pub IsNoCommand : List (List ℕ) → Type 0
IsNoCommand words = (command : Command) → ¬ Words words command

-- whatever command the words are, it reads no file by its name
abbrev pub NameNoFile : List (List ℕ) → Type 0
NameNoFile words = (command : Command) → Words words command → has_no_name (files_of command) ≡ true

-- whatever command the words are, it does not read standard input
abbrev pub NameNoInput : List (List ℕ) → Type 0
NameNoInput words = (command : Command) → Words words command → has_input (files_of command) ≡ false
