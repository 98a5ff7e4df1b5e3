-- What the words of files name, and how they are read: in their order, each to its end.
use Rattle.std.specs.Prelude.{◌≡◌, ◌⊎◌, ℕ, ◌+◌, ◌<◌, ◌≤◌, true, false, List, [], ◌∷◌, ◌++◌, Option, Some, None, IfSome, length}
use Rattle.suite_base.specs.Outside.{HasFault, IsMissing, Took, Under, bytes_under}
use Rattle.suite_base.specs.declared.reading.ReadFail.{ReadFail}
use Rattle.suite_base.specs.declared.reading.ReadFail.TheVariants as fail
use Rattle.suite_base.specs.Limits.{max_input}
use Rattle.suite_cli.specs.Commands.{has_input, has_no_name, is_input}
use Rattle.suite_cli.specs.Worlds.{Grows, Inputs}

-- P where the word is standard input, Q where it names a file
abbrev pub ByWord : List ℕ → Type 0 → Type 0 → Type 0
ByWord file P Q = ((is_input file ≡ true) × P) ⊎ ((is_input file ≡ false) × Q)

-- the bytes that the word names, where they are told, meet P; a file of this name is held, where files are told
abbrev pub Named : Inputs → List ℕ → (List ℕ → Type 0) → Type 0
Named inputs file P = ByWord file (IfSome inputs.left P) (Under inputs.held file P)

-- the word names more bytes than an input may have
abbrev pub IsLong : Inputs → List ℕ → Type 0
IsLong inputs file = Named inputs file (λ bytes. max_input < length bytes)

-- a fault was counted of the object that the word has read
abbrev pub IsReadFaulty : Inputs → Inputs → List ℕ → Type 0
IsReadFaulty before now file = ByWord file (HasFault before.reading now.reading) (HasFault before.opening now.opening)

-- such a fault, or the files are told and none has the name
abbrev pub FaultCause : Inputs → Inputs → List ℕ → Type 0
FaultCause before now file =
    ByWord file (HasFault before.reading now.reading) (HasFault before.opening now.opening ⊎ IsMissing before.held file)

-- why the word was not read to its end
abbrev pub FailCause : Inputs → Inputs → ReadFail → List ℕ → Type 0
FailCause before now fail.Memory file = Unit {0}
FailCause before now fail.Fault file = FaultCause before now file
FailCause before now fail.TooLong file = IsLong before file

-- `text` is all that the word names, and no more than an input may have
pub record ReadWhole (before now : Inputs) (file text : List ℕ) : Type 0 where
  pub whole : Named before file (λ bytes. text ≡ bytes)
  pub took : is_input file ≡ true → Took before.left text now.left
  pub short : length text ≤ max_input

-- P holds of each word and its text
abbrev pub OfEach : (List ℕ → List ℕ → Type 0) → List (List ℕ) → List (List ℕ) → Type 0
OfEach P [] [] = Unit {0}
OfEach P (file ∷ files) (text ∷ texts) = P file text × OfEach P files texts
OfEach P files texts = ⊥

-- the texts are all that the words name
abbrev pub AreRead : Inputs → Inputs → List (List ℕ) → List (List ℕ) → Type 0
AreRead before now files texts = OfEach (ReadWhole before now) files texts

-- what stays as it was where only these words were read
pub record ReadsNoMore (before now : Inputs) (files : List (List ℕ)) : Type 0 where
  pub held : now.held ≡ before.held
  pub unread : has_input files ≡ false → now.left ≡ before.left
  pub unopened : has_no_name files ≡ true → now.opening ≡ before.opening
  pub grows : Grows before now

-- reading ended at the word of this place, which counts from 1: the words before it were read to their ends, P holds
-- of it, and none behind it was read
pub record StopsAt (before now : Inputs) (files : List (List ℕ)) (place : ℕ) (P : List ℕ → Type 0) : Type 0 where
  pub earlier : List (List ℕ)
  pub file : List ℕ
  pub later : List (List ℕ)
  pub texts : List (List ℕ)
  pub files_are : files ≡ earlier ++ file ∷ later
  pub place_is : place ≡ length earlier + 1
  pub read : AreRead before now earlier texts
  pub stop : P file
  pub last : ReadsNoMore before now (earlier ++ file ∷ [])

-- the file at this place is longer than an input may be
abbrev pub IsTooLong : Inputs → Inputs → List (List ℕ) → ℕ → Type 0
IsTooLong before now files place = StopsAt before now files place (IsLong before)

-- some file could not be read
abbrev pub HasReadFault : Inputs → Inputs → List (List ℕ) → Type 0
HasReadFault before now files = (place : ℕ) × StopsAt before now files place (FaultCause before now)

-- these files are told, and these bytes stand under the name
abbrev pub Holds : Option (List (List ℕ × List ℕ)) → List ℕ → List ℕ → Type 0
Holds None name bytes = ⊥
Holds (Some files) name bytes = bytes_under name files ≡ Some bytes

-- the bytes that the word names are told, and are these
abbrev pub Tells : Inputs → List ℕ → List ℕ → Type 0
Tells inputs file bytes = ByWord file (inputs.left ≡ Some bytes) (Holds inputs.held file bytes)

-- what the word names is told, is this text, and may be read; no fault was counted of what the word has read
pub record IsReadable (before now : Inputs) (file text : List ℕ) : Type 0 where
  pub told : Tells before file text
  pub short : length text ≤ max_input
  pub sound : ¬ IsReadFaulty before now file

abbrev pub AreReadable : Inputs → Inputs → List (List ℕ) → List (List ℕ) → Type 0
AreReadable before now files texts = OfEach (IsReadable before now) files texts
