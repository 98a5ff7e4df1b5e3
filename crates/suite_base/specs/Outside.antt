use Rattle.std.specs.Prelude.{◌≡◌, ℕ, ◌+◌, ◌-◌, ◌^◌, ◌<◌, ◌≤◌, ◌⊎◌, Option, Some, None, List, [], ◌∷◌, ◌++◌, length, take, drop, get_or, min, IsSomeAnd, Bool, ◌==◌, if◌then◌else◌}
use Rattle.std.specs.List.{list_any}
use Rattle.std.specs.Str.{bytes_eq}

-- a count of faults, kept in 64 bits, shows a fault: it rose, or it stands at its last value
abbrev pub HasFault : ℕ → ℕ → Type 0
HasFault before now = (before < now) ⊎ (now ≡ 2 ^ 64 - 1)

-- `piece` was taken from the front of what was left, where that is told
abbrev pub Took : Option (List ℕ) → List ℕ → Option (List ℕ) → Type 0
Took None piece now = now ≡ None
Took (Some left) piece now = (now ≡ Some (drop (length piece) left)) × (piece ≡ take (length piece) left)

-- `piece` was appended to what was written, where that is told
abbrev pub Wrote : Option (List ℕ) → List ℕ → Option (List ℕ) → Type 0
Wrote None piece now = now ≡ None
Wrote (Some old) piece now = now ≡ Some (old ++ piece)

-- a first part of `bytes` was appended to what was written
abbrev pub WrotePart : Option (List ℕ) → List ℕ → Option (List ℕ) → Type 0
WrotePart old bytes now = (done rest : List ℕ) × (bytes ≡ done ++ rest) × Wrote old done now

-- the bytes of the file of this name, where one is held
abbrev pub bytes_under : List ℕ → List (List ℕ × List ℕ) → Option (List ℕ)
bytes_under name [] = None
bytes_under name (file ∷ files) = if bytes_eq name file.0 then Some file.1 else bytes_under name files

-- opening `name` leaves the bytes under it, where the files are told
abbrev pub Opened : Option (List (List ℕ × List ℕ)) → List ℕ → Option (List ℕ) → Type 0
Opened None name left = Unit {0}
Opened (Some files) name left = IsSomeAnd (bytes_under name files) (λ bytes. left ≡ Some bytes)

-- the files are told, and none has this name
abbrev pub IsMissing : Option (List (List ℕ × List ℕ)) → List ℕ → Type 0
IsMissing None name = ⊥
IsMissing (Some files) name = bytes_under name files ≡ None

-- the bytes of the file at place k of the held files; none where there is no such place
abbrev pub bytes_at : List (List ℕ × List ℕ) → ℕ → List ℕ
bytes_at files k = (get_or files k ([], [])).1

-- a first part of what was left, of at most n bytes, was taken, where that is told
abbrev pub TookUpTo : ℕ → Option (List ℕ) → Option (List ℕ) → Type 0
TookUpTo n old now = (piece : List ℕ) × (length piece ≤ n) × Took old piece now

-- the bytes under this name, where the files are told, meet P
abbrev pub Under : Option (List (List ℕ × List ℕ)) → List ℕ → (List ℕ → Type 0) → Type 0
Under None name P = Unit {0}
Under (Some files) name P = IsSomeAnd (bytes_under name files) P

-- ---- fakes that fail where a list says so

-- one more than a count, which is kept in 64 bits and stands still at its last value
abbrev pub one_more : ℕ → ℕ
one_more count = min (count + 1) (2 ^ 64 - 1)

-- the call of this number is one of those that fail
abbrev pub is_listed : List ℕ → ℕ → Bool
is_listed fails call = list_any (λ k. k == call) fails

-- the count of faults behind a call: one more where the call is listed, else the same
abbrev pub faults_after : List ℕ → ℕ → ℕ → ℕ
faults_after fails call faults = if is_listed fails call then one_more faults else faults
