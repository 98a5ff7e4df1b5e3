-- The audit of a SCoP's block of dependences: its counts, or the first entry that is not the defined one.
use Rattle.std.specs.Prelude.{◌≡◌, ℤ, pos, ℕ, ◌+◌, ◌^◌, nat_lt, Bool, true, false, if◌then◌else◌, List, [], ◌∷◌, length, bytes_eq, Option, Some, None, Result, Ok, Err}
use Rattle.suite_base.specs.declared.refusals.Fail.{Fail}
use Rattle.suite_base.specs.declared.refusals.Fail.TheVariants as fail
use Rattle.suite_base.specs.declared.refusals.Refusal.{Refusal}
use Rattle.suite_base.specs.declared.refusals.Refusal.TheVariants.{Limit, Overflow, BadCertificate}
use Rattle.suite_base.specs.declared.refusals.Where.TheVariants.{System as OfSystem}
use Rattle.suite_base.specs.declared.refusals.Which.TheVariants.{Systems}
use Rattle.suite_base.specs.Limits.{max_systems}
use Rattle.relation_core.specs.Systems.{System}
use Rattle.scop_core.specs.ScopData.{ScopData}
use Rattle.scop_data.specs.declared.statements.Extension.{Extension}
use Rattle.dependence_systems.specs.declared.dependences.Dep.{Dep}
use Rattle.dependence_systems.specs.Sides.{Side, own_sides}
use Rattle.dependence_systems.specs.Entries.{entries}
use Rattle.dependence_systems.specs.Systems.{system_of, summand_weight}
use Rattle.dependence_blocks.specs.Blocks.{block_name}
use Rattle.dependence_audit.specs.declared.audits.Counts.{Counts}
use Rattle.dependence_audit.specs.Contents.{contents, says}
use Rattle.dependence_audit.specs.Readings.{Reading, Stands, Wrong, Heavy, read_entry}

-- verdicts in order, one for each entry; none where an entry is kept, else the multipliers
abbrev pub Verdicts : Type 0
Verdicts = List (Option (List ℤ))

-- one verdict more in front of those that follow
abbrev pub in_front : Option (List ℤ) → Result Verdicts Refusal → Result Verdicts Refusal
in_front verdict (Ok verdicts) = Ok (verdict ∷ verdicts)
in_front verdict (Err refusal) = Err refusal

-- what an entry was read as, and the verdicts of the others, which depend on the lines behind it
abbrev pub by_reading : ℕ → Reading → (List (List ℕ) → Result Verdicts Refusal) → Result Verdicts Refusal
by_reading k (Stands verdict lines) others = in_front verdict (others lines)
by_reading k Wrong others = Err (BadCertificate k)
by_reading k Heavy others = Err (Overflow OfSystem k)

-- the entries in order, the first of them number k: the verdict of each where all are the defined ones and nothing follows;
-- else the first that is not. Where the summands of its own system overflow, no line is looked at
abbrev pub read_entries : System → List Side → ℕ → List Dep → List (List ℕ) → Result Verdicts Refusal
read_entries context sides k [] [] = Ok []
read_entries context sides k [] (line ∷ lines) = Err (BadCertificate k)
read_entries context sides k (e ∷ list) lines =
    if nat_lt (summand_weight context sides e) (2 ^ 127)
    then by_reading k (read_entry e (system_of context sides e) lines) (λ rest. read_entries context sides (k + 1) list rest)
    else Err (Overflow OfSystem k)

-- the block: the number of systems, then the entries
abbrev pub read_block : System → List Side → List Dep → List (List ℕ) → Result Verdicts Refusal
read_block context sides list [] = Err (BadCertificate 0)
read_block context sides list (line ∷ lines) =
    if says line (pos (length list) ∷ []) then read_entries context sides 1 list lines else Err (BadCertificate 0)

-- the lines of the first extension of this name
abbrev pub first_named : List ℕ → List Extension → Option (List (List ℕ))
first_named name [] = None
first_named name (extension ∷ extensions) = if bytes_eq extension.name name then Some extension.lines else first_named name extensions

-- the block that was found, if any
abbrev pub read_found : System → List Side → List Dep → Option (List (List ℕ)) → Result Verdicts Refusal
read_found context sides list None = Err (BadCertificate 0)
read_found context sides list (Some lines) = read_block context sides list (contents lines)

-- the verdicts that the first global block of a SCoP states, one for each of its systems; or the refusal of the block
abbrev pub verdicts_in : ScopData → Result Verdicts Refusal
verdicts_in S =
    if nat_lt max_systems (length (entries (own_sides S))) then Err (Limit Systems 0)
    else read_found S.context (own_sides S) (entries (own_sides S)) (first_named block_name S.extensions)

-- the number of kept entries, of dropped ones
abbrev pub kept_count : Verdicts → ℕ
kept_count [] = 0
kept_count (None ∷ verdicts) = kept_count verdicts + 1
kept_count (Some ls ∷ verdicts) = kept_count verdicts

abbrev pub dropped_count : Verdicts → ℕ
dropped_count [] = 0
dropped_count (None ∷ verdicts) = dropped_count verdicts
dropped_count (Some ls ∷ verdicts) = dropped_count verdicts + 1

abbrev pub counts_of : Verdicts → Counts
counts_of verdicts = record { systems = length verdicts; kept = kept_count verdicts; dropped = dropped_count verdicts }

abbrev pub counted : Result Verdicts Refusal → Result Counts Refusal
counted (Ok verdicts) = Ok (counts_of verdicts)
counted (Err refusal) = Err refusal

-- the counts of the block, or its refusal
abbrev pub audited : ScopData → Result Counts Refusal
audited S = counted (verdicts_in S)

-- a failure is this refusal, or want of memory
abbrev pub IsCause : Result Counts Refusal → Fail → Type 0
IsCause answer fail.Memory = Unit {0}
IsCause answer (fail.Refused refusal) = answer ≡ Err refusal

-- whether the verdict is that the entry is kept
abbrev pub is_kept : Option (List ℤ) → Bool
is_kept None = true
is_kept (Some ls) = false

-- entry number k is the defined one, kept or not, and its lines were taken
pub record EntryStands (context : System) (sides : List Side) (k : ℕ) (e : Dep) (old new : List (List ℕ)) (kept : Bool) : Type 0 where
  pub verdict : Option (List ℤ)
  pub kept_is : kept ≡ is_kept verdict
  pub reads : (list : List Dep) → read_entries context sides k (e ∷ list) old ≡ in_front verdict (read_entries context sides (k + 1) list new)

-- entry number k is refused, or memory is wanting
abbrev pub EntryStops : System → List Side → ℕ → Dep → List (List ℕ) → Fail → Type 0
EntryStops context sides k e old fail.Memory = Unit {0}
EntryStops context sides k e old (fail.Refused refusal) = (list : List Dep) → read_entries context sides k (e ∷ list) old ≡ Err refusal

-- the first line is a count, and was taken
pub record CountFollows (count : ℕ) (old new : List (List ℕ)) : Type 0 where
  pub line : List ℕ
  pub taken : old ≡ line ∷ new
  pub says : says line (pos count ∷ []) ≡ true

-- a count, and whether its line came first
abbrev pub TakesCount : ℕ → List (List ℕ) → Bool → List (List ℕ) → Type 0
TakesCount count old true new = CountFollows count old new
TakesCount count [] false new = Unit {0}
TakesCount count (line ∷ lines) false new = says line (pos count ∷ []) ≡ false
