-- What a block that passes says.
use Rattle.std.proofs.Common.{◌≡◌, refl, ap, sym, ℕ, ◌+◌, ◌^◌, List, [], ◌∷◌, Bool, true, false}
use Rattle.std.specs.Prelude.{ℤ, codes, Option, Some, None, Result, Ok, Err, nat_lt, if◌then◌else◌, length, pos}
use Rattle.suite_base.specs.Words.{words}
use Rattle.suite_base.specs.Limits.{max_systems}
use Rattle.suite_base.specs.declared.refusals.Refusal.{Refusal}
use Rattle.suite_base.specs.declared.refusals.Refusal.TheVariants.{Limit, Overflow, BadCertificate}
use Rattle.suite_base.specs.declared.refusals.Where.TheVariants.{System as OfSystem}
use Rattle.suite_base.specs.declared.refusals.Which.TheVariants.{Systems}
use Rattle.relation_core.specs.Systems.{System, columns}
use Rattle.relation_core.specs.declared.part_rows.PartRow.{PartRow}
use Rattle.scop_data.specs.LineWords.{are_same, row_numbers, header_numbers}
use Rattle.farkas_cert.specs.Texts.{certificate_read}
use Rattle.farkas_cert.proofs.Laws.{valid_law}
use Rattle.scop_core.specs.ScopData.{ScopData}
use Rattle.scop_core.specs.Validity.{IsValid}
use Rattle.dependence_systems.specs.declared.dependences.Dep.{Dep}
use Rattle.dependence_systems.specs.Sides.{Side, own_sides}
use Rattle.dependence_systems.specs.Entries.{entries}
use Rattle.dependence_systems.specs.Systems.{system_of, summand_weight}
use Rattle.dependence_blocks.specs.Blocks.{block_name}
use Rattle.dependence_blocks.specs.Conflicts.{AreSound}
use Rattle.dependence_blocks.proofs.Kept.{kept_hold_conflicts}
use Rattle.dependence_audit.specs.declared.audits.Counts.{Counts}
use Rattle.dependence_audit.specs.Contents.{contents, says}
use Rattle.dependence_audit.specs.Readings.{Reading, Stands, Wrong, Heavy, is_heavy, is_valid, judged, read_rows, read_kept, read_dropped, read_entry}
use Rattle.dependence_audit.specs.Audits.{Verdicts, in_front, by_reading, read_entries, read_block, read_found, first_named, verdicts_in, counted}
use Rattle.dependence_audit.specs.Theorems.{IsCertified, AreCertified, IsAudited, AuditedBlocksAreSound}
use Rattle.dependence_audit.proofs.Certified.{valid_tells}
use Rattle.dependence_audit.proofs.EntryReadings.{head_of}

-- what holds of both choices holds of the one that is made
pub if_holds : {A : Type 0} (P : A → Type 0) (b : Bool) (x y : A) → (b ≡ true → P x) → (b ≡ false → P y) → P (if b then x else y)
if_holds P true x y f g = f refl
if_holds P false x y f g = g refl

-- ---- readings

-- the verdict of an entry that stands is certified
abbrev IsFair : System → Reading → Type 0
IsFair system (Stands verdict lines) = IsCertified system verdict
IsFair system Wrong = Unit {0}
IsFair system Heavy = Unit {0}

rows_fair : (system : System) (rows : List PartRow) (lines : List (List ℕ)) → IsFair system (read_rows rows lines)
rows_fair system [] lines = tt
rows_fair system (row ∷ rows) [] = tt
rows_fair system (row ∷ rows) (line ∷ lines) =
    if_holds (IsFair system) (says line (row_numbers row)) (read_rows rows lines) Wrong (λ e. rows_fair system rows lines) (λ e. tt)

kept_fair : (system : System) (lines : List (List ℕ)) → IsFair system (read_kept system lines)
kept_fair system [] = tt
kept_fair system (line ∷ lines) =
    if_holds (IsFair system) (says line (header_numbers system)) (read_rows system.rows lines) Wrong (λ e. rows_fair system system.rows lines) (λ e. tt)

judged_fair : (system : System) (certificate : Option (List ℤ)) (lines : List (List ℕ)) → IsFair system (judged system certificate lines)
judged_fair system None lines = tt
judged_fair system (Some ls) lines =
    if_holds (IsFair system) (is_heavy system ls) Heavy (if is_valid system ls then Stands (Some ls) lines else Wrong) (λ e. tt)
    (λ e. if_holds (IsFair system) (is_valid system ls) (Stands (Some ls) lines) Wrong (λ f. valid_tells system ls f) (λ f. tt))

dropped_fair : (system : System) (lines : List (List ℕ)) → IsFair system (read_dropped system lines)
dropped_fair system [] = tt
dropped_fair system (line ∷ lines) = judged_fair system (certificate_read line) lines

entry_fair : (e : Dep) (system : System) (lines : List (List ℕ)) → IsFair system (read_entry e system lines)
entry_fair e system [] = tt
entry_fair e system (line ∷ lines) =
    let kept = are_same (words line) (head_of e (codes "kept")) in
    let dropped = are_same (words line) (head_of e (codes "dropped")) in
    if_holds (IsFair system) kept (read_kept system lines) (if dropped then read_dropped system lines else Wrong) (λ f. kept_fair system lines)
    (λ f. if_holds (IsFair system) dropped (read_dropped system lines) Wrong (λ g. dropped_fair system lines) (λ g. tt))

-- ---- entries

abbrev AreFair : System → List Side → List Dep → Result Verdicts Refusal → Type 0
AreFair context sides list (Ok verdicts) = AreCertified context sides list verdicts
AreFair context sides list (Err refusal) = Unit {0}

front_fair : (context : System) (sides : List Side) (e : Dep) (list : List Dep) (verdict : Option (List ℤ)) (others : Result Verdicts Refusal)
    → IsCertified (system_of context sides e) verdict → AreFair context sides list others → AreFair context sides (e ∷ list) (in_front verdict others)
front_fair context sides e list verdict (Ok verdicts) f g = (f, g)
front_fair context sides e list verdict (Err refusal) f g = tt

reading_fair : (context : System) (sides : List Side) (k : ℕ) (e : Dep) (list : List Dep) (r : Reading) (others : List (List ℕ) → Result Verdicts Refusal)
    → IsFair (system_of context sides e) r → ((lines : List (List ℕ)) → AreFair context sides list (others lines)) → AreFair context sides (e ∷ list) (by_reading k r others)
reading_fair context sides k e list (Stands verdict lines) others f g = front_fair context sides e list verdict (others lines) f (g lines)
reading_fair context sides k e list Wrong others f g = tt
reading_fair context sides k e list Heavy others f g = tt

entries_fair : (context : System) (sides : List Side) (k : ℕ) (list : List Dep) (lines : List (List ℕ)) → AreFair context sides list (read_entries context sides k list lines)
entries_fair context sides k [] [] = tt
entries_fair context sides k [] (line ∷ lines) = tt
entries_fair context sides k (e ∷ list) lines =
    let system = system_of context sides e in
    let others = λ (rest : List (List ℕ)). read_entries context sides (k + 1) list rest in
    if_holds (AreFair context sides (e ∷ list)) (nat_lt (summand_weight context sides e) (2 ^ 127)) (by_reading k (read_entry e system lines) others) (Err (Overflow OfSystem k))
    (λ f. reading_fair context sides k e list (read_entry e system lines) others (entry_fair e system lines) (λ rest. entries_fair context sides (k + 1) list rest))
    (λ f. tt)

block_fair : (context : System) (sides : List Side) (list : List Dep) (lines : List (List ℕ)) → AreFair context sides list (read_block context sides list lines)
block_fair context sides list [] = tt
block_fair context sides list (line ∷ lines) =
    if_holds (AreFair context sides list) (says line (pos (length list) ∷ [])) (read_entries context sides 1 list lines) (Err (BadCertificate 0))
    (λ f. entries_fair context sides 1 list lines) (λ f. tt)

found_fair : (context : System) (sides : List Side) (list : List Dep) (found : Option (List (List ℕ))) → AreFair context sides list (read_found context sides list found)
found_fair context sides list None = tt
found_fair context sides list (Some lines) = block_fair context sides list (contents lines)

all_fair : (S : ScopData) → AreFair S.context (own_sides S) (entries (own_sides S)) (verdicts_in S)
all_fair S =
    let list = entries (own_sides S) in
    if_holds (AreFair S.context (own_sides S) list) (nat_lt max_systems (length list)) (Err (Limit Systems 0))
    (read_found S.context (own_sides S) list (first_named block_name S.extensions)) (λ f. tt)
    (λ f. found_fair S.context (own_sides S) list (first_named block_name S.extensions))

-- ---- what certified verdicts mean

pub certified_is_sound : (context : System) (sides : List Side) (list : List Dep) (verdicts : Verdicts)
    → AreCertified context sides list verdicts → AreSound context sides list verdicts
certified_is_sound context sides [] [] h = tt
certified_is_sound context sides [] (v ∷ verdicts) h = absurd h
certified_is_sound context sides (e ∷ list) [] h = absurd h
certified_is_sound context sides (e ∷ list) (None ∷ verdicts) h = (tt, certified_is_sound context sides list verdicts h.1)
certified_is_sound context sides (e ∷ list) (Some ls ∷ verdicts) h =
    let system = system_of context sides e in
    (valid_law (columns system.shape) system.rows ls h.0, certified_is_sound context sides list verdicts h.1)

abbrev counts_or : Counts → Result Counts Refusal → Counts
counts_or c (Ok counts) = counts
counts_or c (Err refusal) = c

by_verdicts : (S : ScopData) → IsValid S → (counts : Counts) (r : Result Verdicts Refusal) → verdicts_in S ≡ r
    → AreFair S.context (own_sides S) (entries (own_sides S)) r → counted r ≡ Ok counts → IsAudited S counts
by_verdicts S valid counts (Ok verdicts) is fair e =
    let sound = certified_is_sound S.context (own_sides S) (entries (own_sides S)) verdicts fair in
    record {
      verdicts = verdicts;
      states = is;
      counts_are = sym (ap (counts_or counts) e);
      certified = fair;
      sound = sound;
      kept = kept_hold_conflicts S valid verdicts sound;
    }
by_verdicts S valid counts (Err refusal) is fair e = absurd cc

pub blocks_are_sound : AuditedBlocksAreSound
blocks_are_sound S valid counts e = by_verdicts S valid counts (verdicts_in S) refl (all_fair S) e
