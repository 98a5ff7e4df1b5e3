-- The audit states verdicts exactly where the block is the defined one.
use Rattle.std.proofs.Common.{◌≡◌, refl, ap, sym, ◌∙◌, subst, ℕ, ◌+◌, ◌<◌, ◌≤◌, ◌^◌, List, [], ◌∷◌, ◌++◌, length, Bool, true, false, ◌&&◌, arith}
use Rattle.std.specs.Prelude.{ℤ, pos, codes, Option, Some, None, Result, Ok, Err, nat_lt, if◌then◌else◌}
use Rattle.std.specs.Ordering.{int_eq}
use Rattle.std.proofs.lemmas.Bool.{and_parts, and_from}
use Rattle.std.proofs.lemmas.Bool.Decides.{Decides-int_eq, Decides-ltb, not_from_Decides}
use Rattle.suite_base.specs.Limits.{max_systems}
use Rattle.suite_base.specs.Numbers.{number_read}
use Rattle.suite_base.specs.Words.{words}
use Rattle.suite_base.specs.declared.numbers.NumberRead.{NumberRead}
use Rattle.suite_base.specs.declared.numbers.NumberRead.TheVariants.{Value, TooLarge, NotNumber}
use Rattle.suite_base.specs.declared.refusals.Refusal.{Refusal}
use Rattle.suite_base.specs.declared.refusals.Refusal.TheVariants.{Limit, Overflow, BadCertificate}
use Rattle.suite_base.specs.declared.refusals.Where.TheVariants.{System as OfSystem}
use Rattle.suite_base.specs.declared.refusals.Which.TheVariants.{Systems}
use Rattle.relation_core.specs.Systems.{System, columns}
use Rattle.relation_core.specs.declared.part_rows.PartRow.{PartRow}
use Rattle.scop_data.specs.LineWords.{are_same, is_value, are_numbers, row_numbers, header_numbers}
use Rattle.scop_data.proofs.LineWords.{same_words, words_same}
use Rattle.farkas_cert.specs.Texts.{certificate_read, multipliers_read, in_range, one_more}
use Rattle.farkas_cert.specs.Certificates.{IsTooHeavy}
use Rattle.scop_core.specs.ScopData.{ScopData}
use Rattle.dependence_systems.specs.declared.dependences.Dep.{Dep}
use Rattle.dependence_systems.specs.Sides.{Side, own_sides}
use Rattle.dependence_systems.specs.Entries.{entries}
use Rattle.dependence_systems.specs.Systems.{system_of, summand_weight}
use Rattle.dependence_blocks.specs.Blocks.{block_name, entry_words, verdict_word}
use Rattle.dependence_audit.specs.Contents.{contents, says}
use Rattle.dependence_audit.specs.Readings.{Reading, Stands, Wrong, Heavy, is_heavy, is_valid, judged, read_rows, read_kept, read_dropped, read_entry}
use Rattle.dependence_audit.specs.Audits.{Verdicts, in_front, by_reading, read_entries, read_block, read_found, first_named, verdicts_in}
use Rattle.dependence_audit.specs.Defined.{Says, SayRows, SayVerdict, BeginsDefined, AreDefined, IsDefinedBlock, AuditIsExact}
use Rattle.dependence_audit.proofs.Certified.{valid_is, valid_tells, not_heavy, heavy_is}
use Rattle.dependence_audit.proofs.EntryReadings.{head_of, reads_kept, reads_dropped, light_entry, heavy_test}
use Rattle.dependence_audit.proofs.PrintedLines.{other_verdict}
use Rattle.dependence_audit.proofs.Printed.{chosen, refused}
use Rattle.dependence_audit.proofs.Sound.{if_holds}

-- ---- numbers

value_tells : (r : NumberRead) (z : ℤ) → is_value z r ≡ true → in_range r ≡ Some z
value_tells (Value y) z e = ap Some ((Decides-int_eq y z).0 e)
value_tells TooLarge z e = absurd cc
value_tells NotNumber z e = absurd cc

numbers_tell : (ws : List (List ℕ)) (zs : List ℤ) → are_numbers ws zs ≡ true → multipliers_read ws ≡ Some zs
numbers_tell [] [] e = refl
numbers_tell [] (z ∷ zs) e = absurd cc
numbers_tell (w ∷ ws) [] e = absurd cc
numbers_tell (w ∷ ws) (z ∷ zs) e =
    let p = and_parts (is_value z (number_read w)) (are_numbers ws zs) e in
    ap (λ r. one_more r (multipliers_read ws)) (value_tells (number_read w) z p.0) ∙ ap (one_more (Some z)) (numbers_tell ws zs p.1)

abbrev numbers_or : List ℤ → Option (List ℤ) → List ℤ
numbers_or zs None = zs
numbers_or zs (Some ys) = ys

abbrev more_numbers : List (List ℕ) → NumberRead → List ℤ → Bool
more_numbers ws r [] = false
more_numbers ws r (z ∷ zs) = is_value z r && are_numbers ws zs

tell_more : (ws : List (List ℕ)) (r : NumberRead) (m : Option (List ℤ)) (zs : List ℤ) → ((ys : List ℤ) → m ≡ Some ys → are_numbers ws ys ≡ true)
    → one_more (in_range r) m ≡ Some zs → more_numbers ws r zs ≡ true
tell_more ws (Value y) None zs others e = absurd cc
tell_more ws (Value y) (Some ys) zs others e =
    let same : y ∷ ys ≡ zs = ap (numbers_or zs) e in
    subst (λ xs. more_numbers ws (Value y) xs ≡ true) same
    (and_from (int_eq y y) (are_numbers ws ys) ((Decides-int_eq y y).1 refl) (others ys refl))
tell_more ws TooLarge m zs others e = absurd cc
tell_more ws NotNumber m zs others e = absurd cc

same_more : (w : List ℕ) (ws : List (List ℕ)) (zs : List ℤ) → more_numbers ws (number_read w) zs ≡ are_numbers (w ∷ ws) zs
same_more w ws [] = refl
same_more w ws (z ∷ zs) = refl

tell_numbers : (ws : List (List ℕ)) (zs : List ℤ) → multipliers_read ws ≡ Some zs → are_numbers ws zs ≡ true
tell_numbers [] [] e = refl
tell_numbers [] (z ∷ zs) e = absurd (let no_more : [] ≡ z ∷ zs = ap (numbers_or []) e in cc)
tell_numbers (w ∷ ws) zs e = sym (same_more w ws zs) ∙ tell_more ws (number_read w) (multipliers_read ws) zs (tell_numbers ws) e

-- ---- from a reading to its lines

abbrev RowsFit : List PartRow → List (List ℕ) → Reading → Type 0
RowsFit rows lines (Stands None rest) = (own : List (List ℕ)) × (lines ≡ own ++ rest) × SayRows rows own
RowsFit rows lines (Stands (Some ls) rest) = ⊥
RowsFit rows lines Wrong = Unit {0}
RowsFit rows lines Heavy = Unit {0}

rows_more : (row : PartRow) (rows : List PartRow) (line : List ℕ) (lines : List (List ℕ)) (r : Reading) → Says line (row_numbers row)
    → RowsFit rows lines r → RowsFit (row ∷ rows) (line ∷ lines) r
rows_more row rows line lines (Stands None rest) s f = (line ∷ f.0, ap (λ (t : List (List ℕ)). line ∷ t) f.1, (s, f.2))
rows_more row rows line lines (Stands (Some ls) rest) s f = absurd f
rows_more row rows line lines Wrong s f = tt
rows_more row rows line lines Heavy s f = tt

rows_fit : (rows : List PartRow) (lines : List (List ℕ)) → RowsFit rows lines (read_rows rows lines)
rows_fit [] lines = ([], refl, tt)
rows_fit (row ∷ rows) [] = tt
rows_fit (row ∷ rows) (line ∷ lines) =
    if_holds (RowsFit (row ∷ rows) (line ∷ lines)) (says line (row_numbers row)) (read_rows rows lines) Wrong
    (λ e. rows_more row rows line lines (read_rows rows lines) (numbers_tell (words line) (row_numbers row) e) (rows_fit rows lines)) (λ e. tt)

-- the lines behind a head, up to where the reading ends
abbrev VerdictFits : System → List (List ℕ) → Reading → Type 0
VerdictFits system lines (Stands verdict rest) = (own : List (List ℕ)) × (lines ≡ own ++ rest) × SayVerdict system verdict own
VerdictFits system lines Wrong = Unit {0}
VerdictFits system lines Heavy = Unit {0}

kept_more : (system : System) (line : List ℕ) (lines : List (List ℕ)) (r : Reading) → Says line (header_numbers system)
    → RowsFit system.rows lines r → VerdictFits system (line ∷ lines) r
kept_more system line lines (Stands None rest) s f = (line ∷ f.0, ap (λ (t : List (List ℕ)). line ∷ t) f.1, (s, f.2))
kept_more system line lines (Stands (Some ls) rest) s f = absurd f
kept_more system line lines Wrong s f = tt
kept_more system line lines Heavy s f = tt

-- the verdict that a head names, and the lines behind it
abbrev EntryFits : Dep → System → List (List ℕ) → Reading → Type 0
EntryFits e system lines (Stands verdict rest) =
    (head : List ℕ) × (own : List (List ℕ)) × (lines ≡ head ∷ (own ++ rest)) × (words head ≡ entry_words e ++ verdict_word verdict ∷ []) × SayVerdict system verdict own
EntryFits e system lines Wrong = Unit {0}
EntryFits e system lines Heavy = Unit {0}

-- the reading of a kept entry, of a dropped one
abbrev IsKeptReading : Reading → Type 0
IsKeptReading (Stands None rest) = Unit {0}
IsKeptReading (Stands (Some ls) rest) = ⊥
IsKeptReading Wrong = Unit {0}
IsKeptReading Heavy = Unit {0}

abbrev IsDroppedReading : Reading → Type 0
IsDroppedReading (Stands None rest) = ⊥
IsDroppedReading (Stands (Some ls) rest) = Unit {0}
IsDroppedReading Wrong = Unit {0}
IsDroppedReading Heavy = Unit {0}

rows_kept : (rows : List PartRow) (lines : List (List ℕ)) → IsKeptReading (read_rows rows lines)
rows_kept [] lines = tt
rows_kept (row ∷ rows) [] = tt
rows_kept (row ∷ rows) (line ∷ lines) = if_holds IsKeptReading (says line (row_numbers row)) (read_rows rows lines) Wrong (λ e. rows_kept rows lines) (λ e. tt)

kept_fits : (system : System) (lines : List (List ℕ)) → VerdictFits system lines (read_kept system lines) × IsKeptReading (read_kept system lines)
kept_fits system [] = (tt, tt)
kept_fits system (line ∷ lines) =
    if_holds (λ r. VerdictFits system (line ∷ lines) r × IsKeptReading r) (says line (header_numbers system)) (read_rows system.rows lines) Wrong
    (λ e. (kept_more system line lines (read_rows system.rows lines) (numbers_tell (words line) (header_numbers system) e) (rows_fit system.rows lines), rows_kept system.rows lines))
    (λ e. (tt, tt))

heavy_no : (system : System) (ls : List ℤ) → is_heavy system ls ≡ false → IsTooHeavy (columns system.shape) system.rows ls → ⊥
heavy_no system ls e h = absurd (let both : true ≡ false = sym (heavy_is system ls h) ∙ e in cc)

judged_fits : (system : System) (line : List ℕ) (read : Option (List ℤ)) (lines : List (List ℕ)) → certificate_read line ≡ read
    → VerdictFits system (line ∷ lines) (judged system read lines) × IsDroppedReading (judged system read lines)
judged_fits system line None lines e = (tt, tt)
judged_fits system line (Some ls) lines e =
    if_holds (λ r. VerdictFits system (line ∷ lines) r × IsDroppedReading r) (is_heavy system ls) Heavy (if is_valid system ls then Stands (Some ls) lines else Wrong)
    (λ f. (tt, tt))
    (λ f. if_holds (λ r. VerdictFits system (line ∷ lines) r × IsDroppedReading r) (is_valid system ls) (Stands (Some ls) lines) Wrong
    (λ g. ((line ∷ [], refl, (e, valid_tells system ls g, heavy_no system ls f)), tt)) (λ g. (tt, tt)))

dropped_fits : (system : System) (lines : List (List ℕ)) → VerdictFits system lines (read_dropped system lines) × IsDroppedReading (read_dropped system lines)
dropped_fits system [] = (tt, tt)
dropped_fits system (line ∷ lines) = judged_fits system line (certificate_read line) lines refl

kept_head : (e : Dep) (system : System) (line : List ℕ) (lines : List (List ℕ)) (r : Reading) → words line ≡ head_of e (codes "kept")
    → VerdictFits system lines r → IsKeptReading r → EntryFits e system (line ∷ lines) r
kept_head e system line lines (Stands None rest) h f k = (line, f.0, ap (λ (t : List (List ℕ)). line ∷ t) f.1, h, f.2)
kept_head e system line lines (Stands (Some ls) rest) h f k = absurd k
kept_head e system line lines Wrong h f k = tt
kept_head e system line lines Heavy h f k = tt

dropped_head : (e : Dep) (system : System) (line : List ℕ) (lines : List (List ℕ)) (r : Reading) → words line ≡ head_of e (codes "dropped")
    → VerdictFits system lines r → IsDroppedReading r → EntryFits e system (line ∷ lines) r
dropped_head e system line lines (Stands None rest) h f k = absurd k
dropped_head e system line lines (Stands (Some ls) rest) h f k = (line, f.0, ap (λ (t : List (List ℕ)). line ∷ t) f.1, h, f.2)
dropped_head e system line lines Wrong h f k = tt
dropped_head e system line lines Heavy h f k = tt

entry_fits : (e : Dep) (system : System) (lines : List (List ℕ)) → EntryFits e system lines (read_entry e system lines)
entry_fits e system [] = tt
entry_fits e system (line ∷ lines) =
    let kept = are_same (words line) (head_of e (codes "kept")) in
    let dropped = are_same (words line) (head_of e (codes "dropped")) in
    if_holds (EntryFits e system (line ∷ lines)) kept (read_kept system lines) (if dropped then read_dropped system lines else Wrong)
    (λ f. kept_head e system line lines (read_kept system lines) (same_words (words line) (head_of e (codes "kept")) f) (kept_fits system lines).0 (kept_fits system lines).1)
    (λ f. if_holds (EntryFits e system (line ∷ lines)) dropped (read_dropped system lines) Wrong
    (λ g. dropped_head e system line lines (read_dropped system lines) (same_words (words line) (head_of e (codes "dropped")) g) (dropped_fits system lines).0 (dropped_fits system lines).1)
    (λ g. tt))

-- ---- from verdicts to the entries

abbrev EntriesFit : System → List Side → List Dep → List (List ℕ) → Result Verdicts Refusal → Type 0
EntriesFit context sides list lines (Ok verdicts) = AreDefined context sides list verdicts lines
EntriesFit context sides list lines (Err refusal) = Unit {0}

front_fits : (context : System) (sides : List Side) (e : Dep) (list : List Dep) (verdict : Option (List ℤ)) (lines rest : List (List ℕ)) (others : Result Verdicts Refusal)
    → BeginsDefined e (system_of context sides e) (summand_weight context sides e) verdict lines rest → EntriesFit context sides list rest others
    → EntriesFit context sides (e ∷ list) lines (in_front verdict others)
front_fits context sides e list verdict lines rest (Ok verdicts) b f = (rest, b, f)
front_fits context sides e list verdict lines rest (Err refusal) b f = tt

reading_fits : (context : System) (sides : List Side) (k : ℕ) (e : Dep) (list : List Dep) (lines : List (List ℕ)) (r : Reading) (others : List (List ℕ) → Result Verdicts Refusal)
    → summand_weight context sides e < 2 ^ 127 → EntryFits e (system_of context sides e) lines r → ((rest : List (List ℕ)) → EntriesFit context sides list rest (others rest))
    → EntriesFit context sides (e ∷ list) lines (by_reading k r others)
reading_fits context sides k e list lines (Stands verdict rest) others light f g =
    front_fits context sides e list verdict lines rest (others rest)
    (record { light = light; head = f.0; own = f.1; split = f.2; head_is = f.3; verdict_is = f.4 }) (g rest)
reading_fits context sides k e list lines Wrong others light f g = tt
reading_fits context sides k e list lines Heavy others light f g = tt

entries_fit : (context : System) (sides : List Side) (k : ℕ) (list : List Dep) (lines : List (List ℕ)) → EntriesFit context sides list lines (read_entries context sides k list lines)
entries_fit context sides k [] [] = refl
entries_fit context sides k [] (line ∷ lines) = tt
entries_fit context sides k (e ∷ list) lines =
    let system = system_of context sides e in
    let others = λ (rest : List (List ℕ)). read_entries context sides (k + 1) list rest in
    if_holds (EntriesFit context sides (e ∷ list) lines) (nat_lt (summand_weight context sides e) (2 ^ 127)) (by_reading k (read_entry e system lines) others) (Err (Overflow OfSystem k))
    (λ f. reading_fits context sides k e list lines (read_entry e system lines) others ((Decides-ltb (summand_weight context sides e) (2 ^ 127)).0 f)
    (entry_fits e system lines) (λ rest. entries_fit context sides (k + 1) list rest))
    (λ f. tt)

abbrev BlockFits : System → List Side → List Dep → List (List ℕ) → Result Verdicts Refusal → Type 0
BlockFits context sides list lines (Ok verdicts) =
    (first : List ℕ) × (others : List (List ℕ)) × (lines ≡ first ∷ others) × Says first (pos (length list) ∷ []) × AreDefined context sides list verdicts others
BlockFits context sides list lines (Err refusal) = Unit {0}

first_fits : (context : System) (sides : List Side) (list : List Dep) (line : List ℕ) (lines : List (List ℕ)) (r : Result Verdicts Refusal)
    → Says line (pos (length list) ∷ []) → EntriesFit context sides list lines r → BlockFits context sides list (line ∷ lines) r
first_fits context sides list line lines (Ok verdicts) s f = (line, lines, refl, s, f)
first_fits context sides list line lines (Err refusal) s f = tt

block_fits : (context : System) (sides : List Side) (list : List Dep) (lines : List (List ℕ)) → BlockFits context sides list lines (read_block context sides list lines)
block_fits context sides list [] = tt
block_fits context sides list (line ∷ lines) =
    if_holds (BlockFits context sides list (line ∷ lines)) (says line (pos (length list) ∷ [])) (read_entries context sides 1 list lines) (Err (BadCertificate 0))
    (λ e. first_fits context sides list line lines (read_entries context sides 1 list lines) (numbers_tell (words line) (pos (length list) ∷ []) e) (entries_fit context sides 1 list lines))
    (λ e. tt)

abbrev ScopFits : ScopData → Result Verdicts Refusal → Type 0
ScopFits S (Ok verdicts) = IsDefinedBlock S verdicts
ScopFits S (Err refusal) = Unit {0}

found_fits : (S : ScopData) (lines : List (List ℕ)) (r : Result Verdicts Refusal) → length (entries (own_sides S)) ≤ max_systems → first_named block_name S.extensions ≡ Some lines
    → BlockFits S.context (own_sides S) (entries (own_sides S)) (contents lines) r → ScopFits S r
found_fits S lines (Ok verdicts) few found f =
    record { few = few; lines = lines; first = f.0; others = f.1; block = found; split = f.2; count = f.3; entries_are = f.4 }
found_fits S lines (Err refusal) few found f = tt

by_found : (S : ScopData) (found : Option (List (List ℕ))) → length (entries (own_sides S)) ≤ max_systems → first_named block_name S.extensions ≡ found
    → ScopFits S (read_found S.context (own_sides S) (entries (own_sides S)) found)
by_found S None few e = tt
by_found S (Some lines) few e =
    found_fits S lines (read_block S.context (own_sides S) (entries (own_sides S)) (contents lines)) few e (block_fits S.context (own_sides S) (entries (own_sides S)) (contents lines))

not_many : (n : ℕ) → nat_lt max_systems n ≡ false → n ≤ max_systems
not_many n e = let least = not_from_Decides (nat_lt max_systems n) (Decides-ltb max_systems n) e in omega arith

scop_fits : (S : ScopData) → ScopFits S (verdicts_in S)
scop_fits S =
    let list = entries (own_sides S) in
    let found = first_named block_name S.extensions in
    if_holds (ScopFits S) (nat_lt max_systems (length list)) (Err (Limit Systems 0)) (read_found S.context (own_sides S) list found) (λ e. tt)
    (λ e. by_found S found (not_many (length list) e) refl)

-- ---- from the lines back to the verdicts

rows_read : (rows : List PartRow) (own rest : List (List ℕ)) → SayRows rows own → read_rows rows (own ++ rest) ≡ Stands None rest
rows_read [] [] rest s = refl
rows_read [] (line ∷ own) rest s = absurd s
rows_read (row ∷ rows) [] rest s = absurd s
rows_read (row ∷ rows) (line ∷ own) rest s =
    chosen (says line (row_numbers row)) (read_rows rows (own ++ rest)) Wrong (tell_numbers (words line) (row_numbers row) s.0) ∙ rows_read rows own rest s.1

kept_read : (system : System) (own rest : List (List ℕ)) → SayVerdict system None own → read_kept system (own ++ rest) ≡ Stands None rest
kept_read system [] rest s = absurd s
kept_read system (line ∷ own) rest s =
    chosen (says line (header_numbers system)) (read_rows system.rows (own ++ rest)) Wrong (tell_numbers (words line) (header_numbers system) s.0) ∙ rows_read system.rows own rest s.1

dropped_read : (system : System) (ls : List ℤ) (own rest : List (List ℕ)) → SayVerdict system (Some ls) own → read_dropped system (own ++ rest) ≡ Stands (Some ls) rest
dropped_read system ls [] rest s = absurd s
dropped_read system ls (line ∷ []) rest s =
    ap (λ c. judged system c rest) s.0
    ∙ (refused (is_heavy system ls) Heavy (if is_valid system ls then Stands (Some ls) rest else Wrong) (not_heavy system ls s.2)
    ∙ chosen (is_valid system ls) (Stands (Some ls) rest) Wrong (valid_is system ls s.1))
dropped_read system ls (line ∷ (next ∷ own)) rest s = absurd s

entry_read : (e : Dep) (system : System) (weight : ℕ) (verdict : Option (List ℤ)) (lines rest : List (List ℕ)) → BeginsDefined e system weight verdict lines rest
    → read_entry e system lines ≡ Stands verdict rest
entry_read e system weight None lines rest b =
    reads_kept e system lines b.head (b.own ++ rest) b.split (sym (ap (λ ws. are_same ws (head_of e (codes "kept"))) b.head_is ∙ words_same (head_of e (codes "kept"))))
    ∙ kept_read system b.own rest b.verdict_is
entry_read e system weight (Some ls) lines rest b =
    reads_dropped e system lines b.head (b.own ++ rest) b.split (sym (ap (λ ws. are_same ws (head_of e (codes "kept"))) b.head_is ∙ other_verdict e))
    (sym (ap (λ ws. are_same ws (head_of e (codes "dropped"))) b.head_is ∙ words_same (head_of e (codes "dropped"))))
    ∙ dropped_read system ls b.own rest b.verdict_is

entries_read : (context : System) (sides : List Side) (k : ℕ) (list : List Dep) (verdicts : Verdicts) (lines : List (List ℕ)) → AreDefined context sides list verdicts lines
    → read_entries context sides k list lines ≡ Ok verdicts
entries_read context sides k [] [] lines a = ap (read_entries context sides k []) a
entries_read context sides k [] (v ∷ verdicts) lines a = absurd a
entries_read context sides k (e ∷ list) [] lines a = absurd a
entries_read context sides k (e ∷ list) (v ∷ verdicts) lines a =
    let others = λ (rest : List (List ℕ)). read_entries context sides (k + 1) list rest in
    light_entry context sides k e list lines a.1.light
    ∙ (ap (λ r. by_reading k r others) (entry_read e (system_of context sides e) (summand_weight context sides e) v lines a.0 a.1)
    ∙ ap (in_front v) (entries_read context sides (k + 1) list verdicts a.0 a.2))

block_read : (S : ScopData) (verdicts : Verdicts) → IsDefinedBlock S verdicts → verdicts_in S ≡ Ok verdicts
block_read S verdicts b =
    let list = entries (own_sides S) in
    let context = S.context in
    refused (nat_lt max_systems (length list)) (Err (Limit Systems 0)) (read_found context (own_sides S) list (first_named block_name S.extensions)) (heavy_test max_systems (length list) b.few)
    ∙ (ap (read_found context (own_sides S) list) b.block
    ∙ (ap (read_block context (own_sides S) list) b.split
    ∙ (chosen (says b.first (pos (length list) ∷ [])) (read_entries context (own_sides S) 1 list b.others) (Err (BadCertificate 0)) (tell_numbers (words b.first) (pos (length list) ∷ []) b.count)
    ∙ entries_read context (own_sides S) 1 list verdicts b.others b.entries_are)))

pub audit_is_exact : AuditIsExact
audit_is_exact S verdicts = (λ e. subst (ScopFits S) e (scop_fits S), block_read S verdicts)
