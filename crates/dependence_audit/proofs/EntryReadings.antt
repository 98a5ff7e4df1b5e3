-- The readings of an entry by its head line, and the entries by the reading of the first.
use Rattle.std.proofs.Common.{◌≡◌, refl, ap, sym, ◌∙◌, inl, inr, ℕ, ◌+◌, ◌<◌, ◌≤◌, ◌^◌, List, [], ◌∷◌, ◌++◌, true, false, arith}
use Rattle.std.specs.Prelude.{ℤ, Some, None, Err, codes, nat_lt, if◌then◌else◌}
use Rattle.std.proofs.lemmas.Bool.{lt-ltb}
use Rattle.std.proofs.lemmas.Bool.Decides.{Decides-ltb}
use Rattle.suite_base.proofs.LineCuts.{bool_tells}
use Rattle.suite_base.specs.Words.{words}
use Rattle.suite_base.specs.declared.refusals.Refusal.TheVariants.{Overflow, BadCertificate}
use Rattle.suite_base.specs.declared.refusals.Where.TheVariants.{System as OfSystem}
use Rattle.relation_core.specs.Systems.{System}
use Rattle.scop_data.specs.LineWords.{are_same}
use Rattle.dependence_systems.specs.declared.dependences.Dep.{Dep}
use Rattle.dependence_systems.specs.Sides.{Side}
use Rattle.dependence_systems.specs.Systems.{system_of, summand_weight}
use Rattle.dependence_blocks.specs.Blocks.{entry_words}
use Rattle.dependence_audit.specs.declared.readings.Finding.TheVariants as finding
use Rattle.dependence_audit.specs.Readings.{Reading, Stands, Wrong, Heavy, read_kept, read_dropped, read_entry, IsFound}
use Rattle.dependence_audit.specs.Audits.{by_reading, read_entries, EntryStands}

-- ---- by the head line

abbrev pub head_of : Dep → List ℕ → List (List ℕ)
head_of e verdict = entry_words e ++ verdict ∷ []

pub reads_kept : (e : Dep) (system : System) (old : List (List ℕ)) (line : List ℕ) (lines : List (List ℕ)) → old ≡ line ∷ lines
    → true ≡ are_same (words line) (head_of e (codes "kept")) → read_entry e system old ≡ read_kept system lines
reads_kept e system old line lines taken head =
    ap (read_entry e system) taken
    ∙ ap (λ b. if b then read_kept system lines else (if are_same (words line) (head_of e (codes "dropped")) then read_dropped system lines else Wrong)) (sym head)

pub reads_dropped : (e : Dep) (system : System) (old : List (List ℕ)) (line : List ℕ) (lines : List (List ℕ)) → old ≡ line ∷ lines
    → false ≡ are_same (words line) (head_of e (codes "kept")) → true ≡ are_same (words line) (head_of e (codes "dropped"))
    → read_entry e system old ≡ read_dropped system lines
reads_dropped e system old line lines taken other head =
    ap (read_entry e system) taken
    ∙ (ap (λ b. if b then read_kept system lines else (if are_same (words line) (head_of e (codes "dropped")) then read_dropped system lines else Wrong)) (sym other)
    ∙ ap (λ b. if b then read_dropped system lines else Wrong) (sym head))

pub reads_neither : (e : Dep) (system : System) (old : List (List ℕ)) (line : List ℕ) (lines : List (List ℕ)) → old ≡ line ∷ lines
    → false ≡ are_same (words line) (head_of e (codes "kept")) → false ≡ are_same (words line) (head_of e (codes "dropped"))
    → read_entry e system old ≡ Wrong
reads_neither e system old line lines taken other neither =
    ap (read_entry e system) taken
    ∙ (ap (λ b. if b then read_kept system lines else (if are_same (words line) (head_of e (codes "dropped")) then read_dropped system lines else Wrong)) (sym other)
    ∙ ap (λ b. if b then read_dropped system lines else Wrong) (sym neither))

-- ---- by what was found

pub found_kept : (r : Reading) (left : List (List ℕ)) → IsFound r finding.Kept left → r ≡ Stands None left
found_kept (Stands None lines) left f = ap (Stands None) (sym f)
found_kept (Stands (Some ls) lines) left f = absurd f
found_kept Wrong left f = absurd f
found_kept Heavy left f = absurd f

pub found_wrong : (r : Reading) (left : List (List ℕ)) → IsFound r finding.Wrong left → r ≡ Wrong
found_wrong (Stands None lines) left f = absurd f
found_wrong (Stands (Some ls) lines) left f = absurd f
found_wrong Wrong left f = refl
found_wrong Heavy left f = absurd f

pub found_heavy : (r : Reading) (left : List (List ℕ)) → IsFound r finding.Heavy left → r ≡ Heavy
found_heavy (Stands None lines) left f = absurd f
found_heavy (Stands (Some ls) lines) left f = absurd f
found_heavy Wrong left f = absurd f
found_heavy Heavy left f = refl

pub record IsDropped (r : Reading) (left : List (List ℕ)) : Type 0 where
  pub certificate : List ℤ
  pub is : r ≡ Stands (Some certificate) left

pub found_dropped : (r : Reading) (left : List (List ℕ)) → IsFound r finding.Dropped left → IsDropped r left
found_dropped (Stands None lines) left f = absurd f
found_dropped (Stands (Some ls) lines) left f = record { certificate = ls; is = ap (Stands (Some ls)) (sym f) }
found_dropped Wrong left f = absurd f
found_dropped Heavy left f = absurd f

-- ---- the first entry

-- where the summands of its system don't overflow, it is its reading
pub light_entry : (context : System) (sides : List Side) (k : ℕ) (e : Dep) (list : List Dep) (lines : List (List ℕ)) → summand_weight context sides e < 2 ^ 127
    → read_entries context sides k (e ∷ list) lines
    ≡ by_reading k (read_entry e (system_of context sides e) lines) (λ rest. read_entries context sides (k + 1) list rest)
light_entry context sides k e list lines light =
    ap (λ b. if b then by_reading k (read_entry e (system_of context sides e) lines) (λ rest. read_entries context sides (k + 1) list rest) else Err (Overflow OfSystem k))
    (lt-ltb (summand_weight context sides e) (2 ^ 127) light)

pub heavy_test : (a b : ℕ) → b ≤ a → nat_lt a b ≡ false
heavy_test a b h = elim (bool_tells (nat_lt a b)) [ inl e ↦ absurd (let less = (Decides-ltb a b).0 e in omega arith) | inr e ↦ e ]

pub heavy_entry : (context : System) (sides : List Side) (k : ℕ) (e : Dep) (list : List Dep) (lines : List (List ℕ)) → 2 ^ 127 ≤ summand_weight context sides e
    → read_entries context sides k (e ∷ list) lines ≡ Err (Overflow OfSystem k)
heavy_entry context sides k e list lines heavy =
    ap (λ b. if b then by_reading k (read_entry e (system_of context sides e) lines) (λ rest. read_entries context sides (k + 1) list rest) else Err (Overflow OfSystem k))
    (heavy_test (summand_weight context sides e) (2 ^ 127) heavy)

-- by the reading of a system that is the entry's
pub read_as : (context : System) (sides : List Side) (k : ℕ) (e : Dep) (system : System) (lines : List (List ℕ)) (r : Reading) → system ≡ system_of context sides e
    → summand_weight context sides e < 2 ^ 127 → read_entry e system lines ≡ r
    → (list : List Dep) → read_entries context sides k (e ∷ list) lines ≡ by_reading k r (λ rest. read_entries context sides (k + 1) list rest)
read_as context sides k e system lines r same light reads list =
    light_entry context sides k e list lines light
    ∙ ap (λ x. by_reading k x (λ rest. read_entries context sides (k + 1) list rest)) (ap (λ s. read_entry e s lines) (sym same) ∙ reads)

pub stands_kept : (context : System) (sides : List Side) (k : ℕ) (e : Dep) (system : System) (old new : List (List ℕ)) → system ≡ system_of context sides e
    → summand_weight context sides e < 2 ^ 127 → IsFound (read_entry e system old) finding.Kept new → EntryStands context sides k e old new true
stands_kept context sides k e system old new same light f =
    record { verdict = None; kept_is = refl; reads = read_as context sides k e system old (Stands None new) same light (found_kept (read_entry e system old) new f) }

pub stands_dropped : (context : System) (sides : List Side) (k : ℕ) (e : Dep) (system : System) (old new : List (List ℕ)) → system ≡ system_of context sides e
    → summand_weight context sides e < 2 ^ 127 → IsFound (read_entry e system old) finding.Dropped new → EntryStands context sides k e old new false
stands_dropped context sides k e system old new same light f =
    let d = found_dropped (read_entry e system old) new f in
    record { verdict = Some d.certificate; kept_is = refl; reads = read_as context sides k e system old (Stands (Some d.certificate) new) same light d.is }

pub stops_wrong : (context : System) (sides : List Side) (k : ℕ) (e : Dep) (system : System) (old new : List (List ℕ)) → system ≡ system_of context sides e
    → summand_weight context sides e < 2 ^ 127 → IsFound (read_entry e system old) finding.Wrong new
    → (list : List Dep) → read_entries context sides k (e ∷ list) old ≡ Err (BadCertificate k)
stops_wrong context sides k e system old new same light f = read_as context sides k e system old Wrong same light (found_wrong (read_entry e system old) new f)

pub stops_heavy : (context : System) (sides : List Side) (k : ℕ) (e : Dep) (system : System) (old new : List (List ℕ)) → system ≡ system_of context sides e
    → summand_weight context sides e < 2 ^ 127 → IsFound (read_entry e system old) finding.Heavy new
    → (list : List Dep) → read_entries context sides k (e ∷ list) old ≡ Err (Overflow OfSystem k)
stops_heavy context sides k e system old new same light f = read_as context sides k e system old Heavy same light (found_heavy (read_entry e system old) new f)
