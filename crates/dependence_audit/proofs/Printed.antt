-- A printed block passes with the verdicts that it was printed of.
use Rattle.std.proofs.Common.{◌≡◌, inl, inr, refl, ap, sym, ◌∙◌, ℕ, suc, ◌+◌, ◌<◌, ◌≤◌, ◌^◌, List, [], ◌∷◌, ◌++◌, map, length, Bool, true, false, arith}
use Rattle.std.specs.Prelude.{ℤ, pos, codes, Option, Some, None, Ok, Err, nat_lt, bytes_eq, if◌then◌else◌}
use Rattle.std.specs.Fmt.{decimal}
use Rattle.std.proofs.lemmas.Int.{ints}
use Rattle.suite_base.proofs.LineCuts.{bool_tells}
use Rattle.std.proofs.lemmas.Slice.Eq.{bytes_eq-Decides}
use Rattle.suite_base.specs.Limits.{max_systems}
use Rattle.suite_base.specs.declared.refusals.Refusal.TheVariants.{Limit, BadCertificate}
use Rattle.suite_base.specs.declared.refusals.Which.TheVariants.{Systems}
use Rattle.row_core.specs.Rows.{AreCoefficients}
use Rattle.relation_core.specs.Systems.{System, columns, row_at, IsWellFormed}
use Rattle.relation_core.specs.Layouts.{header_text, row_text}
use Rattle.relation_core.specs.declared.part_rows.PartRow.{PartRow}
use Rattle.scop_data.specs.LineWords.{are_same, row_numbers, header_numbers}
use Rattle.scop_data.proofs.LineWords.{words_same}
use Rattle.farkas_cert.specs.Texts.{certificate_line}
use Rattle.farkas_cert.specs.Certificates.{Valid, IsTooHeavy}
use Rattle.scop_core.specs.ScopData.{ScopData, others}
use Rattle.scop_data.specs.declared.statements.Extension.{Extension}
use Rattle.dependence_systems.specs.declared.dependences.Dep.{Dep}
use Rattle.dependence_systems.specs.Sides.{Side, own_sides}
use Rattle.dependence_systems.specs.Entries.{entries}
use Rattle.dependence_systems.specs.Systems.{system_of, summand_weight}
use Rattle.dependence_blocks.specs.Blocks.{block_name, block_of, block_lines, lines_of, entry_lines, system_lines, entry_words}
use Rattle.dependence_audit.specs.Contents.{contents, says}
use Rattle.dependence_audit.specs.Readings.{Stands, Wrong, Heavy, is_heavy, is_valid, judged, read_rows, read_kept, read_dropped, read_entry}
use Rattle.dependence_audit.specs.Audits.{Verdicts, in_front, by_reading, read_entries, read_block, read_found, first_named, verdicts_in, counted}
use Rattle.dependence_audit.specs.Theorems.{IsPrintable, ArePrintable, with_block, PrintedBlocksPass}
use Rattle.dependence_audit.proofs.Certified.{valid_is, not_heavy}
use Rattle.dependence_audit.proofs.EntryReadings.{reads_kept, reads_dropped, light_entry, heavy_test}
use Rattle.dependence_audit.proofs.PrintedLines.{numbers_line, numbers_said, says_numbers, reads_numbers, row_line_is, header_line_is, row_coefficients, header_coefficients, count_coefficient, head_said, head_kept_in, head_words, other_verdict}

-- the choice that a test makes
pub chosen : {A : Type 0} (b : Bool) (x y : A) → b ≡ true → (if b then x else y) ≡ x
chosen b x y e = ap (λ t. if t then x else y) e

pub refused : {A : Type 0} (b : Bool) (x y : A) → b ≡ false → (if b then x else y) ≡ y
refused b x y e = ap (λ t. if t then x else y) e

-- ---- a kept entry

-- a line of numbers comes first among what is said
line_first : (text : List ℕ) (z : ℤ) (zs : List ℤ) (lines : List (List ℕ)) → text ≡ certificate_line (z ∷ zs) → AreCoefficients (z ∷ zs)
    → contents (text ∷ lines) ≡ numbers_line (z ∷ zs) ∷ contents lines
line_first text z zs lines is h = ap (λ t. contents (t ∷ lines)) is ∙ numbers_said z zs lines h

rows_stand : (rows : List PartRow) (more : List (List ℕ)) → ((k : ℕ) → AreCoefficients (row_at rows k).entries)
    → read_rows rows (contents (map row_text rows ++ more)) ≡ Stands None (contents more)
rows_stand [] more h = refl
rows_stand (row ∷ rows) more h =
    let c : AreCoefficients (row_numbers row) = row_coefficients row (h 0) in
    let rest : List (List ℕ) = map row_text rows ++ more in
    ap (read_rows (row ∷ rows)) (line_first (row_text row) _ row.entries rest (row_line_is row) c)
    ∙ (chosen (says (numbers_line (row_numbers row)) (row_numbers row)) (read_rows rows (contents rest)) Wrong (says_numbers (row_numbers row) c)
    ∙ rows_stand rows more (λ k. h (suc k)))

kept_stands : (system : System) (more : List (List ℕ)) → IsWellFormed system.shape system.rows → length system.rows < 2 ^ 64
    → read_kept system (contents (system_lines system ++ more)) ≡ Stands None (contents more)
kept_stands system more formed few =
    let c : AreCoefficients (header_numbers system) = header_coefficients system formed few in
    let rest : List (List ℕ) = map row_text system.rows ++ more in
    ap (read_kept system) (line_first (header_text (length system.rows) system.shape) _ _ rest (header_line_is system) c)
    ∙ (chosen (says (numbers_line (header_numbers system)) (header_numbers system)) (read_rows system.rows (contents rest)) Wrong (says_numbers (header_numbers system) c)
    ∙ rows_stand system.rows more formed.ranges)

-- ---- a dropped entry

dropped_stands : (system : System) (ls : List ℤ) (more : List (List ℕ)) → AreCoefficients ls → Valid (columns system.shape) system.rows ls
    → (IsTooHeavy (columns system.shape) system.rows ls → ⊥) → read_dropped system (contents (certificate_line ls ∷ more)) ≡ Stands (Some ls) (contents more)
dropped_stands system [] more h valid light = absurd (omega (arith, ints, valid.contradicts))
dropped_stands system (l ∷ ls) more h valid light =
    ap (read_dropped system) (numbers_said l ls more h)
    ∙ (ap (λ c. judged system c (contents more)) (reads_numbers (l ∷ ls) h)
    ∙ (refused (is_heavy system (l ∷ ls)) Heavy (if is_valid system (l ∷ ls) then Stands (Some (l ∷ ls)) (contents more) else Wrong) (not_heavy system (l ∷ ls) light)
    ∙ chosen (is_valid system (l ∷ ls)) (Stands (Some (l ∷ ls)) (contents more)) Wrong (valid_is system (l ∷ ls) valid)))

-- ---- an entry

entry_stands : (e : Dep) (system : System) (weight : ℕ) (verdict : Option (List ℤ)) (more : List (List ℕ)) → IsPrintable e system weight verdict
    → read_entry e system (contents (entry_lines e system verdict ++ more)) ≡ Stands verdict (contents more)
entry_stands e system weight None more p =
    let w = head_words e (codes "kept") p.readable.range refl refl in
    let here = head_kept_in e (codes "kept") (system_lines system ++ more) p.readable.range refl refl in
    reads_kept e system (contents (entry_lines e system None ++ more)) (head_said e (codes "kept")) (contents (system_lines system ++ more)) here
    (sym (ap (λ ws. are_same ws (entry_words e ++ codes "kept" ∷ [])) w ∙ words_same (entry_words e ++ codes "kept" ∷ [])))
    ∙ kept_stands system more p.readable.formed p.readable.few
entry_stands e system weight (Some ls) more p =
    let w = head_words e (codes "dropped") p.readable.range refl refl in
    let here = head_kept_in e (codes "dropped") (certificate_line ls ∷ more) p.readable.range refl refl in
    reads_dropped e system (contents (entry_lines e system (Some ls) ++ more)) (head_said e (codes "dropped")) (contents (certificate_line ls ∷ more)) here
    (sym (ap (λ ws. are_same ws (entry_words e ++ codes "kept" ∷ [])) w ∙ other_verdict e))
    (sym (ap (λ ws. are_same ws (entry_words e ++ codes "dropped" ∷ [])) w ∙ words_same (entry_words e ++ codes "dropped" ∷ [])))
    ∙ dropped_stands system ls more p.readable.multipliers p.certified.0 p.certified.1

-- ---- all entries

entries_stand : (context : System) (sides : List Side) (k : ℕ) (list : List Dep) (verdicts : Verdicts) → ArePrintable context sides list verdicts
    → read_entries context sides k list (contents (lines_of context sides list verdicts)) ≡ Ok verdicts
entries_stand context sides k [] [] p = refl
entries_stand context sides k [] (v ∷ verdicts) p = absurd p
entries_stand context sides k (e ∷ list) [] p = absurd p
entries_stand context sides k (e ∷ list) (v ∷ verdicts) p =
    let system = system_of context sides e in
    let more = lines_of context sides list verdicts in
    let others = λ (rest : List (List ℕ)). read_entries context sides (k + 1) list rest in
    light_entry context sides k e list (contents (entry_lines e system v ++ more)) p.0.light
    ∙ (ap (λ r. by_reading k r others) (entry_stands e system (summand_weight context sides e) v more p.0)
    ∙ ap (in_front v) (entries_stand context sides (k + 1) list verdicts p.1))

block_stands : (context : System) (sides : List Side) (list : List Dep) (verdicts : Verdicts) → length list ≤ max_systems → ArePrintable context sides list verdicts
    → read_block context sides list (contents (block_lines context sides list verdicts)) ≡ Ok verdicts
block_stands context sides list verdicts few p =
    let c : AreCoefficients (pos (length list) ∷ []) = count_coefficient (length list) (omega arith) in
    let rest = lines_of context sides list verdicts in
    ap (read_block context sides list) (line_first (decimal (length list)) (pos (length list)) [] rest refl c)
    ∙ (chosen (says (numbers_line (pos (length list) ∷ [])) (pos (length list) ∷ [])) (read_entries context sides 1 list (contents rest)) (Err (BadCertificate 0)) (says_numbers (pos (length list) ∷ []) c)
    ∙ entries_stand context sides 1 list verdicts p)

-- ---- the block of a SCoP

-- no other extension of the name comes first
named_last : (name : List ℕ) (extensions : List Extension) (last : Extension) → last.name ≡ name
    → first_named name (others name extensions ++ last ∷ []) ≡ Some last.lines
named_last name [] last e = chosen (bytes_eq last.name name) (Some last.lines) None ((bytes_eq-Decides last.name name).1 e)
named_last name (x ∷ extensions) last e =
    elim (bool_tells (bytes_eq x.name name)) [
      | inl same ↦
          ap (λ xs. first_named name (xs ++ last ∷ [])) (chosen (bytes_eq x.name name) (others name extensions) (x ∷ others name extensions) same)
          ∙ named_last name extensions last e
      | inr other ↦
          ap (λ xs. first_named name (xs ++ last ∷ [])) (refused (bytes_eq x.name name) (others name extensions) (x ∷ others name extensions) other)
          ∙ (refused (bytes_eq x.name name) (Some x.lines) (first_named name (others name extensions ++ last ∷ [])) other
          ∙ named_last name extensions last e)
    ]

stands : (S : ScopData) (verdicts : Verdicts) → length (entries (own_sides S)) ≤ max_systems → ArePrintable S.context (own_sides S) (entries (own_sides S)) verdicts
    → verdicts_in (with_block S verdicts) ≡ Ok verdicts
stands S verdicts few p =
    let list = entries (own_sides S) in
    let lines = block_lines S.context (own_sides S) list verdicts in
    refused (nat_lt max_systems (length list)) (Err (Limit Systems 0))
    (read_found S.context (own_sides S) list (first_named block_name (others block_name S.extensions ++ block_of lines ∷ []))) (heavy_test max_systems (length list) few)
    ∙ (ap (read_found S.context (own_sides S) list) (named_last block_name S.extensions (block_of lines) refl)
    ∙ block_stands S.context (own_sides S) list verdicts few p)

pub printed_blocks_pass : PrintedBlocksPass
printed_blocks_pass S verdicts few p = let s = stands S verdicts few p in (s, ap counted s)
