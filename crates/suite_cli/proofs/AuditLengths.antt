-- No audit refuses a text as too long.
use Rattle.std.proofs.Common.{◌≡◌, ℕ, ◌+◌, List, [], ◌∷◌, Bool, true, false, ℤ, length, refl, ap, sym, ◌∙◌}
use Rattle.std.specs.Prelude.{Option, Some, None, Result, Ok, Err, if◌then◌else◌, pos, nat_lt, ◌^◌}
use Rattle.suite_base.specs.declared.refusals.Refusal.{Refusal}
use Rattle.suite_base.specs.declared.refusals.Refusal.TheVariants.{TooLong, Limit, Overflow, BadCertificate}
use Rattle.suite_base.specs.declared.refusals.Where.TheVariants.{System as OfSystem}
use Rattle.suite_base.specs.declared.refusals.Which.TheVariants.{Systems}
use Rattle.suite_base.specs.Limits.{max_systems}
use Rattle.relation_core.specs.Systems.{System}
use Rattle.scop_core.specs.ScopData.{ScopData}
use Rattle.dependence_systems.specs.declared.dependences.Dep.{Dep}
use Rattle.dependence_systems.specs.Sides.{Side, own_sides}
use Rattle.dependence_systems.specs.Entries.{entries}
use Rattle.dependence_systems.specs.Systems.{system_of, summand_weight}
use Rattle.dependence_blocks.specs.Blocks.{block_name}
use Rattle.dependence_audit.specs.Contents.{contents, says}
use Rattle.dependence_audit.specs.Readings.{Reading, Stands, Wrong, Heavy, read_entry}
use Rattle.dependence_audit.specs.Audits.{Verdicts, in_front, by_reading, read_entries, read_block, read_found, first_named, verdicts_in, counted, audited}

abbrev is_length : Refusal → Bool
is_length TooLong = true
is_length refusal = false

-- the answer is that the text is too long
abbrev says_length : {X : Type 0} → Result X Refusal → Bool
says_length (Ok x) = false
says_length (Err refusal) = is_length refusal

in_front_says : (v : Option (List ℤ)) (r : Result Verdicts Refusal) → says_length (in_front v r) ≡ says_length r
in_front_says v (Ok vs) = refl
in_front_says v (Err refusal) = refl

if_says : (b : Bool) (x y : Result Verdicts Refusal) → says_length x ≡ false → says_length y ≡ false → says_length (if b then x else y) ≡ false
if_says true x y f g = f
if_says false x y f g = g

by_reading_says : (k : ℕ) (r : Reading) (others : List (List ℕ) → Result Verdicts Refusal)
    → ((rest : List (List ℕ)) → says_length (others rest) ≡ false) → says_length (by_reading k r others) ≡ false
by_reading_says k (Stands v lines) others h = in_front_says v (others lines) ∙ h lines
by_reading_says k Wrong others h = refl
by_reading_says k Heavy others h = refl

entries_say : (context : System) (sides : List Side) (k : ℕ) (list : List Dep) (lines : List (List ℕ)) → says_length (read_entries context sides k list lines) ≡ false
entries_say context sides k [] [] = refl
entries_say context sides k [] (line ∷ lines) = refl
entries_say context sides k (e ∷ list) lines =
    if_says (nat_lt (summand_weight context sides e) (2 ^ 127)) _ (Err (Overflow OfSystem k))
    (by_reading_says k (read_entry e (system_of context sides e) lines) _ (λ rest. entries_say context sides (k + 1) list rest)) refl

block_says : (context : System) (sides : List Side) (list : List Dep) (lines : List (List ℕ)) → says_length (read_block context sides list lines) ≡ false
block_says context sides list [] = refl
block_says context sides list (line ∷ lines) = if_says (says line (pos (length list) ∷ [])) _ (Err (BadCertificate 0)) (entries_say context sides 1 list lines) refl

found_says : (context : System) (sides : List Side) (list : List Dep) (found : Option (List (List ℕ))) → says_length (read_found context sides list found) ≡ false
found_says context sides list None = refl
found_says context sides list (Some lines) = block_says context sides list (contents lines)

counted_says : (r : Result Verdicts Refusal) → says_length (counted r) ≡ says_length r
counted_says (Ok vs) = refl
counted_says (Err refusal) = refl

says_no_length : (S : ScopData) → says_length (audited S) ≡ false
says_no_length S =
    counted_says (verdicts_in S) ∙ if_says (nat_lt max_systems (length (entries (own_sides S)))) (Err (Limit Systems 0)) _ refl (found_says S.context (own_sides S) (entries (own_sides S)) (first_named block_name S.extensions))

pub audit_says_no_length : (S : ScopData) → ¬ (audited S ≡ Err TooLong)
audit_says_no_length S e = absurd (let no : true ≡ false = sym (ap says_length e) ∙ says_no_length S in cc)
