-- The block of dependences as lines of text. A system is kept with its rows, or dropped with the Farkas multipliers that
-- refute it: here an entry's certificate is None where it is kept.
use Rattle.std.specs.Prelude.{ℤ, ℕ, List, [], ◌∷◌, ◌++◌, map, length, codes, Option, Some, None}
use Rattle.std.specs.Fmt.{decimal}
use Rattle.suite_base.specs.Words.{spaced}
use Rattle.relation_core.specs.Systems.{System}
use Rattle.relation_core.specs.Layouts.{header_text, row_text}
use Rattle.farkas_cert.specs.Texts.{certificate_line}
use Rattle.scop_data.specs.declared.statements.Extension.{Extension}
use Rattle.dependence_systems.specs.declared.dependences.Dep.{Dep}
use Rattle.dependence_systems.specs.declared.dependences.DepKind.{DepKind}
use Rattle.dependence_systems.specs.declared.dependences.DepKind.TheVariants.{Raw, War, Waw}
use Rattle.dependence_systems.specs.Sides.{Side}
use Rattle.dependence_systems.specs.Systems.{system_of}

-- the extension's name
abbrev pub block_name : List ℕ
block_name = codes "suite_dependences"

abbrev pub kind_word : DepKind → List ℕ
kind_word Raw = codes "RAW"
kind_word War = codes "WAR"
kind_word Waw = codes "WAW"

-- the numbers of an entry: statements, accesses, domain parts, level
abbrev pub entry_numbers : Dep → List ℕ
entry_numbers e = e.source ∷ (e.target ∷ (e.source_access ∷ (e.target_access ∷ (e.source_part ∷ (e.target_part ∷ (e.level ∷ []))))))

-- the eight words that say what an entry is of
abbrev pub entry_words : Dep → List (List ℕ)
entry_words e = kind_word e.kind ∷ map decimal (entry_numbers e)

abbrev pub verdict_word : Option (List ℤ) → List ℕ
verdict_word None = codes "kept"
verdict_word (Some multipliers) = codes "dropped"

-- the head of an entry: its words, and the verdict
abbrev pub head_line : Dep → List ℕ → List ℕ
head_line e verdict = spaced (entry_words e ++ verdict ∷ [])

-- a system as a part is printed: its six numbers, then its rows
abbrev pub system_lines : System → List (List ℕ)
system_lines system = header_text (length system.rows) system.shape ∷ map row_text system.rows

-- what follows an entry's head
abbrev pub verdict_lines : System → Option (List ℤ) → List (List ℕ)
verdict_lines system None = system_lines system
verdict_lines system (Some multipliers) = certificate_line multipliers ∷ []

-- an entry with its system
abbrev pub entry_lines : Dep → System → Option (List ℤ) → List (List ℕ)
entry_lines e system certificate = head_line e (verdict_word certificate) ∷ verdict_lines system certificate

-- entries in order, each with the certificate at its place
abbrev pub lines_of : System → List Side → List Dep → List (Option (List ℤ)) → List (List ℕ)
lines_of context sides [] certificates = []
lines_of context sides (e ∷ entries) [] = []
lines_of context sides (e ∷ entries) (certificate ∷ certificates) =
    entry_lines e (system_of context sides e) certificate ++ lines_of context sides entries certificates

-- the block: the number of systems, then the entries
abbrev pub block_lines : System → List Side → List Dep → List (Option (List ℤ)) → List (List ℕ)
block_lines context sides entries certificates = decimal (length entries) ∷ lines_of context sides entries certificates

-- the extension
abbrev pub block_of : List (List ℕ) → Extension
block_of lines = record { name = block_name; lines = lines }
