-- The definitions tried on texts.
use Rattle.std.proofs.Common.{◌≡◌, refl, Some, None, ℕ, ℤ, pos, negsuc, List, [], ◌∷◌, ◌++◌, Ok, Err, true, false}
use Rattle.std.specs.Prelude.{codes}
use Rattle.suite_base.specs.declared.refusals.Refusal.TheVariants.{BadScop, SecondScop}
use Rattle.suite_base.specs.Lines.{lines}
use Rattle.relation_core.specs.Systems.{System}
use Rattle.relation_core.specs.declared.part_rows.RowKind.{RowKind}
use Rattle.relation_core.specs.declared.part_rows.RowKind.TheVariants.{Equal, AtLeast}
use Rattle.relation_core.specs.declared.part_rows.PartRow.{PartRow}
use Rattle.scop_data.specs.declared.accesses.AccessKind.TheVariants.{Write}
use Rattle.scop_data.specs.declared.statements.Body.{Body}
use Rattle.scop_data.specs.declared.statements.Extension.{Extension}
use Rattle.scop_reader.specs.Lines.{words_of, behind_silent}
use Rattle.scop_reader.specs.Reading.{said_line, next_said, literal, closing, word_line}
use Rattle.scop_reader.specs.Rules
use Rattle.scop_reader.specs.Rules.{from_open, no_second}
use Rattle.scop_reader.specs.Documents.{Document, StatementText, Special, Kept, pieces_of}
use Rattle.scop_reader.specs.Texts.{pieces_in, IsTextOf}

-- ---- words and their columns

columns_count_bytes : words_of (codes "  ab 7 # c") ≡ record { column = 3; bytes = codes "ab" } ∷ (record { column = 6; bytes = codes "7" } ∷ [])
columns_count_bytes = refl

no_words : words_of (codes "  # 1 2") ≡ []
no_words = refl

silent_lines : behind_silent 4 (lines (codes "# c\n \nx\n")) ≡ record { number = 6; lines = codes "x" ∷ [] }
silent_lines = refl

-- ---- the text of an empty region

abbrev empty_text : List ℕ
empty_text = codes "<OpenScop>\nC\nCONTEXT\n0 2 0 0 0 0\n0\n0\n<arrays>\n0\n</arrays>\n</OpenScop>\n"

abbrev no_rows : System
no_rows = record { shape = record { outputs = 0; inputs = 0; locals = 0; parameters = 0 }; rows = [] }

abbrev empty_document : Document
empty_document = record { language = codes "C"; is_counted = false; context = no_rows; parameters = None; statements = []; items = Special [] ∷ [] }

empty_is_text : IsTextOf empty_text empty_document
empty_is_text = record { rest = record { number = 11; lines = [] }; said = refl; one = refl }

-- every rule, opened at once
abbrev Opened : Type 0
unfolding pieces_in Rules.scop Rules.opening Rules.no_more Rules.globals Rules.globals_from Rules.arrays Rules.arrays_from Rules.array_line Rules.parameters Rules.parameter_names Rules.statement_count Rules.statements_from Rules.statement Rules.relation_count Rules.extensions_from Rules.extension Rules.body Rules.body_text Rules.iterator_names Rules.no_end Rules.names Rules.kept Rules.kept_lines Rules.kept_from Rules.accesses_from Rules.access Rules.kind_line Rules.scattering Rules.domain Rules.context Rules.context_counted Rules.one_part Rules.parts Rules.counted Rules.part_count Rules.parts_from Rules.part Rules.rows_from Rules.row_line Rules.header_line Rules.counts_line Rules.one_word Rules.count_line Rules.number_line word_line closing literal next_said said_line
Opened = Unit {0}

empty_is_read : pieces_in empty_text ≡ Ok (pieces_of empty_document)
unfolding Opened
empty_is_read = refl

-- cut behind its fourth line, the text is at fault in its fifth
cut_text : pieces_in (codes "<OpenScop>\nC\nCONTEXT\n0 2 0 0 0 0\n") ≡ Err (BadScop 5)
unfolding Opened
cut_text = refl

second_scop : pieces_in (empty_text ++ codes "x\n<OpenScop> # again\n") ≡ Err (SecondScop 12)
unfolding Opened
second_scop = refl

-- ---- a text with a statement

abbrev full_text : List ℕ
full_text = codes "x\n\n<OpenScop>\nC\nCONTEXT\n 1\n1 3 0 0 0 1\n1 1 -1\n1\n<strings>\nN\n</strings>\n1\n3\nDOMAIN # two parts\n2\n1 4 1 0 0 1\n1 1 0 007\n1 4 1 0 0 1\n1 -1 1 -1\n" ++
    codes "SCATTERING\n1 7 3 1 0 1\n0 -1 0 0 0 0 0\nWRITE\n1\n0 6 2 1 0 1\n2\n<note>\n a # b\n\n</note>\n<body>\n1\ni\nA[i] = 0;\n</body> \n</OpenScop>\n"

abbrev shaped : ℕ → ℕ → List PartRow → System
shaped outputs inputs rows = record { shape = record { outputs = outputs; inputs = inputs; locals = 0; parameters = 1 }; rows = rows }

abbrev row : RowKind → List ℤ → PartRow
row kind entries = record { kind = kind; entries = entries }

abbrev a_body : Body
a_body = record { text = codes "A[i] = 0;"; iterators = codes "i" ∷ [] }

abbrev a_note : Extension
a_note = record { name = codes "note"; lines = codes " a # b" ∷ ([] ∷ []) }

abbrev two_parts : List System
two_parts = shaped 1 0 (row AtLeast (pos 1 ∷ (pos 0 ∷ (pos 7 ∷ []))) ∷ []) ∷ (shaped 1 0 (row AtLeast (negsuc 0 ∷ (pos 1 ∷ (negsuc 0 ∷ []))) ∷ []) ∷ [])

abbrev full_statement : StatementText
full_statement = record {
  domain = record { is_counted = true; parts = two_parts };
  scattering = record { is_counted = false; parts = shaped 3 1 (row Equal (negsuc 0 ∷ (pos 0 ∷ (pos 0 ∷ (pos 0 ∷ (pos 0 ∷ (pos 0 ∷ [])))))) ∷ []) ∷ [] };
  accesses = (Write, record { is_counted = true; parts = shaped 2 1 [] ∷ [] }) ∷ [];
  items = Kept a_note ∷ (Special a_body ∷ []);
}

abbrev full_document : Document
full_document = record {
  language = codes "C";
  is_counted = true;
  context = shaped 0 0 (row AtLeast (pos 1 ∷ (negsuc 0 ∷ [])) ∷ []);
  parameters = Some (codes "N" ∷ []);
  statements = full_statement ∷ [];
  items = [];
}

full_is_text : IsTextOf full_text full_document
full_is_text = record { rest = record { number = 38; lines = [] }; said = refl; one = refl }

full_is_read : pieces_in full_text ≡ Ok (pieces_of full_document)
unfolding Opened
full_is_read = refl
