-- The grammar of OpenScop text, from what a text is to what its lines say. A document is the pieces of a SCoP
-- with the choices that a text has: where a number of parts is written, and how extensions follow one another.
use Rattle.std.specs.Prelude.{ℤ, pos, ℕ, ◌+◌, Bool, true, false, ◌&&◌, List, [], ◌∷◌, ◌++◌, length, map, Option, Some, None, if◌then◌else◌, codes}
use Rattle.std.specs.List.{flat_map}
use Rattle.std.specs.Str.{bytes_eq}
use Rattle.suite_base.specs.Lines.{trim}
use Rattle.suite_base.specs.Words.{content}
use Rattle.suite_base.specs.Numbers.{number_read}
use Rattle.relation_core.specs.declared.part_rows.PartRow.{PartRow}
use Rattle.relation_core.specs.Systems.{System}
use Rattle.scop_data.specs.declared.accesses.AccessKind.{AccessKind}
use Rattle.scop_data.specs.declared.statements.Body.{Body}
use Rattle.scop_data.specs.declared.statements.Extension.{Extension}
use Rattle.scop_data.specs.declared.raw_pieces.RawStatement.{RawStatement}
use Rattle.scop_data.specs.declared.raw_pieces.ScopPieces.{ScopPieces}
use Rattle.scop_data.specs.LineWords.{are_same, is_value, are_numbers, row_numbers, header_numbers}
use Rattle.scop_core.specs.Layouts.{access_word}
use Rattle.scop_core.specs.Printable.{end_line, body_name, arrays_name}
use Rattle.scop_reader.specs.Lines.{Rest, behind_silent, words_of, word_bytes}

-- ---- what a line says

pub data Said : Type 0 where
  -- exactly this, but for a comment and blanks at the ends
  Literal : (text : List ℕ) → Said
  -- these words
  Words : (words : List (List ℕ)) → Said
  -- words for these numbers
  Numbers : (numbers : List ℤ) → Said
  -- a word for this number, and this word
  Entry : (number : ℤ) → (word : List ℕ) → Said
  -- exactly this, but for blanks at the ends
  Closing : (text : List ℕ) → Said
  -- exactly this; no line before it is skipped
  Raw : (text : List ℕ) → Said
  -- exactly this, but for blanks at the ends; no line before it is skipped
  End : (text : List ℕ) → Said

-- a word for this number, and this word
abbrev pub is_entry : List (List ℕ) → ℤ → List ℕ → Bool
is_entry (a ∷ (b ∷ [])) n word = is_value n (number_read a) && bytes_eq b word
is_entry words n word = false

abbrev pub says : Said → List ℕ → Bool
says (Literal text) line = bytes_eq (content line) text
says (Words words) line = are_same (word_bytes (words_of line)) words
says (Numbers numbers) line = are_numbers (word_bytes (words_of line)) numbers
says (Entry number word) line = is_entry (word_bytes (words_of line)) number word
says (Closing text) line = bytes_eq (trim line) text
says (Raw text) line = bytes_eq line text
says (End text) line = bytes_eq (trim line) text

-- a line of an extension that is kept: nothing is skipped before it
abbrev pub is_raw : Said → Bool
is_raw (Literal text) = false
is_raw (Words words) = false
is_raw (Numbers numbers) = false
is_raw (Entry number word) = false
is_raw (Closing text) = false
is_raw (Raw text) = true
is_raw (End text) = true

-- what is left behind a first line that passes the test; none where no line does
abbrev pub behind_first : (List ℕ → Bool) → Rest → Option Rest
behind_first test rest = elim rest.lines [
  | [] ↦ None
  | line ∷ lines ↦ if test line then Some (record { number = rest.number + 1; lines = lines }) else None
]

-- what is left behind the lines that are skipped and the one that says this; none where it says something else
abbrev pub behind : Said → Rest → Option Rest
behind said rest = behind_first (says said) (if is_raw said then rest else behind_silent rest.number rest.lines)

-- what is left behind the lines that say these things in turn
abbrev pub behind_all : List Said → Rest → Option Rest
behind_all [] rest = Some rest
behind_all (said ∷ more) rest = elim (behind said rest) [ None ↦ None | Some next ↦ behind_all more next ]

-- ---- documents

-- the parts of a relation, and whether their number is written
pub record Parts : Type 0 where
  pub is_counted : Bool
  pub parts : List System

-- an extension that is read by a rule of its own, or one that is kept
pub data Item (A : Type 0) : Type 0 where
  Special : (a : A) → Item A
  Kept : (extension : Extension) → Item A

pub record StatementText : Type 0 where
  pub domain : Parts
  pub scattering : Parts
  pub accesses : List (AccessKind × Parts)
  pub items : List (Item Body)

pub record Document : Type 0 where
  pub language : List ℕ
  pub is_counted : Bool
  pub context : System
  pub parameters : Option (List (List ℕ))
  pub statements : List StatementText
  pub items : List (Item (List (ℤ × List ℕ)))

-- ---- what the lines of each piece say

abbrev pub count : ℕ → Said
count n = Numbers (pos n ∷ [])

abbrev pub said_row : PartRow → Said
said_row row = Numbers (row_numbers row)

abbrev pub said_part : System → List Said
said_part part = Numbers (header_numbers part) ∷ map said_row part.rows

abbrev pub said_count : Bool → ℕ → List Said
said_count is_counted n = if is_counted then count n ∷ [] else []

abbrev pub said_relation : List ℕ → Parts → List Said
said_relation word relation =
    Literal word ∷ said_count relation.is_counted (length relation.parts) ++ flat_map said_part relation.parts

abbrev pub said_access : AccessKind × Parts → List Said
said_access access = said_relation (access_word access.0) access.1

-- names on one line; no line where there are none
abbrev pub said_names : List (List ℕ) → List Said
said_names [] = []
said_names (name ∷ names) = Words (name ∷ names) ∷ []

abbrev pub said_body : Body → List Said
said_body body =
    Literal (codes "<body>") ∷ (count (length body.iterators) ∷ (said_names body.iterators ++ Literal body.text ∷ (Closing (end_line body_name) ∷ [])))

abbrev pub said_array : ℤ × List ℕ → Said
said_array array = Entry array.0 array.1

abbrev pub said_arrays : List (ℤ × List ℕ) → List Said
said_arrays arrays = Literal (codes "<arrays>") ∷ (count (length arrays) ∷ (map said_array arrays ++ Closing (end_line arrays_name) ∷ []))

-- the line that opens an extension of this name
abbrev pub open_line : List ℕ → List ℕ
open_line name = codes "<" ++ name ++ codes ">"

abbrev pub said_kept : Extension → List Said
said_kept extension = Literal (open_line extension.name) ∷ (map Raw extension.lines ++ End (end_line extension.name) ∷ [])

abbrev pub said_item : {A : Type 0} → (A → List Said) → Item A → List Said
said_item rule (Special a) = rule a
said_item rule (Kept extension) = said_kept extension

abbrev pub said_statement : StatementText → List Said
said_statement statement =
    count (length statement.accesses + 2)
    ∷ (said_relation (codes "DOMAIN") statement.domain ++ (said_relation (codes "SCATTERING") statement.scattering
    ++ (flat_map said_access statement.accesses ++ (count (length statement.items) ∷ flat_map (said_item said_body) statement.items))))

abbrev pub said_parameters : Option (List (List ℕ)) → List Said
said_parameters None = Literal (codes "0") ∷ []
said_parameters (Some names) = Literal (codes "1") ∷ (Literal (codes "<strings>") ∷ (said_names names ++ Literal (codes "</strings>") ∷ []))

abbrev pub said_context : Document → List Said
said_context document = said_relation (codes "CONTEXT") (record { is_counted = document.is_counted; parts = document.context ∷ [] })

abbrev pub said_document : Document → List Said
said_document document =
    Literal (codes "<OpenScop>") ∷ (Words (document.language ∷ []) ∷ (said_context document ++ (said_parameters document.parameters
    ++ (count (length document.statements) ∷ (flat_map said_statement document.statements
    ++ (flat_map (said_item said_arrays) document.items ++ Literal (codes "</OpenScop>") ∷ []))))))

-- ---- the pieces of a document

abbrev pub first_special : {A : Type 0} → List (Item A) → Option A
first_special [] = None
first_special (Special a ∷ items) = Some a
first_special (Kept extension ∷ items) = first_special items

abbrev pub kept_items : {A : Type 0} → List (Item A) → List Extension
kept_items [] = []
kept_items (Special a ∷ items) = kept_items items
kept_items (Kept extension ∷ items) = extension ∷ kept_items items

abbrev pub access_pieces : AccessKind × Parts → AccessKind × List System
access_pieces access = (access.0, access.1.parts)

abbrev pub statement_pieces : StatementText → RawStatement
statement_pieces statement = record {
  domain = statement.domain.parts;
  scattering = statement.scattering.parts;
  accesses = map access_pieces statement.accesses;
  body = first_special statement.items;
  extensions = kept_items statement.items;
}

abbrev pub pieces_of : Document → ScopPieces
pieces_of document = record {
  language = document.language;
  context = document.context;
  parameters = document.parameters;
  statements = map statement_pieces document.statements;
  arrays = first_special document.items;
  extensions = kept_items document.items;
}
