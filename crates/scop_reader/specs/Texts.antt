-- Which SCoP a text stands for, and why a text stands for none.
use Rattle.std.specs.Prelude.{◌≡◌, ◌<◌, ◌^◌, ℕ, Bool, true, false, ◌&&◌, ◌||◌, ◌==◌, List, [], ◌∷◌, length, Option, Some, None, Result, Ok, Err}
use Rattle.suite_base.specs.declared.refusals.Refusal.{Refusal}
use Rattle.suite_base.specs.declared.refusals.Refusal.TheVariants.{BadScop, BetaClash, Limit, NotSolved, NumberTooLarge, SecondScop, TooLong}
use Rattle.suite_base.specs.Lines.{lines}
use Rattle.relation_core.specs.declared.part_rows.PartRow.{PartRow}
use Rattle.relation_core.specs.Systems.{System, width}
use Rattle.scop_data.specs.declared.accesses.AccessKind.{AccessKind}
use Rattle.scop_data.specs.declared.raw_pieces.ScopPieces.{ScopPieces}
use Rattle.scop_core.specs.Assembly.{whole_limit, first_limit, refusal_of, scop_of}
use Rattle.scop_core.specs.ScopData.{ScopData}
use Rattle.scop_core.specs.Printable.{IsPrintable}
use Rattle.scop_core.specs.Layouts.{layout}
use Rattle.scop_core.specs.Validity.{IsValid}
use Rattle.scop_reader.specs.Lines.{Rest}
use Rattle.scop_reader.specs.Reading.{Outcome}
use Rattle.scop_reader.specs.Rules.{scop, from_open, no_second}
use Rattle.scop_reader.specs.Documents.{Parts, Item, Special, Kept, StatementText, Document, said_document, behind_all, pieces_of}

-- ---- the relation between texts and SCoPs

-- each row has an entry for each column and the constant
abbrev pub are_wide : ℕ → List PartRow → Bool
are_wide n [] = true
are_wide n (row ∷ rows) = (length row.entries == n) && are_wide n rows

abbrev pub parts_are_wide : List System → Bool
parts_are_wide [] = true
parts_are_wide (part ∷ parts) = are_wide (width part.shape) part.rows && parts_are_wide parts

-- the number of parts is written, or there is one; rows are as wide as their shapes
abbrev pub is_relation : Parts → Bool
is_relation relation = (relation.is_counted || (length relation.parts == 1)) && parts_are_wide relation.parts

abbrev pub are_relations : List (AccessKind × Parts) → Bool
are_relations [] = true
are_relations (access ∷ accesses) = is_relation access.1 && are_relations accesses

-- at most one extension is of the special name
abbrev pub has_no_special : {A : Type 0} → List (Item A) → Bool
has_no_special [] = true
has_no_special (Special a ∷ items) = false
has_no_special (Kept extension ∷ items) = has_no_special items

abbrev pub has_one_special : {A : Type 0} → List (Item A) → Bool
has_one_special [] = true
has_one_special (Special a ∷ items) = has_no_special items
has_one_special (Kept extension ∷ items) = has_one_special items

abbrev pub is_statement : StatementText → Bool
is_statement statement =
    is_relation statement.domain && is_relation statement.scattering && are_relations statement.accesses && has_one_special statement.items

abbrev pub are_statements : List StatementText → Bool
are_statements [] = true
are_statements (statement ∷ statements) = is_statement statement && are_statements statements

-- the document is one that a text can be: its pieces can be printed, and no limit is passed
pub record IsDocument (document : Document) : Type 0 where
  pub printable : IsPrintable (pieces_of document)
  pub context : are_wide (width document.context.shape) document.context.rows ≡ true
  pub statements : are_statements document.statements ≡ true
  pub arrays : has_one_special document.items ≡ true
  pub whole_limits : whole_limit (pieces_of document) ≡ None
  pub statement_limits : first_limit 1 (pieces_of document).statements ≡ None

-- the lines from the first opening one on say what the document says, and no second SCoP follows
pub record IsTextOf (bytes : List ℕ) (document : Document) : Type 0 where
  pub rest : Rest
  pub said : behind_all (said_document document) (from_open 1 (lines bytes)) ≡ Some rest
  pub one : no_second rest ≡ None

-- the bytes are a text of these pieces
pub record IsTextOfPieces (bytes : List ℕ) (pieces : ScopPieces) : Type 0 where
  pub document : Document
  pub proper : IsDocument document
  pub text : IsTextOf bytes document
  pub pieces_are : pieces ≡ pieces_of document

-- the bytes are a text of this SCoP
pub record IsScopText (bytes : List ℕ) (S : ScopData) : Type 0 where
  pub pieces : ScopPieces
  pub text : IsTextOfPieces bytes pieces
  pub accepted : refusal_of pieces ≡ None
  pub scop_is : S ≡ scop_of pieces

-- ---- the first fault of a text

abbrev pub answer_of : {A : Type 0} → Outcome A → Result A Refusal
answer_of (Ok p) = Ok p.0
answer_of (Err refusal) = Err refusal

-- the pieces of a text, or the first refusal of its lines
unfoldable pub pieces_in : List ℕ → Result ScopPieces Refusal
pieces_in bytes = answer_of (scop (record { number = 1; lines = lines bytes }))

abbrev pub fault_from : Result ScopPieces Refusal → Option Refusal
fault_from (Err refusal) = Some refusal
fault_from (Ok pieces) = refusal_of pieces

-- the first refusal: of a line, of a second SCoP, or of the pieces
abbrev pub fault : List ℕ → Option Refusal
fault bytes = fault_from (pieces_in bytes)

-- this SCoP is the one of the pieces that were read, which nothing refuses
abbrev pub GivesScop : Result ScopPieces Refusal → ScopData → Type 0
GivesScop (Ok pieces) S = (refusal_of pieces ≡ None) × (S ≡ scop_of pieces)
GivesScop (Err refusal) S = ⊥

-- the kinds of refusal that a text can meet: of its lines, of a second SCoP, of its pieces
abbrev pub IsTextRefusal : Refusal → Type 0
IsTextRefusal (BadScop line) = Unit {0}
IsTextRefusal (NumberTooLarge place) = Unit {0}
IsTextRefusal (SecondScop line) = Unit {0}
IsTextRefusal (NotSolved statement) = Unit {0}
IsTextRefusal (BetaClash first second) = Unit {0}
IsTextRefusal (Limit which number) = Unit {0}
IsTextRefusal refusal = ⊥

-- ---- what stands between the two

-- a text is read exactly where it is one, as its pieces
abbrev pub ReadsExactly : Type 0
ReadsExactly = (bytes : List ℕ) (pieces : ScopPieces)
    → ((pieces_in bytes ≡ Ok pieces → IsTextOfPieces bytes pieces) × (IsTextOfPieces bytes pieces → pieces_in bytes ≡ Ok pieces))

-- a text stands for at most one SCoP
abbrev pub StandsForOne : Type 0
StandsForOne = (bytes : List ℕ) (S T : ScopData) → IsScopText bytes S → IsScopText bytes T → S ≡ T

-- the fault of a text is of such a kind
abbrev pub FaultIsOfText : Type 0
FaultIsOfText = (bytes : List ℕ) (refusal : Refusal) → fault bytes ≡ Some refusal → IsTextRefusal refusal

-- no text has a fault by its length
abbrev pub FaultIsNotTooLong : Type 0
FaultIsNotTooLong = (bytes : List ℕ) → ¬ (fault bytes ≡ Some TooLong)

-- ---- printed text

-- what is printed of a valid SCoP is a text of that SCoP
abbrev pub LayoutReadsBack : Type 0
LayoutReadsBack = (scop : ScopData) → IsValid scop → IsScopText (layout scop) scop

-- what is printed of the SCoP of a text is a text of that SCoP
abbrev pub TextsReadBack : Type 0
TextsReadBack = (bytes : List ℕ) (scop : ScopData) → length bytes < 2 ^ 64 → IsScopText bytes scop → IsScopText (layout scop) scop
