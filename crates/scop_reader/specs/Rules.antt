-- The rules of OpenScop text: one for each piece of the grammar. In one line the order is: the form and the
-- number of words; the words from left to right; the shape; the limits.
use Rattle.std.specs.Prelude.{ℤ, pos, ℕ, zero, suc, ◌+◌, ◌-◌, ◌*◌, Bool, true, false, not, ◌&&◌, ◌||◌, ◌==◌, nat_lt, unsigned_abs, if◌then◌else◌, List, [], ◌∷◌, ◌++◌, length, Option, Some, None, Result, Ok, Err, codes, drop, take}
use Rattle.std.specs.Ordering.{int_eq}
use Rattle.std.specs.Str.{bytes_eq}
use Rattle.suite_base.specs.declared.refusals.Refusal.{Refusal}
use Rattle.suite_base.specs.declared.refusals.Refusal.TheVariants.{BadScop, SecondScop, Limit}
use Rattle.suite_base.specs.declared.refusals.Which.{Which}
use Rattle.suite_base.specs.declared.refusals.Which.TheVariants.{Statements, Iterators, Parameters, Levels, Locals, Rows, Parts, Accesses, Subscripts, Arrays}
use Rattle.suite_base.specs.Limits.{max_statements, max_iterators, max_parameters, max_levels, max_locals, max_rows, max_parts, max_accesses, max_subscripts, max_arrays}
use Rattle.suite_base.specs.Lines.{lines, trim}
use Rattle.suite_base.specs.Words.{content}
use Rattle.suite_base.specs.Numbers.{number_read}
use Rattle.relation_core.specs.declared.part_rows.RowKind.{RowKind}
use Rattle.relation_core.specs.declared.part_rows.RowKind.TheVariants.{Equal, AtLeast}
use Rattle.relation_core.specs.declared.shapes.Shape.{Shape}
use Rattle.relation_core.specs.declared.part_rows.PartRow.{PartRow}
use Rattle.relation_core.specs.Systems.{System, columns}
use Rattle.scop_data.specs.declared.accesses.AccessKind.{AccessKind}
use Rattle.scop_data.specs.declared.accesses.AccessKind.TheVariants.{Read, Write, MayWrite}
use Rattle.scop_data.specs.declared.statements.Body.{Body}
use Rattle.scop_data.specs.declared.statements.Extension.{Extension}
use Rattle.scop_data.specs.declared.raw_pieces.RawStatement.{RawStatement}
use Rattle.scop_data.specs.declared.raw_pieces.ScopPieces.{ScopPieces}
use Rattle.scop_core.specs.Layouts.{access_word}
use Rattle.scop_core.specs.Printable.{end_line, body_name, arrays_name, is_extension_name, has_no_array}
use Rattle.scop_reader.specs.declared.roles.Role.{Role}
use Rattle.scop_reader.specs.declared.roles.Role.TheVariants.{Context, Domain, Scattering, Access}
use Rattle.scop_reader.specs.Lines.{Rest, Line, Word, behind_silent, words_of}
use Rattle.scop_reader.specs.Reading.{Outcome, Reader, ◌>>=◌, ◌>>◌, pure, refuse, check, unless, said_line, first_of, next_said, literal, closing, word_line, number_in, with_number, numbers_in, of_result, is_count, at_least, is_any}

-- ---- numbers

abbrev pub naturals : List ℤ → List ℕ
naturals [] = []
naturals (n ∷ ns) = unsigned_abs n ∷ naturals ns

-- a line of n numbers, each of which passes the test
unfoldable pub number_line : ℕ → (ℤ → Bool) → Reader (Line × List ℤ)
number_line n allowed = do
  line ← said_line
  check (length (words_of line.bytes) == n) (BadScop line.number)
  numbers ← of_result (numbers_in line allowed (words_of line.bytes))
  pure (line, numbers)

abbrev pub first_number : List ℤ → ℕ
first_number [] = 0
first_number (n ∷ ns) = unsigned_abs n

-- a line of one number that is at least this, and the number of the line
unfoldable pub count_line : ℕ → Reader (Line × ℕ)
count_line least = do
  found ← number_line 1 (at_least least)
  pure (found.0, first_number found.1)

-- refuses a count above its limit
abbrev pub within : ℕ → ℕ → Which → ℕ → Reader (Unit {0})
within most count which k = unless (if nat_lt most count then Some (Limit which k) else None)

-- ---- parts

-- the six numbers of a part
pub record Header : Type 0 where
  pub rows : ℕ
  pub columns : ℕ
  pub shape : Shape

abbrev pub number_at : List ℕ → ℕ → ℕ
number_at [] k = 0
number_at (n ∷ ns) zero = n
number_at (n ∷ ns) (suc k) = number_at ns k

abbrev pub header_of : List ℕ → Header
header_of ns = record {
  rows = number_at ns 0;
  columns = number_at ns 1;
  shape = record { outputs = number_at ns 2; inputs = number_at ns 3; locals = number_at ns 4; parameters = number_at ns 5 };
}

abbrev pub is_known : Option ℕ → ℕ → Bool
is_known None n = true
is_known (Some m) n = n == m

-- a part of this role can have this shape
abbrev pub suits : Role → Shape → Bool
suits Context shape = (shape.outputs == 0) && (shape.inputs == 0) && (shape.locals == 0)
suits (Domain parameters iterators) shape = (shape.parameters == parameters) && (shape.inputs == 0) && is_known iterators shape.outputs
suits (Scattering parameters iterators) shape = (shape.parameters == parameters) && (shape.inputs == iterators)
suits (Access parameters iterators) shape = (shape.parameters == parameters) && (shape.inputs == iterators)

-- the most outputs of a part of this role, and what they are
abbrev pub most_outputs : Role → ℕ
most_outputs Context = 0
most_outputs (Domain parameters iterators) = max_iterators
most_outputs (Scattering parameters iterators) = 2 * max_levels + 1
most_outputs (Access parameters iterators) = max_subscripts + 1

abbrev pub outputs_are : Role → Which
outputs_are Context = Iterators
outputs_are (Domain parameters iterators) = Iterators
outputs_are (Scattering parameters iterators) = Levels
outputs_are (Access parameters iterators) = Subscripts

-- the first limit that a header passes, of statement k or 0
abbrev pub header_limit : Role → ℕ → Header → Option Refusal
header_limit role k header =
    if nat_lt max_rows header.rows then Some (Limit Rows k)
    else (if nat_lt (most_outputs role) header.shape.outputs then Some (Limit (outputs_are role) k)
    else (if nat_lt max_locals header.shape.locals then Some (Limit Locals k)
    else (if nat_lt max_parameters header.shape.parameters then Some (Limit Parameters k) else None)))

-- columns with the kind and the constant, and the shape of a part of this role
abbrev pub is_shaped : Role → Header → Bool
is_shaped role header = (header.columns == columns header.shape + 2) && suits role header.shape

-- a line of six numbers
unfoldable pub counts_line : Reader (Line × Header)
counts_line = do
  found ← number_line 6 is_count
  pure (found.0, header_of (naturals found.1))

unfoldable pub header_line : Role → ℕ → Reader Header
header_line role k = do
  found ← counts_line
  check (is_shaped role found.1) (BadScop found.0.number)
  unless (header_limit role k found.1)
  pure found.1

-- the first number of a row: 0 for an equality, 1 for an inequality
abbrev pub is_kind : ℤ → Bool
is_kind n = int_eq n (pos 0) || int_eq n (pos 1)

abbrev pub kind_of : ℤ → RowKind
kind_of n = if int_eq n (pos 0) then Equal else AtLeast

-- the numbers of a row: its kind, then any
abbrev pub row_numbers : Line → List Word → Result (List ℤ) Refusal
row_numbers line [] = Ok []
row_numbers line (word ∷ words) =
    with_number (number_in line is_kind word (number_read word.bytes)) (numbers_in line is_any words)

abbrev pub row_of : List ℤ → PartRow
row_of [] = record { kind = Equal; entries = [] }
row_of (n ∷ ns) = record { kind = kind_of n; entries = ns }

-- a row of so many numbers
unfoldable pub row_line : ℕ → Reader PartRow
row_line width = do
  line ← said_line
  check (length (words_of line.bytes) == width) (BadScop line.number)
  numbers ← of_result (row_numbers line (words_of line.bytes))
  pure (row_of numbers)

-- n more rows behind those that were found
unfoldable pub rows_from : ℕ → ℕ → List PartRow → Reader (List PartRow)
rows_from width zero found = pure found
rows_from width (suc n) found = do
  row ← row_line width
  rows_from width n (found ++ row ∷ [])

unfoldable pub part : Role → ℕ → Reader System
part role k = do
  header ← header_line role k
  rows ← rows_from header.columns header.rows []
  pure (record { shape = header.shape; rows = rows })

-- ---- relations

-- the role of the parts behind a first one
abbrev pub role_behind : Role → System → Role
role_behind (Domain parameters None) first = Domain parameters (Some first.shape.outputs)
role_behind role first = role

-- n more parts behind those that were found
unfoldable pub parts_from : Role → ℕ → ℕ → List System → Reader (List System)
parts_from role k zero found = pure found
parts_from role k (suc n) found = do
  next ← part role k
  parts_from (role_behind role next) k n (found ++ next ∷ [])

-- the number of parts where it is written: a line of one number
abbrev pub is_counted : List ℕ → Bool
is_counted line = length (words_of line) == 1

unfoldable pub part_count : ℕ → Reader ℕ
part_count k = do
  found ← count_line 1
  within max_parts found.1 Parts k
  pure found.1

unfoldable pub counted : ℕ → Reader ℕ
counted k = λ rest. if is_counted (next_said rest) then part_count k rest else pure 1 rest

-- the parts of a relation, behind its type word
unfoldable pub parts : Role → ℕ → Reader (List System)
parts role k = do
  n ← counted k
  parts_from role k n []

-- the context has one part
unfoldable pub one_part : Reader (Unit {0})
one_part = do
  found ← count_line 1
  check (found.1 == 1) (BadScop found.0.number)

unfoldable pub context_counted : Reader (Unit {0})
context_counted = λ rest. if is_counted (next_said rest) then one_part rest else pure tt rest

unfoldable pub context : Reader System
context = do
  literal (codes "CONTEXT")
  context_counted
  part Context 0

unfoldable pub domain : ℕ → ℕ → Reader (List System)
domain parameters k = do
  literal (codes "DOMAIN")
  parts (Domain parameters None) k

unfoldable pub scattering : ℕ → ℕ → ℕ → Reader (List System)
scattering parameters iterators k = do
  literal (codes "SCATTERING")
  parts (Scattering parameters iterators) k

-- the kind that a type word names
abbrev pub access_kind : List ℕ → Option AccessKind
access_kind word =
    if bytes_eq word (access_word Read) then Some Read
    else (if bytes_eq word (access_word Write) then Some Write
    else (if bytes_eq word (access_word MayWrite) then Some MayWrite else None))

abbrev pub some_of : {A : Type 0} → Option A → Refusal → Reader A
some_of None refusal = refuse refusal
some_of (Some a) refusal = pure a

unfoldable pub kind_line : Reader AccessKind
kind_line = do
  line ← said_line
  some_of (access_kind (content line.bytes)) (BadScop line.number)

unfoldable pub access : ℕ → ℕ → ℕ → Reader (AccessKind × List System)
access parameters iterators k = do
  kind ← kind_line
  found ← parts (Access parameters iterators) k
  pure (kind, found)

unfoldable pub accesses_from : ℕ → ℕ → ℕ → ℕ → List (AccessKind × List System) → Reader (List (AccessKind × List System))
accesses_from parameters iterators k zero found = pure found
accesses_from parameters iterators k (suc n) found = do
  next ← access parameters iterators k
  accesses_from parameters iterators k n (found ++ next ∷ [])

-- ---- extensions

-- the lines of an extension up to the one that ends it, behind those that were found
unfoldable pub kept_from : List ℕ → ℕ → List (List ℕ) → List (List ℕ) → Outcome (List (List ℕ))
kept_from name number found [] = Err (BadScop number)
kept_from name number found (line ∷ lines) =
    if bytes_eq (trim line) (end_line name) then Ok (found, record { number = number + 1; lines = lines })
    else kept_from name (number + 1) (found ++ line ∷ []) lines

unfoldable pub kept_lines : List ℕ → Reader (List (List ℕ))
kept_lines name = λ rest. kept_from name rest.number [] rest.lines

unfoldable pub kept : List ℕ → Reader Extension
kept name = do
  lines ← kept_lines name
  pure (record { name = name; lines = lines })

-- the name in an opening line `<name>`
abbrev pub without_last : List ℕ → List ℕ
without_last bytes = take (length bytes - 1) bytes

abbrev pub opened_name : List ℕ → List ℕ
opened_name line = without_last (drop 1 line)

-- a line opens an extension
abbrev pub is_opening : List ℕ → Bool
is_opening line = bytes_eq line (60 ∷ opened_name line ++ 62 ∷ []) && is_extension_name (opened_name line)

-- the names of n iterators or parameters: no line where there are none
unfoldable pub names : ℕ → Reader (List (List ℕ))
names zero = pure []
names (suc n) = word_line (suc n)

-- a line that is not the one that ends a body
unfoldable pub no_end : Reader (Unit {0})
no_end = λ rest. check (not (bytes_eq (content (next_said rest)) (end_line body_name))) (BadScop (behind_silent rest.number rest.lines).number) rest

unfoldable pub iterator_names : ℕ → Reader (List (List ℕ))
iterator_names zero = pure []
iterator_names (suc n) = do
  no_end
  word_line (suc n)

unfoldable pub body_text : Reader (List ℕ)
body_text = do
  no_end
  line ← said_line
  pure (content line.bytes)

-- a body of so many iterators, behind its opening line
unfoldable pub body : ℕ → Reader Body
body iterators = do
  found ← count_line 0
  check (found.1 == iterators) (BadScop found.0.number)
  made ← iterator_names iterators
  text ← body_text
  closing (end_line body_name)
  pure (record { text = text; iterators = made })

-- the extensions of a statement: its body, if there is one, and the others in order
pub record Extensions (A : Type 0) : Type 0 where
  pub special : Option A
  pub others : List Extension

abbrev pub extensions_of : {A : Type 0} → Option A → List Extension → Extensions A
extensions_of special others = record { special = special; others = others }

abbrev pub is_none : {A : Type 0} → Option A → Bool
is_none None = true
is_none (Some a) = false

-- reads the extension of a special name by a rule of its own, at most once, and keeps each other
unfoldable pub extension : {A : Type 0} → List ℕ → Reader A → Extensions A → Reader (Extensions A)
extension special rule found = do
  line ← said_line
  check (is_opening (content line.bytes)) (BadScop line.number)
  if bytes_eq (opened_name (content line.bytes)) special
      then (do
        check (is_none found.special) (BadScop line.number)
        made ← rule
        pure (record found { special = Some made }))
      else (do
        made ← kept (opened_name (content line.bytes))
        pure (record found { others = found.others ++ made ∷ [] }))

-- n more extensions of a statement
unfoldable pub extensions_from : ℕ → ℕ → Extensions Body → Reader (Extensions Body)
extensions_from iterators zero found = pure found
extensions_from iterators (suc n) found = do
  next ← extension body_name (body iterators) found
  extensions_from iterators n next

abbrev pub no_extensions : {A : Type 0} → Extensions A
no_extensions = record { special = None; others = [] }

-- ---- statements

-- the number of relations of statement k: domain, scattering and the accesses
unfoldable pub relation_count : ℕ → Reader ℕ
relation_count k = do
  found ← count_line 2
  within (max_accesses + 2) found.1 Accesses k
  pure found.1

abbrev pub outputs_of_first : List System → ℕ
outputs_of_first [] = 0
outputs_of_first (first ∷ more) = first.shape.outputs

-- statement number k
unfoldable pub statement : ℕ → ℕ → Reader RawStatement
statement parameters k = do
  relations ← relation_count k
  domain ← domain parameters k
  scattering ← scattering parameters (outputs_of_first domain) k
  accesses ← accesses_from parameters (outputs_of_first domain) k (relations - 2) []
  count ← count_line 0
  extensions ← extensions_from (outputs_of_first domain) count.1 no_extensions
  pure (record { domain = domain; scattering = scattering; accesses = accesses; body = extensions.special; extensions = extensions.others })

-- n more statements, the first with number k
unfoldable pub statements_from : ℕ → ℕ → ℕ → List RawStatement → Reader (List RawStatement)
statements_from parameters k zero found = pure found
statements_from parameters k (suc n) found = do
  next ← statement parameters k
  statements_from parameters (k + 1) n (found ++ next ∷ [])

unfoldable pub statement_count : Reader ℕ
statement_count = do
  found ← count_line 0
  within max_statements found.1 Statements 0
  pure found.1

-- ---- the whole

-- the names of the parameters, where they are present
unfoldable pub parameter_names : ℕ → Reader (List (List ℕ))
parameter_names n = do
  literal (codes "<strings>")
  found ← names n
  literal (codes "</strings>")
  pure found

unfoldable pub parameters : ℕ → Reader (Option (List (List ℕ)))
parameters n = do
  line ← said_line
  if bytes_eq (content line.bytes) (codes "1") then (do found ← parameter_names n; pure (Some found))
      else (do check (bytes_eq (content line.bytes) (codes "0")) (BadScop line.number); pure None)

-- an array's identifier, at least 1, and its name
abbrev pub array_of : Line → List Word → Result (ℤ × List ℕ) Refusal
array_of line (number ∷ (name ∷ [])) =
    elim (number_in line (at_least 1) number (number_read number.bytes)) [ Ok n ↦ Ok (n, name.bytes) | Err e ↦ Err e ]
array_of line words = Err (BadScop line.number)

unfoldable pub array_line : List (ℤ × List ℕ) → Reader (ℤ × List ℕ)
array_line found = do
  line ← said_line
  array ← of_result (array_of line (words_of line.bytes))
  check (has_no_array array.0 found) (BadScop line.number)
  pure array

unfoldable pub arrays_from : ℕ → List (ℤ × List ℕ) → Reader (List (ℤ × List ℕ))
arrays_from zero found = pure found
arrays_from (suc n) found = do
  next ← array_line found
  arrays_from n (found ++ next ∷ [])

-- the arrays, behind their opening line
unfoldable pub arrays : Reader (List (ℤ × List ℕ))
arrays = do
  count ← count_line 0
  within max_arrays count.1 Arrays 0
  found ← arrays_from count.1 []
  closing (end_line arrays_name)
  pure found

abbrev pub close_word : List ℕ
close_word = codes "</OpenScop>"

abbrev pub open_word : List ℕ
open_word = codes "<OpenScop>"

-- the global extensions up to the closing line, which is taken; each is of at least two lines
unfoldable pub globals_from : ℕ → Extensions (List (ℤ × List ℕ)) → Reader (Extensions (List (ℤ × List ℕ)))
globals_from zero found = do
  literal close_word
  pure found
globals_from (suc n) found = λ rest.
    if bytes_eq (content (next_said rest)) close_word then (literal close_word >> pure found) rest
    else (extension arrays_name arrays found >>= globals_from n) rest

unfoldable pub globals : Reader (Extensions (List (ℤ × List ℕ)))
globals = λ rest. globals_from (length rest.lines) no_extensions rest

-- what is left from the first line that opens a SCoP on
abbrev pub from_open : ℕ → List (List ℕ) → Rest
from_open number [] = record { number = number; lines = [] }
from_open number (line ∷ lines) =
    if bytes_eq (content line) open_word then record { number = number; lines = line ∷ lines } else from_open (number + 1) lines

unfoldable pub opening : Reader (Unit {0})
opening = λ rest. literal open_word (from_open rest.number rest.lines)

-- behind the closing line no second SCoP begins
abbrev pub no_second : Rest → Option Refusal
no_second rest = elim (from_open rest.number rest.lines).lines [ [] ↦ None | line ∷ lines ↦ Some (SecondScop (from_open rest.number rest.lines).number) ]

unfoldable pub no_more : Reader (Unit {0})
no_more = λ rest. unless (no_second rest) rest

-- a line of one word
unfoldable pub one_word : Reader (List ℕ)
one_word = do
  found ← word_line 1
  pure (first_of found)

unfoldable pub scop : Reader ScopPieces
scop = do
  opening
  language ← one_word
  context ← context
  names ← parameters context.shape.parameters
  count ← statement_count
  statements ← statements_from context.shape.parameters 1 count []
  globals ← globals
  no_more
  pure (record { language = language; context = context; parameters = names; statements = statements; arrays = globals.special; extensions = globals.others })
