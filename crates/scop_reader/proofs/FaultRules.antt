-- Each refusal of a rule is one that a text can meet.
use Rattle.std.proofs.Common.{ℕ, ℤ, zero, suc, ◌+◌, ◌-◌, ◌==◌, List, [], ◌∷◌, ◌++◌, length, Option, Some, None, Result, Ok, Err}
use Rattle.std.specs.Prelude.{not, codes}
use Rattle.std.specs.Str.{bytes_eq}
use Rattle.suite_base.specs.declared.refusals.Refusal.{Refusal}
use Rattle.suite_base.specs.declared.refusals.Refusal.TheVariants.{BadScop, SecondScop, Limit}
use Rattle.suite_base.specs.declared.refusals.Which.TheVariants.{Statements, Parameters, Locals, Rows, Parts, Accesses, Arrays}
use Rattle.suite_base.specs.Lines.{trim}
use Rattle.suite_base.specs.Words.{content}
use Rattle.suite_base.specs.Numbers.{number_read}
use Rattle.relation_core.specs.declared.part_rows.PartRow.{PartRow}
use Rattle.relation_core.specs.Systems.{System}
use Rattle.scop_data.specs.declared.accesses.AccessKind.{AccessKind}
use Rattle.scop_data.specs.declared.statements.Body.{Body}
use Rattle.scop_data.specs.declared.raw_pieces.RawStatement.{RawStatement}
use Rattle.scop_core.specs.Printable.{end_line, body_name, arrays_name, has_no_array}
use Rattle.scop_reader.specs.declared.roles.Role.{Role}
use Rattle.scop_reader.specs.declared.roles.Role.TheVariants.{Context, Domain, Scattering, Access}
use Rattle.scop_reader.specs.Lines.{Line, Word, behind_silent, words_of}
use Rattle.scop_reader.specs.Reading.{Reader, ◌>>◌, pure, next_said, literal, closing, word_line, number_in, is_any, is_count, at_least}
use Rattle.scop_reader.specs.Rules as rule
use Rattle.scop_reader.specs.Rules.{Header, Extensions}
use Rattle.scop_reader.proofs.Faults.{MayMeet, MeetsText, OfText, none_meets, pure_meets, bind_meets, check_meets, unless_meets, of_result_meets, if_meets, choice_meets, limited, within_meets, said_then, checked, literal_meets, closing_meets, word_line_meets, number_meets, with_meets, numbers_meets, number_line_meets, count_line_meets}

-- ---- parts

counts_line_meets : OfText rule.counts_line
unfolding rule.counts_line
counts_line_meets = bind_meets (rule.number_line 6 is_count) _ (number_line_meets 6 is_count) (λ found rest. tt)

header_limit_meets : (role : Role) (k : ℕ) (header : Header) → MayMeet (rule.header_limit role k header)
header_limit_meets role k header =
    limited _ (Limit Rows k) _ tt (limited _ (Limit (rule.outputs_are role) k) _ tt (limited _ (Limit Locals k) _ tt (limited _ (Limit Parameters k) None tt none_meets)))

header_line_meets : (role : Role) (k : ℕ) → OfText (rule.header_line role k)
unfolding rule.header_line
header_line_meets role k =
    bind_meets rule.counts_line _ counts_line_meets (λ found.
    checked (rule.is_shaped role found.1) found.0.number _ (λ u.
    bind_meets _ _ (unless_meets (rule.header_limit role k found.1) (header_limit_meets role k found.1)) (λ u rest. tt)))

row_numbers_meets : (line : Line) (words : List Word) → MeetsText (rule.row_numbers line words)
row_numbers_meets line [] = tt
row_numbers_meets line (word ∷ words) = with_meets _ _ (number_meets line rule.is_kind word (number_read word.bytes)) (numbers_meets line is_any words)

row_line_meets : (width : ℕ) → OfText (rule.row_line width)
unfolding rule.row_line
row_line_meets width =
    said_then _ (λ line.
    checked (length (words_of line.bytes) == width) line.number _ (λ u.
    bind_meets _ _ (of_result_meets (rule.row_numbers line (words_of line.bytes)) (row_numbers_meets line (words_of line.bytes))) (λ numbers rest. tt)))

rows_meets : (width n : ℕ) (found : List PartRow) → OfText (rule.rows_from width n found)
unfolding rule.rows_from
rows_meets width zero found = pure_meets found
rows_meets width (suc n) found = bind_meets (rule.row_line width) _ (row_line_meets width) (λ row. rows_meets width n (found ++ row ∷ []))

part_meets : (role : Role) (k : ℕ) → OfText (rule.part role k)
unfolding rule.part
part_meets role k = bind_meets (rule.header_line role k) _ (header_line_meets role k) (λ header. bind_meets (rule.rows_from header.columns header.rows []) _ (rows_meets header.columns header.rows []) (λ rows rest. tt))

-- ---- relations

parts_from_meets : (role : Role) (k n : ℕ) (found : List System) → OfText (rule.parts_from role k n found)
unfolding rule.parts_from
parts_from_meets role k zero found = pure_meets found
parts_from_meets role k (suc n) found = bind_meets (rule.part role k) _ (part_meets role k) (λ next. parts_from_meets (rule.role_behind role next) k n (found ++ next ∷ []))

part_count_meets : (k : ℕ) → OfText (rule.part_count k)
unfolding rule.part_count
part_count_meets k = bind_meets (rule.count_line 1) _ (count_line_meets 1) (λ found. bind_meets (rule.within 64 found.1 Parts k) _ (within_meets 64 found.1 Parts k) (λ u rest. tt))

counted_meets : (k : ℕ) → OfText (rule.counted k)
unfolding rule.counted
counted_meets k rest = if_meets (rule.is_counted (next_said rest)) (rule.part_count k rest) (pure 1 rest) (part_count_meets k rest) tt

parts_meets : (role : Role) (k : ℕ) → OfText (rule.parts role k)
unfolding rule.parts
parts_meets role k = bind_meets (rule.counted k) _ (counted_meets k) (λ n. parts_from_meets role k n [])

one_part_meets : OfText rule.one_part
unfolding rule.one_part
one_part_meets = bind_meets (rule.count_line 1) _ (count_line_meets 1) (λ found. check_meets (found.1 == 1) found.0.number)

context_counted_meets : OfText rule.context_counted
unfolding rule.context_counted
context_counted_meets rest = if_meets (rule.is_counted (next_said rest)) (rule.one_part rest) (pure tt rest) (one_part_meets rest) tt

context_meets : OfText rule.context
unfolding rule.context
context_meets = bind_meets (literal (codes "CONTEXT")) _ (literal_meets (codes "CONTEXT")) (λ u. bind_meets rule.context_counted _ context_counted_meets (λ u. part_meets Context 0))

domain_meets : (parameters k : ℕ) → OfText (rule.domain parameters k)
unfolding rule.domain
domain_meets parameters k = bind_meets (literal (codes "DOMAIN")) _ (literal_meets (codes "DOMAIN")) (λ u. parts_meets (Domain parameters None) k)

scattering_meets : (parameters iterators k : ℕ) → OfText (rule.scattering parameters iterators k)
unfolding rule.scattering
scattering_meets parameters iterators k = bind_meets (literal (codes "SCATTERING")) _ (literal_meets (codes "SCATTERING")) (λ u. parts_meets (Scattering parameters iterators) k)

some_meets : {A : Type 0} (a : Option A) (line : ℕ) → OfText (rule.some_of a (BadScop line))
some_meets None line rest = tt
some_meets (Some a) line rest = tt

kind_line_meets : OfText rule.kind_line
unfolding rule.kind_line
kind_line_meets = said_then _ (λ line. some_meets (rule.access_kind (content line.bytes)) line.number)

access_meets : (parameters iterators k : ℕ) → OfText (rule.access parameters iterators k)
unfolding rule.access
access_meets parameters iterators k =
    bind_meets rule.kind_line _ kind_line_meets (λ kind. bind_meets (rule.parts (Access parameters iterators) k) _ (parts_meets (Access parameters iterators) k) (λ found rest. tt))

accesses_meets : (parameters iterators k n : ℕ) (found : List (AccessKind × List System)) → OfText (rule.accesses_from parameters iterators k n found)
unfolding rule.accesses_from
accesses_meets parameters iterators k zero found = pure_meets found
accesses_meets parameters iterators k (suc n) found = bind_meets (rule.access parameters iterators k) _ (access_meets parameters iterators k) (λ next. accesses_meets parameters iterators k n (found ++ next ∷ []))

-- ---- extensions

kept_from_meets : (name : List ℕ) (number : ℕ) (found ls : List (List ℕ)) → MeetsText (rule.kept_from name number found ls)
unfolding rule.kept_from
kept_from_meets name number found [] = tt
kept_from_meets name number found (l ∷ ls) = if_meets (bytes_eq (trim l) (end_line name)) _ _ tt (kept_from_meets name (number + 1) (found ++ l ∷ []) ls)

kept_meets : (name : List ℕ) → OfText (rule.kept name)
unfolding rule.kept rule.kept_lines
kept_meets name = bind_meets (rule.kept_lines name) _ (λ rest. kept_from_meets name rest.number [] rest.lines) (λ lines rest. tt)

names_meets : (n : ℕ) → OfText (rule.names n)
unfolding rule.names
names_meets zero = λ rest. tt
names_meets (suc n) = word_line_meets (suc n)

no_end_meets : OfText rule.no_end
unfolding rule.no_end
no_end_meets rest = check_meets (not (bytes_eq (content (next_said rest)) (end_line body_name))) (behind_silent rest.number rest.lines).number rest

iterator_names_meets : (n : ℕ) → OfText (rule.iterator_names n)
unfolding rule.iterator_names
iterator_names_meets zero = λ rest. tt
iterator_names_meets (suc n) = bind_meets rule.no_end _ no_end_meets (λ u. word_line_meets (suc n))

body_text_meets : OfText rule.body_text
unfolding rule.body_text
body_text_meets = bind_meets rule.no_end _ no_end_meets (λ u. said_then _ (λ line rest. tt))

body_meets : (iterators : ℕ) → OfText (rule.body iterators)
unfolding rule.body
body_meets iterators =
    bind_meets (rule.count_line 0) _ (count_line_meets 0) (λ found.
    checked (found.1 == iterators) found.0.number _ (λ u.
    bind_meets (rule.iterator_names iterators) _ (iterator_names_meets iterators) (λ made.
    bind_meets rule.body_text _ body_text_meets (λ text.
    bind_meets (closing (end_line body_name)) _ (closing_meets (end_line body_name)) (λ u rest. tt)))))

extension_meets : {A : Type 0} (special : List ℕ) (r : Reader A) (found : Extensions A) → OfText r → OfText (rule.extension special r found)
unfolding rule.extension
extension_meets special r found h =
    said_then _ (λ line.
    checked (rule.is_opening (content line.bytes)) line.number _ (λ u.
    choice_meets (bytes_eq (rule.opened_name (content line.bytes)) special) _ _
    (checked (rule.is_none found.special) line.number _ (λ u. bind_meets r _ h (λ made rest. tt)))
    (bind_meets (rule.kept (rule.opened_name (content line.bytes))) _ (kept_meets (rule.opened_name (content line.bytes))) (λ made rest. tt))))

extensions_meets : (iterators n : ℕ) (found : Extensions Body) → OfText (rule.extensions_from iterators n found)
unfolding rule.extensions_from
extensions_meets iterators zero found = pure_meets found
extensions_meets iterators (suc n) found = bind_meets (rule.extension body_name (rule.body iterators) found) _ (extension_meets body_name (rule.body iterators) found (body_meets iterators)) (λ next. extensions_meets iterators n next)

-- ---- statements

relation_count_meets : (k : ℕ) → OfText (rule.relation_count k)
unfolding rule.relation_count
relation_count_meets k = bind_meets (rule.count_line 2) _ (count_line_meets 2) (λ found. bind_meets (rule.within 258 found.1 Accesses k) _ (within_meets 258 found.1 Accesses k) (λ u rest. tt))

statement_meets : (parameters k : ℕ) → OfText (rule.statement parameters k)
unfolding rule.statement
statement_meets parameters k =
    bind_meets (rule.relation_count k) _ (relation_count_meets k) (λ relations.
    bind_meets (rule.domain parameters k) _ (domain_meets parameters k) (λ domain.
    let n : ℕ = rule.outputs_of_first domain in
    bind_meets (rule.scattering parameters n k) _ (scattering_meets parameters n k) (λ scattering.
    bind_meets (rule.accesses_from parameters n k (relations - 2) []) _ (accesses_meets parameters n k (relations - 2) []) (λ accesses.
    bind_meets (rule.count_line 0) _ (count_line_meets 0) (λ count.
    bind_meets (rule.extensions_from n count.1 rule.no_extensions) _ (extensions_meets n count.1 rule.no_extensions) (λ extensions rest. tt))))))

statements_meets : (parameters k n : ℕ) (found : List RawStatement) → OfText (rule.statements_from parameters k n found)
unfolding rule.statements_from
statements_meets parameters k zero found = pure_meets found
statements_meets parameters k (suc n) found = bind_meets (rule.statement parameters k) _ (statement_meets parameters k) (λ next. statements_meets parameters (k + 1) n (found ++ next ∷ []))

statement_count_meets : OfText rule.statement_count
unfolding rule.statement_count
statement_count_meets = bind_meets (rule.count_line 0) _ (count_line_meets 0) (λ found. bind_meets (rule.within 1024 found.1 Statements 0) _ (within_meets 1024 found.1 Statements 0) (λ u rest. tt))

-- ---- the whole

parameter_names_meets : (n : ℕ) → OfText (rule.parameter_names n)
unfolding rule.parameter_names
parameter_names_meets n =
    bind_meets (literal (codes "<strings>")) _ (literal_meets (codes "<strings>")) (λ u.
    bind_meets (rule.names n) _ (names_meets n) (λ found.
    bind_meets (literal (codes "</strings>")) _ (literal_meets (codes "</strings>")) (λ u. pure_meets found)))

parameters_meets : (n : ℕ) → OfText (rule.parameters n)
unfolding rule.parameters
parameters_meets n =
    said_then _ (λ line.
    choice_meets (bytes_eq (content line.bytes) (codes "1")) _ _
    (bind_meets (rule.parameter_names n) _ (parameter_names_meets n) (λ found rest. tt))
    (checked (bytes_eq (content line.bytes) (codes "0")) line.number _ (λ u rest. tt)))

array_number_meets : (name : Word) (number : Result ℤ Refusal) → MeetsText number → MeetsText {A = ℤ × List ℕ} (elim number [ Ok n ↦ Ok (n, name.bytes) | Err e ↦ Err e ])
array_number_meets name (Ok n) h = tt
array_number_meets name (Err e) h = h

array_meets : (line : Line) (words : List Word) → MeetsText (rule.array_of line words)
array_meets line [] = tt
array_meets line (number ∷ []) = tt
array_meets line (number ∷ (name ∷ [])) = array_number_meets name (number_in line (at_least 1) number (number_read number.bytes)) (number_meets line (at_least 1) number (number_read number.bytes))
array_meets line (number ∷ (name ∷ (next ∷ words))) = tt

array_line_meets : (found : List (ℤ × List ℕ)) → OfText (rule.array_line found)
unfolding rule.array_line
array_line_meets found =
    said_then _ (λ line.
    bind_meets _ _ (of_result_meets (rule.array_of line (words_of line.bytes)) (array_meets line (words_of line.bytes))) (λ array.
    checked (has_no_array array.0 found) line.number _ (λ u rest. tt)))

arrays_from_meets : (n : ℕ) (found : List (ℤ × List ℕ)) → OfText (rule.arrays_from n found)
unfolding rule.arrays_from
arrays_from_meets zero found = pure_meets found
arrays_from_meets (suc n) found = bind_meets (rule.array_line found) _ (array_line_meets found) (λ next. arrays_from_meets n (found ++ next ∷ []))

arrays_meets : OfText rule.arrays
unfolding rule.arrays
arrays_meets =
    bind_meets (rule.count_line 0) _ (count_line_meets 0) (λ count.
    bind_meets (rule.within 4096 count.1 Arrays 0) _ (within_meets 4096 count.1 Arrays 0) (λ u.
    bind_meets (rule.arrays_from count.1 []) _ (arrays_from_meets count.1 []) (λ found.
    bind_meets (closing (end_line arrays_name)) _ (closing_meets (end_line arrays_name)) (λ u. pure_meets found))))

ends_meets : {A : Type 0} (found : A) → OfText (literal rule.close_word >> pure found)
ends_meets found = bind_meets (literal rule.close_word) _ (literal_meets rule.close_word) (λ u. pure_meets found)

globals_from_meets : (n : ℕ) (found : Extensions (List (ℤ × List ℕ))) → OfText (rule.globals_from n found)
unfolding rule.globals_from
globals_from_meets zero found rest = ends_meets found rest
globals_from_meets (suc n) found rest =
    if_meets (bytes_eq (content (next_said rest)) rule.close_word) _ _ (ends_meets found rest) (bind_meets (rule.extension arrays_name rule.arrays found) _ (extension_meets arrays_name rule.arrays found arrays_meets) (λ next. globals_from_meets n next) rest)

globals_meets : OfText rule.globals
unfolding rule.globals
globals_meets rest = globals_from_meets (length rest.lines) rule.no_extensions rest

opening_meets : OfText rule.opening
unfolding rule.opening
opening_meets rest = literal_meets rule.open_word (rule.from_open rest.number rest.lines)

second_meets : (number : ℕ) (ls : List (List ℕ)) → MayMeet (elim ls [ [] ↦ None | line ∷ lines ↦ Some (SecondScop number) ])
second_meets number [] = none_meets
second_meets number (l ∷ ls) = record { meets = tt }

no_more_meets : OfText rule.no_more
unfolding rule.no_more
no_more_meets rest = unless_meets (rule.no_second rest) (second_meets (rule.from_open rest.number rest.lines).number (rule.from_open rest.number rest.lines).lines) rest

one_word_meets : OfText rule.one_word
unfolding rule.one_word
one_word_meets = bind_meets (word_line 1) _ (word_line_meets 1) (λ found rest. tt)

pub scop_meets : OfText rule.scop
unfolding rule.scop
scop_meets =
    bind_meets rule.opening _ opening_meets (λ u.
    bind_meets rule.one_word _ one_word_meets (λ language.
    bind_meets rule.context _ context_meets (λ context.
    bind_meets (rule.parameters context.shape.parameters) _ (parameters_meets context.shape.parameters) (λ names.
    bind_meets rule.statement_count _ statement_count_meets (λ count.
    bind_meets (rule.statements_from context.shape.parameters 1 count []) _ (statements_meets context.shape.parameters 1 count []) (λ statements.
    bind_meets rule.globals _ globals_meets (λ globals.
    bind_meets rule.no_more _ no_more_meets (λ u rest. tt))))))))
