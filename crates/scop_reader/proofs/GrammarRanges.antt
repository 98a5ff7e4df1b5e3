-- The pieces of a text are such as types hold: each number in it is in range, and it has more bytes than extensions.
use Rattle.std.proofs.Common.{◌≡◌, refl, sym, subst, Some, None, ℕ, ℤ, unsigned_abs, ◌+◌, ◌^◌, ◌≤◌, ◌<◌, suc, List, [], ◌∷◌, ◌++◌, length, map, true, ◌&&◌, ◌==◌, inl, inr, arith}
use Rattle.std.specs.Prelude.{IfSome, All, codes}
use Rattle.std.specs.List.{flat_map, AllByRecursion}
use Rattle.std.specs.Str.{bytes_eq}
use Rattle.std.proofs.lemmas.Bool.{and_parts}
use Rattle.std.proofs.lemmas.Bool.Decides.{nat_tests}
use Rattle.std.proofs.lemmas.List.{length-append}
use Rattle.std.proofs.lemmas.List.Elements.{All-from_recursion}
use Rattle.suite_base.specs.declared.numbers.NumberRead.TheVariants.{Value, TooLarge, NotNumber}
use Rattle.suite_base.specs.Lines.{lines, put}
use Rattle.suite_base.specs.Words.{content}
use Rattle.suite_base.specs.Numbers.{number_read, number_value, is_number_word, is_coefficient}
use Rattle.suite_base.proofs.LineCuts.{bool_tells}
use Rattle.relation_core.specs.declared.part_rows.PartRow.{PartRow}
use Rattle.relation_core.specs.declared.shapes.Shape.{Shape}
use Rattle.relation_core.specs.Systems.{System, width}
use Rattle.scop_data.specs.declared.accesses.AccessKind.{AccessKind}
use Rattle.scop_data.specs.declared.statements.Body.{Body}
use Rattle.scop_data.specs.declared.raw_pieces.ScopPieces.{ScopPieces}
use Rattle.scop_data.specs.LineWords.{is_value, are_numbers}
use Rattle.scop_data.proofs.LineWords.{value_is}
use Rattle.scop_core.specs.Layouts.{access_word}
use Rattle.scop_reader.specs.declared.roles.Role.{Role}
use Rattle.scop_reader.specs.declared.roles.Role.TheVariants.{Context, Domain, Scattering, Access}
use Rattle.scop_reader.specs.Lines.{Rest, words_of, word_bytes}
use Rattle.scop_reader.specs.Rules.{suits, role_behind, most_outputs, outputs_of_first, from_open, open_word}
use Rattle.scop_reader.specs.Documents.{Said, Literal, Words, Numbers, Entry, Closing, Raw, End, is_entry, behind, behind_all, Item, Special, Kept, Parts, StatementText, Document, count, said_row, said_part, said_count, said_relation, said_access, said_item, said_body, said_array, said_arrays, said_statement, said_parameters, said_context, said_document, first_special, kept_items, access_pieces, statement_pieces, pieces_of}
use Rattle.scop_core.specs.Held.{IsFormed, StatementIsHeld, IsHeld}
use Rattle.scop_reader.specs.Texts.{are_wide, IsTextOf, IsTextOfPieces}
use Rattle.scop_reader.proofs.GrammarLines.{behind_line, split_one, behind_fewer}
use Rattle.scop_reader.proofs.GrammarPrinted.{AreSmall}
use Rattle.scop_reader.proofs.GrammarParts.{Fits}
use Rattle.scop_reader.proofs.GrammarRelations.{AllFit, IsRelation, AreAccesses}
use Rattle.scop_reader.proofs.GrammarStatements.{StatementFits, StatementsFit}
use Rattle.scop_reader.proofs.GrammarWhole.{DocumentFits}
use Rattle.scop_reader.proofs.GrammarConditions.{most, is_equal, low_of}
use Rattle.scop_reader.proofs.GrammarProper.{document_fits}
use Rattle.scop_reader.proofs.GrammarFormed.{RowHeld, formed}

-- ---- the numbers of a line that was read

read_small : (word : List ℕ) (z : ℤ) → number_read word ≡ Value z → unsigned_abs z < 2 ^ 127
read_small word z e =
    elim (bool_tells (is_number_word word)) [
      | inl n ↦ elim (bool_tells (is_coefficient (number_value word))) [
        | inl c ↦
            let f : Value (number_value word) ≡ Value z = rw (n, c) at e in
            let g : number_value word ≡ z = cc in
            rw (← g) (grind (arith, nat_tests))
        | inr c ↦ absurd (let f : TooLarge ≡ Value z = rw (n, c) at e in cc)
      ]
      | inr n ↦ absurd (let f : NotNumber ≡ Value z = rw n at e in cc)
    ]

numbers_small : (ws : List (List ℕ)) (ns : List ℤ) → are_numbers ws ns ≡ true → AreSmall ns
numbers_small [] [] e = tt
numbers_small [] (n ∷ ns) e = absurd (cc)
numbers_small (w ∷ ws) [] e = absurd (cc)
numbers_small (w ∷ ws) (n ∷ ns) e =
    let both = and_parts (is_value n (number_read w)) (are_numbers ws ns) e in
    (read_small w n (value_is n (number_read w) both.0), numbers_small ws ns both.1)

entry_small : (ws : List (List ℕ)) (n : ℤ) (word : List ℕ) → is_entry ws n word ≡ true → unsigned_abs n < 2 ^ 127
entry_small [] n word e = absurd (cc)
entry_small (a ∷ []) n word e = absurd (cc)
entry_small (a ∷ (b ∷ [])) n word e = read_small a n (value_is n (number_read a) (and_parts (is_value n (number_read a)) (bytes_eq b word) e).0)
entry_small (a ∷ (b ∷ (c ∷ ws))) n word e = absurd (cc)

-- the numbers that a line says are coefficients
abbrev SmallSaid : Said → Type 0
SmallSaid (Literal text) = Unit {0}
SmallSaid (Words words) = Unit {0}
SmallSaid (Numbers numbers) = AreSmall numbers
SmallSaid (Entry number word) = unsigned_abs number < 2 ^ 127
SmallSaid (Closing text) = Unit {0}
SmallSaid (Raw text) = Unit {0}
SmallSaid (End text) = Unit {0}

said_small : (said : Said) (rest now : Rest) → behind said rest ≡ Some now → SmallSaid said
said_small (Literal text) rest now e = tt
said_small (Words words) rest now e = tt
said_small (Numbers numbers) rest now e =
    let l = behind_line (Numbers numbers) rest now refl e in
    numbers_small (word_bytes (words_of l.line.bytes)) numbers l.said_is
said_small (Entry number word) rest now e =
    let l = behind_line (Entry number word) rest now refl e in
    entry_small (word_bytes (words_of l.line.bytes)) number word l.said_is
said_small (Closing text) rest now e = tt
said_small (Raw text) rest now e = tt
said_small (End text) rest now e = tt

all_small : (saids : List Said) (rest now : Rest) → behind_all saids rest ≡ Some now → AllByRecursion SmallSaid saids
all_small [] rest now e = tt
all_small (said ∷ saids) rest now e =
    let one = split_one said saids rest now e in
    (said_small said rest one.mid one.first, all_small saids one.mid now one.second)

parts_of_all : (a b : List Said) → AllByRecursion SmallSaid (a ++ b) → AllByRecursion SmallSaid a × AllByRecursion SmallSaid b
parts_of_all [] b h = (tt, h)
parts_of_all (said ∷ a) b h = let more = parts_of_all a b h.1 in ((h.0, more.0), more.1)

-- ---- parts

-- the inputs that a part of this role has are few
abbrev FewInputs : Role → Type 0
FewInputs Context = Unit {0}
FewInputs (Domain parameters iterators) = Unit {0}
FewInputs (Scattering parameters iterators) = iterators ≤ 65536
FewInputs (Access parameters iterators) = iterators ≤ 65536

few_behind : (role : Role) (p : System) → FewInputs role → FewInputs (role_behind role p)
few_behind Context p h = h
few_behind (Domain parameters None) p h = tt
few_behind (Domain parameters (Some n)) p h = tt
few_behind (Scattering parameters iterators) p h = h
few_behind (Access parameters iterators) p h = h

most_few : (role : Role) → most_outputs role ≤ 65536
most_few Context = omega arith
most_few (Domain parameters iterators) = omega arith
most_few (Scattering parameters iterators) = omega arith
most_few (Access parameters iterators) = omega arith

few_inputs : (role : Role) (shape : Shape) → FewInputs role → suits role shape ≡ true → shape.inputs ≤ 65536
few_inputs Context shape h e =
    let two = and_parts ((shape.outputs == 0) && (shape.inputs == 0)) (shape.locals == 0) e in
    omega (arith, is_equal shape.inputs 0 (and_parts (shape.outputs == 0) (shape.inputs == 0) two.0).1)
few_inputs (Domain parameters None) shape h e =
    let two = and_parts ((shape.parameters == parameters) && (shape.inputs == 0)) true e in
    omega (arith, is_equal shape.inputs 0 (and_parts (shape.parameters == parameters) (shape.inputs == 0) two.0).1)
few_inputs (Domain parameters (Some n)) shape h e =
    let two = and_parts ((shape.parameters == parameters) && (shape.inputs == 0)) (shape.outputs == n) e in
    omega (arith, is_equal shape.inputs 0 (and_parts (shape.parameters == parameters) (shape.inputs == 0) two.0).1)
few_inputs (Scattering parameters iterators) shape h e =
    omega (arith, h, is_equal shape.inputs iterators (and_parts (shape.parameters == parameters) (shape.inputs == iterators) e).1)
few_inputs (Access parameters iterators) shape h e =
    omega (arith, h, is_equal shape.inputs iterators (and_parts (shape.parameters == parameters) (shape.inputs == iterators) e).1)

rows_held : (w : ℕ) (rows : List PartRow) → are_wide w rows ≡ true → AllByRecursion SmallSaid (map said_row rows) → AllByRecursion (RowHeld w) rows
rows_held w [] wide small = tt
rows_held w (row ∷ rows) wide small =
    let both = and_parts (length row.entries == w) (are_wide w rows) wide in
    ((is_equal (length row.entries) w both.0, small.0.1), rows_held w rows both.1 small.1)

part_formed : (role : Role) (k : ℕ) (p : System) → Fits role k p → FewInputs role → AllByRecursion SmallSaid (said_part p) → IsFormed p
part_formed role k p fits few small =
    let low = low_of role k p fits.limit in
    let outputs : p.shape.outputs ≤ most_outputs role = most (most_outputs role) p.shape.outputs low.outputs in
    let locals : p.shape.locals ≤ 24 = most 24 p.shape.locals low.locals in
    let parameters : p.shape.parameters ≤ 16 = most 16 p.shape.parameters low.parameters in
    formed p.shape p.rows (record { outputs = omega (arith, most_few role); inputs = few_inputs role p.shape few fits.suited; locals = omega arith; parameters = omega arith })
    (rows_held (width p.shape) p.rows fits.wide small.1)

parts_formed : (role : Role) (k : ℕ) (ps : List System) → AllFit role k ps → FewInputs role → AllByRecursion SmallSaid (flat_map said_part ps) → AllByRecursion IsFormed ps
parts_formed role k [] fit few small = tt
parts_formed role k (p ∷ ps) fit few small =
    let both = parts_of_all (said_part p) (flat_map said_part ps) small in
    (part_formed role k p fit.0 few both.0, parts_formed (role_behind role p) k ps fit.1 (few_behind role p few) both.1)

-- ---- relations

relation_formed : (word : List ℕ) (role : Role) (k : ℕ) (r : Parts) → IsRelation role k r.is_counted r.parts → FewInputs role → AllByRecursion SmallSaid (said_relation word r) → AllByRecursion IsFormed r.parts
relation_formed word role k r is few small =
    let both = parts_of_all (said_count r.is_counted (length r.parts)) (flat_map said_part r.parts) small.1 in
    parts_formed role k r.parts is.fit few both.1

accesses_formed : (ps n k : ℕ) (accesses : List (AccessKind × Parts)) → AreAccesses ps n k accesses → n ≤ 65536 → AllByRecursion SmallSaid (flat_map said_access accesses)
    → AllByRecursion (λ access. All IsFormed access.1) (map access_pieces accesses)
accesses_formed ps n k [] are few small = tt
accesses_formed ps n k (a ∷ accesses) are few small =
    let both = parts_of_all (said_access a) (flat_map said_access accesses) small in
    (All-from_recursion IsFormed a.1.parts (relation_formed (access_word a.0) (Access ps n) k a.1 are.0 few both.0), accesses_formed ps n k accesses are.1 few both.1)

-- ---- extensions

fewer_kept : {A : Type 0} (items : List (Item A)) → length (kept_items items) ≤ length items
fewer_kept [] = omega arith
fewer_kept (Special a ∷ items) = omega (arith, fewer_kept items)
fewer_kept (Kept x ∷ items) = omega (arith, fewer_kept items)

-- each extension is said by a line at least
items_said : (items : List (Item Body)) → length items ≤ length (flat_map (said_item said_body) items)
items_said [] = omega arith
items_said (Special b ∷ items) = omega (arith, items_said items, length-append (said_body b) (flat_map (said_item said_body) items))
items_said (Kept x ∷ items) = omega (arith, items_said items, length-append (said_item said_body (Kept x)) (flat_map (said_item said_body) items))

-- ---- statements

outputs_few : (ps k : ℕ) (parts : List System) → AllFit (Domain ps None) k parts → outputs_of_first parts ≤ 65536
outputs_few ps k [] fit = omega arith
outputs_few ps k (p ∷ parts) fit = let low : p.shape.outputs ≤ 12 = most 12 p.shape.outputs (low_of (Domain ps None) k p fit.0.limit).outputs in omega arith

statement_held : (ps k : ℕ) (s : StatementText) → StatementFits ps k s → AllByRecursion SmallSaid (said_statement s) → length (said_statement s) < 2 ^ 64 → StatementIsHeld (statement_pieces s)
statement_held ps k s fits small short =
    let n : ℕ = outputs_of_first s.domain.parts in
    let few : n ≤ 65536 = outputs_few ps k s.domain.parts fits.domain.fit in
    let items : List Said = flat_map (said_item said_body) s.items in
    let counted : List Said = count (length s.items) ∷ items in
    let accesses : List Said = flat_map said_access s.accesses in
    let domain : List Said = said_relation (codes "DOMAIN") s.domain in
    let scattering : List Said = said_relation (codes "SCATTERING") s.scattering in
    let one = parts_of_all domain (scattering ++ (accesses ++ counted)) small.1 in
    let two = parts_of_all scattering (accesses ++ counted) one.1 in
    let three = parts_of_all accesses counted two.1 in
    record {
      domain = All-from_recursion IsFormed s.domain.parts (relation_formed (codes "DOMAIN") (Domain ps None) k s.domain fits.domain tt one.0);
      scattering = All-from_recursion IsFormed s.scattering.parts (relation_formed (codes "SCATTERING") (Scattering ps n) k s.scattering fits.scattering few two.0);
      accesses = All-from_recursion (λ (a : AccessKind × List System). All IsFormed a.1) (map access_pieces s.accesses) (accesses_formed ps n k s.accesses fits.accesses few three.0);
      extensions = omega (arith, short, fewer_kept s.items, items_said s.items, length-append domain (scattering ++ (accesses ++ counted)), length-append scattering (accesses ++ counted), length-append accesses counted);
    }

statements_held : (ps k : ℕ) (statements : List StatementText) → StatementsFit ps k statements → AllByRecursion SmallSaid (flat_map said_statement statements) → length (flat_map said_statement statements) < 2 ^ 64
    → AllByRecursion StatementIsHeld (map statement_pieces statements)
statements_held ps k [] fit small short = tt
statements_held ps k (s ∷ statements) fit small short =
    let both = parts_of_all (said_statement s) (flat_map said_statement statements) small in
    let long = length-append (said_statement s) (flat_map said_statement statements) in
    (statement_held ps k s fit.0 both.0 (omega (arith, short, long)), statements_held ps (k + 1) statements fit.1 both.1 (omega (arith, short, long)))

-- ---- arrays

each_small : (arrays : List (ℤ × List ℕ)) → AllByRecursion SmallSaid (map said_array arrays) → AllByRecursion (λ a. unsigned_abs a.0 < 2 ^ 127) arrays
each_small [] small = tt
each_small (a ∷ arrays) small = (small.0, each_small arrays small.1)

arrays_small : (items : List (Item (List (ℤ × List ℕ)))) → AllByRecursion SmallSaid (flat_map (said_item said_arrays) items) → IfSome (first_special items) (All (λ a. unsigned_abs a.0 < 2 ^ 127))
arrays_small [] small = tt
arrays_small (Special arrays ∷ items) small =
    let both = parts_of_all (said_arrays arrays) (flat_map (said_item said_arrays) items) small in
    let one = parts_of_all (map said_array arrays) (Closing (codes "</arrays>") ∷ []) both.0.1.1 in
    All-from_recursion (λ (a : ℤ × List ℕ). unsigned_abs a.0 < 2 ^ 127) arrays (each_small arrays one.0)
arrays_small (Kept x ∷ items) small = arrays_small items (parts_of_all (said_item said_arrays (Kept x)) (flat_map (said_item said_arrays) items) small).1

-- ---- a text has no more lines than bytes, and each thing that is said takes one

put_length : (b : ℕ) (ls : List (List ℕ)) → length (put b ls) ≤ suc (length ls)
put_length b [] = omega arith
put_length b (l ∷ ls) = omega arith

lines_few : (bytes : List ℕ) → length (lines bytes) ≤ length bytes
lines_few [] = omega arith
lines_few (b ∷ bytes) =
    elim (bool_tells (b == 10)) [
      | inl e ↦ rw e (omega (arith, lines_few bytes))
      | inr e ↦ rw e (omega (arith, lines_few bytes, put_length b (lines bytes)))
    ]

from_open_few : (n : ℕ) (ls : List (List ℕ)) → length (from_open n ls).lines ≤ length ls
from_open_few n [] = omega arith
from_open_few n (l ∷ ls) =
    elim (bool_tells (bytes_eq (content l) open_word)) [
      | inl e ↦ rw e (omega arith)
      | inr e ↦ rw e (omega (arith, from_open_few (n + 1) ls))
    ]

saids_few : (saids : List Said) (rest now : Rest) → behind_all saids rest ≡ Some now → length saids ≤ length rest.lines
saids_few [] rest now e = omega arith
saids_few (said ∷ saids) rest now e =
    let one = split_one said saids rest now e in
    omega (arith, behind_fewer said rest one.mid one.first, saids_few saids one.mid now one.second)

-- ---- the whole

document_held : (bytes : List ℕ) (d : Document) → length bytes < 2 ^ 64 → DocumentFits d → IsTextOf bytes d → IsHeld (pieces_of d)
document_held bytes d short fits text =
    let start : Rest = from_open 1 (lines bytes) in
    let ps : ℕ = d.context.shape.parameters in
    let close : List Said = Literal (codes "</OpenScop>") ∷ [] in
    let items : List Said = flat_map (said_item said_arrays) d.items in
    let statements : List Said = flat_map said_statement d.statements in
    let counted : List Said = count (length d.statements) ∷ (statements ++ (items ++ close)) in
    let small = all_small (said_document d) start text.rest text.said in
    let one = parts_of_all (said_context d) (said_parameters d.parameters ++ counted) small.1.1 in
    let two = parts_of_all (said_parameters d.parameters) counted one.1 in
    let three = parts_of_all statements (items ++ close) two.1.1 in
    let four = parts_of_all items close three.1 in
    let own = parts_of_all (said_count d.is_counted 1) (said_part d.context ++ []) one.0.1 in
    let context = parts_of_all (said_part d.context) [] own.1 in
    let long : length statements < 2 ^ 64 = omega (
      arith,
      short,
      lines_few bytes,
      from_open_few 1 (lines bytes),
      saids_few (said_document d) start text.rest text.said,
      length-append (said_context d) (said_parameters d.parameters ++ counted),
      length-append (said_parameters d.parameters) counted,
      length-append statements (items ++ close),
    ) in
    record {
      context = part_formed Context 0 d.context fits.context tt context.0;
      statements = All-from_recursion StatementIsHeld (map statement_pieces d.statements) (statements_held ps 1 d.statements fits.statements three.0 long);
      arrays = arrays_small d.items four.0;
    }

-- the pieces of a text are such as types hold
pub text_held : (bytes : List ℕ) (pieces : ScopPieces) → length bytes < 2 ^ 64 → IsTextOfPieces bytes pieces → IsHeld pieces
text_held bytes pieces short t = subst IsHeld (sym t.pieces_are) (document_held bytes t.document short (document_fits t.document t.proper) t.text)
