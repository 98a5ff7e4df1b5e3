-- Each line that is printed of pieces is one line, and says what it is to say.
use Rattle.std.proofs.Common.{◌≡◌, refl, Option, Some, None, ℕ, ℤ, pos, unsigned_abs, ◌+◌, ◌^◌, ◌≤◌, ◌<◌, suc, List, [], ◌∷◌, ◌++◌, length, map, reverse, Bool, true, false, not, ◌&&◌, arith}
use Rattle.std.specs.Prelude.{codes, nat_le, nat_lt, int_le, ◌||◌, IfSome, All}
use Rattle.std.specs.List.{flat_map, AllByRecursion}
use Rattle.std.specs.Str.{bytes_eq}
use Rattle.std.proofs.lemmas.Bool.{and_parts, and_from, or_parts, or_from}
use Rattle.std.proofs.lemmas.List.{length-map}
use Rattle.std.proofs.lemmas.List.Elements.{recursion_from_All}
use Rattle.suite_base.specs.Lines.{trim}
use Rattle.suite_base.specs.Words.{begins_word, spaced}
use Rattle.row_core.specs.Rows.{AreCoefficients}
use Rattle.relation_core.specs.declared.part_rows.RowKind.{RowKind}
use Rattle.relation_core.specs.declared.part_rows.RowKind.TheVariants.{Equal, AtLeast}
use Rattle.relation_core.specs.declared.part_rows.PartRow.{PartRow}
use Rattle.relation_core.specs.Systems.{System, columns, row_at}
use Rattle.scop_data.specs.declared.accesses.AccessKind.{AccessKind}
use Rattle.scop_data.specs.declared.accesses.AccessKind.TheVariants as kind
use Rattle.scop_data.specs.LineWords.{kind_number}
use Rattle.scop_core.specs.declared.limits.PartCount.TheVariants.{RowCount}
use Rattle.scop_data.specs.declared.statements.Body.{Body}
use Rattle.scop_data.specs.declared.statements.Extension.{Extension}
use Rattle.scop_data.specs.declared.raw_pieces.RawStatement.{RawStatement}
use Rattle.scop_data.specs.declared.raw_pieces.ScopPieces.{ScopPieces}
use Rattle.scop_core.specs.Layouts.{access_word}
use Rattle.scop_core.specs.Assembly.{some_above, accesses_above, accesses_many, array_count, first_limit, statement_limit, the_part, iterators_of, HasShapes}
use Rattle.scop_core.specs.Printable.{has_no, is_plain, is_name, are_names, is_body_line, is_body, end_line, body_name, arrays_name, is_extension_name, are_kept_lines, is_kept, are_kept, has_no_array, are_arrays, IsPrintableStatement, IsPrintable}
use Rattle.scop_reader.specs.Documents.{Said, Literal, Closing, Raw, End, Document, count, said_row, said_part, said_count, said_relation, said_access, said_names, said_body, said_array, said_arrays, open_line, said_kept, said_item, said_statement, said_parameters, said_context, said_document}
use Rattle.scop_core.specs.Held.{IsFormed, StatementIsHeld, IsHeld}
use Rattle.scop_reader.proofs.GrammarPrinted.{IsGood, IsTrimmed, AreSmall, literal_good, closing_good, end_good, raw_good, words_good, numbers_good, entry_good, open_trimmed, end_trimmed}
use Rattle.scop_reader.proofs.GrammarSpelled.{parts_of, access_text, keep, items_of, statement_text, document_of}
use Rattle.scop_reader.proofs.GrammarArrays.{Array}
use Rattle.scop_reader.proofs.GrammarConditions.{most}
use Rattle.scop_reader.proofs.GrammarProper.{StatementLow, statement_low, WholeLow, no_first}

-- every line of these is good
abbrev pub AllGood : List Said → Type 0
AllGood saids = AllByRecursion IsGood saids

pub all_append : (a b : List Said) → AllGood a → AllGood b → AllGood (a ++ b)
all_append [] b h k = k
all_append (said ∷ a) b h k = (h.0, all_append a b h.1 k)

-- ---- counts

count_good : (n : ℕ) → n < 2 ^ 127 → IsGood (count n)
count_good n h = numbers_good (pos n) [] (h, tt)

-- ---- rows and parts

small_entries : (es : List ℤ) → AreCoefficients es → AreSmall es
small_entries [] h = tt
small_entries (e ∷ es) h = (h.bound 0, small_entries es (record { bound = λ k. h.bound (suc k) }))

kind_small : (k : RowKind) → unsigned_abs (kind_number k) < 2 ^ 127
kind_small Equal = omega arith
kind_small AtLeast = omega arith

rows_good : (rows : List PartRow) → ((k : ℕ) → AreCoefficients (row_at rows k).entries) → AllGood (map said_row rows)
rows_good [] h = tt
rows_good (row ∷ rows) h = (numbers_good (kind_number row.kind) row.entries (kind_small row.kind, small_entries row.entries (h 0)), rows_good rows (λ k. h (suc k)))

part_good : (p : System) → IsFormed p → length p.rows ≤ 256 → AllGood (said_part p)
part_good p f rows =
    let l = f.limits in
    let a : length p.rows < 2 ^ 127 = omega arith in
    let b : columns p.shape + 2 < 2 ^ 127 = omega (arith, l.outputs, l.inputs, l.locals, l.parameters) in
    let c : p.shape.outputs < 2 ^ 127 = omega (arith, l.outputs) in
    let d : p.shape.inputs < 2 ^ 127 = omega (arith, l.inputs) in
    let e : p.shape.locals < 2 ^ 127 = omega (arith, l.locals) in
    let g : p.shape.parameters < 2 ^ 127 = omega (arith, l.parameters) in (
      numbers_good (pos (length p.rows)) (pos (columns p.shape + 2) ∷ (pos p.shape.outputs ∷ (pos p.shape.inputs ∷ (pos p.shape.locals ∷ (pos p.shape.parameters ∷ []))))) (a, (b, (c, (d, (e, (g, tt)))))),
      rows_good p.rows f.ranges,
    )

parts_good : (ps : List System) → AllByRecursion IsFormed ps → some_above RowCount 256 ps ≡ false → AllGood (flat_map said_part ps)
parts_good [] f low = tt
parts_good (p ∷ ps) f low =
    let both = or_parts (nat_lt 256 (length p.rows)) (some_above RowCount 256 ps) low in
    all_append (said_part p) (flat_map said_part ps) (part_good p f.0 (most 256 (length p.rows) both.0)) (parts_good ps f.1 both.1)

-- ---- relations

parts_count_good : (c : Bool) (n : ℕ) → n ≤ 64 → AllGood (said_count c n)
parts_count_good true n h = (count_good n (omega arith), tt)
parts_count_good false n h = tt

-- a relation whose parts can be printed
record RelationGood (ps : List System) : Type 0 where
  formed : AllByRecursion IsFormed ps
  rows : some_above RowCount 256 ps ≡ false
  few : nat_lt 64 (length ps) ≡ false

relation_good : (word : List ℕ) (ps : List System) → IsTrimmed word → RelationGood ps → AllGood (said_relation word (parts_of ps))
relation_good word ps t r =
    (literal_good word t, all_append (said_count (nat_le 2 (length ps)) (length ps)) (flat_map said_part ps) (parts_count_good (nat_le 2 (length ps)) (length ps) (most 64 (length ps) r.few)) (parts_good ps r.formed r.rows))

access_word_trimmed : (k : AccessKind) → IsTrimmed (access_word k)
access_word_trimmed kind.Read = record { begins = refl; ends = refl; plain = refl }
access_word_trimmed kind.Write = record { begins = refl; ends = refl; plain = refl }
access_word_trimmed kind.MayWrite = record { begins = refl; ends = refl; plain = refl }

accesses_good : (accesses : List (AccessKind × List System)) → AllByRecursion (λ a. All IsFormed a.1) accesses → accesses_above RowCount 256 accesses ≡ false → accesses_many accesses ≡ false
    → AllGood (flat_map said_access (map access_text accesses))
accesses_good [] f rows few = tt
accesses_good (a ∷ accesses) f rows few =
    let r = or_parts (some_above RowCount 256 a.1) (accesses_above RowCount 256 accesses) rows in
    let m = or_parts (nat_lt 64 (length a.1)) (accesses_many accesses) few in
    all_append (said_access (access_text a)) (flat_map said_access (map access_text accesses))
    (relation_good (access_word a.0) a.1 (access_word_trimmed a.0) (record { formed = recursion_from_All IsFormed a.1 f.0; rows = r.0; few = m.0 })) (accesses_good accesses f.1 r.1 m.1)

-- ---- extensions

names_good : (names : List (List ℕ)) → are_names names ≡ true → AllGood (said_names names)
names_good [] h = tt
names_good (name ∷ names) h = (words_good name names h, tt)

body_trimmed : (text : List ℕ) → is_body_line text ≡ true → IsTrimmed text
body_trimmed text h =
    let all = and_parts (begins_word text && begins_word (reverse text) && is_plain text) (not (bytes_eq text (end_line body_name))) h in
    let three = and_parts (begins_word text && begins_word (reverse text)) (is_plain text) all.0 in
    let two = and_parts (begins_word text) (begins_word (reverse text)) three.0 in
    record { begins = two.0; ends = two.1; plain = three.1 }

body_good : (b : Body) → is_body b ≡ true → length b.iterators < 2 ^ 127 → AllGood (said_body b)
body_good b h few =
    let both = and_parts (are_names b.iterators && not (bytes_eq (spaced b.iterators) (end_line body_name))) (is_body_line b.text) h in
    let named = and_parts (are_names b.iterators) (not (bytes_eq (spaced b.iterators) (end_line body_name))) both.0 in (
      literal_good (codes "<body>") (record { begins = refl; ends = refl; plain = refl }),
      (
        count_good (length b.iterators) few,
        all_append (said_names b.iterators) (Literal b.text ∷ (Closing (end_line body_name) ∷ [])) (names_good b.iterators named.0)
            (literal_good b.text (body_trimmed b.text both.1), (closing_good (end_line body_name) (record { begins = refl; ends = refl; plain = refl }), tt)),
      ),
    )

raws_good : (name : List ℕ) (lines : List (List ℕ)) → are_kept_lines name lines ≡ true → AllGood (map Raw lines)
raws_good name [] h = tt
raws_good name (line ∷ lines) h =
    let both = and_parts (has_no 10 line && not (bytes_eq (trim line) (end_line name))) (are_kept_lines name lines) h in
    (raw_good line (and_parts (has_no 10 line) (not (bytes_eq (trim line) (end_line name))) both.0).0, raws_good name lines both.1)

kept_good : (special : List ℕ) (x : Extension) → is_kept special x ≡ true → AllGood (said_kept x)
kept_good special x h =
    let all = and_parts (is_extension_name x.name && not (bytes_eq x.name special)) (are_kept_lines x.name x.lines) h in
    let own = and_parts (is_extension_name x.name) (not (bytes_eq x.name special)) all.0 in
    (literal_good (open_line x.name) (open_trimmed x.name own.0), all_append (map Raw x.lines) (End (end_line x.name) ∷ []) (raws_good x.name x.lines all.1) (end_good (end_line x.name) (end_trimmed x.name own.0), tt))

all_kept_good : {A : Type 0} (special : List ℕ) (rule : A → List Said) (xs : List Extension) → are_kept special xs ≡ true → AllGood (flat_map (said_item rule) (map (keep {A = A}) xs))
all_kept_good special rule [] h = tt
all_kept_good {A} special rule (x ∷ xs) h =
    let both = and_parts (is_kept special x) (are_kept special xs) h in
    all_append (said_kept x) (flat_map (said_item rule) (map (keep {A = A}) xs)) (kept_good special x both.0) (all_kept_good special rule xs both.1)

items_good : {A : Type 0} (special : List ℕ) (rule : A → List Said) (o : Option A) (xs : List Extension) → IfSome o (λ a. AllGood (rule a)) → are_kept special xs ≡ true → AllGood (flat_map (said_item rule) (items_of o xs))
items_good special rule None xs h k = all_kept_good special rule xs k
items_good {A} special rule (Some a) xs h k = all_append (rule a) (flat_map (said_item rule) (map (keep {A = A}) xs)) h (all_kept_good special rule xs k)

-- ---- arrays

each_array_good : (arrays : List Array) → are_arrays arrays ≡ true → AllByRecursion (λ a. unsigned_abs a.0 < 2 ^ 127) arrays → AllGood (map said_array arrays)
each_array_good [] h small = tt
each_array_good (a ∷ arrays) h small =
    let all = and_parts (int_le (pos 1) a.0 && is_name a.1 && has_no_array a.0 arrays) (are_arrays arrays) h in
    let own = and_parts (int_le (pos 1) a.0 && is_name a.1) (has_no_array a.0 arrays) all.0 in
    (entry_good a.0 a.1 small.0 (and_parts (int_le (pos 1) a.0) (is_name a.1) own.0).1, each_array_good arrays all.1 small.1)

arrays_good : (o : Option (List Array)) → IfSome o (λ arrays. are_arrays arrays ≡ true) → nat_lt 4096 (array_count o) ≡ false → IfSome o (All (λ a. unsigned_abs a.0 < 2 ^ 127)) → IfSome o (λ arrays. AllGood (said_arrays arrays))
arrays_good None h few small = tt
arrays_good (Some arrays) h few small =
    let low : length arrays ≤ 4096 = most 4096 (length arrays) few in (
      literal_good (codes "<arrays>") (record { begins = refl; ends = refl; plain = refl }),
      (
        count_good (length arrays) (omega arith),
        all_append (map said_array arrays) (Closing (end_line arrays_name) ∷ []) (each_array_good arrays h (recursion_from_All (λ (a : Array). unsigned_abs a.0 < 2 ^ 127) arrays small))
            (closing_good (end_line arrays_name) (record { begins = refl; ends = refl; plain = refl }), tt),
      ),
    )

-- ---- statements

outputs_low : (ps : List System) → AllByRecursion IsFormed ps → (the_part ps).shape.outputs ≤ 65536
outputs_low [] f = omega arith
outputs_low (p ∷ ps) f = f.0.limits.outputs

bodies_good : (n : ℕ) (o : Option Body) → n ≤ 65536 → IfSome o (λ b. is_body b ≡ true) → IfSome o (λ b. length b.iterators ≡ n) → IfSome o (λ b. AllGood (said_body b))
bodies_good n None low h k = tt
bodies_good n (Some b) low h k = body_good b h (omega (arith, k))

items_few : {A : Type 0} (o : Option A) (xs : List Extension) → length xs < 2 ^ 64 → length (items_of o xs) < 2 ^ 127
items_few {A} None xs h = omega (arith, length-map xs (keep {A = A}))
items_few {A} (Some a) xs h = omega (arith, length-map xs (keep {A = A}))

statement_good : (ps : ℕ) (raw : RawStatement) → HasShapes ps raw → IsPrintableStatement ps raw → StatementIsHeld raw → StatementLow raw → AllGood (said_statement (statement_text raw))
statement_good ps raw shapes p held low =
    let rows = or_parts (some_above RowCount 256 raw.domain) (some_above RowCount 256 raw.scattering || accesses_above RowCount 256 raw.accesses) low.rows in
    let more_rows = or_parts (some_above RowCount 256 raw.scattering) (accesses_above RowCount 256 raw.accesses) rows.1 in
    let parts = or_parts (nat_lt 64 (length raw.domain)) (nat_lt 64 (length raw.scattering) || accesses_many raw.accesses) low.parts in
    let more_parts = or_parts (nat_lt 64 (length raw.scattering)) (accesses_many raw.accesses) parts.1 in
    let domain : AllByRecursion IsFormed raw.domain = recursion_from_All IsFormed raw.domain held.domain in
    let few : length raw.accesses ≤ 256 = most 256 (length raw.accesses) low.accesses in
    let accesses : List Said = flat_map said_access (map access_text raw.accesses) in
    let counted : List Said = count (length (items_of raw.body raw.extensions)) ∷ flat_map (said_item said_body) (items_of raw.body raw.extensions) in
    let bodies : IfSome raw.body (λ b. AllGood (said_body b)) = bodies_good (iterators_of raw) raw.body (outputs_low raw.domain domain) p.body shapes.body in (
      count_good (length (map access_text raw.accesses) + 2) (omega (arith, length-map raw.accesses access_text)),
      all_append (said_relation (codes "DOMAIN") (parts_of raw.domain)) (said_relation (codes "SCATTERING") (parts_of raw.scattering) ++ (accesses ++ counted))
          (relation_good (codes "DOMAIN") raw.domain (record { begins = refl; ends = refl; plain = refl }) (record { formed = domain; rows = rows.0; few = parts.0 }))
          (all_append (said_relation (codes "SCATTERING") (parts_of raw.scattering)) (accesses ++ counted)
          (relation_good (codes "SCATTERING") raw.scattering (record { begins = refl; ends = refl; plain = refl }) (record { formed = recursion_from_All IsFormed raw.scattering held.scattering; rows = more_rows.0; few = more_parts.0 }))
          (all_append accesses counted (accesses_good raw.accesses (recursion_from_All (λ (a : AccessKind × List System). All IsFormed a.1) raw.accesses held.accesses) more_rows.1 more_parts.1)
          (count_good (length (items_of raw.body raw.extensions)) (items_few raw.body raw.extensions held.extensions), items_good body_name said_body raw.body raw.extensions bodies p.extensions))),
    )

statements_good : (ps k : ℕ) (raws : List RawStatement) → AllByRecursion (HasShapes ps) raws → AllByRecursion (IsPrintableStatement ps) raws → AllByRecursion StatementIsHeld raws → first_limit k raws ≡ None
    → AllGood (flat_map said_statement (map statement_text raws))
statements_good ps k [] shapes p held low = tt
statements_good ps k (raw ∷ raws) shapes p held low =
    let both = no_first (statement_limit k raw) (first_limit (k + 1) raws) low in
    all_append (said_statement (statement_text raw)) (flat_map said_statement (map statement_text raws)) (statement_good ps raw shapes.0 p.0 held.0 (statement_low k raw both.0)) (statements_good ps (k + 1) raws shapes.1 p.1 held.1 both.1)

-- ---- the whole

parameters_good : (o : Option (List (List ℕ))) → IfSome o (λ names. are_names names ≡ true) → AllGood (said_parameters o)
parameters_good None h = (literal_good (codes "0") (record { begins = refl; ends = refl; plain = refl }), tt)
parameters_good (Some names) h = (
  literal_good (codes "1") (record { begins = refl; ends = refl; plain = refl }),
  (
    literal_good (codes "<strings>") (record { begins = refl; ends = refl; plain = refl }),
    all_append (said_names names) (Literal (codes "</strings>") ∷ []) (names_good names h) (literal_good (codes "</strings>") (record { begins = refl; ends = refl; plain = refl }), tt),
  ),
)

pub document_good : (p : ScopPieces) → IsPrintable p → IsHeld p → WholeLow p → first_limit 1 p.statements ≡ None → AllGood (said_document (document_of p))
document_good p is held low limits =
    let d : Document = document_of p in
    let ps : ℕ = p.context.shape.parameters in
    let few : length p.statements ≤ 1024 = most 1024 (length p.statements) low.statements in
    let close : List Said = Literal (codes "</OpenScop>") ∷ [] in
    let items : List Said = flat_map (said_item said_arrays) d.items ++ close in
    let statements : List Said = flat_map said_statement d.statements ++ items in
    let counted : List Said = count (length d.statements) ∷ statements in
    let low_rows : some_above RowCount 256 (p.context ∷ []) ≡ false = or_from (nat_lt 256 (length p.context.rows)) false low.rows refl in
    let arrays : IfSome p.arrays (λ arrays. AllGood (said_arrays arrays)) = arrays_good p.arrays is.arrays low.arrays held.arrays in (
      literal_good (codes "<OpenScop>") (record { begins = refl; ends = refl; plain = refl }),
      (
        words_good p.language [] (and_from (is_name p.language) true is.language refl),
        all_append (said_context d) (said_parameters d.parameters ++ counted)
            (relation_good (codes "CONTEXT") (p.context ∷ []) (record { begins = refl; ends = refl; plain = refl }) (record { formed = (held.context, tt); rows = low_rows; few = refl }))
            (all_append (said_parameters d.parameters) counted (parameters_good p.parameters is.names) (
              count_good (length d.statements) (omega (arith, length-map p.statements statement_text)),
              all_append (flat_map said_statement d.statements) items
                  (statements_good ps 1 p.statements (recursion_from_All (HasShapes ps) p.statements is.shapes) (recursion_from_All (IsPrintableStatement ps) p.statements is.statements) (recursion_from_All StatementIsHeld p.statements held.statements) limits)
                  (all_append (flat_map (said_item said_arrays) d.items) close (items_good arrays_name said_arrays p.arrays p.extensions arrays is.extensions) (literal_good (codes "</OpenScop>") (record { begins = refl; ends = refl; plain = refl }), tt)),
            )),
      ),
    )
