-- The layout of a SCoP is what is printed for the lines of its document.
use Rattle.std.proofs.Common.{◌≡◌, refl, sym, ap, ◌∙◌, Option, Some, None, ℕ, ℤ, ◌+◌, List, [], ◌∷◌, ◌++◌, length, map, false, inl, inr, suc, append_assoc, add-one}
use Rattle.std.specs.Prelude.{codes, nat_le}
use Rattle.std.specs.List.{flat_map}
use Rattle.std.specs.Fmt.{decimal, signed_decimal, digits}
use Rattle.std.proofs.lemmas.List.{append-nil, length-map}
use Rattle.std.proofs.lemmas.List.Folds.{flat_map-map}
use Rattle.std.proofs.lemmas.Grind.{flat_map-append}
use Rattle.suite_base.proofs.LineCuts.{bool_tells}
use Rattle.relation_core.specs.declared.part_rows.RowKind.{RowKind}
use Rattle.relation_core.specs.declared.part_rows.RowKind.TheVariants.{Equal, AtLeast}
use Rattle.relation_core.specs.declared.part_rows.PartRow.{PartRow}
use Rattle.relation_core.specs.Systems.{System}
use Rattle.relation_core.specs.Layouts.{spaced as after_space, header_line, kind_digit, row_line, part_layout}
use Rattle.scop_data.specs.declared.accesses.AccessKind.{AccessKind}
use Rattle.scop_data.specs.declared.accesses.Access.{Access}
use Rattle.scop_data.specs.declared.statements.Body.{Body}
use Rattle.scop_data.specs.declared.statements.Extension.{Extension}
use Rattle.scop_data.specs.declared.statements.Statement.{Statement}
use Rattle.scop_data.specs.declared.raw_pieces.RawStatement.{RawStatement}
use Rattle.scop_data.specs.declared.raw_pieces.ScopPieces.{ScopPieces}
use Rattle.scop_data.specs.LineWords.{header_numbers, kind_number}
use Rattle.scop_core.specs.Layouts.{line, number_line, names_line, parts_line, relation_layout, access_word, access_layout, body_layout, extension_layout, statement_layout, parameters_layout, array_line, arrays_layout, layout}
use Rattle.scop_core.specs.Printable.{end_line, body_name, arrays_name}
use Rattle.scop_core.specs.ReadBack.{access_piece, statement_pieces as printed_statement, pieces_of as printed_pieces}
use Rattle.scop_core.specs.SolvedRows.{schedule_part, access_part}
use Rattle.scop_core.specs.ScopData.{ScopData}
use Rattle.scop_reader.specs.Documents.{Said, Literal, Words, Numbers, Closing, Raw, End, Item, Special, Kept, Parts, StatementText, Document, count, said_row, said_part, said_count, said_relation, said_access, said_names, said_body, said_array, said_arrays, open_line, said_kept, said_item, said_statement, said_parameters, said_context, said_document, first_special, kept_items, access_pieces, statement_pieces, pieces_of}
use Rattle.scop_reader.proofs.GrammarPrinted.{printed_line, printed_text}

-- ---- the document that is printed of pieces

-- the number of parts is written where it is at least 2
abbrev pub parts_of : List System → Parts
parts_of ps = record { is_counted = nat_le 2 (length ps); parts = ps }

abbrev pub access_text : AccessKind × List System → AccessKind × Parts
access_text access = (access.0, parts_of access.1)

abbrev pub keep : {A : Type 0} → Extension → Item A
keep x = Kept x

-- the special extension first, then those that are kept
abbrev pub items_of : {A : Type 0} → Option A → List Extension → List (Item A)
items_of {A} None extensions = map (keep {A = A}) extensions
items_of {A} (Some a) extensions = Special a ∷ map (keep {A = A}) extensions

abbrev pub statement_text : RawStatement → StatementText
statement_text raw = record {
  domain = parts_of raw.domain;
  scattering = parts_of raw.scattering;
  accesses = map access_text raw.accesses;
  items = items_of raw.body raw.extensions;
}

abbrev pub document_of : ScopPieces → Document
document_of pieces = record {
  language = pieces.language;
  is_counted = false;
  context = pieces.context;
  parameters = pieces.parameters;
  statements = map statement_text pieces.statements;
  items = items_of pieces.arrays pieces.extensions;
}

-- ---- its pieces are these

kept_none : {A : Type 0} (xs : List Extension) → first_special (map (keep {A = A}) xs) ≡ None
kept_none {A} [] = refl
kept_none {A} (x ∷ xs) = kept_none {A = A} xs

kept_all : (A : Type 0) (xs : List Extension) → kept_items (map (keep {A = A}) xs) ≡ xs
kept_all A [] = refl
kept_all A (x ∷ xs) = ap (λ (l : List Extension). x ∷ l) (kept_all A xs)

special_is : {A : Type 0} (o : Option A) (xs : List Extension) → first_special (items_of o xs) ≡ o
special_is None xs = kept_none xs
special_is (Some a) xs = refl

kept_are : {A : Type 0} (o : Option A) (xs : List Extension) → kept_items (items_of o xs) ≡ xs
kept_are {A} None xs = kept_all A xs
kept_are {A} (Some a) xs = kept_all A xs

accesses_are : (accesses : List (AccessKind × List System)) → map access_pieces (map access_text accesses) ≡ accesses
accesses_are [] = refl
accesses_are (a ∷ accesses) = ap (λ (l : List (AccessKind × List System)). a ∷ l) (accesses_are accesses)

statement_is : (raw : RawStatement) → statement_pieces (statement_text raw) ≡ raw
statement_is raw =
    ap (λ (l : List (AccessKind × List System)). record { domain = raw.domain; scattering = raw.scattering; accesses = l; body = first_special (items_of raw.body raw.extensions); extensions = kept_items (items_of raw.body raw.extensions) }) (accesses_are raw.accesses)
    ∙ (ap (λ (o : Option Body). record { domain = raw.domain; scattering = raw.scattering; accesses = raw.accesses; body = o; extensions = kept_items (items_of raw.body raw.extensions) }) (special_is raw.body raw.extensions)
    ∙ ap (λ (l : List Extension). record { domain = raw.domain; scattering = raw.scattering; accesses = raw.accesses; body = raw.body; extensions = l }) (kept_are raw.body raw.extensions))

statements_are : (raws : List RawStatement) → map statement_pieces (map statement_text raws) ≡ raws
statements_are [] = refl
statements_are (raw ∷ raws) = ap (λ (l : List RawStatement). statement_pieces (statement_text raw) ∷ l) (statements_are raws) ∙ ap (λ (r : RawStatement). r ∷ raws) (statement_is raw)

pub pieces_are : (p : ScopPieces) → pieces_of (document_of p) ≡ p
pieces_are p =
    ap (λ (l : List RawStatement). record { language = p.language; context = p.context; parameters = p.parameters; statements = l; arrays = first_special (items_of p.arrays p.extensions); extensions = kept_items (items_of p.arrays p.extensions) }) (statements_are p.statements)
    ∙ (ap (λ (o : Option (List (ℤ × List ℕ))). record { language = p.language; context = p.context; parameters = p.parameters; statements = p.statements; arrays = o; extensions = kept_items (items_of p.arrays p.extensions) }) (special_is p.arrays p.extensions)
    ∙ ap (λ (l : List Extension). record { language = p.language; context = p.context; parameters = p.parameters; statements = p.statements; arrays = p.arrays; extensions = l }) (kept_are p.arrays p.extensions))

-- ---- bytes that are what is printed for some lines

same_both : (a b c d : List ℕ) → a ≡ c → b ≡ d → a ++ b ≡ c ++ d
same_both a b c d e f = ap (λ (t : List ℕ). t ++ b) e ∙ ap (λ (t : List ℕ). c ++ t) f

plus : (a b : List ℕ) (A B : List Said) → a ≡ printed_text A → b ≡ printed_text B → a ++ b ≡ printed_text (A ++ B)
plus a b A B e f = same_both a b (printed_text A) (printed_text B) e f ∙ sym (flat_map-append printed_line A B)

more : (a b : List ℕ) (said : Said) (B : List Said) → a ≡ printed_line said → b ≡ printed_text B → a ++ b ≡ printed_text (said ∷ B)
more a b said B e f = same_both a b (printed_line said) (printed_text B) e f

last : (a : List ℕ) (said : Said) → a ≡ printed_line said → a ≡ printed_text (said ∷ [])
last a said e = e ∙ sym (append-nil (printed_line said))

each : {X : Type 0} (f : X → List ℕ) (g : X → List Said) → ((x : X) → f x ≡ printed_text (g x)) → (xs : List X) → flat_map f xs ≡ printed_text (flat_map g xs)
each f g h [] = refl
each f g h (x ∷ xs) = plus (f x) (flat_map f xs) (g x) (flat_map g xs) (h x) (each f g h xs)

each_one : {X : Type 0} (f : X → List ℕ) (g : X → Said) → ((x : X) → f x ≡ printed_line (g x)) → (xs : List X) → flat_map f xs ≡ printed_text (map g xs)
each_one f g h [] = refl
each_one f g h (x ∷ xs) = more (f x) (flat_map f xs) (g x) (map g xs) (h x) (each_one f g h xs)

-- ---- brackets

three : (a b c : List ℕ) → (a ++ b) ++ c ≡ a ++ (b ++ c)
three a b c = append_assoc a b c

four : (a b c d : List ℕ) → ((a ++ b) ++ c) ++ d ≡ a ++ (b ++ (c ++ d))
four a b c d = append_assoc (a ++ b) c d ∙ append_assoc a b (c ++ d)

five : (a b c d e : List ℕ) → (((a ++ b) ++ c) ++ d) ++ e ≡ a ++ (b ++ (c ++ (d ++ e)))
five a b c d e = append_assoc ((a ++ b) ++ c) d e ∙ four a b c (d ++ e)

six : (a b c d e f : List ℕ) → ((((a ++ b) ++ c) ++ d) ++ e) ++ f ≡ a ++ (b ++ (c ++ (d ++ (e ++ f))))
six a b c d e f = append_assoc (((a ++ b) ++ c) ++ d) e f ∙ five a b c d (e ++ f)

seven : (a b c d e f g : List ℕ) → (((((a ++ b) ++ c) ++ d) ++ e) ++ f) ++ g ≡ a ++ (b ++ (c ++ (d ++ (e ++ (f ++ g)))))
seven a b c d e f g = append_assoc ((((a ++ b) ++ c) ++ d) ++ e) f g ∙ six a b c d e (f ++ g)

eight : (a b c d e f g h : List ℕ) → ((((((a ++ b) ++ c) ++ d) ++ e) ++ f) ++ g) ++ h ≡ a ++ (b ++ (c ++ (d ++ (e ++ (f ++ (g ++ h))))))
eight a b c d e f g h = append_assoc (((((a ++ b) ++ c) ++ d) ++ e) ++ f) g h ∙ seven a b c d e f (g ++ h)

nine : (a b c d e f g h i : List ℕ) → (((((((a ++ b) ++ c) ++ d) ++ e) ++ f) ++ g) ++ h) ++ i ≡ a ++ (b ++ (c ++ (d ++ (e ++ (f ++ (g ++ (h ++ i)))))))
nine a b c d e f g h i = append_assoc ((((((a ++ b) ++ c) ++ d) ++ e) ++ f) ++ g) h i ∙ eight a b c d e f g (h ++ i)

-- ---- numbers, rows and parts

count_spelled : (n : ℕ) → number_line n ≡ printed_line (count n)
count_spelled n = ap (λ (t : List ℕ). t ++ 10 ∷ []) (sym (append-nil (decimal n)))

zero_spelled : decimal 0 ≡ 48 ∷ []
unfolding digits
zero_spelled = refl

one_spelled : decimal 1 ≡ 49 ∷ []
unfolding digits
one_spelled = refl

kind_spelled : (kind : RowKind) → kind_digit kind ∷ [] ≡ signed_decimal (kind_number kind)
kind_spelled Equal = sym zero_spelled
kind_spelled AtLeast = sym one_spelled

row_spelled : (row : PartRow) → row_line row ≡ printed_line (said_row row)
row_spelled row =
    let spaces : flat_map after_space row.entries ≡ flat_map (λ next. 32 ∷ next) (map signed_decimal row.entries) = sym (flat_map-map (λ (next : List ℕ). 32 ∷ next) signed_decimal row.entries) in
    ap (λ (t : List ℕ). kind_digit row.kind ∷ (t ++ 10 ∷ [])) spaces
    ∙ ap (λ (t : List ℕ). (t ++ flat_map (λ next. 32 ∷ next) (map signed_decimal row.entries)) ++ 10 ∷ []) (kind_spelled row.kind)

header_spelled : (p : System) → header_line (length p.rows) p.shape ≡ printed_line (Numbers (header_numbers p))
header_spelled p = refl

part_spelled : (p : System) → part_layout p ≡ printed_text (said_part p)
part_spelled p = more (header_line (length p.rows) p.shape) (flat_map row_line p.rows) (Numbers (header_numbers p)) (map said_row p.rows) (header_spelled p) (each_one row_line said_row row_spelled p.rows)

-- ---- relations

parts_count_spelled : (n : ℕ) → parts_line n ≡ printed_text (said_count (nat_le 2 n) n)
parts_count_spelled n =
    elim (bool_tells (nat_le 2 n)) [
      | inl e ↦ rw e (last (number_line n) (count n) (count_spelled n))
      | inr e ↦ rw e refl
    ]

relation_spelled : (word : List ℕ) (ps : List System) → relation_layout word ps ≡ printed_text (said_relation word (parts_of ps))
relation_spelled word ps =
    append_assoc (line word) (parts_line (length ps)) (flat_map part_layout ps) ∙
    more (line word) (parts_line (length ps) ++ flat_map part_layout ps) (Literal word) (said_count (nat_le 2 (length ps)) (length ps) ++ flat_map said_part ps) refl
    (plus (parts_line (length ps)) (flat_map part_layout ps) (said_count (nat_le 2 (length ps)) (length ps)) (flat_map said_part ps) (parts_count_spelled (length ps)) (each part_layout said_part part_spelled ps))

-- ---- extensions

names_spelled : (names : List (List ℕ)) → names_line names ≡ printed_text (said_names names)
names_spelled [] = refl
names_spelled (name ∷ names) = last (names_line (name ∷ names)) (Words (name ∷ names)) refl

body_spelled : (b : Body) → body_layout b ≡ printed_text (said_body b)
body_spelled b =
    let n : ℕ = length b.iterators in
    let tail : List Said = Literal b.text ∷ (Closing (end_line body_name) ∷ []) in
    five (line (codes "<body>")) (number_line n) (names_line b.iterators) (line b.text) (line (codes "</body>"))
    ∙ more (line (codes "<body>")) (number_line n ++ (names_line b.iterators ++ (line b.text ++ line (codes "</body>")))) (Literal (codes "<body>")) (count n ∷ (said_names b.iterators ++ tail)) refl
    (more (number_line n) (names_line b.iterators ++ (line b.text ++ line (codes "</body>"))) (count n) (said_names b.iterators ++ tail) (count_spelled n)
    (plus (names_line b.iterators) (line b.text ++ line (codes "</body>")) (said_names b.iterators) tail (names_spelled b.iterators)
    (more (line b.text) (line (codes "</body>")) (Literal b.text) (Closing (end_line body_name) ∷ []) refl (last (line (codes "</body>")) (Closing (end_line body_name)) refl))))

kept_brackets : (name lines : List ℕ)
    → (((((60 ∷ name) ++ 62 ∷ 10 ∷ []) ++ lines) ++ 60 ∷ 47 ∷ []) ++ name) ++ 62 ∷ 10 ∷ [] ≡ ((60 ∷ (name ++ 62 ∷ [])) ++ 10 ∷ []) ++ (lines ++ ((60 ∷ 47 ∷ (name ++ 62 ∷ [])) ++ 10 ∷ []))
kept_brackets name lines = simp append_assoc

kept_spelled : (x : Extension) → extension_layout x ≡ printed_text (said_kept x)
kept_spelled x =
    kept_brackets x.name (flat_map line x.lines)
    ∙ more (open_line x.name ++ 10 ∷ []) (flat_map line x.lines ++ (end_line x.name ++ 10 ∷ [])) (Literal (open_line x.name)) (map Raw x.lines ++ End (end_line x.name) ∷ []) refl
    (plus (flat_map line x.lines) (end_line x.name ++ 10 ∷ []) (map Raw x.lines) (End (end_line x.name) ∷ []) (each_one line Raw (λ l. refl) x.lines) (last (end_line x.name ++ 10 ∷ []) (End (end_line x.name)) refl))

array_spelled : (array : ℤ × List ℕ) → array_line array ≡ printed_line (said_array array)
array_spelled array =
    append_assoc (signed_decimal array.0) (32 ∷ []) (array.1 ++ 10 ∷ []) ∙ (ap (λ (t : List ℕ). signed_decimal array.0 ++ (32 ∷ (t ++ 10 ∷ []))) (sym (append-nil array.1))
    ∙ sym (append_assoc (signed_decimal array.0) (32 ∷ (array.1 ++ [])) (10 ∷ [])))

arrays_spelled : (arrays : List (ℤ × List ℕ)) → arrays_layout (Some arrays) ≡ printed_text (said_arrays arrays)
arrays_spelled arrays =
    let n : ℕ = length arrays in
    let tail : List Said = Closing (end_line arrays_name) ∷ [] in
    four (line (codes "<arrays>")) (number_line n) (flat_map array_line arrays) (line (codes "</arrays>"))
    ∙ more (line (codes "<arrays>")) (number_line n ++ (flat_map array_line arrays ++ line (codes "</arrays>"))) (Literal (codes "<arrays>")) (count n ∷ (map said_array arrays ++ tail)) refl
    (more (number_line n) (flat_map array_line arrays ++ line (codes "</arrays>")) (count n) (map said_array arrays ++ tail) (count_spelled n)
    (plus (flat_map array_line arrays) (line (codes "</arrays>")) (map said_array arrays) tail (each_one array_line said_array array_spelled arrays) (last (line (codes "</arrays>")) (Closing (end_line arrays_name)) refl)))

all_kept_spelled : {A : Type 0} (rule : A → List Said) (xs : List Extension) → flat_map extension_layout xs ≡ printed_text (flat_map (said_item rule) (map (keep {A = A}) xs))
all_kept_spelled {A} rule [] = refl
all_kept_spelled {A} rule (x ∷ xs) = plus (extension_layout x) (flat_map extension_layout xs) (said_kept x) (flat_map (said_item rule) (map (keep {A = A}) xs)) (kept_spelled x) (all_kept_spelled rule xs)

array_items_spelled : (o : Option (List (ℤ × List ℕ))) (xs : List Extension) → arrays_layout o ++ flat_map extension_layout xs ≡ printed_text (flat_map (said_item said_arrays) (items_of o xs))
array_items_spelled None xs = all_kept_spelled said_arrays xs
array_items_spelled (Some arrays) xs =
    plus (arrays_layout (Some arrays)) (flat_map extension_layout xs) (said_arrays arrays) (flat_map (said_item said_arrays) (map keep xs)) (arrays_spelled arrays) (all_kept_spelled said_arrays xs)

-- ---- statements

access_spelled : (iterators ps : ℕ) (a : Access) → access_layout iterators ps a ≡ printed_text (said_access (access_text (access_piece iterators ps a)))
access_spelled iterators ps a = relation_spelled (access_word a.kind) (access_part iterators ps a ∷ [])

accesses_spelled : (iterators ps : ℕ) (accesses : List Access) → flat_map (access_layout iterators ps) accesses ≡ printed_text (flat_map said_access (map access_text (map (access_piece iterators ps) accesses)))
accesses_spelled iterators ps [] = refl
accesses_spelled iterators ps (a ∷ accesses) =
    plus (access_layout iterators ps a) (flat_map (access_layout iterators ps) accesses) (said_access (access_text (access_piece iterators ps a)))
    (flat_map said_access (map access_text (map (access_piece iterators ps) accesses))) (access_spelled iterators ps a) (accesses_spelled iterators ps accesses)

access_count : (iterators ps : ℕ) (accesses : List Access) → length accesses + 2 ≡ length (map access_text (map (access_piece iterators ps) accesses)) + 2
access_count iterators ps accesses =
    ap (λ (n : ℕ). n + 2) (sym (length-map (map (access_piece iterators ps) accesses) access_text ∙ length-map accesses (access_piece iterators ps)))

item_count : (b : Body) (xs : List Extension) → length xs + 1 ≡ length (items_of (Some b) xs)
item_count b xs = add-one (length xs) ∙ ap suc (sym (length-map xs (keep {A = Body})))

statement_spelled : (ps : ℕ) (s : Statement) → statement_layout ps s ≡ printed_text (said_statement (statement_text (printed_statement ps s)))
statement_spelled ps s =
    let iterators : ℕ = length s.body.iterators in
    let domain : Parts = parts_of s.domain in
    let scattering : Parts = parts_of (schedule_part iterators ps s.schedule ∷ []) in
    let accesses : List (AccessKind × Parts) = map access_text (map (access_piece iterators ps) s.accesses) in
    let items : List (Item Body) = items_of (Some s.body) s.extensions in
    let a : List ℕ = number_line (length s.accesses + 2) in
    let b : List ℕ = relation_layout (codes "DOMAIN") s.domain in
    let c : List ℕ = relation_layout (codes "SCATTERING") (schedule_part iterators ps s.schedule ∷ []) in
    let d : List ℕ = flat_map (access_layout iterators ps) s.accesses in
    let e : List ℕ = number_line (length s.extensions + 1) in
    let f : List ℕ = body_layout s.body in
    let g : List ℕ = flat_map extension_layout s.extensions in
    let said_items : List Said = flat_map (said_item said_body) items in
    let said_counted : List Said = count (length items) ∷ said_items in
    let first_count : a ≡ printed_line (count (length accesses + 2)) = ap number_line (access_count iterators ps s.accesses) ∙ count_spelled (length accesses + 2) in
    let second_count : e ≡ printed_line (count (length items)) = ap number_line (item_count s.body s.extensions) ∙ count_spelled (length items) in
    let extensions : f ++ g ≡ printed_text said_items = plus f g (said_body s.body) (flat_map (said_item said_body) (map keep s.extensions)) (body_spelled s.body) (all_kept_spelled said_body s.extensions) in
    seven a b c d e f g
    ∙ more a (b ++ (c ++ (d ++ (e ++ (f ++ g))))) (count (length accesses + 2)) (said_relation (codes "DOMAIN") domain ++ (said_relation (codes "SCATTERING") scattering ++ (flat_map said_access accesses ++ said_counted))) first_count
    (plus b (c ++ (d ++ (e ++ (f ++ g)))) (said_relation (codes "DOMAIN") domain) (said_relation (codes "SCATTERING") scattering ++ (flat_map said_access accesses ++ said_counted)) (relation_spelled (codes "DOMAIN") s.domain)
    (plus c (d ++ (e ++ (f ++ g))) (said_relation (codes "SCATTERING") scattering) (flat_map said_access accesses ++ said_counted) (relation_spelled (codes "SCATTERING") (schedule_part iterators ps s.schedule ∷ []))
    (plus d (e ++ (f ++ g)) (flat_map said_access accesses) said_counted (accesses_spelled iterators ps s.accesses)
    (more e (f ++ g) (count (length items)) said_items second_count extensions))))

statements_spelled : (ps : ℕ) (statements : List Statement) → flat_map (statement_layout ps) statements ≡ printed_text (flat_map said_statement (map statement_text (map (printed_statement ps) statements)))
statements_spelled ps [] = refl
statements_spelled ps (s ∷ statements) =
    plus (statement_layout ps s) (flat_map (statement_layout ps) statements) (said_statement (statement_text (printed_statement ps s)))
    (flat_map said_statement (map statement_text (map (printed_statement ps) statements))) (statement_spelled ps s) (statements_spelled ps statements)

-- ---- the whole

strings_spelled : (names : List (List ℕ)) → parameters_layout (Some names) ≡ printed_text (said_parameters (Some names))
strings_spelled names =
    let close : List Said = Literal (codes "</strings>") ∷ [] in
    four (line (codes "1")) (line (codes "<strings>")) (names_line names) (line (codes "</strings>"))
    ∙ more (line (codes "1")) (line (codes "<strings>") ++ (names_line names ++ line (codes "</strings>"))) (Literal (codes "1")) (Literal (codes "<strings>") ∷ (said_names names ++ close)) refl
    (more (line (codes "<strings>")) (names_line names ++ line (codes "</strings>")) (Literal (codes "<strings>")) (said_names names ++ close) refl
    (plus (names_line names) (line (codes "</strings>")) (said_names names) close (names_spelled names) (last (line (codes "</strings>")) (Literal (codes "</strings>")) refl)))

parameters_spelled : (o : Option (List (List ℕ))) → parameters_layout o ≡ printed_text (said_parameters o)
parameters_spelled None = last (line (codes "0")) (Literal (codes "0")) refl
parameters_spelled (Some names) = strings_spelled names

language_spelled : (language : List ℕ) → line language ≡ printed_line (Words (language ∷ []))
language_spelled language = ap (λ (t : List ℕ). t ++ 10 ∷ []) (sym (append-nil language))

statement_count : (ps : ℕ) (statements : List Statement) → length statements ≡ length (map statement_text (map (printed_statement ps) statements))
statement_count ps statements = sym (length-map (map (printed_statement ps) statements) statement_text ∙ length-map statements (printed_statement ps))

pub layout_spelled : (S : ScopData) → layout S ≡ printed_text (said_document (document_of (printed_pieces S)))
layout_spelled S =
    let ps : ℕ = S.context.shape.parameters in
    let d : Document = document_of (printed_pieces S) in
    let a : List ℕ = line (codes "<OpenScop>") in
    let b : List ℕ = line S.language in
    let c : List ℕ = relation_layout (codes "CONTEXT") (S.context ∷ []) in
    let e : List ℕ = parameters_layout S.parameters in
    let f : List ℕ = number_line (length S.statements) in
    let g : List ℕ = flat_map (statement_layout ps) S.statements in
    let h : List ℕ = arrays_layout S.arrays in
    let i : List ℕ = flat_map extension_layout S.extensions in
    let j : List ℕ = line (codes "</OpenScop>") in
    let close : List Said = Literal (codes "</OpenScop>") ∷ [] in
    let said_items : List Said = flat_map (said_item said_arrays) d.items ++ close in
    let said_statements : List Said = flat_map said_statement d.statements ++ said_items in
    let said_counted : List Said = said_parameters d.parameters ++ (count (length d.statements) ∷ said_statements) in
    let counted : f ≡ printed_line (count (length d.statements)) = ap number_line (statement_count ps S.statements) ∙ count_spelled (length d.statements) in
    ap (λ (t : List ℕ). t ++ j) (append_assoc (((((a ++ b) ++ c) ++ e) ++ f) ++ g) h i)
    ∙ (eight a b c e f g (h ++ i) j
    ∙ more a (b ++ (c ++ (e ++ (f ++ (g ++ ((h ++ i) ++ j)))))) (Literal (codes "<OpenScop>")) (Words (S.language ∷ []) ∷ (said_context d ++ said_counted)) refl
    (more b (c ++ (e ++ (f ++ (g ++ ((h ++ i) ++ j))))) (Words (S.language ∷ [])) (said_context d ++ said_counted) (language_spelled S.language)
    (plus c (e ++ (f ++ (g ++ ((h ++ i) ++ j)))) (said_context d) said_counted (relation_spelled (codes "CONTEXT") (S.context ∷ []))
    (plus e (f ++ (g ++ ((h ++ i) ++ j))) (said_parameters d.parameters) (count (length d.statements) ∷ said_statements) (parameters_spelled S.parameters)
    (more f (g ++ ((h ++ i) ++ j)) (count (length d.statements)) said_statements counted
    (plus g ((h ++ i) ++ j) (flat_map said_statement d.statements) said_items (statements_spelled ps S.statements)
    (plus (h ++ i) j (flat_map (said_item said_arrays) d.items) close (array_items_spelled S.arrays S.extensions) (last j (Literal (codes "</OpenScop>")) refl))))))))
