-- The parts of a relation, read and said.
use Rattle.std.proofs.Common.{◌≡◌, refl, sym, ap, subst, ◌∙◌, Some, None, ℕ, ℤ, pos, unsigned_abs, ◌+◌, ◌≤◌, zero, suc, List, [], ◌∷◌, ◌++◌, length, map, Ok, Err, true, false, ◌==◌, inl, inr, arith, append_assoc}
use Rattle.std.specs.Prelude.{nat_lt}
use Rattle.std.specs.Ordering.{int_eq}
use Rattle.std.proofs.lemmas.Int.{ints}
use Rattle.std.proofs.lemmas.Bool.{and_parts, and_from}
use Rattle.std.proofs.lemmas.List.{append-nil}
use Rattle.std.proofs.lemmas.Bool.Decides.{Decides-int_eq, Decides-eqb}
use Rattle.suite_base.specs.declared.refusals.Refusal.TheVariants.{BadScop, Limit}
use Rattle.suite_base.specs.declared.refusals.Which.{Which}
use Rattle.suite_base.specs.Numbers.{number_read}
use Rattle.suite_base.proofs.LineCuts.{bool_tells}
use Rattle.relation_core.specs.declared.part_rows.RowKind.{RowKind}
use Rattle.relation_core.specs.declared.part_rows.RowKind.TheVariants.{Equal, AtLeast}
use Rattle.relation_core.specs.declared.part_rows.PartRow.{PartRow}
use Rattle.relation_core.specs.declared.shapes.Shape.{Shape}
use Rattle.relation_core.specs.Systems.{System, columns, width}
use Rattle.scop_data.specs.LineWords.{header_numbers, kind_number, are_numbers, is_value}
use Rattle.scop_data.proofs.LineWords.{value_is, is_its_value}
use Rattle.scop_reader.specs.declared.roles.Role.{Role}
use Rattle.scop_reader.specs.Lines.{Rest, Line, Word, words_of, word_bytes}
use Rattle.scop_reader.specs.Reading.{Reader, and_then, said_line, number_in, numbers_in, is_count, is_any}
use Rattle.scop_reader.specs.Rules
use Rattle.scop_reader.specs.Rules.{Header, counts_line, header_of, header_limit, header_line, is_shaped, suits, number_at, is_kind, kind_of, row_numbers, row_of, row_line, rows_from, role_behind, parts_from, is_counted, part_count, counted, within}
use Rattle.scop_reader.specs.Documents.{Numbers, said_row, said_part, behind, behind_all}
use Rattle.scop_reader.specs.Texts.{are_wide}
use Rattle.scop_reader.proofs.GrammarLines.{then_ok, check_then, unless_then, result_then, read_ok, same_value, same_left, behind_line, line_behind, split_one, join_one}
use Rattle.scop_reader.proofs.GrammarWords.{number_line_reads, number_line_said, numbers_read, numbers_said, length-are_numbers, length-word_bytes, all_pass, number_in_ok, with_number_ok, at_least_passes}

-- ---- limits of counts

pub within_then : {B : Type 0} (most n : ℕ) (which : Which) (k : ℕ) (rest : Rest) (f : Unit {0} → Reader B) (b : B) (now : Rest) → and_then (within most n which k rest) f ≡ Ok (b, now)
    → (nat_lt most n ≡ false) × (f tt rest ≡ Ok (b, now))
within_then most n which k rest f b now e =
    elim (bool_tells (nat_lt most n)) [
      | inl above ↦ absurd (let no : and_then (within most n which k rest) f ≡ Err (Limit which k) = rw above refl in let never : Err (Limit which k) ≡ read_ok b now = sym no ∙ e in cc)
      | inr below ↦ (below, rw below at e)
    ]

-- ---- headers

abbrev pub header_is : System → Header
header_is p = record { rows = length p.rows; columns = columns p.shape + 2; shape = p.shape }

abbrev naturals : List ℕ → List ℤ
naturals ns = map pos ns

abbrev pub numbers_of : Header → List ℤ
numbers_of h = naturals (h.rows ∷ (h.columns ∷ (h.shape.outputs ∷ (h.shape.inputs ∷ (h.shape.locals ∷ (h.shape.parameters ∷ []))))))

back : (ns : List ℤ) → all_pass is_count ns ≡ true → naturals (Rules.naturals ns) ≡ ns
back [] e = refl
back (n ∷ ns) e =
    let both = and_parts (is_count n) (all_pass is_count ns) e in
    let first = both.0 in
    let same : pos (unsigned_abs n) ≡ n = omega (arith, ints) in
    let more : naturals (Rules.naturals ns) ≡ ns = back ns both.1 in
    cc

length-naturals : (ns : List ℤ) → length (Rules.naturals ns) ≡ length ns
length-naturals [] = refl
length-naturals (n ∷ ns) = ap suc (length-naturals ns)

six : (ms : List ℕ) → length ms ≡ 6 → numbers_of (header_of ms) ≡ naturals ms
six [] e = absurd (omega (arith, e))
six (a ∷ []) e = absurd (omega (arith, e))
six (a ∷ b ∷ []) e = absurd (omega (arith, e))
six (a ∷ b ∷ c ∷ []) e = absurd (omega (arith, e))
six (a ∷ b ∷ c ∷ d ∷ []) e = absurd (omega (arith, e))
six (a ∷ b ∷ c ∷ d ∷ f ∷ []) e = absurd (omega (arith, e))
six (a ∷ b ∷ c ∷ d ∷ f ∷ g ∷ []) e = refl
six (a ∷ b ∷ c ∷ d ∷ f ∷ g ∷ h ∷ ms) e = absurd (omega (arith, e))

all_counts : (ms : List ℕ) → all_pass is_count (naturals ms) ≡ true
all_counts [] = refl
all_counts (m ∷ ms) = and_from (is_count (pos m)) (all_pass is_count (naturals ms)) (at_least_passes 0 m (omega arith)) (all_counts ms)

counts_reads : (h : Header) (rest now : Rest) → behind (Numbers (numbers_of h)) rest ≡ Some now → (line : Line) × (counts_line rest ≡ Ok ((line, h), now))
unfolding counts_line
counts_reads h rest now e =
    let ns : List ℕ = h.rows ∷ (h.columns ∷ (h.shape.outputs ∷ (h.shape.inputs ∷ (h.shape.locals ∷ (h.shape.parameters ∷ []))))) in
    let read = number_line_reads 6 is_count (numbers_of h) rest now (record { size = refl; pass = all_counts ns; said = e }) in
    (read.0, rw (read.1) refl)

pub header_reads : (role : Role) (k : ℕ) (h : Header) (rest now : Rest) → is_shaped role h ≡ true → header_limit role k h ≡ None → behind (Numbers (numbers_of h)) rest ≡ Some now → header_line role k rest ≡ Ok (h, now)
unfolding header_line
header_reads role k h rest now shaped limit e =
    let read = counts_reads h rest now e in
    rw (read.1, shaped, limit) refl

pub record HeaderLine (role : Role) (k : ℕ) (h : Header) (rest now : Rest) : Type 0 where
  pub shaped : is_shaped role h ≡ true
  pub limit : header_limit role k h ≡ None
  pub said : behind (Numbers (numbers_of h)) rest ≡ Some now

counts_said : (p : Line × Header) (rest now : Rest) → counts_line rest ≡ Ok (p, now) → behind (Numbers (numbers_of p.1)) rest ≡ Some now
unfolding counts_line
counts_said p rest now e =
    let t = then_ok (Rules.number_line 6 is_count rest) _ p now e in
    let made : Header = header_of (Rules.naturals t.value.1) in
    let line = number_line_said 6 is_count t.value rest t.mid t.first in
    let pair : Line × Header = (t.value.0, made) in
    let same : pair ≡ p = same_value pair p t.mid now t.second in
    let left : t.mid ≡ now = same_left pair p t.mid now t.second in
    let numbers : numbers_of made ≡ t.value.1 = six (Rules.naturals t.value.1) (length-naturals t.value.1 ∙ line.size) ∙ back t.value.1 line.pass in
    let said : behind (Numbers (numbers_of made)) rest ≡ Some t.mid = rw numbers line.said in
    subst (λ (x : Line × Header). behind (Numbers (numbers_of x.1)) rest ≡ Some now) same (said ∙ ap (λ (r : Rest). Some r) left)

pub header_said : (role : Role) (k : ℕ) (h : Header) (rest now : Rest) → header_line role k rest ≡ Ok (h, now) → HeaderLine role k h rest now
unfolding header_line
header_said role k h rest now e =
    let t = then_ok (counts_line rest) _ h now e in
    let said = counts_said t.value rest t.mid t.first in
    let c = check_then (is_shaped role t.value.1) (BadScop t.value.0.number) t.mid _ h now t.second in
    let u = unless_then (header_limit role k t.value.1) t.mid _ h now c.1 in
    let same : t.value.1 ≡ h = same_value t.value.1 h t.mid now u.1 in
    let left : t.mid ≡ now = same_left t.value.1 h t.mid now u.1 in
    subst (λ (x : Header). HeaderLine role k x rest now) same (record { shaped = c.0; limit = u.0; said = said ∙ ap (λ (r : Rest). Some r) left })

-- ---- rows

kind_numbers : (kind : RowKind) → (kind_of (kind_number kind) ≡ kind) × (is_kind (kind_number kind) ≡ true)
kind_numbers Equal = (refl, refl)
kind_numbers AtLeast = (refl, refl)

kind_back : (n : ℤ) → is_kind n ≡ true → kind_number (kind_of n) ≡ n
kind_back n e =
    elim (bool_tells (int_eq n (pos 0))) [
      | inl zero_it ↦ rw zero_it (sym ((Decides-int_eq n (pos 0)).0 zero_it))
      | inr other ↦ let one : int_eq n (pos 1) ≡ true = rw other at e in rw other (sym ((Decides-int_eq n (pos 1)).0 one))
    ]

all_any : (ns : List ℤ) → all_pass is_any ns ≡ true
all_any [] = refl
all_any (n ∷ ns) = all_any ns

row_read : (line : Line) (ws : List Word) (row : PartRow) → are_numbers (word_bytes ws) (kind_number row.kind ∷ row.entries) ≡ true → row_numbers line ws ≡ Ok (kind_number row.kind ∷ row.entries)
row_read line [] row e = absurd (cc)
row_read line (w ∷ ws) row e =
    let said = and_parts (is_value (kind_number row.kind) (number_read w.bytes)) (are_numbers (word_bytes ws) row.entries) e in
    rw (value_is (kind_number row.kind) (number_read w.bytes) said.0, (kind_numbers row.kind).1, numbers_read line is_any ws row.entries said.1 (all_any row.entries)) refl

row_is : (row : PartRow) → row_of (kind_number row.kind ∷ row.entries) ≡ row
row_is row = ap (λ (kind : RowKind). record { kind = kind; entries = row.entries }) (kind_numbers row.kind).0

pub row_line_reads : (size : ℕ) (row : PartRow) (rest now : Rest) → suc (length row.entries) ≡ size → behind (said_row row) rest ≡ Some now → row_line size rest ≡ Ok (row, now)
unfolding row_line
row_line_reads size row rest now wide e =
    let l = behind_line (said_row row) rest now refl e in
    let long : length (words_of l.line.bytes) ≡ size = sym (length-word_bytes (words_of l.line.bytes)) ∙ (length-are_numbers (word_bytes (words_of l.line.bytes)) (kind_number row.kind ∷ row.entries) l.said_is ∙ wide) in
    rw (l.read, (Decides-eqb (length (words_of l.line.bytes)) size).1 long, row_read l.line (words_of l.line.bytes) row l.said_is) (ap (λ (r : PartRow). read_ok r now) (row_is row))

record RowIn (ws : List Word) (ns : List ℤ) : Type 0 where
  row : PartRow
  numbers : ns ≡ kind_number row.kind ∷ row.entries
  are : are_numbers (word_bytes ws) ns ≡ true
  size : length ns ≡ length ws

row_said : (line : Line) (ws : List Word) (ns : List ℤ) → 1 ≤ length ws → row_numbers line ws ≡ Ok ns → RowIn ws ns
row_said line [] ns some e = absurd (omega (arith, some))
row_said line (w ∷ ws) ns some e =
    let both = with_number_ok (number_in line is_kind w (number_read w.bytes)) (numbers_in line is_any ws) ns e in
    let one = number_in_ok line is_kind w (number_read w.bytes) both.0 both.2 in
    let more = numbers_said line is_any ws both.1 both.3 in
    subst (λ (l : List ℤ). RowIn (w ∷ ws) l) (sym both.4) (record {
      row = record { kind = kind_of both.0; entries = both.1 };
      numbers = ap (λ (z : ℤ). z ∷ both.1) (sym (kind_back both.0 one.1));
      are = and_from (is_value both.0 (number_read w.bytes)) (are_numbers (word_bytes ws) both.1) (is_its_value both.0 (number_read w.bytes) one.0) more.are;
      size = ap suc more.size;
    })

pub row_line_said : (size : ℕ) (row : PartRow) (rest now : Rest) → 1 ≤ size → row_line size rest ≡ Ok (row, now) → (suc (length row.entries) ≡ size) × (behind (said_row row) rest ≡ Some now)
unfolding row_line
row_line_said size row rest now some e =
    let t = then_ok (said_line rest) _ row now e in
    let c = check_then (length (words_of t.value.bytes) == size) (BadScop t.value.number) t.mid _ row now t.second in
    let long : length (words_of t.value.bytes) ≡ size = (Decides-eqb (length (words_of t.value.bytes)) size).0 c.0 in
    let r = result_then (row_numbers t.value (words_of t.value.bytes)) t.mid _ row now c.1 in
    let in_row = row_said t.value (words_of t.value.bytes) r.0 (omega (arith, long)) r.1 in
    let same : row_of r.0 ≡ row = same_value (row_of r.0) row t.mid now r.2 in
    let left : t.mid ≡ now = same_left (row_of r.0) row t.mid now r.2 in
    let is : in_row.row ≡ row = sym (row_is in_row.row) ∙ (ap row_of (sym in_row.numbers) ∙ same) in
    let said : behind (Numbers r.0) rest ≡ Some now = line_behind (Numbers r.0) rest now t.value refl (t.first ∙ ap (λ (x : Rest). read_ok t.value x) left) in_row.are in
    let numbers : r.0 ≡ kind_number row.kind ∷ row.entries = in_row.numbers ∙ ap (λ (x : PartRow). kind_number x.kind ∷ x.entries) is in
    (sym (ap length numbers) ∙ (in_row.size ∙ long), ap (λ (l : List ℤ). behind (Numbers l) rest) (sym numbers) ∙ said)

pub push_list : {A : Type 0} (found : List A) (x : A) (more : List A) → (found ++ x ∷ []) ++ more ≡ found ++ x ∷ more
push_list found x more = append_assoc found (x ∷ []) more

-- rows of this width
pub rows_reads : (size w : ℕ) (rows found : List PartRow) (n : ℕ) (rest now : Rest) → size ≡ suc w → are_wide w rows ≡ true → length rows ≡ n → behind_all (map said_row rows) rest ≡ Some now
    → rows_from size n found rest ≡ Ok (found ++ rows, now)
unfolding rows_from
rows_reads size w [] found zero rest now is wide long e =
    let same : rest ≡ now = cc in
    rw (append-nil, same) refl
rows_reads size w [] found (suc n) rest now is wide long e = absurd (omega (arith, long))
rows_reads size w (row ∷ rows) found zero rest now is wide long e = absurd (omega (arith, long))
rows_reads size w (row ∷ rows) found (suc n) rest now is wide long e =
    let one = split_one (said_row row) (map said_row rows) rest now e in
    let both = and_parts (length row.entries == w) (are_wide w rows) wide in
    let entries : length row.entries ≡ w = (Decides-eqb (length row.entries) w).0 both.0 in
    let read : row_line size rest ≡ Ok (row, one.mid) = row_line_reads size row rest one.mid (ap suc entries ∙ sym is) one.first in
    let more = rows_reads size w rows (found ++ row ∷ []) n one.mid now is both.1 (omega (arith, long)) one.second in
    rw read (more ∙ ap (λ (l : List PartRow). read_ok l now) (push_list found row rows))

pub record RowsRead (w n : ℕ) (found all : List PartRow) (rest now : Rest) : Type 0 where
  pub rows : List PartRow
  pub all_are : all ≡ found ++ rows
  pub wide : are_wide w rows ≡ true
  pub size : length rows ≡ n
  pub said : behind_all (map said_row rows) rest ≡ Some now

pub rows_said : (size w : ℕ) (all found : List PartRow) (n : ℕ) (rest now : Rest) → size ≡ suc w → rows_from size n found rest ≡ Ok (all, now) → RowsRead w n found all rest now
unfolding rows_from
rows_said size w all found zero rest now is e =
    record { rows = []; all_are = sym (same_value found all rest now e) ∙ sym (append-nil found); wide = refl; size = refl; said = ap (λ (r : Rest). Some r) (same_left found all rest now e) }
rows_said size w all found (suc n) rest now is e =
    let t = then_ok (row_line size rest) _ all now e in
    let row : PartRow = t.value in
    let one = row_line_said size row rest t.mid (omega (arith, is)) t.first in
    let more = rows_said size w all (found ++ row ∷ []) n t.mid now is t.second in
    let entries : length row.entries ≡ w = omega (arith, one.0, is) in
    record {
      rows = row ∷ more.rows;
      all_are = more.all_are ∙ push_list found row more.rows;
      wide = and_from (length row.entries == w) (are_wide w more.rows) ((Decides-eqb (length row.entries) w).1 entries) more.wide;
      size = ap suc more.size;
      said = join_one (said_row row) (map said_row more.rows) rest t.mid now one.1 more.said;
    }

-- ---- a part

-- the part can stand in this role, and passes no limit
pub record Fits (role : Role) (k : ℕ) (p : System) : Type 0 where
  pub suited : suits role p.shape ≡ true
  pub limit : header_limit role k (header_is p) ≡ None
  pub wide : are_wide (width p.shape) p.rows ≡ true

shaped_from : (role : Role) (p : System) → suits role p.shape ≡ true → is_shaped role (header_is p) ≡ true
shaped_from role p e = and_from (columns p.shape + 2 == columns p.shape + 2) (suits role p.shape) ((Decides-eqb (columns p.shape + 2) (columns p.shape + 2)).1 refl) e

wider : (shape : Shape) → columns shape + 2 ≡ suc (width shape)
wider shape = omega arith

pub part_reads : (role : Role) (k : ℕ) (p : System) (rest now : Rest) → Fits role k p → behind_all (said_part p) rest ≡ Some now → Rules.part role k rest ≡ Ok (p, now)
unfolding Rules.part
part_reads role k p rest now fits e =
    let one = split_one (Numbers (header_numbers p)) (map said_row p.rows) rest now e in
    let header : header_line role k rest ≡ Ok (header_is p, one.mid) = header_reads role k (header_is p) rest one.mid (shaped_from role p fits.suited) fits.limit one.first in
    let rows : rows_from (columns p.shape + 2) (length p.rows) [] one.mid ≡ Ok (p.rows, now) = rows_reads (columns p.shape + 2) (width p.shape) p.rows [] (length p.rows) one.mid now (wider p.shape) fits.wide refl one.second in
    rw (header, rows) refl

header_same : (h : Header) (rows : List PartRow) → h.columns ≡ columns h.shape + 2 → length rows ≡ h.rows → h ≡ header_is (record { shape = h.shape; rows = rows })
header_same h rows across size =
    ap (λ (c : ℕ). record { rows = h.rows; columns = c; shape = h.shape }) across ∙ ap (λ (r : ℕ). record { rows = r; columns = columns h.shape + 2; shape = h.shape }) (sym size)

pub part_said : (role : Role) (k : ℕ) (p : System) (rest now : Rest) → Rules.part role k rest ≡ Ok (p, now) → Fits role k p × (behind_all (said_part p) rest ≡ Some now)
unfolding Rules.part
part_said role k p rest now e =
    let t = then_ok (header_line role k rest) _ p now e in
    let h : Header = t.value in
    let head = header_said role k h rest t.mid t.first in
    let u = then_ok (rows_from h.columns h.rows [] t.mid) _ p now t.second in
    let both = and_parts (h.columns == columns h.shape + 2) (suits role h.shape) head.shaped in
    let across : h.columns ≡ columns h.shape + 2 = (Decides-eqb h.columns (columns h.shape + 2)).0 both.0 in
    let rows = rows_said h.columns (width h.shape) u.value [] h.rows t.mid u.mid (across ∙ wider h.shape) u.first in
    let made : System = record { shape = h.shape; rows = rows.rows } in
    let same : made ≡ p = ap (λ (l : List PartRow). record { shape = h.shape; rows = l }) (sym rows.all_are) ∙ same_value (record { shape = h.shape; rows = u.value }) p u.mid now u.second in
    let left : u.mid ≡ now = same_left (record { shape = h.shape; rows = u.value }) p u.mid now u.second in
    let header : h ≡ header_is made = header_same h rows.rows across rows.size in
    let fits : Fits role k made = record { suited = both.1; limit = ap (header_limit role k) (sym header) ∙ head.limit; wide = rows.wide } in
    let said : behind (Numbers (header_numbers made)) rest ≡ Some t.mid = ap (λ (x : Header). behind (Numbers (numbers_of x)) rest) (sym header) ∙ head.said in
    let whole : behind_all (said_part made) rest ≡ Some now = join_one (Numbers (header_numbers made)) (map said_row made.rows) rest t.mid now said (rows.said ∙ ap (λ (r : Rest). Some r) left) in
    (subst (Fits role k) same fits, subst (λ (x : System). behind_all (said_part x) rest ≡ Some now) same whole)
