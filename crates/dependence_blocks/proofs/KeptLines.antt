-- The lines of a block can stand in it: none of them has a newline or a `<`.
use Rattle.std.proofs.Common.{◌*◌, ◌≡◌, inl, inr, ℕ, suc, ◌+◌, ◌<◌, ◌≤◌, ◌^◌, true, false, List, [], ◌∷◌, ◌++◌, map, length, ℤ, pos, negsuc, unsigned_abs, refl, ap, sym, ◌∙◌, arith}
use Rattle.std.specs.Prelude.{get_or, not, nat_le, Option, Some, None, IfSome, reverse}
use mathlib.Core.List.{reverse_aux}
use Rattle.std.specs.List.{flat_map}
use Rattle.std.specs.Fmt.{decimal, signed_decimal}
use Rattle.std.specs.Str.{bytes_eq}
use Rattle.std.proofs.lemmas.Bool.Decides.{nat_tests}
use Rattle.std.proofs.lemmas.Int.{ints}
use Rattle.suite_base.specs.Lines.{is_blank, trim, trim_front}
use Rattle.suite_base.specs.Words.{spaced}
use Rattle.suite_base.specs.Numbers.{all_digits, are_digits}
use Rattle.suite_base.proofs.NumberLaws.{decimal_digits}
use Rattle.row_core.specs.Rows.{entry, AreCoefficients}
use Rattle.relation_core.specs.declared.part_rows.PartRow.{PartRow}
use Rattle.relation_core.specs.declared.part_rows.RowKind.{RowKind}
use Rattle.relation_core.specs.declared.part_rows.RowKind.TheVariants.{Equal, AtLeast}
use Rattle.relation_core.specs.Systems.{System, IsWellFormed, columns, row_at}
use Rattle.relation_core.specs.Layouts as layout
use Rattle.farkas_cert.specs.Texts.{certificate_line}
use Rattle.scop_core.specs.Printable.{has_no, end_line, are_kept_lines}
use Rattle.schedule_forms.proofs.SolvedShapes.{both}
use Rattle.schedule_forms.proofs.ReadBackLists.{and_true, false_if, other_number}
use Rattle.suite_base.proofs.LineCuts.{bool_tells}
use Rattle.std.proofs.lemmas.Slice.Eq.{bytes_eq-Decides}
use Rattle.dependence_systems.specs.declared.dependences.Dep.{Dep}
use Rattle.dependence_systems.specs.declared.dependences.DepKind.{DepKind}
use Rattle.dependence_systems.specs.declared.dependences.DepKind.TheVariants.{Raw, War, Waw}
use Rattle.dependence_blocks.specs.Blocks.{kind_word, entry_numbers, entry_words, verdict_word, head_line, verdict_lines, entry_lines}
use Rattle.dependence_blocks.specs.KeptLines.{is_kept_line, HasRange}

-- ---- bytes that stand nowhere

no_append : (c : ℕ) (a b : List ℕ) → has_no c a ≡ true → has_no c b ≡ true → has_no c (a ++ b) ≡ true
no_append c [] b h k = k
no_append c (x ∷ a) b h k = let p = both _ _ h in and_true _ _ p.0 (no_append c a b p.1 k)

no_turned : (c : ℕ) (a b : List ℕ) → has_no c a ≡ true → has_no c b ≡ true → has_no c (reverse_aux a b) ≡ true
no_turned c [] b h k = k
no_turned c (x ∷ a) b h k = let p = both _ _ h in no_turned c a (x ∷ b) p.1 (and_true _ _ p.0 k)

no_front : (c : ℕ) (a : List ℕ) → has_no c a ≡ true → has_no c (trim_front a) ≡ true
no_front c [] h = refl
no_front c (x ∷ a) h =
    elim (bool_tells (is_blank x)) [
      | inl e ↦ simp e (no_front c a (both _ _ h).1)
      | inr e ↦ simp e h
    ]

no_trim : (c : ℕ) (a : List ℕ) → has_no c a ≡ true → has_no c (trim a) ≡ true
no_trim c a h = no_turned c (trim_front (reverse (trim_front a))) [] (no_front c _ (no_turned c (trim_front a) [] (no_front c a h) refl)) refl

true_is_not_false : false ≡ true → ⊥
true_is_not_false e = cc

-- a line without `<` is not the line that ends an extension
no_end : (name line : List ℕ) → has_no 60 line ≡ true → bytes_eq line (end_line name) ≡ false
no_end name [] h = refl
no_end name (x ∷ line) h =
    false_if _ (λ e. let same : x ∷ line ≡ end_line name = (bytes_eq-Decides (x ∷ line) (end_line name)).0 e in
    let first : x ≡ 60 = ap (λ (t : List ℕ). get_or t 0 0) same in
    absurd (true_is_not_false (sym (ap (λ n. has_no 60 (n ∷ line)) first) ∙ h)))

kept_trim : (name line : List ℕ) → has_no 60 line ≡ true → not (bytes_eq (trim line) (end_line name)) ≡ true
kept_trim name line h = ap not (no_end name (trim line) (no_trim 60 line h))

-- ---- lines

kept_both : (a b : List ℕ) → is_kept_line a ≡ true → is_kept_line b ≡ true → is_kept_line (a ++ b) ≡ true
kept_both a b h k =
    let p = both (has_no 10 a) (has_no 60 a) h in
    let q = both (has_no 10 b) (has_no 60 b) k in
    and_true _ _ (no_append 10 a b p.0 q.0) (no_append 60 a b p.1 q.1)

digits_kept : (ds : List ℕ) → all_digits ds ≡ true → is_kept_line ds ≡ true
digits_kept [] h = refl
digits_kept (d ∷ ds) h =
    let p = both _ _ h in
    let q = both _ _ p.0 in
    let low : nat_le 48 d ≡ true = q.0 in
    let high : nat_le d 57 ≡ true = q.1 in
    let rest = both (has_no 10 ds) (has_no 60 ds) (digits_kept ds p.1) in
    let l : 48 ≤ d = grind (arith, nat_tests) in
    let g : d ≤ 57 = grind (arith, nat_tests) in
    and_true _ _ (and_true _ _ (ap not (other_number 10 d (λ e. omega arith))) rest.0) (and_true _ _ (ap not (other_number 60 d (λ e. omega arith))) rest.1)

all_are : (ds : List ℕ) → are_digits ds ≡ true → all_digits ds ≡ true
all_are [] h = refl
all_are (d ∷ ds) h = h

decimal_kept : (k : ℕ) → k < 10 ^ 64 → is_kept_line (decimal k) ≡ true
decimal_kept k h = digits_kept (decimal k) (all_are (decimal k) (decimal_digits k h).digits)

signed_kept : (z : ℤ) → unsigned_abs z < 10 ^ 64 → is_kept_line (signed_decimal z) ≡ true
signed_kept (pos n) h = decimal_kept n (omega (arith, ints))
signed_kept (negsuc n) h = kept_both (45 ∷ []) (decimal (suc n)) refl (decimal_kept (suc n) (omega (arith, ints)))

-- ---- lines of words and of numbers

kind_kept : (k : DepKind) → is_kept_line (kind_word k) ≡ true
kind_kept Raw = refl
kind_kept War = refl
kind_kept Waw = refl

-- every one is a kept line
abbrev pub AllKept : List (List ℕ) → Type 0
AllKept [] = Unit {0}
AllKept (line ∷ lines) = (is_kept_line line ≡ true) × AllKept lines

spaced_kept : (ws : List (List ℕ)) → AllKept ws → is_kept_line (spaced ws) ≡ true
spaced_kept [] h = refl
spaced_kept (w ∷ []) h = h.0
spaced_kept (w ∷ (v ∷ ws)) h = kept_both w (32 ∷ spaced (v ∷ ws)) h.0 (kept_both (32 ∷ []) (spaced (v ∷ ws)) refl (spaced_kept (v ∷ ws) h.1))

numbers_kept : (e : Dep) → HasRange e → (last : List ℕ) → is_kept_line last ≡ true → AllKept (map decimal (entry_numbers e) ++ last ∷ [])
numbers_kept e h last k = (
  decimal_kept e.source (omega (arith, h.source)),
  (
    decimal_kept e.target (omega (arith, h.target)),
    (
      decimal_kept e.source_access (omega (arith, h.source_access)),
      (
        decimal_kept e.target_access (omega (arith, h.target_access)),
        (
          decimal_kept e.source_part (omega (arith, h.source_part)),
          (decimal_kept e.target_part (omega (arith, h.target_part)), (decimal_kept e.level (omega (arith, h.level)), (k, tt))),
        ),
      ),
    ),
  ),
)

head_kept : (e : Dep) → HasRange e → (verdict : List ℕ) → is_kept_line verdict ≡ true → is_kept_line (head_line e verdict) ≡ true
head_kept e h verdict k = spaced_kept (entry_words e ++ verdict ∷ []) (kind_kept e.kind, numbers_kept e h verdict k)

abbrev pub AllSmall : List ℕ → Type 0
AllSmall [] = Unit {0}
AllSmall (n ∷ ns) = (n < 10 ^ 64) × AllSmall ns

counts_kept : (ns : List ℕ) → AllSmall ns → is_kept_line (flat_map layout.spaced_count ns) ≡ true
counts_kept [] h = refl
counts_kept (n ∷ ns) h =
    kept_both (32 ∷ decimal n) (flat_map layout.spaced_count ns) (kept_both (32 ∷ []) (decimal n) refl (decimal_kept n h.0)) (counts_kept ns h.1)

entries_kept : (zs : List ℤ) → ((k : ℕ) → unsigned_abs (entry zs k) < 2 ^ 127) → is_kept_line (flat_map layout.spaced zs) ≡ true
entries_kept [] h = refl
entries_kept (z ∷ zs) h =
    let small : unsigned_abs z < 2 ^ 127 = h 0 in
    kept_both (32 ∷ signed_decimal z) (flat_map layout.spaced zs) (kept_both (32 ∷ []) (signed_decimal z) refl (signed_kept z (omega (arith, small)))) (entries_kept zs (λ k. h (suc k)))

digit_kept : (kind : RowKind) → is_kept_line (layout.kind_digit kind ∷ []) ≡ true
digit_kept Equal = refl
digit_kept AtLeast = refl

row_kept : (row : PartRow) → AreCoefficients row.entries → is_kept_line (layout.row_text row) ≡ true
row_kept row h = kept_both (layout.kind_digit row.kind ∷ []) (flat_map layout.spaced row.entries) (digit_kept row.kind) (entries_kept row.entries h.bound)

rows_kept : (rows : List PartRow) → ((k : ℕ) → AreCoefficients (row_at rows k).entries) → AllKept (map layout.row_text rows)
rows_kept [] h = tt
rows_kept (row ∷ rows) h = (row_kept row (h 0), rows_kept rows (λ k. h (suc k)))

multipliers_kept : (zs : List ℤ) → AreCoefficients zs → AllKept (map signed_decimal zs)
multipliers_kept [] h = tt
multipliers_kept (z ∷ zs) h =
    let small : unsigned_abs z < 2 ^ 127 = h.bound 0 in
    (signed_kept z (omega (arith, small)), multipliers_kept zs (record { bound = λ k. h.bound (suc k) }))

-- ---- the lines of an entry

certificate_kept : (zs : List ℤ) → AreCoefficients zs → is_kept_line (certificate_line zs) ≡ true
certificate_kept zs h = spaced_kept (map signed_decimal zs) (multipliers_kept zs h)

verdict_kept : (c : Option (List ℤ)) → is_kept_line (verdict_word c) ≡ true
verdict_kept None = refl
verdict_kept (Some zs) = refl

header_kept : (system : System) → IsWellFormed system.shape system.rows → length system.rows < 2 ^ 64
    → is_kept_line (layout.header_text (length system.rows) system.shape) ≡ true
header_kept system h small =
    let l = h.limits in
    let within : columns system.shape ≤ 4 * 65536 = omega (arith, l.outputs, l.inputs, l.locals, l.parameters) in
    kept_both (decimal (length system.rows)) _ (decimal_kept (length system.rows) (omega (arith, small)))
    (counts_kept ((columns system.shape + 2) ∷ (system.shape.outputs ∷ (system.shape.inputs ∷ (system.shape.locals ∷ (system.shape.parameters ∷ [])))))
    (omega (arith, within), (omega (arith, l.outputs), (omega (arith, l.inputs), (omega (arith, l.locals), (omega (arith, l.parameters), tt))))))

lines_kept : (system : System) (c : Option (List ℤ)) → IsWellFormed system.shape system.rows → length system.rows < 2 ^ 64
    → IfSome c AreCoefficients → AllKept (verdict_lines system c)
lines_kept system None h small k = (header_kept system h small, rows_kept system.rows h.ranges)
lines_kept system (Some zs) h small k = (certificate_kept zs k, tt)

pub entry_kept : (e : Dep) (system : System) (c : Option (List ℤ)) → HasRange e → IsWellFormed system.shape system.rows → length system.rows < 2 ^ 64
    → IfSome c AreCoefficients → AllKept (entry_lines e system c)
entry_kept e system c r h small k = (head_kept e r (verdict_word c) (verdict_kept c), lines_kept system c h small k)

pub number_kept : (n : ℕ) → n < 2 ^ 64 → AllKept (decimal n ∷ [])
number_kept n h = (decimal_kept n (omega (arith, h)), tt)

-- ---- lines that an extension keeps

pub kept_more : (name : List ℕ) (xs ys : List (List ℕ)) → are_kept_lines name xs ≡ true → AllKept ys → are_kept_lines name (xs ++ ys) ≡ true
kept_more name [] [] h k = refl
kept_more name [] (y ∷ ys) h k =
    let p = both (has_no 10 y) (has_no 60 y) k.0 in
    and_true _ _ (and_true _ _ p.0 (kept_trim name y p.1)) (kept_more name [] ys h k.1)
kept_more name (x ∷ xs) ys h k = let p = both _ _ h in and_true _ _ p.0 (kept_more name xs ys p.1 k)
