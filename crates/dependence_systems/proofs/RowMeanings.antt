-- What lists of rows in the columns of a system say of a point in pieces.
use Rattle.std.proofs.Common.{◌≡◌, ℕ, zero, suc, ◌+◌, ◌<◌, ◌≤◌, List, [], ◌∷◌, ◌++◌, length, map, take, drop, All, ℤ, pos, negsuc, ◌+ℤ◌, neg_ℤ, refl, ap, sym, ◌∙◌, subst, arith}
use Rattle.std.specs.Prelude.{◌↔◌}
use Rattle.std.proofs.lemmas.List.{length-append, length-map}
use Rattle.std.proofs.lemmas.List.Elements.{All-head, All-tail}
use Rattle.row_core.specs.Rows.{dot}
use Rattle.relation_core.specs.Systems.{ReachTo}
use Rattle.relation_core.specs.Points.{Meets, MeetsAll}
use Rattle.relation_core.specs.declared.shapes.Shape.{Shape}
use Rattle.relation_core.specs.declared.part_rows.PartRow.{PartRow}
use Rattle.scop_data.specs.declared.affines.Affine.{Affine}
use Rattle.scop_data.specs.declared.schedules.Floor.{Floor}
use Rattle.scop_core.specs.SolvedRows.{zeros, raised, with_columns, low_row, high_row, floor_rows, HasSizes}
use Rattle.scop_core.specs.Meaning.{affine_at, levels_at}
use Rattle.schedule_forms.proofs.ReadBackLists.{length_raised}
use Rattle.schedule_forms.proofs.ReadBackRows.{first}
use Rattle.dependence_systems.specs.declared.widths.Widths.{Widths}
use Rattle.dependence_systems.specs.declared.widths.Topic.{Topic}
use Rattle.scop_core.specs.LevelOrder.{EqualUpTo, LessAfter}
use Rattle.dependence_systems.specs.Systems.{in_columns, placed, placed_rows, subscript_row, equal_row, less_row, rows_between}
use Rattle.dependence_systems.proofs.Segments.{HasWidths}
use Rattle.dependence_systems.proofs.Differences.{subscripts_meet, levels_meet, less_meets}

-- rows that are placed hold where they hold at the side of which they speak
pub placed_meet : (topic : Topic) (w : Widths) (wide : ℕ) (whole side : List ℤ)
    → ((row : List ℤ) → wide ≤ length row → dot (placed topic w row) whole ≡ dot row side)
    → (rows : List PartRow) → ReachTo wide rows → MeetsAll (placed_rows topic w rows) whole ↔ MeetsAll rows side
placed_meet topic w wide whole side same [] reach = (λ h. tt, λ h. tt)
placed_meet topic w wide whole side same (row ∷ rows) reach =
    let head : wide ≤ length row.entries = reach 0 (omega arith) in
    let value : dot (placed topic w row.entries) whole ≡ dot row.entries side = same row.entries head in
    let rest = placed_meet topic w wide whole side same rows (λ i h. reach (suc i) (omega arith)) in (
      λ h. (subst (λ d. Meets row.kind d) value h.0, rest.0 h.1),
      λ h. (subst (λ d. Meets row.kind d) (sym value) h.0, rest.1 h.1),
    )

-- subscripts of source and target are equal
pub subscript_rows_meet : (w : Widths) (a b : List Affine) (x y l m u v n : List ℤ) → HasWidths w x y l m u v → length a ≡ length b
    → All (HasSizes w.source 0 (length n)) a → All (HasSizes w.target 0 (length n)) b
    → MeetsAll (rows_between (subscript_row w) a b) (in_columns x y l m u v (n ++ pos 1 ∷ [])) ↔ (levels_at a x [] n ≡ levels_at b y [] n)
subscript_rows_meet w [] [] x y l m u v n at e sa sb = (λ h. refl, λ h. tt)
subscript_rows_meet w [] (b ∷ bs) x y l m u v n at e sa sb = absurd (omega (arith, e))
subscript_rows_meet w (a ∷ xs) [] x y l m u v n at e sa sb = absurd (omega (arith, e))
subscript_rows_meet w (a ∷ xs) (b ∷ ys) x y l m u v n at e sa sb =
    let one = subscripts_meet w a b x y l m u v n at (All-head (HasSizes w.source 0 (length n)) a xs sa) (All-head (HasSizes w.target 0 (length n)) b ys sb) in
    let rest = subscript_rows_meet w xs ys x y l m u v n at (omega (arith, e)) (All-tail (HasSizes w.source 0 (length n)) a xs sa) (All-tail (HasSizes w.target 0 (length n)) b ys sb) in (
      λ h. ap (λ z. z ∷ levels_at xs x [] n) (one.0 h.0) ∙ ap (λ t. affine_at b y [] n ∷ t) (rest.0 h.1),
      λ h. (one.1 (ap head_of h), rest.1 (ap tail_of h)),
    )
  where
    head_of : List ℤ → ℤ
    head_of [] = pos 0
    head_of (z ∷ zs) = z

    tail_of : List ℤ → List ℤ
    tail_of [] = []
    tail_of (z ∷ zs) = zs

-- the first k levels of source and target are equal
pub equal_rows_meet : (w : Widths) (k : ℕ) (a b : List Affine) (x y l m u v n : List ℤ) → HasWidths w x y l m u v → k ≤ length a → k ≤ length b
    → All (HasSizes w.source w.source_floors (length n)) a → All (HasSizes w.target w.target_floors (length n)) b
    → MeetsAll (rows_between (equal_row w) (take k a) (take k b)) (in_columns x y l m u v (n ++ pos 1 ∷ [])) ↔ EqualUpTo k (levels_at a x u n) (levels_at b y v n)
equal_rows_meet w zero a b x y l m u v n at e f sa sb = (λ h. tt, λ h. tt)
equal_rows_meet w (suc k) [] b x y l m u v n at e f sa sb = absurd (omega arith)
equal_rows_meet w (suc k) (a ∷ xs) [] x y l m u v n at e f sa sb = absurd (omega arith)
equal_rows_meet w (suc k) (a ∷ xs) (b ∷ ys) x y l m u v n at e f sa sb =
    let P = HasSizes w.source w.source_floors (length n) in
    let Q = HasSizes w.target w.target_floors (length n) in
    let one = levels_meet w a b x y l m u v n at (All-head P a xs sa) (All-head Q b ys sb) in
    let rest = equal_rows_meet w k xs ys x y l m u v n at (omega arith) (omega arith) (All-tail P a xs sa) (All-tail Q b ys sb) in
    (λ h. (one.0 h.0, rest.0 h.1), λ h. (one.1 h.0, rest.1 h.1))

-- and the next one is less
pub less_rows_meet : (w : Widths) (k : ℕ) (a b : List Affine) (x y l m u v n : List ℤ) → HasWidths w x y l m u v → k < length a → k < length b
    → All (HasSizes w.source w.source_floors (length n)) a → All (HasSizes w.target w.target_floors (length n)) b
    → (MeetsAll (rows_between (equal_row w) (take k a) (take k b)) (in_columns x y l m u v (n ++ pos 1 ∷ []))
    × MeetsAll (rows_between (less_row w) (take 1 (drop k a)) (take 1 (drop k b))) (in_columns x y l m u v (n ++ pos 1 ∷ [])))
    ↔ LessAfter k (levels_at a x u n) (levels_at b y v n)
less_rows_meet w k [] b x y l m u v n at e f sa sb = absurd (omega arith)
less_rows_meet w k (a ∷ xs) [] x y l m u v n at e f sa sb = absurd (omega arith)
less_rows_meet w zero (a ∷ xs) (b ∷ ys) x y l m u v n at e f sa sb =
    let P = HasSizes w.source w.source_floors (length n) in
    let Q = HasSizes w.target w.target_floors (length n) in
    let one = less_meets w a b x y l m u v n at (All-head P a xs sa) (All-head Q b ys sb) in
    (λ h. one.0 h.1.0, λ h. (tt, (one.1 h, tt)))
less_rows_meet w (suc k) (a ∷ xs) (b ∷ ys) x y l m u v n at e f sa sb =
    let P = HasSizes w.source w.source_floors (length n) in
    let Q = HasSizes w.target w.target_floors (length n) in
    let one = levels_meet w a b x y l m u v n at (All-head P a xs sa) (All-head Q b ys sb) in
    let rest = less_rows_meet w k xs ys x y l m u v n at (omega arith) (omega arith) (All-tail P a xs sa) (All-tail Q b ys sb) in
    (λ h. (one.0 h.0.0, rest.0 (h.0.1, h.1)), λ h. ((one.1 h.0, (rest.1 h.1).0), (rest.1 h.1).1))

-- the rows of floors are wide enough to be placed
long_row : (o i f p : List ℤ) (c : ℤ) (wide : ℕ) → wide ≡ length i + length f → wide ≤ length (with_columns o i f p c)
long_row o i f p c wide e =
    omega (arith, ap length (first o i f p c), length-append o (i ++ (f ++ (p ++ c ∷ []))), length-append i (f ++ (p ++ c ∷ [])), length-append f (p ++ c ∷ []))

low_long : (shape : Shape) (k : ℕ) (floor : Floor) → k < shape.locals → HasSizes shape.inputs shape.locals shape.parameters floor.value
    → shape.inputs + shape.locals ≤ length (low_row shape k floor).entries
low_long shape k floor h sizes =
    let long : length (raised floor.value.floors k (neg_ℤ floor.size)) ≡ length floor.value.floors = length_raised floor.value.floors k (neg_ℤ floor.size) (omega (arith, sizes.floors_are)) in
    long_row (zeros shape.outputs) floor.value.iterators (raised floor.value.floors k (neg_ℤ floor.size)) floor.value.parameters floor.value.constant (shape.inputs + shape.locals)
    (sym (ap (λ z. z + length (raised floor.value.floors k (neg_ℤ floor.size))) sizes.iterators_are ∙ ap (λ z. shape.inputs + z) (long ∙ sizes.floors_are)))

high_long : (shape : Shape) (k : ℕ) (floor : Floor) → k < shape.locals → HasSizes shape.inputs shape.locals shape.parameters floor.value
    → shape.inputs + shape.locals ≤ length (high_row shape k floor).entries
high_long shape k floor h sizes =
    let f = raised floor.value.floors k (neg_ℤ floor.size) in
    let long : length f ≡ length floor.value.floors = length_raised floor.value.floors k (neg_ℤ floor.size) (omega (arith, sizes.floors_are)) in
    long_row (zeros shape.outputs) (map neg_ℤ floor.value.iterators) (map neg_ℤ f) (map neg_ℤ floor.value.parameters) ((neg_ℤ floor.value.constant +ℤ floor.size) +ℤ negsuc 0) (shape.inputs + shape.locals)
    (sym (ap (λ z. z + length (map neg_ℤ f)) (length-map floor.value.iterators neg_ℤ ∙ sizes.iterators_are) ∙ ap (λ z. shape.inputs + z) (length-map f neg_ℤ ∙ (long ∙ sizes.floors_are))))

pub floors_reach : (shape : Shape) (k : ℕ) (floors : List Floor) → k + length floors ≤ shape.locals
    → All (λ floor. HasSizes shape.inputs shape.locals shape.parameters floor.value) floors → ReachTo (shape.inputs + shape.locals) (floor_rows shape k floors)
floors_reach shape k [] h sizes i l = absurd (omega arith)
floors_reach shape k (floor ∷ floors) h sizes zero l =
    low_long shape k floor (omega arith) (All-head (λ floor. HasSizes shape.inputs shape.locals shape.parameters floor.value) floor floors sizes)
floors_reach shape k (floor ∷ floors) h sizes (suc zero) l =
    high_long shape k floor (omega arith) (All-head (λ floor. HasSizes shape.inputs shape.locals shape.parameters floor.value) floor floors sizes)
floors_reach shape k (floor ∷ floors) h sizes (suc (suc i)) l =
    floors_reach shape (k + 1) floors (omega arith) (All-tail (λ floor. HasSizes shape.inputs shape.locals shape.parameters floor.value) floor floors sizes) i (omega arith)
