-- The rows of floors allow the values of the floors, and no others.
use Rattle.std.proofs.Common.{◌≡◌, ℕ, zero, suc, ◌+◌, ◌<◌, ◌≤◌, List, [], ◌∷◌, ◌++◌, length, take, drop, map, get_or, ℤ, pos, negsuc, ◌+ℤ◌, ◌*ℤ◌, neg_ℤ, ◌≤ℤ◌, refl, ap, sym, ◌∙◌, subst, arith, add-one, add-zero, zero-add}
use Rattle.std.specs.Prelude.{All}
use Rattle.std.proofs.lemmas.Int.{ints}
use Rattle.std.proofs.lemmas.List.{length-append, length-map, length-take, length-drop, take_all, take-take, get_or-take, get_or_push, take-append-le}
use Rattle.std.proofs.lemmas.List.Elements.{All-head, All-tail}
use Rattle.std.proofs.Math.Seq.{take-suc}
use Rattle.row_core.specs.Rows.{entry, dot}
use Rattle.row_core.proofs.Ring.{neg_mul_z, add_mul_z}
use Rattle.relation_core.specs.declared.shapes.Shape.{Shape}
use Rattle.relation_core.specs.Points.{MeetsAll, coordinates}
use Rattle.scop_data.specs.declared.schedules.Floor.{Floor}
use Rattle.scop_data.specs.declared.schedules.Schedule.{Schedule}
use Rattle.scop_data.specs.SolvedRows.{HasSizes, raised, low_row, high_row, floor_rows}
use Rattle.scop_data.specs.SolvedData.{UsesEarlier, AreSolvedFloors, IsSolvedSchedule}
use Rattle.scop_data.specs.Meaning.{affine_at, floor_of, floors_after}
use Rattle.schedule_forms.specs.SolvedLaws.{FloorRowsMeanFloors}
use Rattle.scop_data.proofs.Floors.{floor_meets_rows, rows_give_floor}
use Rattle.schedule_forms.proofs.SolvedDots.{Point, dot_take, dot_negative, row_value}

-- a coefficient that is raised by z adds z times the entry of the point
dot_raised : (row v : List ℤ) (k : ℕ) (z : ℤ) → k < length row → dot (raised row k z) v ≡ dot row v +ℤ (z *ℤ entry v k)
dot_raised [] v k z h = absurd (omega arith)
dot_raised (c ∷ row) [] zero z h = omega (arith, ints)
dot_raised (c ∷ row) (x ∷ v) zero z h = omega (arith, ints, add_mul_z c z x)
dot_raised (c ∷ row) [] (suc k) z h = omega (arith, ints)
dot_raised (c ∷ row) (x ∷ v) (suc k) z h =
    let more : dot (raised row k z) v ≡ dot row v +ℤ (z *ℤ entry v k) = dot_raised row v k z (omega arith) in
    let place : suc k + 1 ≡ suc (k + 1) = omega arith in
    ap (λ m. (c *ℤ x) +ℤ dot (take k row ++ (entry row k +ℤ z) ∷ drop m (c ∷ row)) v) place ∙ (ap (λ d. (c *ℤ x) +ℤ d) more ∙ omega (arith, ints))

-- the shape of the rows of floors: no outputs
abbrev shape_of : ℕ → ℕ → ℕ → Shape
shape_of iterators locals parameters = record { outputs = 0; inputs = iterators; locals = locals; parameters = parameters }

-- the sizes of the pieces of a floor's rows
length_raised : (row : List ℤ) (k : ℕ) (z : ℤ) → k < length row → length (raised row k z) ≡ length row
length_raised row k z h =
    length-append (take k row) ((entry row k +ℤ z) ∷ drop (k + 1) row) ∙ omega (arith, length-take k row, length-drop (k + 1) row)

-- a floor over so many columns, at place k
record Stands (i m p k : ℕ) (floor : Floor) : Type 0 where
  place : k < m
  form : HasSizes i m p floor.value
  size : pos 1 ≤ℤ floor.size
  earlier : UsesEarlier k floor

module _ (i m p k : ℕ) (floor : Floor) (x l n : List ℤ) (stands : Stands i m p k floor) (at : Point (shape_of i m p) [] x l n) where
  value : ℤ
  value = affine_at floor.value x l n

  raised_value : dot (raised floor.value.floors k (neg_ℤ floor.size)) l ≡ dot floor.value.floors l +ℤ neg_ℤ (floor.size *ℤ entry l k)
  raised_value =
      dot_raised floor.value.floors l k (neg_ℤ floor.size) (omega (arith, stands.place, stands.form.floors_are))
      ∙ ap (λ d. dot floor.value.floors l +ℤ d) (neg_mul_z floor.size (entry l k))

  low_value : dot (low_row (shape_of i m p) k floor).entries (coordinates [] x l n) ≡ value +ℤ neg_ℤ (floor.size *ℤ entry l k)
  unfolding value
  low_value =
      let f = raised floor.value.floors k (neg_ℤ floor.size) in
      let wide : length f ≡ m = length_raised floor.value.floors k (neg_ℤ floor.size) (omega (arith, stands.place, stands.form.floors_are)) ∙ stands.form.floors_are in
      row_value (shape_of i m p) [] floor.value.iterators f floor.value.parameters floor.value.constant [] x l n
      (record { outputs_are = refl; iterators_are = stands.form.iterators_are; floors_are = wide; parameters_are = stands.form.parameters_are }) at
      ∙ omega (arith, ints, raised_value)

  high_value : dot (high_row (shape_of i m p) k floor).entries (coordinates [] x l n) ≡ ((neg_ℤ value +ℤ (floor.size *ℤ entry l k)) +ℤ floor.size) +ℤ negsuc 0
  unfolding value
  high_value =
      let f = raised floor.value.floors k (neg_ℤ floor.size) in
      let wide : length f ≡ m = length_raised floor.value.floors k (neg_ℤ floor.size) (omega (arith, stands.place, stands.form.floors_are)) ∙ stands.form.floors_are in
      let di = dot_negative floor.value.iterators x in
      let df = dot_negative f l in
      let dp = dot_negative floor.value.parameters n in
      row_value (shape_of i m p) [] (map neg_ℤ floor.value.iterators) (map neg_ℤ f) (map neg_ℤ floor.value.parameters) ((neg_ℤ floor.value.constant +ℤ floor.size) +ℤ negsuc 0) [] x l n
      (record {
        outputs_are = refl;
        iterators_are = length-map floor.value.iterators neg_ℤ ∙ stands.form.iterators_are;
        floors_are = length-map f neg_ℤ ∙ wide;
        parameters_are = length-map floor.value.parameters neg_ℤ ∙ stands.form.parameters_are;
      }) at
      ∙ omega (arith, ints, raised_value)

  -- both rows of a floor hold exactly where its local is its value
  rows_give : MeetsAll (floor_rows (shape_of i m p) k (floor ∷ [])) (coordinates [] x l n) → entry l k ≡ floor_of value floor.size
  rows_give h =
      rows_give_floor value floor.size (entry l k) stands.size (subst (λ d. pos 0 ≤ℤ d) low_value h.0) (subst (λ d. pos 0 ≤ℤ d) high_value h.1.0)

  gives_rows : entry l k ≡ floor_of value floor.size
      → (pos 0 ≤ℤ dot (low_row (shape_of i m p) k floor).entries (coordinates [] x l n)) × (pos 0 ≤ℤ dot (high_row (shape_of i m p) k floor).entries (coordinates [] x l n))
  gives_rows e =
      let rows = floor_meets_rows value floor.size stands.size in (
        subst (λ d. pos 0 ≤ℤ d) (sym low_value) (subst (λ j. pos 0 ≤ℤ (value +ℤ neg_ℤ (floor.size *ℤ j))) (sym e) rows.0),
        subst (λ d. pos 0 ≤ℤ d) (sym high_value) (subst (λ j. pos 0 ≤ℤ (((neg_ℤ value +ℤ (floor.size *ℤ j)) +ℤ floor.size) +ℤ negsuc 0)) (sym e) rows.1),
      )

  -- a floor reads the locals before it alone
  value_early : affine_at floor.value x (take k l) n ≡ value
  unfolding value
  value_early = ap (λ d. ((dot floor.value.iterators x +ℤ d) +ℤ dot floor.value.parameters n) +ℤ floor.value.constant) (dot_take floor.value.floors l k stands.earlier)

-- every floor stands at its place, the first one at place k
abbrev AllStand : ℕ → ℕ → ℕ → ℕ → List Floor → Type 0
AllStand i m p k [] = Unit {0}
AllStand i m p k (floor ∷ floors) = Stands i m p k floor × AllStand i m p (k + 1) floors

all_stand : (i m p k : ℕ) (floors : List Floor) → All (λ floor. HasSizes i m p floor.value) floors → All (λ floor. pos 1 ≤ℤ floor.size) floors
    → ((j : ℕ) (floor : Floor) → j < length floors → UsesEarlier (k + j) (get_or floors j floor)) → k + length floors ≤ m → AllStand i m p k floors
all_stand i m p k [] forms sizes earlier h = tt
all_stand i m p k (floor ∷ floors) forms sizes earlier h = (
  record {
    place = omega arith;
    form = All-head (λ floor. HasSizes i m p floor.value) floor floors forms;
    size = All-head (λ floor. pos 1 ≤ℤ floor.size) floor floors sizes;
    earlier = subst (λ j. UsesEarlier j floor) (add-zero k) (earlier 0 floor (omega arith));
  },
  all_stand i m p (k + 1) floors (All-tail (λ floor. HasSizes i m p floor.value) floor floors forms) (All-tail (λ floor. pos 1 ≤ℤ floor.size) floor floors sizes)
      (λ j d l. (let place : k + suc j ≡ (k + 1) + j = omega arith in subst (λ a. UsesEarlier a (get_or floors j d)) place (earlier (suc j) d (omega arith)))) (omega arith),
)

-- the values so far stay at the front
count_after : (floors : List Floor) (earlier x n : List ℤ) → length (floors_after earlier floors x n) ≡ length earlier + length floors
count_after [] earlier x n = omega arith
count_after (f ∷ floors) earlier x n =
    let v = floor_of (affine_at f.value x earlier n) f.size in
    count_after floors (earlier ++ v ∷ []) x n ∙ omega (arith, length-append earlier (v ∷ []))

front_after : (floors : List Floor) (earlier x n : List ℤ) → take (length earlier) (floors_after earlier floors x n) ≡ earlier
front_after [] earlier x n = take_all (length earlier) earlier (omega arith)
front_after (f ∷ floors) earlier x n =
    let v = floor_of (affine_at f.value x earlier n) f.size in
    let l = floors_after (earlier ++ v ∷ []) floors x n in
    let more = length-append earlier (v ∷ []) in
    sym (take-take (length earlier) (length (earlier ++ v ∷ [])) l (omega (arith, more)))
    ∙ (ap (λ t. take (length earlier) t) (front_after floors (earlier ++ v ∷ []) x n)
    ∙ (take-append-le (length earlier) earlier (v ∷ []) (omega arith) ∙ take_all (length earlier) earlier (omega arith)))

-- rows that hold give the floors one by one
given_by_rows : (i m p k : ℕ) (floors : List Floor) (x l n : List ℤ) → Point (shape_of i m p) [] x l n → AllStand i m p k floors → k + length floors ≡ m
    → MeetsAll (floor_rows (shape_of i m p) k floors) (coordinates [] x l n) → l ≡ floors_after (take k l) floors x n
given_by_rows i m p k [] x l n at stand count h = sym (take_all k l (omega (arith, count, at.locals_are)))
given_by_rows i m p k (f ∷ floors) x l n at stand count h =
    let here : entry l k ≡ floor_of (value i m p k f x l n stand.0 at) f.size = rows_give i m p k f x l n stand.0 at (h.0, (h.1.0, tt)) in
    let early = value_early i m p k f x l n stand.0 at in
    let step : take (k + 1) l ≡ take k l ++ floor_of (affine_at f.value x (take k l) n) f.size ∷ []
    = ap (λ j. take j l) (add-one k) ∙ (take-suc l k (pos 0) (omega (arith, count, at.locals_are)) ∙ ap (λ z. take k l ++ z ∷ []) (here ∙ ap (λ d. floor_of d f.size) (sym early))) in
    given_by_rows i m p (k + 1) floors x l n at stand.1 (omega (arith, count)) h.1.1 ∙ ap (λ t. floors_after t floors x n) step

-- the values of the floors meet their rows
rows_at_floors : (i m p k : ℕ) (floors : List Floor) (earlier x l n : List ℤ) → length x ≡ i → length n ≡ p → length earlier ≡ k → AllStand i m p k floors → k + length floors ≡ m
    → l ≡ floors_after earlier floors x n → MeetsAll (floor_rows (shape_of i m p) k floors) (coordinates [] x l n)
rows_at_floors i m p k [] earlier x l n ex en ee stand count e = tt
rows_at_floors i m p k (f ∷ floors) earlier x l n ex en ee stand count e =
    let v = floor_of (affine_at f.value x earlier n) f.size in
    let more : length (earlier ++ v ∷ []) ≡ k + 1 = length-append earlier (v ∷ []) ∙ omega (arith, ee) in
    let locals : length l ≡ m = ap length e ∙ (count_after (f ∷ floors) earlier x n ∙ omega (arith, ee, count)) in
    let at : Point (shape_of i m p) [] x l n = record { outputs_are = refl; inputs_are = ex; locals_are = locals; parameters_are = en } in
    let front : take k l ≡ earlier = ap (λ j. take j l) (sym ee) ∙ (ap (λ t. take (length earlier) t) e ∙ front_after (f ∷ floors) earlier x n) in
    let next : take (k + 1) l ≡ earlier ++ v ∷ []
    = ap (λ j. take j l) (sym more) ∙ (ap (λ t. take (length (earlier ++ v ∷ [])) t) e ∙ front_after floors (earlier ++ v ∷ []) x n) in
    let here : entry l k ≡ v
    = sym (get_or-take (k + 1) l k (pos 0) (omega arith)) ∙ (ap (λ t. entry t k) next ∙ get_or_push earlier v (pos 0) k ee) in
    let early = value_early i m p k f x l n stand.0 at in
    let own : entry l k ≡ floor_of (value i m p k f x l n stand.0 at) f.size
    = here ∙ (ap (λ t. floor_of (affine_at f.value x t n) f.size) (sym front) ∙ ap (λ d. floor_of d f.size) early) in
    let rows = gives_rows i m p k f x l n stand.0 at own in
    (rows.0, (rows.1, rows_at_floors i m p (k + 1) floors (earlier ++ v ∷ []) x l n ex en more stand.1 (omega (arith, count)) e))

pub floor_rows_mean : FloorRowsMeanFloors
floor_rows_mean iterators parameters floors solved x l n ex el en =
    let m = length floors in
    let stand : AllStand iterators m parameters 0 floors
    = all_stand iterators m parameters 0 floors solved.forms solved.sizes (λ j d h. subst (λ a. UsesEarlier a (get_or floors j d)) (sym (zero-add j)) (solved.earlier j d h)) (omega arith) in
    let at : Point (shape_of iterators m parameters) [] x l n = record { outputs_are = refl; inputs_are = ex; locals_are = el; parameters_are = en } in (
      λ h. given_by_rows iterators m parameters 0 floors x l n at stand (zero-add m) h,
      λ e. rows_at_floors iterators m parameters 0 floors [] x l n ex en refl stand (zero-add m) e,
    )

-- the floors of a schedule in solved form
pub floors_are_solved : (iterators parameters : ℕ) (schedule : Schedule) → IsSolvedSchedule iterators parameters schedule → AreSolvedFloors iterators parameters schedule.floors
floors_are_solved iterators parameters schedule solved = record { forms = solved.relation.floors; sizes = solved.sizes; earlier = solved.earlier }
