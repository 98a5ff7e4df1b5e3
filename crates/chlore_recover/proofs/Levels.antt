-- The whole script for one statement's levels.
use Rattle.std.proofs.Common.{◌≡◌, ◌≢◌, ℤ, pos, ◌*ℤ◌, unsigned_abs, ℕ, zero, suc, ◌+◌, ◌<◌, ◌≤◌, ◌==◌, true, false, if◌then◌else◌, not, inl, inr, List, [], ◌∷◌, ◌++◌, length, map, refl, sym, ◌∙◌, ap, subst, arith}
use Rattle.std.specs.List.{range_with_len, list_any}
use Rattle.std.proofs.Math.Dec.{eqb}
use Rattle.std.proofs.lemmas.Int.{ints}
use Rattle.std.proofs.lemmas.Bool.{eqb-true, eqb-false}
use Rattle.std.proofs.lemmas.List.{length-map}
use Rattle.std.proofs.lemmas.List.FromFn.{length-range_with_len, length-map-range_with_len}
use Rattle.beta_tree.specs.Vectors.{In}
use Rattle.beta_tree.proofs.Distinct.{member_from_In}
use Rattle.beta_tree.proofs.Places.{bool_tells, same_yes, In-map}
use Rattle.beta_tree.proofs.Orders.{and_left, and_right, Orders, orders_of_test}
use Rattle.row_core.specs.Rows.{scale}
use Rattle.scop_data.specs.declared.affines.Affine.{Affine}
use Rattle.scop_data.specs.declared.schedules.Schedule.{Schedule}
use Rattle.clay_script.specs.declared.commands.Command.{Command}
use Rattle.chlore_recover.specs.Triangles.{IsSign, IsTriangle, AreSigned, last_value, last_place, differ, leads, row_ending_at, sign_at}
use Rattle.chlore_recover.specs.Recoverable.{plain, rows_of, AreClansFrom, triangle_of}
use Rattle.chlore_recover.specs.LevelScripts.{first_reverses, skews, second_reverses, interchanges, shifts}
use Rattle.chlore_recover.specs.Runs.{at_levels, Runs, Small, AllSmall}
use Rattle.chlore_recover.specs.Laws.{ScriptRecoversLevels}
use Rattle.chlore_recover.proofs.Ends.{scale_twice}
use Rattle.chlore_recover.proofs.Factors.{factored_is_apart, found, below_of_order, places_of_leads, differ_of_order, sign_in}
use Rattle.chlore_recover.proofs.Plains.{runs_append}
use Rattle.chlore_recover.proofs.Reverses.{iterator_form, triangle_form, signed_form, first_reverses_run, second_reverses_run}
use Rattle.chlore_recover.proofs.Interchanges.{interchanges_run}
use Rattle.chlore_recover.proofs.Triangulars.{skews_run}
use Rattle.chlore_recover.proofs.Shifts.{bare, shifts_run}

pub clans_long : (n k d : ℕ) (levels : List Affine) → AreClansFrom n k d levels → k + length levels ≡ d
clans_long n k d [] e = omega arith
clans_long n k d (form ∷ levels) (h, c) = let e = clans_long n (k + 1) d levels c in omega arith

in_range : (s n y : ℕ) → s ≤ y → y < s + n → In y (range_with_len s n)
in_range s zero y l m = absurd (omega arith)
in_range s (suc n) y l m =
    elim (bool_tells (s == y)) [ inl t ↦ inl (eqb-true s y t) | inr f ↦ inr (let ne : s ≢ y = eqb-false s y f in in_range (s + 1) n y (omega arith) (omega arith)) ]

map_twice : (n : ℕ) (rows : List (List ℤ)) (places : List ℕ) → map (plain n) (map (λ i. row_ending_at i rows) places) ≡ map (triangle_form n rows) places
map_twice n rows [] = refl
map_twice n rows (i ∷ places) = ap (λ t. plain n (row_ending_at i rows) ∷ t) (map_twice n rows places)

-- the signs and the rows of the triangle

sign_abs : (g z : ℤ) → IsSign g → unsigned_abs (g *ℤ z) ≡ unsigned_abs z
sign_abs g z (inl e) = rw e (ap unsigned_abs (let k : pos 1 *ℤ z ≡ z = omega (arith, ints) in k))
sign_abs g z (inr e) = rw e (omega (arith, ints))

small_scale : (g : ℤ) (row : List ℤ) → IsSign g → Small row → Small (scale g row)
small_scale g [] s h = tt
small_scale g (z ∷ row) s (l, h) = (let e = sign_abs g z s in omega arith, small_scale g row s h)

ending_small : (i : ℕ) (rows : List (List ℤ)) → AreSigned (leads rows) → AllSmall rows → Small (row_ending_at i rows)
ending_small i [] s h = tt
ending_small i (row ∷ rows) (s, signs) (h, small) =
    elim (last_place row == i) as (λ t. Small (if t then scale (last_value row) row else row_ending_at i rows)) [
      | true ↦ small_scale (last_value row) row s h
      | false ↦ ending_small i rows signs small
    ]

triangle_small : (rows : List (List ℤ)) (places : List ℕ) → AreSigned (leads rows) → AllSmall rows → AllSmall (map (λ i. row_ending_at i rows) places)
triangle_small rows [] s h = tt
triangle_small rows (i ∷ places) s h = (ending_small i rows s h, triangle_small rows places s h)

sign_at_is : (i : ℕ) (rows : List (List ℤ)) → AreSigned (leads rows) → In i (map last_place rows) → IsSign (sign_at i rows)
sign_at_is i [] s h = absurd h
sign_at_is i (row ∷ rows) (s, signs) h =
    elim (last_place row == i) as (λ t. (last_place row == i) ≡ t → IsSign (if t then last_value row else sign_at i rows)) [
      | true ↦ λ e. s
      | false ↦ λ e. elim h [ inl same ↦ absurd (eqb-false (last_place row) i e same) | inr k ↦ sign_at_is i rows signs k ]
    ] refl

sign_found : (rows : List (List ℤ)) (row : List ℤ) → differ (map last_place rows) ≡ true → In row rows → sign_at (last_place row) rows ≡ last_value row
sign_found [] row h i = absurd i
sign_found (r ∷ rows) row h (inl e) = subst (λ z. sign_at (last_place z) (r ∷ rows) ≡ last_value z) e (rw (same_yes (last_place r)) refl)
sign_found (r ∷ rows) row h (inr i) =
    let fresh = and_left (not (list_any (eqb (last_place r)) (map last_place rows))) (differ (map last_place rows)) h in
    let more = and_right (not (list_any (eqb (last_place r)) (map last_place rows))) (differ (map last_place rows)) h in
    elim (bool_tells (last_place r == last_place row)) [
      | inl t ↦
          let same : last_place row ≡ last_place r = sym (eqb-true (last_place r) (last_place row) t) in
          let has : list_any (eqb (last_place r)) (map last_place rows) ≡ true = member_from_In eqb eqb-true same_yes (last_place r) (map last_place rows) (subst (λ z. In z (map last_place rows)) same (In-map last_place row rows i)) in
          let none : not true ≡ true = subst (λ z. not z ≡ true) has fresh in
          absurd (cc)
      | inr f ↦ rw f (sign_found rows row more i)
    ]

-- the rows where the target wants them
wanted_is : (n : ℕ) (rows : List (List ℤ)) (target : List Affine) → AreSigned (leads rows) → differ (map last_place rows) ≡ true → ((row : List ℤ) → In row (rows_of target) → In row rows)
    → map (signed_form n rows) (map last_place (rows_of target)) ≡ map (bare n) target
wanted_is n rows [] s d h = refl
wanted_is n rows (form ∷ target) s d h =
    let row : List ℤ = form.iterators in
    let i = h row (inl refl) in
    let is : scale (sign_at (last_place row) rows) (row_ending_at (last_place row) rows) ≡ row =
    ap (λ g. scale g (row_ending_at (last_place row) rows)) (sign_found rows row d i)
    ∙ (ap (scale (last_value row)) (found rows row d i) ∙ scale_twice (last_value row) row (sign_in rows row s i)) in
    ap (λ z. plain n z ∷ map (signed_form n rows) (map last_place (rows_of target))) is
    ∙ ap (λ t. bare n form ∷ t) (wanted_is n rows target s d (λ r j. h r (inr j)))

pub script_recovers_levels : ScriptRecoversLevels
script_recovers_levels n p a original target P L clans factored small forms =
    let d : ℕ = length target in
    let rows : List (List ℤ) = rows_of target in
    let (apart, is, tri) = factored_is_apart d P L rows factored in
    let T : List (List ℤ) = triangle_of d rows in
    let triangle : IsTriangle d T = subst (IsTriangle d) tri factored.triangle in
    let signs : AreSigned (leads rows) = subst AreSigned is factored.permutation.signs in
    let o : Orders d (map (λ e. e.0) P) = orders_of_test d (map (λ e. e.0) P) factored.permutation.places in
    let places : map (λ e. e.0) P ≡ map last_place rows = ap (map (λ e. e.0)) is ∙ places_of_leads rows in
    let differs : differ (map last_place rows) ≡ true = subst (λ z. differ z ≡ true) places (differ_of_order d (map (λ e. e.0) P) o) in
    let below : (x : ℕ) → In x (map last_place rows) → x < d = λ x i. below_of_order d (map (λ e. e.0) P) o x (subst (λ z. In x z) (sym places) i) in
    let all : (x : ℕ) → x < d → In x (map last_place rows) = λ x l. subst (λ z. In x z) places (o.all x l) in
    let to : List ℕ = range_with_len 0 d in
    let S : List Affine → Schedule = at_levels a in
    let A : List Command = first_reverses p 1 (rows_of original) in
    let B : List Command = skews p 1 T in
    let C : List Command = second_reverses p to rows in
    let D : List Command = interchanges p 0 to (map last_place rows) in
    let E : List Command = shifts p 1 target in
    let long : length original ≡ d = let e = clans_long n 0 d original clans in omega arith in
    let many : length T ≡ d = length-map-range_with_len (λ i. row_ending_at i rows) 0 d in
    let r1 : Runs n A (S original) (S (map (iterator_form n d) to)) = subst (λ m. Runs n A (S original) (S (map (iterator_form n d) (range_with_len 0 m)))) long (first_reverses_run n d 0 p a [] original refl clans) in
    let r2a : Runs n B (S (map (iterator_form n d) to)) (S (map (plain n) T)) = subst (λ m. Runs n B (S (map (iterator_form n d) (range_with_len 0 m))) (S (map (plain n) T))) many (skews_run n d 0 p a T triangle (triangle_small rows to signs small)) in
    let r2 : Runs n B (S (map (iterator_form n d) to)) (S (map (triangle_form n rows) to)) = subst (λ X. Runs n B (S (map (iterator_form n d) to)) (S X)) (map_twice n rows to) r2a in
    let r3 : Runs n C (S (map (triangle_form n rows) to)) (S (map (signed_form n rows) to)) = second_reverses_run n 0 d p a [] rows refl (λ i l. sign_at_is i rows signs (all i (omega arith))) in
    let l1 = length-range_with_len 0 d in
    let l2 = length-map rows last_place in
    let l3 : length rows ≡ d = length-map target (λ form. form.iterators) in
    let r4a : Runs n D (S (map (signed_form n rows) to)) (S (map (signed_form n rows) (map last_place rows))) =
    interchanges_run n 0 p a (signed_form n rows) [] to (map last_place rows) refl (omega arith) (λ x i. in_range 0 d x (omega arith) (let l = below x i in omega arith)) differs in
    let r4 : Runs n D (S (map (signed_form n rows) to)) (S (map (bare n) target)) = subst (λ X. Runs n D (S (map (signed_form n rows) to)) (S X)) (wanted_is n rows target signs differs (λ r i. i)) r4a in
    let r5 : Runs n E (S (map (bare n) target)) (S target) = shifts_run n 0 p a [] target refl forms in
    let r12 = runs_append n A B (S original) (S (map (iterator_form n d) to)) (S (map (triangle_form n rows) to)) r1 r2 in
    let r123 = runs_append n (A ++ B) C (S original) (S (map (triangle_form n rows) to)) (S (map (signed_form n rows) to)) r12 r3 in
    let r1234 = runs_append n (A ++ B ++ C) D (S original) (S (map (signed_form n rows) to)) (S (map (bare n) target)) r123 r4 in
    runs_append n (A ++ B ++ C ++ D) E (S original) (S (map (bare n) target)) (S target) r1234 r5
