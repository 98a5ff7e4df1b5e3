-- All skews of a triangle, row by row from the last.
use Rattle.std.proofs.Common.{◌≡◌, ℤ, pos, unsigned_abs, ℕ, zero, suc, ◌+◌, ◌-◌, ◌≤◌, if◌then◌else◌, List, [], ◌∷◌, ◌++◌, length, map, take, refl, sym, ◌∙◌, ap, subst, arith, length-append, append_assoc}
use Rattle.std.specs.List.{range_with_len}
use Rattle.std.specs.Ordering.{int_eq}
use Rattle.std.proofs.lemmas.List.FromFn.{map-range_with_len_more}
use Rattle.scop_data.specs.declared.affines.Affine.{Affine}
use Rattle.scop_data.specs.declared.schedules.Schedule.{Schedule}
use Rattle.scop_core.specs.SolvedRows.{zeros, unit}
use Rattle.clay_script.specs.declared.commands.Command.TheVariants.{Skew}
use Rattle.chlore_recover.specs.Triangles.{IsTriangleFrom}
use Rattle.chlore_recover.specs.Recoverable.{plain}
use Rattle.chlore_recover.specs.LevelScripts.{row_skews, skews}
use Rattle.chlore_recover.specs.Runs.{at_levels, Runs, Small, AllSmall}
use Rattle.chlore_recover.proofs.Plains.{runs_append}
use Rattle.chlore_recover.proofs.Reverses.{iterator_form}
use Rattle.chlore_recover.proofs.Skews.{small_zeros, small_append, iterators_to, skew_run}

length_zeros : (m : ℕ) → length (zeros m) ≡ m
length_zeros zero = refl
length_zeros (suc m) = let e = length_zeros m in omega arith

length_one : (done : List ℤ) (f : ℤ) (j : ℕ) → length done ≡ j → length (done ++ f ∷ []) ≡ j + 1
length_one done f j e = let l = length-append done (f ∷ []) in let one : length (f ∷ []) ≡ 1 = refl in omega arith

-- the skews of one row, whose entries before place j are made, and whose entries todo are to be made
row_skews_run : (n d i j : ℕ) (p : List ℤ) (a : Schedule) (after : List Affine) (done todo tail : List ℤ) → length done ≡ j → j + length todo ≡ i → d ≤ i + length tail → Small done → Small todo → Small tail
    → Runs n (row_skews p (i + 1) (j + 1) todo) (at_levels a (iterators_to n d i ++ plain n (done ++ (zeros (length todo) ++ tail)) ∷ after)) (at_levels a (iterators_to n d i ++ plain n (done ++ (todo ++ tail)) ∷ after))
row_skews_run n d i j p a after done [] tail e l m s t u = refl
row_skews_run n d i j p a after done (f ∷ todo) tail e l m s (few, t) u =
    let at : List ℤ → Schedule = λ row. at_levels a (iterators_to n d i ++ plain n row ∷ after) in
    let rest : List ℤ = zeros (length todo) ++ tail in
    let long = length-append (zeros (length todo)) tail in
    let zs = length_zeros (length todo) in
    let first = skew_run n d i j f p a after done rest e (omega arith) (omega arith) few s (small_append (zeros (length todo)) tail (small_zeros (length todo)) u) in
    let split : done ++ f ∷ rest ≡ (done ++ f ∷ []) ++ rest = sym (append_assoc done (f ∷ []) rest) in
    let more = row_skews_run n d i (j + 1) p a after (done ++ f ∷ []) todo tail (length_one done f j e) (omega arith) m (small_append done (f ∷ []) s (few, tt)) t u in
    let joined : (done ++ f ∷ []) ++ (todo ++ tail) ≡ done ++ f ∷ (todo ++ tail) = append_assoc done (f ∷ []) (todo ++ tail) in
    runs_append n (if int_eq f (pos 0) then [] else Skew p (pos (i + 1)) (pos (j + 1)) f ∷ []) (row_skews p (i + 1) (j + 1 + 1) todo) (at (done ++ pos 0 ∷ rest)) (at (done ++ f ∷ rest)) (at (done ++ f ∷ (todo ++ tail)))
    first (subst (λ z. Runs n (row_skews p (i + 1) (j + 1 + 1) todo) (at z) (at (done ++ f ∷ (todo ++ tail)))) (sym split)
    (subst (λ z. Runs n (row_skews p (i + 1) (j + 1 + 1) todo) (at ((done ++ f ∷ []) ++ rest)) (at z)) joined more))

small_take : (i : ℕ) (row : List ℤ) → Small row → Small (take i row)
small_take zero row s = tt
small_take (suc i) [] s = tt
small_take (suc i) (z ∷ row) (h, s) = (h, small_take i row s)

length_take : (i : ℕ) (row : List ℤ) → i ≤ length row → length (take i row) ≡ i
length_take zero row l = refl
length_take (suc i) [] l = absurd (omega arith)
length_take (suc i) (z ∷ row) l = let e = length_take i row (omega arith) in omega arith

triangle_room : (i d : ℕ) (L : List (List ℤ)) → IsTriangleFrom i d L → i ≤ d
triangle_room i d [] e = omega arith
triangle_room i d (row ∷ L) (l, s, t) = let h = triangle_room (i + 1) d L t in omega arith

pub skews_run : (n d i : ℕ) (p : List ℤ) (a : Schedule) (L : List (List ℤ)) → IsTriangleFrom i d L → AllSmall L
    → Runs n (skews p (i + 1) L) (at_levels a (iterators_to n d i ++ map (iterator_form n d) (range_with_len i (length L)))) (at_levels a (iterators_to n d i ++ map (plain n) L))
skews_run n d i p a [] t s = refl
skews_run n d i p a (row ∷ L) (long, shape, t) (small, s) =
    let room : i + 1 ≤ d = triangle_room (i + 1) d L t in
    let before : List Affine = iterators_to n d i in
    let plains : List Affine = map (plain n) L in
    let more : iterators_to n d (i + 1) ≡ before ++ iterator_form n d i ∷ [] = map-range_with_len_more (iterator_form n d) 0 i i (omega arith) in
    let wider : (after : List Affine) → iterators_to n d (i + 1) ++ after ≡ before ++ iterator_form n d i ∷ after = λ after. ap (λ z. z ++ after) more ∙ append_assoc before (iterator_form n d i ∷ []) after in
    let rest = skews_run n d (i + 1) p a L t s in
    let units : List Affine = map (iterator_form n d) (range_with_len (i + 1) (length L)) in
    let rest2 : Runs n (skews p (i + 1 + 1) L) (at_levels a (before ++ iterator_form n d i ∷ units)) (at_levels a (before ++ iterator_form n d i ∷ plains)) =
    subst (λ z. Runs n (skews p (i + 1 + 1) L) (at_levels a z) (at_levels a (before ++ iterator_form n d i ∷ plains))) (wider units)
    (subst (λ z. Runs n (skews p (i + 1 + 1) L) (at_levels a (iterators_to n d (i + 1) ++ units)) (at_levels a z)) (wider plains) rest) in
    let todo : List ℤ = take i row in
    let len : length todo ≡ i = length_take i row (omega arith) in
    let tail : List ℤ = pos 1 ∷ zeros (d - (i + 1)) in
    let lz = length_zeros (d - (i + 1)) in
    let lt : length tail ≡ length (zeros (d - (i + 1))) + 1 = omega arith in
    let one : Small tail = ((let e : unsigned_abs (pos 1) ≡ 1 = refl in omega arith), small_zeros (d - (i + 1))) in
    let this = row_skews_run n d i 0 p a plains [] todo tail refl (omega arith) (omega arith) tt (small_take i row small) one in
    let start : zeros (length todo) ++ tail ≡ unit d i (pos 1) = ap (λ k. zeros k ++ tail) len in
    let at : List ℤ → Schedule = λ r. at_levels a (before ++ plain n r ∷ plains) in
    let cut : take i row ≡ take (i + 1 - 1) row = ap (λ k. take k row) (let e : i ≡ i + 1 - 1 = omega arith in e) in
    let this2 : Runs n (row_skews p (i + 1) 1 todo) (at (unit d i (pos 1))) (at row) =
    subst (λ z. Runs n (row_skews p (i + 1) 1 todo) (at z) (at row)) start (subst (λ z. Runs n (row_skews p (i + 1) 1 todo) (at (zeros (length todo) ++ tail)) (at z)) (sym shape) this) in
    runs_append n (skews p (i + 1 + 1) L) (row_skews p (i + 1) 1 (take (i + 1 - 1) row)) (at_levels a (before ++ iterator_form n d i ∷ units)) (at (unit d i (pos 1))) (at row)
    rest2 (subst (λ z. Runs n (row_skews p (i + 1) 1 z) (at (unit d i (pos 1))) (at row)) cut this2)
