-- The skews make the rows of a unit lower triangle of the iterators, the last row first.
use Rattle.std.proofs.Common.{◌≡◌, ℤ, pos, ◌+ℤ◌, ◌*ℤ◌, unsigned_abs, ℕ, zero, suc, ◌+◌, ◌-◌, ◌<◌, ◌≤◌, ◌^◌, true, false, if◌then◌else◌, List, [], ◌∷◌, ◌++◌, length, map, refl, sym, ◌∙◌, ap, subst, arith, length-append}
use Rattle.std.specs.Prelude.{slice_set}
use Rattle.std.specs.List.{range_with_len}
use Rattle.std.specs.Ordering.{int_eq}
use Rattle.std.proofs.lemmas.Int.{ints}
use Rattle.std.proofs.Math.IntN.{*ℤ-zero}
use Rattle.std.proofs.lemmas.List.{get_or_append_left}
use Rattle.std.proofs.lemmas.List.FromFn.{get_or-map-range_with_len, length-map-range_with_len}
use Rattle.row_core.specs.Rows.{scale, add_rows, combined_weight, pair_weight}
use Rattle.scop_data.specs.declared.affines.Affine.{Affine}
use Rattle.scop_data.specs.declared.schedules.Schedule.{Schedule}
use Rattle.scop_core.specs.SolvedRows.{zeros, unit}
use Rattle.scop_core.specs.AffineSums.{plus_multiple, sum_weight}
use Rattle.clay_script.specs.declared.commands.Command.TheVariants.{Skew}
use Rattle.clay_commands.specs.Arguments.{place}
use Rattle.clay_commands.specs.Drafts.{no_form, form_at}
use Rattle.chlore_recover.specs.Recoverable.{plain}
use Rattle.chlore_recover.specs.Runs.{at_levels, Runs, Small}
use Rattle.chlore_recover.proofs.Ends.{int_yes, int_no}
use Rattle.chlore_recover.proofs.Plains.{level_there, there_behind, form_behind, set_behind}
use Rattle.chlore_recover.proofs.Reverses.{scale_zeros, scale_behind, iterator_form}

-- the sum of a row and a multiple of an iterator

pub add_zeros : (row : List ℤ) (m : ℕ) → m ≤ length row → add_rows row (zeros m) ≡ row
add_zeros [] zero l = refl
add_zeros [] (suc m) l = absurd (omega arith)
add_zeros (z ∷ row) zero l = refl
add_zeros (z ∷ row) (suc m) l =
    let a : z +ℤ pos 0 ≡ z = omega (arith, ints) in
    let b = add_zeros row m (omega arith) in
    cc

add_behind : (done rest : List ℤ) (z f : ℤ) (j m : ℕ) → length done ≡ j → m ≤ length rest → add_rows (done ++ z ∷ rest) (zeros j ++ f ∷ zeros m) ≡ done ++ (z +ℤ f) ∷ rest
add_behind [] rest z f zero m e l = ap (λ r. (z +ℤ f) ∷ r) (add_zeros rest m l)
add_behind [] rest z f (suc j) m e l = absurd (omega arith)
add_behind (y ∷ done) rest z f zero m e l = absurd (omega arith)
add_behind (y ∷ done) rest z f (suc j) m e l =
    let a : y +ℤ pos 0 ≡ y = omega (arith, ints) in
    let b = add_behind done rest z f j m (omega arith) l in
    ap (λ q. q ∷ add_rows (done ++ z ∷ rest) (zeros j ++ f ∷ zeros m)) a ∙ ap (λ r. y ∷ r) b

-- its weight

pub one_abs : (z : ℤ) → unsigned_abs (pos 1 *ℤ z) ≡ unsigned_abs z
one_abs z = ap unsigned_abs (let e : pos 1 *ℤ z ≡ z = omega (arith, ints) in e)

pub none_abs : (f : ℤ) → unsigned_abs (f *ℤ pos 0) ≡ 0
none_abs f = ap unsigned_abs (*ℤ-zero f)

f_abs : (f : ℤ) → unsigned_abs (f *ℤ pos 1) ≡ unsigned_abs f
f_abs f = ap unsigned_abs (let e : f *ℤ pos 1 ≡ f = omega (arith, ints) in e)

pub weight_zeros : (row : List ℤ) (f : ℤ) (m : ℕ) → Small row → combined_weight (pos 1) row f (zeros m) < 2 ^ 127
weight_zeros [] f m s = omega arith
weight_zeros (z ∷ row) f zero s = omega arith
weight_zeros (z ∷ row) f (suc m) (h, s) =
    let a = one_abs z in
    let b = none_abs f in
    let c = weight_zeros row f m s in
    omega arith

weight_behind : (done rest : List ℤ) (f : ℤ) (j m : ℕ) → unsigned_abs f < 2 ^ 127 → Small done → Small rest → length done ≡ j → combined_weight (pos 1) (done ++ pos 0 ∷ rest) f (zeros j ++ pos 1 ∷ zeros m) < 2 ^ 127
weight_behind [] rest f zero m l s t e =
    let a = one_abs (pos 0) in
    let none : unsigned_abs (pos 0) ≡ 0 = refl in
    let b = f_abs f in
    let c = weight_zeros rest f m t in
    omega arith
weight_behind [] rest f (suc j) m l s t e = absurd (omega arith)
weight_behind (y ∷ done) rest f zero m l s t e = absurd (omega arith)
weight_behind (y ∷ done) rest f (suc j) m l (h, s) t e =
    let a = one_abs y in
    let b = none_abs f in
    let c = weight_behind done rest f j m l s t (omega arith) in
    omega arith

pub small_zeros : (n : ℕ) → Small (zeros n)
small_zeros zero = tt
small_zeros (suc n) = (let e : unsigned_abs (pos 0) ≡ 0 = refl in omega arith, small_zeros n)

pub small_append : (a b : List ℤ) → Small a → Small b → Small (a ++ b)
small_append [] b s t = t
small_append (z ∷ a) b (h, s) t = (h, small_append a b s t)

pub small_length : (m : ℕ) → m ≤ length (zeros m)
small_length zero = omega arith
small_length (suc m) = let h = small_length m in omega arith

-- the sum of two plain forms, the second an iterator
plus_plain : (n d j : ℕ) (f : ℤ) (done rest : List ℤ) → length done ≡ j → d - (j + 1) ≤ length rest → plus_multiple (plain n (done ++ pos 0 ∷ rest)) f (iterator_form n d j) ≡ plain n (done ++ f ∷ rest)
plus_plain n d j f done rest e l =
    let row : add_rows (done ++ pos 0 ∷ rest) (scale f (unit d j (pos 1))) ≡ done ++ f ∷ rest =
    ap (add_rows (done ++ pos 0 ∷ rest)) (scale_behind f (pos 1) j (d - (j + 1)))
    ∙ (add_behind done rest (pos 0) (f *ℤ pos 1) j (d - (j + 1)) e l ∙ ap (λ z. done ++ z ∷ rest) (let g : pos 0 +ℤ (f *ℤ pos 1) ≡ f = omega (arith, ints) in g)) in
    let params : add_rows (zeros n) (scale f (zeros n)) ≡ zeros n = ap (add_rows (zeros n)) (scale_zeros f n) ∙ add_zeros (zeros n) n (small_length n) in
    let const : pos 0 +ℤ (f *ℤ pos 0) ≡ pos 0 = omega (arith, ints) in
    ap (λ r. record { iterators = r; floors = []; parameters = add_rows (zeros n) (scale f (zeros n)); constant = pos 0 +ℤ (f *ℤ pos 0) }) row
    ∙ (ap (λ q. record { iterators = done ++ f ∷ rest; floors = []; parameters = q; constant = pos 0 +ℤ (f *ℤ pos 0) }) params
    ∙ ap (λ c. record { iterators = done ++ f ∷ rest; floors = []; parameters = zeros n; constant = c }) const)

-- the first iterators, in front of other levels
abbrev pub iterators_to : ℕ → ℕ → ℕ → List Affine
iterators_to n d i = map (iterator_form n d) (range_with_len 0 i)

iterator_at : (n d i j : ℕ) (after : List Affine) → j < i → form_at (iterators_to n d i ++ after) (place (pos (j + 1))) ≡ iterator_form n d j
iterator_at n d i j after l =
    let s : place (pos (j + 1)) ≡ j = omega arith in
    let long = length-map-range_with_len (iterator_form n d) 0 i in
    ap (form_at (iterators_to n d i ++ after)) s ∙ (get_or_append_left (iterators_to n d i) after no_form j (omega arith) ∙ get_or-map-range_with_len (iterator_form n d) 0 i j j no_form l (omega arith))

-- the levels with another one behind the first i
abbrev slice_set_at : List Affine → List Affine → Affine → ℕ → Affine → List Affine
slice_set_at before after cur i new = slice_set (before ++ cur ∷ after) (place (pos (i + 1))) new

-- one skew, of the level behind the first i iterators by iterator j
pub skew_run : (n d i j : ℕ) (f : ℤ) (p : List ℤ) (a : Schedule) (after : List Affine) (done rest : List ℤ) → length done ≡ j → j < i → d - (j + 1) ≤ length rest → unsigned_abs f < 2 ^ 127 → Small done → Small rest
    → Runs n (if int_eq f (pos 0) then [] else Skew p (pos (i + 1)) (pos (j + 1)) f ∷ []) (at_levels a (iterators_to n d i ++ plain n (done ++ pos 0 ∷ rest) ∷ after)) (at_levels a (iterators_to n d i ++ plain n (done ++ f ∷ rest) ∷ after))
skew_run n d i j f p a after done rest e l m few s t =
    let before : List Affine = iterators_to n d i in
    let cur : Affine = plain n (done ++ pos 0 ∷ rest) in
    let levels : List Affine = before ++ cur ∷ after in
    let long : length before ≡ i = length-map-range_with_len (iterator_form n d) 0 i in
    elim (int_eq f (pos 0)) as (λ c. int_eq f (pos 0) ≡ c → Runs n (if c then [] else Skew p (pos (i + 1)) (pos (j + 1)) f ∷ []) (at_levels a levels) (at_levels a (before ++ plain n (done ++ f ∷ rest) ∷ after))) [
      | true ↦ λ c. ap (λ z. at_levels a (before ++ plain n (done ++ z ∷ rest) ∷ after)) (sym (int_yes f (pos 0) c))
      | false ↦ λ c.
          let here : form_at levels (place (pos (i + 1))) ≡ cur = form_behind before after cur i long in
          let there : form_at levels (place (pos (j + 1))) ≡ iterator_form n d j = iterator_at n d i j (cur ∷ after) l in
          let many = length-append before (cur ∷ after) in
          let w1 = weight_behind done rest f j (d - (j + 1)) few s t e in
          let w2 : combined_weight (pos 1) [] f [] < 2 ^ 127 = omega arith in
          let w3 = weight_zeros (zeros n) f n (small_zeros n) in
          let w4 : pair_weight (pos 1) (pos 0) f (pos 0) < 2 ^ 127 = let x = one_abs (pos 0) in let y = none_abs f in let z : unsigned_abs (pos 0) ≡ 0 = refl in omega arith in
          let weight : sum_weight cur f (iterator_form n d j) < 2 ^ 127 = omega arith in
          let apart : int_eq (pos (i + 1)) (pos (j + 1)) ≡ false = int_no (pos (i + 1)) (pos (j + 1)) (λ q. omega (arith, ints)) in (
            (
              there_behind before after cur i long,
              level_there j levels (omega arith),
              apart,
              subst (λ z. sum_weight z f (form_at levels (place (pos (j + 1)))) < 2 ^ 127) (sym here) (subst (λ z. sum_weight cur f z < 2 ^ 127) (sym there) weight),
            ),
            ap (at_levels a)
                (ap (λ z. slice_set_at before after cur i (plus_multiple z f (form_at levels (place (pos (j + 1)))))) here
                ∙ (ap (λ z. slice_set_at before after cur i (plus_multiple cur f z)) there
                ∙ (set_behind before after cur (plus_multiple cur f (iterator_form n d j)) i long ∙ ap (λ z. before ++ z ∷ after) (plus_plain n d j f done rest e m)))),
          )
    ] refl
