-- The first reverses make iterators of Clan's levels, the second ones give the triangle's rows their signs.
use Rattle.std.proofs.Common.{◌≡◌, ℤ, pos, ◌*ℤ◌, ℕ, zero, suc, ◌+◌, ◌-◌, ◌<◌, List, [], ◌∷◌, ◌++◌, length, map, refl, sym, ◌∙◌, ap, subst, arith, length-append, append_assoc}
use Rattle.std.specs.List.{range_with_len}
use Rattle.std.proofs.Math.IntN.{*ℤ-zero}
use Rattle.row_core.specs.Rows.{scale}
use Rattle.scop_data.specs.declared.affines.Affine.{Affine}
use Rattle.scop_data.specs.declared.schedules.Schedule.{Schedule}
use Rattle.scop_core.specs.SolvedRows.{zeros, unit}
use Rattle.chlore_recover.specs.Triangles.{IsSign, last_value, row_ending_at, sign_at}
use Rattle.chlore_recover.specs.Recoverable.{plain, rows_of, AreClansFrom}
use Rattle.chlore_recover.specs.LevelScripts.{reverse_where, first_reverses, second_reverses}
use Rattle.chlore_recover.specs.Runs.{at_levels, Runs}
use Rattle.chlore_recover.proofs.Ends.{EndsAt, ends_last, sign_some, sign_square, zeros_zero}
use Rattle.chlore_recover.proofs.Plains.{runs_append, reverse_where_runs}

pub scale_zeros : (g : ℤ) (n : ℕ) → scale g (zeros n) ≡ zeros n
scale_zeros g zero = refl
scale_zeros g (suc n) = ap (λ z. z ∷ scale g (zeros n)) (*ℤ-zero g) ∙ ap (λ r. pos 0 ∷ r) (scale_zeros g n)

pub scale_behind : (g z : ℤ) (k m : ℕ) → scale g (zeros k ++ z ∷ zeros m) ≡ zeros k ++ (g *ℤ z) ∷ zeros m
scale_behind g z zero m = ap (λ r. (g *ℤ z) ∷ r) (scale_zeros g m)
scale_behind g z (suc k) m = ap (λ y. y ∷ scale g (zeros k ++ z ∷ zeros m)) (*ℤ-zero g) ∙ ap (λ r. pos 0 ∷ r) (scale_behind g z k m)

pub unit_square : (d k : ℕ) (g : ℤ) → IsSign g → scale g (unit d k g) ≡ unit d k (pos 1)
unit_square d k g s = scale_behind g g k (d - (k + 1)) ∙ ap (λ z. zeros k ++ z ∷ zeros (d - (k + 1))) (sign_square g s)

behind_ends : (k m : ℕ) (g : ℤ) → EndsAt (zeros k ++ g ∷ zeros m) k g
behind_ends zero m g = (refl, zeros_zero m)
behind_ends (suc k) m g = behind_ends k m g

pub unit_value : (d k : ℕ) (g : ℤ) → IsSign g → last_value (unit d k g) ≡ g
unit_value d k g s = (ends_last (unit d k g) k g (sign_some g s) (behind_ends k (d - (k + 1)) g)).1

-- iterator i of d alone
abbrev pub iterator_form : ℕ → ℕ → ℕ → Affine
iterator_form n d i = plain n (unit d i (pos 1))

length_more : (done : List Affine) (x : Affine) (k : ℕ) → length done ≡ k → length (done ++ x ∷ []) ≡ k + 1
length_more done x k e = let l = length-append done (x ∷ []) in let one : length (x ∷ []) ≡ 1 = refl in omega arith

pub first_reverses_run : (n d k : ℕ) (p : List ℤ) (a : Schedule) (done rest : List Affine) → length done ≡ k → AreClansFrom n k d rest
    → Runs n (first_reverses p (k + 1) (rows_of rest)) (at_levels a (done ++ rest)) (at_levels a (done ++ map (iterator_form n d) (range_with_len k (length rest))))
first_reverses_run n d k p a done [] e c = refl
first_reverses_run n d k p a done (form ∷ rest) e ((g, s, is), c) =
    let value : last_value form.iterators ≡ g = ap (λ f. last_value f.iterators) is ∙ unit_value d k g s in
    let first : Runs n (reverse_where g p (k + 1)) (at_levels a (done ++ plain n (unit d k g) ∷ rest)) (at_levels a (done ++ plain n (scale g (unit d k g)) ∷ rest)) = reverse_where_runs n k g p a done rest (unit d k g) s e in
    let first2 : Runs n (reverse_where g p (k + 1)) (at_levels a (done ++ form ∷ rest)) (at_levels a (done ++ plain n (scale g (unit d k g)) ∷ rest)) =
    subst (λ f. Runs n (reverse_where g p (k + 1)) (at_levels a (done ++ f ∷ rest)) (at_levels a (done ++ plain n (scale g (unit d k g)) ∷ rest))) (sym is) first in
    let split : done ++ plain n (scale g (unit d k g)) ∷ rest ≡ (done ++ iterator_form n d k ∷ []) ++ rest =
    ap (λ r. done ++ plain n r ∷ rest) (unit_square d k g s) ∙ sym (append_assoc done (iterator_form n d k ∷ []) rest) in
    let first3 : Runs n (reverse_where (last_value form.iterators) p (k + 1)) (at_levels a (done ++ form ∷ rest)) (at_levels a ((done ++ iterator_form n d k ∷ []) ++ rest)) =
    subst (λ v. Runs n (reverse_where v p (k + 1)) (at_levels a (done ++ form ∷ rest)) (at_levels a ((done ++ iterator_form n d k ∷ []) ++ rest))) (sym value)
    (subst (λ X. Runs n (reverse_where g p (k + 1)) (at_levels a (done ++ form ∷ rest)) (at_levels a X)) split first2) in
    let more = first_reverses_run n d (k + 1) p a (done ++ iterator_form n d k ∷ []) rest (length_more done (iterator_form n d k) k e) c in
    let joined : (done ++ iterator_form n d k ∷ []) ++ map (iterator_form n d) (range_with_len (k + 1) (length rest)) ≡ done ++ iterator_form n d k ∷ map (iterator_form n d) (range_with_len (k + 1) (length rest)) =
    append_assoc done (iterator_form n d k ∷ []) (map (iterator_form n d) (range_with_len (k + 1) (length rest))) in
    runs_append n (reverse_where (last_value form.iterators) p (k + 1)) (first_reverses p (k + 1 + 1) (rows_of rest)) (at_levels a (done ++ form ∷ rest)) (at_levels a ((done ++ iterator_form n d k ∷ []) ++ rest))
    (at_levels a (done ++ iterator_form n d k ∷ map (iterator_form n d) (range_with_len (k + 1) (length rest))))
    first3 (subst (λ X. Runs n (first_reverses p (k + 1 + 1) (rows_of rest)) (at_levels a ((done ++ iterator_form n d k ∷ []) ++ rest)) (at_levels a X)) joined more)

-- the triangle's row at place i, and the target's row that ends there
abbrev pub triangle_form : ℕ → List (List ℤ) → ℕ → Affine
triangle_form n rows i = plain n (row_ending_at i rows)

abbrev pub signed_form : ℕ → List (List ℤ) → ℕ → Affine
signed_form n rows i = plain n (scale (sign_at i rows) (row_ending_at i rows))

pub second_reverses_run : (n k m : ℕ) (p : List ℤ) (a : Schedule) (done : List Affine) (rows : List (List ℤ)) → length done ≡ k → ((i : ℕ) → i < k + m → IsSign (sign_at i rows))
    → Runs n (second_reverses p (range_with_len k m) rows) (at_levels a (done ++ map (triangle_form n rows) (range_with_len k m))) (at_levels a (done ++ map (signed_form n rows) (range_with_len k m)))
second_reverses_run n k zero p a done rows e s = refl
second_reverses_run n k (suc m) p a done rows e s =
    let rest : List Affine = map (triangle_form n rows) (range_with_len (k + 1) m) in
    let last : List Affine = map (signed_form n rows) (range_with_len (k + 1) m) in
    let first : Runs n (reverse_where (sign_at k rows) p (k + 1)) (at_levels a (done ++ triangle_form n rows k ∷ rest)) (at_levels a (done ++ signed_form n rows k ∷ rest)) =
    reverse_where_runs n k (sign_at k rows) p a done rest (row_ending_at k rows) (s k (omega arith)) e in
    let first2 = subst (λ X. Runs n (reverse_where (sign_at k rows) p (k + 1)) (at_levels a (done ++ triangle_form n rows k ∷ rest)) (at_levels a X)) (sym (append_assoc done (signed_form n rows k ∷ []) rest)) first in
    let more = second_reverses_run n (k + 1) m p a (done ++ signed_form n rows k ∷ []) rows (length_more done (signed_form n rows k) k e) (λ i l. s i (omega arith)) in
    let joined = append_assoc done (signed_form n rows k ∷ []) last in
    runs_append n (reverse_where (sign_at k rows) p (k + 1)) (second_reverses p (range_with_len (k + 1) m) rows) (at_levels a (done ++ triangle_form n rows k ∷ rest)) (at_levels a ((done ++ signed_form n rows k ∷ []) ++ rest)) (at_levels a (done ++ signed_form n rows k ∷ last))
    first2 (subst (λ X. Runs n (second_reverses p (range_with_len (k + 1) m) rows) (at_levels a ((done ++ signed_form n rows k ∷ []) ++ rest)) (at_levels a X)) joined more)
