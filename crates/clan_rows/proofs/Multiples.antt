-- The multiples of the forms of names.
use Rattle.std.proofs.Common.{◌≡◌, ◌∙◌, ℕ, zero, suc, ◌-◌, ◌≤◌, List, [], ◌∷◌, ◌++◌, length, get_or, Bool, true, false, cond, refl, ap, sym, arith, append_assoc, ℤ, pos, ◌*ℤ◌}
use Rattle.std.specs.Prelude.{bytes_eq}
use Rattle.std.proofs.lemmas.Int.{ints}
use Rattle.row_core.specs.Rows.{scale}
use Rattle.scop_core.specs.SolvedRows.{zeros}
use Rattle.clan_extract.specs.Forms.{first_of_name, multiple, name_form}
use Rattle.clan_rows.proofs.Ranges.{same_form}

times_zero : (p : ℤ) → p *ℤ pos 0 ≡ pos 0
times_zero p = omega (arith, ints)

times_one : (p : ℤ) → p *ℤ pos 1 ≡ p
times_one p = omega (arith, ints)

one_times : (z : ℤ) → pos 1 *ℤ z ≡ z
one_times z = omega (arith, ints)

pub scaled_zeros : (p : ℤ) (n : ℕ) → scale p (zeros n) ≡ zeros n
scaled_zeros p zero = refl
scaled_zeros p (suc n) = ap (λ z. z ∷ scale p (zeros n)) (times_zero p) ∙ ap (λ row. pos 0 ∷ row) (scaled_zeros p n)

scaled_by_one : (row : List ℤ) → scale (pos 1) row ≡ row
scaled_by_one [] = refl
scaled_by_one (z ∷ row) = ap (λ y. y ∷ scale (pos 1) row) (one_times z) ∙ ap (λ xs. z ∷ xs) (scaled_by_one row)

pub multiple_by_one : (parameters loops : List (List ℕ)) (name : List ℕ) → multiple (pos 1) (name_form parameters loops name) ≡ name_form parameters loops name
multiple_by_one parameters loops name =
    let f = name_form parameters loops name in same_form (scaled_by_one f.iterators) (scaled_by_one f.parameters) refl

-- the first parameter of the name
pub first_found : (p : ℤ) (rest : List (List ℕ)) (x name : List ℕ) (row new done all : List ℤ) (n : ℕ) → 1 ≤ length rest → x ≡ get_or rest 0 x → bytes_eq x name ≡ true
    → new ≡ row ++ p ∷ [] → done ≡ new ++ zeros n → n ≡ length rest - 1 → row ++ scale p (first_of_name rest name) ≡ all → done ≡ all
first_found p [] x name row new done all n some here same pushed filled count h = absurd (omega (arith, some))
first_found p (y ∷ rest) x name row new done all n some here same pushed filled count h =
    let few : n ≡ length rest = omega (arith, count) in
    let e : bytes_eq y name ≡ true = ap (λ t. bytes_eq t name) (sym here) ∙ same in
    filled ∙ ap (λ r. r ++ zeros n) pushed ∙ append_assoc row (p ∷ []) (zeros n) ∙ ap (λ k. row ++ p ∷ zeros k) few
    ∙ ap (λ t. row ++ t) (sym (ap (λ b. scale p (cond b (pos 1 ∷ zeros (length rest)) (pos 0 ∷ first_of_name rest name))) e
    ∙ ap (λ z. z ∷ scale p (zeros (length rest))) (times_one p) ∙ ap (λ zs. p ∷ zs) (scaled_zeros p (length rest))))
    ∙ h

-- a loop of the name hides its parameter
pub named_zeros : (p : ℤ) (b : Bool) (n : ℕ) (row : List ℤ) → b ≡ true → zeros n ≡ scale p (cond b (zeros n) row)
named_zeros p true n row e = sym (scaled_zeros p n)
named_zeros p false n row e = absurd (cc)
