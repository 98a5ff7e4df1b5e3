-- The place and the value of the last entry of a row that isn't 0.
use Rattle.std.proofs.Common.{◌≡◌, ◌≢◌, ℤ, pos, negsuc, ◌*ℤ◌, ℕ, zero, suc, ◌+◌, ◌-◌, ◌<◌, true, false, if◌then◌else◌, ◌&&◌, inl, inr, List, [], ◌∷◌, ◌++◌, length, take, refl, sym, ◌∙◌, ap, subst, arith}
use Rattle.std.proofs.lemmas.Int.{ints}
use Rattle.std.proofs.Math.IntN.{*ℤ-zero}
use Rattle.std.specs.Ordering.{int_eq}
use Rattle.std.proofs.lemmas.Bool.Decides.{Decides-int_eq}
use Rattle.beta_tree.proofs.Places.{bool_tells}
use Rattle.row_core.specs.Rows.{scale}
use Rattle.scop_core.specs.SolvedRows.{zeros}
use Rattle.chlore_recover.specs.Triangles.{IsSign, is_zero, is_sign, last_value, last_place}

pub int_yes : (x y : ℤ) → int_eq x y ≡ true → x ≡ y
int_yes x y h = (Decides-int_eq x y).0 h

pub int_self : (x : ℤ) → int_eq x x ≡ true
int_self x = (Decides-int_eq x x).1 refl

pub int_no : (x y : ℤ) → x ≢ y → int_eq x y ≡ false
int_no x y ne = elim (bool_tells (int_eq x y)) [ inl t ↦ absurd (ne (int_yes x y t)) | inr f ↦ f ]

-- g stands at place k, with zeros behind it
abbrev pub EndsAt : List ℤ → ℕ → ℤ → Type 0
EndsAt [] k g = ⊥
EndsAt (z ∷ row) zero g = (z ≡ g) × (is_zero row ≡ true)
EndsAt (z ∷ row) (suc k) g = EndsAt row k g

zero_or_ends : (row : List ℤ) → is_zero row ≡ true → last_value row ≡ pos 0
zero_or_ends [] h = refl
zero_or_ends (z ∷ row) h =
    elim (int_eq z (pos 0)) as (λ t. int_eq z (pos 0) ≡ t → (t && is_zero row) ≡ true → (if is_zero row then z else last_value row) ≡ pos 0) [
      | true ↦ λ e g. rw g (int_yes z (pos 0) e)
      | false ↦ λ e g. absurd (cc)
    ] refl h

pub last_ends : (row : List ℤ) → last_value row ≢ pos 0 → EndsAt row (last_place row) (last_value row)
last_ends [] ne = absurd (ne refl)
last_ends (z ∷ row) ne =
    elim (is_zero row) as (λ t. is_zero row ≡ t → (if t then z else last_value row) ≢ pos 0 → EndsAt (z ∷ row) (if t then 0 else last_place row + 1) (if t then z else last_value row)) [
      | true ↦ λ e n. (refl, e)
      | false ↦ λ e n. let s : suc (last_place row) ≡ last_place row + 1 = omega arith in subst (λ k. EndsAt (z ∷ row) k (last_value row)) s (last_ends row n)
    ] refl ne

ends_some : (row : List ℤ) (k : ℕ) (g : ℤ) → g ≢ pos 0 → EndsAt row k g → is_zero row ≡ false
ends_some [] k g ne h = absurd h
ends_some (z ∷ row) zero g ne (e, h) = rw (int_no z (pos 0) (λ q. ne (sym e ∙ q))) refl
ends_some (z ∷ row) (suc k) g ne h = rw (ends_some row k g ne h) (elim (int_eq z (pos 0)) as (λ t. (t && false) ≡ false) [ true ↦ refl | false ↦ refl ])

pub ends_last : (row : List ℤ) (k : ℕ) (g : ℤ) → g ≢ pos 0 → EndsAt row k g → (last_place row ≡ k) × (last_value row ≡ g)
ends_last [] k g ne h = absurd h
ends_last (z ∷ row) zero g ne (e, h) = rw h (refl, e)
ends_last (z ∷ row) (suc k) g ne h =
    let (a, b) = ends_last row k g ne h in
    rw (ends_some row k g ne h) (let s : last_place row + 1 ≡ suc k = omega arith in s, b)

pub ends_below : (row : List ℤ) (k : ℕ) (g : ℤ) → EndsAt row k g → k < length row
ends_below [] k g h = absurd h
ends_below (z ∷ row) zero g h = omega arith
ends_below (z ∷ row) (suc k) g h = let l = ends_below row k g h in omega arith

-- zeros

pub zero_row : (row : List ℤ) → is_zero row ≡ true → row ≡ zeros (length row)
zero_row [] h = refl
zero_row (z ∷ row) h =
    elim (int_eq z (pos 0)) as (λ t. int_eq z (pos 0) ≡ t → (t && is_zero row) ≡ true → z ∷ row ≡ zeros (length (z ∷ row))) [
      | true ↦ λ e g. let more = zero_row row g in let first : z ≡ pos 0 = int_yes z (pos 0) e in ap (λ q. q ∷ row) first ∙ ap (λ r. pos 0 ∷ r) more
      | false ↦ λ e g. absurd (cc)
    ] refl h

pub zeros_zero : (n : ℕ) → is_zero (zeros n) ≡ true
zeros_zero zero = refl
zeros_zero (suc n) = zeros_zero n

-- a row that ends at place k as one equation

pub ends_shape : (row : List ℤ) (k : ℕ) (g : ℤ) → EndsAt row k g → row ≡ take k row ++ g ∷ zeros (length row - (k + 1))
ends_shape [] k g h = absurd h
ends_shape (z ∷ row) zero g (e, h) =
    let n : length row ≡ length (z ∷ row) - (0 + 1) = omega arith in
    ap (λ q. q ∷ row) e ∙ ap (λ r. g ∷ r) (zero_row row h ∙ ap zeros n)
ends_shape (z ∷ row) (suc k) g h =
    let n : length row - (k + 1) ≡ length (z ∷ row) - (suc k + 1) = omega arith in
    ap (λ r. z ∷ r) (ends_shape row k g h ∙ ap (λ m. take k row ++ g ∷ zeros m) n)

pub shape_ends : (row : List ℤ) (k : ℕ) (g : ℤ) (rest : List ℤ) → is_zero rest ≡ true → row ≡ take k row ++ g ∷ rest → EndsAt row k g
shape_ends [] zero g rest h e = absurd (cc)
shape_ends [] (suc k) g rest h e = absurd (cc)
shape_ends (z ∷ row) zero g rest h e =
    let a : z ≡ g = cc in
    let b : row ≡ rest = cc in
    (a, subst (λ r. is_zero r ≡ true) (sym b) h)
shape_ends (z ∷ row) (suc k) g rest h e = shape_ends row k g rest h (cc)

-- multiples by a sign

pub sign_some : (g : ℤ) → IsSign g → g ≢ pos 0
sign_some g (inl e) q = let c : pos 1 ≡ pos 0 = sym e ∙ q in omega (arith, ints)
sign_some g (inr e) q = let c : negsuc 0 ≡ pos 0 = sym e ∙ q in omega (arith, ints)

pub sign_of_test : (g : ℤ) → is_sign g ≡ true → IsSign g
sign_of_test g h =
    elim (int_eq g (pos 1)) as (λ t. int_eq g (pos 1) ≡ t → IsSign g) [
      | true ↦ λ e. inl (int_yes g (pos 1) e)
      | false ↦ λ e. elim (bool_tells (int_eq g (negsuc 0))) [ inl t ↦ inr (int_yes g (negsuc 0) t) | inr f ↦ absurd (let k : is_sign g ≡ false = rw (e, f) refl in cc) ]
    ] refl

pub test_of_sign : (g : ℤ) → IsSign g → is_sign g ≡ true
test_of_sign g (inl e) = rw e refl
test_of_sign g (inr e) = rw e refl

pub sign_square : (g : ℤ) → IsSign g → g *ℤ g ≡ pos 1
sign_square g (inl e) = rw e refl
sign_square g (inr e) = rw e refl

pub sign_twice : (g z : ℤ) → IsSign g → g *ℤ (g *ℤ z) ≡ z
sign_twice g z (inl e) = rw e (omega (arith, ints))
sign_twice g z (inr e) = rw e (omega (arith, ints))

pub scale_twice : (g : ℤ) (row : List ℤ) → IsSign g → scale g (scale g row) ≡ row
scale_twice g [] s = refl
scale_twice g (z ∷ row) s = let a = sign_twice g z s in let b = scale_twice g row s in cc

pub length_scale : (g : ℤ) (row : List ℤ) → length (scale g row) ≡ length row
length_scale g [] = refl
length_scale g (z ∷ row) = let e = length_scale g row in omega arith

scale_zero : (g : ℤ) (row : List ℤ) → is_zero row ≡ true → is_zero (scale g row) ≡ true
scale_zero g [] h = refl
scale_zero g (z ∷ row) h =
    elim (int_eq z (pos 0)) as (λ t. int_eq z (pos 0) ≡ t → (t && is_zero row) ≡ true → is_zero (scale g (z ∷ row)) ≡ true) [
      | true ↦ λ e k. let none : g *ℤ z ≡ pos 0 = ap (λ q. g *ℤ q) (int_yes z (pos 0) e) ∙ *ℤ-zero g in rw none (scale_zero g row k)
      | false ↦ λ e k. absurd (cc)
    ] refl h

pub scale_ends : (h : ℤ) (row : List ℤ) (k : ℕ) (g : ℤ) → EndsAt row k g → EndsAt (scale h row) k (h *ℤ g)
scale_ends h [] k g e = absurd e
scale_ends h (z ∷ row) zero g (e, n) = (ap (λ q. h *ℤ q) e, scale_zero h row n)
scale_ends h (z ∷ row) (suc k) g e = scale_ends h row k g e
