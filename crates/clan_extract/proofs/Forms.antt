-- The form of an affine expression has the expression's value.
use Rattle.std.proofs.Common.{◌≡◌, ℕ, zero, suc, List, [], ◌∷◌, ◌++◌, length, map, Bool, true, false, cond, not, ◌&&◌, ◌||◌, refl, sym, ◌∙◌, ap, arith, ℤ, pos, negsuc, neg_ℤ, ◌+ℤ◌, ◌-ℤ◌, ◌*ℤ◌}
use Rattle.std.specs.Prelude.{bytes_eq}
use Rattle.std.proofs.lemmas.Int.{ints}
use Rattle.row_core.specs.Rows.{dot}
use Rattle.row_core.specs.Linear.{dot_add, dot_scale, mul_add_z, mul_comm_z}
use Rattle.scop_core.specs.SolvedRows.{zeros}
use Rattle.scop_core.specs.Meaning.{affine_at}
use Rattle.scop_data.specs.declared.affines.Affine.{Affine}
use Rattle.clan_extract.specs.Regions.{Expression, Number, Name, Sum, Difference, Product, Negation, Maximum, Minimum, Ceiling, Floor, Remainder, is_among}
use Rattle.clan_extract.specs.Execution.{Binding, Setting, parameter_value, value_inside, name_value, value_of}
use Rattle.clan_extract.specs.Forms.{has_names, is_affine, innermost, first_of_name, constant_form, sum_of, multiple, opposite_of, difference, form}

pub both_true : (r s : Bool) → (r && s) ≡ true → (r ≡ true) × (s ≡ true)
both_true true true h = (refl, refl)
both_true true false h = absurd cc
both_true false s h = absurd cc

-- the names and the values of loops that are running
abbrev pub names : List Binding → List (List ℕ)
names loops = map (λ b. b.name) loops

abbrev pub values : List Binding → List ℤ
values loops = map (λ b. b.value) loops

pub dot_zeros : (k : ℕ) (x : List ℤ) → dot (zeros k) x ≡ pos 0
dot_zeros zero x = refl
dot_zeros (suc k) [] = refl
dot_zeros (suc k) (v ∷ x) = omega (arith, ints, dot_zeros k x)

-- a row of coefficients of loops without the name is nought
not_among_is_zero : (loops : List Binding) (name : List ℕ) (more : List ℤ) → is_among name (names loops) ≡ false → dot (innermost (names loops) name) (values loops ++ more) ≡ pos 0
not_among_is_zero [] name more e = refl
not_among_is_zero (b ∷ loops) name more e = by (bytes_eq b.name name) (is_among name (names loops)) refl refl e (not_among_is_zero loops name more)
  where
    by : (t a : Bool) → bytes_eq b.name name ≡ t → is_among name (names loops) ≡ a → (t || a) ≡ false
        → (is_among name (names loops) ≡ false → dot (innermost (names loops) name) (values loops ++ more) ≡ pos 0)
        → dot (innermost (names (b ∷ loops)) name) (values (b ∷ loops) ++ more) ≡ pos 0
    by true a f g h rest = absurd cc
    by false true f g h rest = absurd cc
    by false false f g h rest = rw f (omega (arith, ints, rest g))

-- the value of a name inside loops: of the innermost loop of the name, or the given one
name_inside : (loops : List Binding) (name : List ℕ) (given : ℤ) (more : List ℤ)
    → value_inside loops name given ≡ cond (is_among name (names loops)) (dot (innermost (names loops) name) (values loops ++ more)) given
name_inside [] name given more = refl
name_inside (b ∷ loops) name given more =
    name_inside loops name (cond (bytes_eq b.name name) b.value given) more ∙ by (bytes_eq b.name name) (is_among name (names loops)) refl refl
  where
    by : (t a : Bool) → bytes_eq b.name name ≡ t → is_among name (names loops) ≡ a
        → cond (is_among name (names loops)) (dot (innermost (names loops) name) (values loops ++ more)) (cond (bytes_eq b.name name) b.value given)
        ≡ cond (is_among name (names (b ∷ loops))) (dot (innermost (names (b ∷ loops)) name) (values (b ∷ loops) ++ more)) given
    by true true f g = rw g (rw f (omega (arith, ints)))
    by true false f g = rw g (rw f (omega (arith, ints, not_among_is_zero loops name more g)))
    by false true f g = rw g (rw f (omega (arith, ints)))
    by false false f g = rw g (rw f refl)

parameter_is : (parameters : List (List ℕ)) (n : List ℤ) (name : List ℕ) → dot (first_of_name parameters name) n ≡ parameter_value parameters n name
parameter_is [] n name = refl
parameter_is (x ∷ parameters) [] name = by (bytes_eq x name)
  where
    by : (t : Bool) → dot (cond t (pos 1 ∷ zeros (length parameters)) (pos 0 ∷ first_of_name parameters name)) [] ≡ pos 0
    by true = refl
    by false = refl
parameter_is (x ∷ parameters) (v ∷ n) name = by (bytes_eq x name) (parameter_is parameters n name)
  where
    by : (t : Bool) → dot (first_of_name parameters name) n ≡ parameter_value parameters n name
        → dot (cond t (pos 1 ∷ zeros (length parameters)) (pos 0 ∷ first_of_name parameters name)) (v ∷ n) ≡ cond t v (parameter_value parameters n name)
    by true rest = omega (arith, ints, dot_zeros (length parameters) n)
    by false rest = omega (arith, ints, rest)

-- values of sums and multiples
pub sum_at : (f g : Affine) (x n : List ℤ) → affine_at (sum_of f g) x [] n ≡ affine_at f x [] n +ℤ affine_at g x [] n
sum_at f g x n = omega (arith, ints, dot_add f.iterators g.iterators x, dot_add f.parameters g.parameters n, dot_nothing f.floors, dot_nothing g.floors)
  where
    dot_nothing : (a : List ℤ) → dot a [] ≡ pos 0
    dot_nothing [] = refl
    dot_nothing (c ∷ a) = refl

pub multiple_at : (p : ℤ) (f : Affine) (x n : List ℤ) → affine_at (multiple p f) x [] n ≡ p *ℤ affine_at f x [] n
multiple_at p f x n =
    omega (
      arith,
      ints,
      dot_scale p f.iterators x,
      dot_scale p f.parameters n,
      dot_nothing f.floors,
      mul_add_z p (dot f.iterators x) (dot f.floors []),
      mul_add_z p (dot f.iterators x +ℤ dot f.floors []) (dot f.parameters n),
      mul_add_z p ((dot f.iterators x +ℤ dot f.floors []) +ℤ dot f.parameters n) f.constant,
      ap (λ z. p *ℤ z) (dot_nothing f.floors),
    )
  where
    dot_nothing : (a : List ℤ) → dot a [] ≡ pos 0
    dot_nothing [] = refl
    dot_nothing (c ∷ a) = refl

pub opposite_at : (f : Affine) (x n : List ℤ) → affine_at (opposite_of f) x [] n ≡ neg_ℤ (affine_at f x [] n)
opposite_at f x n = omega (arith, ints, multiple_at (negsuc 0) f x n)

pub difference_at : (f g : Affine) (z : ℤ) (x n : List ℤ) → affine_at (difference f g z) x [] n ≡ (affine_at f x [] n -ℤ affine_at g x [] n) +ℤ z
difference_at f g z x n = omega (arith, ints, sum_at f (opposite_of g) x n, opposite_at g x n)

constant_at : (parameters loops : List (List ℕ)) (z : ℤ) (x n : List ℤ) → affine_at (constant_form parameters loops z) x [] n ≡ z
constant_at parameters loops z x n = omega (arith, ints, dot_zeros (length loops) x, dot_zeros (length parameters) n)

-- a form of an expression without names is its constant
module _ (parameters loops : List (List ℕ)) (x n : List ℤ) where
  or_false : (r s : Bool) → (r || s) ≡ false → (r ≡ false) × (s ≡ false)
  or_false true s h = absurd cc
  or_false false true h = absurd cc
  or_false false false h = (refl, refl)

  pub nameless : (e : Expression) → has_names e ≡ false → affine_at (form parameters loops e) x [] n ≡ (form parameters loops e).constant
  nameless (Number value) h = constant_at parameters loops (pos value) x n
  nameless (Name name) h = absurd cc
  nameless (Sum left right) h =
      let t = or_false (has_names left) (has_names right) h in
      omega (arith, ints, sum_at (form parameters loops left) (form parameters loops right) x n, nameless left t.0, nameless right t.1)
  nameless (Difference left right) h =
      let t = or_false (has_names left) (has_names right) h in
      omega (arith, ints, sum_at (form parameters loops left) (opposite_of (form parameters loops right)) x n, opposite_at (form parameters loops right) x n, nameless left t.0, nameless right t.1)
  nameless (Product left right) h =
      let t = or_false (has_names left) (has_names right) h in
      let f = form parameters loops left in
      let g = form parameters loops right in
      rw t.0 (multiple_at f.constant g x n ∙ ap (λ z. f.constant *ℤ z) (nameless right t.1))
  nameless (Negation of) h = omega (arith, ints, opposite_at (form parameters loops of) x n, nameless of h)
  nameless (Maximum left right) h = constant_at parameters loops (pos 0) x n
  nameless (Minimum left right) h = constant_at parameters loops (pos 0) x n
  nameless (Ceiling of divisor) h = constant_at parameters loops (pos 0) x n
  nameless (Floor of divisor) h = constant_at parameters loops (pos 0) x n
  nameless (Remainder of divisor) h = constant_at parameters loops (pos 0) x n

-- the form's value at the values of the loops, and of any loops inside them, is the expression's
module _ (setting : Setting) (loops : List Binding) (more : List ℤ) where
  abbrev at : Affine → ℤ
  at f = affine_at f (values loops ++ more) [] setting.values

  abbrev of : Expression → Affine
  of e = form setting.parameters (names loops) e

  name_has : (name : List ℕ) → at (of (Name name)) ≡ name_value setting loops name
  name_has name = by (is_among name (names loops)) refl
    where
      by : (t : Bool) → is_among name (names loops) ≡ t → at (of (Name name)) ≡ name_value setting loops name
      by true e =
          omega (
            arith,
            ints,
            ap (λ b. dot (cond b (zeros (length setting.parameters)) (first_of_name setting.parameters name)) setting.values) e,
            dot_zeros (length setting.parameters) setting.values,
            name_inside loops name (parameter_value setting.parameters setting.values name) more,
            ap (λ b. cond b (dot (innermost (names loops) name) (values loops ++ more)) (parameter_value setting.parameters setting.values name)) e,
          )
      by false e =
          omega (
            arith,
            ints,
            ap (λ b. dot (cond b (zeros (length setting.parameters)) (first_of_name setting.parameters name)) setting.values) e,
            not_among_is_zero loops name more e,
            parameter_is setting.parameters setting.values name,
            name_inside loops name (parameter_value setting.parameters setting.values name) more,
            ap (λ b. cond b (dot (innermost (names loops) name) (values loops ++ more)) (parameter_value setting.parameters setting.values name)) e,
          )

  pub form_has : (e : Expression) → is_affine e ≡ true → at (of e) ≡ value_of setting loops e
  form_has (Number value) h = constant_at setting.parameters (names loops) (pos value) (values loops ++ more) setting.values
  form_has (Name name) h = name_has name
  form_has (Sum left right) h =
      let t = both_true (is_affine left) (is_affine right) h in
      omega (arith, ints, sum_at (of left) (of right) (values loops ++ more) setting.values, form_has left t.0, form_has right t.1)
  form_has (Difference left right) h =
      let t = both_true (is_affine left) (is_affine right) h in
      omega (arith, ints, sum_at (of left) (opposite_of (of right)) (values loops ++ more) setting.values, opposite_at (of right) (values loops ++ more) setting.values, form_has left t.0, form_has right t.1)
  form_has (Product left right) h =
      let t = both_true (is_affine left && is_affine right) (not (has_names left && has_names right)) h in
      let u = both_true (is_affine left) (is_affine right) t.0 in
      by (has_names left) (has_names right) refl refl t.1 (form_has left u.0) (form_has right u.1)
    where
      by : (a b : Bool) → has_names left ≡ a → has_names right ≡ b → not (a && b) ≡ true → at (of left) ≡ value_of setting loops left → at (of right) ≡ value_of setting loops right
          → at (of (Product left right)) ≡ value_of setting loops left *ℤ value_of setting loops right
      by true true f g h l r = absurd cc
      by true false f g h l r =
          let q = nameless setting.parameters (names loops) (values loops ++ more) setting.values right g in
          rw f (multiple_at (of right).constant (of left) (values loops ++ more) setting.values
          ∙ mul_comm_z (of right).constant (at (of left)) ∙ ap (λ z. at (of left) *ℤ z) (sym q ∙ r) ∙ ap (λ z. z *ℤ value_of setting loops right) l)
      by false b f g h l r =
          let q = nameless setting.parameters (names loops) (values loops ++ more) setting.values left f in
          rw f (multiple_at (of left).constant (of right) (values loops ++ more) setting.values
          ∙ ap (λ z. z *ℤ at (of right)) (sym q ∙ l) ∙ ap (λ z. value_of setting loops left *ℤ z) r)
  form_has (Negation of') h = omega (arith, ints, opposite_at (of of') (values loops ++ more) setting.values, form_has of' h)
  form_has (Maximum left right) h = absurd cc
  form_has (Minimum left right) h = absurd cc
  form_has (Ceiling of' divisor) h = absurd cc
  form_has (Floor of' divisor) h = absurd cc
  form_has (Remainder of' divisor) h = absurd cc
