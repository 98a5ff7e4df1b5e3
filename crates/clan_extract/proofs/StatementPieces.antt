-- Sizes and lengths of what the statements of a region are made of.
use Rattle.std.proofs.Common.{◌≡◌, inl, inr, ℕ, ◌≤◌, List, [], ◌∷◌, ◌++◌, length, map, Bool, true, false, cond, refl, sym, ◌∙◌, ap, arith, ℤ, pos, negsuc, ◌+ℤ◌, ◌≤ℤ◌}
use Rattle.std.specs.Prelude.{All, nat_lt, bytes_eq}
use Rattle.std.proofs.lemmas.Int.{ints}
use Rattle.std.proofs.lemmas.List.{length-map}
use Rattle.std.proofs.lemmas.List.Elements.{All-nil, All-cons}
use Rattle.scop_core.specs.Sequences.{In}
use Rattle.scop_data.specs.declared.affines.Affine.{Affine}
use Rattle.scop_data.specs.declared.accesses.Access.{Access}
use Rattle.scop_core.specs.declared.limits.PartCount.TheVariants.{OutputCount}
use Rattle.scop_core.specs.SolvedRows.{zeros, HasSizes}
use Rattle.scop_core.specs.Assembly.{some_above, the_part}
use Rattle.scop_core.specs.Printable.{has_part}
use Rattle.scop_core.proofs.ReadBackPieces.{neither, or_false, at_most, not_above, Small}
use Rattle.clan_extract.specs.Regions.{Expression, Number, Name, Sum, Difference, Product, Negation, Maximum, Minimum, Ceiling, Floor, Remainder, Comparison, IsLess, IsLessOrEqual, IsGreater, IsGreaterOrEqual, IsEqual, IsUnequal, Condition, Compare, Both, Either, Opposite, number_in}
use Rattle.clan_extract.specs.Forms.{has_names, first_of_name, multiple, form}
use Rattle.clan_extract.specs.Placements.{Round, Loop, Test}
use Rattle.clan_extract.specs.Constraints.{Constraint, joined, comparison_parts, remainder_parts, parts_of_sides, opposite_comparison, parts_of_condition, loop_constraints, parts_of}
use Rattle.clan_extract.specs.Scops.{part, diagonal}
use Rattle.clan_extract.specs.Refusals.{subscripts_above}
use Rattle.clan_extract.proofs.Members.{of_map}
use Rattle.clan_extract.proofs.Bounds.{length_zeros, length_sum, length_scale, length_form}

-- a form has one coefficient for each parameter, and none of floors
length_first : (parameters : List (List ℕ)) (name : List ℕ) → length (first_of_name parameters name) ≡ length parameters
length_first [] name = refl
length_first (x ∷ parameters) name = by (bytes_eq x name) (length_first parameters name)
  where
    by : (t : Bool) → length (first_of_name parameters name) ≡ length parameters
        → length (cond t (pos 1 ∷ zeros (length parameters)) (pos 0 ∷ first_of_name parameters name)) ≡ length (x ∷ parameters)
    by true rest = omega (arith, length_zeros (length parameters))
    by false rest = omega (arith, rest)

length_name : (parameters : List (List ℕ)) (name : List ℕ) (t : Bool) → length (cond t (zeros (length parameters)) (first_of_name parameters name)) ≡ length parameters
length_name parameters name true = length_zeros (length parameters)
length_name parameters name false = length_first parameters name

pub length_parameters : (parameters loops : List (List ℕ)) (e : Expression) → length (form parameters loops e).parameters ≡ length parameters
length_parameters parameters loops (Number value) = length_zeros (length parameters)
length_parameters parameters loops (Name name) = length_name parameters name _
length_parameters parameters loops (Sum left right) = length_sum _ _ _ (length_parameters parameters loops left) (length_parameters parameters loops right)
length_parameters parameters loops (Difference left right) =
    length_sum _ _ _ (length_parameters parameters loops left) (length_scale (negsuc 0) (form parameters loops right).parameters ∙ length_parameters parameters loops right)
length_parameters parameters loops (Product left right) = by (has_names left) (length_parameters parameters loops left) (length_parameters parameters loops right)
  where
    by : (t : Bool) → length (form parameters loops left).parameters ≡ length parameters → length (form parameters loops right).parameters ≡ length parameters
        → length (cond t (multiple (form parameters loops right).constant (form parameters loops left)) (multiple (form parameters loops left).constant (form parameters loops right))).parameters ≡ length parameters
    by true l r = length_scale (form parameters loops right).constant (form parameters loops left).parameters ∙ l
    by false l r = length_scale (form parameters loops left).constant (form parameters loops right).parameters ∙ r
length_parameters parameters loops (Negation of) = length_scale (negsuc 0) (form parameters loops of).parameters ∙ length_parameters parameters loops of
length_parameters parameters loops (Maximum left right) = length_zeros (length parameters)
length_parameters parameters loops (Minimum left right) = length_zeros (length parameters)
length_parameters parameters loops (Ceiling of divisor) = length_zeros (length parameters)
length_parameters parameters loops (Floor of divisor) = length_zeros (length parameters)
length_parameters parameters loops (Remainder of divisor) = length_zeros (length parameters)

no_floors : (parameters loops : List (List ℕ)) (e : Expression) → length (form parameters loops e).floors ≡ 0
no_floors parameters loops (Number value) = refl
no_floors parameters loops (Name name) = refl
no_floors parameters loops (Sum left right) = refl
no_floors parameters loops (Difference left right) = refl
no_floors parameters loops (Product left right) = by (has_names left)
  where
    by : (t : Bool) → length (cond t (multiple (form parameters loops right).constant (form parameters loops left)) (multiple (form parameters loops left).constant (form parameters loops right))).floors ≡ 0
    by true = refl
    by false = refl
no_floors parameters loops (Negation of) = refl
no_floors parameters loops (Maximum left right) = refl
no_floors parameters loops (Minimum left right) = refl
no_floors parameters loops (Ceiling of divisor) = refl
no_floors parameters loops (Floor of divisor) = refl
no_floors parameters loops (Remainder of divisor) = refl

form_sizes : (parameters loops : List (List ℕ)) (e : Expression) → HasSizes (length loops) 0 (length parameters) (form parameters loops e)
form_sizes parameters loops e = record { iterators_are = length_form parameters loops e; floors_are = no_floors parameters loops e; parameters_are = length_parameters parameters loops e }

pub subscript_sizes : (parameters loops : List (List ℕ)) (es : List Expression) → All (HasSizes (length loops) 0 (length parameters)) (map (λ e. form parameters loops e) es)
subscript_sizes parameters loops [] = All-nil (HasSizes (length loops) 0 (length parameters))
subscript_sizes parameters loops (e ∷ es) =
    All-cons (HasSizes (length loops) 0 (length parameters)) (form parameters loops e) (map (λ e. form parameters loops e) es) (form_sizes parameters loops e) (subscript_sizes parameters loops es)

-- the levels have their sizes
pub level_sizes : (k m : ℕ) (rows : List (List ℤ)) → ((row : List ℤ) → In row rows → length row ≡ m)
    → All (HasSizes m 0 k) (map (λ row. record { iterators = row; floors = []; parameters = zeros k; constant = pos 0 }) rows)
level_sizes k m [] h = All-nil (HasSizes m 0 k)
level_sizes k m (row ∷ rows) h =
    All-cons (HasSizes m 0 k) (record { iterators = row; floors = []; parameters = zeros k; constant = pos 0 }) (map (λ row. record { iterators = row; floors = []; parameters = zeros k; constant = pos 0 }) rows)
    (record { iterators_are = h row (inl refl); floors_are = refl; parameters_are = length_zeros k }) (level_sizes k m rows (λ r i. h r (inr i)))

pub length_diagonal : (ds : List ℤ) → length (diagonal ds) ≡ length ds
length_diagonal [] = refl
length_diagonal (d ∷ ds) = omega (arith, length-map (diagonal ds) (λ row. pos 0 ∷ row), length_diagonal ds)

pub diagonal_lengths : (ds row : List ℤ) → In row (diagonal ds) → length row ≡ length ds
diagonal_lengths [] row i = absurd i
diagonal_lengths (d ∷ ds) row (inl e) = ap length (sym e) ∙ omega (arith, length_zeros (length ds))
diagonal_lengths (d ∷ ds) row (inr i) =
    let r = of_map (λ row. pos 0 ∷ row) row (diagonal ds) i in
    let same : length r.0 ≡ length ds = diagonal_lengths ds r.0 r.1 in
    ap length (sym r.2) ∙ omega (arith, same)

-- no list of parts is empty
abbrev HasSome : List (List Constraint) → Type 0
HasSome ps = 1 ≤ length ps

some_append : (ps qs : List (List Constraint)) → HasSome ps → HasSome (ps ++ qs)
some_append [] qs h = absurd (omega (arith, h))
some_append (p ∷ ps) qs h = omega arith

some_joined : (ps qs : List (List Constraint)) → HasSome ps → HasSome qs → HasSome (joined ps qs)
some_joined [] qs h k = absurd (omega (arith, h))
some_joined (p ∷ ps) qs h k = some_append (map (λ q. p ++ q) qs) (joined ps qs) (omega (arith, k, length-map qs (λ q. p ++ q)))

some_comparison : (comparison : Comparison) (f g : Affine) → HasSome (comparison_parts comparison f g)
some_comparison IsLess f g = omega arith
some_comparison IsLessOrEqual f g = omega arith
some_comparison IsGreater f g = omega arith
some_comparison IsGreaterOrEqual f g = omega arith
some_comparison IsEqual f g = omega arith
some_comparison IsUnequal f g = omega arith

some_remainder : (comparison : Comparison) (f : Affine) (d : ℕ) → HasSome (remainder_parts comparison f d)
some_remainder IsLess f d = omega arith
some_remainder IsLessOrEqual f d = omega arith
some_remainder IsGreater f d = omega arith
some_remainder IsGreaterOrEqual f d = omega arith
some_remainder IsEqual f d = omega arith
some_remainder IsUnequal f d = omega arith

module _ (parameters : List (List ℕ)) where
  some_sides : (loops : List (List ℕ)) (comparison : Comparison) (left right : Expression) → HasSome (parts_of_sides parameters loops comparison left right)
  some_sides loops comparison (Number value) right = some_comparison comparison _ _
  some_sides loops comparison (Name name) right = some_comparison comparison _ _
  some_sides loops comparison (Sum a b) right = some_comparison comparison _ _
  some_sides loops comparison (Difference a b) right = some_comparison comparison _ _
  some_sides loops comparison (Product a b) right = some_comparison comparison _ _
  some_sides loops comparison (Negation e) right = some_comparison comparison _ _
  some_sides loops comparison (Maximum a b) right = some_comparison comparison _ _
  some_sides loops comparison (Minimum a b) right = some_comparison comparison _ _
  some_sides loops comparison (Ceiling e d) right = some_comparison comparison _ _
  some_sides loops comparison (Floor e d) right = some_comparison comparison _ _
  some_sides loops comparison (Remainder e d) right = some_remainder comparison _ d

  pub some_condition : (loops : List (List ℕ)) (c : Condition) (truth : Bool) → HasSome (parts_of_condition parameters loops truth c)
  some_condition loops (Compare comparison left right) true = some_sides loops comparison left right
  some_condition loops (Compare comparison left right) false = some_sides loops (opposite_comparison comparison) left right
  some_condition loops (Both left right) true = some_joined _ _ (some_condition loops left true) (some_condition loops right true)
  some_condition loops (Both left right) false = some_append _ _ (some_condition loops left false)
  some_condition loops (Either left right) true = some_append _ _ (some_condition loops left true)
  some_condition loops (Either left right) false = some_joined _ _ (some_condition loops left false) (some_condition loops right false)
  some_condition loops (Opposite of) true = some_condition loops of false
  some_condition loops (Opposite of) false = some_condition loops of true

  pub some_parts : (loops : List (List ℕ)) (rounds : List Round) → HasSome (parts_of parameters loops rounds)
  some_parts loops [] = omega arith
  some_parts loops (Loop head ∷ rounds) = some_joined (loop_constraints parameters loops head ∷ []) _ (omega arith) (some_parts (loops ++ head.name ∷ []) rounds)
  some_parts loops (Test truth c ∷ rounds) = some_joined _ _ (some_condition loops c truth) (some_parts loops rounds)

-- parts over so many iterators
pub has_parts : (m k : ℕ) (ps : List (List Constraint)) → HasSome ps → (has_part (map (part m k) ps) ≡ true) × ((the_part (map (part m k) ps)).shape.outputs ≡ m)
has_parts m k [] h = absurd (omega (arith, h))
has_parts m k (p ∷ ps) h = (refl, refl)

pub few_outputs : (m k : ℕ) (ps : List (List Constraint)) → m ≤ 12 → some_above OutputCount 12 (map (part m k) ps) ≡ false
few_outputs m k [] h = refl
few_outputs m k (p ∷ ps) h = or_false _ _ (not_above 12 m h) (few_outputs m k ps h)

pub small : (xs : List Access) → subscripts_above xs ≡ false → Small xs
small [] h = tt
small (a ∷ xs) h = let t = neither (nat_lt 12 (length a.subscripts)) (subscripts_above xs) h in (at_most 12 (length a.subscripts) t.0, small xs t.1)

-- numbers of arrays are at least 1
pub positive : (arrays : List (List ℕ)) (name : List ℕ) → 1 ≤ length arrays → pos 1 ≤ℤ number_in arrays name
positive [] name h = absurd (omega (arith, h))
positive (x ∷ arrays) name h = by (bytes_eq x name) (natural arrays name)
  where
    natural : (xs : List (List ℕ)) (name : List ℕ) → pos 0 ≤ℤ number_in xs name
    natural [] name = omega (arith, ints)
    natural (y ∷ xs) name = by' (bytes_eq y name) (natural xs name)
      where
        by' : (t : Bool) → pos 0 ≤ℤ number_in xs name → pos 0 ≤ℤ cond t (pos 1) (pos 1 +ℤ number_in xs name)
        by' true n = omega (arith, ints)
        by' false n = omega (arith, ints)

    by : (t : Bool) → pos 0 ≤ℤ number_in arrays name → pos 1 ≤ℤ cond t (pos 1) (pos 1 +ℤ number_in arrays name)
    by true n = omega (arith, ints)
    by false n = omega (arith, ints)
