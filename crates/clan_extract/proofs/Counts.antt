-- The counts are those of the parts.
use Rattle.std.proofs.Common.{◌≡◌, ℕ, ◌+◌, ◌*◌, ◌≤◌, ◌<◌, List, [], ◌∷◌, ◌++◌, length, map, Bool, true, false, ◌||◌, cond, refl, sym, ◌∙◌, ap, arith, ℤ, pos, negsuc, neg_ℤ}
use Rattle.std.specs.Prelude.{max, nat_lt, nat_eq, unsigned_abs}
use Rattle.std.proofs.lemmas.List.{length-append, length-map}
use Rattle.std.proofs.lemmas.Bool.Decides.{Decides-ltb}
use Rattle.relation_core.specs.declared.part_rows.RowKind.TheVariants.{Equal}
use Rattle.scop_data.specs.declared.affines.Affine.{Affine}
use Rattle.scop_core.specs.declared.limits.PartCount.TheVariants.{LocalCount, RowCount}
use Rattle.scop_core.specs.Assembly.{some_above}
use Rattle.clan_extract.specs.Regions.{Expression, Number, Name, Sum, Difference, Product, Negation, Maximum, Minimum, Ceiling, Floor, Remainder, Comparison, IsLess, IsLessOrEqual, IsGreater, IsGreaterOrEqual, IsEqual, IsUnequal, Condition, Compare, Both, Either, Opposite}
use Rattle.clan_extract.specs.Placements.{Head, Round, Loop, Test}
use Rattle.clan_extract.specs.Constraints.{Constraint, lower_rows, upper_rows, loop_rows, stride_form, loop_constraints, joined, comparison_parts, remainder_parts, parts_of_sides, opposite_comparison, parts_of_condition, parts_of}
use Rattle.clan_extract.specs.Scops.{locals_in, local_columns, part, part_row, part_rows}
use Rattle.clan_extract.specs.Counts.{Count, one_part, in_turn, crossed, lower_count, upper_count, bounds_count, loop_count, affine_count, remainder_count, sides_count, condition_count, rounds_count, PartsAreCounted}
use Rattle.scop_core.proofs.ReadBackPieces.{at_most, not_above}
use Rattle.clan_extract.proofs.StatementPieces.{some_condition, some_parts}

abbrev rows_in : List Constraint → ℕ
rows_in [] = 0
rows_in (c ∷ cs) = length c.rows + rows_in cs

rows_append : (p q : List Constraint) → rows_in (p ++ q) ≡ rows_in p + rows_in q
rows_append [] q = omega arith
rows_append (c ∷ p) q = omega (arith, rows_append p q)

locals_append : (p q : List Constraint) → locals_in (p ++ q) ≡ locals_in p + locals_in q
locals_append [] q = omega arith
locals_append (c ∷ p) q = omega (arith, locals_append p q)

-- the greatest number over some parts
abbrev most : (List Constraint → ℕ) → List (List Constraint) → ℕ
most f [] = 0
most f (p ∷ ps) = max (f p) (most f ps)

most_append : (f : List Constraint → ℕ) (ps qs : List (List Constraint)) → most f (ps ++ qs) ≡ max (most f ps) (most f qs)
most_append f [] qs = omega arith
most_append f (p ∷ ps) qs = omega (arith, most_append f ps qs)

length_joined : (ps qs : List (List Constraint)) → length (joined ps qs) ≡ length ps * length qs
length_joined [] qs = omega arith
length_joined (p ∷ ps) qs =
    omega (arith, length-append (map (λ q. p ++ q) qs) (joined ps qs), length-map qs (λ q. p ++ q), length_joined ps qs)

-- a number that is the sum over appended constraints
module _ (f : List Constraint → ℕ) (sum : (p q : List Constraint) → f (p ++ q) ≡ f p + f q) where
  most_each : (p : List Constraint) (qs : List (List Constraint)) → 1 ≤ length qs → most f (map (λ q. p ++ q) qs) ≡ f p + most f qs
  most_each p [] h = absurd (omega (arith, h))
  most_each p (q ∷ []) h = omega (arith, sum p q)
  most_each p (q ∷ (r ∷ qs)) h = omega (arith, sum p q, most_each p (r ∷ qs) (omega arith))

  most_joined : (ps qs : List (List Constraint)) → 1 ≤ length ps → 1 ≤ length qs → most f (joined ps qs) ≡ most f ps + most f qs
  most_joined [] qs h k = absurd (omega (arith, h))
  most_joined (p ∷ []) qs h k = omega (arith, most_append f (map (λ q. p ++ q) qs) [], most_each p qs k)
  most_joined (p ∷ (r ∷ ps)) qs h k =
      omega (arith, most_append f (map (λ q. p ++ q) qs) (joined (r ∷ ps) qs), most_each p qs k, most_joined (r ∷ ps) qs (omega arith) k)

-- the counts of parts that are made
abbrev measure : List (List Constraint) → Count
measure ps = record { parts = length ps; rows = most rows_in ps; locals = most locals_in ps }

count_with : ℕ → ℕ → ℕ → Count
count_with parts rows locals = record { parts = parts; rows = rows; locals = locals }

same_count : (a b c d e f : ℕ) → a ≡ d → b ≡ e → c ≡ f → count_with a b c ≡ count_with d e f
same_count a b c d e f p q r = ap (λ z. count_with z b c) p ∙ ap (λ z. count_with d z c) q ∙ ap (λ z. count_with d e z) r

measure_append : (ps qs : List (List Constraint)) → measure (ps ++ qs) ≡ in_turn (measure ps) (measure qs)
unfolding count_with
measure_append ps qs =
    same_count (length (ps ++ qs)) (most rows_in (ps ++ qs)) (most locals_in (ps ++ qs)) (length ps + length qs) (max (most rows_in ps) (most rows_in qs)) (max (most locals_in ps) (most locals_in qs))
    (length-append ps qs) (most_append rows_in ps qs) (most_append locals_in ps qs)

measure_joined : (ps qs : List (List Constraint)) → 1 ≤ length ps → 1 ≤ length qs → measure (joined ps qs) ≡ crossed (measure ps) (measure qs)
unfolding count_with
measure_joined ps qs h k =
    same_count (length (joined ps qs)) (most rows_in (joined ps qs)) (most locals_in (joined ps qs)) (length ps * length qs) (most rows_in ps + most rows_in qs) (most locals_in ps + most locals_in qs)
    (length_joined ps qs) (most_joined rows_in rows_append ps qs h k) (most_joined locals_in locals_append ps qs h k)

-- rows of bounds
module _ (parameters : List (List ℕ)) where
  lower_length : (loops : List (List ℕ)) (s : ℤ) (e : Expression) → length (lower_rows parameters loops s e) ≡ lower_count e
  lower_length loops s (Number value) = refl
  lower_length loops s (Name name) = refl
  lower_length loops s (Sum a b) = refl
  lower_length loops s (Difference a b) = refl
  lower_length loops s (Product a b) = refl
  lower_length loops s (Negation e) = refl
  lower_length loops s (Maximum a b) = omega (arith, length-append (lower_rows parameters loops s a) (lower_rows parameters loops s b), lower_length loops s a, lower_length loops s b)
  lower_length loops s (Minimum a b) = refl
  lower_length loops s (Ceiling e d) = refl
  lower_length loops s (Floor e d) = refl
  lower_length loops s (Remainder e d) = refl

  upper_length : (loops : List (List ℕ)) (s : ℤ) (e : Expression) → length (upper_rows parameters loops s e) ≡ upper_count e
  upper_length loops s (Number value) = refl
  upper_length loops s (Name name) = refl
  upper_length loops s (Sum a b) = refl
  upper_length loops s (Difference a b) = refl
  upper_length loops s (Product a b) = refl
  upper_length loops s (Negation e) = refl
  upper_length loops s (Maximum a b) = refl
  upper_length loops s (Minimum a b) = omega (arith, length-append (upper_rows parameters loops s a) (upper_rows parameters loops s b), upper_length loops s a, upper_length loops s b)
  upper_length loops s (Ceiling e d) = refl
  upper_length loops s (Floor e d) = refl
  upper_length loops s (Remainder e d) = refl

  bounds_length : (loops : List (List ℕ)) (h : Head) (comparison : Comparison) → length (loop_rows parameters loops h comparison) ≡ bounds_count h comparison
  bounds_length loops h IsLess =
      omega (arith, length-append (lower_rows parameters loops (pos 0) h.start) (upper_rows parameters loops (pos 1) h.bound), lower_length loops (pos 0) h.start, upper_length loops (pos 1) h.bound)
  bounds_length loops h IsLessOrEqual =
      omega (arith, length-append (lower_rows parameters loops (pos 0) h.start) (upper_rows parameters loops (pos 0) h.bound), lower_length loops (pos 0) h.start, upper_length loops (pos 0) h.bound)
  bounds_length loops h IsGreater =
      omega (arith, length-append (upper_rows parameters loops (pos 0) h.start) (lower_rows parameters loops (negsuc 0) h.bound), upper_length loops (pos 0) h.start, lower_length loops (negsuc 0) h.bound)
  bounds_length loops h IsGreaterOrEqual =
      omega (arith, length-append (upper_rows parameters loops (pos 0) h.start) (lower_rows parameters loops (pos 0) h.bound), upper_length loops (pos 0) h.start, lower_length loops (pos 0) h.bound)
  bounds_length loops h IsEqual = refl
  bounds_length loops h IsUnequal = refl

  loop_measure : (loops : List (List ℕ)) (h : Head) → measure (loop_constraints parameters loops h ∷ []) ≡ loop_count h
  unfolding count_with
  loop_measure loops h = by (nat_eq (unsigned_abs h.step) 1) (bounds_length loops h h.comparison)
    where
      by : (t : Bool) → length (loop_rows parameters loops h h.comparison) ≡ bounds_count h h.comparison
          → (measure ((record { rows = loop_rows parameters loops h h.comparison; has_local = false } ∷ cond t []
          (record { rows = record { kind = Equal; form = stride_form parameters loops h h.comparison; local = neg_ℤ (pos (unsigned_abs h.step)) } ∷ []; has_local = true } ∷ [])) ∷ []))
          ≡ one_part (bounds_count h h.comparison + cond t 0 1) (cond t 0 1)
      by true e = same_count 1 (max (length (loop_rows parameters loops h h.comparison) + 0) 0) 0 1 (bounds_count h h.comparison + 0) 0 refl (omega (arith, e)) refl
      by false e = same_count 1 (max (length (loop_rows parameters loops h h.comparison) + 1) 0) 1 1 (bounds_count h h.comparison + 1) 1 refl (omega (arith, e)) refl

  affine_measure : (comparison : Comparison) (f g : Affine) → measure (comparison_parts comparison f g) ≡ affine_count comparison
  affine_measure IsLess f g = refl
  affine_measure IsLessOrEqual f g = refl
  affine_measure IsGreater f g = refl
  affine_measure IsGreaterOrEqual f g = refl
  affine_measure IsEqual f g = refl
  affine_measure IsUnequal f g = refl

  remainder_measure : (comparison : Comparison) (f : Affine) (d : ℕ) → measure (remainder_parts comparison f d) ≡ remainder_count comparison
  remainder_measure IsLess f d = refl
  remainder_measure IsLessOrEqual f d = refl
  remainder_measure IsGreater f d = refl
  remainder_measure IsGreaterOrEqual f d = refl
  remainder_measure IsEqual f d = refl
  remainder_measure IsUnequal f d = refl

  sides_measure : (loops : List (List ℕ)) (comparison : Comparison) (left right : Expression) → measure (parts_of_sides parameters loops comparison left right) ≡ sides_count comparison left
  sides_measure loops comparison (Number value) right = affine_measure comparison _ _
  sides_measure loops comparison (Name name) right = affine_measure comparison _ _
  sides_measure loops comparison (Sum a b) right = affine_measure comparison _ _
  sides_measure loops comparison (Difference a b) right = affine_measure comparison _ _
  sides_measure loops comparison (Product a b) right = affine_measure comparison _ _
  sides_measure loops comparison (Negation e) right = affine_measure comparison _ _
  sides_measure loops comparison (Maximum a b) right = affine_measure comparison _ _
  sides_measure loops comparison (Minimum a b) right = affine_measure comparison _ _
  sides_measure loops comparison (Ceiling e d) right = affine_measure comparison _ _
  sides_measure loops comparison (Floor e d) right = affine_measure comparison _ _
  sides_measure loops comparison (Remainder e d) right = remainder_measure comparison _ d

  abbrev parts : List (List ℕ) → Bool → Condition → List (List Constraint)
  parts loops truth c = parts_of_condition parameters loops truth c

  joined_measure : (loops : List (List ℕ)) (truth : Bool) (left right : Condition) → measure (parts loops truth left) ≡ condition_count truth left → measure (parts loops truth right) ≡ condition_count truth right
      → measure (joined (parts loops truth left) (parts loops truth right)) ≡ crossed (condition_count truth left) (condition_count truth right)
  joined_measure loops truth left right e f =
      measure_joined (parts loops truth left) (parts loops truth right) (some_condition parameters loops left truth) (some_condition parameters loops right truth)
      ∙ ap (λ m. crossed m (measure (parts loops truth right))) e ∙ ap (λ m. crossed (condition_count truth left) m) f

  append_measure : (loops : List (List ℕ)) (truth : Bool) (left right : Condition) → measure (parts loops truth left) ≡ condition_count truth left → measure (parts loops truth right) ≡ condition_count truth right
      → measure (parts loops truth left ++ parts loops truth right) ≡ in_turn (condition_count truth left) (condition_count truth right)
  append_measure loops truth left right e f =
      measure_append (parts loops truth left) (parts loops truth right)
      ∙ ap (λ m. in_turn m (measure (parts loops truth right))) e ∙ ap (λ m. in_turn (condition_count truth left) m) f

  condition_measure : (loops : List (List ℕ)) (c : Condition) (truth : Bool) → measure (parts loops truth c) ≡ condition_count truth c
  condition_measure loops (Compare comparison left right) true = sides_measure loops comparison left right
  condition_measure loops (Compare comparison left right) false = sides_measure loops (opposite_comparison comparison) left right
  condition_measure loops (Both left right) true = joined_measure loops true left right (condition_measure loops left true) (condition_measure loops right true)
  condition_measure loops (Both left right) false = append_measure loops false left right (condition_measure loops left false) (condition_measure loops right false)
  condition_measure loops (Either left right) true = append_measure loops true left right (condition_measure loops left true) (condition_measure loops right true)
  condition_measure loops (Either left right) false = joined_measure loops false left right (condition_measure loops left false) (condition_measure loops right false)
  condition_measure loops (Opposite of) true = condition_measure loops of false
  condition_measure loops (Opposite of) false = condition_measure loops of true

  rounds_measure : (loops : List (List ℕ)) (rounds : List Round) → measure (parts_of parameters loops rounds) ≡ rounds_count rounds
  rounds_measure loops [] = refl
  rounds_measure loops (Loop head ∷ rounds) =
      measure_joined (loop_constraints parameters loops head ∷ []) (parts_of parameters (loops ++ head.name ∷ []) rounds) (omega arith) (some_parts parameters (loops ++ head.name ∷ []) rounds)
      ∙ ap (λ m. crossed m (measure (parts_of parameters (loops ++ head.name ∷ []) rounds))) (loop_measure loops head)
      ∙ ap (λ m. crossed (loop_count head) m) (rounds_measure (loops ++ head.name ∷ []) rounds)
  rounds_measure loops (Test truth c ∷ rounds) =
      measure_joined (parts loops truth c) (parts_of parameters loops rounds) (some_condition parameters loops c truth) (some_parts parameters loops rounds)
      ∙ ap (λ m. crossed m (measure (parts_of parameters loops rounds))) (condition_measure loops c truth)
      ∙ ap (λ m. crossed (condition_count truth c) m) (rounds_measure loops rounds)

-- the rows of a part
rows_length : (m k before : ℕ) (cs : List Constraint) → length (part_rows m k before cs) ≡ rows_in cs
rows_length m k before [] = refl
rows_length m k before (c ∷ cs) =
    length-append (map (part_row m k (local_columns before (locals_in cs) c.has_local)) c.rows) (part_rows m k (before + cond c.has_local 1 0) cs)
    ∙ omega (arith, length-map c.rows (part_row m k (local_columns before (locals_in cs) c.has_local)), rows_length m k (before + cond c.has_local 1 0) cs)

max_above : (n a b : ℕ) → (nat_lt n a || nat_lt n b) ≡ nat_lt n (max a b)
max_above n a b = by (nat_lt n a) (nat_lt n b) (nat_lt n (max a b)) refl refl refl
  where
    by : (r s t : Bool) → nat_lt n a ≡ r → nat_lt n b ≡ s → nat_lt n (max a b) ≡ t → (nat_lt n a || nat_lt n b) ≡ nat_lt n (max a b)
    by true s true e f g = ap (λ z. z || nat_lt n b) e ∙ sym g
    by true s false e f g = let l : n < a = (Decides-ltb n a).0 e in let m : n < max a b = omega arith in absurd (no (nat_lt n (max a b)) ((Decides-ltb n (max a b)).1 m) g)
      where
        no : (z : Bool) → z ≡ true → z ≡ false → ⊥
        no z p q = cc
    by false true true e f g = ap (λ z. z || nat_lt n b) e ∙ f ∙ sym g
    by false true false e f g = let l : n < b = (Decides-ltb n b).0 f in let m : n < max a b = omega arith in absurd (no (nat_lt n (max a b)) ((Decides-ltb n (max a b)).1 m) g)
      where
        no : (z : Bool) → z ≡ true → z ≡ false → ⊥
        no z p q = cc
    by false false false e f g = ap (λ z. z || nat_lt n b) e ∙ f ∙ sym g
    by false false true e f g = absurd (impossible ((Decides-ltb n (max a b)).0 g) (at_most n a e) (at_most n b f))
      where
        impossible : n < max a b → a ≤ n → b ≤ n → ⊥
        impossible l p q = omega arith

rows_above : (n m k : ℕ) (ps : List (List Constraint)) → some_above RowCount n (map (part m k) ps) ≡ nat_lt n (most rows_in ps)
rows_above n m k [] = sym (not_above n 0 (omega arith))
rows_above n m k (p ∷ ps) =
    ap (λ z. nat_lt n z || some_above RowCount n (map (part m k) ps)) (rows_length m k 0 p) ∙ ap (λ z. nat_lt n (rows_in p) || z) (rows_above n m k ps) ∙ max_above n (rows_in p) (most rows_in ps)

locals_above : (n m k : ℕ) (ps : List (List Constraint)) → some_above LocalCount n (map (part m k) ps) ≡ nat_lt n (most locals_in ps)
locals_above n m k [] = sym (not_above n 0 (omega arith))
locals_above n m k (p ∷ ps) = ap (λ z. nat_lt n (locals_in p) || z) (locals_above n m k ps) ∙ max_above n (locals_in p) (most locals_in ps)

pub parts_are_counted : PartsAreCounted
parts_are_counted parameters arrays p = record {
  parts = length-map (parts_of parameters [] p.rounds) (part _ _) ∙ ap (λ c. c.parts) (rounds_measure parameters [] p.rounds);
  rows = λ n. rows_above n _ _ (parts_of parameters [] p.rounds) ∙ ap (λ c. nat_lt n c.rows) (rounds_measure parameters [] p.rounds);
  locals = λ n. locals_above n _ _ (parts_of parameters [] p.rounds) ∙ ap (λ c. nat_lt n c.locals) (rounds_measure parameters [] p.rounds);
}
