-- Statements as they are read by hand, their regions, and their names.
use Rattle.std.proofs.Common.{◌≡◌, refl, List, [], ◌∷◌, ℕ, None, Some, Ok, Err}
use Rattle.std.specs.Prelude.{codes}
use Rattle.c_parser.specs.declared.tree.UnarySign.TheVariants as un
use Rattle.clan_extract.specs.Regions.{Number, Name, Sum, Difference, Product, Negation, Maximum, Minimum, Ceiling, Floor, Remainder, IsLess, IsGreaterOrEqual, IsEqual, IsUnequal, Compare, Both, Either, Opposite}
use Rattle.region_trees.specs.Terms.{Plus, Minus, Times, Divide, Modulo, Conjunction, Disjunction, Compares, Term, Integer, Literal, Named, Call, Bracket, Signed, Joined, Terms, NoTerms, More, Located}
use Rattle.region_trees.specs.Statements.{spaced_from}
use Rattle.region_trees.specs.Regions.{expression_of, bound_of, condition_of, subscripts_of}

abbrev name : List ℕ → ℕ → Term
name text at = Named text at NoTerms

abbrev one : ℕ → Term → Terms
one at e = More at e NoTerms

abbrev two : ℕ → Term → ℕ → Term → Terms
two at a from b = More at a (More from b NoTerms)

abbrev located : ℕ → Term → Located
located at e = record { at = at; term = e }

-- ---- expressions

-- -(i) + 2 * N
sums : expression_of (Joined Plus (Signed un.Minus (Bracket (name (codes "i") 2))) (Joined Times (Integer 2) (name (codes "N") 11)))
    ≡ Some (Sum (Negation (Name (codes "i"))) (Product (Number 2) (Name (codes "N"))))
sums = refl

-- N / 2, !N, 1.5, f(N)
no_quotient : expression_of (Joined Divide (name (codes "N") 0) (Integer 2)) ≡ None
no_quotient = refl

no_truth : expression_of (Signed un.Not (name (codes "N") 1)) ≡ None
no_truth = refl

no_literal : expression_of Literal ≡ None
no_literal = refl

no_call : expression_of (Call (codes "f") 0 (one 2 (name (codes "N") 2))) ≡ None
no_call = refl

-- A[i * i] at fault at the first byte of its subscript, and A[i - 1][0]
not_affine : subscripts_of (one 2 (Joined Times (name (codes "i") 2) (name (codes "i") 6))) ≡ Err 2
not_affine = refl

affine : subscripts_of (two 2 (Joined Minus (name (codes "i") 2) (Integer 1)) 9 (Integer 0)) ≡ Ok (Difference (Name (codes "i")) (Number 1) ∷ (Number 0 ∷ []))
affine = refl

-- ---- bounds

-- max(0, ceild(N, 2))
greatest : bound_of (Call (codes "max") 0 (two 4 (Integer 0) 7 (Call (codes "ceild") 7 (two 13 (name (codes "N") 13) 16 (Integer 2)))))
    ≡ Some (Maximum (Number 0) (Ceiling (Name (codes "N")) 2))
greatest = refl

-- min(floord((N), 3), N)
least : bound_of (Call (codes "min") 0 (two 4 (Call (codes "floord") 4 (two 11 (Bracket (name (codes "N") 12)) 16 (Integer 3))) 20 (name (codes "N") 20)))
    ≡ Some (Minimum (Floor (Name (codes "N")) 3) (Name (codes "N")))
least = refl

-- (max(0, N)), max(0, N) + 1, max(N), ceild(N, (2)), ceild(N, 1 + 1)
no_brackets : bound_of (Bracket (Call (codes "max") 1 (two 5 (Integer 0) 8 (name (codes "N") 8)))) ≡ None
no_brackets = refl

no_sum : bound_of (Joined Plus (Call (codes "max") 0 (two 4 (Integer 0) 7 (name (codes "N") 7))) (Integer 1)) ≡ None
no_sum = refl

no_single : bound_of (Call (codes "max") 0 (one 4 (name (codes "N") 4))) ≡ None
no_single = refl

no_bracket_divisor : bound_of (Call (codes "ceild") 0 (two 6 (name (codes "N") 6) 9 (Bracket (Integer 2)))) ≡ None
no_bracket_divisor = refl

no_sum_divisor : bound_of (Call (codes "ceild") 0 (two 6 (name (codes "N") 6) 9 (Joined Plus (Integer 1) (Integer 1)))) ≡ None
no_sum_divisor = refl

-- ---- conditions

-- !(i < N) && (j >= 0 || i != 1)
conditions : condition_of (
    Joined Conjunction
    (Signed un.Not (Bracket (Joined (Compares IsLess) (name (codes "i") 2) (name (codes "N") 6))))
    (Bracket (Joined Disjunction (Joined (Compares IsGreaterOrEqual) (name (codes "j") 13) (Integer 0)) (Joined (Compares IsUnequal) (name (codes "i") 23) (Integer 1))))
    )
    ≡ Some (
    Both
    (Opposite (Compare IsLess (Name (codes "i")) (Name (codes "N"))))
    (Either (Compare IsGreaterOrEqual (Name (codes "j")) (Number 0)) (Compare IsUnequal (Name (codes "i")) (Number 1)))
    )
conditions = refl

-- (-i % (2)) == (0)
remainders : condition_of (
    Joined (Compares IsEqual) (Bracket (Joined Modulo (Signed un.Minus (name (codes "i") 2)) (Bracket (Integer 2)))) (Bracket (Integer 0))
    )
    ≡ Some (Compare IsEqual (Remainder (Negation (Name (codes "i"))) 2) (Number 0))
remainders = refl

-- 2 * N % 3 != 0
first_product : condition_of (Joined (Compares IsUnequal) (Joined Modulo (Joined Times (Integer 2) (name (codes "N") 4)) (Integer 3)) (Integer 0))
    ≡ Some (Compare IsUnequal (Remainder (Product (Number 2) (Name (codes "N"))) 3) (Number 0))
first_product = refl

-- i % 2 == -0, 0 == i % 2, i % (1 + 1) == 0, i < j < N, (i < j) == (j < N), !i < N, i
no_signed_zero : condition_of (Joined (Compares IsEqual) (Joined Modulo (name (codes "i") 0) (Integer 2)) (Signed un.Minus (Integer 0))) ≡ None
no_signed_zero = refl

no_zero_first : condition_of (Joined (Compares IsEqual) (Integer 0) (Joined Modulo (name (codes "i") 5) (Integer 2))) ≡ None
no_zero_first = refl

no_sum_remainder : condition_of (Joined (Compares IsEqual) (Joined Modulo (name (codes "i") 0) (Bracket (Joined Plus (Integer 1) (Integer 1)))) (Integer 0)) ≡ None
no_sum_remainder = refl

no_chain : condition_of (Joined (Compares IsLess) (Joined (Compares IsLess) (name (codes "i") 0) (name (codes "j") 4)) (name (codes "N") 8)) ≡ None
no_chain = refl

no_equal_conditions : condition_of (
    Joined (Compares IsEqual)
    (Bracket (Joined (Compares IsLess) (name (codes "i") 1) (name (codes "j") 5)))
    (Bracket (Joined (Compares IsLess) (name (codes "j") 12) (name (codes "N") 16)))
    ) ≡ None
no_equal_conditions = refl

no_negated_name : condition_of (Joined (Compares IsLess) (Signed un.Not (name (codes "i") 1)) (name (codes "N") 5)) ≡ None
no_negated_name = refl

no_value : condition_of (name (codes "i") 0) ≡ None
no_value = refl

-- ---- texts

comments_are_spaces : spaced_from 0 (codes "A/**/[i]  = B /* x */ + 1") ≡ codes "A [i] = B + 1"
comments_are_spaces = refl
