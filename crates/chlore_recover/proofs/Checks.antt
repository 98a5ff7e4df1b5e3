-- Worked cases of the definitions.
use Rattle.std.proofs.Common.{◌≡◌, ◌-◌, ◌^◌, ℤ, pos, negsuc, true, false, List, [], ◌∷◌, refl}
use Rattle.scop_data.specs.declared.affines.Affine.{Affine}
use Rattle.clay_script.specs.declared.commands.Command.TheVariants.{Interchange, Skew, Shift, Reverse}
use Rattle.chlore_recover.specs.Recoverable.{ends_apart, triangle_of}
use Rattle.chlore_recover.specs.LevelScripts.{level_script, forms_along}

-- a form without floors
abbrev form : List ℤ → List ℤ → ℤ → Affine
form iterators parameters constant = record { iterators = iterators; floors = []; parameters = parameters; constant = constant }

-- the greatest coefficient
abbrev greatest : ℤ
greatest = pos (2 ^ 127 - 1)

-- its negative
abbrev least : ℤ
least = negsuc (2 ^ 127 - 2)

-- levels i + j and i
skewed : level_script (pos 0 ∷ []) (form (pos 1 ∷ (pos 0 ∷ [])) (pos 0 ∷ []) (pos 0) ∷ (form (pos 0 ∷ (pos 1 ∷ [])) (pos 0 ∷ []) (pos 0) ∷ [])) (form (pos 1 ∷ (pos 1 ∷ [])) (pos 0 ∷ []) (pos 0) ∷ (form (pos 1 ∷ (pos 0 ∷ [])) (pos 0 ∷ []) (pos 0) ∷ [])) ≡ (Skew (pos 0 ∷ []) (pos 2) (pos 1) (pos 1) ∷ (Interchange (pos 0 ∷ []) (pos 1) (pos 2) ∷ []))
skewed = refl

-- and what they make of i and j
skewed_levels : forms_along (level_script (pos 0 ∷ []) (form (pos 1 ∷ (pos 0 ∷ [])) (pos 0 ∷ []) (pos 0) ∷ (form (pos 0 ∷ (pos 1 ∷ [])) (pos 0 ∷ []) (pos 0) ∷ [])) (form (pos 1 ∷ (pos 1 ∷ [])) (pos 0 ∷ []) (pos 0) ∷ (form (pos 1 ∷ (pos 0 ∷ [])) (pos 0 ∷ []) (pos 0) ∷ []))) (record { floors = []; levels = (form (pos 1 ∷ (pos 0 ∷ [])) (pos 0 ∷ []) (pos 0) ∷ (form (pos 0 ∷ (pos 1 ∷ [])) (pos 0 ∷ []) (pos 0) ∷ [])); betas = [] }) ≡ record { floors = []; levels = (form (pos 1 ∷ (pos 1 ∷ [])) (pos 0 ∷ []) (pos 0) ∷ (form (pos 1 ∷ (pos 0 ∷ [])) (pos 0 ∷ []) (pos 0) ∷ [])); betas = [] }
skewed_levels = refl

-- the same, from -i and -j
skewed_from_negative : level_script (pos 0 ∷ []) (form (negsuc 0 ∷ (pos 0 ∷ [])) (pos 0 ∷ []) (pos 0) ∷ (form (pos 0 ∷ (negsuc 0 ∷ [])) (pos 0 ∷ []) (pos 0) ∷ [])) (form (pos 1 ∷ (pos 1 ∷ [])) (pos 0 ∷ []) (pos 0) ∷ (form (pos 1 ∷ (pos 0 ∷ [])) (pos 0 ∷ []) (pos 0) ∷ [])) ≡ (Reverse (pos 0 ∷ []) (pos 1) ∷ (Reverse (pos 0 ∷ []) (pos 2) ∷ (Skew (pos 0 ∷ []) (pos 2) (pos 1) (pos 1) ∷ (Interchange (pos 0 ∷ []) (pos 1) (pos 2) ∷ []))))
skewed_from_negative = refl

-- and what they make
skewed_from_negative_levels : forms_along (level_script (pos 0 ∷ []) (form (negsuc 0 ∷ (pos 0 ∷ [])) (pos 0 ∷ []) (pos 0) ∷ (form (pos 0 ∷ (negsuc 0 ∷ [])) (pos 0 ∷ []) (pos 0) ∷ [])) (form (pos 1 ∷ (pos 1 ∷ [])) (pos 0 ∷ []) (pos 0) ∷ (form (pos 1 ∷ (pos 0 ∷ [])) (pos 0 ∷ []) (pos 0) ∷ []))) (record { floors = []; levels = (form (negsuc 0 ∷ (pos 0 ∷ [])) (pos 0 ∷ []) (pos 0) ∷ (form (pos 0 ∷ (negsuc 0 ∷ [])) (pos 0 ∷ []) (pos 0) ∷ [])); betas = [] }) ≡ record { floors = []; levels = (form (pos 1 ∷ (pos 1 ∷ [])) (pos 0 ∷ []) (pos 0) ∷ (form (pos 1 ∷ (pos 0 ∷ [])) (pos 0 ∷ []) (pos 0) ∷ [])); betas = [] }
skewed_from_negative_levels = refl

-- levels i - j and i: the triangle has the sign in it
skewed_down : level_script (pos 0 ∷ []) (form (pos 1 ∷ (pos 0 ∷ [])) (pos 0 ∷ []) (pos 0) ∷ (form (pos 0 ∷ (pos 1 ∷ [])) (pos 0 ∷ []) (pos 0) ∷ [])) (form (pos 1 ∷ (negsuc 0 ∷ [])) (pos 0 ∷ []) (pos 0) ∷ (form (pos 1 ∷ (pos 0 ∷ [])) (pos 0 ∷ []) (pos 0) ∷ [])) ≡ (Skew (pos 0 ∷ []) (pos 2) (pos 1) (negsuc 0) ∷ (Reverse (pos 0 ∷ []) (pos 2) ∷ (Interchange (pos 0 ∷ []) (pos 1) (pos 2) ∷ [])))
skewed_down = refl

-- and what they make
skewed_down_levels : forms_along (level_script (pos 0 ∷ []) (form (pos 1 ∷ (pos 0 ∷ [])) (pos 0 ∷ []) (pos 0) ∷ (form (pos 0 ∷ (pos 1 ∷ [])) (pos 0 ∷ []) (pos 0) ∷ [])) (form (pos 1 ∷ (negsuc 0 ∷ [])) (pos 0 ∷ []) (pos 0) ∷ (form (pos 1 ∷ (pos 0 ∷ [])) (pos 0 ∷ []) (pos 0) ∷ []))) (record { floors = []; levels = (form (pos 1 ∷ (pos 0 ∷ [])) (pos 0 ∷ []) (pos 0) ∷ (form (pos 0 ∷ (pos 1 ∷ [])) (pos 0 ∷ []) (pos 0) ∷ [])); betas = [] }) ≡ record { floors = []; levels = (form (pos 1 ∷ (negsuc 0 ∷ [])) (pos 0 ∷ []) (pos 0) ∷ (form (pos 1 ∷ (pos 0 ∷ [])) (pos 0 ∷ []) (pos 0) ∷ [])); betas = [] }
skewed_down_levels = refl

-- levels i + 5 and j - N
shifted : level_script (pos 0 ∷ []) (form (pos 1 ∷ (pos 0 ∷ [])) (pos 0 ∷ []) (pos 0) ∷ (form (pos 0 ∷ (pos 1 ∷ [])) (pos 0 ∷ []) (pos 0) ∷ [])) (form (pos 1 ∷ (pos 0 ∷ [])) (pos 0 ∷ []) (pos 5) ∷ (form (pos 0 ∷ (pos 1 ∷ [])) (negsuc 0 ∷ []) (pos 0) ∷ [])) ≡ (Shift (pos 0 ∷ []) (pos 1) (pos 0 ∷ []) (pos 5) ∷ (Shift (pos 0 ∷ []) (pos 2) (negsuc 0 ∷ []) (pos 0) ∷ []))
shifted = refl

-- levels with the greatest coefficients
extreme : level_script (pos 0 ∷ []) (form (pos 1 ∷ (pos 0 ∷ [])) (pos 0 ∷ []) (pos 0) ∷ (form (pos 0 ∷ (pos 1 ∷ [])) (pos 0 ∷ []) (pos 0) ∷ [])) (form (greatest ∷ (pos 1 ∷ [])) (pos 0 ∷ []) (least) ∷ (form (negsuc 0 ∷ (pos 0 ∷ [])) (greatest ∷ []) (pos 0) ∷ [])) ≡ (Skew (pos 0 ∷ []) (pos 2) (pos 1) (greatest) ∷ (Reverse (pos 0 ∷ []) (pos 1) ∷ (Interchange (pos 0 ∷ []) (pos 1) (pos 2) ∷ (Shift (pos 0 ∷ []) (pos 1) (pos 0 ∷ []) (least) ∷ (Shift (pos 0 ∷ []) (pos 2) (greatest ∷ []) (pos 0) ∷ [])))))
extreme = refl

-- levels 2i - 3j - k + N - 1, i and 5i + j + 4
three_deep : level_script (pos 0 ∷ []) (form (pos 1 ∷ (pos 0 ∷ (pos 0 ∷ []))) (pos 0 ∷ []) (pos 0) ∷ (form (pos 0 ∷ (pos 1 ∷ (pos 0 ∷ []))) (pos 0 ∷ []) (pos 0) ∷ (form (pos 0 ∷ (pos 0 ∷ (pos 1 ∷ []))) (pos 0 ∷ []) (pos 0) ∷ []))) (form (pos 2 ∷ (negsuc 2 ∷ (negsuc 0 ∷ []))) (pos 1 ∷ []) (negsuc 0) ∷ (form (pos 1 ∷ (pos 0 ∷ (pos 0 ∷ []))) (pos 0 ∷ []) (pos 0) ∷ (form (pos 5 ∷ (pos 1 ∷ (pos 0 ∷ []))) (pos 0 ∷ []) (pos 4) ∷ []))) ≡ (Skew (pos 0 ∷ []) (pos 3) (pos 1) (negsuc 1) ∷ (Skew (pos 0 ∷ []) (pos 3) (pos 2) (pos 3) ∷ (Skew (pos 0 ∷ []) (pos 2) (pos 1) (pos 5) ∷ (Reverse (pos 0 ∷ []) (pos 3) ∷ (Interchange (pos 0 ∷ []) (pos 1) (pos 3) ∷ (Interchange (pos 0 ∷ []) (pos 2) (pos 3) ∷ (Shift (pos 0 ∷ []) (pos 1) (pos 1 ∷ []) (negsuc 0) ∷ (Shift (pos 0 ∷ []) (pos 3) (pos 0 ∷ []) (pos 4) ∷ []))))))))
three_deep = refl

-- and what they make
three_deep_levels : forms_along (level_script (pos 0 ∷ []) (form (pos 1 ∷ (pos 0 ∷ (pos 0 ∷ []))) (pos 0 ∷ []) (pos 0) ∷ (form (pos 0 ∷ (pos 1 ∷ (pos 0 ∷ []))) (pos 0 ∷ []) (pos 0) ∷ (form (pos 0 ∷ (pos 0 ∷ (pos 1 ∷ []))) (pos 0 ∷ []) (pos 0) ∷ []))) (form (pos 2 ∷ (negsuc 2 ∷ (negsuc 0 ∷ []))) (pos 1 ∷ []) (negsuc 0) ∷ (form (pos 1 ∷ (pos 0 ∷ (pos 0 ∷ []))) (pos 0 ∷ []) (pos 0) ∷ (form (pos 5 ∷ (pos 1 ∷ (pos 0 ∷ []))) (pos 0 ∷ []) (pos 4) ∷ [])))) (record { floors = []; levels = (form (pos 1 ∷ (pos 0 ∷ (pos 0 ∷ []))) (pos 0 ∷ []) (pos 0) ∷ (form (pos 0 ∷ (pos 1 ∷ (pos 0 ∷ []))) (pos 0 ∷ []) (pos 0) ∷ (form (pos 0 ∷ (pos 0 ∷ (pos 1 ∷ []))) (pos 0 ∷ []) (pos 0) ∷ []))); betas = [] }) ≡ record { floors = []; levels = (form (pos 2 ∷ (negsuc 2 ∷ (negsuc 0 ∷ []))) (pos 1 ∷ []) (negsuc 0) ∷ (form (pos 1 ∷ (pos 0 ∷ (pos 0 ∷ []))) (pos 0 ∷ []) (pos 0) ∷ (form (pos 5 ∷ (pos 1 ∷ (pos 0 ∷ []))) (pos 0 ∷ []) (pos 4) ∷ []))); betas = [] }
three_deep_levels = refl

-- no iterators, no levels
lifted : level_script (pos 0 ∷ []) [] [] ≡ []
lifted = refl

-- levels j and i, under prefix 1
crossed : level_script (pos 1 ∷ []) (form (pos 1 ∷ (pos 0 ∷ [])) (pos 0 ∷ []) (pos 0) ∷ (form (pos 0 ∷ (pos 1 ∷ [])) (pos 0 ∷ []) (pos 0) ∷ [])) (form (pos 0 ∷ (pos 1 ∷ [])) (pos 0 ∷ []) (pos 0) ∷ (form (pos 1 ∷ (pos 0 ∷ [])) (pos 0 ∷ []) (pos 0) ∷ [])) ≡ (Interchange (pos 1 ∷ []) (pos 1) (pos 2) ∷ [])
crossed = refl

-- levels -i and k
reversed : level_script (pos 1 ∷ []) (form (pos 1 ∷ (pos 0 ∷ [])) (pos 0 ∷ []) (pos 0) ∷ (form (pos 0 ∷ (pos 1 ∷ [])) (pos 0 ∷ []) (pos 0) ∷ [])) (form (negsuc 0 ∷ (pos 0 ∷ [])) (pos 0 ∷ []) (pos 0) ∷ (form (pos 0 ∷ (pos 1 ∷ [])) (pos 0 ∷ []) (pos 0) ∷ [])) ≡ (Reverse (pos 1 ∷ []) (pos 1) ∷ [])
reversed = refl

-- both levels end in j
not_both_in_j : ends_apart 2 ((pos 1 ∷ (pos 1 ∷ [])) ∷ ((pos 1 ∷ (pos 2 ∷ [])) ∷ [])) ≡ false
not_both_in_j = refl

-- i + j and j, though invertible
not_i_plus_j_and_j : ends_apart 2 ((pos 1 ∷ (pos 1 ∷ [])) ∷ ((pos 0 ∷ (pos 1 ∷ [])) ∷ [])) ≡ false
not_i_plus_j_and_j = refl

-- i + j twice
not_twice : ends_apart 2 ((pos 1 ∷ (pos 1 ∷ [])) ∷ ((pos 1 ∷ (pos 1 ∷ [])) ∷ [])) ≡ false
not_twice = refl

-- i and 2i
not_two : ends_apart 2 ((pos 1 ∷ (pos 0 ∷ [])) ∷ ((pos 2 ∷ (pos 0 ∷ [])) ∷ [])) ≡ false
not_two = refl

-- a level without iterators
not_none : ends_apart 2 ((pos 0 ∷ (pos 0 ∷ [])) ∷ ((pos 1 ∷ (pos 0 ∷ [])) ∷ [])) ≡ false
not_none = refl

-- one level of two
not_one_level : ends_apart 2 ((pos 1 ∷ (pos 0 ∷ [])) ∷ []) ≡ false
not_one_level = refl

-- i and i + 2j
not_two_j : ends_apart 2 ((pos 1 ∷ (pos 0 ∷ [])) ∷ ((pos 1 ∷ (pos 2 ∷ [])) ∷ [])) ≡ false
not_two_j = refl

-- i - j and i
apart_signed : ends_apart 2 ((pos 1 ∷ (negsuc 0 ∷ [])) ∷ ((pos 1 ∷ (pos 0 ∷ [])) ∷ [])) ≡ true
apart_signed = refl

-- no iterators
apart_none : ends_apart 0 [] ≡ true
apart_none = refl

-- the triangle of 2i - 3j - k, i and 5i + j
triangle_three : triangle_of 3 ((pos 2 ∷ (negsuc 2 ∷ (negsuc 0 ∷ []))) ∷ ((pos 1 ∷ (pos 0 ∷ (pos 0 ∷ []))) ∷ ((pos 5 ∷ (pos 1 ∷ (pos 0 ∷ []))) ∷ []))) ≡ ((pos 1 ∷ (pos 0 ∷ (pos 0 ∷ []))) ∷ ((pos 5 ∷ (pos 1 ∷ (pos 0 ∷ []))) ∷ ((negsuc 1 ∷ (pos 3 ∷ (pos 1 ∷ []))) ∷ [])))
triangle_three = refl
