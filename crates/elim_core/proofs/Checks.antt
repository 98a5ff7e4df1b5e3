-- The stated elimination, its peak and the order of columns on concrete systems.
use Rattle.std.specs.Prelude.{◌≡◌, refl, [], ◌∷◌, Some, None, pos, negsuc}
use Rattle.relation_core.specs.declared.part_rows.RowKind.TheVariants.{Equal, AtLeast}
use Rattle.relation_core.specs.Systems.{System}
use Rattle.elim_core.specs.Gcd.{gcd, gcd_within, divided}
use Rattle.elim_core.specs.Peaks.{column_order, stated, peak}
use Rattle.elim_core.specs.Keys.{key}
use Rattle.elim_core.specs.Reductions.{BeginsWith}

-- x - 1 >= 0 and -x >= 0
abbrev apart : System
apart = record {
  shape = record { outputs = 1; inputs = 0; locals = 0; parameters = 0 };
  rows = record { kind = AtLeast; entries = pos 1 ∷ (negsuc 0 ∷ []) } ∷ (record { kind = AtLeast; entries = negsuc 0 ∷ (pos 0 ∷ []) } ∷ []);
}

-- their sum is -1 >= 0
apart_ends : (stated apart).refutation ≡ Some (pos 1 ∷ (pos 1 ∷ []))
unfolding gcd gcd_within
apart_ends = refl

-- x cancels as 1 + (-1), and one row is left
apart_weight : (peak apart).weight ≡ 2
unfolding gcd gcd_within
apart_weight = refl

apart_rows : (peak apart).rows ≡ 1
unfolding gcd gcd_within
apart_rows = refl

-- 2x - 1 = 0 has a point, and none of its coefficients passes 2
abbrev half : System
half = record {
  shape = record { outputs = 1; inputs = 0; locals = 0; parameters = 0 };
  rows = record { kind = Equal; entries = pos 2 ∷ (negsuc 0 ∷ []) } ∷ [];
}

half_ends : (stated half).refutation ≡ None
unfolding gcd gcd_within
half_ends = refl

half_weight : (peak half).weight ≡ 2
unfolding gcd gcd_within
half_weight = refl

-- 5 = 0 is no row to solve: its multiplier is turned
abbrev never : System
never = record {
  shape = record { outputs = 1; inputs = 0; locals = 0; parameters = 0 };
  rows = record { kind = Equal; entries = pos 0 ∷ (pos 5 ∷ []) } ∷ [];
}

never_ends : (stated never).refutation ≡ Some (negsuc 0 ∷ [])
unfolding gcd gcd_within
never_ends = refl

-- locals, inputs, outputs and parameters, each from its last
order : column_order (record { outputs = 2; inputs = 1; locals = 2; parameters = 1 }) ≡ 4 ∷ (3 ∷ (2 ∷ (1 ∷ (0 ∷ (5 ∷ [])))))
order = refl

lowest_terms : divided (pos 4 ∷ (negsuc 5 ∷ (pos 0 ∷ []))) ≡ pos 2 ∷ (negsuc 2 ∷ (pos 0 ∷ []))
unfolding gcd gcd_within
lowest_terms = refl

-- the constant does not matter for a key, the place and the sign of a coefficient do
keys : key 2 (record { kind = AtLeast; entries = pos 1 ∷ (negsuc 1 ∷ (pos 9 ∷ [])) }) ≡ 1556
keys = refl

keys_with_zero : key 3 (record { kind = AtLeast; entries = pos 1 ∷ (pos 0 ∷ (negsuc 1 ∷ (pos 9 ∷ []))) }) ≡ 1593
keys_with_zero = refl

half_begins : BeginsWith half (record half { rows = [] })
half_begins = record { shape = refl; rows = refl }
