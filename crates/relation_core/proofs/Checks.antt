-- The definitions on concrete systems.
use Rattle.std.specs.Prelude.{pos, negsuc, ◌≡◌, refl, [], ◌∷◌, codes}
use Rattle.std.proofs.Common.{arith}
use Rattle.std.specs.Fmt.{digits}
use Rattle.std.proofs.lemmas.Int.{ints}
use Rattle.relation_core.specs.declared.part_rows.RowKind.TheVariants.{Equal, AtLeast}
use Rattle.relation_core.specs.Systems.{System, truncated}
use Rattle.relation_core.specs.Layouts.{header_text, row_text}
use Rattle.relation_core.specs.Points.{RationalPoint, LiesIn, column, column_weight}

-- 0 <= i and i <= N - 1, over the iterator i and the parameter N
abbrev upward : System
upward = record {
  shape = record { outputs = 1; inputs = 0; locals = 0; parameters = 1 };
  rows = record { kind = AtLeast; entries = pos 1 ∷ (pos 0 ∷ (pos 0 ∷ [])) }
      ∷ (record { kind = AtLeast; entries = negsuc 0 ∷ (pos 1 ∷ (negsuc 0 ∷ [])) } ∷ []);
}

-- i = 4 lies in it at N = 5
inside : LiesIn upward (pos 4 ∷ []) [] (pos 5 ∷ [])
inside = record {
  outputs_are = refl;
  inputs_are = refl;
  parameters_are = refl;
  locals = [];
  locals_are = refl;
  meets = (omega (arith, ints), (omega (arith, ints), tt));
}

-- a list of no output lies in no part with an output, though the row -1 >= 0 would hold of it
absent : LiesIn (record { shape = record { outputs = 1; inputs = 0; locals = 0; parameters = 0 }; rows = [] }) [] [] [] → ⊥
absent l = absurd (omega (arith, l.outputs_are))

-- its first row alone
first_row : (truncated 1 upward).rows ≡ record { kind = AtLeast; entries = pos 1 ∷ (pos 0 ∷ (pos 0 ∷ [])) } ∷ []
first_row = refl

-- as text
second_text : row_text (record { kind = AtLeast; entries = negsuc 0 ∷ (pos 1 ∷ (negsuc 0 ∷ [])) }) ≡ codes "1 -1 1 -1"
unfolding digits
second_text = refl

header : header_text 2 upward.shape ≡ codes "2 4 1 0 0 1"
unfolding digits
header = refl

-- x = 1 with q = 2 is a rational point of 2x - 1 = 0
half : RationalPoint (record { kind = Equal; entries = pos 2 ∷ (negsuc 0 ∷ []) } ∷ []) (pos 1 ∷ []) (pos 2)
half = record { positive = omega (arith, ints); meets = (refl, tt) }

-- the sum of both rows of `upward` has nothing left of i
cleared : column (pos 1 ∷ (pos 1 ∷ [])) upward.rows 0 ≡ pos 0
cleared = refl

weighed : column_weight (pos 1 ∷ (pos 1 ∷ [])) upward.rows 0 ≡ 2
weighed = refl
