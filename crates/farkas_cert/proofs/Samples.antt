-- The definitions on a concrete system, x - 1 >= 0 and -x >= 0.
use Rattle.std.specs.Prelude.{◌≡◌, refl, [], ◌∷◌, ◌-◌, ◌^◌, List, zero, suc, pos, negsuc}
use Rattle.std.proofs.Common.{arith}
use Rattle.std.proofs.lemmas.Int.{ints}
use Rattle.relation_core.specs.declared.part_rows.PartRow.{PartRow}
use Rattle.relation_core.specs.declared.part_rows.RowKind.TheVariants.{AtLeast}
use Rattle.relation_core.specs.Points.{column, column_weight}
use Rattle.farkas_cert.specs.Certificates.{Allowed, Cleared, Valid, IsTooHeavy}

abbrev apart : List PartRow
apart = record { kind = AtLeast; entries = pos 1 ∷ (negsuc 0 ∷ []) } ∷ (record { kind = AtLeast; entries = negsuc 0 ∷ (pos 0 ∷ []) } ∷ [])

cleared : Cleared 1 apart (pos 1 ∷ (pos 1 ∷ []))
cleared zero l = refl
cleared (suc k) l = absurd (omega arith)

-- the sum of both rows is -1 >= 0
valid : Valid 1 apart (pos 1 ∷ (pos 1 ∷ []))
valid = record { allowed = (omega (arith, ints), (omega (arith, ints), tt)); cleared = cleared; contradicts = omega (arith, ints) }

-- with the second row twice, x is left
left_over : column (pos 1 ∷ (pos 2 ∷ [])) apart 0 ≡ negsuc 0
left_over = refl

negative : Allowed apart (negsuc 0 ∷ (pos 1 ∷ [])) → ⊥
negative a = absurd (omega (arith, ints, a.0))

weighed : column_weight (pos 3 ∷ (pos 4 ∷ [])) apart 0 ≡ 7
weighed = refl

-- though both products cancel, they are too heavy
heavy : IsTooHeavy 1 apart (pos (2 ^ 127 - 1) ∷ (pos (2 ^ 127 - 1) ∷ []))
heavy = record { lengths = refl; column = record { at = 0; within = omega arith; heavy = omega arith } }
