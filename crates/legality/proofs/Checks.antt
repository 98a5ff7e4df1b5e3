-- The violation systems of worked scripts.
use Rattle.std.proofs.Common.{◌≡◌, refl, pos, negsuc, List, [], ◌∷◌, Some, slice_get}
use Rattle.dependence_systems.specs.declared.dependences.DepKind.TheVariants.{Raw, War, Waw}
use Rattle.clay_script.specs.declared.commands.Command.{Command}
use Rattle.clay_script.specs.declared.commands.Command.TheVariants.{Fission, Fuse, Reorder, Interchange, Shift, Stripmine, Iss}
use Rattle.legality.specs.Violations.{Edit, violations, violation_system, violation_weight}
use Rattle.legality.proofs.Samples.{o, one, minus, equal, at_least, edited_by, violation, stencil, two_loops, mirror}

-- the two loops of the stencil exchanged
abbrev exchanged : Edit
exchanged = edited_by stencil (Interchange (pos 0 ∷ []) (pos 1) (pos 2) ∷ [])

exchanged_violations : violations exchanged ≡
    violation War 1 1 1 2 1 1 ∷ (violation War 1 1 1 2 1 2 ∷ (violation War 1 1 1 2 2 1 ∷ (violation War 1 1 1 2 2 2
    ∷ (violation Raw 1 1 2 1 1 1 ∷ (violation Raw 1 1 2 1 1 2 ∷ (violation Raw 1 1 2 1 2 1 ∷ (violation Raw 1 1 2 1 2 2
    ∷ (violation Waw 1 1 2 2 1 1 ∷ (violation Waw 1 1 2 2 1 2 ∷ (violation Waw 1 1 2 2 2 1 ∷ (violation Waw 1 1 2 2 2 2 ∷ [])))))))))))
exchanged_violations = refl

-- the fifth: the write is read in the next turn of the first loop, which runs later, and in an earlier turn of the second one
exchanged_fifth : violation_system exchanged (violation Raw 1 1 2 1 1 1) ≡ record {
  shape = record { outputs = 2; inputs = 2; locals = 0; parameters = 2 };
  rows = at_least (one ∷ (o ∷ (o ∷ (o ∷ (o ∷ (o ∷ (minus ∷ [])))))))
      ∷ (at_least (minus ∷ (o ∷ (o ∷ (o ∷ (one ∷ (o ∷ (minus ∷ [])))))))
      ∷ (at_least (o ∷ (one ∷ (o ∷ (o ∷ (o ∷ (o ∷ (o ∷ [])))))))
      ∷ (at_least (o ∷ (minus ∷ (o ∷ (o ∷ (o ∷ (one ∷ (minus ∷ [])))))))
      ∷ (at_least (o ∷ (o ∷ (one ∷ (o ∷ (o ∷ (o ∷ (minus ∷ [])))))))
      ∷ (at_least (o ∷ (o ∷ (minus ∷ (o ∷ (one ∷ (o ∷ (minus ∷ [])))))))
      ∷ (at_least (o ∷ (o ∷ (o ∷ (one ∷ (o ∷ (o ∷ (o ∷ [])))))))
      ∷ (at_least (o ∷ (o ∷ (o ∷ (minus ∷ (o ∷ (one ∷ (minus ∷ [])))))))
      ∷ (equal (one ∷ (o ∷ (minus ∷ (o ∷ (o ∷ (o ∷ (one ∷ [])))))))
      ∷ (equal (o ∷ (one ∷ (o ∷ (minus ∷ (o ∷ (o ∷ (minus ∷ [])))))))
      ∷ (at_least (minus ∷ (o ∷ (one ∷ (o ∷ (o ∷ (o ∷ (minus ∷ [])))))))
      ∷ (at_least (o ∷ (one ∷ (o ∷ (minus ∷ (o ∷ (o ∷ (minus ∷ []))))))) ∷ [])))))))))));
}
exchanged_fifth = refl

-- the loops of two statements fused: the second violation is that of the write and the read
abbrev fused : Edit
fused = edited_by two_loops (Fuse (pos 0 ∷ []) ∷ [])

fused_violations : violations fused ≡ violation Waw 1 1 2 2 1 1 ∷ (violation Raw 1 2 2 1 0 1 ∷ (violation Waw 2 2 2 2 1 1 ∷ []))
fused_violations = refl

fused_second : violation_system fused (violation Raw 1 2 2 1 0 1) ≡ record {
  shape = record { outputs = 1; inputs = 1; locals = 0; parameters = 1 };
  rows = at_least (one ∷ (o ∷ (o ∷ (o ∷ []))))
      ∷ (at_least (minus ∷ (o ∷ (one ∷ (minus ∷ []))))
      ∷ (at_least (o ∷ (one ∷ (o ∷ (o ∷ []))))
      ∷ (at_least (o ∷ (minus ∷ (one ∷ (negsuc 1 ∷ []))))
      ∷ (equal (one ∷ (minus ∷ (o ∷ (minus ∷ []))))
      ∷ (at_least (one ∷ (minus ∷ (o ∷ (minus ∷ [])))) ∷ [])))));
}
fused_second = refl

-- before they are fused the second loop is put off by one turn
abbrev shifted : Edit
shifted = edited_by two_loops (Shift (pos 1 ∷ []) (pos 1) (pos 0 ∷ []) (pos 1) ∷ (Fuse (pos 0 ∷ []) ∷ []))

shifted_last_row : slice_get (violation_system shifted (violation Raw 1 2 2 1 0 1)).rows 5 ≡ Some (at_least (one ∷ (minus ∷ (o ∷ (negsuc 1 ∷ [])))))
shifted_last_row = refl

shifted_weight : violation_weight shifted (violation Raw 1 2 2 1 0 1) ≡ 2
shifted_weight = refl

-- the mirror split into two halves, which keep the level of their original and get a level 0 in the new order
abbrev halves : List Command
halves = Iss (pos 0 ∷ (pos 0 ∷ [])) (negsuc 1 ∷ []) (pos 1 ∷ []) (negsuc 0) ∷ []

abbrev split : Edit
split = edited_by mirror halves

split_violations : violations split ≡
    violation War 1 1 1 2 1 1 ∷ (violation Raw 1 1 2 1 1 1 ∷ (violation Waw 1 1 2 2 1 1
    ∷ (violation War 1 2 1 2 1 1 ∷ (violation Raw 1 2 2 1 1 1 ∷ (violation Waw 1 2 2 2 1 1
    ∷ (violation War 2 1 1 2 1 1 ∷ (violation War 2 1 1 2 1 0 ∷ (violation Raw 2 1 2 1 1 1 ∷ (violation Raw 2 1 2 1 1 0
    ∷ (violation Waw 2 1 2 2 1 1 ∷ (violation Waw 2 1 2 2 1 0
    ∷ (violation War 2 2 1 2 1 1 ∷ (violation Raw 2 2 2 1 1 1 ∷ (violation Waw 2 2 2 2 1 1 ∷ []))))))))))))))
split_violations = refl

-- the halves in loops of their own, the second loop first: the fourth violation is that of the read in the first half
abbrev exchanged_halves : Edit
exchanged_halves = edited_by mirror (Iss (pos 0 ∷ (pos 0 ∷ [])) (negsuc 1 ∷ []) (pos 1 ∷ []) (negsuc 0)
    ∷ (Fission (pos 0 ∷ []) (pos 1) ∷ (Reorder [] (pos 1 ∷ (pos 0 ∷ [])) ∷ [])))

fourth_of_halves : slice_get (violations exchanged_halves) 3 ≡ Some (violation War 1 2 1 2 1 0)
fourth_of_halves = refl

-- strips: the old level is over the new floor, whose rows stand before the subscripts
abbrev strips : Edit
strips = edited_by mirror (Stripmine (pos 0 ∷ []) (pos 1) (pos 4) ∷ [])

strips_second : violation_system strips (violation Waw 1 1 2 2 1 2) ≡ record {
  shape = record { outputs = 1; inputs = 1; locals = 2; parameters = 1 };
  rows = at_least (one ∷ (o ∷ (o ∷ (o ∷ (o ∷ (o ∷ []))))))
      ∷ (at_least (minus ∷ (o ∷ (o ∷ (o ∷ (one ∷ (minus ∷ []))))))
      ∷ (at_least (o ∷ (one ∷ (o ∷ (o ∷ (o ∷ (o ∷ []))))))
      ∷ (at_least (o ∷ (minus ∷ (o ∷ (o ∷ (one ∷ (minus ∷ []))))))
      ∷ (at_least (one ∷ (o ∷ (negsuc 3 ∷ (o ∷ (o ∷ (o ∷ []))))))
      ∷ (at_least (minus ∷ (o ∷ (pos 4 ∷ (o ∷ (o ∷ (pos 3 ∷ []))))))
      ∷ (at_least (o ∷ (one ∷ (o ∷ (negsuc 3 ∷ (o ∷ (o ∷ []))))))
      ∷ (at_least (o ∷ (minus ∷ (o ∷ (pos 4 ∷ (o ∷ (pos 3 ∷ []))))))
      ∷ (equal (one ∷ (minus ∷ (o ∷ (o ∷ (o ∷ (o ∷ []))))))
      ∷ (at_least (minus ∷ (one ∷ (o ∷ (o ∷ (o ∷ (minus ∷ []))))))
      ∷ (equal (o ∷ (o ∷ (one ∷ (minus ∷ (o ∷ (o ∷ []))))))
      ∷ (at_least (one ∷ (minus ∷ (o ∷ (o ∷ (o ∷ (minus ∷ [])))))) ∷ [])))))))))));
}
strips_second = refl
