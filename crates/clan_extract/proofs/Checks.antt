-- Definitions on concrete data.
use Rattle.std.proofs.Common.{◌≡◌, refl, List, [], ◌∷◌, ℕ, ℤ, pos, negsuc}
use Rattle.std.specs.Prelude.{codes, true, false}
use Rattle.scop_core.specs.ScopData.{ScopData}
use Rattle.scop_core.specs.Memory.{Cell, Initial, App, NoTerms, More, initial}
use Rattle.scop_core.specs.Meaning.{Instance, stamp, final}
use Rattle.clan_extract.specs.Regions.{Number, Name, Sum, Negation, Ceiling, Floor, Remainder, IsLess, IsGreaterOrEqual, IsUnequal, Compare, Reference, Nodes, NoNodes, Then, For, If, Assign}
use Rattle.clan_extract.specs.Execution.{loop_values, run_nodes, Setting, value_of}
use Rattle.clan_extract.specs.Scops.{scop_of}

-- for (i = 1; i < N; i++) A[i] = 0;
abbrev pub one_loop : Nodes
one_loop =
    Then (For (codes "i") (Number 1) IsLess (Name (codes "N")) (pos 1)
    (Then (Assign (record {
      text = codes "A[i] = 0;";
      target = record { name = codes "A"; subscripts = Name (codes "i") ∷ [] };
      updates = false;
      right = [];
    })) NoNodes)) NoNodes

abbrev one_loop_scop : ScopData
one_loop_scop = scop_of (codes "N" ∷ []) (codes "A" ∷ []) one_loop

-- N is 3
abbrev three_turns : Setting
three_turns = record { parameters = codes "N" ∷ []; values = pos 3 ∷ []; arrays = codes "A" ∷ [] }

abbrev instance_at : ℤ → Instance
instance_at v = record { statement = 1; values = v ∷ [] }

up_by_three : loop_values IsLess (pos 1) (pos 9) (pos 3) ≡ pos 1 ∷ (pos 4 ∷ (pos 7 ∷ []))
up_by_three = refl

down_to_minus_one : loop_values IsGreaterOrEqual (pos 1) (negsuc 0) (negsuc 0) ≡ pos 1 ∷ (pos 0 ∷ (negsuc 0 ∷ []))
down_to_minus_one = refl

no_turn : loop_values IsLess (pos 1) (negsuc 4) (pos 1) ≡ []
no_turn = refl

-- the second instance at N = 3 has the stamp 0, 2, 0
stamp_of_second : stamp one_loop_scop (pos 3 ∷ []) (instance_at (pos 2)) ≡ pos 0 ∷ (pos 2 ∷ (pos 0 ∷ []))
stamp_of_second = refl

-- at N = 3 the cell A[2] holds what the body computed there, and A[3] what it held at the start
written : run_nodes three_turns [] one_loop initial (record { array = pos 1; subscripts = pos 2 ∷ [] })
    ≡ App (codes "A[i] = 0;") (codes "i" ∷ []) 1 (pos 2 ∷ []) (pos 3 ∷ []) NoTerms
written = refl

unwritten : run_nodes three_turns [] one_loop initial (record { array = pos 1; subscripts = pos 3 ∷ [] })
    ≡ Initial (record { array = pos 1; subscripts = pos 3 ∷ [] })
unwritten = refl

same_in_scop : final one_loop_scop (pos 3 ∷ []) (instance_at (pos 1) ∷ (instance_at (pos 2) ∷ [])) (record { array = pos 1; subscripts = pos 2 ∷ [] })
    ≡ App (codes "A[i] = 0;") (codes "i" ∷ []) 1 (pos 2 ∷ []) (pos 3 ∷ []) NoTerms
same_in_scop = refl

-- ceild(-5, 4), floord(-5, 4) and -5 % 3
abbrev nothing : Setting
nothing = record { parameters = []; values = []; arrays = [] }

ceiling_of_minus_five : value_of nothing [] (Ceiling (Negation (Number 5)) 4) ≡ negsuc 0
ceiling_of_minus_five = refl

floor_of_minus_five : value_of nothing [] (Floor (Negation (Number 5)) 4) ≡ negsuc 1
floor_of_minus_five = refl

remainder_of_minus_five : value_of nothing [] (Remainder (Negation (Number 5)) 3) ≡ negsuc 1
remainder_of_minus_five = refl

-- for (i = 0; i < N; i += 2) for (j = i; j >= 0; j--) if (i % 4 != 0) A[j] += M * B[i + K]; else C = j;
abbrev plain : List ℕ → Reference
plain name = record { name = name; subscripts = [] }

abbrev larger : Nodes
larger =
    Then (For (codes "i") (Number 0) IsLess (Name (codes "N")) (pos 2)
    (Then (For (codes "j") (Name (codes "i")) IsGreaterOrEqual (Number 0) (negsuc 0)
    (Then (If (Compare IsUnequal (Remainder (Name (codes "i")) 4) (Number 0))
    (Then (Assign (record {
      text = codes "A[j] += M * B[i + K];";
      target = record { name = codes "A"; subscripts = Name (codes "j") ∷ [] };
      updates = true;
      right = plain (codes "M") ∷ (record { name = codes "B"; subscripts = Sum (Name (codes "i")) (Name (codes "K")) ∷ [] } ∷ []);
    })) NoNodes)
    (Then (Assign (record { text = codes "C = j;"; target = plain (codes "C"); updates = false; right = plain (codes "j") ∷ [] })) NoNodes)) NoNodes)) NoNodes)) NoNodes

abbrev two_turns : Setting
two_turns = record {
  parameters = codes "N" ∷ (codes "K" ∷ []);
  values = pos 4 ∷ (pos 10 ∷ []);
  arrays = codes "A" ∷ (codes "M" ∷ (codes "B" ∷ (codes "C" ∷ [])));
}

-- at N = 4, K = 10 the outer loop takes 0 and 2: A[1] is updated once, at i = 2 and j = 1, from A[1], M and B[12]
abbrev cell : ℤ → List ℤ → Cell
cell array subscripts = record { array = array; subscripts = subscripts }

updated_once : run_nodes two_turns [] larger initial (cell (pos 1) (pos 1 ∷ []))
    ≡ App (codes "A[j] += M * B[i + K];") (codes "i" ∷ (codes "j" ∷ [])) 1 (pos 2 ∷ (pos 1 ∷ [])) (pos 4 ∷ (pos 10 ∷ []))
    (More (Initial (cell (pos 1) (pos 1 ∷ []))) (More (Initial (cell (pos 2) [])) (More (Initial (cell (pos 3) (pos 12 ∷ []))) NoTerms)))
updated_once = refl

-- C is written at i = 0 and j = 0 alone; the value of j is no access
written_by_else : run_nodes two_turns [] larger initial (cell (pos 4) [])
    ≡ App (codes "C = j;") (codes "i" ∷ (codes "j" ∷ [])) 1 (pos 0 ∷ (pos 0 ∷ [])) (pos 4 ∷ (pos 10 ∷ [])) NoTerms
written_by_else = refl
