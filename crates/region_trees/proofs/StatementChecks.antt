-- Statements as they are read by hand: their regions, their names, and what they are translated to.
use Rattle.std.proofs.Common.{◌≡◌, refl, List, [], ◌∷◌, ℕ, None, Some, Ok, Err}
use Rattle.std.specs.Prelude.{codes, true, false, ℤ, pos, negsuc}
use Rattle.suite_base.specs.declared.refusals.Refusal.TheVariants.{NameClash, NotAffine}
use Rattle.clan_extract.specs.Regions.{Number, Name, Sum, Difference, Maximum, Remainder, Comparison, IsLess, IsGreater, IsGreaterOrEqual, IsEqual, Compare, Opposite, Assignment, For, If, Assign, Nodes, NoNodes, Then}
use Rattle.clan_extract.specs.Names.{Function, ArrayOf, Iterator, Parameter, Occurrence, clash, parameters_in, arrays_in}
use Rattle.clan_extract.specs.Scops.{scop_of}
use Rattle.region_trees.specs.Terms.{Plus, Times, Modulo, Compares, Term, Integer, Literal, Named, Call, Bracket, Joined, Choice, Terms, NoTerms, More, Located, Element}
use Rattle.region_trees.specs.Statements.{Statement, Loop, Branch, Block, Statements, NoStatements, Next}
use Rattle.region_trees.specs.Statements as made
use Rattle.region_trees.specs.Regions.{nodes_of}
use Rattle.region_trees.specs.Occurrences.{occurrences_in_all}
use Rattle.region_trees.specs.Translation.{of_statements}

abbrev name : List ℕ → ℕ → Term
name text at = Named text at NoTerms

abbrev one : ℕ → Term → Terms
one at e = More at e NoTerms

abbrev located : ℕ → Term → Located
located at e = record { at = at; term = e }

abbrev alone : Statement → Statements
alone x = Next x NoStatements

abbrev element : List ℕ → ℕ → Terms → Element
element text at subscripts = record { name = text; at = at; subscripts = subscripts }

-- for (i = START; i COMPARISON BOUND; i STEP) BODY, with its parts at the bytes 9, 16 and 23
abbrev loop : Term → Comparison → Term → ℤ → Statements → Statements
loop start comparison bound step body = alone (Loop (codes "i") 5 (located 9 start) comparison (located 16 bound) step 23 body)

-- A[i] = 0; from the byte 30 on
abbrev write : Statements
write = alone (made.Assignment (codes "A[i] = 0;") (element (codes "A") 30 (one 32 (name (codes "i") 32))) false (located 37 (Integer 0)))

abbrev N : Term
N = name (codes "N") 16

-- ---- loops

abbrev written : Nodes
written = Then (Assign (record {
  text = codes "A[i] = 0;";
  target = record { name = codes "A"; subscripts = Name (codes "i") ∷ [] };
  updates = false;
  right = [];
})) NoNodes

upward : nodes_of (loop (Integer 0) IsLess N (pos 1) write) ≡ Ok (Then (For (codes "i") (Number 0) IsLess (Name (codes "N")) (pos 1) written) NoNodes)
upward = refl

downward : nodes_of (loop N IsGreaterOrEqual (Call (codes "max") 16 (More 20 (Integer 0) (one 23 (name (codes "M") 23)))) (negsuc 0) write)
    ≡ Ok (Then (For (codes "i") (Name (codes "N")) IsGreaterOrEqual (Maximum (Number 0) (Name (codes "M"))) (negsuc 0) written) NoNodes)
downward = refl

-- max begins an upward loop, min bounds it; in a downward loop it is the other way round
abbrev greatest : Term
greatest = Call (codes "max") 9 (More 13 (Integer 0) (one 16 (name (codes "N") 16)))

start_at_fault : nodes_of (loop greatest IsGreater (Integer 0) (negsuc 0) write) ≡ Err 9
start_at_fault = refl

bound_at_fault : nodes_of (loop greatest IsLess greatest (pos 1) write) ≡ Err 16
bound_at_fault = refl

-- with a step of at least 2 the start is affine; with a step of 0 the step alone is at fault
strided_start_at_fault : nodes_of (loop greatest IsLess N (pos 2) write) ≡ Err 9
strided_start_at_fault = refl

step_at_fault : nodes_of (loop greatest IsLess N (pos 0) write) ≡ Err 23
step_at_fault = refl

-- the head comes before the body, and the start before the bound
start_first : nodes_of (loop Literal IsLess Literal (pos 0) write) ≡ Err 9
start_first = refl

-- ---- branches: if (i % 2 == 0) A[i] = 0; else ;

abbrev even : Term
even = Joined (Compares IsEqual) (Joined Modulo (name (codes "i") 4) (Integer 2)) (Integer 0)

branches : nodes_of (alone (Branch (located 4 even) write (alone (Block NoStatements))))
    ≡ Ok (Then (If (Compare IsEqual (Remainder (Name (codes "i")) 2) (Number 0)) written (Then (Rattle.clan_extract.specs.Regions.Block NoNodes) NoNodes)) NoNodes)
branches = refl

-- if ((A[i * i]) < 0): at fault is the condition, at its first byte
condition_at_fault : nodes_of (alone (Branch (
    located 4 (Joined (Compares IsLess) (Bracket (Named (codes "A") 5 (one 7 (Joined Times (name (codes "i") 7) (name (codes "i") 11))))) (Integer 0))
    ) write NoStatements)) ≡ Err 4
condition_at_fault = refl

-- ---- assignments: A[i] += B[i + 1] * f(N) + (C ? D : 2)

abbrev update : Statements
update = alone (made.Assignment (codes "A[i] += ..;") (element (codes "A") 0 (one 2 (name (codes "i") 2))) true (
    located 8 (
    Joined Plus
    (Joined Times (Named (codes "B") 8 (one 10 (Joined Plus (name (codes "i") 10) (Integer 1)))) (Call (codes "f") 19 (one 21 (name (codes "N") 21))))
    (Bracket (Choice (name (codes "C") 27) (name (codes "D") 31) (Integer 2)))
    )
    ))

references : nodes_of update
    ≡ Ok (Then (Assign (record {
      text = codes "A[i] += ..;";
      target = record { name = codes "A"; subscripts = Name (codes "i") ∷ [] };
      updates = true;
      right = record { name = codes "B"; subscripts = Sum (Name (codes "i")) (Number 1) ∷ [] }
          ∷ (record { name = codes "N"; subscripts = [] } ∷ (record { name = codes "C"; subscripts = [] } ∷ (record { name = codes "D"; subscripts = [] } ∷ [])));
    })) NoNodes)
references = refl

abbrev seen : List ℕ → Rattle.clan_extract.specs.Names.Role → ℕ → Occurrence
seen text role at = record { name = text; role = Some role; shadows = false; at = at }

abbrev plain : List ℕ → ℕ → Occurrence
plain text at = record { name = text; role = None; shadows = false; at = at }

-- outside a loop a plain name of a right side has no role of its own, and i in a subscript is a parameter
names : occurrences_in_all [] update
    ≡ seen (codes "A") (ArrayOf 1) 0 ∷ (seen (codes "i") Parameter 2 ∷ (seen (codes "B") (ArrayOf 1) 8 ∷ (seen (codes "i") Parameter 10
    ∷ (seen (codes "f") Function 19 ∷ (plain (codes "N") 21 ∷ (plain (codes "C") 27 ∷ (plain (codes "D") 31 ∷ [])))))))
names = refl

-- in the loop i is its iterator; max is no name
names_of_loop : occurrences_in_all [] (loop greatest IsLess N (pos 1) write)
    ≡ seen (codes "i") Iterator 5 ∷ (seen (codes "N") Parameter 16 ∷ (seen (codes "N") Parameter 16 ∷ (seen (codes "A") (ArrayOf 1) 30 ∷ (seen (codes "i") Iterator 32 ∷ []))))
names_of_loop = refl

-- a loop inside a loop of its name, and a start that is the loop's own name
shadowing : clash (occurrences_in_all [] (loop (Integer 0) IsLess N (pos 1) (alone (Loop (codes "i") 40 (located 44 (Integer 0)) IsLess (located 50 N) (pos 1) 55 write)))) ≡ Some 40
shadowing = refl

own_name : clash (occurrences_in_all [] (loop (name (codes "i") 9) IsLess N (pos 1) write)) ≡ Some 9
own_name = refl

-- ---- the whole

-- the bytes before a fault: three lines, of which the third has the bytes from 6 on
abbrev source : List ℕ
source = codes "ab\ncd\nefghijklmnopqrstuvwxyzefghijklmnopqrstuvwxyz"

clash_before_fault : of_statements source (loop (name (codes "i") 9) IsLess Literal (pos 1) write) ≡ Err (NameClash (record { line = 3; column = 4 }))
clash_before_fault = refl

fault : of_statements source (loop (Integer 0) IsLess Literal (pos 1) write) ≡ Err (NotAffine (record { line = 3; column = 11 }))
fault = refl

translated : of_statements source (loop (Integer 0) IsLess N (pos 1) write)
    ≡ Ok (scop_of (codes "N" ∷ []) (codes "A" ∷ []) (Then (For (codes "i") (Number 0) IsLess (Name (codes "N")) (pos 1) written) NoNodes))
translated = refl
