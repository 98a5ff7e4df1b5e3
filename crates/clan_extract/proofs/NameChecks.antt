-- Roles of names, as they are worked out by hand. Places are numbers of bytes.
use Rattle.std.proofs.Common.{◌≡◌, refl, List, [], ◌∷◌, ℕ, Some, None}
use Rattle.std.specs.Prelude.{codes, true, false}
use Rattle.clan_extract.specs.Names.{Role, Function, ArrayOf, Iterator, Parameter, Occurrence, clash, parameters_in, arrays_in}

abbrev seen : List ℕ → Role → ℕ → Occurrence
seen name role at = record { name = name; role = Some role; shadows = false; at = at }

abbrev plain : List ℕ → ℕ → Occurrence
plain name at = record { name = name; role = None; shadows = false; at = at }

-- A = N; for (i = 0; i < N; i++) B[i] = A + f(i);
abbrev plain_before_control : List Occurrence
plain_before_control =
    seen (codes "A") (ArrayOf 0) 0 ∷ (plain (codes "N") 4 ∷ (seen (codes "i") Iterator 12 ∷ (seen (codes "i") Iterator 19 ∷ (seen (codes "N") Parameter 23 ∷ (seen (codes "i") Iterator 26
    ∷ (seen (codes "B") (ArrayOf 1) 31 ∷ (seen (codes "i") Iterator 33 ∷ (plain (codes "A") 38 ∷ (seen (codes "f") Function 42 ∷ (seen (codes "i") Iterator 44 ∷ []))))))))))

no_clash : clash plain_before_control ≡ None
no_clash = refl

parameters_are : parameters_in plain_before_control ≡ codes "N" ∷ []
parameters_are = refl

arrays_are : arrays_in plain_before_control ≡ codes "A" ∷ (codes "B" ∷ [])
arrays_are = refl

-- N = 1; before it: N is an array without subscripts first, and the clash is at the next N, the plain one
clash_at_plain : clash (seen (codes "N") (ArrayOf 0) 0 ∷ (seen (codes "A") (ArrayOf 0) 7 ∷ (plain (codes "N") 11 ∷ (seen (codes "N") Parameter 30 ∷ [])))) ≡ Some 11
clash_at_plain = refl

-- for (i = 0; i < N; i++) N = A[i];
clash_at_target : clash (seen (codes "i") Iterator 5 ∷ (seen (codes "N") Parameter 16 ∷ (seen (codes "N") (ArrayOf 0) 24 ∷ (seen (codes "A") (ArrayOf 1) 28 ∷ (seen (codes "i") Iterator 30 ∷ []))))) ≡ Some 24
clash_at_target = refl

-- a plain name that is a parameter nowhere is an array, and then it can't have a subscript
clash_at_subscripts : clash (seen (codes "A") (ArrayOf 0) 0 ∷ (plain (codes "B") 4 ∷ (seen (codes "A") (ArrayOf 0) 7 ∷ (seen (codes "B") (ArrayOf 1) 11 ∷ [])))) ≡ Some 11
clash_at_subscripts = refl

-- a loop inside a loop of its name
clash_at_shadow : clash (seen (codes "i") Iterator 5 ∷ (record { name = codes "i"; role = Some Iterator; shadows = true; at = 29 } ∷ [])) ≡ Some 29
clash_at_shadow = refl

-- loops of one name side by side
neighbours : clash (seen (codes "i") Iterator 5 ∷ (seen (codes "i") Iterator 40 ∷ [])) ≡ None
neighbours = refl
