-- The answer of each operation: its refusals, the first that holds, and else the new vectors.
use Rattle.std.specs.Prelude.{◌≡◌, ℕ, nat_lt, if◌then◌else◌, not, ◌&&◌, Result, Ok, Err, List, map}
use Rattle.std.specs.List.{flat_map}
use Rattle.beta_tree.specs.declared.refusals.BetaFail.{BetaFail}
use Rattle.beta_tree.specs.declared.refusals.BetaFail.TheVariants.{Memory, NoBeta, NotALoop, BadArgument}
use Rattle.beta_tree.specs.Vectors.{no_statement, is_leaf, is_loop, is_nil, children_of}
use Rattle.beta_tree.specs.Edits.{next_sibling, fissioned, fused, reordered, is_permutation_of, with_level, leaf_split}

-- a refusal other than for want of memory is the stated one
abbrev pub HasCause : BetaFail → Result (List (List ℕ)) BetaFail → Type 0
HasCause Memory answer = Unit {0}
HasCause NoBeta answer = answer ≡ Err NoBeta
HasCause NotALoop answer = answer ≡ Err NotALoop
HasCause BadArgument answer = answer ≡ Err BadArgument

-- fission of P at its child c, from 1 to the number of children minus 1
abbrev pub fission_answer : List ℕ → ℕ → List (List ℕ) → Result (List (List ℕ)) BetaFail
fission_answer P c V =
    if no_statement P V then Err NoBeta
    else if not (is_loop P V) then Err NotALoop
    else if not (nat_lt 0 c && nat_lt c (children_of P V)) then Err BadArgument
    else Ok (map (fissioned P c) V)

-- fuse of P with its next sibling, both loops
abbrev pub fuse_answer : List ℕ → List (List ℕ) → Result (List (List ℕ)) BetaFail
fuse_answer P V =
    if no_statement P V then Err NoBeta
    else if not (is_nil P) && no_statement (next_sibling P) V then Err NoBeta
    else if not (is_loop P V && is_loop (next_sibling P) V) then Err NotALoop
    else Ok (map (fused P (children_of P V)) V)

-- reorder of the children of P, which is no leaf, by a permutation of their numbers
abbrev pub reorder_answer : List ℕ → List ℕ → List (List ℕ) → Result (List (List ℕ)) BetaFail
reorder_answer P order V =
    if no_statement P V then Err NoBeta
    else if is_leaf P V then Err NotALoop
    else if not (is_permutation_of (children_of P V) order) then Err BadArgument
    else Ok (map (reordered P order) V)

-- a new level with the beta 0 at place k of each vector under P
abbrev pub level_answer : List ℕ → ℕ → List (List ℕ) → Result (List (List ℕ)) BetaFail
level_answer P k V = if no_statement P V then Err NoBeta else Ok (map (with_level P k) V)

-- a new leaf right after the leaf P
abbrev pub leaf_answer : List ℕ → List (List ℕ) → Result (List (List ℕ)) BetaFail
leaf_answer P V =
    if no_statement P V then Err NoBeta
    else if not (is_leaf P V) then Err BadArgument
    else Ok (flat_map (leaf_split P) V)
