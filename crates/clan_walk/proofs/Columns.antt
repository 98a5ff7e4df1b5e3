-- The columns of a row.
use Rattle.std.proofs.Common.{◌≡◌, ℕ, zero, suc, ◌+◌, ◌-◌, ◌≤◌, ◌<◌, List, [], ◌∷◌, ◌++◌, length, take, drop, map, Bool, true, false, cond, refl, sym, ◌∙◌, ap, arith, append_assoc, ℤ, pos}
use Rattle.std.specs.Prelude.{get_or}
use Rattle.std.proofs.lemmas.List.{length-append}
use Rattle.relation_core.specs.declared.part_rows.PartRow.{PartRow}
use Rattle.scop_data.specs.SolvedRows.{zeros}
use Rattle.scop_core.proofs.Assemblies.{item_drop}
use Rattle.clan_extract.specs.Scops.{padded, local_columns, locals_in, part_row, part_rows}
use Rattle.clan_extract.proofs.Bounds.{length_zeros}
use Rattle.clan_rows.specs.declared.constraints.Constraint.{Constraint}
use Rattle.clan_rows.specs.Contents.{row_of, constraint_of}

pub padded_zeros : (n : ℕ) → padded n [] ≡ zeros n
padded_zeros zero = refl
padded_zeros (suc n) = ap (λ zs. pos 0 ∷ zs) (padded_zeros n)

-- cut, and filled up
pub padded_long : (n : ℕ) (xs : List ℤ) → n ≤ length xs → padded n xs ≡ take n xs
padded_long zero [] h = refl
padded_long zero (x ∷ xs) h = refl
padded_long (suc n) [] h = absurd (omega (arith, h))
padded_long (suc n) (x ∷ xs) h = ap (λ ys. x ∷ ys) (padded_long n xs (omega (arith, h)))

pub padded_short : (n : ℕ) (xs : List ℤ) → length xs < n → padded n xs ≡ xs ++ zeros (n - length xs)
padded_short zero xs h = absurd (omega (arith, h))
padded_short (suc n) [] h = padded_zeros (suc n) ∙ ap zeros (less (suc n))
  where
    less : (m : ℕ) → m ≡ m - 0
    less m = omega arith
padded_short (suc n) (x ∷ xs) h = ap (λ ys. x ∷ ys) (padded_short n xs (omega (arith, h)) ∙ ap (λ k. xs ++ zeros k) (same n))
  where
    same : (m : ℕ) → m - length xs ≡ suc m - length (x ∷ xs)
    same m = omega arith

pub padded_length : (n : ℕ) (xs : List ℤ) → length (padded n xs) ≡ n
padded_length zero xs = refl
padded_length (suc n) [] = omega (arith, padded_length n [])
padded_length (suc n) (x ∷ xs) = omega (arith, padded_length n xs)

pub locals_length : (before behind : ℕ) (b : Bool) (z : ℤ) → length (local_columns before behind b z) ≡ before + behind + cond b 1 0
locals_length before behind true z = length-append (zeros before) (z ∷ zeros behind) ∙ omega (arith, length_zeros before, length_zeros behind)
locals_length before behind false z = length_zeros (before + behind) ∙ omega arith

-- a row of these pieces
pub row_length : (a0 a1 a2 a3 a4 : List ℤ) (o p before behind : ℕ) (b : Bool) (z k : ℤ) (xs ys : List ℤ)
    → a0 ≡ [] → a1 ≡ a0 ++ padded o xs → a2 ≡ a1 ++ local_columns before behind b z → a3 ≡ a2 ++ padded p ys → a4 ≡ a3 ++ k ∷ []
    → length a4 ≡ o + (before + behind + cond b 1 0) + p + 1
row_length a0 a1 a2 a3 a4 o p before behind b z k xs ys e0 e1 e2 e3 e4 =
    omega (
      arith,
      ap length e0,
      ap length e1 ∙ length-append a0 (padded o xs),
      padded_length o xs,
      ap length e2 ∙ length-append a1 (local_columns before behind b z),
      locals_length before behind b z,
      ap length e3 ∙ length-append a2 (padded p ys),
      padded_length p ys,
      ap length e4 ∙ length-append a3 (k ∷ []),
    )

-- the first of the constraints that are left
pub locals_more : (cs : List Constraint) (i : ℕ) (c : Constraint) → i < length cs → c ≡ get_or cs i c
    → locals_in (map constraint_of (drop i cs)) ≡ cond c.has_local 1 0 + locals_in (map constraint_of (drop (i + 1) cs))
locals_more cs i c l e = ap (λ ds. locals_in (map constraint_of ds)) (item_drop cs i c l e)

pub rows_more : (o p o2 p2 before behind i : ℕ) (cs : List Constraint) (c : Constraint) (old new all : List PartRow) → i < length cs → c ≡ get_or cs i c
    → o2 ≡ o → p2 ≡ p → behind ≡ locals_in (map constraint_of (drop (i + 1) cs))
    → new ≡ old ++ map (part_row o2 p2 (local_columns before behind c.has_local)) (map row_of c.rows)
    → old ++ part_rows o p before (map constraint_of (drop i cs)) ≡ all
    → new ++ part_rows o p (before + cond c.has_local 1 0) (map constraint_of (drop (i + 1) cs)) ≡ all
rows_more o p o2 p2 before behind i cs c old new all l e eo ep eb more is =
    ap (λ rows. rows ++ rest) more ∙ append_assoc old (map (part_row o2 p2 (local_columns before behind c.has_local)) (map row_of c.rows)) rest
    ∙ ap (λ k. old ++ (map (part_row k p2 (local_columns before behind c.has_local)) (map row_of c.rows) ++ rest)) eo
    ∙ ap (λ k. old ++ (map (part_row o k (local_columns before behind c.has_local)) (map row_of c.rows) ++ rest)) ep
    ∙ ap (λ k. old ++ (map (part_row o p (local_columns before k c.has_local)) (map row_of c.rows) ++ rest)) eb
    ∙ sym (ap (λ ds. old ++ part_rows o p before (map constraint_of ds)) (item_drop cs i c l e)) ∙ is
  where
    rest : List PartRow
    rest = part_rows o p (before + cond c.has_local 1 0) (map constraint_of (drop (i + 1) cs))
