-- Points of joined and widened systems.
use Rattle.std.specs.Prelude.{ℤ, pos, ◌+ℤ◌, ◌*ℤ◌, ℕ, zero, suc, ◌+◌, ◌≤◌, ◌≡◌, List, [], ◌∷◌, ◌++◌, length, insert}
use Rattle.std.proofs.Common.{arith, ap, sym, ◌∙◌, subst}
use Rattle.std.proofs.lemmas.Int.{ints}
use Rattle.std.proofs.lemmas.List.{append_assoc, length-append}
use Rattle.row_core.specs.Rows.{dot}
use Rattle.relation_core.specs.declared.part_rows.PartRow.{PartRow}
use Rattle.relation_core.specs.Points.{MeetsAll, coordinates, MembersAreRationalPoints}

-- a point meets two lists of rows exactly where it meets all rows of both
pub meets_append : (a b : List PartRow) (v : List ℤ) → MeetsAll a v → MeetsAll b v → MeetsAll (a ++ b) v
meets_append [] b v f g = g
meets_append (row ∷ a) b v f g = (f.0, meets_append a b v f.1 g)

pub meets_front : (a b : List PartRow) (v : List ℤ) → MeetsAll (a ++ b) v → MeetsAll a v
meets_front [] b v f = tt
meets_front (row ∷ a) b v f = (f.0, meets_front a b v f.1)

pub meets_back : (a b : List PartRow) (v : List ℤ) → MeetsAll (a ++ b) v → MeetsAll b v
meets_back [] b v f = f
meets_back (row ∷ a) b v f = meets_back a b v f.1

-- a column of zeros adds nothing, whatever the point has there
pub dot_insert : (row v : List ℤ) (k : ℕ) (z : ℤ) → k ≤ length row → k ≤ length v → dot (insert row k (pos 0)) (insert v k z) ≡ dot row v
dot_insert row v zero z f g = omega (arith, ints)
dot_insert [] v (suc k) z f g = absurd (omega arith)
dot_insert (c ∷ row) [] (suc k) z f g = absurd (omega arith)
dot_insert (c ∷ row) (x ∷ v) (suc k) z f g =
    let f1 : k ≤ length row = omega arith in
    let g1 : k ≤ length v = omega arith in
    ap (λ n. (c *ℤ x) +ℤ n) (dot_insert row v k z f1 g1)

-- the coordinates are a point and its factor 1
joined : (y x l n : List ℤ) → coordinates y x l n ≡ (y ++ (x ++ (l ++ n))) ++ pos 1 ∷ []
joined y x l n =
    ap (λ t. y ++ (x ++ t)) (sym (append_assoc l n (pos 1 ∷ [])))
    ∙ (ap (λ t. y ++ t) (sym (append_assoc x (l ++ n) (pos 1 ∷ []))) ∙ sym (append_assoc y (x ++ (l ++ n)) (pos 1 ∷ [])))

joined_length : (y x l n : List ℤ) → length (y ++ (x ++ (l ++ n))) ≡ length y + length x + length l + length n
joined_length y x l n =
    let a = length-append y (x ++ (l ++ n)) in
    let b = length-append x (l ++ n) in
    let c = length-append l n in
    omega (arith, a, b, c)

pub members_are_points : MembersAreRationalPoints
members_are_points part y x n lies =
    let l = lies.locals in
    record {
      at = y ++ (x ++ (l ++ n));
      factor = pos 1;
      length_is = joined_length y x l n ∙ omega (arith, lies.outputs_are, lies.inputs_are, lies.locals_are, lies.parameters_are);
      point = record { positive = omega (arith, ints); meets = subst (λ v. MeetsAll part.rows v) (joined y x l n) lies.meets };
    }
