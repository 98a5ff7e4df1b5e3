-- The two halves of a domain: where an affine value is at least 0, and where it is less.
use Rattle.std.proofs.Common.{◌≡◌, ◌⊎◌, inl, inr, List, [], ◌∷◌, ◌++◌, length, map, ℤ, pos, negsuc, neg_ℤ, ◌+ℤ◌, ◌≤ℤ◌, sym, subst, ◌∙◌, arith}
use Rattle.std.proofs.lemmas.Int.{ints, by_lt_z}
use Rattle.std.proofs.lemmas.List.{length-replicate}
use Rattle.row_core.specs.Rows.{dot}
use Rattle.row_core.proofs.Ring.{mul_one_z}
use Rattle.relation_core.specs.Systems.{System, with_row}
use Rattle.relation_core.specs.Points.{LiesIn, LiesInSome, coordinates}
use Rattle.relation_core.specs.declared.part_rows.RowKind.TheVariants.{AtLeast}
use Rattle.relation_core.proofs.Points.{meets_append, meets_front, meets_back}
use Rattle.scop_core.specs.SolvedRows.{zeros}
use Rattle.schedule_forms.proofs.SolvedDots.{dot_append, dot_negative}
use Rattle.clay_commands.specs.Drafts.{condition_row, parts_where}
use Rattle.edit_laws.proofs.Rows.{dot_zeros}

-- the affine value at iterators x and parameters n
abbrev pub condition_at : List ℤ → List ℤ → ℤ → List ℤ → List ℤ → ℤ
condition_at xs ns c x n = (dot xs x +ℤ dot ns n) +ℤ c

row_value : (part : System) (xs ns : List ℤ) (c : ℤ) (x l n : List ℤ) → length xs ≡ length x → length l ≡ part.shape.locals → length ns ≡ length n
    → dot (condition_row part xs ns c) (coordinates x [] l n) ≡ condition_at xs ns c x n
row_value part xs ns c x l n ex el en =
    let m = part.shape.locals in
    let behind = ns ++ c ∷ [] in
    let point = n ++ pos 1 ∷ [] in
    let first : dot (xs ++ (zeros m ++ behind)) (x ++ (l ++ point)) ≡ dot xs x +ℤ dot (zeros m ++ behind) (l ++ point) = dot_append xs (zeros m ++ behind) x (l ++ point) ex in
    let middle : dot (zeros m ++ behind) (l ++ point) ≡ dot (zeros m) l +ℤ dot behind point = dot_append (zeros m) behind l point (length-replicate m (pos 0) ∙ sym el) in
    let nothing : dot (zeros m) l ≡ pos 0 = dot_zeros m l in
    let last : dot behind point ≡ dot ns n +ℤ dot (c ∷ []) (pos 1 ∷ []) = dot_append ns (c ∷ []) n (pos 1 ∷ []) en in
    omega (arith, ints, mul_one_z c)

part_to : (part : System) (xs ns : List ℤ) (c : ℤ) (x n : List ℤ) → length xs ≡ length x → length ns ≡ length n → pos 0 ≤ℤ condition_at xs ns c x n
    → LiesIn part x [] n → LiesIn (with_row part AtLeast (condition_row part xs ns c)) x [] n
part_to part xs ns c x n ex en h lies = record {
  outputs_are = lies.outputs_are;
  inputs_are = lies.inputs_are;
  parameters_are = lies.parameters_are;
  locals = lies.locals;
  locals_are = lies.locals_are;
  meets = meets_append part.rows (record { kind = AtLeast; entries = condition_row part xs ns c } ∷ []) (coordinates x [] lies.locals n) lies.meets
      (subst (λ z. pos 0 ≤ℤ z) (sym (row_value part xs ns c x lies.locals n ex lies.locals_are en)) h, tt);
}

part_from : (part : System) (xs ns : List ℤ) (c : ℤ) (x n : List ℤ) → LiesIn (with_row part AtLeast (condition_row part xs ns c)) x [] n → LiesIn part x [] n
part_from part xs ns c x n lies = record {
  outputs_are = lies.outputs_are;
  inputs_are = lies.inputs_are;
  parameters_are = lies.parameters_are;
  locals = lies.locals;
  locals_are = lies.locals_are;
  meets = meets_front part.rows (record { kind = AtLeast; entries = condition_row part xs ns c } ∷ []) (coordinates x [] lies.locals n) lies.meets;
}

part_sign : (part : System) (xs ns : List ℤ) (c : ℤ) (x n : List ℤ) → length xs ≡ length x → length ns ≡ length n
    → LiesIn (with_row part AtLeast (condition_row part xs ns c)) x [] n → pos 0 ≤ℤ condition_at xs ns c x n
part_sign part xs ns c x n ex en lies =
    subst (λ z. pos 0 ≤ℤ z) (row_value part xs ns c x lies.locals n ex lies.locals_are en)
    (meets_back part.rows (record { kind = AtLeast; entries = condition_row part xs ns c } ∷ []) (coordinates x [] lies.locals n) lies.meets).0

pub parts_to : (parts : List System) (xs ns : List ℤ) (c : ℤ) (x n : List ℤ) → length xs ≡ length x → length ns ≡ length n → pos 0 ≤ℤ condition_at xs ns c x n
    → LiesInSome parts x [] n → LiesInSome (parts_where xs ns c parts) x [] n
parts_to [] xs ns c x n ex en h lies = absurd lies
parts_to (part ∷ parts) xs ns c x n ex en h (inl lies) = inl (part_to part xs ns c x n ex en h lies)
parts_to (part ∷ parts) xs ns c x n ex en h (inr lies) = inr (parts_to parts xs ns c x n ex en h lies)

pub parts_from : (parts : List System) (xs ns : List ℤ) (c : ℤ) (x n : List ℤ) → LiesInSome (parts_where xs ns c parts) x [] n → LiesInSome parts x [] n
parts_from [] xs ns c x n lies = absurd lies
parts_from (part ∷ parts) xs ns c x n (inl lies) = inl (part_from part xs ns c x n lies)
parts_from (part ∷ parts) xs ns c x n (inr lies) = inr (parts_from parts xs ns c x n lies)

pub parts_sign : (parts : List System) (xs ns : List ℤ) (c : ℤ) (x n : List ℤ) → length xs ≡ length x → length ns ≡ length n
    → LiesInSome (parts_where xs ns c parts) x [] n → pos 0 ≤ℤ condition_at xs ns c x n
parts_sign [] xs ns c x n ex en lies = absurd lies
parts_sign (part ∷ parts) xs ns c x n ex en (inl lies) = part_sign part xs ns c x n ex en lies
parts_sign (part ∷ parts) xs ns c x n ex en (inr lies) = parts_sign parts xs ns c x n ex en lies

-- the value for the second half
pub other_value : (xs ns : List ℤ) (c : ℤ) (x n : List ℤ) → condition_at (map neg_ℤ xs) (map neg_ℤ ns) (neg_ℤ c +ℤ negsuc 0) x n ≡ neg_ℤ (condition_at xs ns c x n) +ℤ negsuc 0
other_value xs ns c x n = omega (arith, ints, dot_negative xs x, dot_negative ns n)

-- a number is at least 0, or its negative less 1 is; never both
pub either_sign : (f : ℤ) → (pos 0 ≤ℤ f) ⊎ (pos 0 ≤ℤ (neg_ℤ f +ℤ negsuc 0))
either_sign f = by_lt_z f (pos 0) (λ h. inr (omega (arith, ints))) (λ h. inl h)

pub never_both : (f : ℤ) → pos 0 ≤ℤ f → pos 0 ≤ℤ (neg_ℤ f +ℤ negsuc 0) → ⊥
never_both f a b = omega (arith, ints)
