-- Vectors that the tests begin with.
use Rattle.std.proofs.Common.{ℤ, pos, negsuc, List, [], ◌∷◌, inl, inr, arith}
use Rattle.std.proofs.lemmas.Int.{ints}
use Rattle.beta_tree.specs.Vectors.{PrefixFree}

abbrev pub sample : List (List ℤ)
sample = (pos 0 ∷ (negsuc 0 ∷ [])) ∷ ((pos 0 ∷ (pos 1 ∷ [])) ∷ ((pos 1 ∷ []) ∷ []))

pub sample_free : PrefixFree sample
sample_free = ((inr (inl (λ e. omega (arith, ints))), (inl (λ e. omega (arith, ints)), tt)), ((inl (λ e. omega (arith, ints)), tt), (tt, tt)))
