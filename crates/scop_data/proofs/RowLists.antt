use Rattle.std.proofs.Common.{◌≡◌, ℕ, ◌+◌, ◌-◌, ◌<◌, ◌≤◌, List, [], ◌∷◌, ◌++◌, ℤ, pos, neg_ℤ, ◌+ℤ◌, ◌∙◌, sym, ap, take, drop, length, replicate, append_assoc, refl, arith, map}
use Rattle.std.proofs.lemmas.List.{replicate-append-replicate}
use Rattle.scop_data.specs.SolvedRows.{zeros, unit, raised}

-- the negative of a list in three pieces
pub negated_pieces : (a b : List ℤ) (x : ℤ) → map neg_ℤ (a ++ x ∷ b) ≡ map neg_ℤ a ++ neg_ℤ x ∷ map neg_ℤ b
negated_pieces [] b x = refl
negated_pieces (y ∷ a) b x = ap (λ z. neg_ℤ y ∷ z) (negated_pieces a b x)
