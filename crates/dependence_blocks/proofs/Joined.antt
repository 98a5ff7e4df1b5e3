-- Pieces of a line that are appended one after the other.
use Rattle.std.proofs.Common.{◌≡◌, ◌++◌, ◌∷◌, [], List, ℕ, ◌∙◌}
use Rattle.std.proofs.lemmas.List.{append_assoc}

-- one more number behind a line, and what follows
one_more : (line number rest : List ℕ) → (line ++ 32 ∷ number) ++ rest ≡ line ++ 32 ∷ (number ++ rest)
one_more line number rest = append_assoc line (32 ∷ number) rest

pub pieces_joined : (k a b c d e f g v : List ℕ)
    → (((((((((k ++ 32 ∷ a) ++ 32 ∷ b) ++ 32 ∷ c) ++ 32 ∷ d) ++ 32 ∷ e) ++ 32 ∷ f) ++ 32 ∷ g) ++ 32 ∷ []) ++ v)
    ≡ k ++ 32 ∷ (a ++ 32 ∷ (b ++ 32 ∷ (c ++ 32 ∷ (d ++ 32 ∷ (e ++ 32 ∷ (f ++ 32 ∷ (g ++ 32 ∷ v)))))))
pieces_joined k a b c d e f g v =
    one_more _ [] v ∙ (one_more _ g (32 ∷ v) ∙ (one_more _ f (32 ∷ (g ++ 32 ∷ v)) ∙ (one_more _ e (32 ∷ (f ++ 32 ∷ (g ++ 32 ∷ v)))
    ∙ (one_more _ d (32 ∷ (e ++ 32 ∷ (f ++ 32 ∷ (g ++ 32 ∷ v)))) ∙ (one_more _ c (32 ∷ (d ++ 32 ∷ (e ++ 32 ∷ (f ++ 32 ∷ (g ++ 32 ∷ v)))))
    ∙ (one_more _ b (32 ∷ (c ++ 32 ∷ (d ++ 32 ∷ (e ++ 32 ∷ (f ++ 32 ∷ (g ++ 32 ∷ v))))))
    ∙ one_more k a (32 ∷ (b ++ 32 ∷ (c ++ 32 ∷ (d ++ 32 ∷ (e ++ 32 ∷ (f ++ 32 ∷ (g ++ 32 ∷ v)))))))))))))
