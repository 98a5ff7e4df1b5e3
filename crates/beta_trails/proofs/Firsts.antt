-- Behind neighbours that agree in fewer than n entries, entry n is 0.
use Rattle.std.proofs.Common.{◌≡◌, ℕ, zero, suc, ◌-◌, ◌<◌, List, [], ◌∷◌, length, refl, sym, ◌∙◌, ap, subst, arith}
use Rattle.beta_trails.specs.Trails.{Step, zeros, entry, next, trail_end, Agreeing, AllBelow}
use Rattle.beta_trails.specs.Laws.{FirstIsPartedAtOne}
use Rattle.beta_trails.proofs.Steps.{next_here, next_later, length_zeros, length_next}

pub zeros_entry : (m n : ℕ) → entry (zeros m) n ≡ 0
zeros_entry zero n = refl
zeros_entry (suc m) zero = refl
zeros_entry (suc m) (suc n) = zeros_entry m n

pub next_entry : (a l n : ℕ) (v : List ℕ) → a < length v → a < n → entry (next a l v) n ≡ 0
next_entry a l n [] h k = absurd (omega arith)
next_entry a l zero (x ∷ v) h k = absurd (omega arith)
next_entry zero l (suc n) (x ∷ v) h k = ap (λ w. entry w (suc n)) (next_here l x v) ∙ zeros_entry (l - 1) n
next_entry (suc a) l (suc n) (x ∷ v) h k = ap (λ w. entry w (suc n)) (next_later a l x v) ∙ next_entry a (l - 1) n v (omega arith) (omega arith)

end_entry : (n : ℕ) (v : List ℕ) (steps : List Step) → entry v n ≡ 0 → Agreeing (length v) steps → AllBelow n steps → entry (trail_end v steps) n ≡ 0
end_entry n v [] e g b = e
end_entry n v ((a, l) ∷ more) e (h, k, g) (low, b) =
    end_entry n (next a l v) more (next_entry a l n v h low) (subst (λ m. Agreeing m more) (sym (length_next a l v h k)) g) b

pub first_is_parted_at_one : FirstIsPartedAtOne
first_is_parted_at_one m n before g b =
    let e = end_entry n (zeros m) before (zeros_entry m n) (subst (λ k. Agreeing k before) (sym (length_zeros m)) g) b in
    omega arith
