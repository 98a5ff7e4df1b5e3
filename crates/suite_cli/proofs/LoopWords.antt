-- The numbers of loops that a word was compared with.
use Rattle.std.proofs.Common.{◌≡◌, ◌⊎◌, inl, inr, ℕ, zero, suc, ◌+◌, ◌<◌, ◌≤◌, true, false, List, refl, ap, subst, arith}
use Rattle.std.specs.Fmt.{decimal}
use Rattle.std.specs.Str.{bytes_eq}
use Rattle.std.proofs.lemmas.Slice.Eq.{bytes_eq-Decides}
use Rattle.suite_cli.specs.Commands.{IsLoopWord}

-- the word says no number of loops below this one
pub record SaysNoneBelow (word : List ℕ) (k : ℕ) : Type 0 where
  pub none : (j : ℕ) → j < k → ¬ IsLoopWord word j

pub none_at_first : (word : List ℕ) → SaysNoneBelow word 1
none_at_first word = record { none = λ j below h. let least = h.count.0 in absurd (omega (arith, below, least)) }

differs : (word : List ℕ) (k : ℕ) → bytes_eq word (decimal k) ≡ false → ¬ IsLoopWord word k
differs word k e h = let yes : bytes_eq word (decimal k) ≡ true = (bytes_eq-Decides word (decimal k)).1 h.digits in absurd (cc)

less_or_same : (j k : ℕ) → j < suc k → (j < k) ⊎ (j ≡ k)
less_or_same zero zero h = inr refl
less_or_same zero (suc k) h = inl (omega arith)
less_or_same (suc j) zero h = absurd (omega (arith, h))
less_or_same (suc j) (suc k) h = elim (less_or_same j k (omega (arith, h))) [ inl less ↦ inl (omega (arith, less)) | inr same ↦ inr (ap suc same) ]

pub none_more : (word : List ℕ) (k : ℕ) → SaysNoneBelow word k → bytes_eq word (decimal k) ≡ false → SaysNoneBelow word (k + 1)
none_more word k n e = record {
  none = λ j below h. elim (less_or_same j k (omega (arith, below))) [ inl less ↦ n.none j less h | inr same ↦ differs word k e (subst (IsLoopWord word) same h) ];
}

pub none_at_all : (word : List ℕ) → SaysNoneBelow word 33 → (k : ℕ) → ¬ IsLoopWord word k
none_at_all word n k h = let most = h.count.1 in n.none k (omega (arith, most)) h

pub is_found : (word : List ℕ) (k : ℕ) → 1 ≤ k → k ≤ 32 → bytes_eq word (decimal k) ≡ true → IsLoopWord word k
is_found word k least most e = record { count = (least, most); digits = (bytes_eq-Decides word (decimal k)).0 e }
