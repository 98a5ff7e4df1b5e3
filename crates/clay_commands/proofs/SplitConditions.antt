-- The condition of a split, by the numbers of coefficients.
use Rattle.std.proofs.Common.{◌≡◌, ℕ, ◌==◌, Bool, true, ◌&&◌, Option, List, length, ap, ◌∙◌, ℤ, negsuc, neg_ℤ, ◌+ℤ◌, map}
use Rattle.suite_base.specs.declared.refusals.Refusal.{Refusal}
use Rattle.beta_tree.specs.Vectors.{is_leaf}
use Rattle.scop_data.specs.declared.statements.Statement.{Statement}
use Rattle.clay_commands.specs.Drafts.{Draft, betas_of, restricted}
use Rattle.clay_commands.specs.Refusals.{all_under, level_then}

pub split_condition : (parameters i a b : ℕ) (P : List ℕ) (D : Draft) (xs ns : List ℤ) (can : Bool) (r : Option Refusal) → a ≡ length xs → b ≡ length ns
    → can ≡ (is_leaf P (betas_of D) && (all_under P (λ s. a == length s.body.iterators) D && b == parameters)) → r ≡ level_then i true can
    → r ≡ level_then i true (is_leaf P (betas_of D) && (all_under P (λ s. length xs == length s.body.iterators) D && length ns == parameters))
split_condition parameters i a b P D xs ns can r ea eb e h =
    h ∙ ap (level_then i true) (e ∙ ap (λ n. is_leaf P (betas_of D) && (all_under P (λ s. n == length s.body.iterators) D && b == parameters)) ea
    ∙ ap (λ n. is_leaf P (betas_of D) && (all_under P (λ s. length xs == length s.body.iterators) D && n == parameters)) eb)

-- the other half, from its parts
pub half_is : (xs ns xs_negated ns_negated : List ℤ) (c other : ℤ) (s copy made : Statement) → copy ≡ s → xs_negated ≡ map neg_ℤ xs → ns_negated ≡ map neg_ℤ ns
    → other ≡ neg_ℤ c +ℤ negsuc 0 → made ≡ restricted xs_negated ns_negated other copy → made ≡ restricted (map neg_ℤ xs) (map neg_ℤ ns) (neg_ℤ c +ℤ negsuc 0) s
half_is xs ns xs_negated ns_negated c other s copy made es ex en ec h =
    h ∙ ap (λ t. restricted xs_negated ns_negated other t) es ∙ ap (λ t. restricted t ns_negated other s) ex
    ∙ ap (λ t. restricted (map neg_ℤ xs) t other s) en ∙ ap (λ t. restricted (map neg_ℤ xs) (map neg_ℤ ns) t s) ec
