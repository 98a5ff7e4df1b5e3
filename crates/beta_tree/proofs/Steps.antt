-- What the code of an edit does to one vector.
use Rattle.std.proofs.Common.{◌≡◌, ℕ, ◌<◌, true, inl, Some, None, List, [], ◌∷◌, ◌++◌, length, get_or, drop, refl, sym, ◌∙◌, ap, subst}
use Rattle.std.proofs.Math.Seq.{drop-cons}
use Rattle.std.specs.Option.{is_some}
use Rattle.beta_tree.specs.Vectors.{after, Fit, In, LongerUnder}
use Rattle.beta_tree.specs.Edits.{below}
use Rattle.beta_tree.proofs.Places.{after_is, below_append}

pub below_some : (Q : List ℕ) (f : List ℕ → List ℕ) (v rest : List ℕ) → after Q v ≡ Some rest → below Q f v ≡ Q ++ f rest
below_some Q f v rest e = ap (below Q f) (after_is Q v rest e) ∙ below_append Q f rest

fit_append : (P w : List ℕ) → Fit (P ++ w) → Fit w
fit_append [] w h = h
fit_append (p ∷ P) w h = fit_append P w h.1

pub fit_below : (Q : List ℕ) (f : List ℕ → List ℕ) (v rest : List ℕ) → after Q v ≡ Some rest → Fit (below Q f v) → Fit (f rest)
fit_below Q f v rest e h = fit_append Q (f rest) (subst Fit (below_some Q f v rest e) h)

-- the vector at a place, of those that are longer under a prefix
pub longer_at : (P : List ℕ) (k i : ℕ) (V : List (List ℕ)) (v d : List ℕ) → LongerUnder P k (drop i V) → i < length V → v ≡ get_or V i d → is_some (after P v) ≡ true → k < length v
longer_at P k i V v d h l e s =
    let here : In v (drop i V) = rw (drop-cons V i d l) (inl (sym e)) in
    elim (after P v) as (λ o. after P v ≡ o → is_some o ≡ true → k < length v) [
      | Some w ↦ λ f g.
          let is : v ≡ P ++ w = after_is P v w f in
          rw is (h w (subst (λ z. In z (drop i V)) is here))
      | None ↦ λ f g. absurd (cc)
    ] refl s
