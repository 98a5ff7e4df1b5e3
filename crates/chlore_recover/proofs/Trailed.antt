-- A tree's vectors in beta order are a trail, and what the script's steps on vectors make of them.
use Rattle.std.proofs.Common.{◌≡◌, ℕ, suc, ◌+◌, ◌<◌, ◌≤◌, ◌^◌, inl, inr, List, [], ◌∷◌, length, map, refl, sym, ◌∙◌, ap, subst, arith}
use Rattle.std.proofs.lemmas.List.{length-map}
use Rattle.suite_base.specs.Limits.{max_levels}
use Rattle.beta_tree.specs.Vectors.{In, IsTree}
use Rattle.beta_trails.specs.Trails.{Step, zeros, trail, steps_from, Agreeing, AllBelow, ranked}
use Rattle.beta_trails.proofs.Sorted.{sorted_tree_is_trail, sorted_tree_agrees}
use Rattle.beta_trails.proofs.Dense.{trail_is_tree}
use Rattle.beta_trails.proofs.Ranked.{apart_is_ranked}
use Rattle.chlore_recover.specs.Strategy.{fissions, fuses}
use Rattle.chlore_recover.specs.Splits.{VectorsLead, lengths_of}
use Rattle.chlore_recover.specs.Orders.{Rises}
use Rattle.chlore_recover.proofs.Orders.{fissions_lead}
use Rattle.chlore_recover.proofs.Joins.{fuses_lead}

-- V is a trail of vectors with `max_levels` + 1 entries at most
pub record IsTrailed (V : List (List ℕ)) : Type 0 where
  pub first : ℕ
  pub steps : List Step
  pub is : V ≡ trail (zeros first) steps
  pub some : 0 < first
  pub few : length steps + 1 < 2 ^ 32
  pub agreeing : Agreeing first steps
  pub below : AllBelow (max_levels + 1) steps
  pub sizes : first ∷ lengths_of steps ≡ map length V

sizes_of : (v : List ℕ) (V : List (List ℕ)) → lengths_of (steps_from v V) ≡ map length V
sizes_of v [] = refl
sizes_of v (w ∷ V) = ap (λ t. length w ∷ t) (sizes_of w V)

count_of : (v : List ℕ) (V : List (List ℕ)) → length (steps_from v V) ≡ length V
count_of v [] = refl
count_of v (w ∷ V) = ap suc (count_of w V)

-- agreements below the lengths of vectors that are short
short : (v : List ℕ) (V : List (List ℕ)) → Agreeing (length v) (steps_from v V) → ((u : List ℕ) → In u (v ∷ V) → length u ≤ max_levels + 1) → AllBelow (max_levels + 1) (steps_from v V)
short v [] g h = tt
short v (w ∷ V) (a, b, g) h = (let l = h v (inl refl) in omega arith, short w V g (λ u i. h u (inr i)))

filled_first : (v : List ℕ) (V : List (List ℕ)) → IsTree (v ∷ V) → 0 < length v
filled_first [] V t = absurd (t.filled (inl refl))
filled_first (x ∷ v) V t = omega arith

pub trailed : (V : List (List ℕ)) → 0 < length V → IsTree V → Rises V → ((u : List ℕ) → In u V → length u ≤ max_levels + 1) → IsTrailed V
trailed [] l t r h = absurd (omega arith)
trailed (v ∷ V) l t r h =
    let good : Agreeing (length v) (steps_from v V) = sorted_tree_agrees v V r in
    record {
      first = length v;
      steps = steps_from v V;
      is = sorted_tree_is_trail v V t r;
      some = filled_first v V t;
      few = let e = count_of v V in let f = t.few in omega arith;
      agreeing = good;
      below = short v V good h;
      sizes = ap (λ s. length v ∷ s) (sizes_of v V);
    }

-- the fissions leave the vectors alone, the fuses bring them back

pub fissions_apart : (V : List (List ℕ)) → IsTrailed V → VectorsLead (fissions V) V (ranked 0 (map length V))
fissions_apart V t =
    subst (λ ls. VectorsLead (fissions V) V (ranked 0 ls)) t.sizes
    (subst (λ X. VectorsLead (fissions X) X (ranked 0 (t.first ∷ lengths_of t.steps))) (sym t.is) (fissions_lead t.first t.steps t.some t.few t.agreeing t.below))

pub fuses_back : (V : List (List ℕ)) → IsTrailed V → VectorsLead (fuses V) (ranked 0 (map length V)) V
fuses_back V t =
    subst (λ ls. VectorsLead (fuses V) (ranked 0 ls) V) t.sizes
    (subst (λ X. VectorsLead (fuses X) (ranked 0 (t.first ∷ lengths_of t.steps)) X) (sym t.is) (fuses_lead t.first t.steps t.some t.few t.agreeing t.below))

-- vectors that stand alone are a tree

apart_agreeing : (m : ℕ) (steps : List Step) → 0 < m → Agreeing m steps → Agreeing m (map (λ l. (0, l)) (lengths_of steps))
apart_agreeing m [] some g = tt
apart_agreeing m ((a, l) ∷ more) some (h, k, g) = (some, let low : 0 < l = omega arith in low, apart_agreeing l more (omega arith) g)

pub apart_tree : (V : List (List ℕ)) → IsTrailed V → IsTree (ranked 0 (map length V))
apart_tree V t =
    let steps : List Step = map (λ l. (0, l)) (lengths_of t.steps) in
    let count : length steps ≡ length t.steps = length-map (lengths_of t.steps) (λ l. (0, l)) ∙ length-map t.steps (λ step. step.1) in
    let f = t.few in
    subst (λ ls. IsTree (ranked 0 ls)) t.sizes
    (subst IsTree (apart_is_ranked t.first (lengths_of t.steps) t.some)
    (trail_is_tree t.first steps t.some (omega arith) (apart_agreeing t.first t.steps t.some t.agreeing)))
