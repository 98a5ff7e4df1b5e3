-- The fissions and the reorder as commands.
use Rattle.std.proofs.Common.{◌≡◌, ◌≢◌, pos, ℕ, zero, suc, ◌+◌, ◌-◌, ◌<◌, ◌≤◌, if◌then◌else◌, inl, inr, List, [], ◌∷◌, length, map, refl, sym, ◌∙◌, ap, subst, arith, eq-eqb}
use Rattle.std.specs.List.{range_with_len}
use Rattle.suite_base.specs.Limits.{max_levels}
use Rattle.beta_tree.specs.Edits.{fissioned, place_of, same_vector}
use Rattle.beta_tree.specs.Answers.{fission_answer, reorder_answer}
use Rattle.beta_tree.proofs.Places.{bool_tells, same_no}
use Rattle.beta_tree.proofs.Leaves.{same_vector_yes}
use Rattle.beta_tree.proofs.Orders.{orders_of_test}
use Rattle.beta_trails.specs.Trails.{zeros, trail, ranked}
use Rattle.beta_trails.specs.Laws.{placed_from}
use Rattle.beta_trails.proofs.Ranked.{reorder_places}
use Rattle.clay_script.specs.declared.commands.Command.TheVariants.{Fission, Reorder}
use Rattle.clay_commands.specs.Arguments.{order_in}
use Rattle.chlore_recover.specs.Strategy.{as_prefix, all_splits}
use Rattle.chlore_recover.specs.Splits.{SplitsLead, VectorsLead, lengths_of, FissionsLead, ReorderLeads}
use Rattle.chlore_recover.proofs.Apart.{splits_leave_alone}
use Rattle.chlore_recover.proofs.Joins.{prefix_natural, prefix_back}

splits_as_commands : (loops V W : List (List ℕ)) → SplitsLead loops V W → VectorsLead (map (λ P. Fission (as_prefix P) (pos 1)) loops) V W
splits_as_commands [] V W e = e
splits_as_commands (P ∷ loops) V W (ok, r) =
    (map (fissioned P 1) V, tt, prefix_natural P, ap (λ Q. fission_answer Q 1 V) (prefix_back P) ∙ ok, splits_as_commands loops (map (fissioned P 1) V) W r)

pub fissions_lead : FissionsLead
fissions_lead m steps some few g b =
    splits_as_commands (all_splits max_levels (trail (zeros m) steps)) (trail (zeros m) steps) (ranked 0 (m ∷ lengths_of steps)) (splits_leave_alone max_levels m steps some few g b)

-- an order that lists the numbers as they are

pub place_in_range : (n s k : ℕ) → k < n → place_of (s + k) (range_with_len s n) ≡ k
place_in_range zero s k h = absurd (omega arith)
place_in_range (suc n) s zero h = let e : s ≡ s + 0 = omega arith in rw (eq-eqb s (s + 0) e) refl
place_in_range (suc n) s (suc k) h =
    let ne : s ≢ s + suc k = λ e. omega arith in
    let up : s + 1 + k ≡ s + suc k = omega arith in
    let e : place_of (s + suc k) (range_with_len (s + 1) n) ≡ k = subst (λ y. place_of y (range_with_len (s + 1) n) ≡ k) up (place_in_range n (s + 1) k (omega arith)) in
    rw (same_no s (s + suc k) ne) (omega arith)

placed_same : (r n : ℕ) (lengths : List ℕ) → r + length lengths ≤ n → ranked r lengths ≡ placed_from r (range_with_len 0 n) lengths
placed_same r n [] h = refl
placed_same r n (l ∷ lengths) h =
    let e : 0 + r ≡ r = omega arith in
    let p : place_of r (range_with_len 0 n) ≡ r = subst (λ y. place_of y (range_with_len 0 n) ≡ r) e (place_in_range n 0 r (omega arith)) in
    ap (λ t. (r ∷ zeros (l - 1)) ∷ t) (placed_same (r + 1) n lengths (omega arith))
    ∙ ap (λ y. (y ∷ zeros (l - 1)) ∷ placed_from (r + 1) (range_with_len 0 n) lengths) (sym p)

order_back : (order : List ℕ) → order_in (as_prefix order) ≡ order
order_back order = rw (prefix_natural order) (prefix_back order)

pub reorder_leads : ReorderLeads
reorder_leads order lengths some permutes =
    elim (bool_tells (same_vector order (range_with_len 0 (length order)))) [
      | inl t ↦
          let same = same_vector_yes order (range_with_len 0 (length order)) t in
          let long = (orders_of_test (length lengths) order permutes).long in
          subst (λ b. VectorsLead (if b then [] else Reorder [] (as_prefix order) ∷ []) (ranked 0 lengths) (placed_from 0 order lengths)) (sym t)
          (placed_same 0 (length order) lengths (omega arith) ∙ ap (λ o. placed_from 0 o lengths) (sym same))
      | inr f ↦
          subst (λ b. VectorsLead (if b then [] else Reorder [] (as_prefix order) ∷ []) (ranked 0 lengths) (placed_from 0 order lengths)) (sym f)
          (placed_from 0 order lengths, tt, refl, ap (λ o. reorder_answer [] o (ranked 0 lengths)) (order_back order) ∙ reorder_places order lengths some permutes, refl)
    ]
