-- How many statements there are, and the vectors that are taken off a list from its end.
use Rattle.std.proofs.Common.{◌≡◌, ℕ, ◌+◌, ◌≤◌, List, [], ◌∷◌, ◌++◌, length, take, drop, refl, sym, ◌∙◌, ap, subst, arith, append_assoc}
use Rattle.std.proofs.lemmas.List.{length-append, length-map, take-append-drop}
use Rattle.suite_base.specs.Limits.{max_statements}
use Rattle.row_core.specs.Dense.{dense_among, dense_of}
use Rattle.scop_data.specs.declared.statements.Statement.{Statement}
use Rattle.scop_core.specs.ScopData.{ScopData, betas_in}
use Rattle.scop_core.specs.Validity.{IsValid}
use Rattle.scop_core.proofs.KeptLimits.{keeps_limits}
use Rattle.chlore_recover.proofs.Ranks.{ordered_count}
use Rattle.chlore_recover.specs.Strategy.{put_in_order, ordered_from, in_beta_order}

pub few_of : (S : ScopData) (statements : List Statement) → IsValid S → statements ≡ S.statements → length statements ≤ max_statements
few_of S statements valid is = subst (λ s. length s ≤ max_statements) (sym is) (keeps_limits S valid).statements

-- a list that loses its last item

take_front : {A : Type 0} (a b : List A) → take (length a) (a ++ b) ≡ a
take_front [] b = refl
take_front (x ∷ a) b = ap (λ z. x ∷ z) (take_front a b)

drop_front : {A : Type 0} (a b : List A) → drop (length a) (a ++ b) ≡ b
drop_front [] b = refl
drop_front (x ∷ a) b = drop_front a b

whole : (all vectors less : List (List ℕ)) (v : List ℕ) → vectors ≡ take (length vectors) all → vectors ≡ less ++ v ∷ [] → all ≡ less ++ v ∷ drop (length vectors) all
whole all vectors less v e f =
    sym (take-append-drop (length vectors) all) ∙ (ap (λ z. z ++ drop (length vectors) all) (sym e ∙ f) ∙ append_assoc less (v ∷ []) (drop (length vectors) all))

pub less_is : (all vectors less : List (List ℕ)) (v : List ℕ) → vectors ≡ take (length vectors) all → vectors ≡ less ++ v ∷ [] → less ≡ take (length less) all
less_is all vectors less v e f = sym (take_front less (v ∷ drop (length vectors) all)) ∙ ap (take (length less)) (sym (whole all vectors less v e f))

pub order_more : (all vectors less : List (List ℕ)) (v : List ℕ) (place : ℕ) (placed now : List (ℕ × List ℕ)) → vectors ≡ take (length vectors) all → vectors ≡ less ++ v ∷ [] → place ≡ length less
    → placed ≡ ordered_from (length vectors) (drop (length vectors) all) → now ≡ put_in_order (place, v) placed → now ≡ ordered_from (length less) (drop (length less) all)
order_more all vectors less v place placed now e f p h s =
    let rest : List (List ℕ) = drop (length vectors) all in
    let behind : drop (length less) all ≡ v ∷ rest = ap (drop (length less)) (whole all vectors less v e f) ∙ drop_front less (v ∷ rest) in
    let long : length vectors ≡ length less + 1 = ap length f ∙ length-append less (v ∷ []) in
    let before : placed ≡ ordered_from (length less + 1) rest = h ∙ ap (λ n. ordered_from n rest) long in
    s ∙ (ap (λ z. put_in_order (place, v) z) before ∙ (ap (λ k. put_in_order (k, v) (ordered_from (length less + 1) rest)) p ∙ ap (ordered_from (length less)) (sym behind)))

pub few_placed : (S : ScopData) (placed : List (ℕ × List ℕ)) → IsValid S → placed ≡ in_beta_order S → length placed ≤ max_statements
few_placed S placed valid is =
    let count : length (in_beta_order S) ≡ length S.statements =
    ordered_count 0 (dense_of (betas_in S.statements)) ∙ (length-map (betas_in S.statements) (dense_among (betas_in S.statements)) ∙ length-map S.statements (λ s. s.schedule.betas)) in
    let few : length S.statements ≤ 1024 = (keeps_limits S valid).statements in
    let same : length placed ≡ length (in_beta_order S) = ap length is in
    omega arith
