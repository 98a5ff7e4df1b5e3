-- The fissions of the first step, read off the dense vectors in beta order.
use Rattle.std.proofs.Common.{◌≡◌, pos, ℕ, zero, suc, ◌+◌, ◌-◌, ◌<◌, ◌≤◌, ◌^◌, nat_lt, nat_le, min, true, false, if◌then◌else◌, inl, inr, Some, None, Ok, List, [], ◌∷◌, ◌++◌, length, take, map, refl, sym, ◌∙◌, ap, subst, arith, append_assoc, append-nil}
use Rattle.std.proofs.lemmas.Bool.{leb-true, leb-false, ltb-true, ltb-false}
use Rattle.std.proofs.lemmas.List.{take_more}
use Rattle.suite_base.specs.Limits.{max_levels}
use Rattle.beta_tree.specs.Edits.{fissioned}
use Rattle.beta_tree.specs.Answers.{fission_answer}
use Rattle.beta_tree.proofs.Places.{bool_tells}
use Rattle.beta_trails.specs.Trails.{Step, zeros, entry, next, trail, trail_end, agreement, Agreeing, AllBelow}
use Rattle.beta_trails.specs.Laws.{parted_loop}
use Rattle.beta_trails.proofs.Steps.{next_here, next_later, length_zeros, length_next}
use Rattle.beta_trails.proofs.Boundaries.{fission_parts}
use Rattle.beta_trails.proofs.Dense.{length_trail}
use Rattle.beta_trails.proofs.Firsts.{zeros_entry, next_entry, first_is_parted_at_one}
use Rattle.scop_core.specs.ScopData.{ScopData}
use Rattle.scop_core.specs.Validity.{IsValid}
use Rattle.scop_core.specs.ScopData.{betas_in}
use Rattle.row_core.specs.Dense.{dense_of}
use Rattle.clay_script.specs.declared.commands.Command.{Command}
use Rattle.chlore_recover.specs.Orders.{vectors_of}
use Rattle.chlore_recover.specs.Passes.{as_fissions, parted_between, next_child, parted_loops, all_parted, fissions_of, FissionsAreRead}
use Rattle.chlore_recover.specs.Strategy.{least_wide_loop, splits, split_at_all, all_splits, fissions, in_beta_order, ordered_from}
use Rattle.chlore_recover.proofs.Apart.{accepted_is, no_splits, all_but}
use Rattle.chlore_recover.proofs.Joins.{agreement_next, behind, capped, capped_all, count_behind, count_same, end_behind, end_long, first_behind, keep_front, lower, lower_behind}
use Rattle.chlore_recover.proofs.Seats.{beta_order_trailed}
use Rattle.chlore_recover.proofs.Trailed.{IsTrailed}
use Rattle.chlore_recover.proofs.Wide.{none_is_wide, first_is_least}

-- the splits of length n lead from a trail to another, by these loops
record IsParted (most n m : ℕ) (start end : List Step) (loops : List (List ℕ)) : Type 0 where
  loops_are : splits most n (trail (zeros m) start) ≡ loops
  left : split_at_all (splits most n (trail (zeros m) start)) (trail (zeros m) start) ≡ trail (zeros m) end

-- one split, and those behind it
one_parted : (most n m : ℕ) (start now end : List Step) (P : List ℕ) (loops : List (List ℕ)) → least_wide_loop n (trail (zeros m) start) (trail (zeros m) start) ≡ Some P
    → map (fissioned P 1) (trail (zeros m) start) ≡ trail (zeros m) now → IsParted most n m now end loops → IsParted (suc most) n m start end (P ∷ loops)
one_parted most n m start now end P loops least is rest =
    let V : List (List ℕ) = trail (zeros m) start in
    let W : List (List ℕ) = trail (zeros m) now in
    let first : splits (suc most) n V ≡ P ∷ splits most n (map (fissioned P 1) V) =
    subst (λ o. elim o as (λ _. List (List ℕ)) [ None ↦ [] | Some Q ↦ Q ∷ splits most n (map (fissioned Q 1) V) ] ≡ P ∷ splits most n (map (fissioned P 1) V)) (sym least) refl in
    let split : splits (suc most) n V ≡ P ∷ splits most n W = first ∙ ap (λ z. P ∷ splits most n z) is in
    record {
      loops_are = split ∙ ap (λ z. P ∷ z) rest.loops_are;
      left = ap (λ z. split_at_all z V) split ∙ (ap (λ z. split_at_all (splits most n W) z) is ∙ rest.left);
    }

-- where no neighbours agree in n entries, there is none
none_parted : (most n m : ℕ) (steps : List Step) → 0 < m → length steps + 1 < 2 ^ 32 → Agreeing m steps → AllBelow n steps → IsParted most n m steps steps []
none_parted most n m steps some few g b =
    let none = no_splits most n (trail (zeros m) steps) (none_is_wide m n steps some few g b) in
    record { loops_are = none; left = ap (λ z. split_at_all z (trail (zeros m) steps)) none }

-- the entry at the place where a step counts on
entry_next : (k l : ℕ) (v : List ℕ) → k < length v → entry (next k l v) k ≡ entry v k + 1
entry_next k l [] h = absurd (omega arith)
entry_next zero l (x ∷ v) h = ap (λ z. entry z 0) (next_here l x v)
entry_next (suc k) l (x ∷ v) h = ap (λ z. entry z (suc k)) (next_later k l x v) ∙ entry_next k (l - 1) v (omega arith)

child_next : (k a l child : ℕ) (u : List ℕ) → a < length u → entry u k ≡ child → entry (next (min k a) l u) k ≡ next_child (suc k) child a
child_next k a l child u h e =
    elim (bool_tells (nat_le (suc k) (a + 1))) [
      | inl t ↦
          let low = leb-true (suc k) (a + 1) t in
          let same : min k a ≡ k = omega arith in
          rw t (ap (λ z. entry (next z l u) k) same ∙ (entry_next k l u (omega arith) ∙ ap (λ z. z + 1) e))
      | inr f ↦
          let low = leb-false (suc k) (a + 1) f in
          let same : min k a ≡ a = omega arith in
          rw f (ap (λ z. entry (next z l u) k) same ∙ next_entry a l k u h (omega arith))
    ]

-- the pass of the loops of length k + 1, from the boundary behind v on
parted : (more : List Step) (most k child m : ℕ) (now : List Step) (v : List ℕ) → 0 < m → length more ≤ most → length (now ++ more) + 1 < 2 ^ 32 → Agreeing m (now ++ more) → AllBelow (suc k) now
    → take k (trail_end (zeros m) now) ≡ take k v → length (trail_end (zeros m) now) ≡ length v → entry (trail_end (zeros m) now) k ≡ child
    → IsParted most (suc k) m (now ++ capped (suc k) more) (now ++ capped k more) (parted_loops (suc k) child v (behind v more))
parted [] most k child m now v some enough few g b same long is =
    let e = append-nil now in
    subst (λ s. IsParted most (suc k) m s s []) (sym e)
    (none_parted most (suc k) m now some (subst (λ s. length s + 1 < 2 ^ 32) e few) (subst (Agreeing m) e g) b)
parted ((a, l) ∷ more) most k child m now v some enough few g b same long is =
    let n : ℕ = suc k in
    let u : List ℕ = trail_end (zeros m) now in
    let w : List ℕ = next a l v in
    let good : Agreeing (length (zeros m)) (now ++ (a, l) ∷ more) = subst (λ z. Agreeing z (now ++ (a, l) ∷ more)) (sym (length_zeros m)) g in
    let (h, below) = end_long (zeros m) now more a l good in
    let hv : a < length v = omega arith in
    let c : ℕ = min k a in
    let step : List Step = now ++ (c, l) ∷ [] in
    let joined : (x : List Step) → step ++ x ≡ now ++ (c, l) ∷ x = λ x. append_assoc now ((c, l) ∷ []) x in
    let low_u : c < length u = omega arith in
    let low_l : c < l = omega arith in
    let end_is : trail_end (zeros m) step ≡ next c l u = end_behind c l (zeros m) now in
    let few_step : length (step ++ more) + 1 < 2 ^ 32 = subst (λ z. z + 1 < 2 ^ 32) (count_same now (a, l) (c, l) more ∙ ap length (sym (joined more))) few in
    let good_step : Agreeing m (step ++ more) = subst (Agreeing m) (sym (joined more)) (lower m a c l now more (omega arith) g) in
    let below_step : AllBelow n step = all_but n c l now b (omega arith) in
    let same_step : take k (trail_end (zeros m) step) ≡ take k w = ap (take k) end_is ∙ keep_front k a l u v h hv same in
    let long_step : length (trail_end (zeros m) step) ≡ length w = ap length end_is ∙ (length_next c l u low_u low_l ∙ sym (length_next a l v hv below)) in
    let agree : agreement v w ≡ a = agreement_next a l v hv in
    let next_is : entry (trail_end (zeros m) step) k ≡ next_child n child (agreement v w) =
    ap (λ z. entry z k) end_is ∙ (child_next k a l child u h is ∙ ap (next_child n child) (sym agree)) in
    let rest : (less : ℕ) → length more ≤ less → IsParted less n m (now ++ (c, l) ∷ capped n more) (now ++ (c, l) ∷ capped k more) (parted_loops n (next_child n child (agreement v w)) w (behind w more)) = λ less enough.
    subst (λ z. IsParted less n m z (now ++ (c, l) ∷ capped k more) (parted_loops n (next_child n child (agreement v w)) w (behind w more))) (joined (capped n more))
    (subst (λ z. IsParted less n m (step ++ capped n more) z (parted_loops n (next_child n child (agreement v w)) w (behind w more))) (joined (capped k more))
    (parted more less k (next_child n child (agreement v w)) m step w some enough few_step good_step below_step same_step long_step next_is)) in
    subst (λ z. IsParted most n m (now ++ (min n a, l) ∷ capped n more) (now ++ (c, l) ∷ capped k more) (parted_loops n child v z)) (sym (first_behind w more))
    (elim (bool_tells (nat_le n a)) [
      | inl t ↦
          let high = leb-true n a t in
          let top : min n a ≡ n = omega arith in
          let down : n - 1 ≡ c = omega arith in
          let one : suc (most - 1) ≡ most = let e : 0 < most = omega arith in omega arith in
          let P : List ℕ = parted_loop m n now in
          let here : List Step = now ++ (n, l) ∷ capped n more in
          let few_n : length here + 1 < 2 ^ 32 = subst (λ z. z + 1 < 2 ^ 32) (sym (counts now)) few in
          let good_n : Agreeing m here = lows m now (lower m a n l now more high g) in
          let front = front_of m now g in
          let least = first_is_least m n l now (capped n more) some few_n good_n b in
          let at_one = first_is_parted_at_one m n now front b in
          let ok = subst (λ z. fission_answer P z (trail (zeros m) here) ≡ Ok (trail (zeros m) (now ++ (n - 1, l) ∷ capped n more))) at_one (fission_parts m n l now (capped n more) (omega arith) some few_n good_n) in
          let to : map (fissioned P 1) (trail (zeros m) here) ≡ trail (zeros m) (now ++ (c, l) ∷ capped n more) =
          accepted_is P 1 (trail (zeros m) here) (trail (zeros m) (now ++ (n - 1, l) ∷ capped n more)) ok ∙ ap (λ z. trail (zeros m) (now ++ (z, l) ∷ capped n more)) down in
          let up : n ≡ k + 1 = omega arith in
          let less : n - 1 ≡ k = omega arith in
          let loop : P ≡ take (n - 1) v ++ child ∷ [] =
          ap (λ z. take z u) up ∙ (take_more u k 0 (omega arith) ∙ (ap (λ z. z ++ entry u k ∷ []) same ∙ (ap (λ z. take k v ++ z ∷ []) is ∙ ap (λ z. take z v ++ child ∷ []) (sym less)))) in
          let yes : nat_le n (agreement v w) ≡ true = ap (nat_le n) agree ∙ t in
          let more_loops : List (List ℕ) = parted_loops n (next_child n child (agreement v w)) w (behind w more) in
          let whole = one_parted (most - 1) n m here (now ++ (c, l) ∷ capped n more) (now ++ (c, l) ∷ capped k more) P more_loops least to (rest (most - 1) (omega arith)) in
          let made : IsParted most n m (now ++ (min n a, l) ∷ capped n more) (now ++ (c, l) ∷ capped k more) ((take (n - 1) v ++ child ∷ []) ∷ more_loops) =
          subst (λ z. IsParted z n m (now ++ (min n a, l) ∷ capped n more) (now ++ (c, l) ∷ capped k more) ((take (n - 1) v ++ child ∷ []) ∷ more_loops)) one
          (subst (λ z. IsParted (suc (most - 1)) n m (now ++ (z, l) ∷ capped n more) (now ++ (c, l) ∷ capped k more) ((take (n - 1) v ++ child ∷ []) ∷ more_loops)) (sym top)
          (subst (λ z. IsParted (suc (most - 1)) n m here (now ++ (c, l) ∷ capped k more) (z ∷ more_loops)) loop whole)) in
          subst (λ z. IsParted most n m (now ++ (min n a, l) ∷ capped n more) (now ++ (c, l) ∷ capped k more) ((if z then (take (n - 1) v ++ child ∷ []) ∷ [] else []) ++ more_loops)) (sym yes) made
      | inr f ↦
          let high = leb-false n a f in
          let top : min n a ≡ c = omega arith in
          let no : nat_le n (agreement v w) ≡ false = ap (nat_le n) agree ∙ f in
          let more_loops : List (List ℕ) = parted_loops n (next_child n child (agreement v w)) w (behind w more) in
          subst (λ z. IsParted most n m (now ++ (min n a, l) ∷ capped n more) (now ++ (c, l) ∷ capped k more) ((if z then (take (n - 1) v ++ child ∷ []) ∷ [] else []) ++ more_loops)) (sym no)
          (subst (λ z. IsParted most n m (now ++ (z, l) ∷ capped n more) (now ++ (c, l) ∷ capped k more) more_loops) (sym top) (rest most (omega arith)))
    ])
  where
    counts : (now : List Step) → length (now ++ (suc k, l) ∷ capped (suc k) more) ≡ length (now ++ (a, l) ∷ more)
    counts [] = ap suc (count_behind (suc k) [] more)
    counts (s ∷ now) = ap suc (counts now)

    lows : (m : ℕ) (now : List Step) → Agreeing m (now ++ (suc k, l) ∷ more) → Agreeing m (now ++ (suc k, l) ∷ capped (suc k) more)
    lows m [] (h, j, g) = (h, j, lower_behind (suc k) l [] more g)
    lows m ((c, o) ∷ now) (h, j, g) = (h, j, lows o now g)

    front_of : (m : ℕ) (now : List Step) → Agreeing m (now ++ (a, l) ∷ more) → Agreeing m now
    front_of m [] g = tt
    front_of m ((c, o) ∷ now) (h, j, g) = (h, j, front_of o now g)

all_are : (n m : ℕ) (steps : List Step) → 0 < m → length steps + 1 < 2 ^ 32 → Agreeing m steps → all_splits n (trail (zeros m) (capped n steps)) ≡ all_parted n (zeros m) (behind (zeros m) steps)
all_are zero m steps some few g = refl
all_are (suc k) m steps some few g =
    let V : List (List ℕ) = trail (zeros m) (capped (suc k) steps) in
    let long = length_trail (zeros m) (capped (suc k) steps) in
    let same = count_behind (suc k) [] steps in
    let p = parted steps (length V) k 0 m [] (zeros m) some (omega arith) few g tt refl refl (zeros_entry m k) in
    let loops : List (List ℕ) = parted_loops (suc k) 0 (zeros m) (behind (zeros m) steps) in
    ap (λ z. splits (length V) (suc k) V ++ all_splits k z) p.left
    ∙ (ap (λ z. z ++ all_splits k (trail (zeros m) (capped k steps))) p.loops_are ∙ ap (λ z. loops ++ z) (all_are k m steps some few g))

trail_read : (m : ℕ) (steps : List Step) → 0 < m → length steps + 1 < 2 ^ 32 → Agreeing m steps → AllBelow (max_levels + 1) steps → fissions (trail (zeros m) steps) ≡ fissions_of (trail (zeros m) steps)
trail_read m steps some few g b =
    let capped_is = capped_all steps b in
    let loops : all_splits max_levels (trail (zeros m) steps) ≡ all_parted max_levels (zeros m) (behind (zeros m) steps) =
    ap (λ s. all_splits max_levels (trail (zeros m) s)) (sym capped_is) ∙ all_are max_levels m steps some few g in
    ap as_fissions loops ∙ ap fissions_of (sym (first_behind (zeros m) steps))

no_items : {A : Type 0} (xs : List A) → length xs ≡ 0 → xs ≡ []
no_items [] e = refl
no_items (x ∷ xs) e = absurd (omega arith)

pub fissions_are_read : FissionsAreRead
fissions_are_read S valid =
    elim (bool_tells (nat_lt 0 (length S.statements))) [
      | inl t ↦
          let x = beta_order_trailed S valid (ltb-true 0 (length S.statements) t) in
          subst (λ V. fissions V ≡ fissions_of V) (sym x.is) (trail_read x.first x.steps x.some x.few x.agreeing x.below)
      | inr f ↦
          let l = ltb-false 0 (length S.statements) f in
          let none : S.statements ≡ [] = no_items S.statements (omega arith) in
          let empty : vectors_of (in_beta_order S) ≡ [] = ap (λ s. vectors_of (ordered_from 0 (dense_of (betas_in s)))) none in
          subst (λ V. fissions V ≡ fissions_of V) (sym empty) refl
    ]
