-- The fuses of the last step are accepted one by one, and make the target's vectors.
use Rattle.std.proofs.Common.{◌≡◌, ◌≢◌, ℕ, zero, suc, ◌+◌, ◌-◌, ◌<◌, ◌≤◌, ◌^◌, nat_le, min, true, false, if◌then◌else◌, inl, inr, List, [], ◌∷◌, ◌++◌, length, take, map, refl, sym, ◌∙◌, ap, subst, arith, append_assoc}
use Rattle.std.specs.List.{range_with_len, flat_map}
use Rattle.std.proofs.lemmas.Bool.{leb-true, leb-false}
use Rattle.suite_base.specs.Limits.{max_levels}
use Rattle.beta_tree.specs.Answers.{fuse_answer}
use Rattle.beta_tree.proofs.Places.{bool_tells, same_yes, same_no}
use Rattle.beta_trails.specs.Trails.{Step, zeros, next, trail, trail_end, agreement, ranked, Agreeing, AllBelow}
use Rattle.beta_trails.specs.Laws.{parted_loop}
use Rattle.beta_trails.proofs.Steps.{next_here, next_later, length_zeros, length_next}
use Rattle.beta_trails.proofs.Boundaries.{fuse_joins}
use Rattle.beta_trails.proofs.Ranked.{apart_is_ranked}
use Rattle.clay_script.specs.declared.commands.Command.{Command}
use Rattle.clay_script.specs.declared.commands.Command.TheVariants.{Fuse}
use Rattle.clay_commands.specs.Arguments.{natural, are_natural}
use Rattle.chlore_recover.specs.Strategy.{as_prefix, fuses_of_length, fuses}
use Rattle.chlore_recover.specs.Splits.{VectorsLead, lengths_of, FusesLead}

-- arguments that are natural numbers

pub prefix_natural : (P : List ℕ) → are_natural (as_prefix P) ≡ true
prefix_natural [] = refl
prefix_natural (p ∷ P) = prefix_natural P

pub prefix_back : (P : List ℕ) → map natural (as_prefix P) ≡ P
prefix_back [] = refl
prefix_back (p ∷ P) = ap (λ t. p ∷ t) (prefix_back P)

pub vectors_on : (A B : List Command) (U V W : List (List ℕ)) → VectorsLead A U V → VectorsLead B V W → VectorsLead (A ++ B) U W
vectors_on [] B U V W e s = subst (λ z. VectorsLead B z W) (sym e) s
vectors_on (command ∷ A) B U V W (X, is, natural_prefix, ok, r) s = (X, is, natural_prefix, ok, vectors_on A B X V W r s)

-- agreements capped at n
abbrev pub capped : ℕ → List Step → List Step
capped n [] = []
capped n ((a, l) ∷ more) = (min n a, l) ∷ capped n more

-- the vectors behind the first
abbrev pub behind : List ℕ → List Step → List (List ℕ)
behind v [] = []
behind v ((a, l) ∷ more) = trail (next a l v) more

pub first_behind : (v : List ℕ) (steps : List Step) → trail v steps ≡ v ∷ behind v steps
first_behind v [] = refl
first_behind v ((a, l) ∷ more) = refl

-- a step and the first entries

agreement_differs : (x l : ℕ) (v : List ℕ) → agreement (x ∷ v) ((x + 1) ∷ zeros (l - 1)) ≡ 0
agreement_differs x l v = let ne : x ≢ x + 1 = λ e. omega arith in rw (same_no x (x + 1) ne) refl

agreement_goes_on : (a x : ℕ) (u v : List ℕ) → agreement u v ≡ a → agreement (x ∷ u) (x ∷ v) ≡ suc a
agreement_goes_on a x u v e = rw (same_yes x) (omega arith)

pub agreement_next : (a l : ℕ) (v : List ℕ) → a < length v → agreement v (next a l v) ≡ a
agreement_next a l [] h = absurd (omega arith)
agreement_next zero l (x ∷ v) h = ap (agreement (x ∷ v)) (next_here l x v) ∙ agreement_differs x l v
agreement_next (suc a) l (x ∷ v) h =
    ap (agreement (x ∷ v)) (next_later a l x v) ∙ agreement_goes_on a x v (next a (l - 1) v) (agreement_next a (l - 1) v (omega arith))

take_kept : (n a l : ℕ) (v : List ℕ) → n ≤ a → a < length v → take n (next a l v) ≡ take n v
take_kept n a l [] k h = absurd (omega arith)
take_kept zero a l (x ∷ v) k h = refl
take_kept (suc n) zero l (x ∷ v) k h = absurd (omega arith)
take_kept (suc n) (suc a) l (x ∷ v) k h = ap (take (suc n)) (next_later a l x v) ∙ ap (λ t. x ∷ t) (take_kept n a (l - 1) v (omega arith) (omega arith))

take_next : (n a l : ℕ) (u v : List ℕ) → a < n → a < length u → a < length v → take n u ≡ take n v → take n (next a l u) ≡ take n (next a l v)
take_next zero a l u v k h g e = absurd (omega arith)
take_next (suc n) a l [] v k h g e = absurd (omega arith)
take_next (suc n) a l (x ∷ u) [] k h g e = absurd (omega arith)
take_next (suc n) zero l (x ∷ u) (y ∷ v) k h g e =
    let same : x ≡ y = cc in
    ap (take (suc n)) (next_here l x u) ∙ (ap (λ z. take (suc n) ((z + 1) ∷ zeros (l - 1))) same ∙ ap (take (suc n)) (sym (next_here l y v)))
take_next (suc n) (suc a) l (x ∷ u) (y ∷ v) k h g e =
    let same : x ≡ y = cc in
    let rest : take n u ≡ take n v = cc in
    ap (take (suc n)) (next_later a l x u)
    ∙ (ap (λ z. z ∷ take n (next a (l - 1) u)) same ∙ ap (λ t. y ∷ t) (take_next n a (l - 1) u v (omega arith) (omega arith) (omega arith) rest)
    ∙ ap (take (suc n)) (sym (next_later a l y v)))

-- steps behind others

pub end_behind : (b l : ℕ) (v : List ℕ) (now : List Step) → trail_end v (now ++ (b, l) ∷ []) ≡ next b l (trail_end v now)
end_behind b l v [] = refl
end_behind b l v ((a, o) ∷ now) = end_behind b l (next a o v) now

pub lower : (m a b l : ℕ) (now more : List Step) → b ≤ a → Agreeing m (now ++ (a, l) ∷ more) → Agreeing m (now ++ (b, l) ∷ more)
lower m a b l [] more h (i, j, g) = (omega arith, omega arith, g)
lower m a b l ((c, o) ∷ now) more h (i, j, g) = (i, j, lower o a b l now more h g)

pub lower_behind : (n m : ℕ) (now more : List Step) → Agreeing m (now ++ more) → Agreeing m (now ++ capped n more)
lower_behind n m [] [] g = tt
lower_behind n m [] ((a, l) ∷ more) (h, k, g) = (omega arith, omega arith, lower_behind n l [] more g)
lower_behind n m ((c, o) ∷ now) more (h, k, g) = (h, k, lower_behind n o now more g)

pub count_behind : (n : ℕ) (now more : List Step) → length (now ++ capped n more) ≡ length (now ++ more)
count_behind n [] [] = refl
count_behind n [] ((a, l) ∷ more) = ap suc (count_behind n [] more)
count_behind n (s ∷ now) more = ap suc (count_behind n now more)

pub count_same : (now : List Step) (s t : Step) (more : List Step) → length (now ++ s ∷ more) ≡ length (now ++ t ∷ more)
count_same [] s t more = refl
count_same (b ∷ now) s t more = ap suc (count_same now s t more)

pub end_long : (v : List ℕ) (now more : List Step) (a l : ℕ) → Agreeing (length v) (now ++ (a, l) ∷ more) → (a < length (trail_end v now)) × (a < l)
end_long v [] more a l (h, k, g) = (h, k)
end_long v ((b, o) ∷ now) more a l (h, k, g) = end_long (next b o v) now more a l (subst (λ z. Agreeing z (now ++ (a, l) ∷ more)) (sym (length_next b o v h k)) g)

-- one boundary: the fuse where n entries or more agree, and nothing where fewer do
fuse_here : (n m a l : ℕ) (now more : List Step) (v : List ℕ) → 0 < n → 0 < m → length (now ++ (a, l) ∷ more) + 1 < 2 ^ 32 → Agreeing m (now ++ (a, l) ∷ more) → take n (trail_end (zeros m) now) ≡ take n v → a < length v
    → VectorsLead (if nat_le n (agreement v (next a l v)) then Fuse (as_prefix (take n (next a l v))) ∷ [] else []) (trail (zeros m) (now ++ (min (n - 1) a, l) ∷ more)) (trail (zeros m) (now ++ (min n a, l) ∷ more))
fuse_here n m a l now more v least some few g same h =
    elim (bool_tells (nat_le n a)) [
      | inl t ↦
          let k = leb-true n a t in
          let low : min (n - 1) a ≡ n - 1 = omega arith in
          let high : min n a ≡ n = omega arith in
          let loop : take n (next a l v) ≡ parted_loop m n now = take_kept n a l v k h ∙ sym same in
          let back : map natural (as_prefix (take n (next a l v))) ≡ parted_loop m n now = prefix_back (take n (next a l v)) ∙ loop in
          let few_n : length (now ++ (n, l) ∷ more) + 1 < 2 ^ 32 = subst (λ z. z + 1 < 2 ^ 32) (count_same now (a, l) (n, l) more) few in
          let ok = fuse_joins m n l now more least some few_n (lower m a n l now more k g) in
          let yes : nat_le n (agreement v (next a l v)) ≡ true = ap (nat_le n) (agreement_next a l v h) ∙ t in
          let start : trail (zeros m) (now ++ (min (n - 1) a, l) ∷ more) ≡ trail (zeros m) (now ++ (n - 1, l) ∷ more) = ap (λ z. trail (zeros m) (now ++ (z, l) ∷ more)) low in
          let end : trail (zeros m) (now ++ (n, l) ∷ more) ≡ trail (zeros m) (now ++ (min n a, l) ∷ more) = ap (λ z. trail (zeros m) (now ++ (z, l) ∷ more)) (sym high) in
          subst (λ b. VectorsLead (if b then Fuse (as_prefix (take n (next a l v))) ∷ [] else []) (trail (zeros m) (now ++ (min (n - 1) a, l) ∷ more)) (trail (zeros m) (now ++ (min n a, l) ∷ more))) (sym yes) (
            trail (zeros m) (now ++ (n, l) ∷ more),
            tt,
            prefix_natural (take n (next a l v)),
            ap (λ P. fuse_answer P (trail (zeros m) (now ++ (min (n - 1) a, l) ∷ more))) back ∙ ap (fuse_answer (parted_loop m n now)) start ∙ ok,
            end,
          )
      | inr f ↦
          let k = leb-false n a f in
          let low : min (n - 1) a ≡ min n a = omega arith in
          let no : nat_le n (agreement v (next a l v)) ≡ false = ap (nat_le n) (agreement_next a l v h) ∙ f in
          subst (λ b. VectorsLead (if b then Fuse (as_prefix (take n (next a l v))) ∷ [] else []) (trail (zeros m) (now ++ (min (n - 1) a, l) ∷ more)) (trail (zeros m) (now ++ (min n a, l) ∷ more))) (sym no)
          (ap (λ z. trail (zeros m) (now ++ (z, l) ∷ more)) low)
    ]

pub keep_front : (n a l : ℕ) (u v : List ℕ) → a < length u → a < length v → take n u ≡ take n v → take n (next (min n a) l u) ≡ take n (next a l v)
keep_front n a l u v h g same =
    elim (bool_tells (nat_le n a)) [
      | inl t ↦
          let k = leb-true n a t in
          let high : min n a ≡ n = omega arith in
          ap (λ z. take n (next z l u)) high ∙ (take_kept n n l u (omega arith) (omega arith) ∙ (same ∙ sym (take_kept n a l v k g)))
      | inr f ↦
          let k = leb-false n a f in
          let low : min n a ≡ a = omega arith in
          ap (λ z. take n (next z l u)) low ∙ take_next n a l u v (omega arith) h g same
    ]

-- the pass of the loops of length n, from the boundary behind v on
pass : (more : List Step) (n m : ℕ) (now : List Step) (v : List ℕ) → 0 < n → 0 < m → length (now ++ more) + 1 < 2 ^ 32 → Agreeing m (now ++ more) → take n (trail_end (zeros m) now) ≡ take n v → length (trail_end (zeros m) now) ≡ length v
    → VectorsLead (fuses_of_length n v (behind v more)) (trail (zeros m) (now ++ capped (n - 1) more)) (trail (zeros m) (now ++ capped n more))
pass [] n m now v least some few g same long = refl
pass ((a, l) ∷ more) n m now v least some few g same long =
    let u : List ℕ = trail_end (zeros m) now in
    let w : List ℕ = next a l v in
    let good : Agreeing (length (zeros m)) (now ++ (a, l) ∷ more) = subst (λ z. Agreeing z (now ++ (a, l) ∷ more)) (sym (length_zeros m)) g in
    let (h, k) = end_long (zeros m) now more a l good in
    let hv : a < length v = omega arith in
    let few_here : length (now ++ (a, l) ∷ capped (n - 1) more) + 1 < 2 ^ 32 = subst (λ z. z + 1 < 2 ^ 32) (sym (counts now more)) few in
    let here = fuse_here n m a l now (capped (n - 1) more) v least some few_here (lows m now more g) same hv in
    let step : List Step = now ++ (min n a, l) ∷ [] in
    let joined : (x : List Step) → step ++ x ≡ now ++ (min n a, l) ∷ x = λ x. append_assoc now ((min n a, l) ∷ []) x in
    let few_step : length (step ++ more) + 1 < 2 ^ 32 = subst (λ z. z + 1 < 2 ^ 32) (count_same now (a, l) (min n a, l) more ∙ ap length (sym (joined more))) few in
    let good_step : Agreeing m (step ++ more) = subst (Agreeing m) (sym (joined more)) (lower m a (min n a) l now more (omega arith) g) in
    let end_is : trail_end (zeros m) step ≡ next (min n a) l u = end_behind (min n a) l (zeros m) now in
    let low_u : min n a < length u = omega arith in
    let low_l : min n a < l = omega arith in
    let same_step : take n (trail_end (zeros m) step) ≡ take n w = ap (take n) end_is ∙ keep_front n a l u v h hv same in
    let long_step : length (trail_end (zeros m) step) ≡ length w = ap length end_is ∙ length_next (min n a) l u low_u low_l ∙ sym (length_next a l v hv k) in
    let rest = pass more n m step w least some few_step good_step same_step long_step in
    let moved : VectorsLead (fuses_of_length n w (behind w more)) (trail (zeros m) (now ++ (min n a, l) ∷ capped (n - 1) more)) (trail (zeros m) (now ++ (min n a, l) ∷ capped n more)) =
    subst (λ z. VectorsLead (fuses_of_length n w (behind w more)) (trail (zeros m) (now ++ (min n a, l) ∷ capped (n - 1) more)) (trail (zeros m) z)) (joined (capped n more))
    (subst (λ z. VectorsLead (fuses_of_length n w (behind w more)) (trail (zeros m) z) (trail (zeros m) (step ++ capped n more))) (joined (capped (n - 1) more)) rest) in
    subst (λ z. VectorsLead (fuses_of_length n v z) (trail (zeros m) (now ++ (min (n - 1) a, l) ∷ capped (n - 1) more)) (trail (zeros m) (now ++ (min n a, l) ∷ capped n more))) (sym (first_behind w more))
    (vectors_on (if nat_le n (agreement v w) then Fuse (as_prefix (take n w)) ∷ [] else []) (fuses_of_length n w (behind w more))
    (trail (zeros m) (now ++ (min (n - 1) a, l) ∷ capped (n - 1) more)) (trail (zeros m) (now ++ (min n a, l) ∷ capped (n - 1) more)) (trail (zeros m) (now ++ (min n a, l) ∷ capped n more)) here moved)
  where
    counts : (now more : List Step) → length (now ++ (a, l) ∷ capped (n - 1) more) ≡ length (now ++ (a, l) ∷ more)
    counts [] more = ap suc (count_behind (n - 1) [] more)
    counts (s ∷ now) more = ap suc (counts now more)

    lows : (m : ℕ) (now more : List Step) → Agreeing m (now ++ (a, l) ∷ more) → Agreeing m (now ++ (a, l) ∷ capped (n - 1) more)
    lows m [] more (h, k, g) = (h, k, lower_behind (n - 1) l [] more g)
    lows m ((c, o) ∷ now) more (h, k, g) = (h, k, lows o now more g)

-- the passes from length s + 1 on, so many
passes : (count s m : ℕ) (steps : List Step) → 0 < m → length steps + 1 < 2 ^ 32 → Agreeing m steps
    → VectorsLead (flat_map (λ n. fuses_of_length n (zeros m) (behind (zeros m) steps)) (range_with_len (s + 1) count)) (trail (zeros m) (capped s steps)) (trail (zeros m) (capped (s + count) steps))
passes zero s m steps some few g = ap (λ n. trail (zeros m) (capped n steps)) (let e : s ≡ s + 0 = omega arith in e)
passes (suc count) s m steps some few g =
    let low : s + 1 - 1 ≡ s = omega arith in
    let up : s + 1 + count ≡ s + suc count = omega arith in
    let here = subst (λ z. VectorsLead (fuses_of_length (s + 1) (zeros m) (behind (zeros m) steps)) (trail (zeros m) (capped z steps)) (trail (zeros m) (capped (s + 1) steps))) low
    (pass steps (s + 1) m [] (zeros m) (omega arith) some few g refl refl) in
    let rest = subst (λ z. VectorsLead (flat_map (λ n. fuses_of_length n (zeros m) (behind (zeros m) steps)) (range_with_len (s + 1 + 1) count)) (trail (zeros m) (capped (s + 1) steps)) (trail (zeros m) (capped z steps))) up
    (passes count (s + 1) m steps some few g) in
    vectors_on (fuses_of_length (s + 1) (zeros m) (behind (zeros m) steps)) (flat_map (λ n. fuses_of_length n (zeros m) (behind (zeros m) steps)) (range_with_len (s + 1 + 1) count))
    (trail (zeros m) (capped s steps)) (trail (zeros m) (capped (s + 1) steps)) (trail (zeros m) (capped (s + suc count) steps)) here rest

capped_none : (steps : List Step) → capped 0 steps ≡ map (λ l. (0, l)) (lengths_of steps)
capped_none [] = refl
capped_none ((a, l) ∷ more) = let e : min 0 a ≡ 0 = omega arith in ap (λ z. (z, l) ∷ capped 0 more) e ∙ ap (λ t. (0, l) ∷ t) (capped_none more)

pub capped_all : (steps : List Step) → AllBelow (max_levels + 1) steps → capped max_levels steps ≡ steps
capped_all [] b = refl
capped_all ((a, l) ∷ more) (h, b) = let e : min max_levels a ≡ a = omega arith in ap (λ z. (z, l) ∷ capped max_levels more) e ∙ ap (λ t. (a, l) ∷ t) (capped_all more b)

pub fuses_lead : FusesLead
fuses_lead m steps some few g b =
    let start : trail (zeros m) (capped 0 steps) ≡ ranked 0 (m ∷ lengths_of steps) = ap (trail (zeros m)) (capped_none steps) ∙ apart_is_ranked m (lengths_of steps) some in
    let end : trail (zeros m) (capped max_levels steps) ≡ trail (zeros m) steps = ap (trail (zeros m)) (capped_all steps b) in
    subst (λ V. VectorsLead (fuses V) (ranked 0 (m ∷ lengths_of steps)) (trail (zeros m) steps)) (sym (first_behind (zeros m) steps))
    (subst (λ V. VectorsLead (fuses (zeros m ∷ behind (zeros m) steps)) V (trail (zeros m) steps)) start
    (subst (λ V. VectorsLead (fuses (zeros m ∷ behind (zeros m) steps)) (trail (zeros m) (capped 0 steps)) V) end
    (passes max_levels 0 m steps some few g)))
