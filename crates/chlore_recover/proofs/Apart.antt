-- The fissions of the first step are accepted one by one, and leave each vector alone.
use Rattle.std.proofs.Common.{◌≡◌, ◌≢◌, ℕ, zero, suc, ◌+◌, ◌-◌, ◌<◌, ◌≤◌, ◌^◌, ◌==◌, nat_lt, Bool, true, false, if◌then◌else◌, not, ◌&&◌, inl, inr, Result, Ok, Err, Some, None, List, [], ◌∷◌, ◌++◌, length, map, refl, sym, ◌∙◌, ap, subst, arith, append_assoc, append-nil}
use Rattle.std.proofs.lemmas.Bool.{eqb-true, eqb-false}
use Rattle.beta_tree.specs.declared.refusals.BetaFail.{BetaFail}
use Rattle.beta_tree.specs.declared.refusals.BetaFail.TheVariants.{NoBeta, NotALoop, BadArgument}
use Rattle.beta_tree.specs.Vectors.{is_loop, no_statement, children_of}
use Rattle.beta_tree.specs.Edits.{fissioned}
use Rattle.beta_tree.specs.Answers.{fission_answer}
use Rattle.beta_tree.proofs.Places.{bool_tells}
use Rattle.beta_trails.specs.Trails.{Step, zeros, trail, ranked, Agreeing, AllBelow}
use Rattle.beta_trails.specs.Laws.{parted_loop}
use Rattle.beta_trails.proofs.Boundaries.{fission_parts}
use Rattle.beta_trails.proofs.Firsts.{first_is_parted_at_one}
use Rattle.beta_trails.proofs.Ranked.{apart_is_ranked}
use Rattle.beta_trails.proofs.Dense.{length_trail}
use Rattle.chlore_recover.specs.Strategy.{least_wide_loop, splits, split_at_all, all_splits}
use Rattle.chlore_recover.specs.Splits.{SplitsLead, lengths_of, SplitsLeaveAlone}
use Rattle.chlore_recover.proofs.Wide.{none_is_wide, first_is_least}

-- what a fission that is accepted answers

past_test : {A E : Type 0} (b : Bool) (e : E) (r : Result A E) (W : A) → (if b then Err e else r) ≡ Ok W → r ≡ Ok W
past_test true e r W h = absurd (cc)
past_test false e r W h = h

abbrev split_up : List ℕ → ℕ → List (List ℕ) → Result (List (List ℕ)) BetaFail
split_up P c V = Ok (map (fissioned P c) V)

abbrev in_range : List ℕ → ℕ → List (List ℕ) → Result (List (List ℕ)) BetaFail
in_range P c V = if not (nat_lt 0 c && nat_lt c (children_of P V)) then Err BadArgument else split_up P c V

abbrev of_loop : List ℕ → ℕ → List (List ℕ) → Result (List (List ℕ)) BetaFail
of_loop P c V = if not (is_loop P V) then Err NotALoop else in_range P c V

pub accepted_is : (P : List ℕ) (c : ℕ) (V W : List (List ℕ)) → fission_answer P c V ≡ Ok W → map (fissioned P c) V ≡ W
accepted_is P c V W h =
    let a : of_loop P c V ≡ Ok W = past_test (no_statement P V) NoBeta (of_loop P c V) W h in
    let b : in_range P c V ≡ Ok W = past_test (not (is_loop P V)) NotALoop (in_range P c V) W a in
    let d : split_up P c V ≡ Ok W = past_test (not (nat_lt 0 c && nat_lt c (children_of P V))) BadArgument (split_up P c V) W b in
    cc

-- fissions one after the other

lead_on : (loops more : List (List ℕ)) (U V W : List (List ℕ)) → SplitsLead loops U V → SplitsLead more V W → SplitsLead (loops ++ more) U W
lead_on [] more U V W e s = subst (λ z. SplitsLead more z W) (sym e) s
lead_on (P ∷ loops) more U V W (ok, r) s = (ok, lead_on loops more (map (fissioned P 1) U) V W r s)

lead_to : (loops V W : List (List ℕ)) → SplitsLead loops V W → split_at_all loops V ≡ W
lead_to [] V W e = e
lead_to (P ∷ loops) V W (ok, r) = lead_to loops (map (fissioned P 1) V) W r

pub no_splits : (most n : ℕ) (V : List (List ℕ)) → least_wide_loop n V V ≡ None → splits most n V ≡ []
no_splits zero n V e = refl
no_splits (suc most) n V e =
    subst (λ o. elim o as (λ _. List (List ℕ)) [ None ↦ [] | Some P ↦ P ∷ splits most n (map (fissioned P 1) V) ] ≡ []) (sym e) refl

one_split : (most n : ℕ) (P : List ℕ) (V W X : List (List ℕ)) → least_wide_loop n V V ≡ Some P → fission_answer P 1 V ≡ Ok W → SplitsLead (splits most n W) W X → SplitsLead (splits (suc most) n V) V X
one_split most n P V W X least ok run =
    let is = accepted_is P 1 V W ok in
    subst (λ o. SplitsLead (elim o as (λ _. List (List ℕ)) [ None ↦ [] | Some Q ↦ Q ∷ splits most n (map (fissioned Q 1) V) ]) V X) (sym least)
    (ok ∙ ap Ok (sym is), subst (λ z. SplitsLead (splits most n z) z X) (sym is) run)

-- steps behind others

same_count : (before : List Step) (s t : Step) (more : List Step) → length (before ++ s ∷ more) ≡ length (before ++ t ∷ more)
same_count [] s t more = refl
same_count (b ∷ before) s t more = ap suc (same_count before s t more)

same_lengths : (before : List Step) (a b l : ℕ) (more : List Step) → lengths_of (before ++ (a, l) ∷ more) ≡ lengths_of (before ++ (b, l) ∷ more)
same_lengths [] a b l more = refl
same_lengths (s ∷ before) a b l more = ap (λ t. s.1 ∷ t) (same_lengths before a b l more)

less_agreeing : (m n l : ℕ) (before more : List Step) → Agreeing m (before ++ (n, l) ∷ more) → Agreeing m (before ++ (n - 1, l) ∷ more)
less_agreeing m n l [] more (h, k, g) = (omega arith, omega arith, g)
less_agreeing m n l ((a, o) ∷ before) more (h, k, g) = (h, k, less_agreeing o n l before more g)

pub all_but : (n a l : ℕ) (before : List Step) → AllBelow n before → a < n → AllBelow n (before ++ (a, l) ∷ [])
all_but n a l [] b h = (h, tt)
all_but n a l ((c, o) ∷ before) (k, b) h = (k, all_but n a l before b h)

all_front : (m : ℕ) (before more : List Step) → Agreeing m (before ++ more) → Agreeing m before
all_front m [] more g = tt
all_front m ((a, l) ∷ before) more (h, k, g) = (h, k, all_front l before more g)

-- the splits of length n lead to vectors of the same lengths that agree in fewer than n entries
abbrev pub Parts : ℕ → ℕ → ℕ → List Step → Type 0
Parts most n m steps =
    (less : List Step) × Agreeing m less × AllBelow n less × (lengths_of less ≡ lengths_of steps) × (length less ≡ length steps)
    × SplitsLead (splits most n (trail (zeros m) steps)) (trail (zeros m) steps) (trail (zeros m) less)

parts_at : (most n m l : ℕ) (before more : List Step) → 0 < n → 0 < m → length (before ++ (n, l) ∷ more) + 1 < 2 ^ 32 → Agreeing m (before ++ (n, l) ∷ more) → AllBelow n before → Parts most n m (before ++ (n - 1, l) ∷ more) → Parts (suc most) n m (before ++ (n, l) ∷ more)
parts_at most n m l before more pos some few g b (less, a, c, long, count, run) =
    let first = first_is_parted_at_one m n before (all_front m before ((n, l) ∷ more) g) b in
    let ok = subst (λ z. fission_answer (parted_loop m n before) z (trail (zeros m) (before ++ (n, l) ∷ more)) ≡ Ok (trail (zeros m) (before ++ (n - 1, l) ∷ more))) first (fission_parts m n l before more pos some few g) in (
      less,
      a,
      c,
      long ∙ same_lengths before (n - 1) n l more,
      count ∙ same_count before (n - 1, l) (n, l) more,
      one_split most n (parted_loop m n before) (trail (zeros m) (before ++ (n, l) ∷ more)) (trail (zeros m) (before ++ (n - 1, l) ∷ more)) (trail (zeros m) less)
          (first_is_least m n l before more some few g b) ok run,
    )

-- the first of them that agrees in n entries is split, the others are passed
parts : (more : List Step) (most n m : ℕ) (before : List Step) → 0 < n → 0 < m → length more ≤ most → length (before ++ more) + 1 < 2 ^ 32 → Agreeing m (before ++ more) → AllBelow n before → AllBelow (n + 1) more → Parts most n m (before ++ more)
parts [] most n m before pos some enough few g b c =
    let same = append-nil before in
    let few_alone : length before + 1 < 2 ^ 32 = subst (λ s. length s + 1 < 2 ^ 32) same few in
    let good = subst (Agreeing m) same g in
    let none = no_splits most n (trail (zeros m) before) (none_is_wide m n before some few_alone good b) in
    subst (Parts most n m) (sym same)
    (before, good, b, refl, refl, subst (λ s. SplitsLead s (trail (zeros m) before) (trail (zeros m) before)) (sym none) refl)
parts ((a, l) ∷ more) zero n m before pos some enough few g b (low, c) = absurd (omega arith)
parts ((a, l) ∷ more) (suc most) n m before pos some enough few g b (low, c) =
    elim (bool_tells (a == n)) [
      | inr f ↦
          let ne : a ≢ n = eqb-false a n f in
          let same : (before ++ (a, l) ∷ []) ++ more ≡ before ++ (a, l) ∷ more = append_assoc before ((a, l) ∷ []) more in
          subst (Parts (suc most) n m) same
          (parts more (suc most) n m (before ++ (a, l) ∷ []) pos some (omega arith) (subst (λ s. length s + 1 < 2 ^ 32) (sym same) few)
          (subst (Agreeing m) (sym same) g) (all_but n a l before b (omega arith)) c)
      | inl t ↦
          let e : a ≡ n = eqb-true a n t in
          let same : (before ++ (n - 1, l) ∷ []) ++ more ≡ before ++ (n - 1, l) ∷ more = append_assoc before ((n - 1, l) ∷ []) more in
          let few_n : length (before ++ (n, l) ∷ more) + 1 < 2 ^ 32 = subst (λ z. length (before ++ (z, l) ∷ more) + 1 < 2 ^ 32) e few in
          let good : Agreeing m (before ++ (n, l) ∷ more) = subst (λ z. Agreeing m (before ++ (z, l) ∷ more)) e g in
          let few_less : length (before ++ (n - 1, l) ∷ more) + 1 < 2 ^ 32 = subst (λ z. z + 1 < 2 ^ 32) (same_count before (n, l) (n - 1, l) more) few_n in
          let rest : Parts most n m ((before ++ (n - 1, l) ∷ []) ++ more) = parts more most n m (before ++ (n - 1, l) ∷ []) pos some (omega arith) (subst (λ s. length s + 1 < 2 ^ 32) (sym same) few_less)
          (subst (Agreeing m) (sym same) (less_agreeing m n l before more good)) (all_but n (n - 1) l before b (omega arith)) c in
          subst (λ z. Parts (suc most) n m (before ++ (z, l) ∷ more)) (sym e)
          (parts_at most n m l before more pos some few_n good b (subst (Parts most n m) same rest))
    ]

-- where no vectors agree in an entry, they are ranked
none_agree : (m : ℕ) (steps : List Step) → AllBelow 1 steps → map (λ l. (0, l)) (lengths_of steps) ≡ steps
none_agree m [] b = refl
none_agree m ((a, l) ∷ more) (h, b) = let e : 0 ≡ a = omega arith in let r = none_agree m more b in ap (λ z. (z, l) ∷ map (λ l. (0, l)) (lengths_of more)) e ∙ ap (λ t. (a, l) ∷ t) r

pub splits_leave_alone : SplitsLeaveAlone
splits_leave_alone zero m steps some few g b =
    ap (λ s. trail (zeros m) s) (sym (none_agree m steps b)) ∙ apart_is_ranked m (lengths_of steps) some
splits_leave_alone (suc n) m steps some few g b =
    let V : List (List ℕ) = trail (zeros m) steps in
    let enough = length_trail (zeros m) steps in
    let up : suc n + 1 ≡ suc (n + 1) = omega arith in
    let (less, a, c, long, count, run) = parts steps (length V) (suc n) m [] (omega arith) some (omega arith) few g tt b in
    let fewer : length less + 1 < 2 ^ 32 = omega arith in
    let one : suc n ≡ n + 1 = omega arith in
    let rest = splits_leave_alone n m less some fewer a (subst (λ k. AllBelow k less) one c) in
    let to = lead_to (splits (length V) (suc n) V) V (trail (zeros m) less) run in
    lead_on (splits (length V) (suc n) V) (all_splits n (split_at_all (splits (length V) (suc n) V) V)) V (trail (zeros m) less) (ranked 0 (m ∷ lengths_of steps))
    run
    (subst (λ z. SplitsLead (all_splits n z) (trail (zeros m) less) (ranked 0 (m ∷ lengths_of steps))) (sym to)
    (subst (λ z. SplitsLead (all_splits n (trail (zeros m) less)) (trail (zeros m) less) (ranked 0 (m ∷ z))) long rest))
