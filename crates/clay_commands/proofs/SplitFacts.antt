-- What the conditions and limits of a split say, and the step that it is.
use Rattle.std.proofs.Common.{◌≡◌, ℕ, ◌+◌, ◌<◌, ◌≤◌, ◌^◌, ◌==◌, nat_le, nat_lt, max, Bool, true, false, not, ◌&&◌, if◌then◌else◌, inl, inr, Option, Some, None, Result, Ok, Err, List, [], ◌∷◌, ◌++◌, map, length, get_or, set, ℤ, unsigned_abs, refl, ap, sym, ◌∙◌, subst, add-one, append-nil, arith}
use Rattle.std.specs.Prelude.{All}
use Rattle.std.specs.List.{flat_map}
use Rattle.std.specs.Option.{is_some}
use Rattle.std.proofs.lemmas.Bool.{eqb-true, leb-false, ltb-false}
use Rattle.std.proofs.lemmas.List.Elements.{All-head, All-tail}
use Rattle.suite_base.specs.declared.refusals.Refusal.{Refusal}
use Rattle.suite_base.specs.declared.refusals.Refusal.TheVariants as refusal
use Rattle.suite_base.specs.declared.refusals.Where.TheVariants as count
use Rattle.suite_base.specs.declared.refusals.Which.TheVariants.{Statements, Rows}
use Rattle.suite_base.specs.declared.refusals.Fail.TheVariants.{Refused}
use Rattle.beta_tree.specs.declared.refusals.BetaFail.{BetaFail}
use Rattle.beta_tree.specs.declared.refusals.BetaFail.TheVariants as beta
use Rattle.beta_tree.specs.Vectors.{after, no_statement, is_leaf, In, ApartFromAll, PrefixFree, IsTree}
use Rattle.beta_tree.specs.Edits.{same_vector, leaf_split}
use Rattle.beta_tree.specs.Answers.{HasCause as CauseOfBetas, leaf_answer}
use Rattle.beta_tree.proofs.Places.{bool_tells, after_append, from_In-under}
use Rattle.beta_tree.proofs.Trees.{leaf_in, some_under}
use Rattle.beta_tree.proofs.Orders.{and_left, and_right}
use Rattle.beta_tree.proofs.Leaves.{same_vector_yes, same_vector_refl}
use Rattle.clay_commands.specs.declared.edit_fails.EditFail.TheVariants.{Heavy}
use Rattle.scop_core.specs.Assembly.{HasCause}
use Rattle.scop_core.specs.Printable.{IsDomainPart}
use Rattle.clay_script.specs.declared.commands.Command.{Command}
use Rattle.clay_script.specs.declared.commands.Command.TheVariants.{Fission, Fuse, Reorder, Interchange, Skew, Shift, Reverse, Stripmine, Tile, Iss}
use Rattle.clay_commands.specs.declared.leaves.Leaf.{Leaf}
use Rattle.clay_commands.specs.Arguments.{natural, prefix_in}
use Rattle.clay_commands.specs.Drafts.{Draft, betas_of, is_under, draft_after}
use Rattle.clay_commands.specs.Refusals.{condition_under, limit_of, most_under, statement_weight, all_under, has_full_part}
use Rattle.clay_commands.specs.Steps.{AllUnder, IsSplitBy, joined, split_at, first_half, second_half, place_in, refusal_under, fail_of}
use Rattle.clay_commands.specs.Soundness.{IsSoundLeaf, IsSound, IsStep}
use Rattle.clay_commands.proofs.LeafLoops.{holds_at}
use Rattle.clay_commands.proofs.Changeables.{passes, argument_passed, AllUnder-with}
use Rattle.clay_commands.proofs.DraftMaps.{unrefused_command, heavy_cause}
use Rattle.clay_commands.proofs.Cuts.{joined_betas}
use Rattle.clay_commands.proofs.Halves.{halves_joined, not_same, own_split, other_split}
use Rattle.std.proofs.lemmas.List.{length-set}
use Rattle.std.proofs.lemmas.List.Edits.{length-insert}

-- a leaf that is not there
abbrev pub no_leaf : Leaf
no_leaf = record {
  beta = [];
  statement = record { domain = []; schedule = record { floors = []; levels = []; betas = [] }; accesses = []; body = record { text = []; iterators = [] }; extensions = [] };
  original = 0;
}

split_form : (command : Command) (xs ns : List ℤ) (c : ℤ) → IsSplitBy command xs ns c → (p : List ℤ) × (command ≡ Iss p xs ns c)
split_form (Iss p ys ms d) xs ns c (ex, en, ec) = (p, ap (λ t. Iss p t ms d) ex ∙ ap (λ t. Iss p xs t d) en ∙ ap (λ t. Iss p xs ns t) ec)
split_form (Fission p d) xs ns c h = absurd h
split_form (Fuse p) xs ns c h = absurd h
split_form (Reorder p order) xs ns c h = absurd h
split_form (Interchange p j l) xs ns c h = absurd h
split_form (Skew p j l f) xs ns c h = absurd h
split_form (Shift p j v d) xs ns c h = absurd h
split_form (Reverse p j) xs ns c h = absurd h
split_form (Stripmine p j s) xs ns c h = absurd h
split_form (Tile p j s t) xs ns c h = absurd h

-- the leaf whose vector is P

pub place_among : (P : List ℕ) (D : Draft) → In P (betas_of D) → place_in P D < length D
place_among P [] i = absurd i
place_among P (leaf ∷ D) (inl e) =
    let same : same_vector leaf.beta P ≡ true = subst (λ v. same_vector leaf.beta v ≡ true) e (same_vector_refl leaf.beta) in
    let here : place_in P (leaf ∷ D) ≡ 0 = ap (λ b. if b then 0 else place_in P D + 1) same in omega arith
place_among P (leaf ∷ D) (inr i) =
    let l = place_among P D i in
    elim (same_vector leaf.beta P) as (λ b. (if b then 0 else place_in P D + 1) < length (leaf ∷ D)) [ true ↦ omega arith | false ↦ omega arith ]

place_has : (P : List ℕ) (D : Draft) (d : Leaf) → place_in P D < length D → (get_or D (place_in P D) d).beta ≡ P
place_has P [] d l = absurd (omega arith)
place_has P (leaf ∷ D) d l =
    elim (bool_tells (same_vector leaf.beta P)) [
      | inl t ↦ ap (λ b. (get_or (leaf ∷ D) (if b then 0 else place_in P D + 1) d).beta) t ∙ same_vector_yes leaf.beta P t
      | inr f ↦
          let behind : place_in P (leaf ∷ D) ≡ place_in P D + 1 = ap (λ b. if b then 0 else place_in P D + 1) f in
          ap (λ n. (get_or (leaf ∷ D) n d).beta) (behind ∙ add-one (place_in P D)) ∙ place_has P D d (omega arith)
    ]

-- the domains of sound leaves

domains : (parameters : ℕ) (P : List ℕ) (D : Draft) → All (IsSoundLeaf parameters) D → AllUnder P (λ s. All (IsDomainPart (length s.body.iterators) parameters) s.domain) D
domains parameters P [] all = tt
domains parameters P (leaf ∷ D) all = (λ u. (All-head (IsSoundLeaf parameters) leaf D all).shape.domain, domains parameters P D (All-tail (IsSoundLeaf parameters) leaf D all))

pub record SplitFacts (P : List ℕ) (D : Draft) (xs ns : List ℤ) : Type 0 where
  pub leaf : is_leaf P (betas_of D) ≡ true
  pub few : length D < 1024
  pub within : place_in P D < length D
  pub parts : (d : Leaf) → All (IsDomainPart (length xs) (length ns)) (get_or D (place_in P D) d).statement.domain

pub own_prefix : (P : List ℕ) → is_under P P ≡ true
own_prefix P = subst (λ v. is_some (after P v) ≡ true) (append-nil P) (ap (λ o. is_some o) (after_append P []))

unlimited : (i n : ℕ) (full : Bool) → (if nat_le 1024 n then Some (refusal.Limit Statements i) else (if full then Some (refusal.Limit Rows i) else None)) ≡ None → n < 1024
unlimited i n full h =
    elim (bool_tells (nat_le 1024 n)) [
      | inl t ↦ absurd (let some : Some (refusal.Limit Statements i) ≡ None = sym (ap (λ b. if b then Some (refusal.Limit Statements i) else (if full then Some (refusal.Limit Rows i) else None)) t) ∙ h in cc)
      | inr f ↦ leb-false 1024 n f
    ]

pub facts_of : (parameters i : ℕ) (p xs ns : List ℤ) (c : ℤ) (P : List ℕ) (D : Draft) → condition_under parameters i (Iss p xs ns c) P D ≡ None → limit_of i (Iss p xs ns c) D ≡ None
    → IsSound parameters D → SplitFacts P D xs ns
facts_of parameters i p xs ns c P D con lim sound =
    let fits = all_under P (λ s. length xs == length s.body.iterators) D in
    let passed = argument_passed i true (is_leaf P (betas_of D) && (fits && length ns == parameters)) con in
    let leaf = and_left (is_leaf P (betas_of D)) (fits && length ns == parameters) passed in
    let both = and_right (is_leaf P (betas_of D)) (fits && length ns == parameters) passed in
    let iterators = passes P (λ s. length xs == length s.body.iterators) D (and_left fits (length ns == parameters) both) in
    let count : length ns ≡ parameters = eqb-true (length ns) parameters (and_right fits (length ns == parameters) both) in
    let within = place_among P D (leaf_in P (betas_of D) leaf) in
    let all = AllUnder-with P (λ s. (length xs == length s.body.iterators) ≡ true) (λ s. All (IsDomainPart (length s.body.iterators) parameters) s.domain)
    (λ s. All (IsDomainPart (length xs) (length ns)) s.domain)
    (λ s e parts. subst (λ n. All (IsDomainPart (length xs) n) s.domain) (sym count) (subst (λ n. All (IsDomainPart n parameters) s.domain) (sym (eqb-true (length xs) (length s.body.iterators) e)) parts))
    D iterators (domains parameters P D sound.leaves) in
    record {
      leaf = leaf;
      few = unlimited i (length D) (not (all_under (map natural p) (λ s. not (has_full_part s)) D)) lim;
      within = within;
      parts = λ d. holds_at P (λ s. All (IsDomainPart (length xs) (length ns)) s.domain) D (place_in P D) d within all (subst (λ v. is_under P v ≡ true) (sym (place_has P D d within)) (own_prefix P));
    }

pub split_facts : (parameters i : ℕ) (command : Command) (xs ns : List ℤ) (c : ℤ) (P : List ℕ) (D : Draft) → IsSplitBy command xs ns c → condition_under parameters i command P D ≡ None
    → limit_of i command D ≡ None → IsSound parameters D → SplitFacts P D xs ns
split_facts parameters i command xs ns c P D is con lim sound =
    let (p, e) = split_form command xs ns c is in
    facts_of parameters i p xs ns c P D (subst (λ t. condition_under parameters i t P D ≡ None) e con) (subst (λ t. limit_of i t D ≡ None) e lim) sound

-- the weight of a split is that of its constant

most_even : (P : List ℕ) (n : ℕ) (D : Draft) → most_under P (λ s. n) D ≤ n
most_even P n [] = omega arith
most_even P n (leaf ∷ D) =
    let h = most_even P n D in
    elim (is_under P leaf.beta) as (λ u. max (if u then n else 0) (most_under P (λ s. n) D) ≤ n) [ true ↦ omega arith | false ↦ omega arith ]

most_some : (P w : List ℕ) (n : ℕ) (D : Draft) → In (P ++ w) (betas_of D) → n ≤ most_under P (λ s. n) D
most_some P w n [] i = absurd i
most_some P w n (leaf ∷ D) (inl e) =
    let under : is_under P leaf.beta ≡ true = rw (e, after_append P w) refl in
    let counts : (if is_under P leaf.beta then n else 0) ≡ n = ap (λ u. if u then n else 0) under in omega arith
most_some P w n (leaf ∷ D) (inr i) = let h = most_some P w n D i in omega arith

weight_light : (P : List ℕ) (p xs ns : List ℤ) (c : ℤ) (D : Draft) → unsigned_abs c + 1 < 2 ^ 127 → most_under P (statement_weight (Iss p xs ns c)) D < 2 ^ 127
weight_light P p xs ns c D l = let h = most_even P (unsigned_abs c + 1) D in omega arith

pub split_light : (command : Command) (xs ns : List ℤ) (c : ℤ) (P : List ℕ) (D : Draft) → IsSplitBy command xs ns c → unsigned_abs c + 1 < 2 ^ 127
    → most_under P (statement_weight command) D < 2 ^ 127
split_light command xs ns c P D is l =
    let (p, e) = split_form command xs ns c is in
    subst (λ t. most_under P (statement_weight t) D < 2 ^ 127) (sym e) (weight_light P p xs ns c D l)

weight_heavy : (P : List ℕ) (p xs ns : List ℤ) (c : ℤ) (D : Draft) → no_statement P (betas_of D) ≡ false → 2 ^ 127 ≤ unsigned_abs c + 1 → 2 ^ 127 ≤ most_under P (statement_weight (Iss p xs ns c)) D
weight_heavy P p xs ns c D some l =
    let (u, i) = some_under P (betas_of D) some in
    let h = most_some P u (unsigned_abs c + 1) D (from_In-under P u (betas_of D) i) in omega arith

pub split_heavy : (parameters i : ℕ) (command : Command) (xs ns : List ℤ) (c : ℤ) (P : List ℕ) (D : Draft) → IsSplitBy command xs ns c → condition_under parameters i command P D ≡ None
    → limit_of i command D ≡ None → P ≡ prefix_in command → no_statement P (betas_of D) ≡ false → nat_lt (unsigned_abs c + 1) (2 ^ 127) ≡ false
    → HasCause (refusal_under parameters i command P D) (Refused (refusal.Overflow count.Command i))
split_heavy parameters i command xs ns c P D is con lim e some f =
    let (p, form) = split_form command xs ns c is in
    let heavy : 2 ^ 127 ≤ most_under P (statement_weight command) D =
    subst (λ t. 2 ^ 127 ≤ most_under P (statement_weight t) D) (sym form) (weight_heavy P p xs ns c D some (ltb-false (unsigned_abs c + 1) (2 ^ 127) f)) in
    heavy_cause parameters i command P D Heavy con lim e heavy

-- the vectors of a split

leaf_answer_is : (P : List ℕ) (V : List (List ℕ)) → no_statement P V ≡ false → is_leaf P V ≡ true → leaf_answer P V ≡ Ok (flat_map (leaf_split P) V)
leaf_answer_is P V s l = rw (s, l) refl

abbrev answer_of : List (List ℕ) → Result (List (List ℕ)) BetaFail
answer_of V = Ok V

ok_is : (V W : List (List ℕ)) → answer_of V ≡ answer_of W → W ≡ V
ok_is V W e = cc

pub split_cause : (i : ℕ) (P : List ℕ) (V : List (List ℕ)) (e : BetaFail) (r : Option Refusal) → no_statement P V ≡ false → is_leaf P V ≡ true → CauseOfBetas e (leaf_answer P V) → HasCause r (fail_of i e)
split_cause i P V beta.Memory r s l h = tt
split_cause i P V beta.NoBeta r s l h = absurd (let both : answer_of (flat_map (leaf_split P) V) ≡ Err beta.NoBeta = sym (leaf_answer_is P V s l) ∙ h in cc)
split_cause i P V beta.NotALoop r s l h = absurd (let both : answer_of (flat_map (leaf_split P) V) ≡ Err beta.NotALoop = sym (leaf_answer_is P V s l) ∙ h in cc)
split_cause i P V beta.BadArgument r s l h = absurd (let both : answer_of (flat_map (leaf_split P) V) ≡ Err beta.BadArgument = sym (leaf_answer_is P V s l) ∙ h in cc)

-- a split makes one vector more, and one leaf more

rest_long : (P u : List ℕ) (D : Draft) → same_vector u P ≡ true → ApartFromAll u (betas_of D) → length (flat_map (leaf_split P) (betas_of D)) ≡ length D
rest_long P u [] s a = refl
rest_long P u (leaf ∷ D) s a =
    let other : same_vector leaf.beta P ≡ false = subst (λ w. same_vector leaf.beta w ≡ false) (same_vector_yes u P s) (not_same u leaf.beta a.0) in
    let more = rest_long P u D s a.1 in
    ap (λ W. length (W ++ flat_map (leaf_split P) (betas_of D))) (other_split P leaf.beta other) ∙ (omega arith)

pub split_long : (P : List ℕ) (D : Draft) → PrefixFree (betas_of D) → place_in P D < length D → length (flat_map (leaf_split P) (betas_of D)) ≡ length D + 1
split_long P [] free l = absurd (omega arith)
split_long P (leaf ∷ D) free l =
    elim (bool_tells (same_vector leaf.beta P)) [
      | inl t ↦ let rest = rest_long P leaf.beta D t free.0 in ap (λ W. length (W ++ flat_map (leaf_split P) (betas_of D))) (own_split P leaf.beta t) ∙ (omega arith)
      | inr f ↦
          let behind : place_in P (leaf ∷ D) ≡ place_in P D + 1 = ap (λ b. if b then 0 else place_in P D + 1) f in
          let more = split_long P D free.1 (omega arith) in
          ap (λ W. length (W ++ flat_map (leaf_split P) (betas_of D))) (other_split P leaf.beta f) ∙ (omega arith)
    ]

pub long_split : (P : List ℕ) (D E : Draft) (W : List (List ℕ)) (xs ns : List ℤ) (c : ℤ) (x : Leaf) → IsTree (betas_of D) → is_leaf P (betas_of D) ≡ true → no_statement P (betas_of D) ≡ false
    → leaf_answer P (betas_of D) ≡ Ok W → E ≡ split_at (place_in P D) xs ns c x D → length W ≡ length E
long_split P D E W xs ns c x tree leaf some answer made =
    let within = place_among P D (leaf_in P (betas_of D) leaf) in
    let vectors : W ≡ flat_map (leaf_split P) (betas_of D) = ok_is (flat_map (leaf_split P) (betas_of D)) W (sym (leaf_answer_is P (betas_of D) some leaf) ∙ answer) in
    let same : length (set D (place_in P D) (first_half xs ns c x)) ≡ length D = length-set D (place_in P D) (first_half xs ns c x) in
    let longer : length (split_at (place_in P D) xs ns c x D) ≡ length (set D (place_in P D) (first_half xs ns c x)) + 1 =
    length-insert (set D (place_in P D) (first_half xs ns c x)) (place_in P D + 1) (second_half xs ns c x) (omega arith) in
    ap length vectors ∙ split_long P D tree.free within ∙ sym (ap length made ∙ longer ∙ ap (λ n. n + 1) same)

-- the step
pub split_stepped : (parameters i : ℕ) (command : Command) (xs ns : List ℤ) (c : ℤ) (P : List ℕ) (D E F : Draft) (W : List (List ℕ)) (d : Leaf) → IsSplitBy command xs ns c → P ≡ prefix_in command
    → condition_under parameters i command P D ≡ None → limit_of i command D ≡ None → IsSound parameters D → IsTree (betas_of D) → no_statement P (betas_of D) ≡ false
    → unsigned_abs c + 1 < 2 ^ 127 → E ≡ split_at (place_in P D) xs ns c (get_or D (place_in P D) d) D → leaf_answer P (betas_of D) ≡ Ok W → F ≡ joined W E
    → length W ≡ length E → IsStep parameters i command D F W
split_stepped parameters i command xs ns c P D E F W d is e con lim sound tree some light split answer join long =
    let facts = split_facts parameters i command xs ns c P D is con lim sound in
    let (p, form) = split_form command xs ns c is in
    let own : P ≡ map natural p = e ∙ ap prefix_in form in
    let vectors : W ≡ flat_map (leaf_split P) (betas_of D) = ok_is (flat_map (leaf_split P) (betas_of D)) W (sym (leaf_answer_is P (betas_of D) some facts.leaf) ∙ answer) in
    let within : place_in (map natural p) D < length D = subst (λ Q. place_in Q D < length D) own facts.within in
    let made : F ≡ draft_after (Iss p xs ns c) D =
    join ∙ ap (λ U. joined U E) vectors ∙ ap (λ t. joined (flat_map (leaf_split P) (betas_of D)) t) split
    ∙ ap (λ Q. joined (flat_map (leaf_split Q) (betas_of D)) (split_at (place_in Q D) xs ns c (get_or D (place_in Q D) d) D)) own
    ∙ halves_joined p xs ns c (betas_of D) D d tree.free within in
    record {
      unrefused = unrefused_command parameters i command (prefix_in command) D (subst (λ Q. condition_under parameters i command Q D ≡ None) e con) lim refl
          (split_light command xs ns c (prefix_in command) D is light);
      draft = made ∙ sym (ap (λ t. draft_after t D) form);
      vectors = sym (ap betas_of join ∙ joined_betas W E long);
    }
