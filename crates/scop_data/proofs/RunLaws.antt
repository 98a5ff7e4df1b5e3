-- The laws of runs, from the lemmas on sequences and events.
use Rattle.std.proofs.Common.{◌≡◌, ◌⊎◌, inl, inr, List, [], ◌∷◌, ℤ, sym, ap, subst}
use Rattle.scop_data.specs.ScopData.{ScopData}
use Rattle.scop_data.specs.Order.{Before}
use Rattle.scop_data.specs.Sequences.{In, Precedes, Distinct}
use Rattle.scop_data.specs.Meaning.{Instance, IsInstance, event, stamp, step, Touch, Conflict, Run}
use Rattle.scop_data.specs.Theorems.{RunIsUnique, StepsCommute, ReorderingKeepsMemory, RunHasNoTies, KeepsConflicts, KeptConflictsKeepMemory}
use Rattle.scop_data.proofs.Orders.{one_run, before_irreflexive, two_members, precedes_is_before, rising_is_distinct}
use Rattle.scop_data.proofs.Memories.{steps_commute, touch_back}
use Rattle.scop_data.proofs.Reordering.{reordered, precedes_begins_in, precedes_ends_in}

pub run_unique : RunIsUnique
run_unique S n L M l m = one_run (IsInstance S n) (stamp S n) L M l m

pub commute : StepsCommute
commute S n a b apart m c = ap (λ k. k c) (steps_commute (event S n a) (event S n b) apart m)

pub reordering : ReorderingKeepsMemory
reordering S n L M same m c =
    ap (λ k. k c) (reordered (Touch S n) (step S n) (λ a b apart k. steps_commute (event S n a) (event S n b) apart k) L M same.once_left same.once_right same.into same.back same.kept_back m)

pub no_ties : RunHasNoTies
no_ties S n L r a b ia ib e = by (two_members L a b (r.all a ia) (r.all b ib))
  where
    no_order : (c d : Instance) → stamp S n c ≡ stamp S n d → ¬ Precedes L c d
    no_order c d f p = before_irreflexive (stamp S n d) (subst (λ w. Before w (stamp S n d)) f (precedes_is_before (stamp S n) L r.rising c d p))

    by : (a ≡ b) ⊎ (Precedes L a b ⊎ Precedes L b a) → a ≡ b
    by (inl f) = f
    by (inr (inl p)) = absurd (no_order a b e p)
    by (inr (inr p)) = absurd (no_order b a (sym e) p)

-- a list in which no member comes twice has one order
one_order : {X : Type 0} (M : List X) → Distinct M → (a b : X) → Precedes M a b → ¬ Precedes M b a
one_order [] d a b p q = absurd p
one_order (x ∷ xs) d a b (inl p) (inl q) = d.0 (subst (λ w. In w xs) (sym q.0) p.1)
one_order (x ∷ xs) d a b (inl p) (inr q) = d.0 (subst (λ w. In w xs) (sym p.0) (precedes_ends_in xs b a q))
one_order (x ∷ xs) d a b (inr p) (inl q) = d.0 (subst (λ w. In w xs) (sym q.0) (precedes_ends_in xs a b p))
one_order (x ∷ xs) d a b (inr p) (inr q) = one_order xs d.1 a b p q

conflict_of : (S : ScopData) (n : List ℤ) (L : List Instance) → Run S n L → (a b : Instance) → Touch S n a b → Precedes L a b → Conflict S n a b
conflict_of S n L r a b t p = record {
  source = r.only a (precedes_begins_in L a b p);
  target = r.only b (precedes_ends_in L a b p);
  touch = t;
  order = precedes_is_before (stamp S n) L r.rising a b p;
}

kept_order : (S : ScopData) (n : List ℤ) (L M : List Instance) → Run S n L → KeepsConflicts S n L M → (a b : Instance) → Touch S n a b → Precedes M a b → Precedes L a b
kept_order S n L M r k a b t p =
    by (two_members L a b (k.back a (precedes_begins_in M a b p)) (k.back b (precedes_ends_in M a b p)))
  where
    by : (a ≡ b) ⊎ (Precedes L a b ⊎ Precedes L b a) → Precedes L a b
    by (inl e) = absurd (one_order M k.once a b p (subst (λ w. Precedes M b w) (sym e) (subst (λ w. Precedes M w b) e p)))
    by (inr (inl q)) = q
    by (inr (inr q)) = absurd (one_order M k.once a b p (k.order b a (conflict_of S n L r b a (touch_back (event S n a) (event S n b) t) q)))

pub kept_conflicts : KeptConflictsKeepMemory
kept_conflicts S n L M r k m c =
    ap (λ w. w c) (reordered (Touch S n) (step S n) (λ a b apart w. steps_commute (event S n a) (event S n b) apart w) L M
    (rising_is_distinct (stamp S n) L r.rising) k.once k.into k.back (kept_order S n L M r k) m)
