-- Runs of two SCoPs whose instances a map joins.
use Rattle.std.proofs.Common.{◌≡◌, ◌⊎◌, inl, inr, List, [], ◌∷◌, map, ℤ, refl, sym, ◌∙◌, ap, subst}
use Rattle.scop_data.specs.ScopData.{ScopData}
use Rattle.scop_data.specs.Order.{Before}
use Rattle.scop_data.specs.Sequences.{In, Precedes}
use Rattle.scop_data.specs.Meaning.{Instance, IsInstance, stamp, Touch, Conflict, Run}
use Rattle.scop_data.specs.Theorems.{KeepsConflicts}
use Rattle.scop_data.proofs.Orders.{before_irreflexive, two_members, precedes_is_before, rising_is_distinct}
use Rattle.scop_data.proofs.RunLaws.{kept_conflicts}
use Rattle.scop_data.proofs.RunOrders.{run_exists, same_events_give_one_memory, same_events_touch}
use Rattle.scop_data.proofs.MappedLists.{in_map, Source, from_in_map, precedes_map, distinct_map}
use Rattle.scop_data.specs.MappedRuns.{MapsInstances, IsReversed, MappedRunExists, NothingReversedKeepsMemory}

-- instances of T whose images are the members of L
record Sources (T : ScopData) (n : List ℤ) (f : Instance → Instance) (L : List Instance) : Type 0 where
  list : List Instance
  instances : (a : Instance) → In a list → IsInstance T n a
  covers : (b : Instance) → In b L → Source Instance Instance f list b

-- one instance more
source_first : (T : ScopData) (n : List ℤ) (f : Instance → Instance) (b : Instance) (L : List Instance) (a : Instance) → IsInstance T n a → f a ≡ b → Sources T n f L → Sources T n f (b ∷ L)
source_first T n f b L a i e s = record { list = a ∷ s.list; instances = instances; covers = covers }
  where
    instances : (c : Instance) → In c (a ∷ s.list) → IsInstance T n c
    instances c (inl g) = subst (λ w. IsInstance T n w) g i
    instances c (inr j) = s.instances c j

    later : (d : Instance) → Source Instance Instance f s.list d → Source Instance Instance f (a ∷ s.list) d
    later d w = record { at = w.at; among = inr w.among; image_is = w.image_is }

    covers : (d : Instance) → In d (b ∷ L) → Source Instance Instance f (a ∷ s.list) d
    covers d (inl g) = record { at = a; among = inl refl; image_is = e ∙ g }
    covers d (inr j) = later d (s.covers d j)

sources : (T S : ScopData) (n : List ℤ) (f : Instance → Instance) → MapsInstances T S n f → (L : List Instance) → ((b : Instance) → In b L → IsInstance S n b) → Sources T n f L
sources T S n f maps [] only = record { list = []; instances = λ a i. absurd i; covers = λ b i. absurd i }
sources T S n f maps (b ∷ L) only =
    let a = maps.onto b (only b (inl refl)) in source_first T n f b L a.0 a.1 a.2 (sources T S n f maps L (λ c i. only c (inr i)))

pub mapped_run_exists : MappedRunExists
mapped_run_exists T S n f L maps r v free = run (sources T S n f maps L r.only)
  where
    found : (s : Sources T n f L) (a : Instance) → IsInstance T n a → Source Instance Instance f s.list (f a) → In a s.list
    found s a h w = subst (λ c. In c s.list) (maps.once w.at a (s.instances w.at w.among) h w.image_is) w.among

    run : Sources T n f L → (M : List Instance) × Run T n M
    run s = run_exists T v n s.list (record { all = λ a h. found s a h (s.covers (f a) (r.all (f a) (maps.into a h))); only = s.instances }) free

-- two instances of T whose images are a conflict stand in the run of T in this order
kept : (T S : ScopData) (n : List ℤ) (f : Instance → Instance) (M : List Instance) → MapsInstances T S n f → Run T n M → ((a b : Instance) → ¬ IsReversed T S n f a b)
    → (a b : Instance) → IsInstance T n a → IsInstance T n b → Touch S n (f a) (f b) → Before (stamp S n (f a)) (stamp S n (f b)) → Precedes M a b
kept T S n f M maps r none a b i j t h = by (two_members M a b (r.all a i) (r.all b j))
  where
    touch : Touch T n a b
    touch = (same_events_touch T S n a b (f a) (f b) (maps.events a i) (maps.events b j)).1 t

    by : (a ≡ b) ⊎ (Precedes M a b ⊎ Precedes M b a) → Precedes M a b
    by (inl e) = absurd (before_irreflexive (stamp S n (f b)) (subst (λ w. Before (stamp S n (f w)) (stamp S n (f b))) e h))
    by (inr (inl p)) = p
    by (inr (inr p)) =
        absurd (none a b (record { source = i; target = j; touch = touch; before = h; after = precedes_is_before (stamp T n) M r.rising b a p }))

keeps : (T S : ScopData) (n : List ℤ) (f : Instance → Instance) (L M : List Instance) → MapsInstances T S n f → Run S n L → Run T n M → ((a b : Instance) → ¬ IsReversed T S n f a b)
    → KeepsConflicts S n L (map f M)
keeps T S n f L M maps r t none = record {
  once = distinct_map f M (λ a b i j e. maps.once a b (t.only a i) (t.only b j) e) (rising_is_distinct (stamp T n) M t.rising);
  into = into;
  back = λ b i. back b (from_in_map f M b i);
  order = order;
}
  where
    into : (b : Instance) → In b L → In b (map f M)
    into b i = let a = maps.onto b (r.only b i) in subst (λ w. In w (map f M)) a.2 (in_map f a.0 M (t.all a.0 a.1))

    back : (b : Instance) → Source Instance Instance f M b → In b L
    back b s = r.all b (subst (λ w. IsInstance S n w) s.image_is (maps.into s.at (t.only s.at s.among)))

    at : (a b c d : Instance) → IsInstance T n a → IsInstance T n b → f a ≡ c → f b ≡ d → Conflict S n c d → Precedes (map f M) c d
    at a b c d i j e g k =
        let k' : Conflict S n (f a) (f b) = subst (λ w. Conflict S n w (f b)) (sym e) (subst (λ w. Conflict S n c w) (sym g) k) in
        subst (λ w. Precedes (map f M) c w) g (subst (λ w. Precedes (map f M) w (f b)) e (precedes_map f M a b (kept T S n f M maps t none a b i j k'.touch k'.order)))

    order : (c d : Instance) → Conflict S n c d → Precedes (map f M) c d
    order c d k = let a = maps.onto c k.source in let b = maps.onto d k.target in at a.0 b.0 c d a.1 b.1 a.2 b.2 k

pub nothing_reversed_keeps_memory : NothingReversedKeepsMemory
nothing_reversed_keeps_memory T S n f L M maps r t none m c =
    kept_conflicts S n L (map f M) r (keeps T S n f L M maps r t none) m c
    ∙ ap (λ w. w c) (sym (same_events_give_one_memory T S n f M (λ a i. maps.events a (t.only a i)) m))
