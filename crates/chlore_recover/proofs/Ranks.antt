-- The statements' ranks in beta order are a permutation of their places, and so is the order of a reorder.
use Rattle.std.proofs.Common.{◌≡◌, ℕ, zero, suc, ◌+◌, ◌-◌, ◌<◌, true, false, if◌then◌else◌, ◌⊎◌, inl, inr, List, [], ◌∷◌, length, map, refl, sym, ◌∙◌, ap, subst, arith}
use Rattle.std.proofs.Math.Dec.{eqb}
use Rattle.std.proofs.lemmas.Bool.{eqb-true}
use Rattle.std.proofs.lemmas.List.{length-map}
use Rattle.beta_tree.specs.Vectors.{In}
use Rattle.beta_tree.specs.Edits.{place_of, is_permutation_of}
use Rattle.beta_tree.proofs.Distinct.{member_from_In}
use Rattle.beta_tree.proofs.Places.{same_yes, In-map}
use Rattle.beta_tree.proofs.Orders.{Orders, entry_at, entry_below, place_of_entry}
use Rattle.beta_trails.specs.Trails.{zeros, ranked}
use Rattle.beta_trails.specs.Laws.{placed_from}
use Rattle.chlore_recover.specs.Strategy.{Placed, is_before, put_in_order, ordered_from, order_for}
use Rattle.chlore_recover.proofs.Factors.{has_all_from}
use Rattle.chlore_recover.proofs.Stands.{Stands, stands_below, some_stands, stands_map, stands_entry}

-- permutations

pub permutation_of_orders : (n : ℕ) (order : List ℕ) → Orders n order → is_permutation_of n order ≡ true
permutation_of_orders n order o =
    rw (o.long, same_yes n) (has_all_from n order (λ k l. member_from_In eqb eqb-true same_yes k order (o.all k l)))

-- a number stands at its place alone
pub place_is : (n : ℕ) (ks : List ℕ) (q k : ℕ) → Orders n ks → Stands q k ks → place_of k ks ≡ q
place_is n ks q k o h =
    let below : q < n = let l = stands_below q k ks h in let e = o.long in omega arith in
    subst (λ z. place_of z ks ≡ q) (stands_entry q k ks h) (place_of_entry n ks o q below)

-- each statement once

put_there : (e : Placed) (fs : List Placed) (g : Placed) → In g (put_in_order e fs) → (e ≡ g) ⊎ In g fs
put_there e [] g i = i
put_there e (f ∷ fs) g i =
    elim (is_before e.1 f.1) as (λ b. In g (if b then e ∷ (f ∷ fs) else f ∷ put_in_order e fs) → (e ≡ g) ⊎ In g (f ∷ fs)) [
      | true ↦ λ j. j
      | false ↦ λ j. elim j [ inl same ↦ inr (inl same) | inr k ↦ elim (put_there e fs g k) [ inl same ↦ inl same | inr l ↦ inr (inr l) ] ]
    ] i

put_here : (e : Placed) (fs : List Placed) (g : Placed) → (e ≡ g) ⊎ In g fs → In g (put_in_order e fs)
put_here e [] g i = i
put_here e (f ∷ fs) g i =
    elim (is_before e.1 f.1) as (λ b. In g (if b then e ∷ (f ∷ fs) else f ∷ put_in_order e fs)) [
      | true ↦ i
      | false ↦ elim i [ inl same ↦ inr (put_here e fs g (inl same)) | inr (inl same) ↦ inl same | inr (inr l) ↦ inr (put_here e fs g (inr l)) ]
    ]

put_count : (e : Placed) (fs : List Placed) → length (put_in_order e fs) ≡ suc (length fs)
put_count e [] = refl
put_count e (f ∷ fs) =
    elim (is_before e.1 f.1) as (λ b. length (if b then e ∷ (f ∷ fs) else f ∷ put_in_order e fs) ≡ suc (suc (length fs))) [
      | true ↦ refl
      | false ↦ ap suc (put_count e fs)
    ]

pub ordered_count : (k : ℕ) (V : List (List ℕ)) → length (ordered_from k V) ≡ length V
ordered_count k [] = refl
ordered_count k (v ∷ V) = put_count (k, v) (ordered_from (k + 1) V) ∙ ap suc (ordered_count (k + 1) V)

-- the statement at place k + i among those from k on
pub ordered_has : (k : ℕ) (V : List (List ℕ)) (i j : ℕ) (v : List ℕ) → j ≡ k + i → Stands i v V → In (j, v) (ordered_from k V)
ordered_has k [] i j v e h = absurd h
ordered_has k (u ∷ V) zero j v e h =
    let same : k ≡ j = omega arith in
    put_here (k, u) (ordered_from (k + 1) V) (j, v) (inl (ap (λ z. (z, u)) same ∙ ap (λ z. (j, z)) h))
ordered_has k (u ∷ V) (suc i) j v e h =
    put_here (k, u) (ordered_from (k + 1) V) (j, v) (inr (ordered_has (k + 1) V i j v (omega arith) h))

-- where a statement in beta order stands among those from k on
pub record StandsFrom (k : ℕ) (V : List (List ℕ)) (e : Placed) : Type 0 where
  pub place : ℕ
  pub is : e.0 ≡ k + place
  pub stands : Stands place e.1 V

pub ordered_of : (k : ℕ) (V : List (List ℕ)) (e : Placed) → In e (ordered_from k V) → StandsFrom k V e
ordered_of k [] e i = absurd i
ordered_of k (v ∷ V) e i =
    elim (put_there (k, v) (ordered_from (k + 1) V) e i) [
      | inl same ↦ record {
        place = 0;
        is = let f : k ≡ e.0 = ap (λ z. z.0) same in omega arith;
        stands = ap (λ z. z.1) same;
      }
      | inr j ↦
          let more = ordered_of (k + 1) V e j in
          record { place = suc more.place; is = let f = more.is in omega arith; stands = more.stands }
    ]

-- the places of statements in beta order
abbrev pub places_of : List Placed → List ℕ
places_of placed = map (λ e. e.0) placed

pub places_order : (V : List (List ℕ)) → Orders (length V) (places_of (ordered_from 0 V))
places_order V = record {
  long = length-map (ordered_from 0 V) (λ e. e.0) ∙ ordered_count 0 V;
  all = λ k l. let (v, h) = some_stands k V l in In-map (λ e. e.0) (k, v) (ordered_from 0 V) (ordered_has 0 V k k v (omega arith) h);
}

-- the order of a reorder lists ranks, each once
pub order_orders : (V W : List (List ℕ)) → length V ≡ length W → Orders (length V) (order_for (ordered_from 0 V) (ordered_from 0 W))
order_orders V W long =
    let ks : List ℕ = places_of (ordered_from 0 V) in
    let o : Orders (length V) ks = places_order V in
    record {
      long = length-map (ordered_from 0 W) (λ e. place_of e.0 ks) ∙ (ordered_count 0 W ∙ sym long);
      all = λ r l.
          let k : ℕ = entry_at ks r in
          let below : k < length W = let b = entry_below (length V) ks o r l in omega arith in
          let (w, h) = some_stands k W below in
          let at : In (place_of k ks) (order_for (ordered_from 0 V) (ordered_from 0 W)) = In-map (λ e. place_of e.0 ks) (k, w) (ordered_from 0 W) (ordered_has 0 W k k w (omega arith) h) in
          subst (λ z. In z (order_for (ordered_from 0 V) (ordered_from 0 W))) (place_of_entry (length V) ks o r l) at;
    }

-- a statement that is q-th in the one SCoP and j-th in the other: q stands at place j of the order
pub order_at : (V W : List (List ℕ)) (k q j : ℕ) (v w : List ℕ) → length V ≡ length W → Stands q (k, v) (ordered_from 0 V) → Stands j (k, w) (ordered_from 0 W)
    → place_of q (order_for (ordered_from 0 V) (ordered_from 0 W)) ≡ j
order_at V W k q j v w long h g =
    let ks : List ℕ = places_of (ordered_from 0 V) in
    let is : place_of k ks ≡ q = place_is (length V) ks q k (places_order V) (stands_map (λ e. e.0) q (k, v) (ordered_from 0 V) h) in
    let at : Stands j (place_of k ks) (order_for (ordered_from 0 V) (ordered_from 0 W)) = stands_map (λ e. place_of e.0 ks) j (k, w) (ordered_from 0 W) g in
    place_is (length V) (order_for (ordered_from 0 V) (ordered_from 0 W)) j q (order_orders V W long)
    (subst (λ z. Stands j z (order_for (ordered_from 0 V) (ordered_from 0 W))) is at)

-- vectors by their ranks

pub ranked_at : (r i n : ℕ) (v : List ℕ) (X : List (List ℕ)) → n ≡ r + i → Stands i v X → Stands i (n ∷ zeros (length v - 1)) (ranked r (map length X))
ranked_at r i n v [] e h = absurd h
ranked_at r zero n v (x ∷ X) e h =
    let same : r ≡ n = omega arith in
    ap (λ z. z ∷ zeros (length x - 1)) same ∙ ap (λ z. n ∷ zeros (length z - 1)) h
ranked_at r (suc i) n v (x ∷ X) e h = ranked_at (r + 1) i n v X (omega arith) h

pub placed_at : (r i n : ℕ) (order v : List ℕ) (X : List (List ℕ)) → n ≡ r + i → Stands i v X → Stands i (place_of n order ∷ zeros (length v - 1)) (placed_from r order (map length X))
placed_at r i n order v [] e h = absurd h
placed_at r zero n order v (x ∷ X) e h =
    let same : r ≡ n = omega arith in
    ap (λ z. place_of z order ∷ zeros (length x - 1)) same ∙ ap (λ z. place_of n order ∷ zeros (length z - 1)) h
placed_at r (suc i) n order v (x ∷ X) e h = placed_at (r + 1) i n order v X (omega arith) h
