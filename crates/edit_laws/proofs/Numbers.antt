-- The number of a statement after another one was split in two.
use Rattle.std.proofs.Common.{◌≡◌, inl, inr, ℕ, zero, suc, ◌+◌, ◌<◌, ◌≤◌, ◌==◌, Bool, true, false, if◌then◌else◌, Option, Some, List, [], ◌∷◌, ◌++◌, map, ℤ, neg_ℤ, negsuc, ◌+ℤ◌, refl, ap, sym, subst, ◌∙◌, arith}
use Rattle.std.specs.Prelude.{nat_lt}
use Rattle.std.specs.List.{flat_map}
use Rattle.std.proofs.lemmas.Bool.{ltb-true, ltb-false}
use Rattle.beta_tree.specs.Vectors.{ApartFromAll, PrefixFree}
use Rattle.beta_tree.specs.Edits.{same_vector, next_sibling}
use Rattle.beta_tree.proofs.Places.{bool_tells, same_yes, same_no}
use Rattle.beta_tree.proofs.Leaves.{same_vector_yes}
use Rattle.dependence_systems.specs.Sides.{member}
use Rattle.clay_script.specs.declared.commands.Command.TheVariants.{Iss}
use Rattle.clay_commands.specs.declared.leaves.Leaf.{Leaf}
use Rattle.clay_commands.specs.Arguments.{natural}
use Rattle.clay_commands.specs.Drafts.{Draft, betas_of, restricted, with_beta, halves, leaf_after}
use Rattle.clay_commands.specs.Spots.{number_of, number_after}
use Rattle.clay_commands.proofs.Halves.{not_same, room}
use Rattle.edit_laws.proofs.Instances.{same_some}

number_before : (i k : ℕ) (b : Bool) → k < i → number_after i b k ≡ k
number_before i k b l =
    elim (bool_tells (nat_lt k i)) [
      | inl t ↦ ap (λ u. if u then k else (if k == i then (if b then k else k + 1) else k + 1)) t
      | inr f ↦ let h = ltb-false k i f in absurd (omega (arith, h, l))
    ]

not_before : (i k : ℕ) (b : Bool) → i ≤ k → number_after i b k ≡ (if k == i then (if b then k else k + 1) else k + 1)
not_before i k b l =
    elim (bool_tells (nat_lt k i)) [
      | inl t ↦ let h = ltb-true k i t in absurd (omega (arith, h, l))
      | inr f ↦ ap (λ u. if u then k else (if k == i then (if b then k else k + 1) else k + 1)) f
    ]

number_behind : (i k : ℕ) (b : Bool) → i < k → number_after i b k ≡ k + 1
number_behind i k b l =
    not_before i k b (omega (arith, l)) ∙ ap (λ u. if u then (if b then k else k + 1) else k + 1) (same_no k i (λ e. omega (arith, e, l)))

number_own : (i : ℕ) (b : Bool) → number_after i b i ≡ (if b then i else i + 1)
number_own i b = not_before i i b (omega arith) ∙ ap (λ u. if u then (if b then i else i + 1) else i + 1) (same_yes i)

-- less, equal or greater
data Ordered (k i : ℕ) : Type 0 where
  Less : k < i → Ordered k i
  Same : k ≡ i → Ordered k i
  More : i < k → Ordered k i

ordered : (k i : ℕ) → Ordered k i
ordered k i =
    elim (bool_tells (nat_lt k i)) as (λ _. Ordered k i) [
      | inl t ↦ Less (ltb-true k i t)
      | inr f ↦
          elim (bool_tells (nat_lt i k)) as (λ _. Ordered k i) [
            | inl t ↦ More (ltb-true i k t)
            | inr g ↦ let a = ltb-false k i f in let c = ltb-false i k g in Same (omega (arith, a, c))
          ]
    ]

number_shift : (i k : ℕ) (b : Bool) → number_after (i + 1) b (suc k) ≡ suc (number_after i b k)
number_shift i k b = by b (ordered k i)
  where
    by : (b : Bool) → Ordered k i → number_after (i + 1) b (suc k) ≡ suc (number_after i b k)
    by b (Less l) = number_before (i + 1) (suc k) b (omega (arith, l)) ∙ ap suc (sym (number_before i k b l))
    by b (More l) = number_behind (i + 1) (suc k) b (omega (arith, l)) ∙ (omega arith) ∙ ap suc (sym (number_behind i k b l))
    by true (Same e) =
        let own : suc k ≡ i + 1 = omega (arith, e) in
        ap (λ m. number_after (i + 1) true m) own ∙ number_own (i + 1) true ∙ (omega arith) ∙ ap suc (sym (ap (λ m. number_after i true m) e ∙ number_own i true))
    by false (Same e) =
        let own : suc k ≡ i + 1 = omega (arith, e) in
        ap (λ m. number_after (i + 1) false m) own ∙ number_own (i + 1) false ∙ (omega arith) ∙ ap suc (sym (ap (λ m. number_after i false m) e ∙ number_own i false))

number_some : (i k : ℕ) (b : Bool) → 1 ≤ k → 1 ≤ number_after i b k
number_some i k b l = by b (ordered k i)
  where
    by : (b : Bool) → Ordered k i → 1 ≤ number_after i b k
    by b (Less h) = let e = number_before i k b h in omega (arith, e, l)
    by b (More h) = let e = number_behind i k b h in omega (arith, e, l)
    by true (Same h) = let e = ap (λ m. number_after i true m) h ∙ number_own i true in omega (arith, e, l, h)
    by false (Same h) = let e = ap (λ m. number_after i false m) h ∙ number_own i false in omega (arith, e, l, h)

of_some : (P : List ℕ) (V : List (List ℕ)) → 1 ≤ number_of P V
of_some P [] = omega arith
of_some P (v ∷ V) = let h = of_some P V in elim (same_vector v P) as (λ b. 1 ≤ (if b then 1 else number_of P V + 1)) [ true ↦ omega arith | false ↦ omega (arith, h) ]

member_behind : (a : Leaf) (D : Draft) (m : ℕ) → 1 ≤ m → member (a ∷ D) (suc m) ≡ member D m
member_behind a D zero l = absurd (omega (arith, l))
member_behind a D (suc m) l = refl

-- what a leaf becomes
abbrev pub half_of : List ℕ → List ℤ → List ℤ → ℤ → Bool → Leaf → Leaf
half_of P xs ns c b leaf =
    if b then record leaf { statement = restricted xs ns c leaf.statement }
    else record leaf { beta = next_sibling P; statement = restricted (map neg_ℤ xs) (map neg_ℤ ns) (neg_ℤ c +ℤ negsuc 0) leaf.statement }

abbrev pub part_of : List ℕ → List ℤ → List ℤ → ℤ → Bool → Bool → Leaf → Leaf
part_of P xs ns c own b leaf = if own then half_of P xs ns c b leaf else with_beta (room P leaf.beta) leaf

abbrev pub split_part : List ℕ → List ℤ → List ℤ → ℤ → Bool → Leaf → Leaf
split_part P xs ns c b leaf = part_of P xs ns c (same_vector leaf.beta P) b leaf

abbrev leaves_of : List ℕ → List ℤ → List ℤ → ℤ → Bool → Leaf → List Leaf
leaves_of P xs ns c own leaf = if own then halves P xs ns c leaf else with_beta (room P leaf.beta) leaf ∷ []

-- the first leaf, or one behind it
front_member : (first d : Leaf) (D rest : Draft) (m : ℕ) (leaf : Leaf) (goal : Option Leaf) → (d ≡ leaf → Some first ≡ goal)
    → ((k : ℕ) → member D (suc k) ≡ Some leaf → member rest (suc k) ≡ goal) → member (d ∷ D) (suc m) ≡ Some leaf → member (first ∷ rest) (suc m) ≡ goal
front_member first d D rest zero leaf goal own again e = own (same_some d leaf e)
front_member first d D rest (suc k) leaf goal own again e = again k e

-- no leaf is P
lacking : (p xs ns : List ℤ) (c : ℤ) (V : List (List ℕ)) (u : List ℕ) (D : Draft) (m : ℕ) (leaf : Leaf) (b : Bool) → same_vector u (map natural p) ≡ true → ApartFromAll u (betas_of D)
    → member D m ≡ Some leaf → member (flat_map (leaf_after (Iss p xs ns c) V) D) m ≡ Some (split_part (map natural p) xs ns c b leaf)
lacking p xs ns c V u [] zero leaf b s a e = absurd (cc)
lacking p xs ns c V u [] (suc m) leaf b s a e = absurd (cc)
lacking p xs ns c V u (d ∷ D) zero leaf b s a e = absurd (cc)
lacking p xs ns c V u (d ∷ D) (suc m) leaf b s a e =
    let P = map natural p in
    let rest = flat_map (leaf_after (Iss p xs ns c) V) D in
    let other : same_vector d.beta P ≡ false = subst (λ w. same_vector d.beta w ≡ false) (same_vector_yes u P s) (not_same u d.beta a.0) in
    let front : flat_map (leaf_after (Iss p xs ns c) V) (d ∷ D) ≡ with_beta (room P d.beta) d ∷ rest = ap (λ t. leaves_of P xs ns c t d ++ rest) other in
    ap (λ L. member L (suc m)) front
    ∙ front_member (with_beta (room P d.beta) d) d D rest m leaf (Some (split_part P xs ns c b leaf))
    (λ q. ap (λ t. Some (part_of P xs ns c t b d)) (sym other) ∙ ap (λ z. Some (split_part P xs ns c b z)) q)
    (λ k f. lacking p xs ns c V u D (suc k) leaf b s a.1 f) e

-- the leaf that is P comes first

first_of : List ℤ → List ℤ → ℤ → Leaf → Leaf
first_of xs ns c d = record d { statement = restricted xs ns c d.statement }

second_of : List ℕ → List ℤ → List ℤ → ℤ → Leaf → Leaf
second_of P xs ns c d = record d { beta = next_sibling P; statement = restricted (map neg_ℤ xs) (map neg_ℤ ns) (neg_ℤ c +ℤ negsuc 0) d.statement }

own_member : (P : List ℕ) (xs ns : List ℤ) (c : ℤ) (d : Leaf) (D rest : Draft) (m : ℕ) (leaf : Leaf) (b : Bool) → same_vector d.beta P ≡ true
    → ((k : ℕ) → member D (suc k) ≡ Some leaf → member rest (suc k) ≡ Some (split_part P xs ns c b leaf)) → member (d ∷ D) (suc m) ≡ Some leaf
    → member (first_of xs ns c d ∷ (second_of P xs ns c d ∷ rest)) (number_after 1 b (suc m)) ≡ Some (split_part P xs ns c b leaf)
unfolding first_of second_of
own_member P xs ns c d D rest zero leaf true t again e = ap (λ u. Some (part_of P xs ns c u true d)) (sym t) ∙ ap (λ z. Some (split_part P xs ns c true z)) (same_some d leaf e)
own_member P xs ns c d D rest zero leaf false t again e = ap (λ u. Some (part_of P xs ns c u false d)) (sym t) ∙ ap (λ z. Some (split_part P xs ns c false z)) (same_some d leaf e)
own_member P xs ns c d D rest (suc m) leaf b t again e =
    let n : number_after 1 b (suc (suc m)) ≡ suc (suc (suc m)) = number_behind 1 (suc (suc m)) b (omega arith) ∙ (omega arith) in
    ap (λ k. member (first_of xs ns c d ∷ (second_of P xs ns c d ∷ rest)) k) n ∙ again m e

-- it comes later

other_member : (P : List ℕ) (xs ns : List ℤ) (c : ℤ) (d : Leaf) (D rest : Draft) (i m : ℕ) (leaf : Leaf) (b : Bool) → same_vector d.beta P ≡ false → 1 ≤ i
    → ((k : ℕ) → member D (suc k) ≡ Some leaf → member rest (number_after i b (suc k)) ≡ Some (split_part P xs ns c b leaf)) → member (d ∷ D) (suc m) ≡ Some leaf
    → member (with_beta (room P d.beta) d ∷ rest) (number_after (i + 1) b (suc m)) ≡ Some (split_part P xs ns c b leaf)
other_member P xs ns c d D rest i zero leaf b f l again e =
    let n : number_after (i + 1) b 1 ≡ 1 = number_before (i + 1) 1 b (omega (arith, l)) in
    ap (λ k. member (with_beta (room P d.beta) d ∷ rest) k) n ∙ ap (λ u. Some (part_of P xs ns c u b d)) (sym f) ∙ ap (λ z. Some (split_part P xs ns c b z)) (same_some d leaf e)
other_member P xs ns c d D rest i (suc m) leaf b f l again e =
    ap (λ k. member (with_beta (room P d.beta) d ∷ rest) k) (number_shift i (suc m) b)
    ∙ member_behind (with_beta (room P d.beta) d) rest (number_after i b (suc m)) (number_some i (suc m) b (omega arith)) ∙ again m e

-- a leaf and its part after a split, by their numbers
pub split_member : (p xs ns : List ℤ) (c : ℤ) (V : List (List ℕ)) (D : Draft) (m : ℕ) (leaf : Leaf) (b : Bool) → PrefixFree (betas_of D) → member D m ≡ Some leaf
    → member (flat_map (leaf_after (Iss p xs ns c) V) D) (number_after (number_of (map natural p) (betas_of D)) b m) ≡ Some (split_part (map natural p) xs ns c b leaf)
unfolding first_of second_of
split_member p xs ns c V [] zero leaf b free e = absurd (cc)
split_member p xs ns c V [] (suc m) leaf b free e = absurd (cc)
split_member p xs ns c V (d ∷ D) zero leaf b free e = absurd (cc)
split_member p xs ns c V (d ∷ D) (suc m) leaf b free e =
    let P = map natural p in
    let rest = flat_map (leaf_after (Iss p xs ns c) V) D in
    let i = number_of P (betas_of D) in
    elim (bool_tells (same_vector d.beta P)) as (λ _. member (flat_map (leaf_after (Iss p xs ns c) V) (d ∷ D)) (number_after (number_of P (betas_of (d ∷ D))) b (suc m)) ≡ Some (split_part P xs ns c b leaf)) [
      | inl t ↦
          ap (λ u. member (leaves_of P xs ns c u d ++ rest) (number_after (if u then 1 else i + 1) b (suc m))) t
          ∙ own_member P xs ns c d D rest m leaf b t (λ k g. lacking p xs ns c V d.beta D (suc k) leaf b t free.0 g) e
      | inr f ↦
          ap (λ u. member (leaves_of P xs ns c u d ++ rest) (number_after (if u then 1 else i + 1) b (suc m))) f
          ∙ other_member P xs ns c d D rest i m leaf b f (of_some P (betas_of D)) (λ k g. split_member p xs ns c V D (suc k) leaf b free.1 g) e
    ]
