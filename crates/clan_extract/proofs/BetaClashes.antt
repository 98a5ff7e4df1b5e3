-- The beta vectors of a region's assignments don't clash.
use Rattle.std.proofs.Common.{◌≡◌, ◌⊎◌, inl, inr, ℕ, ◌+◌, ◌≤◌, ◌<◌, List, [], ◌∷◌, ◌++◌, map, Bool, true, false, ◌&&◌, refl, ◌∙◌, ap, subst, arith, ℤ, pos, None}
use Rattle.std.specs.Ordering.{int_eq}
use Rattle.std.proofs.lemmas.Int.{ints}
use Rattle.std.proofs.lemmas.Bool.Decides.{Decides-int_eq}
use Rattle.suite_base.specs.declared.refusals.Refusal.TheVariants.{BetaClash}
use Rattle.scop_core.specs.Sequences.{In}
use Rattle.scop_core.specs.Assembly.{vectors_clash, clash_among, first_clash}
use Rattle.scop_data.specs.declared.statements.Statement.{Statement}
use Rattle.scop_core.proofs.ReadBackPieces.{none_or, none_if}
use Rattle.clan_extract.specs.Regions.{Node, For, If, Block, Assign, Nodes, NoNodes, Then}
use Rattle.clan_extract.specs.Placements.{Placed, in_loop, in_test, placed, placed_all, one_if_any, children, children_of_all}
use Rattle.clan_extract.specs.Scops.{statement}
use Rattle.clan_extract.proofs.Members.{in_append, of_map}
use Rattle.clan_extract.proofs.Traces.{head_of}
use Rattle.clan_extract.proofs.TurnOrders.{Pairwise, pairwise_append, pairwise_map}

abbrev vector_of : Placed → List ℤ
vector_of p = map (λ b. pos b) p.betas

abbrev Apart : Placed → Placed → Type 0
Apart p q = vectors_clash (vector_of p) (vector_of q) ≡ false

-- the vector begins with a number from a up to b
abbrev BeginsWithin : ℕ → ℕ → List ℕ → Type 0
BeginsWithin a b [] = ⊥
BeginsWithin a b (z ∷ betas) = (a ≤ z) × (z < b)

widen : (a b c d : ℕ) (betas : List ℕ) → c ≤ a → b ≤ d → BeginsWithin a b betas → BeginsWithin c d betas
widen a b c d [] l m h = absurd h
widen a b c d (z ∷ betas) l m h = let low = h.0 in let high = h.1 in (omega arith, omega arith)

unequal : (a b : ℕ) → a < b → int_eq (pos a) (pos b) ≡ false
unequal a b l = by (int_eq (pos a) (pos b)) refl
  where
    by : (t : Bool) → int_eq (pos a) (pos b) ≡ t → int_eq (pos a) (pos b) ≡ false
    by true e = let same = (Decides-int_eq (pos a) (pos b)).0 e in absurd (omega (arith, ints, same))
    by false e = e

apart_by_first : (a b c : ℕ) (p q : Placed) → BeginsWithin a b p.betas → BeginsWithin b c q.betas → Apart p q
apart_by_first a b c p q h k = by p.betas q.betas h k
  where
    by : (x y : List ℕ) → BeginsWithin a b x → BeginsWithin b c y → vectors_clash (map (λ b. pos b) x) (map (λ b. pos b) y) ≡ false
    by [] y h k = absurd h
    by (u ∷ x) [] h k = absurd k
    by (u ∷ x) (w ∷ y) h k =
        let high = h.1 in
        let low = k.0 in
        ap (λ t. t && vectors_clash (map (λ b. pos b) x) (map (λ b. pos b) y)) (unequal u w (omega arith))

apart_inside : (from : ℕ) (x y : List ℤ) → vectors_clash x y ≡ false → vectors_clash (pos from ∷ x) (pos from ∷ y) ≡ false
apart_inside from x y h = ap (λ t. t && vectors_clash x y) ((Decides-int_eq (pos from) (pos from)).1 refl) ∙ h

some_one : (ps : List Placed) (p : Placed) → In p ps → one_if_any ps ≡ 1
some_one [] p h = absurd h
some_one (q ∷ ps) p h = refl

-- the vectors begin with the numbers of the children
mutual
  within : (s : Node) (from : ℕ) (p : Placed) → In p (placed from s) → BeginsWithin from (from + children s) p.betas
  within (For name start comparison bound step body) from p i =
      let q = of_map (in_loop from (head_of name start comparison bound step)) p (placed_all 0 body) i in
      subst (λ p. BeginsWithin from (from + one_if_any (placed_all 0 body)) p.betas) q.2 (omega arith, omega (arith, some_one (placed_all 0 body) q.0 q.1))
  within (If condition then_nodes else_nodes) from p i =
      by (in_append p (map (in_test true condition) (placed_all from then_nodes)) (map (in_test false condition) (placed_all (from + children_of_all then_nodes) else_nodes)) i)
      (λ q j. within_all then_nodes from q j) (λ q j. within_all else_nodes (from + children_of_all then_nodes) q j)
    where
      by : In p (map (in_test true condition) (placed_all from then_nodes)) ⊎ In p (map (in_test false condition) (placed_all (from + children_of_all then_nodes) else_nodes))
          → ((q : Placed) → In q (placed_all from then_nodes) → BeginsWithin from (from + children_of_all then_nodes) q.betas)
          → ((q : Placed) → In q (placed_all (from + children_of_all then_nodes) else_nodes) → BeginsWithin (from + children_of_all then_nodes) (from + children_of_all then_nodes + children_of_all else_nodes) q.betas)
          → BeginsWithin from (from + (children_of_all then_nodes + children_of_all else_nodes)) p.betas
      by (inl j) f g =
          let q = of_map (in_test true condition) p (placed_all from then_nodes) j in
          subst (λ p. BeginsWithin from (from + (children_of_all then_nodes + children_of_all else_nodes)) p.betas) q.2
          (widen from (from + children_of_all then_nodes) from (from + (children_of_all then_nodes + children_of_all else_nodes)) q.0.betas (omega arith) (omega arith) (f q.0 q.1))
      by (inr j) f g =
          let q = of_map (in_test false condition) p (placed_all (from + children_of_all then_nodes) else_nodes) j in
          subst (λ p. BeginsWithin from (from + (children_of_all then_nodes + children_of_all else_nodes)) p.betas) q.2
          (widen (from + children_of_all then_nodes) (from + children_of_all then_nodes + children_of_all else_nodes) from (from + (children_of_all then_nodes + children_of_all else_nodes)) q.0.betas (omega arith) (omega arith) (g q.0 q.1))
  within (Block nodes) from p i = within_all nodes from p i
  within (Assign a) from p (inl e) = subst (λ p. BeginsWithin from (from + 1) p.betas) e (omega arith, omega arith)
  within (Assign a) from p (inr i) = absurd i

  within_all : (nodes : Nodes) (from : ℕ) (p : Placed) → In p (placed_all from nodes) → BeginsWithin from (from + children_of_all nodes) p.betas
  within_all NoNodes from p i = absurd i
  within_all (Then first rest) from p i =
      by (in_append p (placed from first) (placed_all (from + children first) rest) i) (λ j. within first from p j) (λ j. within_all rest (from + children first) p j)
    where
      by : In p (placed from first) ⊎ In p (placed_all (from + children first) rest) → (In p (placed from first) → BeginsWithin from (from + children first) p.betas)
          → (In p (placed_all (from + children first) rest) → BeginsWithin (from + children first) (from + children first + children_of_all rest) p.betas)
          → BeginsWithin from (from + (children first + children_of_all rest)) p.betas
      by (inl j) f g = widen from (from + children first) from (from + (children first + children_of_all rest)) p.betas (omega arith) (omega arith) (f j)
      by (inr j) f g = widen (from + children first) (from + children first + children_of_all rest) from (from + (children first + children_of_all rest)) p.betas (omega arith) (omega arith) (g j)

mutual
  apart : (s : Node) (from : ℕ) → Pairwise Apart (placed from s)
  apart (For name start comparison bound step body) from =
      pairwise_map Apart Apart (in_loop from (head_of name start comparison bound step)) (placed_all 0 body) (λ p q h. apart_inside from (vector_of p) (vector_of q) h) (apart_all body 0)
  apart (If condition then_nodes else_nodes) from =
      let ps : List Placed = placed_all from then_nodes in
      let qs : List Placed = placed_all (from + children_of_all then_nodes) else_nodes in
      pairwise_append Apart (map (in_test true condition) ps) (map (in_test false condition) qs)
      (pairwise_map Apart Apart (in_test true condition) ps (λ p q h. h) (apart_all then_nodes from))
      (pairwise_map Apart Apart (in_test false condition) qs (λ p q h. h) (apart_all else_nodes (from + children_of_all then_nodes)))
      (λ p q i j. (
      let a = of_map (in_test true condition) p ps i in
      let b = of_map (in_test false condition) q qs j in
      subst (λ p. Apart p q) a.2 (subst (λ q. Apart (in_test true condition a.0) q) b.2
      (apart_by_first from (from + children_of_all then_nodes) (from + children_of_all then_nodes + children_of_all else_nodes) a.0 b.0
      (within_all then_nodes from a.0 a.1) (within_all else_nodes (from + children_of_all then_nodes) b.0 b.1)))))
  apart (Block nodes) from = apart_all nodes from
  apart (Assign a) from = (λ q i. absurd i, tt)

  apart_all : (nodes : Nodes) (from : ℕ) → Pairwise Apart (placed_all from nodes)
  apart_all NoNodes from = tt
  apart_all (Then first rest) from =
      pairwise_append Apart (placed from first) (placed_all (from + children first) rest) (apart first from) (apart_all rest (from + children first))
      (λ p q i j. apart_by_first from (from + children first) (from + children first + children_of_all rest) p q (within first from p i) (within_all rest (from + children first) q j))

abbrev ApartStatements : Statement → Statement → Type 0
ApartStatements s t = vectors_clash s.schedule.betas t.schedule.betas ≡ false

none_among : (i j : ℕ) (before : List Statement) (t : Statement) → ((s : Statement) → In s before → ApartStatements s t) → clash_among i j before t.schedule.betas ≡ None
none_among i j [] t h = refl
none_among i j (s ∷ before) t h =
    none_if (vectors_clash s.schedule.betas t.schedule.betas) (BetaClash i j) (clash_among (i + 1) j before t.schedule.betas) (h s (inl refl)) (none_among (i + 1) j before t (λ u k. h u (inr k)))

none_first : (j : ℕ) (before rest : List Statement) → ((s t : Statement) → In s before → In t rest → ApartStatements s t) → Pairwise ApartStatements rest → first_clash j before rest ≡ None
none_first j before [] h k = refl
none_first j before (t ∷ rest) h k =
    none_or (clash_among 1 j before t.schedule.betas) (first_clash (j + 1) (before ++ t ∷ []) rest)
    (none_among 1 j before t (λ s i. h s t i (inl refl)))
    (none_first (j + 1) (before ++ t ∷ []) rest (λ s u i m. by s u m (in_append s before (t ∷ []) i)) k.1)
  where
    by : (s u : Statement) → In u rest → In s before ⊎ In s (t ∷ []) → ApartStatements s u
    by s u m (inl i) = h s u i (inr m)
    by s u m (inr (inl e)) = subst (λ s. ApartStatements s u) e (k.0 u m)
    by s u m (inr (inr i)) = absurd i

-- no two statements of the SCoP clash
pub no_clash : (parameters arrays : List (List ℕ)) (region : Nodes) → first_clash 1 [] (map (statement parameters arrays) (placed_all 0 region)) ≡ None
no_clash parameters arrays region =
    none_first 1 [] (map (statement parameters arrays) (placed_all 0 region)) (λ s t i m. absurd i)
    (pairwise_map Apart ApartStatements (statement parameters arrays) (placed_all 0 region) (λ p q h. h) (apart_all region 0))
