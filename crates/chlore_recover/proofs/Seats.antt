-- Where each statement stands: its vectors, its ranks in both beta orders, and its pair.
use Rattle.std.proofs.Common.{◌≡◌, ℕ, zero, suc, ◌+◌, ◌<◌, ◌≤◌, List, [], ◌∷◌, length, refl, sym, ◌∙◌, ap, subst, arith}
use Rattle.std.proofs.lemmas.List.{length-map}
use Rattle.suite_base.specs.Limits.{max_levels}
use Rattle.row_core.specs.Dense.{dense_among, dense_of}
use Rattle.beta_tree.specs.Vectors.{In, IsTree}
use Rattle.beta_tree.specs.Edits.{place_of}
use Rattle.scop_data.specs.declared.statements.Statement.{Statement}
use Rattle.scop_core.specs.ScopData.{ScopData, betas_in}
use Rattle.scop_core.specs.Validity.{IsValid}
use Rattle.scop_core.specs.KeptLimits.{StatementKeepsLimits}
use Rattle.scop_core.specs.Shapes.{IsShapedStatement, IsFormedStatement}
use Rattle.scop_core.proofs.KeptLimits.{keeps_limits}
use Rattle.scop_core.proofs.ScopShapes.{scops_are_formed, scops_are_shaped}
use Rattle.clay_commands.specs.declared.leaves.Leaf.{Leaf}
use Rattle.clay_commands.specs.Drafts.{Draft, leaves_from, drafted}
use Rattle.clay_commands.proofs.Closings.{drafted_betas}
use Rattle.edit_laws.proofs.Trees.{AreSized}
use Rattle.edit_laws.proofs.Runs.{start_planted}
use Rattle.chlore_recover.specs.Orders.{vectors_of}
use Rattle.chlore_recover.specs.Strategy.{in_beta_order, order_for}
use Rattle.chlore_recover.specs.Recovered.{IsPaired, ArePaired, CanRecover}
use Rattle.chlore_recover.proofs.Pairs.{clans_levels, target_levels}
use Rattle.chlore_recover.proofs.Rises.{ordered_rises}
use Rattle.chlore_recover.proofs.Stands.{Stands, in_stands, some_stands, stands_below, all_at}
use Rattle.chlore_recover.proofs.Ranks.{ordered_has, order_at}
use Rattle.chlore_recover.proofs.Trailed.{IsTrailed, trailed}

-- the dense vectors of a SCoP
abbrev pub vectors_in : ScopData → List (List ℕ)
vectors_in S = dense_of (betas_in S.statements)

pub vectors_tree : (S : ScopData) → IsValid S → IsTree (vectors_in S)
vectors_tree S valid = subst IsTree (drafted_betas S) (start_planted S valid).tree

pub vectors_count : (S : ScopData) → length (vectors_in S) ≡ length S.statements
vectors_count S = length-map (betas_in S.statements) (dense_among (betas_in S.statements)) ∙ length-map S.statements (λ s. s.schedule.betas)

-- the leaf of a statement

pub record IsLeafOf (v : List ℕ) (s : Statement) (i : ℕ) (D : Draft) : Type 0 where
  pub leaf : Leaf
  pub stands : Stands i leaf D
  pub beta : leaf.beta ≡ v
  pub statement : leaf.statement ≡ s

pub leaf_of : (k i : ℕ) (V : List (List ℕ)) (S : List Statement) (v : List ℕ) (s : Statement) → Stands i v V → Stands i s S → IsLeafOf v s i (leaves_from k V S)
leaf_of k i [] S v s h g = absurd h
leaf_of k i (u ∷ V) [] v s h g = absurd g
leaf_of k zero (u ∷ V) (t ∷ S) v s h g = record { leaf = record { beta = u; statement = t; original = k }; stands = refl; beta = h; statement = g }
leaf_of k (suc i) (u ∷ V) (t ∷ S) v s h g =
    let more = leaf_of (k + 1) i V S v s h g in
    record { leaf = more.leaf; stands = more.stands; beta = more.beta; statement = more.statement }

pub leaf_beta : (k i : ℕ) (V : List (List ℕ)) (S : List Statement) (leaf : Leaf) → Stands i leaf (leaves_from k V S) → Stands i leaf.beta V
leaf_beta k i [] S leaf h = absurd h
leaf_beta k i (u ∷ V) [] leaf h = absurd h
leaf_beta k zero (u ∷ V) (t ∷ S) leaf h = ap (λ l. l.beta) h
leaf_beta k (suc i) (u ∷ V) (t ∷ S) leaf h = leaf_beta (k + 1) i V S leaf h

pub leaf_statement : (k i : ℕ) (V : List (List ℕ)) (S : List Statement) (leaf : Leaf) → Stands i leaf (leaves_from k V S) → Stands i leaf.statement S
leaf_statement k i [] S leaf h = absurd h
leaf_statement k i (u ∷ V) [] leaf h = absurd h
leaf_statement k zero (u ∷ V) (t ∷ S) leaf h = ap (λ l. l.statement) h
leaf_statement k (suc i) (u ∷ V) (t ∷ S) leaf h = leaf_statement (k + 1) i V S leaf h

-- the length of a vector

sized_at : (i : ℕ) (leaf : Leaf) (D : Draft) → AreSized D → Stands i leaf D → length leaf.beta ≡ length leaf.statement.schedule.levels + 1
sized_at i leaf [] sized h = absurd h
sized_at zero leaf (l ∷ D) sized h = subst (λ z. length z.beta ≡ length z.statement.schedule.levels + 1) h sized.0
sized_at (suc i) leaf (l ∷ D) sized h = sized_at i leaf D sized.1 h

pub vector_long : (S : ScopData) (i : ℕ) (v : List ℕ) (s : Statement) → IsValid S → Stands i v (vectors_in S) → Stands i s S.statements → length v ≡ length s.schedule.levels + 1
vector_long S i v s valid h g =
    let l = leaf_of 1 i (vectors_in S) S.statements v s h g in
    let e = sized_at i l.leaf (drafted S) (start_planted S valid).sized l.stands in
    sym (ap length l.beta) ∙ (e ∙ ap (λ z. length z.schedule.levels + 1) l.statement)

vector_short : (S : ScopData) (u : List ℕ) → IsValid S → In u (vectors_in S) → length u ≤ max_levels + 1
vector_short S u valid i =
    let (k, h) = in_stands u (vectors_in S) i in
    let below = stands_below k u (vectors_in S) h in
    let count = vectors_count S in
    let (s, g) = some_stands k S.statements (omega arith) in
    let long = vector_long S k u s valid h g in
    let most = (all_at StatementKeepsLimits k s S.statements (keeps_limits S valid).each g).levels in
    omega arith

-- the vectors of a SCoP's statements in beta order are a trail
pub beta_order_trailed : (S : ScopData) → IsValid S → 0 < length S.statements → IsTrailed (vectors_of (in_beta_order S))
beta_order_trailed S valid some =
    let o = ordered_rises (vectors_in S) (vectors_tree S valid) in
    let count = vectors_count S in
    let long = o.long in
    trailed (vectors_of (in_beta_order S)) (omega arith) o.tree o.rises (λ u i. vector_short S u valid (o.same.back u i))

-- a statement's vectors, pair and ranks
pub record IsSeat (O T : ScopData) (i : ℕ) (v w : List ℕ) (s t : Statement) : Type 0 where
  pub vector : Stands i v (vectors_in O)
  pub goal : Stands i w (vectors_in T)
  pub original : Stands i s O.statements
  pub target : Stands i t T.statements
  pub pair : IsPaired O.context.shape.parameters s t
  pub shaped : IsShapedStatement O.context.shape.parameters t
  pub formed : IsFormedStatement t
  pub long : length v ≡ length w
  pub rank : ℕ
  pub seat : ℕ
  pub ranked : Stands rank (i, v) (in_beta_order O)
  pub seated : Stands seat (i, w) (in_beta_order T)
  pub order : place_of rank (order_for (in_beta_order O) (in_beta_order T)) ≡ seat

pub paired_count : (n : ℕ) (S T : List Statement) → ArePaired n S T → length S ≡ length T
paired_count n [] [] p = refl
paired_count n [] (t ∷ T) p = absurd p
paired_count n (s ∷ S) [] p = absurd p
paired_count n (s ∷ S) (t ∷ T) (h, p) = ap suc (paired_count n S T p)

pair_at : (n i : ℕ) (s t : Statement) (S T : List Statement) → ArePaired n S T → Stands i s S → Stands i t T → IsPaired n s t
pair_at n i s t [] T p h g = absurd h
pair_at n i s t (x ∷ S) [] p h g = absurd g
pair_at n zero s t (x ∷ S) (y ∷ T) (p, more) h g = subst (λ z. IsPaired n z t) h (subst (λ z. IsPaired n x z) g p)
pair_at n (suc i) s t (x ∷ S) (y ∷ T) (p, more) h g = pair_at n i s t S T more h g

-- each statement has one
pub record Seated (O T : ScopData) (i : ℕ) : Type 0 where
  pub v : List ℕ
  pub w : List ℕ
  pub s : Statement
  pub t : Statement
  pub has : IsSeat O T i v w s t

pub seat_of : (O T : ScopData) (i : ℕ) → IsValid O → IsValid T → CanRecover O T → i < length O.statements → Seated O T i
seat_of O T i vo vt can below =
    let n : ℕ = O.context.shape.parameters in
    let co = vectors_count O in
    let ct = vectors_count T in
    let count = paired_count n O.statements T.statements can.statements in
    let (v, hv) = some_stands i (vectors_in O) (omega arith) in
    let (w, hw) = some_stands i (vectors_in T) (omega arith) in
    let (s, hs) = some_stands i O.statements below in
    let (t, ht) = some_stands i T.statements (omega arith) in
    let pair : IsPaired n s t = pair_at n i s t O.statements T.statements can.statements hs ht in
    let shaped_t : IsShapedStatement T.context.shape.parameters t = all_at (IsShapedStatement T.context.shape.parameters) i t T.statements (scops_are_shaped T vt).statements ht in
    let lv = vector_long O i v s vo hv hs in
    let lw = vector_long T i w t vt hw ht in
    let ls = clans_levels n s t pair in
    let lt = target_levels n s t pair in
    let li = pair.iterators in
    let here : i ≡ 0 + i = omega arith in
    let (q, hq) = in_stands (i, v) (in_beta_order O) (ordered_has 0 (vectors_in O) i i v here hv) in
    let (j, hj) = in_stands (i, w) (in_beta_order T) (ordered_has 0 (vectors_in T) i i w here hw) in
    record {
      v = v;
      w = w;
      s = s;
      t = t;
      has = record {
        vector = hv;
        goal = hw;
        original = hs;
        target = ht;
        pair = pair;
        shaped = subst (λ k. IsShapedStatement k t) (sym can.parameters) shaped_t;
        formed = all_at IsFormedStatement i t T.statements (scops_are_formed T vt).statements ht;
        long = omega arith;
        rank = q;
        seat = j;
        ranked = hq;
        seated = hj;
        order = order_at (vectors_in O) (vectors_in T) i q j v w (let e : length (vectors_in O) ≡ length (vectors_in T) = omega arith in e) hq hj;
      };
    }
