-- From a valid SCoP to its draft, and from a sound draft back to a SCoP.
use Rattle.std.proofs.Common.{◌≡◌, ℕ, zero, suc, ◌+◌, ◌<◌, ◌≤◌, ◌^◌, inl, inr, Some, List, [], ◌∷◌, ◌++◌, map, length, get_or, take, ℤ, pos, refl, ap, sym, ◌∙◌, subst, add-one, arith}
use Rattle.std.specs.Prelude.{All, slice_get}
use Rattle.std.proofs.lemmas.Int.{ints, by_lt_z}
use Rattle.std.proofs.lemmas.List.{length-map}
use Rattle.std.proofs.lemmas.List.Elements.{All-head, All-tail, All-cons, All-nil, All-map, All-weaker}
use Rattle.row_core.specs.Dense.{dense_among, dense_of, rests}
use Rattle.beta_tree.specs.Vectors.{Apart, ApartFromAll, PrefixFree, NoneEmpty, IsTree}
use Rattle.scop_data.specs.declared.statements.Statement.{Statement}
use Rattle.scop_core.specs.ScopData.{ScopData, betas_in}
use Rattle.scop_core.specs.Order.{IsPrefix}
use Rattle.scop_core.specs.Validity.{IsValid}
use Rattle.scop_core.specs.Shapes.{IsShapedStatement}
use Rattle.scop_core.specs.KeptLimits.{StatementKeepsLimits}
use Rattle.scop_core.specs.Assemblable.{StatementHasTexts, AreApart, IsAssemblable}
use Rattle.scop_core.specs.ReadBack.{ReadBack}
use Rattle.scop_core.proofs.AssemblableData.{data_reads_back, scops_are_assemblable}
use Rattle.clay_commands.specs.declared.leaves.Leaf.{Leaf}
use Rattle.clay_commands.specs.Drafts.{Draft, betas_of, leaves_from, drafted}
use Rattle.clay_commands.specs.Afters.{closed_leaf, closed}
use Rattle.clay_commands.specs.Soundness.{IsSoundLeaf, IsSound, numbered_leaf}

-- vectors apart, in both senses

apart_vectors : (a b : List ℤ) → ¬ IsPrefix a b → ¬ IsPrefix b a → Apart a b
apart_vectors [] b p q = absurd (p tt)
apart_vectors (x ∷ a) [] p q = absurd (q tt)
apart_vectors (x ∷ a) (y ∷ b) p q =
    by_lt_z x y (λ h. inl (λ e. omega (arith, ints)))
    (λ h. by_lt_z y x (λ g. inl (λ e. omega (arith, ints)))
    (λ g. let e : x ≡ y = omega (arith, ints) in inr (apart_vectors a b (λ r. p (e, r)) (λ r. q (sym e, r)))))

all_apart : (u : List ℤ) (statements : List Statement) → ((k : ℕ) (t : Statement) → slice_get statements k ≡ Some t → Apart u t.schedule.betas) → ApartFromAll u (betas_in statements)
all_apart u [] h = tt
all_apart u (s ∷ statements) h = (h 0 s refl, all_apart u statements (λ k t e. h (suc k) t e))

tail_apart : (s : Statement) (statements : List Statement) → AreApart (s ∷ statements) → AreApart statements
tail_apart s statements apart zero k a b ia ib ne = absurd (cc)
tail_apart s statements apart (suc j) zero a b ia ib ne = absurd (cc)
tail_apart s statements apart (suc j) (suc k) a b ia ib ne = apart (suc (suc j)) (suc (suc k)) a b ia ib (λ e. ne (omega arith))

free_of_apart : (statements : List Statement) → AreApart statements → PrefixFree (betas_in statements)
free_of_apart [] apart = tt
free_of_apart (s ∷ statements) apart = (
  all_apart s.schedule.betas statements (λ k t e. apart_vectors s.schedule.betas t.schedule.betas (apart 1 (suc (suc k)) s t refl e (λ n. absurd (omega arith))) (apart (suc (suc k)) 1 t s e refl (λ n. absurd (omega arith)))),
  free_of_apart statements (tail_apart s statements apart),
)

none_empty : (parameters : ℕ) (statements : List Statement) → All (IsShapedStatement parameters) statements → NoneEmpty (betas_in statements)
none_empty parameters [] shaped i = i
none_empty parameters (s ∷ statements) shaped (inl e) = let long = (All-head (IsShapedStatement parameters) s statements shaped).schedule.relation.betas in
    let short : length s.schedule.betas ≡ 0 = ap length e in absurd (omega arith)
none_empty parameters (s ∷ statements) shaped (inr i) = none_empty parameters statements (All-tail (IsShapedStatement parameters) s statements shaped) i

-- the vectors of a valid SCoP can be numbered densely
pub record CanNumber (V : List (List ℤ)) : Type 0 where
  pub few : length V < 2 ^ 32
  pub filled : NoneEmpty V
  pub free : PrefixFree V

pub can_number : (S : ScopData) → IsValid S → CanNumber (betas_in S.statements)
can_number S valid =
    let a = scops_are_assemblable S valid in
    let most = a.limits.statements in
    let long : length (betas_in S.statements) ≡ length S.statements = length-map S.statements (λ s. s.schedule.betas) in
    record {
      few = subst (λ n. n < 2 ^ 32) (sym long) (omega arith);
      filled = none_empty S.context.shape.parameters S.statements a.shapes.statements;
      free = free_of_apart S.statements a.apart;
    }

-- the draft of a valid SCoP is sound

dense_long : (V : List (List ℤ)) (v : List ℤ) → length (dense_among V v) ≡ length v
dense_long V [] = refl
dense_long V (x ∷ v) = let more = dense_long (rests x V) v in omega arith

sound_statement : (parameters k : ℕ) (s : Statement) (v : List ℕ) → length v ≡ length s.schedule.betas → IsShapedStatement parameters s → StatementKeepsLimits s → StatementHasTexts s
    → IsSoundLeaf parameters (record { beta = v; statement = s; original = k })
sound_statement parameters k s v e shape limits texts = record {
  shape = record {
    some_part = shape.some_part;
    domain = shape.domain;
    schedule = record {
      relation = record {
        levels = shape.schedule.relation.levels;
        floors = shape.schedule.relation.floors;
        betas = length-map v (λ b. pos b) ∙ e ∙ shape.schedule.relation.betas;
        limits = record {
          outputs = shape.schedule.relation.limits.outputs;
          inputs = shape.schedule.relation.limits.inputs;
          locals = shape.schedule.relation.limits.locals;
          parameters = shape.schedule.relation.limits.parameters;
        };
        pairs = shape.schedule.relation.pairs;
      };
      sizes = shape.schedule.sizes;
      earlier = shape.schedule.earlier;
    };
    accesses = shape.accesses;
  };
  limits = record {
    parts = limits.parts;
    locals = limits.locals;
    rows = limits.rows;
    iterators = limits.iterators;
    levels = limits.levels;
    floors = limits.floors;
    accesses = limits.accesses;
    subscripts = limits.subscripts;
  };
  body = texts.body;
}

sound_leaves : (parameters k : ℕ) (W : List (List ℤ)) (statements : List Statement) → All (IsShapedStatement parameters) statements → All StatementKeepsLimits statements
    → All StatementHasTexts statements → All (IsSoundLeaf parameters) (leaves_from k (map (dense_among W) (betas_in statements)) statements)
sound_leaves parameters k W [] shapes limits texts = All-nil (IsSoundLeaf parameters)
sound_leaves parameters k W (s ∷ statements) shapes limits texts =
    All-cons (IsSoundLeaf parameters) (record { beta = dense_among W s.schedule.betas; statement = s; original = k }) (leaves_from (k + 1) (map (dense_among W) (betas_in statements)) statements)
    (sound_statement parameters k s (dense_among W s.schedule.betas) (dense_long W s.schedule.betas) (All-head (IsShapedStatement parameters) s statements shapes)
    (All-head StatementKeepsLimits s statements limits) (All-head StatementHasTexts s statements texts))
    (sound_leaves parameters (k + 1) W statements (All-tail (IsShapedStatement parameters) s statements shapes) (All-tail StatementKeepsLimits s statements limits) (All-tail StatementHasTexts s statements texts))

long_leaves : (k : ℕ) (g : List ℤ → List ℕ) (statements : List Statement) → length (leaves_from k (map g (betas_in statements)) statements) ≡ length statements
long_leaves k g [] = refl
long_leaves k g (s ∷ statements) = let more = long_leaves (k + 1) g statements in omega arith

betas_of_leaves : (k : ℕ) (g : List ℤ → List ℕ) (statements : List Statement) → betas_of (leaves_from k (map g (betas_in statements)) statements) ≡ map g (betas_in statements)
betas_of_leaves k g [] = refl
betas_of_leaves k g (s ∷ statements) = ap (λ t. g s.schedule.betas ∷ t) (betas_of_leaves (k + 1) g statements)

pub drafted_betas : (S : ScopData) → betas_of (drafted S) ≡ dense_of (betas_in S.statements)
drafted_betas S = betas_of_leaves 1 (dense_among (betas_in S.statements)) S.statements

pub drafted_sound : (S : ScopData) → IsValid S → IsSound S.context.shape.parameters (drafted S)
drafted_sound S valid =
    let a = scops_are_assemblable S valid in
    record {
      leaves = sound_leaves S.context.shape.parameters 1 (betas_in S.statements) S.statements a.shapes.statements a.limits.each a.texts.statements;
      few = subst (λ n. n ≤ 1024) (sym (long_leaves 1 (dense_among (betas_in S.statements)) S.statements)) a.limits.statements;
    }

-- a sound draft with a tree of vectors is a SCoP

apart_not_prefix : (v w : List ℕ) → Apart v w → IsPrefix (map (λ b. pos b) v) (map (λ b. pos b) w) → ⊥
apart_not_prefix [] w a h = a
apart_not_prefix (x ∷ v) [] a h = a
apart_not_prefix (x ∷ v) (y ∷ w) (inl ne) h = ne (let e = h.0 in omega (arith, ints))
apart_not_prefix (x ∷ v) (y ∷ w) (inr a) h = apart_not_prefix v w a h.1

apart_not_behind : (v w : List ℕ) → Apart v w → IsPrefix (map (λ b. pos b) w) (map (λ b. pos b) v) → ⊥
apart_not_behind [] w a h = a
apart_not_behind (x ∷ v) [] a h = a
apart_not_behind (x ∷ v) (y ∷ w) (inl ne) h = ne (let e = h.0 in omega (arith, ints))
apart_not_behind (x ∷ v) (y ∷ w) (inr a) h = apart_not_behind v w a h.1

same_some : (s t : Statement) → Some s ≡ Some t → s ≡ t
same_some s t e = cc

apart_ahead : (v : List ℕ) (D : Draft) (k : ℕ) (t : Statement) → ApartFromAll v (betas_of D) → slice_get (map closed_leaf D) k ≡ Some t → IsPrefix (map (λ b. pos b) v) t.schedule.betas → ⊥
apart_ahead v [] k t a e h = absurd (cc)
apart_ahead v (leaf ∷ D) zero t a e h = apart_not_prefix v leaf.beta a.0 (subst (λ s. IsPrefix (map (λ b. pos b) v) s.schedule.betas) (sym (same_some (closed_leaf leaf) t e)) h)
apart_ahead v (leaf ∷ D) (suc k) t a e h = apart_ahead v D k t a.1 e h

apart_behind : (v : List ℕ) (D : Draft) (k : ℕ) (t : Statement) → ApartFromAll v (betas_of D) → slice_get (map closed_leaf D) k ≡ Some t → IsPrefix t.schedule.betas (map (λ b. pos b) v) → ⊥
apart_behind v [] k t a e h = absurd (cc)
apart_behind v (leaf ∷ D) zero t a e h = apart_not_behind v leaf.beta a.0 (subst (λ s. IsPrefix s.schedule.betas (map (λ b. pos b) v)) (sym (same_some (closed_leaf leaf) t e)) h)
apart_behind v (leaf ∷ D) (suc k) t a e h = apart_behind v D k t a.1 e h

pub apart_closed : (D : Draft) → PrefixFree (betas_of D) → AreApart (map closed_leaf D)
apart_closed D free zero k s t is it ne = absurd (cc)
apart_closed D free (suc j) zero s t is it ne = absurd (cc)
apart_closed [] free (suc j) (suc k) s t is it ne = absurd (cc)
apart_closed (leaf ∷ D) free (suc zero) (suc zero) s t is it ne = absurd (ne refl)
apart_closed (leaf ∷ D) free (suc zero) (suc (suc k)) s t is it ne =
    λ h. apart_ahead leaf.beta D k t free.0 it (subst (λ u. IsPrefix u.schedule.betas t.schedule.betas) (sym (same_some (closed_leaf leaf) s is)) h)
apart_closed (leaf ∷ D) free (suc (suc j)) (suc zero) s t is it ne =
    λ h. apart_behind leaf.beta D j s free.0 is (subst (λ u. IsPrefix s.schedule.betas u.schedule.betas) (sym (same_some (closed_leaf leaf) t it)) h)
apart_closed (leaf ∷ D) free (suc (suc j)) (suc (suc k)) s t is it ne = apart_closed D free.1 (suc j) (suc k) s t is it (λ e. ne (omega arith))

closed_texts : (parameters : ℕ) (leaf : Leaf) → IsSoundLeaf parameters leaf → StatementHasTexts (closed_leaf leaf)
closed_texts parameters leaf sound = record { body = sound.body; extensions = refl }

pub assemblable_closed : (S : ScopData) (D : Draft) → IsValid S → IsSound S.context.shape.parameters D → IsTree (betas_of D) → IsAssemblable (closed S D)
assemblable_closed S D valid sound tree =
    let a = scops_are_assemblable S valid in
    let p = S.context.shape.parameters in
    record {
      shapes = record {
        context = a.shapes.context;
        statements = All-map (IsShapedStatement p) closed_leaf D (All-weaker (IsSoundLeaf p) (λ leaf. IsShapedStatement p (closed_leaf leaf)) (λ leaf h. h.shape) D sound.leaves);
      };
      limits = record {
        statements = subst (λ n. n ≤ 1024) (sym (length-map D closed_leaf)) sound.few;
        parameters = a.limits.parameters;
        rows = a.limits.rows;
        arrays = a.limits.arrays;
        each = All-map StatementKeepsLimits closed_leaf D (All-weaker (IsSoundLeaf p) (λ leaf. StatementKeepsLimits (closed_leaf leaf)) (λ leaf h. h.limits) D sound.leaves);
      };
      texts = record {
        language = a.texts.language;
        names = a.texts.names;
        name_count = a.texts.name_count;
        statements = All-map StatementHasTexts closed_leaf D (All-weaker (IsSoundLeaf p) (λ leaf. StatementHasTexts (closed_leaf leaf)) (λ leaf h. closed_texts p leaf h) D sound.leaves);
        arrays = a.texts.arrays;
        extensions = refl;
      };
      apart = apart_closed D tree.free;
    }

pub closed_reads_back : (S : ScopData) (D : Draft) → IsValid S → IsSound S.context.shape.parameters D → IsTree (betas_of D) → ReadBack (closed S D)
closed_reads_back S D valid sound tree = data_reads_back (closed S D) (assemblable_closed S D valid sound tree)

-- one leaf more
leaves_more : (n k : ℕ) (V : List (List ℕ)) (statements : List Statement) (d : Statement) → k < length V → k < length statements
    → leaves_from n (take k V) (take k statements) ++ numbered_leaf (get_or V k []) (get_or statements k d) (n + k) ∷ [] ≡ leaves_from n (take (suc k) V) (take (suc k) statements)
leaves_more n k [] statements d lv ls = absurd (omega arith)
leaves_more n k (v ∷ V) [] d lv ls = absurd (omega arith)
leaves_more n zero (v ∷ V) (s ∷ statements) d lv ls = ap (λ m. numbered_leaf v s m ∷ []) (omega arith)
leaves_more n (suc k) (v ∷ V) (s ∷ statements) d lv ls =
    let more = leaves_more (n + 1) k V statements d (omega arith) (omega arith) in
    let same : n + suc k ≡ n + 1 + k = omega arith in
    ap (λ m. numbered_leaf v s n ∷ (leaves_from (n + 1) (take k V) (take k statements) ++ numbered_leaf (get_or V k []) (get_or statements k d) m ∷ [])) same
    ∙ ap (λ t. numbered_leaf v s n ∷ t) more

pub one_leaf_more : (k : ℕ) (V : List (List ℕ)) (statements : List Statement) (s : Statement) (leaves : Draft) → k < length V → k < length statements → s ≡ get_or statements k s
    → leaves ≡ leaves_from 1 (take k V) (take k statements) → leaves ++ numbered_leaf (get_or V k []) s (k + 1) ∷ [] ≡ leaves_from 1 (take (k + 1) V) (take (k + 1) statements)
one_leaf_more k V statements s leaves lv ls is h =
    let number : k + 1 ≡ 1 + k = omega arith in
    ap (λ t. t ++ numbered_leaf (get_or V k []) s (k + 1) ∷ []) h ∙ ap (λ m. leaves_from 1 (take k V) (take k statements) ++ numbered_leaf (get_or V k []) s m ∷ []) number
    ∙ ap (λ x. leaves_from 1 (take k V) (take k statements) ++ numbered_leaf (get_or V k []) x (1 + k) ∷ []) is ∙ leaves_more 1 k V statements s lv ls
    ∙ ap (λ m. leaves_from 1 (take m V) (take m statements)) (sym (add-one k))
