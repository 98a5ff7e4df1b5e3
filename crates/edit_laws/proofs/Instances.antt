-- A script keeps the instances of a SCoP, and makes no two stamps one.
use Rattle.std.proofs.Common.{◌≡◌, inl, inr, ℕ, zero, suc, ◌+◌, Some, List, [], ◌∷◌, length, map, ℤ, refl, ap, sym, subst, ◌∙◌, arith}
use Rattle.std.specs.Prelude.{slice_get, IsSomeAnd}
use Rattle.scop_data.specs.declared.accesses.Access.{Access}
use Rattle.scop_data.specs.declared.statements.Body.{Body}
use Rattle.scop_data.specs.declared.statements.Statement.{Statement}
use Rattle.scop_core.specs.ScopData.{ScopData}
use Rattle.scop_core.specs.Memory.{Event}
use Rattle.scop_core.specs.Meaning.{Instance, InDomain, IsInstance, statement_at, interleaved, stamp_in, stamp, event_in, event, use_at}
use Rattle.scop_core.specs.LevelOrder.{level_values}
use Rattle.scop_core.specs.Theorems.{HasValidSchedules}
use Rattle.scop_data.proofs.Stamps.{same_number, statements_ordered}
use Rattle.scop_data.proofs.Orders.{before_irreflexive}
use Rattle.scop_data.proofs.RunLaws.{no_ties}
use Rattle.scop_core.specs.Order.{Before}
use Rattle.dependence_systems.specs.Sides.{member, member_or}
use Rattle.dependence_systems.specs.Originals.{as_original}
use Rattle.clay_commands.specs.declared.leaves.Leaf.{Leaf}
use Rattle.clay_commands.specs.Drafts.{Draft, drafted, drafts_after}
use Rattle.clay_commands.specs.Afters.{closed_leaf, closed}
use Rattle.edit_laws.specs.Keeping.{IsPieceOf, ArePiecesOf, ScriptsKeepInstances, ScriptsMakeNoTies}
use Rattle.edit_laws.proofs.Lists.{heads, tails}
use Rattle.edit_laws.proofs.Levels.{values_length}
use Rattle.edit_laws.proofs.Comes.{ComesFrom, HasOriginal, AllHave}
use Rattle.edit_laws.proofs.Once.{Holds, Only, only_found, only_once}
use Rattle.edit_laws.proofs.Scripts.{all_have, all_only, start_has, start_only}

-- members of lists

pub same_some : {X : Type 0} (a b : X) → Some a ≡ Some b → a ≡ b
same_some a b e = ap (λ o. member_or a o) e

pub member_map : {X Y : Type 0} (f : X → Y) (xs : List X) (m : ℕ) (x : X) → member xs m ≡ Some x → member (map f xs) m ≡ Some (f x)
member_map f [] zero x e = absurd (cc)
member_map f [] (suc m) x e = absurd (cc)
member_map f (y ∷ xs) zero x e = absurd (cc)
member_map f (y ∷ xs) (suc zero) x e = ap (λ z. Some (f z)) (same_some y x e)
member_map f (y ∷ xs) (suc (suc m)) x e = member_map f xs (suc m) x e

pub statement_is : (statements : List Statement) (m : ℕ) → statement_at statements m ≡ member statements m
statement_is statements zero = refl
statement_is statements (suc m) = refl

-- a member by its place from 0
record AtPlace (D : Draft) (m : ℕ) (leaf : Leaf) : Type 0 where
  at : ℕ
  number : m ≡ suc at
  found : slice_get D at ≡ Some leaf

at_place : (D : Draft) (m : ℕ) (leaf : Leaf) → member D m ≡ Some leaf → AtPlace D m leaf
at_place D zero leaf e = absurd (cc)
at_place D (suc k) leaf e = record { at = k; number = refl; found = e }

-- the leaf of an instance
record Located (D : Draft) (m : ℕ) (P : Statement → Type 0) : Type 0 where
  leaf : Leaf
  found : member D m ≡ Some leaf
  has : P (closed_leaf leaf)

located : (D : Draft) (m : ℕ) (P : Statement → Type 0) → IsSomeAnd (statement_at (map closed_leaf D) m) P → Located D m P
located D zero P h = absurd h
located [] (suc m) P h = absurd h
located (leaf ∷ D) (suc zero) P h = record { leaf = leaf; found = refl; has = h }
located (leaf ∷ D) (suc (suc m)) P h = let l = located D (suc m) P h in record { leaf = l.leaf; found = l.found; has = l.has }

pub have_at : (old : List Statement) (D : Draft) (m : ℕ) (leaf : Leaf) → AllHave old D → member D m ≡ Some leaf → HasOriginal old leaf
have_at old [] zero leaf h e = absurd (cc)
have_at old [] (suc m) leaf h e = absurd (cc)
have_at old (a ∷ D) zero leaf h e = absurd (cc)
have_at old (a ∷ D) (suc zero) leaf h e = subst (λ t. HasOriginal old t) (same_some a leaf e) h.0
have_at old (a ∷ D) (suc (suc m)) leaf h e = have_at old D (suc m) leaf h.1 e

-- the leaf of an instance of the closed leaves, and the statement that it comes from
pub record Found (S : ScopData) (D : Draft) (n : List ℤ) (a : Instance) : Type 0 where
  pub leaf : Leaf
  pub found : member D a.statement ≡ Some leaf
  pub inside : InDomain leaf.statement a.values n
  pub original : Statement
  pub named : member S.statements leaf.original ≡ Some original
  pub comes : ComesFrom original leaf.statement

pub find : (S : ScopData) (D : Draft) (n : List ℤ) (a : Instance) → AllHave S.statements D → IsInstance (closed S D) n a → Found S D n a
find S D n a have i =
    let l = located D a.statement (λ s. InDomain s a.values n) i in
    let h = have_at S.statements D a.statement l.leaf have l.found in
    record { leaf = l.leaf; found = l.found; inside = l.has; original = h.original; named = h.named; comes = h.comes }

-- the originals of the leaves
abbrev pub originals : Draft → List ℕ
originals D = map (λ leaf. leaf.original) D

pub original_is : (D : Draft) (m : ℕ) (leaf : Leaf) → member D m ≡ Some leaf → member_or 0 (member (originals D) m) ≡ leaf.original
original_is D m leaf e = ap (λ o. member_or 0 o) (member_map (λ t. t.original) D m leaf e)

pub new_statement : (S : ScopData) (D : Draft) (m : ℕ) (leaf : Leaf) → member D m ≡ Some leaf → statement_at (closed S D).statements m ≡ Some (closed_leaf leaf)
new_statement S D m leaf e = statement_is (map closed_leaf D) m ∙ member_map closed_leaf D m leaf e

old_statement : (S : ScopData) (D : Draft) (n : List ℤ) (a : Instance) (f : Found S D n a) → statement_at S.statements (as_original (originals D) a).statement ≡ Some f.original
old_statement S D n a f = ap (λ k. statement_at S.statements k) (original_is D a.statement f.leaf f.found) ∙ statement_is S.statements f.leaf.original ∙ f.named

pub into : (S : ScopData) (D : Draft) (n : List ℤ) → AllHave S.statements D → (a : Instance) → IsInstance (closed S D) n a → IsInstance S n (as_original (originals D) a)
into S D n have a i =
    let f = find S D n a have i in
    let long : length a.values ≡ length f.original.body.iterators = f.inside.0 ∙ ap (λ body. length body.iterators) f.comes.piece.body in
    subst (λ o. IsSomeAnd o (λ s. InDomain s a.values n)) (sym (old_statement S D n a f)) (long, f.comes.domain a.values n f.inside.1)

-- events

abbrev event_of : List ℤ → List ℤ → List Access → Body → Event
event_of x n accesses body = record { uses = map (λ access. use_at x n access) accesses; text = body.text; names = body.iterators; values = x; parameters = n }

same_events : (S : ScopData) (D : Draft) (n : List ℤ) → AllHave S.statements D → (a : Instance) → IsInstance (closed S D) n a
    → event (closed S D) n a ≡ event S n (as_original (originals D) a)
same_events S D n have a i =
    let f = find S D n a have i in
    ap (λ o. event_in o a.values n) (new_statement S D a.statement f.leaf f.found)
    ∙ ap (λ accesses. event_of a.values n accesses f.leaf.statement.body) f.comes.piece.accesses
    ∙ ap (λ body. event_of a.values n f.original.accesses body) f.comes.piece.body
    ∙ sym (ap (λ o. event_in o a.values n) (old_statement S D n a f))

-- one instance for each old one

abbrev at_statement : List ℤ → ℕ → Instance
at_statement x k = record { statement = k; values = x }

abbrev with_values : ℕ → List ℤ → Instance
with_values k x = record { statement = k; values = x }

pub same_instance : (a b : Instance) → a.statement ≡ b.statement → a.values ≡ b.values → a ≡ b
same_instance a b s v = ap (at_statement a.values) s ∙ ap (with_values b.statement) v

onto : (S : ScopData) (D : Draft) (n : List ℤ) (b : Instance) → Only b.statement b.values n D → (a : Instance) × IsInstance (closed S D) n a × (as_original (originals D) a ≡ b)
onto S D n b only =
    let p = only_found b.statement b.values n D only in
    let a : Instance = record { statement = suc p.at; values = b.values } in
    let is_there : IsInstance (closed S D) n a = subst (λ o. IsSomeAnd o (λ s. InDomain s b.values n)) (sym (new_statement S D (suc p.at) p.leaf p.found)) p.holds.inside in
    (a, is_there, ap (at_statement b.values) (original_is D (suc p.at) p.leaf p.found ∙ p.holds.number))

once : (S : ScopData) (D : Draft) (n : List ℤ) → AllHave S.statements D → ((b : Instance) → IsInstance S n b → Only b.statement b.values n D)
    → (a b : Instance) → IsInstance (closed S D) n a → IsInstance (closed S D) n b → as_original (originals D) a ≡ as_original (originals D) b → a ≡ b
once S D n have only a b ia ib e =
    let f = find S D n a have ia in
    let g = find S D n b have ib in
    let c = as_original (originals D) a in
    let values : a.values ≡ b.values = ap (λ t. t.values) e in
    let number : (as_original (originals D) a).statement ≡ (as_original (originals D) b).statement = ap (λ t. t.statement) e in
    let ha : Holds c.statement a.values n f.leaf = record { number = sym (original_is D a.statement f.leaf f.found); inside = f.inside } in
    let hb : Holds c.statement a.values n g.leaf = record {
      number = sym (original_is D b.statement g.leaf g.found) ∙ sym number;
      inside = subst (λ x. InDomain g.leaf.statement x n) (sym values) g.inside;
    } in
    let p = at_place D a.statement f.leaf f.found in
    let q = at_place D b.statement g.leaf g.found in
    let same : p.at ≡ q.at = only_once c.statement a.values n D p.at q.at f.leaf g.leaf (only c (into S D n have a ia)) p.found q.found ha hb in
    same_instance a b (p.number ∙ ap suc same ∙ sym q.number) values

-- pieces

pieces : (old : List Statement) (D : Draft) → AllHave old D → ArePiecesOf old (map closed_leaf D) (originals D)
pieces old [] h = tt
pieces old (leaf ∷ D) h = (
  subst (λ o. IsSomeAnd o (λ original. IsPieceOf original (closed_leaf leaf))) (sym h.0.named)
      (record { body = h.0.comes.piece.body; accesses = h.0.comes.piece.accesses; floors = h.0.comes.piece.floors }),
  pieces old D h.1,
)

pub scripts_keep_instances : ScriptsKeepInstances
scripts_keep_instances S script valid formed =
    let D = drafts_after script (drafted S) in
    let have : AllHave S.statements D = all_have S.context.shape.parameters S.statements script (drafted S) formed (start_has S valid) in
    record {
      context = refl;
      pieces = pieces S.statements D have;
      instances = λ n en.
          let only : (b : Instance) → IsInstance S n b → Only b.statement b.values n D =
          λ b i. all_only S.context.shape.parameters b.statement b.values n script (drafted S) en formed (start_only S b.statement b.values n i) in
          record {
            into = into S D n have;
            onto = λ b i. onto S D n b (only b i);
            once = once S D n have only;
            events = same_events S D n have;
          };
    }

-- stamps

interleaved_same : (bs vs ws : List ℤ) → length bs ≡ length vs + 1 → length vs ≡ length ws → interleaved bs vs ≡ interleaved bs ws → vs ≡ ws
interleaved_same [] vs ws e l h = absurd (omega (arith, e))
interleaved_same (b ∷ bs) [] [] e l h = refl
interleaved_same (b ∷ bs) [] (w ∷ ws) e l h = absurd (omega (arith, l))
interleaved_same (b ∷ bs) (v ∷ vs) [] e l h = absurd (omega (arith, l))
interleaved_same (b ∷ bs) (v ∷ vs) (w ∷ ws) e l h =
    let behind : v ∷ interleaved bs vs ≡ w ∷ interleaved bs ws = tails b b (v ∷ interleaved bs vs) (w ∷ interleaved bs ws) h in
    let rest : vs ≡ ws = interleaved_same bs vs ws (omega (arith, e)) (omega (arith, l)) (tails v w (interleaved bs vs) (interleaved bs ws) behind) in
    ap (λ z. z ∷ vs) (heads v w (interleaved bs vs) (interleaved bs ws) behind) ∙ ap (λ t. w ∷ t) rest

-- instances with one stamp are of one statement
one_statement : (T : ScopData) (n : List ℤ) → HasValidSchedules T.statements → (a b : Instance) → IsInstance T n a → IsInstance T n b → stamp T n a ≡ stamp T n b → a.statement ≡ b.statement
one_statement T n v a b ia ib e =
    elim (same_number a.statement b.statement) as (λ _. a.statement ≡ b.statement) [
      | inl s ↦ s
      | inr d ↦ absurd (elim (statements_ordered T v n a b ia ib d) as (λ _. ⊥) [
        | inl h ↦ before_irreflexive (stamp T n b) (subst (λ p. Before p (stamp T n b)) e h)
        | inr h ↦ before_irreflexive (stamp T n b) (subst (λ p. Before (stamp T n b) p) e h)
      ])
    ]

pub scripts_make_no_ties : ScriptsMakeNoTies
scripts_make_no_ties S script valid formed good n L en run a b ia ib e =
    let D = drafts_after script (drafted S) in
    let T = closed S D in
    let have : AllHave S.statements D = all_have S.context.shape.parameters S.statements script (drafted S) formed (start_has S valid) in
    let f = find S D n a have ia in
    let t = closed_leaf f.leaf in
    let number : a.statement ≡ b.statement = one_statement T n good a b ia ib e in
    let at_a : statement_at T.statements a.statement ≡ Some t = new_statement S D a.statement f.leaf f.found in
    let at_b : statement_at T.statements b.statement ≡ Some t = ap (λ k. statement_at T.statements k) (sym number) ∙ at_a in
    let stamps : interleaved t.schedule.betas (level_values t.schedule a.values n) ≡ interleaved t.schedule.betas (level_values t.schedule b.values n) =
    sym (ap (λ o. stamp_in o a.values n) at_a) ∙ e ∙ ap (λ o. stamp_in o b.values n) at_b in
    let long_a : length (level_values t.schedule a.values n) ≡ length t.schedule.levels = values_length t.schedule a.values n in
    let long_b : length (level_values t.schedule b.values n) ≡ length t.schedule.levels = values_length t.schedule b.values n in
    let sizes : length t.schedule.betas ≡ length (level_values t.schedule a.values n) + 1 = good.sizes a.statement t at_a ∙ ap (λ m. m + 1) (sym long_a) in
    let values : level_values t.schedule a.values n ≡ level_values t.schedule b.values n =
    interleaved_same t.schedule.betas (level_values t.schedule a.values n) (level_values t.schedule b.values n) sizes (long_a ∙ sym long_b) stamps in
    let olds : level_values f.original.schedule a.values n ≡ level_values f.original.schedule b.values n = f.comes.back a.values b.values n values in
    let old_a : statement_at S.statements (as_original (originals D) a).statement ≡ Some f.original = old_statement S D n a f in
    let old_b : statement_at S.statements (as_original (originals D) b).statement ≡ Some f.original =
    ap (λ k. statement_at S.statements (member_or 0 (member (originals D) k))) (sym number) ∙ old_a in
    let old_stamps : stamp S n (as_original (originals D) a) ≡ stamp S n (as_original (originals D) b) =
    ap (λ o. stamp_in o a.values n) old_a ∙ ap (λ v. interleaved f.original.schedule.betas v) olds ∙ sym (ap (λ o. stamp_in o b.values n) old_b) in
    let one : as_original (originals D) a ≡ as_original (originals D) b =
    no_ties S n L run (as_original (originals D) a) (as_original (originals D) b) (into S D n have a ia) (into S D n have b ib) old_stamps in
    same_instance a b number (ap (λ t. t.values) one)
