-- Leaves stay sound where a command edits their vectors, or the forms of their levels.
use Rattle.std.proofs.Common.{◌≡◌, ℕ, ◌+◌, ◌*◌, ◌<◌, ◌≤◌, true, if◌then◌else◌, inl, inr, List, [], ◌∷◌, map, length, get_or, set, ℤ, pos, neg_ℤ, refl, ap, sym, ◌∙◌, subst, arith}
use Rattle.std.specs.Prelude.{All, swap}
use Rattle.std.proofs.lemmas.List.{length-map, length-set}
use Rattle.std.proofs.lemmas.List.Edits.{length-swap}
use Rattle.std.proofs.lemmas.List.Elements.{All-head, All-tail, All-cons, All-nil, All-set, All-get_or}
use Rattle.beta_tree.proofs.Places.{bool_tells}
use Rattle.row_core.specs.Rows.{add_rows, scale}
use Rattle.scop_data.specs.declared.affines.Affine.{Affine}
use Rattle.scop_data.specs.declared.schedules.Schedule.{Schedule}
use Rattle.scop_data.specs.declared.statements.Statement.{Statement}
use Rattle.scop_core.specs.AffineSums.{plus_multiple, moved, negative}
use Rattle.scop_core.specs.SolvedRows.{HasSizes}
use Rattle.scop_core.specs.ReadBack.{IsSolvedSchedule}
use Rattle.clay_script.specs.declared.commands.Command.{Command}
use Rattle.clay_script.specs.declared.commands.Command.TheVariants.{Fission, Fuse, Reorder, Interchange, Skew, Shift, Reverse, Stripmine, Tile, Iss}
use Rattle.clay_commands.specs.declared.leaves.Leaf.{Leaf}
use Rattle.clay_commands.specs.Arguments.{place}
use Rattle.clay_commands.specs.Drafts.{Draft, is_under, with_beta, no_form, forms_after, scheduled}
use Rattle.clay_commands.specs.Steps.{AllUnder, IsPlainCommand, IsChangeable, changed, level_form}
use Rattle.clay_commands.specs.Soundness.{IsSoundLeaf}
use Rattle.clay_commands.proofs.Changeables.{level_place}

-- the schedule with these betas
abbrev pub closed_schedule : Schedule → List ℕ → Schedule
closed_schedule schedule v = record schedule { betas = map (λ b. pos b) v }

-- a schedule that a leaf may have
pub record IsSoundSchedule (iterators parameters : ℕ) (schedule : Schedule) (v : List ℕ) : Type 0 where
  pub solved : IsSolvedSchedule iterators parameters (closed_schedule schedule v)
  pub levels : length schedule.levels ≤ 24
  pub floors : length schedule.floors ≤ 24

pub own_schedule : (parameters : ℕ) (leaf : Leaf) → IsSoundLeaf parameters leaf → IsSoundSchedule (length leaf.statement.body.iterators) parameters leaf.statement.schedule leaf.beta
own_schedule parameters leaf sound = record { solved = sound.shape.schedule; levels = sound.limits.levels; floors = sound.limits.floors }

-- a sound leaf with another vector and schedule
pub sound_with : (parameters : ℕ) (leaf : Leaf) (schedule : Schedule) (v : List ℕ) → IsSoundLeaf parameters leaf
    → IsSoundSchedule (length leaf.statement.body.iterators) parameters schedule v
    → IsSoundLeaf parameters (record leaf { beta = v; statement = scheduled leaf.statement schedule })
sound_with parameters leaf schedule v sound new = record {
  shape = record {
    some_part = sound.shape.some_part;
    domain = sound.shape.domain;
    schedule = new.solved;
    accesses = sound.shape.accesses;
  };
  limits = record {
    parts = sound.limits.parts;
    locals = sound.limits.locals;
    rows = sound.limits.rows;
    iterators = sound.limits.iterators;
    levels = new.levels;
    floors = new.floors;
    accesses = sound.limits.accesses;
    subscripts = sound.limits.subscripts;
  };
  body = sound.body;
}

-- other levels of the same sizes, as many as before, and a vector as long
pub sound_levels : (d p : ℕ) (schedule : Schedule) (levels : List Affine) (v w : List ℕ) → IsSoundSchedule d p schedule v → All (HasSizes d (length schedule.floors) p) levels
    → length levels ≡ length schedule.levels → length w ≡ length v → IsSoundSchedule d p (record schedule { levels = levels }) w
sound_levels d p schedule levels v w sound sizes count long = record {
  solved = record {
    relation = record {
      levels = sizes;
      floors = sound.solved.relation.floors;
      betas = length-map w (λ b. pos b) ∙ long ∙ sym (length-map v (λ b. pos b)) ∙ sound.solved.relation.betas ∙ ap (λ n. n + 1) (sym count);
      limits = record {
        outputs = subst (λ n. 2 * n + 1 ≤ 65536) (sym count) sound.solved.relation.limits.outputs;
        inputs = sound.solved.relation.limits.inputs;
        locals = sound.solved.relation.limits.locals;
        parameters = sound.solved.relation.limits.parameters;
      };
      pairs = sound.solved.relation.pairs;
    };
    sizes = sound.solved.sizes;
    earlier = sound.solved.earlier;
  };
  levels = subst (λ n. n ≤ 24) (sym count) sound.levels;
  floors = sound.floors;
}

-- another vector as long
pub sound_beta : (parameters : ℕ) (leaf : Leaf) (v : List ℕ) → length v ≡ length leaf.beta → IsSoundLeaf parameters leaf → IsSoundLeaf parameters (with_beta v leaf)
sound_beta parameters leaf v long sound =
    sound_with parameters leaf leaf.statement.schedule v sound
    (sound_levels (length leaf.statement.body.iterators) parameters leaf.statement.schedule leaf.statement.schedule.levels leaf.beta v (own_schedule parameters leaf sound)
    sound.shape.schedule.relation.levels refl long)

-- the sizes of new forms

long_sum : (a b : List ℤ) → length a ≡ length b → length (add_rows a b) ≡ length a
long_sum [] [] e = refl
long_sum [] (y ∷ b) e = absurd (omega arith)
long_sum (x ∷ a) [] e = refl
long_sum (x ∷ a) (y ∷ b) e = let more = long_sum a b (omega arith) in omega arith

long_scale : (q : ℤ) (b : List ℤ) → length (scale q b) ≡ length b
long_scale q [] = refl
long_scale q (y ∷ b) = let more = long_scale q b in omega arith

long_multiple : (n : ℕ) (a b : List ℤ) (q : ℤ) → length a ≡ n → length b ≡ n → length (add_rows a (scale q b)) ≡ n
long_multiple n a b q ea eb = long_sum a (scale q b) (ea ∙ sym (long_scale q b ∙ eb)) ∙ ea

sum_sizes : (d m p : ℕ) (a b : Affine) (q : ℤ) → HasSizes d m p a → HasSizes d m p b → HasSizes d m p (plus_multiple a q b)
sum_sizes d m p a b q x y = record {
  iterators_are = long_multiple d a.iterators b.iterators q x.iterators_are y.iterators_are;
  floors_are = long_multiple m a.floors b.floors q x.floors_are y.floors_are;
  parameters_are = long_multiple p a.parameters b.parameters q x.parameters_are y.parameters_are;
}

moved_sizes : (d m p : ℕ) (a : Affine) (v : List ℤ) (c : ℤ) → HasSizes d m p a → length a.parameters ≡ length v → HasSizes d m p (moved a v c)
moved_sizes d m p a v c x e = record { iterators_are = x.iterators_are; floors_are = x.floors_are; parameters_are = long_sum a.parameters v e ∙ x.parameters_are }

negative_sizes : (d m p : ℕ) (a : Affine) → HasSizes d m p a → HasSizes d m p (negative a)
negative_sizes d m p a x = record {
  iterators_are = length-map a.iterators neg_ℤ ∙ x.iterators_are;
  floors_are = length-map a.floors neg_ℤ ∙ x.floors_are;
  parameters_are = length-map a.parameters neg_ℤ ∙ x.parameters_are;
}

All-swap : {X : Type 0} → (Q : X → Type 0) (xs : List X) (i j : ℕ) → i < length xs → j < length xs → All Q xs → All Q (swap xs i j)
All-swap Q [] i j li lj all = All-nil Q
All-swap Q (d ∷ xs) i j li lj all =
    All-set Q (set (d ∷ xs) i (get_or (d ∷ xs) j d)) j (get_or (d ∷ xs) i d) (All-get_or Q (d ∷ xs) i d li all)
    (All-set Q (d ∷ xs) i (get_or (d ∷ xs) j d) (All-get_or Q (d ∷ xs) j d lj all) all)

-- the schedule after interchange, skew, shift or reverse
sound_change : (d p : ℕ) (command : Command) (s : Statement) (v : List ℕ) → IsPlainCommand command → IsChangeable command s → length s.body.iterators ≡ d
    → IsSoundSchedule d p s.schedule v → IsSoundSchedule d p (forms_after command s.schedule) v
sound_change d p (Interchange q k l) s v is can e sound =
    sound_levels d p s.schedule (swap s.schedule.levels (place k) (place l)) v v sound
    (All-swap (HasSizes d (length s.schedule.floors) p) s.schedule.levels (place k) (place l) (level_place k s can.0) (level_place l s can.1) sound.solved.relation.levels)
    (length-swap s.schedule.levels (place k) (place l)) refl
sound_change d p (Skew q k l f) s v is can e sound =
    let a = All-get_or (HasSizes d (length s.schedule.floors) p) s.schedule.levels (place k) no_form (level_place k s can.0) sound.solved.relation.levels in
    let b = All-get_or (HasSizes d (length s.schedule.floors) p) s.schedule.levels (place l) no_form (level_place l s can.1) sound.solved.relation.levels in
    sound_levels d p s.schedule (set s.schedule.levels (place k) (plus_multiple (level_form k s) f (level_form l s))) v v sound
    (All-set (HasSizes d (length s.schedule.floors) p) s.schedule.levels (place k) (plus_multiple (level_form k s) f (level_form l s))
    (sum_sizes d (length s.schedule.floors) p (level_form k s) (level_form l s) f a b) sound.solved.relation.levels)
    (length-set s.schedule.levels (place k) (plus_multiple (level_form k s) f (level_form l s))) refl
sound_change d p (Shift q k w c) s v is can e sound =
    let a = All-get_or (HasSizes d (length s.schedule.floors) p) s.schedule.levels (place k) no_form (level_place k s can.0) sound.solved.relation.levels in
    sound_levels d p s.schedule (set s.schedule.levels (place k) (moved (level_form k s) w c)) v v sound
    (All-set (HasSizes d (length s.schedule.floors) p) s.schedule.levels (place k) (moved (level_form k s) w c)
    (moved_sizes d (length s.schedule.floors) p (level_form k s) w c a can.1) sound.solved.relation.levels)
    (length-set s.schedule.levels (place k) (moved (level_form k s) w c)) refl
sound_change d p (Reverse q k) s v is can e sound =
    let a = All-get_or (HasSizes d (length s.schedule.floors) p) s.schedule.levels (place k) no_form (level_place k s can) sound.solved.relation.levels in
    sound_levels d p s.schedule (set s.schedule.levels (place k) (negative (level_form k s))) v v sound
    (All-set (HasSizes d (length s.schedule.floors) p) s.schedule.levels (place k) (negative (level_form k s))
    (negative_sizes d (length s.schedule.floors) p (level_form k s) a) sound.solved.relation.levels)
    (length-set s.schedule.levels (place k) (negative (level_form k s))) refl
sound_change d p (Fission q c) s v is can e sound = absurd is
sound_change d p (Fuse q) s v is can e sound = absurd is
sound_change d p (Reorder q order) s v is can e sound = absurd is
sound_change d p (Stripmine q k size) s v is can e sound = absurd is
sound_change d p (Tile q k size t) s v is can e sound = absurd is
sound_change d p (Iss q xs ns c) s v is can e sound = absurd is

-- a leaf after such a command
sound_changed : (parameters : ℕ) (command : Command) (P : List ℕ) (leaf : Leaf) → IsPlainCommand command → (is_under P leaf.beta ≡ true → IsChangeable command leaf.statement)
    → IsSoundLeaf parameters leaf → IsSoundLeaf parameters (changed command P leaf)
sound_changed parameters command P leaf is can sound =
    let new = record leaf { statement = scheduled leaf.statement (forms_after command leaf.statement.schedule) } in
    elim (bool_tells (is_under P leaf.beta)) [
      | inl t ↦
          let made : IsSoundLeaf parameters new = sound_with parameters leaf (forms_after command leaf.statement.schedule) leaf.beta sound
          (sound_change (length leaf.statement.body.iterators) parameters command leaf.statement leaf.beta is (can t) refl (own_schedule parameters leaf sound)) in
          subst (λ u. IsSoundLeaf parameters (if u then new else leaf)) (sym t) made
      | inr f ↦ subst (λ u. IsSoundLeaf parameters (if u then new else leaf)) (sym f) sound
    ]

pub sound_plain : (parameters : ℕ) (command : Command) (P : List ℕ) (D : Draft) → IsPlainCommand command → AllUnder P (IsChangeable command) D
    → All (IsSoundLeaf parameters) D → All (IsSoundLeaf parameters) (map (changed command P) D)
sound_plain parameters command P [] is can sound = All-nil (IsSoundLeaf parameters)
sound_plain parameters command P (leaf ∷ D) is can sound =
    All-cons (IsSoundLeaf parameters) (changed command P leaf) (map (changed command P) D)
    (sound_changed parameters command P leaf is can.0 (All-head (IsSoundLeaf parameters) leaf D sound))
    (sound_plain parameters command P D is can.1 (All-tail (IsSoundLeaf parameters) leaf D sound))

-- leaves with other vectors, each as long as before
pub sound_vectors : (parameters : ℕ) (g : List ℕ → List ℕ) (D : Draft) → ((v : List ℕ) → length (g v) ≡ length v) → All (IsSoundLeaf parameters) D
    → All (IsSoundLeaf parameters) (map (λ leaf. with_beta (g leaf.beta) leaf) D)
sound_vectors parameters g [] keeps sound = All-nil (IsSoundLeaf parameters)
sound_vectors parameters g (leaf ∷ D) keeps sound =
    All-cons (IsSoundLeaf parameters) (with_beta (g leaf.beta) leaf) (map (λ leaf. with_beta (g leaf.beta) leaf) D)
    (sound_beta parameters leaf (g leaf.beta) (keeps leaf.beta) (All-head (IsSoundLeaf parameters) leaf D sound))
    (sound_vectors parameters g D keeps (All-tail (IsSoundLeaf parameters) leaf D sound))
