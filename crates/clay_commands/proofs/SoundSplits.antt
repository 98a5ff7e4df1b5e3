-- Leaves stay sound where one of them is split, and after any command that is not refused.
use Rattle.std.proofs.Common.{◌≡◌, ℕ, ◌+◌, ◌<◌, ◌≤◌, ◌^◌, nat_le, Bool, true, false, not, ◌||◌, if◌then◌else◌, inl, inr, Option, Some, None, List, [], ◌∷◌, map, length, ℤ, pos, negsuc, neg_ℤ, ◌+ℤ◌, refl, ap, sym, ◌∙◌, subst, arith, length-append}
use Rattle.std.specs.Prelude.{All}
use Rattle.std.specs.List.{flat_map, list_any}
use Rattle.std.proofs.lemmas.Bool.{leb-false}
use Rattle.std.proofs.lemmas.List.{length-map}
use Rattle.std.proofs.lemmas.List.Elements.{All-head, All-tail, All-cons, All-nil, All-append, All-map, All-weaker}
use Rattle.suite_base.specs.declared.refusals.Refusal.TheVariants as refusal
use Rattle.suite_base.specs.declared.refusals.Where.TheVariants as count
use Rattle.suite_base.specs.declared.refusals.Which.TheVariants.{Statements, Rows}
use Rattle.beta_tree.specs.Vectors.{no_statement, children_of, IsTree}
use Rattle.beta_tree.specs.Edits.{same_vector, next_sibling, leaf_split}
use Rattle.beta_tree.proofs.Places.{bool_tells}
use Rattle.beta_tree.proofs.Leaves.{same_vector_yes}
use Rattle.beta_tree.proofs.Lengths.{operations_keep_lengths, sibling_is_as_long}
use Rattle.beta_tree.proofs.Trees.{not_true}
use Rattle.relation_core.specs.Systems.{System, with_row}
use Rattle.relation_core.specs.declared.part_rows.RowKind.TheVariants.{AtLeast}
use Rattle.scop_core.specs.Assembly.{or_else}
use Rattle.scop_core.specs.Printable.{IsDomainPart, has_part}
use Rattle.clay_script.specs.declared.commands.Command.{Command}
use Rattle.clay_script.specs.declared.commands.Command.TheVariants.{Fission, Fuse, Reorder, Interchange, Skew, Shift, Reverse, Stripmine, Tile, Iss}
use Rattle.clay_script.specs.Commands.{prefix_of}
use Rattle.clay_commands.specs.declared.leaves.Leaf.{Leaf}
use Rattle.clay_commands.specs.Arguments.{natural, are_natural, prefix_in, order_in}
use Rattle.clay_commands.specs.Drafts.{Draft, betas_of, is_under, with_beta, vector_after, restricted, condition_row, parts_where, halves, leaf_after, draft_after}
use Rattle.clay_commands.specs.Refusals.{has_level, has_full_part, all_under, condition_of, condition_under, limit_of, overflow_of, most_under, statement_weight, cut_limit, refusal_at}
use Rattle.clay_commands.specs.Steps.{AllUnder, IsVectorCommand, IsPlainCommand, IsCut, IsChangeable, changed}
use Rattle.clay_commands.specs.Soundness.{IsSoundLeaf, IsSound, SizesFit}
use Rattle.clay_commands.proofs.Changeables.{passes, AllUnder-with, changeable}
use Rattle.clay_commands.proofs.DraftMaps.{maps_to, plain_draft, plain_forms}
use Rattle.clay_commands.proofs.Cuts.{cut_leaf, leaf_cut, cut_condition, cut_forms, limit_is}
use Rattle.clay_commands.proofs.VectorMaps.{vector_leaf}
use Rattle.clay_commands.proofs.Halves.{room}
use Rattle.clay_commands.proofs.SplitFacts.{own_prefix, facts_of, split_long}
use Rattle.clay_commands.proofs.SoundForms.{sound_beta, sound_plain, sound_vectors}
use Rattle.clay_commands.proofs.SoundCuts.{CanCut, sound_cuts, all_below, cut_room}

-- one row more in each part of a domain

some_part_where : (xs ns : List ℤ) (c : ℤ) (parts : List System) → has_part parts ≡ true → has_part (parts_where xs ns c parts) ≡ true
some_part_where xs ns c [] h = absurd (cc)
some_part_where xs ns c (part ∷ parts) h = refl

few_rows : (parts : List System) → list_any (λ part. nat_le 256 (length part.rows)) parts ≡ false → All (λ part. length part.rows < 256) parts
few_rows [] h = All-nil (λ part. length part.rows < 256)
few_rows (part ∷ parts) h =
    elim (bool_tells (nat_le 256 (length part.rows))) [
      | inl t ↦ absurd (let full : true ≡ false = sym (ap (λ b. b || list_any (λ q. nat_le 256 (length q.rows)) parts) t) ∙ h in cc)
      | inr f ↦ All-cons (λ q. length q.rows < 256) part parts (leb-false 256 (length part.rows) f)
          (few_rows parts (sym (ap (λ b. b || list_any (λ q. nat_le 256 (length q.rows)) parts) f) ∙ h))
    ]

sound_restricted : (parameters : ℕ) (xs ns : List ℤ) (c : ℤ) (leaf : Leaf) → has_full_part leaf.statement ≡ false → IsSoundLeaf parameters leaf
    → IsSoundLeaf parameters (record leaf { statement = restricted xs ns c leaf.statement })
sound_restricted parameters xs ns c leaf room sound =
    let add : System → System = λ part. with_row part AtLeast (condition_row part xs ns c) in
    let d = length leaf.statement.body.iterators in
    record {
      shape = record {
        some_part = some_part_where xs ns c leaf.statement.domain sound.shape.some_part;
        domain = All-map (IsDomainPart d parameters) add leaf.statement.domain
            (All-weaker (IsDomainPart d parameters) (λ part. IsDomainPart d parameters (add part)) (λ part h. record { outputs = h.outputs; inputs = h.inputs; parameters_are = h.parameters_are })
            leaf.statement.domain sound.shape.domain);
        schedule = sound.shape.schedule;
        accesses = sound.shape.accesses;
      };
      limits = record {
        parts = subst (λ n. n ≤ 64) (sym (length-map leaf.statement.domain add)) sound.limits.parts;
        locals = All-map (λ part. part.shape.locals ≤ 24) add leaf.statement.domain sound.limits.locals;
        rows = All-map (λ part. length part.rows ≤ 256) add leaf.statement.domain
            (All-weaker (λ part. length part.rows < 256) (λ part. length (add part).rows ≤ 256)
            (λ part h. subst (λ n. n ≤ 256) (sym (length-append part.rows (record { kind = AtLeast; entries = condition_row part xs ns c } ∷ []))) (omega arith))
            leaf.statement.domain (few_rows leaf.statement.domain room));
        iterators = sound.limits.iterators;
        levels = sound.limits.levels;
        floors = sound.limits.floors;
        accesses = sound.limits.accesses;
        subscripts = sound.limits.subscripts;
      };
      body = sound.body;
    }

not_empty : (v : List ℕ) (n : ℕ) → length v ≡ n + 1 → length (next_sibling v) ≡ length v
not_empty [] n e = absurd (omega arith)
not_empty (x ∷ v) n e = sibling_is_as_long v x

-- the sibling of a leaf's vector is as long
long_sibling : (parameters : ℕ) (leaf : Leaf) → IsSoundLeaf parameters leaf → length (next_sibling leaf.beta) ≡ length leaf.beta
long_sibling parameters leaf sound = not_empty leaf.beta (length leaf.statement.schedule.levels) (sym (length-map leaf.beta (λ b. pos b)) ∙ sound.shape.schedule.relation.betas)

sound_halves : (parameters : ℕ) (p xs ns : List ℤ) (c : ℤ) (leaf : Leaf) → leaf.beta ≡ map natural p → has_full_part leaf.statement ≡ false → IsSoundLeaf parameters leaf
    → All (IsSoundLeaf parameters) (halves (map natural p) xs ns c leaf)
sound_halves parameters p xs ns c leaf same room sound =
    let other = record leaf { statement = restricted (map neg_ℤ xs) (map neg_ℤ ns) (neg_ℤ c +ℤ negsuc 0) leaf.statement } in
    let half : IsSoundLeaf parameters other = sound_restricted parameters (map neg_ℤ xs) (map neg_ℤ ns) (neg_ℤ c +ℤ negsuc 0) leaf room sound in
    let long : length (next_sibling (map natural p)) ≡ length leaf.beta = subst (λ v. length (next_sibling v) ≡ length leaf.beta) same (long_sibling parameters leaf sound) in
    All-cons (IsSoundLeaf parameters) (record leaf { statement = restricted xs ns c leaf.statement }) (with_beta (next_sibling (map natural p)) other ∷ [])
    (sound_restricted parameters xs ns c leaf room sound)
    (All-cons (IsSoundLeaf parameters) (with_beta (next_sibling (map natural p)) other) [] (sound_beta parameters other (next_sibling (map natural p)) long half) (All-nil (IsSoundLeaf parameters)))

split_leaf_sound : (parameters : ℕ) (p xs ns : List ℤ) (c : ℤ) (V : List (List ℕ)) (leaf : Leaf) → (is_under (map natural p) leaf.beta ≡ true → not (has_full_part leaf.statement) ≡ true)
    → IsSoundLeaf parameters leaf → All (IsSoundLeaf parameters) (leaf_after (Iss p xs ns c) V leaf)
split_leaf_sound parameters p xs ns c V leaf full sound =
    let either : Bool → List Leaf = λ u. if u then halves (map natural p) xs ns c leaf else with_beta (room (map natural p) leaf.beta) leaf ∷ [] in
    elim (bool_tells (same_vector leaf.beta (map natural p))) [
      | inl t ↦
          let same = same_vector_yes leaf.beta (map natural p) t in
          let under : is_under (map natural p) leaf.beta ≡ true = subst (λ v. is_under (map natural p) v ≡ true) (sym same) (own_prefix (map natural p)) in
          subst (λ u. All (IsSoundLeaf parameters) (either u)) (sym t) (sound_halves parameters p xs ns c leaf same (not_true (has_full_part leaf.statement) (full under)) sound)
      | inr f ↦
          subst (λ u. All (IsSoundLeaf parameters) (either u)) (sym f)
          (All-cons (IsSoundLeaf parameters) (with_beta (room (map natural p) leaf.beta) leaf) []
          (sound_beta parameters leaf (room (map natural p) leaf.beta) ((operations_keep_lengths.3 (map natural p)).same leaf.beta) sound) (All-nil (IsSoundLeaf parameters)))
    ]

split_sound : (parameters : ℕ) (p xs ns : List ℤ) (c : ℤ) (V : List (List ℕ)) (D : Draft) → AllUnder (map natural p) (λ s. not (has_full_part s) ≡ true) D → All (IsSoundLeaf parameters) D
    → All (IsSoundLeaf parameters) (flat_map (leaf_after (Iss p xs ns c) V) D)
split_sound parameters p xs ns c V [] room sound = All-nil (IsSoundLeaf parameters)
split_sound parameters p xs ns c V (leaf ∷ D) room sound =
    All-append (IsSoundLeaf parameters) (leaf_after (Iss p xs ns c) V leaf) (flat_map (leaf_after (Iss p xs ns c) V) D)
    (split_leaf_sound parameters p xs ns c V leaf room.0 (All-head (IsSoundLeaf parameters) leaf D sound))
    (split_sound parameters p xs ns c V D room.1 (All-tail (IsSoundLeaf parameters) leaf D sound))

-- as many leaves as vectors
split_counts : (p xs ns : List ℤ) (c : ℤ) (V : List (List ℕ)) (D : Draft) → length (flat_map (leaf_after (Iss p xs ns c) V) D) ≡ length (flat_map (leaf_split (map natural p)) (betas_of D))
split_counts p xs ns c V [] = refl
split_counts p xs ns c V (leaf ∷ D) =
    let more = split_counts p xs ns c V D in
    let one : length (leaf_after (Iss p xs ns c) V leaf) ≡ length (leaf_split (map natural p) leaf.beta) =
    elim (same_vector leaf.beta (map natural p)) as (λ u. length (if u then halves (map natural p) xs ns c leaf else with_beta (room (map natural p) leaf.beta) leaf ∷ [])
    ≡ length (if u then leaf.beta ∷ (next_sibling (map natural p) ∷ []) else room (map natural p) leaf.beta ∷ [])) [ true ↦ refl | false ↦ refl ] in
    let a = length-append (leaf_after (Iss p xs ns c) V leaf) (flat_map (leaf_after (Iss p xs ns c) V) D) in
    let b = length-append (leaf_split (map natural p) leaf.beta) (flat_map (leaf_split (map natural p)) (betas_of D)) in
    omega arith

-- what a command that is not refused passes

some_none : {X : Type 0} → (x : X) → Some x ≡ None → ⊥
some_none x h = cc

or_right : (a b : Bool) → (a || b) ≡ false → b ≡ false
or_right true b h = absurd (cc)
or_right false b h = h

weight_of_none : (i n : ℕ) → (if nat_le (2 ^ 127) n then Some (refusal.Overflow count.Command i) else None) ≡ None → n < 2 ^ 127
weight_of_none i n h =
    elim (bool_tells (nat_le (2 ^ 127) n)) [
      | inl t ↦ absurd (some_none (refusal.Overflow count.Command i) (sym (ap (λ b. if b then Some (refusal.Overflow count.Command i) else None) t) ∙ h))
      | inr f ↦ leb-false (2 ^ 127) n f
    ]

split_room : (i n : ℕ) (all : Bool) → (if nat_le 1024 n then Some (refusal.Limit Statements i) else (if not all then Some (refusal.Limit Rows i) else None)) ≡ None → all ≡ true
split_room i n true h = refl
split_room i n false h =
    elim (bool_tells (nat_le 1024 n)) [
      | inl t ↦ absurd (some_none (refusal.Limit Statements i) (sym (ap (λ b. if b then Some (refusal.Limit Statements i) else Some (refusal.Limit Rows i)) t) ∙ h))
      | inr f ↦ absurd (some_none (refusal.Limit Rows i) (sym (ap (λ b. if b then Some (refusal.Limit Statements i) else Some (refusal.Limit Rows i)) f) ∙ h))
    ]

first_none : {X : Type 0} (a b : Option X) → or_else a b ≡ None → a ≡ None
first_none None b h = refl
first_none (Some x) b h = absurd (some_none x h)

second_none : {X : Type 0} (a b : Option X) → or_else a b ≡ None → b ≡ None
second_none None b h = h
second_none (Some x) b h = absurd (some_none x h)

pub record Unrefused (parameters i : ℕ) (command : Command) (D : Draft) : Type 0 where
  pub some : no_statement (prefix_in command) (betas_of D) ≡ false
  pub condition : condition_under parameters i command (prefix_in command) D ≡ None
  pub limit : limit_of i command D ≡ None
  pub weight : most_under (prefix_in command) (statement_weight command) D < 2 ^ 127

pub unrefused : (parameters i : ℕ) (command : Command) (D : Draft) → refusal_at parameters i command D ≡ None → Unrefused parameters i command D
unrefused parameters i command D h =
    let con = first_none (condition_of parameters i command D) (or_else (limit_of i command D) (overflow_of i command D)) h in
    let rest = second_none (condition_of parameters i command D) (or_else (limit_of i command D) (overflow_of i command D)) h in
    let over = second_none (limit_of i command D) (overflow_of i command D) rest in
    let t = not (are_natural (prefix_of command)) || no_statement (prefix_in command) (betas_of D) in
    let later = condition_under parameters i command (prefix_in command) D in
    elim (bool_tells t) [
      | inl y ↦ absurd (some_none (refusal.NoBeta i) (sym (ap (λ b. if b then Some (refusal.NoBeta i) else later) y) ∙ con))
      | inr n ↦ record {
        some = or_right (not (are_natural (prefix_of command))) (no_statement (prefix_in command) (betas_of D)) n;
        condition = sym (ap (λ b. if b then Some (refusal.NoBeta i) else later) n) ∙ con;
        limit = first_none (limit_of i command D) (overflow_of i command D) rest;
        weight = weight_of_none i (most_under (prefix_in command) (statement_weight command) D) over;
      }
    ]

-- a draft after a command that is not refused

vector_lengths : (command : Command) (V : List (List ℕ)) → IsVectorCommand command → (v : List ℕ) → length (vector_after command V v) ≡ length v
vector_lengths (Fission p c) V is v = (operations_keep_lengths.0 (map natural p) (natural c)).same v
vector_lengths (Fuse p) V is v = (operations_keep_lengths.1 (map natural p) (children_of (map natural p) V)).same v
vector_lengths (Reorder p order) V is v = (operations_keep_lengths.2 (map natural p) (order_in order)).same v
vector_lengths (Interchange p j l) V is v = absurd is
vector_lengths (Skew p j l f) V is v = absurd is
vector_lengths (Shift p j w c) V is v = absurd is
vector_lengths (Reverse p j) V is v = absurd is
vector_lengths (Stripmine p j s) V is v = absurd is
vector_lengths (Tile p j s t) V is v = absurd is
vector_lengths (Iss p xs ns c) V is v = absurd is

after_vectors : (parameters : ℕ) (command : Command) (D : Draft) → IsVectorCommand command → IsSound parameters D → IsSound parameters (draft_after command D)
after_vectors parameters command D is sound =
    let f : Leaf → Leaf = λ leaf. with_beta (vector_after command (betas_of D) leaf.beta) leaf in
    let made : draft_after command D ≡ map f D = maps_to f (leaf_after command (betas_of D)) D (λ leaf. vector_leaf command (betas_of D) leaf is) in
    record {
      leaves = subst (λ E. All (IsSoundLeaf parameters) E) (sym made)
          (sound_vectors parameters (vector_after command (betas_of D)) D (vector_lengths command (betas_of D) is) sound.leaves);
      few = subst (λ E. length E ≤ 1024) (sym made) (subst (λ n. n ≤ 1024) (sym (length-map D f)) sound.few);
    }

after_plain : (parameters i : ℕ) (command : Command) (D : Draft) → IsPlainCommand command → IsSound parameters D → Unrefused parameters i command D → IsSound parameters (draft_after command D)
after_plain parameters i command D is sound un =
    let made = plain_draft command D is in
    record {
      leaves = subst (λ E. All (IsSoundLeaf parameters) E) (sym made)
          (sound_plain parameters command (prefix_in command) D is (changeable parameters i command (prefix_in command) D sound.leaves (plain_forms command is).0 un.condition) sound.leaves);
      few = subst (λ E. length E ≤ 1024) (sym made) (subst (λ n. n ≤ 1024) (sym (length-map D (changed command (prefix_in command)))) sound.few);
    }

can_cuts : (parameters i : ℕ) (command : Command) (k : ℤ) (D : Draft) → IsCut command k → All (IsSoundLeaf parameters) D → Unrefused parameters i command D
    → AllUnder (prefix_in command) (CanCut command k) D
can_cuts parameters i command k D is sound un =
    let P = prefix_in command in
    let change = changeable parameters i command P D sound (cut_forms command k is) un.condition in
    let level = passes P (has_level k) D (cut_condition parameters i command k P D is un.condition).0 in
    let weight = all_below P (statement_weight command) (2 ^ 127) D un.weight in
    let room = cut_room i P D (sym (limit_is i command k P D (cut_limit i P D) is refl refl) ∙ un.limit) in
    let levels = all_below P (λ s. length s.schedule.levels) 24 D room.levels in
    let floors = all_below P (λ s. length s.schedule.floors) 24 D room.floors in
    AllUnder-with P (λ s. IsChangeable command s × (has_level k s ≡ true)) (λ s. (statement_weight command s < 2 ^ 127) × (length s.schedule.levels < 24) × (length s.schedule.floors < 24)) (CanCut command k)
    (λ s a b. record { changeable = a.0; level = a.1; weight = b.0; levels = b.1; floors = b.2 }) D
    (AllUnder-with P (IsChangeable command) (λ s. has_level k s ≡ true) (λ s. IsChangeable command s × (has_level k s ≡ true)) (λ s a b. (a, b)) D change level)
    (AllUnder-with P (λ s. statement_weight command s < 2 ^ 127) (λ s. (length s.schedule.levels < 24) × (length s.schedule.floors < 24))
    (λ s. (statement_weight command s < 2 ^ 127) × (length s.schedule.levels < 24) × (length s.schedule.floors < 24)) (λ s a b. (a, b.0, b.1)) D weight
    (AllUnder-with P (λ s. length s.schedule.levels < 24) (λ s. length s.schedule.floors < 24) (λ s. (length s.schedule.levels < 24) × (length s.schedule.floors < 24)) (λ s a b. (a, b)) D levels floors))

after_cut : (parameters i : ℕ) (command : Command) (k : ℤ) (D : Draft) → IsCut command k → SizesFit command → IsSound parameters D → Unrefused parameters i command D
    → IsSound parameters (draft_after command D)
after_cut parameters i command k D is fits sound un =
    let made : draft_after command D ≡ map (cut_leaf command k) D = maps_to (cut_leaf command k) (leaf_after command (betas_of D)) D (λ leaf. leaf_cut command k (betas_of D) leaf is) in
    record {
      leaves = subst (λ E. All (IsSoundLeaf parameters) E) (sym made) (sound_cuts parameters command k D is fits (can_cuts parameters i command k D is sound.leaves un) sound.leaves);
      few = subst (λ E. length E ≤ 1024) (sym made) (subst (λ n. n ≤ 1024) (sym (length-map D (cut_leaf command k))) sound.few);
    }

after_split : (parameters i : ℕ) (p xs ns : List ℤ) (c : ℤ) (D : Draft) → IsSound parameters D → IsTree (betas_of D) → Unrefused parameters i (Iss p xs ns c) D
    → IsSound parameters (draft_after (Iss p xs ns c) D)
after_split parameters i p xs ns c D sound tree un =
    let P = map natural p in
    let room = split_room i (length D) (all_under P (λ s. not (has_full_part s)) D) un.limit in
    let facts = facts_of parameters i p xs ns c P D un.condition un.limit sound in
    let counts = split_counts p xs ns c (betas_of D) D in
    let long = split_long P D tree.free facts.within in
    let less = facts.few in
    record {
      leaves = split_sound parameters p xs ns c (betas_of D) D (passes P (λ s. not (has_full_part s)) D room) sound.leaves;
      few = subst (λ n. n ≤ 1024) (sym (counts ∙ long)) (omega arith);
    }

pub sound_after : (parameters i : ℕ) (command : Command) (D : Draft) → IsSound parameters D → IsTree (betas_of D) → SizesFit command → refusal_at parameters i command D ≡ None
    → IsSound parameters (draft_after command D)
sound_after parameters i (Fission p c) D sound tree fits h = after_vectors parameters (Fission p c) D tt sound
sound_after parameters i (Fuse p) D sound tree fits h = after_vectors parameters (Fuse p) D tt sound
sound_after parameters i (Reorder p order) D sound tree fits h = after_vectors parameters (Reorder p order) D tt sound
sound_after parameters i (Interchange p j l) D sound tree fits h = after_plain parameters i (Interchange p j l) D tt sound (unrefused parameters i (Interchange p j l) D h)
sound_after parameters i (Skew p j l f) D sound tree fits h = after_plain parameters i (Skew p j l f) D tt sound (unrefused parameters i (Skew p j l f) D h)
sound_after parameters i (Shift p j w c) D sound tree fits h = after_plain parameters i (Shift p j w c) D tt sound (unrefused parameters i (Shift p j w c) D h)
sound_after parameters i (Reverse p j) D sound tree fits h = after_plain parameters i (Reverse p j) D tt sound (unrefused parameters i (Reverse p j) D h)
sound_after parameters i (Stripmine p j s) D sound tree fits h = after_cut parameters i (Stripmine p j s) j D refl fits sound (unrefused parameters i (Stripmine p j s) D h)
sound_after parameters i (Tile p j s t) D sound tree fits h = after_cut parameters i (Tile p j s t) j D refl fits sound (unrefused parameters i (Tile p j s t) D h)
sound_after parameters i (Iss p xs ns c) D sound tree fits h = after_split parameters i p xs ns c D sound tree (unrefused parameters i (Iss p xs ns c) D h)
