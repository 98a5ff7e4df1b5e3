-- Where a script brings an instance: the number and the values along the leaves.
use Rattle.std.proofs.Common.{◌≡◌, ℕ, zero, suc, ◌+◌, ◌<◌, ◌^◌, Bool, true, false, if◌then◌else◌, Option, Some, None, List, [], ◌∷◌, length, map, ℤ, pos, negsuc, neg_ℤ, ◌+ℤ◌, ◌≤ℤ◌, int_le, refl, ap, sym, subst, ◌∙◌, arith}
use Rattle.std.specs.Prelude.{slice_get, IsSomeAnd, is_none}
use Rattle.std.proofs.lemmas.Int.{ints}
use Rattle.std.proofs.lemmas.List.{length-map}
use Rattle.row_core.specs.Dense.{dense_among, dense_of}
use Rattle.beta_tree.specs.Edits.{same_vector}
use Rattle.beta_tree.proofs.Orders.{and_left, and_right}
use Rattle.scop_data.specs.declared.schedules.Schedule.{Schedule}
use Rattle.scop_data.specs.declared.statements.Statement.{Statement}
use Rattle.scop_core.specs.ScopData.{ScopData, betas_in}
use Rattle.scop_core.specs.Sequences.{In}
use Rattle.scop_core.specs.Validity.{IsValid}
use Rattle.scop_core.specs.Meaning.{Instance, InDomain, IsInstance, interleaved, statement_at, stamp_in}
use Rattle.scop_core.specs.LevelOrder.{level_values}
use Rattle.dependence_systems.specs.Sides.{member}
use Rattle.dependence_systems.specs.Originals.{as_original}
use Rattle.clay_script.specs.declared.commands.Command.{Command}
use Rattle.clay_script.specs.declared.commands.Command.TheVariants.{Fission, Fuse, Reorder, Interchange, Skew, Shift, Reverse, Stripmine, Tile, Iss}
use Rattle.clay_commands.specs.declared.leaves.Leaf.{Leaf}
use Rattle.clay_commands.specs.Arguments.{natural, prefix_in}
use Rattle.clay_commands.specs.Drafts.{Draft, betas_of, is_under, forms_after, scheduled, leaves_from, drafted, draft_after, drafts_after}
use Rattle.clay_commands.specs.Refusals.{condition_of, is_formed}
use Rattle.clay_commands.specs.Spots.{Spot, Place, vectors_after, vector_at, number_of, number_after, values_after, spot_after, places_after, values_in, placed, edits, stamp_at}
use Rattle.clay_commands.specs.Steps.{AllUnder}
use Rattle.clay_commands.specs.Afters.{closed_leaf, closed, after_script, IsFormed}
use Rattle.clay_commands.proofs.Changeables.{le_true}
use Rattle.clay_commands.proofs.Closings.{drafted_betas}
use Rattle.edit_laws.specs.Stamping.{edited_instance, IsBrought, ScriptsBringInstances, SplitsNone, ScriptsEditValues, RunsHaveEditedInstances}
use Rattle.edit_laws.proofs.Levels.{AreWide, IsWithin, values_follow}
use Rattle.edit_laws.proofs.Pieces.{Fits}
use Rattle.edit_laws.proofs.Domains.{condition_at, parts_to, other_value}
use Rattle.edit_laws.proofs.Comes.{AllHave, step_has}
use Rattle.edit_laws.proofs.Once.{own_prefix}
use Rattle.edit_laws.proofs.Scripts.{step_fits, start_has}
use Rattle.edit_laws.proofs.Instances.{same_some, member_map, have_at, original_is, new_statement, same_instance, scripts_keep_instances}
use Rattle.edit_laws.proofs.Vectors.{IsWhole, whole_leaf, whole_leaves, betas_after}
use Rattle.edit_laws.proofs.Runs.{IsPlanted, step_planted, step_long, start_planted, start_long}
use Rattle.edit_laws.proofs.Numbers.{split_part, part_of, split_member}

-- a place among the leaves: the leaf of its number comes from statement j, and the values are those of the leaf's levels
pub record Stands (Q : Statement → Type 0) (D : Draft) (j : ℕ) (x n : List ℤ) (at : Place) : Type 0 where
  pub leaf : Leaf
  pub found : member D at.spot.number ≡ Some leaf
  pub number : leaf.original ≡ j
  pub values : at.spot.values ≡ level_values leaf.statement.schedule x n
  pub vectors : at.vectors ≡ betas_of D
  pub holds : Q leaf.statement

-- the place after a command
abbrev pub step_place : Command → List ℤ → List ℤ → Place → Place
step_place command x n at = record { vectors = vectors_after command at.vectors; spot = spot_after command at.vectors x n at.spot }

vector_is : (D : Draft) (m : ℕ) (leaf : Leaf) → member D m ≡ Some leaf → vector_at (betas_of D) m ≡ leaf.beta
vector_is [] zero leaf e = absurd (cc)
vector_is [] (suc m) leaf e = absurd (cc)
vector_is (d ∷ D) zero leaf e = absurd (cc)
vector_is (d ∷ D) (suc zero) leaf e = ap (λ t. t.beta) (same_some d leaf e)
vector_is (d ∷ D) (suc (suc m)) leaf e = vector_is D (suc m) leaf e

under_at : (P : List ℕ) (H : Statement → Type 0) (D : Draft) (m : ℕ) (leaf : Leaf) → AllUnder P H D → member D m ≡ Some leaf → is_under P leaf.beta ≡ true → H leaf.statement
under_at P H [] zero leaf h e = absurd (cc)
under_at P H [] (suc m) leaf h e = absurd (cc)
under_at P H (d ∷ D) zero leaf h e = absurd (cc)
under_at P H (d ∷ D) (suc zero) leaf h e = subst (λ t. is_under P t.beta ≡ true → H t.statement) (same_some d leaf e) h.0
under_at P H (d ∷ D) (suc (suc m)) leaf h e = under_at P H D (suc m) leaf h.1 e

-- a command that splits nothing

abbrev spot_if : Command → List ℤ → Spot → Bool → Spot
spot_if command n spot b = if b then record spot { values = values_after command n spot.values } else spot

whole_spot : (command : Command) (V : List (List ℕ)) (x n : List ℤ) (spot : Spot) → IsWhole command → spot_after command V x n spot ≡ spot_if command n spot (is_under (prefix_in command) (vector_at V spot.number))
whole_spot (Fission p c) V x n spot h = refl
whole_spot (Fuse p) V x n spot h = refl
whole_spot (Reorder p order) V x n spot h = refl
whole_spot (Interchange p k l) V x n spot h = refl
whole_spot (Skew p k l f) V x n spot h = refl
whole_spot (Shift p k v c) V x n spot h = refl
whole_spot (Reverse p k) V x n spot h = refl
whole_spot (Stripmine p k s) V x n spot h = refl
whole_spot (Tile p k s t) V x n spot h = refl
whole_spot (Iss p xs ns c) V x n spot h = absurd h

number_if : (command : Command) (n : List ℤ) (spot : Spot) (b : Bool) → (spot_if command n spot b).number ≡ spot.number
number_if command n spot true = refl
number_if command n spot false = refl

values_if : (command : Command) (x n : List ℤ) (spot : Spot) (s : Statement) (b : Bool) → (b ≡ true → IsWithin command s.schedule.levels) → AreWide (length s.schedule.floors) s.schedule.levels
    → spot.values ≡ level_values s.schedule x n
    → (spot_if command n spot b).values ≡ level_values (if b then scheduled s (forms_after command s.schedule) else s).schedule x n
values_if command x n spot s true h w e = ap (λ v. values_after command n v) e ∙ sym (values_follow command s.schedule x n (h refl) w)
values_if command x n spot s false h w e = e

holds_if : (Q : Statement → Type 0) (command : Command) (s : Statement) (b : Bool) → ((t : Statement) (schedule : Schedule) → Q t → Q (scheduled t schedule)) → Q s
    → Q (if b then scheduled s (forms_after command s.schedule) else s)
holds_if Q command s true keep q = keep s (forms_after command s.schedule) q
holds_if Q command s false keep q = q

-- the spot, by the leaf's vector
spot_is : (command : Command) (D : Draft) (x n : List ℤ) (at : Place) (leaf : Leaf) → IsWhole command → at.vectors ≡ betas_of D → member D at.spot.number ≡ Some leaf
    → spot_after command at.vectors x n at.spot ≡ spot_if command n at.spot (is_under (prefix_in command) leaf.beta)
spot_is command D x n at leaf h e found =
    whole_spot command at.vectors x n at.spot h
    ∙ ap (λ v. spot_if command n at.spot (is_under (prefix_in command) v)) (ap (λ V. vector_at V at.spot.number) e ∙ vector_is D at.spot.number leaf found)

whole_number : (Q : Statement → Type 0) (command : Command) (D : Draft) (j : ℕ) (x n : List ℤ) (at : Place) → IsWhole command → Stands Q D j x n at
    → (step_place command x n at).spot.number ≡ at.spot.number
whole_number Q command D j x n at h st =
    ap (λ s. s.number) (spot_is command D x n at st.leaf h st.vectors st.found) ∙ number_if command n at.spot (is_under (prefix_in command) st.leaf.beta)

step_whole : (m : ℕ) (old : List Statement) (Q : Statement → Type 0) → ((t : Statement) (schedule : Schedule) → Q t → Q (scheduled t schedule)) → (command : Command) (D : Draft) (j : ℕ) (x n : List ℤ) (at : Place)
    → IsWhole command → AllHave old D → AllUnder (prefix_in command) (Fits m command) D → Stands Q D j x n at → Stands Q (draft_after command D) j x n (step_place command x n at)
step_whole m old Q keep command D j x n at h have fit st =
    let V = betas_of D in
    let leaf = st.leaf in
    let b = is_under (prefix_in command) leaf.beta in
    let spot : spot_after command at.vectors x n at.spot ≡ spot_if command n at.spot b = spot_is command D x n at leaf h st.vectors st.found in
    let wide = (have_at old D at.spot.number leaf have st.found).comes.wide in
    record {
      leaf = whole_leaf command V leaf;
      found = ap (λ k. member (draft_after command D) k) (whole_number Q command D j x n at h st)
          ∙ ap (λ L. member L at.spot.number) (whole_leaves command V D h) ∙ member_map (whole_leaf command V) D at.spot.number leaf st.found;
      number = st.number;
      values = ap (λ s. s.values) spot
          ∙ values_if command x n at.spot leaf.statement b (λ u. (under_at (prefix_in command) (Fits m command) D at.spot.number leaf fit st.found u).within) wide st.values;
      vectors = ap (λ W. vectors_after command W) st.vectors ∙ sym (betas_after command D);
      holds = holds_if Q command leaf.statement b keep st.holds;
    }

-- a split

abbrev Inside : List ℤ → List ℤ → Statement → Type 0
Inside x n s = InDomain s x n

part_values : (P : List ℕ) (xs ns : List ℤ) (c : ℤ) (own b : Bool) (leaf : Leaf) (x n : List ℤ)
    → level_values leaf.statement.schedule x n ≡ level_values (part_of P xs ns c own b leaf).statement.schedule x n
part_values P xs ns c true true leaf x n = refl
part_values P xs ns c true false leaf x n = refl
part_values P xs ns c false b leaf x n = refl

part_original : (P : List ℕ) (xs ns : List ℤ) (c : ℤ) (own b : Bool) (leaf : Leaf) → (part_of P xs ns c own b leaf).original ≡ leaf.original
part_original P xs ns c true true leaf = refl
part_original P xs ns c true false leaf = refl
part_original P xs ns c false b leaf = refl

le_false : (f : ℤ) → int_le (pos 0) f ≡ false → pos 0 ≤ℤ (neg_ℤ f +ℤ negsuc 0)
le_false f h = omega (arith, ints)

part_inside : (P : List ℕ) (xs ns : List ℤ) (c : ℤ) (own b : Bool) (leaf : Leaf) (x n : List ℤ) → (own ≡ true → (length xs ≡ length leaf.statement.body.iterators) × (length ns ≡ length n))
    → int_le (pos 0) (condition_at xs ns c x n) ≡ b → InDomain leaf.statement x n → InDomain (part_of P xs ns c own b leaf).statement x n
part_inside P xs ns c true true leaf x n over h inside =
    let o = over refl in
    (inside.0, parts_to leaf.statement.domain xs ns c x n (o.0 ∙ sym inside.0) o.1 (le_true (pos 0) (condition_at xs ns c x n) h) inside.1)
part_inside P xs ns c true false leaf x n over h inside =
    let o = over refl in (
      inside.0,
      parts_to leaf.statement.domain (map neg_ℤ xs) (map neg_ℤ ns) (neg_ℤ c +ℤ negsuc 0) x n (length-map xs neg_ℤ ∙ o.0 ∙ sym inside.0) (length-map ns neg_ℤ ∙ o.1)
          (subst (λ z. pos 0 ≤ℤ z) (sym (other_value xs ns c x n)) (le_false (condition_at xs ns c x n) h)) inside.1,
    )
part_inside P xs ns c false b leaf x n over h inside = inside

step_split : (m : ℕ) (p xs ns : List ℤ) (c : ℤ) (D : Draft) (j : ℕ) (x n : List ℤ) (at : Place) → length n ≡ m → IsPlanted D
    → AllUnder (map natural p) (Fits m (Iss p xs ns c)) D → Stands (Inside x n) D j x n at → Stands (Inside x n) (draft_after (Iss p xs ns c) D) j x n (step_place (Iss p xs ns c) x n at)
step_split m p xs ns c D j x n at en planted fit st =
    let P = map natural p in
    let leaf = st.leaf in
    let b = int_le (pos 0) (condition_at xs ns c x n) in
    let own = same_vector leaf.beta P in
    let over : own ≡ true → (length xs ≡ length leaf.statement.body.iterators) × (length ns ≡ length n) =
    λ t. let o = (under_at P (Fits m (Iss p xs ns c)) D at.spot.number leaf fit st.found (own_prefix P leaf.beta t)).over in (o.0, o.1 ∙ sym en) in
    record {
      leaf = split_part P xs ns c b leaf;
      found = ap (λ V. member (draft_after (Iss p xs ns c) D) (number_after (number_of P V) b at.spot.number)) st.vectors
          ∙ split_member p xs ns c (betas_of D) D at.spot.number leaf b planted.tree.free st.found;
      number = part_original P xs ns c own b leaf ∙ st.number;
      values = st.values ∙ part_values P xs ns c own b leaf x n;
      vectors = ap (λ W. vectors_after (Iss p xs ns c) W) st.vectors ∙ sym (betas_after (Iss p xs ns c) D);
      holds = part_inside P xs ns c own b leaf x n over refl st.holds;
    }

keep_inside : (x n : List ℤ) (t : Statement) (schedule : Schedule) → Inside x n t → Inside x n (scheduled t schedule)
keep_inside x n t schedule h = h

step_any : (m : ℕ) (old : List Statement) (command : Command) (D : Draft) (j : ℕ) (x n : List ℤ) (at : Place) → length n ≡ m → AllHave old D → IsPlanted D
    → AllUnder (prefix_in command) (Fits m command) D → Stands (Inside x n) D j x n at → Stands (Inside x n) (draft_after command D) j x n (step_place command x n at)
step_any m old (Fission p c) D j x n at en have planted fit st = step_whole m old (Inside x n) (keep_inside x n) (Fission p c) D j x n at tt have fit st
step_any m old (Fuse p) D j x n at en have planted fit st = step_whole m old (Inside x n) (keep_inside x n) (Fuse p) D j x n at tt have fit st
step_any m old (Reorder p order) D j x n at en have planted fit st = step_whole m old (Inside x n) (keep_inside x n) (Reorder p order) D j x n at tt have fit st
step_any m old (Interchange p k l) D j x n at en have planted fit st = step_whole m old (Inside x n) (keep_inside x n) (Interchange p k l) D j x n at tt have fit st
step_any m old (Skew p k l f) D j x n at en have planted fit st = step_whole m old (Inside x n) (keep_inside x n) (Skew p k l f) D j x n at tt have fit st
step_any m old (Shift p k v c) D j x n at en have planted fit st = step_whole m old (Inside x n) (keep_inside x n) (Shift p k v c) D j x n at tt have fit st
step_any m old (Reverse p k) D j x n at en have planted fit st = step_whole m old (Inside x n) (keep_inside x n) (Reverse p k) D j x n at tt have fit st
step_any m old (Stripmine p k s) D j x n at en have planted fit st = step_whole m old (Inside x n) (keep_inside x n) (Stripmine p k s) D j x n at tt have fit st
step_any m old (Tile p k s t) D j x n at en have planted fit st = step_whole m old (Inside x n) (keep_inside x n) (Tile p k s t) D j x n at tt have fit st
step_any m old (Iss p xs ns c) D j x n at en have planted fit st = step_split m p xs ns c D j x n at en planted fit st

all_stand : (m : ℕ) (old : List Statement) (script : List Command) (D : Draft) (j : ℕ) (x n : List ℤ) (at : Place) → length n ≡ m → is_formed m script D ≡ true → AllHave old D → IsPlanted D
    → length D + length script < 2 ^ 32 → Stands (Inside x n) D j x n at → Stands (Inside x n) (drafts_after script D) j x n (places_after script x n at)
all_stand m old [] D j x n at en h have planted few st = st
all_stand m old (command ∷ script) D j x n at en h have planted few st =
    let first = and_left (is_none (condition_of m 1 command D)) (is_formed m script (draft_after command D)) h in
    let rest = and_right (is_none (condition_of m 1 command D)) (is_formed m script (draft_after command D)) h in
    let fit = step_fits m command D first in
    let long = step_long command D planted in
    all_stand m old script (draft_after command D) j x n (step_place command x n at) en rest (step_has m command old D fit have)
    (step_planted m command D first planted (omega (arith, few))) (omega (arith, few, long)) (step_any m old command D j x n at en have planted fit st)

-- without a split, at all integers

split_none : (command : Command) (script : List Command) → SplitsNone (command ∷ script) → IsWhole command × SplitsNone script
split_none (Fission p c) script h = (tt, h)
split_none (Fuse p) script h = (tt, h)
split_none (Reorder p order) script h = (tt, h)
split_none (Interchange p k l) script h = (tt, h)
split_none (Skew p k l f) script h = (tt, h)
split_none (Shift p k v c) script h = (tt, h)
split_none (Reverse p k) script h = (tt, h)
split_none (Stripmine p k s) script h = (tt, h)
split_none (Tile p k s t) script h = (tt, h)
split_none (Iss p xs ns c) script h = absurd h

abbrev Anywhere : Statement → Type 0
Anywhere s = Unit {0}

record Kept (D : Draft) (j k : ℕ) (x n : List ℤ) (at : Place) : Type 0 where
  stands : Stands Anywhere D j x n at
  number : at.spot.number ≡ k

all_kept : (m : ℕ) (old : List Statement) (script : List Command) (D : Draft) (j k : ℕ) (x n : List ℤ) (at : Place) → SplitsNone script → is_formed m script D ≡ true → AllHave old D
    → Kept D j k x n at → Kept (drafts_after script D) j k x n (places_after script x n at)
all_kept m old [] D j k x n at none h have st = st
all_kept m old (command ∷ script) D j k x n at none h have st =
    let first = and_left (is_none (condition_of m 1 command D)) (is_formed m script (draft_after command D)) h in
    let rest = and_right (is_none (condition_of m 1 command D)) (is_formed m script (draft_after command D)) h in
    let fit = step_fits m command D first in
    let whole = split_none command script none in
    all_kept m old script (draft_after command D) j k x n (step_place command x n at) whole.1 rest (step_has m command old D fit have)
    (record {
      stands = step_whole m old Anywhere (λ t schedule q. tt) command D j x n at whole.0 have fit st.stands;
      number = whole_number Anywhere command D j x n at whole.0 st.stands ∙ st.number;
    })

-- at the start

record LeafFrom (k : ℕ) (V : List (List ℕ)) (statements : List Statement) (i : ℕ) (s : Statement) : Type 0 where
  beta : List ℕ
  found : slice_get (leaves_from k V statements) i ≡ Some (record { beta = beta; statement = s; original = k + i })

some_leaf : List ℕ → Statement → ℕ → Option Leaf
some_leaf v s k = Some (record { beta = v; statement = s; original = k })

leaf_from : (k : ℕ) (V : List (List ℕ)) (statements : List Statement) (i : ℕ) (s : Statement) → length V ≡ length statements → slice_get statements i ≡ Some s → LeafFrom k V statements i s
unfolding some_leaf
leaf_from k [] [] i s l e = absurd (cc)
leaf_from k [] (t ∷ statements) i s l e = absurd (omega (arith, l))
leaf_from k (v ∷ V) [] i s l e = absurd (omega (arith, l))
leaf_from k (v ∷ V) (t ∷ statements) zero s l e =
    let here : k ≡ k + 0 = omega arith in
    record { beta = v; found = ap (λ u. some_leaf v u k) (same_some t s e) ∙ ap (λ m. some_leaf v s m) here }
leaf_from k (v ∷ V) (t ∷ statements) (suc i) s l e =
    let next : (k + 1) + i ≡ k + suc i = omega arith in
    let f = leaf_from (k + 1) V statements i s (omega (arith, l)) e in
    record { beta = f.beta; found = f.found ∙ ap (λ m. some_leaf f.beta s m) next }

start_stands : (S : ScopData) (Q : Statement → Type 0) (k : ℕ) (s : Statement) (x n : List ℤ) → statement_at S.statements k ≡ Some s → Q s → Stands Q (drafted S) k x n (placed S k x n)
start_stands S Q zero s x n e q = absurd (cc)
start_stands S Q (suc i) s x n e q =
    let V = dense_of (betas_in S.statements) in
    let f = leaf_from 1 V S.statements i s (length-map (betas_in S.statements) (dense_among (betas_in S.statements)) ∙ length-map S.statements (λ t. t.schedule.betas)) e in
    record {
      leaf = record { beta = f.beta; statement = s; original = 1 + i };
      found = f.found;
      number = omega arith;
      values = ap (λ o. values_in o x n) e;
      vectors = sym (drafted_betas S);
      holds = q;
    }

-- the stamp at a place
stamp_there : (S : ScopData) (Q : Statement → Type 0) (D : Draft) (j : ℕ) (x n : List ℤ) (at : Place) → (st : Stands Q D j x n at)
    → stamp_in (statement_at (closed S D).statements at.spot.number) x n ≡ stamp_at at
stamp_there S Q D j x n at st =
    let vector : vector_at at.vectors at.spot.number ≡ st.leaf.beta = ap (λ V. vector_at V at.spot.number) st.vectors ∙ vector_is D at.spot.number st.leaf st.found in
    ap (λ o. stamp_in o x n) (new_statement S D at.spot.number st.leaf st.found)
    ∙ ap (λ v. interleaved (map (λ b. pos b) v) (level_values st.leaf.statement.schedule x n)) (sym vector)
    ∙ ap (λ v. interleaved (map (λ b. pos b) (vector_at at.vectors at.spot.number)) v) (sym st.values)

pub scripts_edit_values : ScriptsEditValues
scripts_edit_values S script valid formed none k s e x n =
    let D = drafts_after script (drafted S) in
    let m = S.context.shape.parameters in
    let at = edits S script k x n in
    let kept : Kept D k k x n at =
    all_kept m S.statements script (drafted S) k k x n (placed S k x n) none formed (start_has S valid) (record { stands = start_stands S Anywhere k s x n e tt; number = refl }) in
    let st = kept.stands in
    let there : statement_at (closed S D).statements k ≡ Some (closed_leaf st.leaf) =
    ap (λ j. statement_at (closed S D).statements j) (sym kept.number) ∙ new_statement S D at.spot.number st.leaf st.found in
    record {
      number = kept.number;
      values = st.values ∙ sym (ap (λ o. values_in o x n) there);
      stamp_is = sym (stamp_there S Anywhere D k x n at st) ∙ ap (λ j. stamp_in (statement_at (closed S D).statements j) x n) kept.number;
    }

record Named (o : Option Statement) (P : Statement → Type 0) : Type 0 where
  statement : Statement
  is : o ≡ Some statement
  has : P statement

named : (o : Option Statement) (P : Statement → Type 0) → IsSomeAnd o P → Named o P
named None P h = absurd h
named (Some s) P h = record { statement = s; is = refl; has = h }

brought : (S : ScopData) (script : List Command) → IsValid S → IsFormed S script → length S.statements + length script < 2 ^ 32 → (n : List ℤ) → length n ≡ S.context.shape.parameters
    → (a : Instance) → IsInstance S n a → IsBrought S script n a
brought S script valid formed few n en a i =
    let D = drafts_after script (drafted S) in
    let m = S.context.shape.parameters in
    let at = edits S script a.statement a.values n in
    let own = named (statement_at S.statements a.statement) (λ s. InDomain s a.values n) i in
    let st : Stands (Inside a.values n) D a.statement a.values n at =
    all_stand m S.statements script (drafted S) a.statement a.values n (placed S a.statement a.values n) en formed (start_has S valid) (start_planted S valid)
    (omega (arith, few, start_long S)) (start_stands S (Inside a.values n) a.statement own.statement a.values n own.is own.has) in
    record {
      there = subst (λ o. IsSomeAnd o (λ s. InDomain s a.values n)) (sym (new_statement S D at.spot.number st.leaf st.found)) st.holds;
      stamp_is = stamp_there S (Inside a.values n) D a.statement a.values n at st;
      original = same_instance _ a (original_is D at.spot.number st.leaf st.found ∙ st.number) refl;
    }

pub scripts_bring_instances : ScriptsBringInstances
scripts_bring_instances S script valid formed few n en =
    let maps = (scripts_keep_instances S script valid formed).instances n en in
    let of = (after_script S script).of in
    record {
      each = brought S script valid formed few n en;
      only = λ b i.
          let c = as_original of b in
          let h = brought S script valid formed few n en c (maps.into b i) in
          sym (maps.once (edited_instance S script n c) b h.there i h.original);
    }

pub runs_have_edited_instances : RunsHaveEditedInstances
runs_have_edited_instances S script valid formed few n M en run b = (
  λ i.
      let there = run.only b i in
      let a = as_original (after_script S script).of b in
      let maps = (scripts_keep_instances S script valid formed).instances n en in
      (a, maps.into b there, sym ((scripts_bring_instances S script valid formed few n en).only b there)),
  λ s. subst (λ c. In c M) s.2 (run.all (edited_instance S script n s.0) (brought S script valid formed few n en s.0 s.1).there),
)
