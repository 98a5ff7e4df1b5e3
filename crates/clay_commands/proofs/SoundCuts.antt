-- Leaves stay sound where a level is cut into strips.
use Rattle.std.proofs.Common.{◌≡◌, ℕ, zero, suc, ◌+◌, ◌*◌, ◌<◌, ◌≤◌, ◌^◌, nat_le, Bool, true, if◌then◌else◌, inl, inr, Some, None, List, [], ◌∷◌, ◌++◌, map, length, get_or, take, drop, ℤ, pos, negsuc, neg_ℤ, ◌+ℤ◌, ◌≤ℤ◌, int_le, unsigned_abs, refl, ap, sym, ◌∙◌, subst, arith, length-append}
use Rattle.std.specs.Prelude.{All, insert}
use Rattle.std.proofs.lemmas.Int.{ints}
use Rattle.std.proofs.lemmas.Bool.{leb-false}
use Rattle.std.proofs.lemmas.List.{length-map, length-replicate}
use Rattle.std.proofs.lemmas.List.Edits.{length-insert}
use Rattle.std.proofs.lemmas.List.Elements.{All-head, All-tail, All-cons, All-nil, All-append, All-take, All-drop, All-map, All-weaker, All-get_or}
use Rattle.beta_tree.proofs.Places.{bool_tells}
use Rattle.beta_tree.proofs.Orders.{and_right}
use Rattle.row_core.specs.Rows.{entry}
use Rattle.suite_base.specs.declared.refusals.Refusal.TheVariants.{Limit}
use Rattle.suite_base.specs.declared.refusals.Which.TheVariants.{Levels, Locals}
use Rattle.scop_data.specs.declared.affines.Affine.{Affine}
use Rattle.scop_data.specs.declared.schedules.Floor.{Floor}
use Rattle.scop_data.specs.declared.schedules.Schedule.{Schedule}
use Rattle.scop_data.specs.declared.statements.Statement.{Statement}
use Rattle.scop_core.specs.AffineSums.{widened, last_floor}
use Rattle.scop_core.specs.SolvedRows.{HasSizes, PairFits, zeros}
use Rattle.scop_core.specs.ReadBack.{UsesEarlier}
use Rattle.clay_script.specs.declared.commands.Command.{Command}
use Rattle.clay_script.specs.declared.commands.Command.TheVariants.{Fission, Fuse, Reorder, Interchange, Skew, Shift, Reverse, Stripmine, Tile, Iss}
use Rattle.clay_commands.specs.declared.leaves.Leaf.{Leaf}
use Rattle.clay_commands.specs.Arguments.{natural, prefix_in, place}
use Rattle.clay_commands.specs.Drafts.{Draft, is_under, with_beta, no_form, form_at, widened_floor, cut, forms_after, scheduled}
use Rattle.clay_commands.specs.Refusals.{has_level, floor_weight, statement_weight, most_under, cut_limit}
use Rattle.clay_commands.specs.Steps.{AllUnder, IsCut, IsChangeable}
use Rattle.clay_commands.specs.Soundness.{IsSoundLeaf, SizesFit}
use Rattle.clay_commands.proofs.Changeables.{le_true, level_place}
use Rattle.clay_commands.proofs.Cuts.{cut_leaf, longer_leaf}
use Rattle.clay_commands.proofs.SoundForms.{IsSoundSchedule, own_schedule, sound_with}

-- entries past the end, and of a form with one more 0

entry_past : (xs : List ℤ) (j : ℕ) → length xs ≤ j → entry xs j ≡ pos 0
entry_past [] j l = refl
entry_past (x ∷ xs) zero l = absurd (omega arith)
entry_past (x ∷ xs) (suc j) l = entry_past xs j (omega arith)

entry_widened : (xs : List ℤ) (j : ℕ) → entry (xs ++ pos 0 ∷ []) j ≡ entry xs j
entry_widened [] zero = refl
entry_widened [] (suc j) = refl
entry_widened (x ∷ xs) zero = refl
entry_widened (x ∷ xs) (suc j) = entry_widened xs j

long_widened : (xs : List ℤ) → length (xs ++ pos 0 ∷ []) ≡ length xs + 1
long_widened [] = refl
long_widened (x ∷ xs) = let more = long_widened xs in omega arith

widened_sizes : (d m p : ℕ) (a : Affine) → HasSizes d m p a → HasSizes d (m + 1) p (widened a)
widened_sizes d m p a x = record { iterators_are = x.iterators_are; floors_are = long_widened a.floors ∙ ap (λ n. n + 1) x.floors_are; parameters_are = x.parameters_are }

last_sizes : (d m p : ℕ) (a : Affine) → HasSizes d m p a → HasSizes d (m + 1) p (last_floor a)
last_sizes d m p a x = record {
  iterators_are = length-replicate (length a.iterators) (pos 0) ∙ x.iterators_are;
  floors_are =
      let zeros_long : length (zeros (length a.floors)) ≡ length a.floors = length-replicate (length a.floors) (pos 0) in
      let floors_long = x.floors_are in
      length-append (zeros (length a.floors)) (pos 1 ∷ []) ∙ (omega arith);
  parameters_are = length-replicate (length a.parameters) (pos 0) ∙ x.parameters_are;
}

-- what holds of each floor at its place holds of the widened floors and the new one
at_floors : (Q : ℕ → Floor → Type 0) (fs : List Floor) (new : Floor) → ((j : ℕ) (f : Floor) → Q j f → Q j (widened_floor f))
    → ((k : ℕ) (d : Floor) → k < length fs → Q k (get_or fs k d)) → Q (length fs) new
    → (k : ℕ) (d : Floor) → k < length (map widened_floor fs ++ new ∷ []) → Q k (get_or (map widened_floor fs ++ new ∷ []) k d)
at_floors Q [] new w all q zero d l = q
at_floors Q [] new w all q (suc k) d l = absurd (omega arith)
at_floors Q (f ∷ fs) new w all q zero d l = w 0 f (all 0 d (omega arith))
at_floors Q (f ∷ fs) new w all q (suc k) d l =
    let last : Q (suc (length fs)) new = subst (λ n. Q n new) (omega arith) q in
    at_floors (λ j. Q (suc j)) fs new (λ j g h. w (suc j) g h) (λ j e lt. all (suc j) e (omega arith)) last k d (omega arith)

widened_pair : (j : ℕ) (f : Floor) → PairFits j f → PairFits j (widened_floor f)
widened_pair j f h = record { local = subst (λ z. unsigned_abs (z +ℤ neg_ℤ f.size) < 2 ^ 127) (sym (entry_widened f.value.floors j)) h.local; constant = h.constant }

widened_earlier : (j : ℕ) (f : Floor) → UsesEarlier j f → UsesEarlier j (widened_floor f)
widened_earlier j f h = λ i l. entry_widened f.value.floors i ∙ h i l

abbrev pub new_floor : Affine → ℤ → Floor
new_floor a s = record { value = widened a; size = s }

new_pair : (m : ℕ) (a : Affine) (s : ℤ) → length a.floors ≡ m → pos 1 ≤ℤ s → unsigned_abs s < 2 ^ 127 → floor_weight a s < 2 ^ 127 → PairFits m (new_floor a s)
new_pair m a s e one fits weight =
    let none : entry (a.floors ++ pos 0 ∷ []) m ≡ pos 0 = entry_widened a.floors m ∙ entry_past a.floors m (omega arith) in
    let small : unsigned_abs (pos 0 +ℤ neg_ℤ s) < 2 ^ 127 = omega (arith, ints) in
    record {
      local = subst (λ z. unsigned_abs (z +ℤ neg_ℤ s) < 2 ^ 127) (sym none) small;
      constant = omega (arith, ints);
    }

new_earlier : (m : ℕ) (a : Affine) (s : ℤ) → length a.floors ≡ m → UsesEarlier m (new_floor a s)
new_earlier m a s e = λ j l. entry_widened a.floors j ∙ entry_past a.floors j (omega arith)

long_cut : (fs : List Floor) (new : Floor) → length (map widened_floor fs ++ new ∷ []) ≡ length fs + 1
long_cut [] new = refl
long_cut (f ∷ fs) new = let more = long_cut fs new in omega arith

All-insert : {X : Type 0} → (Q : X → Type 0) (xs : List X) (i : ℕ) (x : X) → All Q xs → Q x → All Q (insert xs i x)
All-insert Q xs i x all q = All-append Q (take i xs) (x ∷ drop i xs) (All-take Q i xs all) (All-cons Q x (drop i xs) q (All-drop Q i xs all))

-- the schedule with the level at place k in strips
sound_cut : (d p k t : ℕ) (s : ℤ) (schedule : Schedule) (v w : List ℕ) → k < length schedule.levels → t ≤ length schedule.levels → pos 1 ≤ℤ s → unsigned_abs s < 2 ^ 127
    → floor_weight (form_at schedule.levels k) s < 2 ^ 127 → length schedule.levels < 24 → length schedule.floors < 24 → length w ≡ length v + 1
    → IsSoundSchedule d p schedule v → IsSoundSchedule d p (cut k s t schedule) w
sound_cut d p k t s schedule v w kl tl one fits weight few_levels few_floors long sound =
    let m = length schedule.floors in
    let a = form_at schedule.levels k in
    let sized : HasSizes d m p a = All-get_or (HasSizes d m p) schedule.levels k no_form kl sound.solved.relation.levels in
    let floors = map widened_floor schedule.floors ++ new_floor a s ∷ [] in
    let levels = insert (map widened schedule.levels) t (last_floor a) in
    let floors_long : length floors ≡ m + 1 = long_cut schedule.floors (new_floor a s) in
    let mapped : length (map widened schedule.levels) ≡ length schedule.levels = length-map schedule.levels widened in
    let levels_long : length levels ≡ length schedule.levels + 1 =
    length-insert (map widened schedule.levels) t (last_floor a) (omega arith) ∙ ap (λ n. n + 1) mapped in
    let level_sizes : All (HasSizes d (m + 1) p) levels =
    All-insert (HasSizes d (m + 1) p) (map widened schedule.levels) t (last_floor a)
    (All-map (HasSizes d (m + 1) p) widened schedule.levels (All-weaker (HasSizes d m p) (λ b. HasSizes d (m + 1) p (widened b)) (λ b h. widened_sizes d m p b h) schedule.levels sound.solved.relation.levels))
    (last_sizes d m p a sized) in
    let floor_sizes : All (λ f. HasSizes d (m + 1) p f.value) floors =
    All-append (λ f. HasSizes d (m + 1) p f.value) (map widened_floor schedule.floors) (new_floor a s ∷ [])
    (All-map (λ f. HasSizes d (m + 1) p f.value) widened_floor schedule.floors
    (All-weaker (λ f. HasSizes d m p f.value) (λ f. HasSizes d (m + 1) p (widened f.value)) (λ f h. widened_sizes d m p f.value h) schedule.floors sound.solved.relation.floors))
    (All-cons (λ f. HasSizes d (m + 1) p f.value) (new_floor a s) [] (widened_sizes d m p a sized) (All-nil (λ f. HasSizes d (m + 1) p f.value))) in
    let old_betas : length (map (λ b. pos b) v) ≡ length schedule.levels + 1 = sound.solved.relation.betas in
    let old_long = length-map v (λ b. pos b) in
    record {
      solved = record {
        relation = record {
          levels = subst (λ n. All (HasSizes d n p) levels) (sym floors_long) level_sizes;
          floors = subst (λ n. All (λ f. HasSizes d n p f.value) floors) (sym floors_long) floor_sizes;
          betas = length-map w (λ b. pos b) ∙ (omega arith);
          limits = record {
            outputs = subst (λ n. 2 * n + 1 ≤ 65536) (sym levels_long) (omega arith);
            inputs = sound.solved.relation.limits.inputs;
            locals = subst (λ n. n ≤ 65536) (sym floors_long) (omega arith);
            parameters = sound.solved.relation.limits.parameters;
          };
          pairs = at_floors PairFits schedule.floors (new_floor a s) widened_pair sound.solved.relation.pairs (new_pair m a s sized.floors_are one fits weight);
        };
        sizes = All-append (λ f. pos 1 ≤ℤ f.size) (map widened_floor schedule.floors) (new_floor a s ∷ [])
            (All-map (λ f. pos 1 ≤ℤ f.size) widened_floor schedule.floors sound.solved.sizes)
            (All-cons (λ f. pos 1 ≤ℤ f.size) (new_floor a s) [] one (All-nil (λ f. pos 1 ≤ℤ f.size)));
        earlier = at_floors UsesEarlier schedule.floors (new_floor a s) widened_earlier sound.solved.earlier (new_earlier m a s sized.floors_are);
      };
      levels = subst (λ n. n ≤ 24) (sym levels_long) (omega arith);
      floors = subst (λ n. n ≤ 24) (sym floors_long) (omega arith);
    }

size_one : (s : ℤ) → int_le (pos 1) s ≡ true → pos 1 ≤ℤ s
size_one s h = le_true (pos 1) s h

place_within : (t k : ℤ) (n : ℕ) → int_le (pos 1) t ≡ true → int_le t k ≡ true → int_le k (pos n) ≡ true → place t ≤ n
place_within (pos t) k n low high top = let a = le_true (pos t) k high in let b = le_true k (pos n) top in omega (arith, ints)
place_within (negsuc t) k n low high top = omega arith

-- a statement after stripmine or tile
sound_strip : (d p : ℕ) (command : Command) (k : ℤ) (s : Statement) (v w : List ℕ) → IsCut command k → IsChangeable command s → statement_weight command s < 2 ^ 127 → SizesFit command
    → length s.schedule.levels < 24 → length s.schedule.floors < 24 → length w ≡ length v + 1 → IsSoundSchedule d p s.schedule v → IsSoundSchedule d p (forms_after command s.schedule) w
sound_strip d p (Stripmine q j size) k s v w is can weight fits fl ff long sound =
    let at = level_place j s can.0 in
    sound_cut d p (place j) (place j) size s.schedule v w at (omega arith) (size_one size can.1) fits weight fl ff long sound
sound_strip d p (Tile q j size t) k s v w is can weight fits fl ff long sound =
    let at = level_place j s can.0 in
    sound_cut d p (place j) (place t) size s.schedule v w at
    (place_within t j (length s.schedule.levels) can.2 can.3 (and_right (int_le (pos 1) j) (int_le j (pos (length s.schedule.levels))) can.0)) (size_one size can.1) fits weight fl ff long sound
sound_strip d p (Fission q c) k s v w is can weight fits fl ff long sound = absurd is
sound_strip d p (Fuse q) k s v w is can weight fits fl ff long sound = absurd is
sound_strip d p (Reorder q order) k s v w is can weight fits fl ff long sound = absurd is
sound_strip d p (Interchange q i j) k s v w is can weight fits fl ff long sound = absurd is
sound_strip d p (Skew q i j f) k s v w is can weight fits fl ff long sound = absurd is
sound_strip d p (Shift q i z c) k s v w is can weight fits fl ff long sound = absurd is
sound_strip d p (Reverse q i) k s v w is can weight fits fl ff long sound = absurd is
sound_strip d p (Iss q xs ns c) k s v w is can weight fits fl ff long sound = absurd is

-- what a cut asks of one statement
pub record CanCut (command : Command) (k : ℤ) (s : Statement) : Type 0 where
  pub changeable : IsChangeable command s
  pub level : has_level k s ≡ true
  pub weight : statement_weight command s < 2 ^ 127
  pub levels : length s.schedule.levels < 24
  pub floors : length s.schedule.floors < 24

sound_cut_leaf : (parameters : ℕ) (command : Command) (k : ℤ) (leaf : Leaf) → IsCut command k → SizesFit command → (is_under (prefix_in command) leaf.beta ≡ true → CanCut command k leaf.statement)
    → IsSoundLeaf parameters leaf → IsSoundLeaf parameters (cut_leaf command k leaf)
sound_cut_leaf parameters command k leaf is fits can sound =
    let P = prefix_in command in
    let new = record leaf { statement = scheduled leaf.statement (forms_after command leaf.statement.schedule) } in
    let both : Bool → Leaf = λ u. with_beta (if u then insert leaf.beta (natural k) 0 else leaf.beta) (if u then new else leaf) in
    elim (bool_tells (is_under P leaf.beta)) [
      | inl t ↦
          let ask = can t in
          let above : natural k < length leaf.beta = longer_leaf parameters k leaf sound ask.level in
          let long : length (insert leaf.beta (natural k) 0) ≡ length leaf.beta + 1 = length-insert leaf.beta (natural k) 0 (omega arith) in
          let made : IsSoundLeaf parameters (with_beta (insert leaf.beta (natural k) 0) new) =
          sound_with parameters leaf (forms_after command leaf.statement.schedule) (insert leaf.beta (natural k) 0) sound
          (sound_strip (length leaf.statement.body.iterators) parameters command k leaf.statement leaf.beta (insert leaf.beta (natural k) 0) is ask.changeable ask.weight fits ask.levels ask.floors long
          (own_schedule parameters leaf sound)) in
          subst (λ u. IsSoundLeaf parameters (both u)) (sym t) made
      | inr f ↦ subst (λ u. IsSoundLeaf parameters (both u)) (sym f) sound
    ]

pub sound_cuts : (parameters : ℕ) (command : Command) (k : ℤ) (D : Draft) → IsCut command k → SizesFit command → AllUnder (prefix_in command) (CanCut command k) D
    → All (IsSoundLeaf parameters) D → All (IsSoundLeaf parameters) (map (cut_leaf command k) D)
sound_cuts parameters command k [] is fits can sound = All-nil (IsSoundLeaf parameters)
sound_cuts parameters command k (leaf ∷ D) is fits can sound =
    All-cons (IsSoundLeaf parameters) (cut_leaf command k leaf) (map (cut_leaf command k) D)
    (sound_cut_leaf parameters command k leaf is fits can.0 (All-head (IsSoundLeaf parameters) leaf D sound))
    (sound_cuts parameters command k D is fits can.1 (All-tail (IsSoundLeaf parameters) leaf D sound))

-- what is below a bound under P
pub all_below : (P : List ℕ) (number : Statement → ℕ) (most : ℕ) (D : Draft) → most_under P number D < most → AllUnder P (λ s. number s < most) D
all_below P number most [] h = tt
all_below P number most (leaf ∷ D) h = (
  λ u. (let counts : (if is_under P leaf.beta then number leaf.statement else 0) ≡ number leaf.statement = ap (λ b. if b then number leaf.statement else 0) u in omega arith),
  all_below P number most D (omega arith),
)

-- no limit of a cut is passed
pub record CutRoom (P : List ℕ) (D : Draft) : Type 0 where
  pub levels : most_under P (λ s. length s.schedule.levels) D < 24
  pub floors : most_under P (λ s. length s.schedule.floors) D < 24

pub cut_room : (i : ℕ) (P : List ℕ) (D : Draft) → cut_limit i P D ≡ None → CutRoom P D
cut_room i P D h =
    let a = most_under P (λ s. length s.schedule.levels) D in
    let b = most_under P (λ s. length s.schedule.floors) D in
    elim (bool_tells (nat_le 24 a)) [
      | inl t ↦ absurd (let some : Some (Limit Levels i) ≡ None = sym (ap (λ u. if u then Some (Limit Levels i) else (if nat_le 24 b then Some (Limit Locals i) else None)) t) ∙ h in cc)
      | inr f ↦
          let rest : (if nat_le 24 b then Some (Limit Locals i) else None) ≡ None = sym (ap (λ u. if u then Some (Limit Levels i) else (if nat_le 24 b then Some (Limit Locals i) else None)) f) ∙ h in
          elim (bool_tells (nat_le 24 b)) [
            | inl t ↦ absurd (let some : Some (Limit Locals i) ≡ None = sym (ap (λ u. if u then Some (Limit Locals i) else None) t) ∙ rest in cc)
            | inr g ↦ record { levels = leb-false 24 a f; floors = leb-false 24 b g }
          ]
    ]
