-- Where no condition of a command fails, it can change each statement under its prefix.
use Rattle.std.proofs.Common.{◌≡◌, ℕ, zero, suc, ◌<◌, ◌≤ℤ◌, ◌==◌, Bool, true, false, not, ◌&&◌, ◌||◌, None, List, [], ◌∷◌, length, get_or, ℤ, pos, negsuc, int_le, refl, sym, ◌∙◌, arith}
use Rattle.std.specs.Prelude.{All}
use Rattle.std.specs.Ordering.{int_eq}
use Rattle.std.proofs.lemmas.Bool.{eqb-true}
use Rattle.std.proofs.lemmas.Int.{ints}
use Rattle.std.proofs.lemmas.List.Elements.{All-head, All-tail}
use Rattle.beta_tree.proofs.Orders.{and_left, and_right}
use Rattle.scop_data.specs.declared.affines.Affine.{Affine}
use Rattle.scop_data.specs.declared.statements.Statement.{Statement}
use Rattle.scop_core.specs.AffineSums.{HaveOneSize}
use Rattle.scop_core.specs.SolvedRows.{HasSizes}
use Rattle.clay_script.specs.declared.commands.Command.{Command}
use Rattle.clay_script.specs.declared.commands.Command.TheVariants.{Fission, Fuse, Reorder, Interchange, Skew, Shift, Reverse, Stripmine, Tile, Iss}
use Rattle.clay_commands.specs.Arguments.{place}
use Rattle.clay_commands.specs.Drafts.{Draft, is_under, no_form}
use Rattle.clay_commands.specs.Refusals.{all_under, has_level, is_within, can_cut, level_then, condition_under}
use Rattle.clay_commands.specs.Steps.{AllUnder, IsChangeable, IsFormCommand, level_form}
use Rattle.clay_commands.specs.Soundness.{IsSoundLeaf}

pub le_true : (a b : ℤ) → int_le a b ≡ true → a ≤ℤ b
le_true a b h = omega (arith, ints)

passes_one : (u t : Bool) → (not u || t) ≡ true → u ≡ true → t ≡ true
passes_one true t h e = h
passes_one false t h e = absurd (cc)

-- a test that all under P pass
pub passes : (P : List ℕ) (test : Statement → Bool) (D : Draft) → all_under P test D ≡ true → AllUnder P (λ s. test s ≡ true) D
passes P test [] h = tt
passes P test (leaf ∷ D) h = (
  passes_one (is_under P leaf.beta) (test leaf.statement) (and_left (not (is_under P leaf.beta) || test leaf.statement) (all_under P test D) h),
  passes P test D (and_right (not (is_under P leaf.beta) || test leaf.statement) (all_under P test D) h),
)

-- what a cut asks
pub cut_within : (k t : ℤ) (P : List ℕ) (D : Draft) → can_cut k t P D ≡ true → is_within k P D ≡ true
cut_within k t P D h =
    and_left (is_within k P D) (int_le (pos (length P)) k)
    (and_left (is_within k P D && int_le (pos (length P)) k) (int_le (pos 1) t)
    (and_left (is_within k P D && int_le (pos (length P)) k && int_le (pos 1) t) (int_le t k) h))

pub cut_prefix : (k t : ℤ) (P : List ℕ) (D : Draft) → can_cut k t P D ≡ true → int_le (pos (length P)) k ≡ true
cut_prefix k t P D h =
    and_right (is_within k P D) (int_le (pos (length P)) k)
    (and_left (is_within k P D && int_le (pos (length P)) k) (int_le (pos 1) t)
    (and_left (is_within k P D && int_le (pos (length P)) k && int_le (pos 1) t) (int_le t k) h))

pub cut_low : (k t : ℤ) (P : List ℕ) (D : Draft) → can_cut k t P D ≡ true → int_le (pos 1) t ≡ true
cut_low k t P D h =
    and_right (is_within k P D && int_le (pos (length P)) k) (int_le (pos 1) t)
    (and_left (is_within k P D && int_le (pos (length P)) k && int_le (pos 1) t) (int_le t k) h)

pub cut_high : (k t : ℤ) (P : List ℕ) (D : Draft) → can_cut k t P D ≡ true → int_le t k ≡ true
cut_high k t P D h = and_right (is_within k P D && int_le (pos (length P)) k && int_le (pos 1) t) (int_le t k) h

-- two facts at once, and a third from two
pub AllUnder-with : (P : List ℕ) (A B C : Statement → Type 0) → ((s : Statement) → A s → B s → C s) → (D : Draft) → AllUnder P A D → AllUnder P B D → AllUnder P C D
AllUnder-with P A B C f [] a b = tt
AllUnder-with P A B C f (leaf ∷ D) a b = (λ u. f leaf.statement (a.0 u) (b.0 u), AllUnder-with P A B C f D a.1 b.1)

-- forms of one size over so many parameters
pub record AreSized (parameters : ℕ) (s : Statement) : Type 0 where
  pub levels : All (HasSizes (length s.body.iterators) (length s.schedule.floors) parameters) s.schedule.levels

pub sized_leaves : (parameters : ℕ) (P : List ℕ) (D : Draft) → All (IsSoundLeaf parameters) D → AllUnder P (AreSized parameters) D
sized_leaves parameters P [] all = tt
sized_leaves parameters P (leaf ∷ D) all =
    (λ u. record { levels = (All-head (IsSoundLeaf parameters) leaf D all).shape.schedule.relation.levels }, sized_leaves parameters P D (All-tail (IsSoundLeaf parameters) leaf D all))

at_place : (Q : Affine → Type 0) (levels : List Affine) (k : ℕ) → k < length levels → All Q levels → Q (get_or levels k no_form)
at_place Q [] k l all = absurd (omega arith)
at_place Q (x ∷ levels) zero l all = All-head Q x levels all
at_place Q (x ∷ levels) (suc k) l all = at_place Q levels k (omega arith) (All-tail Q x levels all)

pub place_below : (k : ℤ) (n : ℕ) → int_le (pos 1) k ≡ true → int_le k (pos n) ≡ true → place k < n
place_below (pos k) n low high = let l = le_true (pos 1) (pos k) low in let h = le_true (pos k) (pos n) high in omega (arith, ints)
place_below (negsuc k) n low high = absurd (let l = le_true (pos 1) (negsuc k) low in omega (arith, ints))

pub level_place : (k : ℤ) (s : Statement) → has_level k s ≡ true → place k < length s.schedule.levels
level_place k s h =
    place_below k (length s.schedule.levels) (and_left (int_le (pos 1) k) (int_le k (pos (length s.schedule.levels))) h)
    (and_right (int_le (pos 1) k) (int_le k (pos (length s.schedule.levels))) h)

sizes_at : (parameters : ℕ) (k : ℤ) (s : Statement) → has_level k s ≡ true → AreSized parameters s
    → HasSizes (length s.body.iterators) (length s.schedule.floors) parameters (level_form k s)
sizes_at parameters k s h sized = at_place (HasSizes (length s.body.iterators) (length s.schedule.floors) parameters) s.schedule.levels (place k) (level_place k s h) sized.levels

one_size : (d m p : ℕ) (a b : Affine) → HasSizes d m p a → HasSizes d m p b → HaveOneSize a b
one_size d m p a b x y = record {
  iterators = x.iterators_are ∙ sym y.iterators_are;
  floors = x.floors_are ∙ sym y.floors_are;
  parameters = x.parameters_are ∙ sym y.parameters_are;
}

-- a level first, then an argument: neither failed
pub level_passed : (i : ℕ) (level argument : Bool) → level_then i level argument ≡ None → level ≡ true
level_passed i true argument h = refl
level_passed i false argument h = absurd (cc)

pub argument_passed : (i : ℕ) (level argument : Bool) → level_then i level argument ≡ None → argument ≡ true
argument_passed i true true h = refl
argument_passed i true false h = absurd (cc)
argument_passed i false argument h = absurd (cc)

-- a test that is passed, with each statement
pub under_all : (P : List ℕ) (A : Type 0) (D : Draft) → A → AllUnder P (λ s. A) D
under_all P A [] a = tt
under_all P A (leaf ∷ D) a = (λ u. a, under_all P A D a)

abbrev pub HasLevel : ℤ → Statement → Type 0
HasLevel k s = has_level k s ≡ true

pub changeable : (parameters i : ℕ) (command : Command) (P : List ℕ) (D : Draft) → All (IsSoundLeaf parameters) D → IsFormCommand command
    → condition_under parameters i command P D ≡ None → AllUnder P (IsChangeable command) D
changeable parameters i (Interchange p k l) P D sound is h =
    let both = level_passed i (is_within k P D && is_within l P D) true h in
    AllUnder-with P (HasLevel k) (HasLevel l) (IsChangeable (Interchange p k l)) (λ s a b. (a, b)) D
    (passes P (has_level k) D (and_left (is_within k P D) (is_within l P D) both)) (passes P (has_level l) D (and_right (is_within k P D) (is_within l P D) both))
changeable parameters i (Skew p k l f) P D sound is h =
    let both = level_passed i (is_within k P D && is_within l P D) (not (int_eq k l)) h in
    AllUnder-with P (AreSized parameters) (λ s. HasLevel k s × HasLevel l s) (IsChangeable (Skew p k l f))
    (λ s sized a. (a.0, a.1, one_size (length s.body.iterators) (length s.schedule.floors) parameters (level_form k s) (level_form l s) (sizes_at parameters k s a.0 sized) (sizes_at parameters l s a.1 sized)))
    D (sized_leaves parameters P D sound)
    (AllUnder-with P (HasLevel k) (HasLevel l) (λ s. HasLevel k s × HasLevel l s) (λ s a b. (a, b)) D
    (passes P (has_level k) D (and_left (is_within k P D) (is_within l P D) both)) (passes P (has_level l) D (and_right (is_within k P D) (is_within l P D) both)))
changeable parameters i (Shift p k v c) P D sound is h =
    let level = level_passed i (is_within k P D) (length v == parameters) h in
    let argument : length v ≡ parameters = eqb-true (length v) parameters (argument_passed i (is_within k P D) (length v == parameters) h) in
    AllUnder-with P (AreSized parameters) (HasLevel k) (IsChangeable (Shift p k v c))
    (λ s sized a. (a, (sizes_at parameters k s a sized).parameters_are ∙ sym argument)) D (sized_leaves parameters P D sound) (passes P (has_level k) D level)
changeable parameters i (Reverse p k) P D sound is h = passes P (has_level k) D (level_passed i (is_within k P D) true h)
changeable parameters i (Stripmine p k size) P D sound is h =
    let cut = level_passed i (can_cut k k P D) (int_le (pos 1) size) h in
    let argument = argument_passed i (can_cut k k P D) (int_le (pos 1) size) h in
    AllUnder-with P (HasLevel k) (λ s. int_le (pos 1) size ≡ true) (IsChangeable (Stripmine p k size)) (λ s a b. (a, b)) D
    (passes P (has_level k) D (cut_within k k P D cut)) (under_all P (int_le (pos 1) size ≡ true) D argument)
changeable parameters i (Tile p k size t) P D sound is h =
    let cut = level_passed i (can_cut k t P D) (int_le (pos 1) size) h in
    let argument = argument_passed i (can_cut k t P D) (int_le (pos 1) size) h in
    AllUnder-with P (HasLevel k) (λ s. int_le (pos 1) size ≡ true) (IsChangeable (Tile p k size t)) (λ s a b. (a, b, cut_low k t P D cut, cut_high k t P D cut)) D
    (passes P (has_level k) D (cut_within k t P D cut)) (under_all P (int_le (pos 1) size ≡ true) D argument)
changeable parameters i (Fission p c) P D sound is h = absurd is
changeable parameters i (Fuse p) P D sound is h = absurd is
changeable parameters i (Reorder p order) P D sound is h = absurd is
changeable parameters i (Iss p xs ns c) P D sound is h = absurd is
