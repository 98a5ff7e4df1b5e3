-- What a command keeps of a statement: body, accesses, floors, and that equal values of its levels come from equal ones.
use Rattle.std.proofs.Common.{◌≡◌, ◌≢◌, ℕ, ◌<◌, ◌==◌, Bool, true, false, not, ◌&&◌, None, List, length, ℤ, pos, negsuc, ◌≤ℤ◌, int_le, refl, sym, arith}
use Rattle.std.specs.Ordering.{int_eq}
use Rattle.std.proofs.lemmas.Bool.{eqb-true}
use Rattle.std.proofs.lemmas.Bool.Decides.{Decides-int_eq, not_from_Decides}
use Rattle.std.proofs.lemmas.Int.{ints}
use Rattle.beta_tree.specs.Vectors.{is_leaf}
use Rattle.beta_tree.proofs.Orders.{and_left, and_right}
use Rattle.scop_data.specs.declared.statements.Statement.{Statement}
use Rattle.clay_script.specs.declared.commands.Command.{Command}
use Rattle.clay_script.specs.declared.commands.Command.TheVariants.{Fission, Fuse, Reorder, Interchange, Skew, Shift, Reverse, Stripmine, Tile, Iss}
use Rattle.clay_commands.specs.Arguments.{place}
use Rattle.clay_commands.specs.Drafts.{Draft, betas_of}
use Rattle.clay_commands.specs.Refusals.{all_under, has_level, is_within, can_cut, level_then, condition_under}
use Rattle.clay_commands.specs.Steps.{AllUnder}
use Rattle.clay_commands.proofs.Changeables.{passes, cut_within, AllUnder-with, level_place, le_true, level_passed, argument_passed, HasLevel, under_all}
use Rattle.edit_laws.proofs.Levels.{IsWithin}

-- an iss is over the iterators of the statement and so many parameters
abbrev pub IsOver : ℕ → Command → Statement → Type 0
IsOver parameters (Iss p xs ns c) s = (length xs ≡ length s.body.iterators) × (length ns ≡ parameters)
IsOver parameters other s = Unit {0}

-- what a command asks of each statement under its prefix
pub record Fits (parameters : ℕ) (command : Command) (s : Statement) : Type 0 where
  pub within : IsWithin command s.schedule.levels
  pub over : IsOver parameters command s

-- a command asks nothing else
abbrev Within : Command → Statement → Type 0
Within command s = IsWithin command s.schedule.levels

fits_with : (parameters : ℕ) (command : Command) (P : List ℕ) (D : Draft) → AllUnder P (Within command) D → AllUnder P (IsOver parameters command) D → AllUnder P (Fits parameters command) D
fits_with parameters command P D a b = AllUnder-with P (Within command) (IsOver parameters command) (Fits parameters command) (λ s x y. record { within = x; over = y }) D a b

places_apart : (k l : ℤ) (s : Statement) → int_eq k l ≡ false → has_level k s ≡ true → has_level l s ≡ true → place l ≢ place k
places_apart k l s e hk hl same =
    let lk = le_true (pos 1) k (and_left (int_le (pos 1) k) (int_le k (pos (length s.schedule.levels))) hk) in
    let ll = le_true (pos 1) l (and_left (int_le (pos 1) l) (int_le l (pos (length s.schedule.levels))) hl) in
    not_from_Decides (int_eq k l) (Decides-int_eq k l) e (apart k l lk ll same)
  where
    apart : (k l : ℤ) → pos 1 ≤ℤ k → pos 1 ≤ℤ l → place l ≡ place k → k ≡ l
    apart (pos k) (pos l) lk ll same = omega (arith, ints, same)
    apart (negsuc k) l lk ll same = absurd (omega (arith, ints))
    apart (pos k) (negsuc l) lk ll same = absurd (omega (arith, ints))

not_false : (b : Bool) → not b ≡ true → b ≡ false
not_false true h = sym h
not_false false h = refl

fits_cut : (parameters i : ℕ) (k t size : ℤ) (P : List ℕ) (D : Draft) → level_then i (can_cut k t P D) (int_le (pos 1) size) ≡ None → AllUnder P (λ s. place k < length s.schedule.levels) D
fits_cut parameters i k t size P D h =
    AllUnder-with P (HasLevel k) (λ s. Unit {0}) (λ s. place k < length s.schedule.levels) (λ s a b. level_place k s a) D
    (passes P (has_level k) D (cut_within k t P D (level_passed i (can_cut k t P D) (int_le (pos 1) size) h))) (under_all P (Unit {0}) D tt)

pub fits : (parameters i : ℕ) (command : Command) (P : List ℕ) (D : Draft) → condition_under parameters i command P D ≡ None → AllUnder P (Fits parameters command) D
fits parameters i (Fission p c) P D h = fits_with parameters (Fission p c) P D (under_all P (Unit {0}) D tt) (under_all P (Unit {0}) D tt)
fits parameters i (Fuse p) P D h = fits_with parameters (Fuse p) P D (under_all P (Unit {0}) D tt) (under_all P (Unit {0}) D tt)
fits parameters i (Reorder p order) P D h = fits_with parameters (Reorder p order) P D (under_all P (Unit {0}) D tt) (under_all P (Unit {0}) D tt)
fits parameters i (Interchange p k l) P D h =
    let both = level_passed i (is_within k P D && is_within l P D) true h in
    fits_with parameters (Interchange p k l) P D
    (AllUnder-with P (HasLevel k) (HasLevel l) (Within (Interchange p k l)) (λ s a b. (level_place k s a, level_place l s b)) D
    (passes P (has_level k) D (and_left (is_within k P D) (is_within l P D) both)) (passes P (has_level l) D (and_right (is_within k P D) (is_within l P D) both)))
    (under_all P (Unit {0}) D tt)
fits parameters i (Skew p k l f) P D h =
    let both = level_passed i (is_within k P D && is_within l P D) (not (int_eq k l)) h in
    let apart : int_eq k l ≡ false = not_false (int_eq k l) (argument_passed i (is_within k P D && is_within l P D) (not (int_eq k l)) h) in
    fits_with parameters (Skew p k l f) P D
    (AllUnder-with P (HasLevel k) (HasLevel l) (Within (Skew p k l f)) (λ s a b. (level_place k s a, level_place l s b, places_apart k l s apart a b)) D
    (passes P (has_level k) D (and_left (is_within k P D) (is_within l P D) both)) (passes P (has_level l) D (and_right (is_within k P D) (is_within l P D) both)))
    (under_all P (Unit {0}) D tt)
fits parameters i (Shift p k v c) P D h =
    fits_with parameters (Shift p k v c) P D
    (AllUnder-with P (HasLevel k) (λ s. Unit {0}) (Within (Shift p k v c)) (λ s a b. level_place k s a) D
    (passes P (has_level k) D (level_passed i (is_within k P D) (length v == parameters) h)) (under_all P (Unit {0}) D tt))
    (under_all P (Unit {0}) D tt)
fits parameters i (Reverse p k) P D h =
    fits_with parameters (Reverse p k) P D
    (AllUnder-with P (HasLevel k) (λ s. Unit {0}) (Within (Reverse p k)) (λ s a b. level_place k s a) D
    (passes P (has_level k) D (level_passed i (is_within k P D) true h)) (under_all P (Unit {0}) D tt))
    (under_all P (Unit {0}) D tt)
fits parameters i (Stripmine p k s) P D h = fits_with parameters (Stripmine p k s) P D (fits_cut parameters i k k s P D h) (under_all P (Unit {0}) D tt)
fits parameters i (Tile p k s t) P D h = fits_with parameters (Tile p k s t) P D (fits_cut parameters i k t s P D h) (under_all P (Unit {0}) D tt)
fits parameters i (Iss p xs ns c) P D h =
    let all = all_under P (λ s. length xs == length s.body.iterators) D in
    let passed = argument_passed i true (is_leaf P (betas_of D) && (all && length ns == parameters)) h in
    let both = and_right (is_leaf P (betas_of D)) (all && length ns == parameters) passed in
    let count : length ns ≡ parameters = eqb-true (length ns) parameters (and_right all (length ns == parameters) both) in
    fits_with parameters (Iss p xs ns c) P D (under_all P (Unit {0}) D tt)
    (AllUnder-with P (λ s. (length xs == length s.body.iterators) ≡ true) (λ s. Unit {0}) (IsOver parameters (Iss p xs ns c))
    (λ s e b. (eqb-true (length xs) (length s.body.iterators) e, count)) D (passes P (λ s. length xs == length s.body.iterators) D (and_left all (length ns == parameters) both)) (under_all P (Unit {0}) D tt))
