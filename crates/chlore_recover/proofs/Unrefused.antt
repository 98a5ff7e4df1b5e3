-- A command that suits each statement under its prefix is not refused.
use Rattle.std.proofs.Common.{◌≡◌, ℤ, ℕ, ◌<◌, ◌^◌, ◌==◌, nat_le, Bool, true, false, if◌then◌else◌, not, ◌&&◌, ◌||◌, inl, inr, None, Some, List, [], ◌∷◌, length, max, refl, arith}
use Rattle.std.specs.Ordering.{int_eq}
use Rattle.std.proofs.lemmas.Bool.{leb-true}
use Rattle.std.specs.List.{cons_option}
use Rattle.std.specs.Option.{is_some}
use Rattle.beta_tree.specs.Vectors.{no_statement, after, under, is_nil}
use Rattle.beta_tree.proofs.Places.{bool_tells, same_yes}
use Rattle.scop_data.specs.declared.statements.Statement.{Statement}
use Rattle.clay_script.specs.declared.commands.Command.{Command}
use Rattle.clay_script.specs.declared.commands.Command.TheVariants.{Fission, Fuse, Reorder, Interchange, Skew, Shift, Reverse, Stripmine, Tile, Iss}
use Rattle.clay_script.specs.Commands.{prefix_of}
use Rattle.clay_commands.specs.Arguments.{are_natural, prefix_in}
use Rattle.clay_commands.specs.Drafts.{Draft, betas_of, is_under}
use Rattle.clay_commands.specs.Refusals.{all_under, most_under, has_level, is_within, level_then, condition_under, condition_of, limit_of, statement_weight, weight_of, overflow_of, refusal_at}
use Rattle.clay_commands.specs.Steps.{AllUnder}
use Rattle.chlore_recover.specs.Runs.{Suits}
use Rattle.chlore_recover.specs.Laws.{SuitedIsUnrefused}

all_under_is : (P : List ℕ) (test : Statement → Bool) (D : Draft) → AllUnder P (λ s. test s ≡ true) D → all_under P test D ≡ true
all_under_is P test [] h = refl
all_under_is P test (leaf ∷ D) (h, more) =
    elim (is_under P leaf.beta) as (λ t. is_under P leaf.beta ≡ t → ((not t || test leaf.statement) && all_under P test D) ≡ true) [
      | true ↦ λ e. rw (h e) (all_under_is P test D more)
      | false ↦ λ e. all_under_is P test D more
    ] refl

most_under_is : (P : List ℕ) (number : Statement → ℕ) (B : ℕ) (D : Draft) → 0 < B → AllUnder P (λ s. number s < B) D → most_under P number D < B
most_under_is P number B [] some h = some
most_under_is P number B (leaf ∷ D) some (h, more) =
    let rest = most_under_is P number B D some more in
    elim (is_under P leaf.beta) as (λ t. is_under P leaf.beta ≡ t → max (if t then number leaf.statement else 0) (most_under P number D) < B) [
      | true ↦ λ e. let l = h e in omega arith
      | false ↦ λ e. omega arith
    ] refl

pub under_map : (P : List ℕ) (A B : Statement → Type 0) (D : Draft) → ((s : Statement) → A s → B s) → AllUnder P A D → AllUnder P B D
under_map P A B [] f h = tt
under_map P A B (leaf ∷ D) f (h, more) = ((λ e. f leaf.statement (h e)), under_map P A B D f more)

light : (i : ℕ) (command : Command) (D : Draft) → weight_of command D < 2 ^ 127 → overflow_of i command D ≡ None
light i command D l = elim (bool_tells (nat_le (2 ^ 127) (weight_of command D))) [ inl t ↦ let h = leb-true (2 ^ 127) (weight_of command D) t in absurd (omega arith) | inr f ↦ rw f refl ]

conditions : (n i : ℕ) (command : Command) (D : Draft) → are_natural (prefix_of command) ≡ true → no_statement (prefix_in command) (betas_of D) ≡ false → condition_under n i command (prefix_in command) D ≡ None → condition_of n i command D ≡ None
conditions n i command D natural some h = rw (natural, some) h

unrefused : (n i : ℕ) (command : Command) (D : Draft) → are_natural (prefix_of command) ≡ true → no_statement (prefix_in command) (betas_of D) ≡ false
    → condition_under n i command (prefix_in command) D ≡ None → limit_of i command D ≡ None → AllUnder (prefix_in command) (λ s. statement_weight command s < 2 ^ 127) D → refusal_at n i command D ≡ None
unrefused n i command D natural some c l w =
    rw (conditions n i command D natural some c, l, light i command D (most_under_is (prefix_in command) (statement_weight command) (2 ^ 127) D (omega arith) w)) refl

levels_pass : (i : ℕ) (a b : Bool) → a ≡ true → b ≡ true → level_then i a b ≡ None
levels_pass i a b e f = rw (e, f) refl

two_levels : (n : ℕ) (P : List ℕ) (k l : ℤ) (D : Draft) → AllUnder P (λ s. has_level k s ≡ true) D → AllUnder P (λ s. has_level l s ≡ true) D → (is_within k P D && is_within l P D) ≡ true
two_levels n P k l D h g = rw (all_under_is P (has_level k) D h, all_under_is P (has_level l) D g) refl

-- what holds of each statement under P, where there is one
some_holds : (P : List ℕ) (Q : Type 0) (D : Draft) → no_statement P (betas_of D) ≡ false → AllUnder P (λ s. Q) D → Q
some_holds P Q [] some h = let e : true ≡ false = some in absurd (cc)
some_holds P Q (leaf ∷ D) some (h, more) =
    elim (after P leaf.beta) as (λ o. (is_some o ≡ true → Q) → is_nil (cons_option o (under P (betas_of D))) ≡ false → Q) [
      | None ↦ λ f g. some_holds P Q D g more
      | Some u ↦ λ f g. f refl
    ] h some

pub suited_is_unrefused : SuitedIsUnrefused
suited_is_unrefused n i (Reverse p k) D natural some h =
    unrefused n i (Reverse p k) D natural some (levels_pass i (is_within k (prefix_in (Reverse p k)) D) true (all_under_is (prefix_in (Reverse p k)) (has_level k) D h) refl) refl
    (under_map (prefix_in (Reverse p k)) (λ s. Suits n (Reverse p k) s.schedule.levels) (λ s. statement_weight (Reverse p k) s < 2 ^ 127) D (λ s q. omega arith) h)
suited_is_unrefused n i (Interchange p k l) D natural some h =
    let P : List ℕ = prefix_in (Interchange p k l) in
    let A : Statement → Type 0 = λ s. Suits n (Interchange p k l) s.schedule.levels in
    unrefused n i (Interchange p k l) D natural some
    (levels_pass i (is_within k P D && is_within l P D) true (two_levels n P k l D (under_map P A (λ s. has_level k s ≡ true) D (λ s q. q.0) h) (under_map P A (λ s. has_level l s ≡ true) D (λ s q. q.1) h)) refl) refl
    (under_map P A (λ s. statement_weight (Interchange p k l) s < 2 ^ 127) D (λ s q. omega arith) h)
suited_is_unrefused n i (Skew p k l f) D natural some h =
    let P : List ℕ = prefix_in (Skew p k l f) in
    let A : Statement → Type 0 = λ s. Suits n (Skew p k l f) s.schedule.levels in
    let apart : int_eq k l ≡ false = some_holds P (int_eq k l ≡ false) D some (under_map P A (λ s. int_eq k l ≡ false) D (λ s q. q.2) h) in
    unrefused n i (Skew p k l f) D natural some
    (levels_pass i (is_within k P D && is_within l P D) (not (int_eq k l)) (two_levels n P k l D (under_map P A (λ s. has_level k s ≡ true) D (λ s q. q.0) h) (under_map P A (λ s. has_level l s ≡ true) D (λ s q. q.1) h)) (rw apart refl)) refl
    (under_map P A (λ s. statement_weight (Skew p k l f) s < 2 ^ 127) D (λ s q. q.3) h)
suited_is_unrefused n i (Shift p k v c) D natural some h =
    let P : List ℕ = prefix_in (Shift p k v c) in
    let A : Statement → Type 0 = λ s. Suits n (Shift p k v c) s.schedule.levels in
    let long : length v ≡ n = some_holds P (length v ≡ n) D some (under_map P A (λ s. length v ≡ n) D (λ s q. q.1) h) in
    unrefused n i (Shift p k v c) D natural some
    (levels_pass i (is_within k P D) (length v == n) (all_under_is P (has_level k) D (under_map P A (λ s. has_level k s ≡ true) D (λ s q. q.0) h)) (rw long (same_yes n))) refl
    (under_map P A (λ s. statement_weight (Shift p k v c) s < 2 ^ 127) D (λ s q. q.2) h)
suited_is_unrefused n i (Fission p c) D natural some h = absurd (some_holds (prefix_in (Fission p c)) ⊥ D some h)
suited_is_unrefused n i (Fuse p) D natural some h = absurd (some_holds (prefix_in (Fuse p)) ⊥ D some h)
suited_is_unrefused n i (Reorder p order) D natural some h = absurd (some_holds (prefix_in (Reorder p order)) ⊥ D some h)
suited_is_unrefused n i (Stripmine p k s) D natural some h = absurd (some_holds (prefix_in (Stripmine p k s)) ⊥ D some h)
suited_is_unrefused n i (Tile p k s t) D natural some h = absurd (some_holds (prefix_in (Tile p k s t)) ⊥ D some h)
suited_is_unrefused n i (Iss p xs ns c) D natural some h = absurd (some_holds (prefix_in (Iss p xs ns c)) ⊥ D some h)
