-- Along a script each leaf comes from the statement of its number.
use Rattle.std.proofs.Common.{◌≡◌, ℕ, Bool, true, false, if◌then◌else◌, Some, List, [], ◌∷◌, ◌++◌, length, map, ℤ, negsuc, neg_ℤ, ◌+ℤ◌, refl, ap, ◌∙◌, append_assoc}
use Rattle.std.specs.List.{flat_map}
use Rattle.beta_tree.specs.Edits.{same_vector, below, front, last, make_room, next_sibling}
use Rattle.relation_core.specs.Points.{LiesInSome}
use Rattle.scop_data.specs.declared.schedules.Schedule.{Schedule}
use Rattle.scop_data.specs.declared.statements.Statement.{Statement}
use Rattle.scop_core.specs.Meaning.{floors_after}
use Rattle.scop_core.specs.LevelOrder.{level_values}
use Rattle.dependence_systems.specs.Sides.{member}
use Rattle.clay_script.specs.declared.commands.Command.{Command}
use Rattle.clay_script.specs.declared.commands.Command.TheVariants.{Fission, Fuse, Reorder, Interchange, Skew, Shift, Reverse, Stripmine, Tile, Iss}
use Rattle.clay_commands.specs.declared.leaves.Leaf.{Leaf}
use Rattle.clay_commands.specs.Arguments.{natural, prefix_in}
use Rattle.clay_commands.specs.Drafts.{Draft, betas_of, is_under, forms_after, scheduled, restricted, halves, statement_after, leaf_after, draft_after}
use Rattle.clay_commands.specs.Steps.{AllUnder}
use Rattle.edit_laws.specs.Keeping.{FloorsGoOn, IsPieceOf}
use Rattle.edit_laws.proofs.Levels.{AreWide, IsWithin, values_back, stay_wide, floors_go_on}
use Rattle.edit_laws.proofs.Pieces.{Fits}
use Rattle.edit_laws.proofs.Domains.{parts_from}

-- equal values of the levels of one schedule come from equal ones of another
abbrev pub GoesBack : Schedule → Schedule → Type 0
GoesBack old now = (x y n : List ℤ) → level_values now x n ≡ level_values now y n → level_values old x n ≡ level_values old y n

-- what statement t keeps of statement s
pub record ComesFrom (s t : Statement) : Type 0 where
  pub piece : IsPieceOf s t
  pub domain : (x n : List ℤ) → LiesInSome t.domain x [] n → LiesInSome s.domain x [] n
  pub wide : AreWide (length t.schedule.floors) t.schedule.levels
  pub back : GoesBack s.schedule t.schedule

-- a statement of this number that a leaf comes from
pub record HasOriginal (old : List Statement) (leaf : Leaf) : Type 0 where
  pub original : Statement
  pub named : member old leaf.original ≡ Some original
  pub comes : ComesFrom original leaf.statement

abbrev pub AllHave : List Statement → Draft → Type 0
AllHave old [] = Unit {0}
AllHave old (leaf ∷ D) = HasOriginal old leaf × AllHave old D

have_append : (old : List Statement) (A B : Draft) → AllHave old A → AllHave old B → AllHave old (A ++ B)
have_append old [] B a b = b
have_append old (leaf ∷ A) B a b = (a.0, have_append old A B a.1 b)

goes_on : (old now later : Schedule) → FloorsGoOn old now → FloorsGoOn now later → FloorsGoOn old later
goes_on old now later a b x n =
    let p = a x n in
    let q = b x n in
    (p.0 ++ q.0, q.1 ∙ ap (λ t. t ++ q.0) p.1 ∙ append_assoc (floors_after [] old.floors x n) p.0 q.0)

-- a command on the schedule of a statement
scheduled_comes : (command : Command) (s t : Statement) → IsWithin command t.schedule.levels → ComesFrom s t → ComesFrom s (scheduled t (forms_after command t.schedule))
scheduled_comes command s t h from = record {
  piece = record {
    body = from.piece.body;
    accesses = from.piece.accesses;
    floors = goes_on s.schedule t.schedule (forms_after command t.schedule) from.piece.floors (floors_go_on command t.schedule);
  };
  domain = from.domain;
  wide = stay_wide command t.schedule h from.wide;
  back = λ x y n e. from.back x y n (values_back command t.schedule x y n h from.wide e);
}

comes_if : (command : Command) (b : Bool) (s t : Statement) → (b ≡ true → IsWithin command t.schedule.levels) → ComesFrom s t
    → ComesFrom s (if b then scheduled t (forms_after command t.schedule) else t)
comes_if command true s t h from = scheduled_comes command s t (h refl) from
comes_if command false s t h from = from

restricted_comes : (xs ns : List ℤ) (c : ℤ) (s t : Statement) → ComesFrom s t → ComesFrom s (restricted xs ns c t)
restricted_comes xs ns c s t from = record {
  piece = record { body = from.piece.body; accesses = from.piece.accesses; floors = from.piece.floors };
  domain = λ x n lies. from.domain x n (parts_from t.domain xs ns c x n lies);
  wide = from.wide;
  back = from.back;
}

-- a leaf with another vector, after a command
has_after : (command : Command) (old : List Statement) (w : List ℕ) (leaf : Leaf) → (is_under (prefix_in command) leaf.beta ≡ true → IsWithin command leaf.statement.schedule.levels)
    → HasOriginal old leaf → HasOriginal old (record leaf { beta = w; statement = statement_after command leaf.beta leaf.statement })
has_after command old w leaf h has = record {
  original = has.original;
  named = has.named;
  comes = comes_if command (is_under (prefix_in command) leaf.beta) has.original leaf.statement h has.comes;
}

has_half : (xs ns : List ℤ) (c : ℤ) (old : List Statement) (w : List ℕ) (leaf : Leaf) → HasOriginal old leaf
    → HasOriginal old (record leaf { beta = w; statement = restricted xs ns c leaf.statement })
has_half xs ns c old w leaf has = record {
  original = has.original;
  named = has.named;
  comes = restricted_comes xs ns c has.original leaf.statement has.comes;
}

has_other : (old : List Statement) (w : List ℕ) (leaf : Leaf) → HasOriginal old leaf → HasOriginal old (record leaf { beta = w })
has_other old w leaf has = record { original = has.original; named = has.named; comes = has.comes }

split_have : (old : List Statement) (P : List ℕ) (xs ns : List ℤ) (c : ℤ) (leaf : Leaf) (b : Bool) → HasOriginal old leaf
    → AllHave old (if b then halves P xs ns c leaf else record leaf { beta = below (front P) (make_room (last P)) leaf.beta } ∷ [])
split_have old P xs ns c leaf true has = (
  has_half xs ns c old leaf.beta leaf has,
  (has_half (map neg_ℤ xs) (map neg_ℤ ns) (neg_ℤ c +ℤ negsuc 0) old (next_sibling P) leaf has, tt),
)
split_have old P xs ns c leaf false has = (has_other old (below (front P) (make_room (last P)) leaf.beta) leaf has, tt)

leaf_has : (parameters : ℕ) (command : Command) (V : List (List ℕ)) (old : List Statement) (leaf : Leaf) → (is_under (prefix_in command) leaf.beta ≡ true → Fits parameters command leaf.statement)
    → HasOriginal old leaf → AllHave old (leaf_after command V leaf)
leaf_has m (Fission p c) V old leaf h has = (has_after (Fission p c) old _ leaf (λ u. (h u).within) has, tt)
leaf_has m (Fuse p) V old leaf h has = (has_after (Fuse p) old _ leaf (λ u. (h u).within) has, tt)
leaf_has m (Reorder p order) V old leaf h has = (has_after (Reorder p order) old _ leaf (λ u. (h u).within) has, tt)
leaf_has m (Interchange p k l) V old leaf h has = (has_after (Interchange p k l) old _ leaf (λ u. (h u).within) has, tt)
leaf_has m (Skew p k l f) V old leaf h has = (has_after (Skew p k l f) old _ leaf (λ u. (h u).within) has, tt)
leaf_has m (Shift p k v c) V old leaf h has = (has_after (Shift p k v c) old _ leaf (λ u. (h u).within) has, tt)
leaf_has m (Reverse p k) V old leaf h has = (has_after (Reverse p k) old _ leaf (λ u. (h u).within) has, tt)
leaf_has m (Stripmine p k s) V old leaf h has = (has_after (Stripmine p k s) old _ leaf (λ u. (h u).within) has, tt)
leaf_has m (Tile p k s t) V old leaf h has = (has_after (Tile p k s t) old _ leaf (λ u. (h u).within) has, tt)
leaf_has m (Iss p xs ns c) V old leaf h has = split_have old (map natural p) xs ns c leaf (same_vector leaf.beta (map natural p)) has

leaves_have : (parameters : ℕ) (command : Command) (V : List (List ℕ)) (old : List Statement) (D : Draft) → AllUnder (prefix_in command) (Fits parameters command) D
    → AllHave old D → AllHave old (flat_map (leaf_after command V) D)
leaves_have m command V old [] h have = tt
leaves_have m command V old (leaf ∷ D) h have =
    have_append old (leaf_after command V leaf) (flat_map (leaf_after command V) D) (leaf_has m command V old leaf h.0 have.0) (leaves_have m command V old D h.1 have.1)

pub step_has : (parameters : ℕ) (command : Command) (old : List Statement) (D : Draft) → AllUnder (prefix_in command) (Fits parameters command) D
    → AllHave old D → AllHave old (draft_after command D)
step_has m command old D h have = leaves_have m command (betas_of D) old D h have
