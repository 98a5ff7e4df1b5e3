-- What is refused in place of a script: two SCoPs that differ in their counts, an original that isn't in Clan's form, a target that
-- isn't recoverable, a script that is too long. Each is asked of all statements before the next.
use Rattle.std.specs.Prelude.{◌≡◌, ℤ, pos, ℕ, ◌+◌, ◌==◌, nat_le, Bool, true, ◌&&◌, if◌then◌else◌, Option, Some, None, List, [], ◌∷◌, length, take, drop, get_or, option_map}
use Rattle.std.specs.Ordering.{int_eq}
use Rattle.suite_base.specs.Limits.{max_commands}
use Rattle.suite_base.specs.declared.refusals.Refusal.{Refusal}
use Rattle.suite_base.specs.declared.refusals.Refusal.TheVariants.{Different, NotClanForm, NotRecoverable, Limit}
use Rattle.suite_base.specs.declared.refusals.Which.TheVariants.{Commands}
use Rattle.beta_tree.specs.Vectors.{is_nil}
use Rattle.scop_data.specs.declared.affines.Affine.{Affine}
use Rattle.scop_data.specs.declared.statements.Statement.{Statement}
use Rattle.scop_core.specs.Assembly.{or_else}
use Rattle.scop_core.specs.ScopData.{ScopData}
use Rattle.scop_core.specs.Validity.{IsValid}
use Rattle.clay_script.specs.declared.commands.Command.{Command}
use Rattle.chlore_recover.specs.Triangles.{is_zero, is_sign}
use Rattle.chlore_recover.specs.Recoverable.{rows_of, ends_apart}
use Rattle.chlore_recover.specs.Recovered.{CanRecover}
use Rattle.chlore_recover.specs.Strategy.{strategy}

-- a row has 1 or -1 at place k, and 0 elsewhere
abbrev pub is_signed_unit : ℕ → List ℤ → Bool
is_signed_unit k row = is_zero (take k row) && (is_sign (get_or row k (pos 0)) && is_zero (drop (k + 1) row))

-- a level is the iterator at place k or its negative, alone
abbrev pub is_clans_level : ℕ → Affine → Bool
is_clans_level k form = is_signed_unit k form.iterators && (is_zero form.parameters && int_eq form.constant (pos 0))

-- the levels, from place k on, are the iterators in turn or their negatives, alone
abbrev pub are_clans_levels : ℕ → List Affine → Bool
are_clans_levels k [] = true
are_clans_levels k (form ∷ levels) = is_clans_level k form && are_clans_levels (k + 1) levels

-- a statement is in Clan's form
abbrev pub has_clans_form : Statement → Bool
has_clans_form s =
    is_nil s.schedule.floors && ((length s.schedule.levels == length s.body.iterators) && are_clans_levels 0 s.schedule.levels)

-- a statement is recoverable: in each level the last coefficient that isn't 0 is 1 or -1, at iterators that differ
abbrev pub can_be_recovered : Statement → Bool
can_be_recovered t = is_nil t.schedule.floors && ends_apart (length t.body.iterators) (rows_of t.schedule.levels)

-- the number, from k on, of the first statement that fails a test
abbrev pub first_failing : (Statement → Bool) → ℕ → List Statement → Option ℕ
first_failing test k [] = None
first_failing test k (s ∷ statements) = if test s then first_failing test (k + 1) statements else Some k

-- the number, from k on, of the first pair of statements with other numbers of iterators
abbrev pub first_different : ℕ → List Statement → List Statement → Option ℕ
first_different k [] target = None
first_different k (s ∷ original) [] = None
first_different k (s ∷ original) (t ∷ target) =
    if length s.body.iterators == length t.body.iterators then first_different (k + 1) original target else Some k

-- both have as many statements and parameters
abbrev pub same_counts : ScopData → ScopData → Bool
same_counts O T = (length O.statements == length T.statements) && (O.context.shape.parameters == T.context.shape.parameters)

-- the refusal of SCoPs that differ: 0 for the whole
abbrev pub difference_of : ScopData → ScopData → Option Refusal
difference_of O T =
    if same_counts O T then option_map Different (first_different 1 O.statements T.statements) else Some (Different 0)

-- the refusal of two SCoPs, whatever the length of their script
abbrev pub pair_refusal : ScopData → ScopData → Option Refusal
pair_refusal O T =
    or_else (difference_of O T)
    (or_else (option_map NotClanForm (first_failing has_clans_form 1 O.statements)) (option_map NotRecoverable (first_failing can_be_recovered 1 T.statements)))

-- the refusal of a script that is longer than a script may be
abbrev pub length_refusal : List Command → Option Refusal
length_refusal script = if nat_le (length script) max_commands then None else Some (Limit Commands 0)

-- the first refusal of an original and a target
abbrev pub recovery_refusal : ScopData → ScopData → Option Refusal
recovery_refusal O T = or_else (pair_refusal O T) (length_refusal (strategy O T))

-- two valid SCoPs that aren't refused for themselves can be recovered, and only such
abbrev pub UnrefusedCanRecover : Type 0
UnrefusedCanRecover = (O T : ScopData) → (IsValid O → IsValid T → pair_refusal O T ≡ None → CanRecover O T) × (CanRecover O T → pair_refusal O T ≡ None)
