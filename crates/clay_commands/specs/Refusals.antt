-- What a command is refused for: its conditions, then its limits, then the weight of its sums. The first command with a refusal decides.
use Rattle.std.specs.Prelude.{ℤ, pos, ℕ, ◌+◌, ◌-◌, ◌^◌, ◌==◌, nat_le, int_le, Bool, true, not, ◌&&◌, ◌||◌, if◌then◌else◌, Option, Some, None, Result, Ok, Err, List, [], ◌∷◌, length, max, unsigned_abs, map, is_none}
use Rattle.std.specs.List.{list_any}
use Rattle.std.specs.Ordering.{int_eq}
use Rattle.suite_base.specs.Limits.{max_statements, max_levels, max_locals, max_rows}
use Rattle.suite_base.specs.declared.refusals.Refusal.{Refusal}
use Rattle.suite_base.specs.declared.refusals.Refusal.TheVariants as refusal
use Rattle.suite_base.specs.declared.refusals.Which.TheVariants.{Statements, Levels, Locals, Rows}
use Rattle.suite_base.specs.declared.refusals.Where.TheVariants as count
use Rattle.beta_tree.specs.declared.refusals.BetaFail.{BetaFail}
use Rattle.beta_tree.specs.declared.refusals.BetaFail.TheVariants as beta
use Rattle.beta_tree.specs.Vectors.{no_statement, is_leaf}
use Rattle.beta_tree.specs.Answers.{fission_answer, fuse_answer, reorder_answer}
use Rattle.scop_data.specs.declared.affines.Affine.{Affine}
use Rattle.scop_data.specs.declared.statements.Statement.{Statement}
use Rattle.scop_core.specs.AffineSums.{sum_weight, move_weight}
use Rattle.scop_core.specs.Assembly.{or_else}
use Rattle.clay_script.specs.declared.commands.Command.{Command}
use Rattle.clay_script.specs.declared.commands.Command.TheVariants.{Fission, Fuse, Reorder, Interchange, Skew, Shift, Reverse, Stripmine, Tile, Iss}
use Rattle.clay_script.specs.Commands.{prefix_of}
use Rattle.clay_commands.specs.Arguments.{natural, are_natural, prefix_in, order_in, place}
use Rattle.clay_commands.specs.Drafts.{Draft, betas_of, is_under, form_at, draft_after}

-- every statement under P passes a test
abbrev pub all_under : List ℕ → (Statement → Bool) → Draft → Bool
all_under P test [] = true
all_under P test (leaf ∷ D) = (not (is_under P leaf.beta) || test leaf.statement) && all_under P test D

-- the greatest of some number of the statements under P
abbrev pub most_under : List ℕ → (Statement → ℕ) → Draft → ℕ
most_under P number [] = 0
most_under P number (leaf ∷ D) = max (if is_under P leaf.beta then number leaf.statement else 0) (most_under P number D)

-- a statement has a level k
abbrev pub has_level : ℤ → Statement → Bool
has_level k statement = int_le (pos 1) k && int_le k (pos (length statement.schedule.levels))

-- level k is one of each statement under P
abbrev pub is_within : ℤ → List ℕ → Draft → Bool
is_within k P D = all_under P (has_level k) D

-- the refusal of command number i by an operation on the vectors
abbrev pub refused : ℕ → Result (List (List ℕ)) BetaFail → Option Refusal
refused i (Ok V) = None
refused i (Err beta.Memory) = None
refused i (Err beta.NoBeta) = Some (refusal.NoBeta i)
refused i (Err beta.NotALoop) = Some (refusal.NotALoop i)
refused i (Err beta.BadArgument) = Some (refusal.BadArgument i)

-- a level first, then an argument
abbrev pub level_then : ℕ → Bool → Bool → Option Refusal
level_then i level argument =
    if not level then Some (refusal.BadLevel i) else (if not argument then Some (refusal.BadArgument i) else None)

-- level k can be cut into strips at place t
abbrev pub can_cut : ℤ → ℤ → List ℕ → Draft → Bool
can_cut k t P D = is_within k P D && int_le (pos (length P)) k && int_le (pos 1) t && int_le t k

-- the condition that command number i fails, of those behind NoBeta; there are so many parameters
abbrev pub condition_under : ℕ → ℕ → Command → List ℕ → Draft → Option Refusal
condition_under parameters i (Fission p c) P D = refused i (fission_answer P (natural c) (betas_of D))
condition_under parameters i (Fuse p) P D = refused i (fuse_answer P (betas_of D))
condition_under parameters i (Reorder p order) P D = refused i (reorder_answer P (order_in order) (betas_of D))
condition_under parameters i (Interchange p k l) P D = level_then i (is_within k P D && is_within l P D) true
condition_under parameters i (Skew p k l f) P D = level_then i (is_within k P D && is_within l P D) (not (int_eq k l))
condition_under parameters i (Shift p k v c) P D = level_then i (is_within k P D) (length v == parameters)
condition_under parameters i (Reverse p k) P D = level_then i (is_within k P D) true
condition_under parameters i (Stripmine p k s) P D = level_then i (can_cut k k P D) (int_le (pos 1) s)
condition_under parameters i (Tile p k s t) P D = level_then i (can_cut k t P D) (int_le (pos 1) s)
condition_under parameters i (Iss p xs ns c) P D =
    level_then i true (is_leaf P (betas_of D) && (all_under P (λ s. length xs == length s.body.iterators) D && length ns == parameters))

-- the condition that command number i fails
abbrev pub condition_of : ℕ → ℕ → Command → Draft → Option Refusal
condition_of parameters i command D =
    if not (are_natural (prefix_of command)) || no_statement (prefix_in command) (betas_of D) then Some (refusal.NoBeta i)
    else condition_under parameters i command (prefix_in command) D

-- some part of a statement's domain has as many rows as a part may have
abbrev pub has_full_part : Statement → Bool
has_full_part statement = list_any (λ part. nat_le max_rows (length part.rows)) statement.domain

-- the limit that one more level and floor pass in a statement under P: a level too many of any, then a floor too many of any
abbrev pub cut_limit : ℕ → List ℕ → Draft → Option Refusal
cut_limit i P D =
    if nat_le max_levels (most_under P (λ s. length s.schedule.levels) D) then Some (refusal.Limit Levels i)
    else (if nat_le max_locals (most_under P (λ s. length s.schedule.floors) D) then Some (refusal.Limit Locals i) else None)

-- the limit that command number i passes
abbrev pub limit_of : ℕ → Command → Draft → Option Refusal
limit_of i (Stripmine p k s) D = cut_limit i (map natural p) D
limit_of i (Tile p k s t) D = cut_limit i (map natural p) D
limit_of i (Iss p xs ns c) D =
    if nat_le max_statements (length D) then Some (refusal.Limit Statements i)
    else (if not (all_under (map natural p) (λ s. not (has_full_part s)) D) then Some (refusal.Limit Rows i) else None)
limit_of i other D = None

-- the weight of the constant in the rows of a floor of a form by s
abbrev pub floor_weight : Affine → ℤ → ℕ
floor_weight form s = unsigned_abs form.constant + unsigned_abs s - 1

-- the greatest sum of absolute values that a command makes in a statement
abbrev pub statement_weight : Command → Statement → ℕ
statement_weight (Skew p k l f) s = sum_weight (form_at s.schedule.levels (place k)) f (form_at s.schedule.levels (place l))
statement_weight (Shift p k v c) s = move_weight (form_at s.schedule.levels (place k)) v c
statement_weight (Stripmine p k size) s = floor_weight (form_at s.schedule.levels (place k)) size
statement_weight (Tile p k size t) s = floor_weight (form_at s.schedule.levels (place k)) size
statement_weight (Iss p xs ns c) s = unsigned_abs c + 1
statement_weight other s = 0

-- the greatest one of the statements under the command's prefix
abbrev pub weight_of : Command → Draft → ℕ
weight_of command D = most_under (prefix_in command) (statement_weight command) D

-- a weight past the greatest coefficient
abbrev pub overflow_of : ℕ → Command → Draft → Option Refusal
overflow_of i command D = if nat_le (2 ^ 127) (weight_of command D) then Some (refusal.Overflow count.Command i) else None

-- the refusal of command number i
abbrev pub refusal_at : ℕ → ℕ → Command → Draft → Option Refusal
refusal_at parameters i command D = or_else (condition_of parameters i command D) (or_else (limit_of i command D) (overflow_of i command D))

-- the first refusal of these commands, numbered from i on
abbrev pub first_refusal : ℕ → ℕ → List Command → Draft → Option Refusal
first_refusal parameters i [] D = None
first_refusal parameters i (command ∷ commands) D =
    or_else (refusal_at parameters i command D) (first_refusal parameters (i + 1) commands (draft_after command D))

-- no condition fails at any of these commands
abbrev pub is_formed : ℕ → List Command → Draft → Bool
is_formed parameters [] D = true
is_formed parameters (command ∷ commands) D = is_none (condition_of parameters 1 command D) && is_formed parameters commands (draft_after command D)
