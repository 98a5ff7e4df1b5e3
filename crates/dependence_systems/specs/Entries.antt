-- The list of dependence systems: what each is of.
use Rattle.std.specs.Prelude.{◌≡◌, ℕ, ◌+◌, ◌<◌, ◌++◌, ◌==◌, Bool, ◌&&◌, if◌then◌else◌, List, [], ◌∷◌, map, length, Option, Some, None}
use Rattle.std.specs.List.{flat_map, range_with_len}
use Rattle.std.specs.Ordering.{int_eq}
use Rattle.suite_base.specs.Limits.{max_systems}
use Rattle.suite_base.specs.declared.refusals.Refusal.TheVariants.{Limit}
use Rattle.suite_base.specs.declared.refusals.Which.TheVariants.{Systems}
use Rattle.suite_base.specs.declared.refusals.Fail.{Fail}
use Rattle.suite_base.specs.declared.refusals.Fail.TheVariants.{Memory, Refused}
use Rattle.scop_data.specs.declared.accesses.AccessKind.{AccessKind}
use Rattle.scop_data.specs.declared.accesses.AccessKind.TheVariants.{Read, Write, MayWrite}
use Rattle.scop_data.specs.declared.accesses.Access.{Access}
use Rattle.dependence_systems.specs.declared.dependences.Dep.{Dep}
use Rattle.dependence_systems.specs.declared.dependences.DepKind.{DepKind}
use Rattle.dependence_systems.specs.declared.dependences.Ends.{Ends}
use Rattle.dependence_systems.specs.declared.dependences.DepKind.TheVariants.{Raw, War, Waw}
use Rattle.scop_core.specs.LevelOrder.{common_loops, is_textually_before}
use Rattle.dependence_systems.specs.Sides.{Side, member, member_or, no_side}

-- the members of a list with their numbers, the first one with number k
abbrev pub numbered : {X : Type 0} → ℕ → List X → List (ℕ × X)
numbered k [] = []
numbered k (x ∷ xs) = (k, x) ∷ numbered (k + 1) xs

-- the kind of a dependence between two accesses; none where both only read
abbrev pub kind_between : AccessKind → AccessKind → Option DepKind
kind_between Read Read = None
kind_between Read Write = Some War
kind_between Read MayWrite = Some War
kind_between Write Read = Some Raw
kind_between Write Write = Some Waw
kind_between Write MayWrite = Some Waw
kind_between MayWrite Read = Some Raw
kind_between MayWrite Write = Some Waw
kind_between MayWrite MayWrite = Some Waw

-- two accesses are to one array, with equally many subscripts
abbrev pub can_meet : Access → Access → Bool
can_meet a b = int_eq a.array b.array && length a.subscripts == length b.subscripts

-- the ends of dependences between two statements with these numbers
abbrev pub ends_of : ℕ × Side → ℕ × Side → Ends
ends_of s t = record {
  source = s.0;
  target = t.0;
  source_parts = length s.1.domain;
  target_parts = length t.1.domain;
  common = common_loops s.1.schedule.betas t.1.schedule.betas;
  in_text = is_textually_before s.1.schedule.betas t.1.schedule.betas;
}

-- the levels between them: each loop around both, and last level 0, of the text's order
abbrev pub levels_of : Ends → List ℕ
levels_of ends = range_with_len 1 ends.common ++ (if ends.in_text then 0 ∷ [] else [])

-- an entry for each of so many loops
abbrev pub levels_upto : Dep → ℕ → List Dep
levels_upto e loops = map (λ level. record e { level = level }) (range_with_len 1 loops)

-- an entry at each level
abbrev pub at_levels : Ends → Dep → List Dep
at_levels ends e = map (λ level. record e { level = level }) (levels_of ends)

-- at each part of the target's domain
abbrev pub at_target_parts : Ends → Dep → List Dep
at_target_parts ends e = flat_map (λ q. at_levels ends (record e { target_part = q })) (range_with_len 1 ends.target_parts)

-- at each part of the source's domain
abbrev pub at_parts : Ends → Dep → List Dep
at_parts ends e = flat_map (λ p. at_target_parts ends (record e { source_part = p })) (range_with_len 1 ends.source_parts)

-- an entry of two accesses, before its parts and its level are chosen
abbrev pub first_entry : DepKind → Ends → ℕ → ℕ → Dep
first_entry kind ends a b = record {
  kind = kind;
  source = ends.source;
  target = ends.target;
  source_access = a;
  target_access = b;
  source_part = 0;
  target_part = 0;
  level = 0;
}

-- the entries of two accesses, by the kind of their dependence: by source part, target part and level
abbrev pub entries_by : Option DepKind → Ends → ℕ × Access → ℕ × Access → List Dep
entries_by None ends a b = []
entries_by (Some kind) ends a b = if can_meet a.1 b.1 then at_parts ends (first_entry kind ends a.0 b.0) else []

-- the entries of an access of the source, by target access
abbrev pub entries_from : Ends → ℕ × Access → List Access → List Dep
entries_from ends a seconds = flat_map (λ b. entries_by (kind_between a.1.kind b.1.kind) ends a b) (numbered 1 seconds)

-- the entries of the accesses of two statements, by source access and target access
abbrev pub entries_among : Ends → List Access → List Access → List Dep
entries_among ends firsts seconds = flat_map (λ a. entries_from ends a seconds) (numbered 1 firsts)

-- the entries of two statements
abbrev pub between : ℕ × Side → ℕ × Side → List Dep
between s t = entries_among (ends_of s t) s.1.accesses t.1.accesses

-- the statement of a number and its number
abbrev pub side_at : List Side → ℕ → ℕ × Side
side_at sides k = (k, member_or no_side (member sides k))

-- the entries of a source statement, by target statement, of which there are so many
abbrev pub entries_of_source : List Side → ℕ → ℕ → List Dep
entries_of_source sides count j = flat_map (λ k. between (side_at sides j) (side_at sides k)) (range_with_len 1 count)

-- the entries of so many statements, by their numbers
abbrev pub entries_by_number : List Side → ℕ → List Dep
entries_by_number sides count = flat_map (λ j. entries_of_source sides count j) (range_with_len 1 count)

-- all entries, by source statement and target statement
abbrev pub entries : List Side → List Dep
entries sides = flat_map (λ s. flat_map (λ t. between s t) (numbered 1 sides)) (numbered 1 sides)

-- what keeps the list from being answered: memory, or a whole of more than 65,536 entries
abbrev pub IsTooMany : List Dep → Fail → Type 0
IsTooMany whole Memory = Unit {0}
IsTooMany whole (Refused refusal) = (refusal ≡ Limit Systems 0) × (max_systems < length whole)
