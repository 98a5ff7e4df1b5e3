-- The tree of a region, or why it has none.
use Rattle.std.specs.Prelude.{◌≡◌, ℕ, List, take, Result, Ok, Err}
use Rattle.suite_base.specs.Limits.{max_nests, max_loops}
use Rattle.suite_base.specs.declared.refusals.Fail.{Fail}
use Rattle.suite_base.specs.declared.refusals.Fail.TheVariants as fail
use Rattle.c_lexer.specs.declared.regions.Span.{Span}
use Rattle.c_lexer.specs.declared.stops.Stop.{Stop}
use Rattle.c_lexer.specs.declared.stops.Stop.TheVariants.{Refused}
use Rattle.c_lexer.specs.Readings.{Reading}
use Rattle.c_lexer.specs.Input.{Outcome}
use Rattle.c_parser.specs.declared.tree.Node.{Node}
use Rattle.c_parser.specs.declared.tree.Region.{Region}
use Rattle.c_parser.specs.Statements.{region}
use Rattle.c_parser.specs.Derivations.{Derived}
use Rattle.c_parser.specs.Prefixes.{HasCause}

-- reading begins at the span's first byte, in the text up to its end
abbrev pub reading_at : List ℕ → Span → Reading
reading_at bytes span = record { text = take span.to bytes; at = span.from }

-- the span's tokens are derived to these statements within the depths that are read
abbrev pub IsRegion : List ℕ → Span → List Node → Type 0
IsRegion bytes span nodes = Derived max_nests max_loops nodes (reading_at bytes span)

-- the answer is this tree, unless memory is wanting
abbrev pub Answers : List Node → Result Region Fail → Type 0
Answers nodes (Ok found) = found.nodes ≡ nodes
Answers nodes (Err fail.Memory) = Unit {0}
Answers nodes (Err (fail.Refused refusal)) = ⊥

-- each tree that the span's tokens are derived to is answered
abbrev pub Completes : List ℕ → Span → Result Region Fail → Type 0
Completes bytes span result = (nodes : List Node) → IsRegion bytes span nodes → Answers nodes result

-- a refusal has its cause
abbrev pub HasReason : List ℕ → Span → Result Region Fail → Type 0
HasReason bytes span (Ok found) = Unit {0}
HasReason bytes span (Err fail.Memory) = Unit {0}
HasReason bytes span (Err (fail.Refused refusal)) = HasCause (reading_at bytes span) refusal

-- ---- by the rules that read

abbrev pub answer_of : {A : Type 0} → Outcome A → Result A Stop
answer_of (Ok p) = Ok p.0
answer_of (Err e) = Err e

-- the statements of a region, or the refusal of the first token with which the grammar does not go on
abbrev pub read_region : List ℕ → Span → Result (List Node) Stop
read_region bytes span = answer_of (region (reading_at bytes span))

-- what an answer says
abbrev pub Parses : List ℕ → Span → Result Region Fail → Type 0
Parses bytes span (Ok found) = (found.source.now ≡ bytes) × (read_region bytes span ≡ Ok found.nodes)
Parses bytes span (Err fail.Memory) = Unit {0}
Parses bytes span (Err (fail.Refused refusal)) = read_region bytes span ≡ Err (Refused refusal)
