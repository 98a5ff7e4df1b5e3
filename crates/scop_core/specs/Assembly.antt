-- What the pieces of a SCoP give: the first refusal in the stated order, or the SCoP.
use Rattle.std.specs.Prelude.{ℤ, ℕ, zero, suc, ◌+◌, ◌*◌, ◌≡◌, Bool, true, false, ◌&&◌, ◌||◌, nat_lt, if◌then◌else◌, List, [], ◌∷◌, ◌++◌, Option, None, Some, length, All, IfSome}
use Rattle.std.specs.Fmt.{decimal}
use Rattle.std.specs.Ordering.{int_eq}
use Rattle.suite_base.specs.declared.refusals.Refusal.{Refusal}
use Rattle.suite_base.specs.declared.refusals.Refusal.TheVariants.{NotSolved, BetaClash, Limit}
use Rattle.suite_base.specs.declared.refusals.Which.TheVariants.{Statements, Iterators, Parameters, Levels, Locals, Rows, Parts, Accesses, Subscripts, Arrays}
use Rattle.suite_base.specs.declared.refusals.Fail.{Fail}
use Rattle.suite_base.specs.declared.refusals.Fail.TheVariants.{Memory, Refused}
use Rattle.suite_base.specs.Limits.{max_statements, max_iterators, max_parameters, max_levels, max_locals, max_rows, max_parts, max_accesses, max_subscripts, max_arrays}
use Rattle.relation_core.specs.Systems.{System}
use Rattle.scop_data.specs.declared.accesses.AccessKind.{AccessKind}
use Rattle.scop_data.specs.declared.accesses.Access.{Access}
use Rattle.scop_core.specs.declared.limits.PartCount.{PartCount}
use Rattle.scop_core.specs.declared.limits.PartCount.TheVariants.{OutputCount, LocalCount, RowCount}
use Rattle.scop_data.specs.declared.statements.Body.{Body}
use Rattle.scop_data.specs.declared.statements.Statement.{Statement}
use Rattle.scop_data.specs.declared.raw_pieces.RawStatement.{RawStatement}
use Rattle.scop_data.specs.declared.raw_pieces.ScopPieces.{ScopPieces}
use Rattle.schedule_forms.specs.SolvedForm.{is_scattering, is_access, schedule_of, access_of}
use Rattle.scop_data.specs.ScopData.{ScopData}

-- the first answer, or else the second
abbrev pub or_else : {X : Type 0} → Option X → Option X → Option X
or_else (Some x) next = Some x
or_else None next = next

-- the number of arrays that are present
abbrev pub array_count : Option (List (ℤ × List ℕ)) → ℕ
array_count None = 0
array_count (Some arrays) = length arrays

-- how many outputs, locals or rows a part has
abbrev pub count_of : PartCount → System → ℕ
count_of OutputCount part = part.shape.outputs
count_of LocalCount part = part.shape.locals
count_of RowCount part = length part.rows

-- some part has more than so many
abbrev pub some_above : PartCount → ℕ → List System → Bool
some_above count most [] = false
some_above count most (part ∷ parts) = nat_lt most (count_of count part) || some_above count most parts

-- some part of some access has
abbrev pub accesses_above : PartCount → ℕ → List (AccessKind × List System) → Bool
accesses_above count most [] = false
accesses_above count most (access ∷ accesses) = some_above count most access.1 || accesses_above count most accesses

-- some part of some relation of a statement has
abbrev pub statement_above : PartCount → ℕ → RawStatement → Bool
statement_above count most raw =
    some_above count most raw.domain || (some_above count most raw.scattering || accesses_above count most raw.accesses)

-- some access has too many parts
abbrev pub accesses_many : List (AccessKind × List System) → Bool
accesses_many [] = false
accesses_many (access ∷ accesses) = nat_lt max_parts (length access.1) || accesses_many accesses

-- some relation of a statement has
abbrev pub has_many_parts : RawStatement → Bool
has_many_parts raw = nat_lt max_parts (length raw.domain) || (nat_lt max_parts (length raw.scattering) || accesses_many raw.accesses)

-- the first limit that the whole passes: statements, parameters, rows of the context, arrays
abbrev pub whole_limit : ScopPieces → Option Refusal
whole_limit pieces =
    if nat_lt max_statements (length pieces.statements) then Some (Limit Statements 0)
    else (if nat_lt max_parameters pieces.context.shape.parameters then Some (Limit Parameters 0)
    else (if nat_lt max_rows (length pieces.context.rows) then Some (Limit Rows 0)
    else (if nat_lt max_arrays (array_count pieces.arrays) then Some (Limit Arrays 0) else None)))

-- the first limit that statement number k passes
abbrev pub statement_limit : ℕ → RawStatement → Option Refusal
statement_limit k raw =
    if some_above OutputCount max_iterators raw.domain then Some (Limit Iterators k)
    else (if some_above OutputCount (2 * max_levels + 1) raw.scattering then Some (Limit Levels k)
    else (if statement_above LocalCount max_locals raw then Some (Limit Locals k)
    else (if statement_above RowCount max_rows raw then Some (Limit Rows k)
    else (if has_many_parts raw then Some (Limit Parts k)
    else (if nat_lt max_accesses (length raw.accesses) then Some (Limit Accesses k)
    else (if accesses_above OutputCount (max_subscripts + 1) raw.accesses then Some (Limit Subscripts k) else None))))))

-- the first limit of the first statement that passes one; the first statement has number k
abbrev pub first_limit : ℕ → List RawStatement → Option Refusal
first_limit k [] = None
first_limit k (raw ∷ raws) = or_else (statement_limit k raw) (first_limit (k + 1) raws)

-- the relation has one part, which passes a test
abbrev pub is_one : (System → Bool) → List System → Bool
is_one test [] = false
is_one test (part ∷ []) = test part
is_one test (part ∷ (next ∷ parts)) = false

-- the first part
abbrev pub the_part : List System → System
the_part [] = record { shape = record { outputs = 0; inputs = 0; locals = 0; parameters = 0 }; rows = [] }
the_part (part ∷ parts) = part

-- every access is in solved form
abbrev pub are_solved : List (AccessKind × List System) → Bool
are_solved [] = true
are_solved (access ∷ accesses) = is_one is_access access.1 && are_solved accesses

-- the scattering and the accesses of a statement are in solved form
abbrev pub is_solved : RawStatement → Bool
is_solved raw = is_one is_scattering raw.scattering && are_solved raw.accesses

-- the first statement that is not solved; the first one has number k
abbrev pub first_unsolved : ℕ → List RawStatement → Option Refusal
first_unsolved k [] = None
first_unsolved k (raw ∷ raws) = if is_solved raw then first_unsolved (k + 1) raws else Some (NotSolved k)

-- the number of iterators of a statement
abbrev pub iterators_of : RawStatement → ℕ
iterators_of raw = (the_part raw.domain).shape.outputs

-- the names i1, i2 and so on of n iterators, from number k on
abbrev pub default_names : ℕ → ℕ → List (List ℕ)
default_names k zero = []
default_names k (suc n) = (105 ∷ decimal k) ∷ default_names (k + 1) n

-- the body of statement number k with n iterators, where it has none: S and its number
abbrev pub body_from : ℕ → ℕ → Option Body → Body
body_from k n (Some body) = body
body_from k n None = record { text = 83 ∷ decimal k; iterators = default_names 1 n }

-- the accesses in solved form
abbrev pub solved_accesses : List (AccessKind × List System) → List Access
solved_accesses [] = []
solved_accesses (access ∷ accesses) = access_of access.0 (the_part access.1) ∷ solved_accesses accesses

-- statement number k in solved form
abbrev pub solved_statement : ℕ → RawStatement → Statement
solved_statement k raw = record {
  domain = raw.domain;
  schedule = schedule_of (the_part raw.scattering);
  accesses = solved_accesses raw.accesses;
  body = body_from k (iterators_of raw) raw.body;
  extensions = raw.extensions;
}

-- the statements in solved form, the first one with number k
abbrev pub solved_statements : ℕ → List RawStatement → List Statement
solved_statements k [] = []
solved_statements k (raw ∷ raws) = solved_statement k raw ∷ solved_statements (k + 1) raws

-- two vectors are equal, or one is a prefix of the other
abbrev pub vectors_clash : List ℤ → List ℤ → Bool
vectors_clash [] b = true
vectors_clash (x ∷ a) [] = true
vectors_clash (x ∷ a) (y ∷ b) = int_eq x y && vectors_clash a b

-- the first of these statements, numbered from i on, whose vector clashes with that of statement j
abbrev pub clash_among : ℕ → ℕ → List Statement → List ℤ → Option Refusal
clash_among i j [] betas = None
clash_among i j (statement ∷ statements) betas =
    if vectors_clash statement.schedule.betas betas then Some (BetaClash i j) else clash_among (i + 1) j statements betas

-- the first clash of a statement, numbered from j on, with one before it
abbrev pub first_clash : ℕ → List Statement → List Statement → Option Refusal
first_clash j before [] = None
first_clash j before (statement ∷ statements) =
    or_else (clash_among 1 j before statement.schedule.betas) (first_clash (j + 1) (before ++ statement ∷ []) statements)

-- the first limit that is passed, of the whole and then of a statement, or else the first statement that is not solved
abbrev pub early_refusal_of : ScopPieces → Option Refusal
early_refusal_of pieces =
    or_else (whole_limit pieces) (or_else (first_limit 1 pieces.statements) (first_unsolved 1 pieces.statements))

-- the first refusal of the pieces; last comes the first clash of beta vectors
abbrev pub refusal_of : ScopPieces → Option Refusal
refusal_of pieces = or_else (early_refusal_of pieces) (first_clash 1 [] (solved_statements 1 pieces.statements))

-- the SCoP of the pieces
abbrev pub scop_of : ScopPieces → ScopData
scop_of pieces = record {
  language = pieces.language;
  context = pieces.context;
  parameters = pieces.parameters;
  statements = solved_statements 1 pieces.statements;
  arrays = pieces.arrays;
  extensions = pieces.extensions;
}

-- a failure to assemble has its cause: want of memory has none, a refusal is the first one
abbrev pub HasCause : Option Refusal → Fail → Type 0
HasCause refusal Memory = Unit {0}
HasCause refusal (Refused r) = refusal ≡ Some r

-- a part has so many inputs and parameters
pub record HasInputs (inputs parameters : ℕ) (part : System) : Type 0 where
  pub inputs_are : part.shape.inputs ≡ inputs
  pub parameters_are : part.shape.parameters ≡ parameters

-- the body of a statement names its iterators
abbrev pub HasNames : RawStatement → Type 0
HasNames raw = IfSome raw.body (λ body. length body.iterators ≡ iterators_of raw)

-- the relations of a statement fit its iterators and the parameters, and so does its body
pub record HasShapes (parameters : ℕ) (raw : RawStatement) : Type 0 where
  pub scattering : All (HasInputs (iterators_of raw) parameters) raw.scattering
  pub accesses : All (λ access. All (HasInputs (iterators_of raw) parameters) access.1) raw.accesses
  pub body : HasNames raw
