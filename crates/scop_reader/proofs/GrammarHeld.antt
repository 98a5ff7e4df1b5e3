-- Pieces that types hold give SCoPs that do, and the pieces of a text are such.
use Rattle.std.proofs.Common.{◌≡◌, refl, sym, subst, Option, Some, None, ℕ, ◌+◌, List, [], ◌∷◌, length, map, Bool, true, false}
use Rattle.std.specs.Prelude.{if◌then◌else◌, IfSome, All}
use Rattle.std.specs.List.{AllByRecursion}
use Rattle.std.proofs.lemmas.Bool.{and_parts}
use Rattle.std.proofs.lemmas.List.Elements.{All-from_recursion, recursion_from_All}
use Rattle.relation_core.specs.Systems.{System}
use Rattle.scop_data.specs.declared.accesses.AccessKind.{AccessKind}
use Rattle.scop_data.specs.declared.accesses.Access.{Access}
use Rattle.scop_data.specs.declared.statements.Body.{Body}
use Rattle.scop_data.specs.declared.statements.Statement.{Statement}
use Rattle.scop_data.specs.declared.raw_pieces.RawStatement.{RawStatement}
use Rattle.scop_data.specs.declared.raw_pieces.ScopPieces.{ScopPieces}
use Rattle.scop_core.specs.SolvedRows.{schedule_part, access_part, HasRelation, HasAccessRelation}
use Rattle.scop_core.specs.SolvedForm.{is_scattering, is_access, schedule_of, access_of}
use Rattle.scop_core.specs.Assembly.{or_else, whole_limit, first_limit, early_refusal_of, first_clash, is_one, the_part, are_solved, is_solved, first_unsolved, iterators_of, body_from, solved_accesses, solved_statement, solved_statements, refusal_of, scop_of, HasInputs, HasShapes}
use Rattle.scop_core.specs.Printable.{IsPrintable}
use Rattle.scop_core.specs.ReadBack.{access_piece, statement_pieces as printed_statement, pieces_of as printed_pieces}
use Rattle.scop_core.specs.Validity.{HasRelations, IsValid}
use Rattle.scop_core.proofs.ReadBackNames.{default_count}
use Rattle.schedule_forms.proofs.SolvedPieces.{solved_is_solved, access_is_solved}
use Rattle.scop_core.specs.Held.{IsFormed, StatementIsHeld, IsHeld}
use Rattle.scop_reader.proofs.GrammarProper.{no_first}
use Rattle.scop_reader.proofs.GrammarFormed.{scattering_formed, access_part_formed}

-- ---- one solved part

one_of : (test : System → Bool) (P : System → Type 0) (parts : List System) → is_one test parts ≡ true → AllByRecursion P parts → (test (the_part parts) ≡ true) × P (the_part parts)
one_of test P [] h all = absurd (cc)
one_of test P (p ∷ []) h all = (h, all.0)
one_of test P (p ∷ (q ∷ parts)) h all = absurd (cc)

-- a schedule or access over these iterators and parameters that can be printed, and what is printed of it
record ScheduleHeld (i p : ℕ) (part : System) : Type 0 where
  relation : HasRelation i p (schedule_of part)
  formed : IsFormed (schedule_part i p (schedule_of part))

schedule_held : (i p : ℕ) (part : System) → IsFormed part → is_scattering part ≡ true → HasInputs i p part → ScheduleHeld i p part
schedule_held i p part f h inputs =
    subst (λ (n : ℕ). ScheduleHeld i n part) inputs.parameters_are (subst (λ (n : ℕ). ScheduleHeld n part.shape.parameters part) inputs.inputs_are (record {
      relation = (solved_is_solved part f h).relation;
      formed = scattering_formed part f h;
    }))

record AccessHeld (i p : ℕ) (kind : AccessKind) (part : System) : Type 0 where
  relation : HasAccessRelation i p (access_of kind part)
  formed : IsFormed (access_part i p (access_of kind part))

access_held : (i p : ℕ) (kind : AccessKind) (part : System) → IsFormed part → is_access part ≡ true → HasInputs i p part → AccessHeld i p kind part
access_held i p kind part f h inputs =
    subst (λ (n : ℕ). AccessHeld i n kind part) inputs.parameters_are (subst (λ (n : ℕ). AccessHeld n part.shape.parameters kind part) inputs.inputs_are (record {
      relation = (access_is_solved kind part f h).relation;
      formed = access_part_formed kind part f h;
    }))

-- ---- accesses

record AccessesHeld (i p : ℕ) (accesses : List Access) : Type 0 where
  relations : AllByRecursion (HasAccessRelation i p) accesses
  formed : AllByRecursion (λ access. All IsFormed access.1) (map (access_piece i p) accesses)

accesses_held : (i p : ℕ) (raws : List (AccessKind × List System)) → are_solved raws ≡ true → AllByRecursion (λ access. All (HasInputs i p) access.1) raws → AllByRecursion (λ access. All IsFormed access.1) raws
    → AccessesHeld i p (solved_accesses raws)
accesses_held i p [] solved inputs f = record { relations = tt; formed = tt }
accesses_held i p (raw ∷ raws) solved inputs f =
    let both = and_parts (is_one is_access raw.1) (are_solved raws) solved in
    let part = one_of is_access IsFormed raw.1 both.0 (recursion_from_All IsFormed raw.1 f.0) in
    let shape = one_of is_access (HasInputs i p) raw.1 both.0 (recursion_from_All (HasInputs i p) raw.1 inputs.0) in
    let one = access_held i p raw.0 (the_part raw.1) part.1 part.0 shape.1 in
    let more = accesses_held i p raws both.1 inputs.1 f.1 in
    record {
      relations = (one.relation, more.relations);
      formed = (All-from_recursion IsFormed (access_part i p (access_of raw.0 (the_part raw.1)) ∷ []) (one.formed, tt), more.formed);
    }

-- ---- statements

names_count : (k n : ℕ) (body : Option Body) → IfSome body (λ b. length b.iterators ≡ n) → length (body_from k n body).iterators ≡ n
names_count k n (Some body) h = h
names_count k n None h = default_count 1 n

record StatementHeld (p : ℕ) (statement : Statement) : Type 0 where
  relations : HasRelations p statement
  held : StatementIsHeld (printed_statement p statement)

statement_held : (p k : ℕ) (raw : RawStatement) → HasShapes p raw → is_solved raw ≡ true → StatementIsHeld raw → StatementHeld p (solved_statement k raw)
statement_held p k raw shapes solved held =
    let n : ℕ = iterators_of raw in
    let i : ℕ = length (body_from k n raw.body).iterators in
    let same : n ≡ i = sym (names_count k n raw.body shapes.body) in
    let both = and_parts (is_one is_scattering raw.scattering) (are_solved raw.accesses) solved in
    let part = one_of is_scattering IsFormed raw.scattering both.0 (recursion_from_All IsFormed raw.scattering held.scattering) in
    let shape = one_of is_scattering (HasInputs n p) raw.scattering both.0 (recursion_from_All (HasInputs n p) raw.scattering shapes.scattering) in
    let schedule : ScheduleHeld i p (the_part raw.scattering) = subst (λ (m : ℕ). ScheduleHeld m p (the_part raw.scattering)) same (schedule_held n p (the_part raw.scattering) part.1 part.0 shape.1) in
    let accesses : AccessesHeld i p (solved_accesses raw.accesses) = subst (λ (m : ℕ). AccessesHeld m p (solved_accesses raw.accesses)) same
    (accesses_held n p raw.accesses both.1 (recursion_from_All (λ (a : AccessKind × List System). All (HasInputs n p) a.1) raw.accesses shapes.accesses)
    (recursion_from_All (λ (a : AccessKind × List System). All IsFormed a.1) raw.accesses held.accesses)) in
    record {
      relations = record {
        schedule = schedule.relation;
        accesses = All-from_recursion (HasAccessRelation i p) (solved_accesses raw.accesses) accesses.relations;
      };
      held = record {
        domain = held.domain;
        scattering = All-from_recursion IsFormed (schedule_part i p (schedule_of (the_part raw.scattering)) ∷ []) (schedule.formed, tt);
        accesses = All-from_recursion (λ (a : AccessKind × List System). All IsFormed a.1) (map (access_piece i p) (solved_accesses raw.accesses)) accesses.formed;
        extensions = held.extensions;
      };
    }

record StatementsHeld (p : ℕ) (statements : List Statement) : Type 0 where
  relations : AllByRecursion (HasRelations p) statements
  held : AllByRecursion StatementIsHeld (map (printed_statement p) statements)

solved_first : {X : Type 0} (t : Bool) (x : X) (rest : Option X) → (if t then rest else Some x) ≡ None → (t ≡ true) × (rest ≡ None)
solved_first true x rest h = (refl, h)
solved_first false x rest h = absurd (cc)

statements_held : (p k : ℕ) (raws : List RawStatement) → AllByRecursion (HasShapes p) raws → first_unsolved k raws ≡ None → AllByRecursion StatementIsHeld raws → StatementsHeld p (solved_statements k raws)
statements_held p k [] shapes solved held = record { relations = tt; held = tt }
statements_held p k (raw ∷ raws) shapes solved held =
    let both = solved_first (is_solved raw) _ (first_unsolved (k + 1) raws) solved in
    let one = statement_held p k raw shapes.0 both.0 held.0 in
    let more = statements_held p (k + 1) raws shapes.1 both.1 held.1 in
    record { relations = (one.relations, more.relations); held = (one.held, more.held) }

-- ---- the whole

-- the SCoP of pieces is valid, and what is printed of it is such as types hold
pub record ScopIsHeld (pieces : ScopPieces) : Type 0 where
  pub valid : IsValid (scop_of pieces)
  pub held : IsHeld (printed_pieces (scop_of pieces))

pub scop_held : (pieces : ScopPieces) → IsPrintable pieces → refusal_of pieces ≡ None → IsHeld pieces → ScopIsHeld pieces
scop_held pieces printable accepted held =
    let p : ℕ = pieces.context.shape.parameters in
    let early = no_first (early_refusal_of pieces) (first_clash 1 [] (solved_statements 1 pieces.statements)) accepted in
    let whole = no_first (whole_limit pieces) (or_else (first_limit 1 pieces.statements) (first_unsolved 1 pieces.statements)) early.0 in
    let unsolved = no_first (first_limit 1 pieces.statements) (first_unsolved 1 pieces.statements) whole.1 in
    let all = statements_held p 1 pieces.statements (recursion_from_All (HasShapes p) pieces.statements printable.shapes) unsolved.1 (recursion_from_All StatementIsHeld pieces.statements held.statements) in
    record {
      valid = record {
        statements = All-from_recursion (HasRelations p) (solved_statements 1 pieces.statements) all.relations;
        assembled = record { pieces = pieces; printable = printable; accepted = accepted; held = held; is_theirs = refl };
      };
      held = record {
        context = held.context;
        statements = All-from_recursion StatementIsHeld (map (printed_statement p) (solved_statements 1 pieces.statements)) all.held;
        arrays = held.arrays;
      };
    }
