-- Each refusal of a text, and of its pieces, is one that a text can meet.
use Rattle.std.proofs.Common.{ℕ, ◌+◌, if◌then◌else◌, List, [], ◌∷◌, ◌++◌, Option, Some, None, Ok, Err, Bool, true, false, subst}
use Rattle.std.specs.Prelude.{ℤ}
use Rattle.suite_base.specs.Lines.{lines}
use Rattle.suite_base.specs.declared.refusals.Refusal.{Refusal}
use Rattle.suite_base.specs.declared.refusals.Refusal.TheVariants.{BetaClash, Limit, NotSolved, TooLong}
use Rattle.suite_base.specs.declared.refusals.Which.TheVariants.{Statements, Iterators, Parameters, Levels, Locals, Rows, Parts, Accesses, Subscripts, Arrays}
use Rattle.scop_data.specs.declared.statements.Statement.{Statement}
use Rattle.scop_data.specs.declared.raw_pieces.RawStatement.{RawStatement}
use Rattle.scop_data.specs.declared.raw_pieces.ScopPieces.{ScopPieces}
use Rattle.scop_core.specs.Assembly.{or_else, whole_limit, statement_limit, first_limit, first_unsolved, clash_among, first_clash, solved_statements, refusal_of}
use Rattle.scop_reader.specs.Reading.{Outcome}
use Rattle.scop_reader.specs.Rules.{scop}
use Rattle.scop_reader.specs.Texts.{FaultIsNotTooLong, FaultIsOfText, answer_of, fault, fault_from, pieces_in}
use Rattle.scop_reader.proofs.Faults.{MayMeet, MeetsText, none_meets, limited}
use Rattle.scop_reader.proofs.FaultRules.{scop_meets}

or_else_meets : (first next : Option Refusal) → MayMeet first → MayMeet next → MayMeet (or_else first next)
or_else_meets None next h k = k
or_else_meets (Some refusal) next h k = h

whole_limit_meets : (pieces : ScopPieces) → MayMeet (whole_limit pieces)
whole_limit_meets pieces =
    limited _ (Limit Statements 0) _ tt (limited _ (Limit Parameters 0) _ tt (limited _ (Limit Rows 0) _ tt (limited _ (Limit Arrays 0) None tt none_meets)))

statement_limit_meets : (k : ℕ) (raw : RawStatement) → MayMeet (statement_limit k raw)
statement_limit_meets k raw =
    limited _ (Limit Iterators k) _ tt (limited _ (Limit Levels k) _ tt (limited _ (Limit Locals k) _ tt (limited _ (Limit Rows k) _ tt
    (limited _ (Limit Parts k) _ tt (limited _ (Limit Accesses k) _ tt (limited _ (Limit Subscripts k) None tt none_meets))))))

first_limit_meets : (k : ℕ) (raws : List RawStatement) → MayMeet (first_limit k raws)
first_limit_meets k [] = none_meets
first_limit_meets k (raw ∷ raws) = or_else_meets (statement_limit k raw) (first_limit (k + 1) raws) (statement_limit_meets k raw) (first_limit_meets (k + 1) raws)

if_meets_next : (b : Bool) (first next : Option Refusal) → MayMeet first → MayMeet next → MayMeet (if b then first else next)
if_meets_next true first next h k = h
if_meets_next false first next h k = k

first_unsolved_meets : (k : ℕ) (raws : List RawStatement) → MayMeet (first_unsolved k raws)
first_unsolved_meets k [] = none_meets
first_unsolved_meets k (raw ∷ raws) = if_meets_next _ (first_unsolved (k + 1) raws) (Some (NotSolved k)) (first_unsolved_meets (k + 1) raws) (record { meets = tt })

clash_among_meets : (i j : ℕ) (statements : List Statement) (betas : List ℤ) → MayMeet (clash_among i j statements betas)
clash_among_meets i j [] betas = none_meets
clash_among_meets i j (statement ∷ statements) betas = limited _ (BetaClash i j) (clash_among (i + 1) j statements betas) tt (clash_among_meets (i + 1) j statements betas)

first_clash_meets : (j : ℕ) (before statements : List Statement) → MayMeet (first_clash j before statements)
first_clash_meets j before [] = none_meets
first_clash_meets j before (statement ∷ statements) =
    or_else_meets (clash_among 1 j before statement.schedule.betas) (first_clash (j + 1) (before ++ statement ∷ []) statements)
    (clash_among_meets 1 j before statement.schedule.betas) (first_clash_meets (j + 1) (before ++ statement ∷ []) statements)

refusal_meets : (pieces : ScopPieces) → MayMeet (refusal_of pieces)
refusal_meets pieces =
    or_else_meets _ (first_clash 1 [] (solved_statements 1 pieces.statements))
    (or_else_meets (whole_limit pieces) _ (whole_limit_meets pieces) (or_else_meets (first_limit 1 pieces.statements) (first_unsolved 1 pieces.statements) (first_limit_meets 1 pieces.statements) (first_unsolved_meets 1 pieces.statements)))
    (first_clash_meets 1 [] (solved_statements 1 pieces.statements))

from_outcome : (o : Outcome ScopPieces) → MeetsText o → MayMeet (fault_from (answer_of o))
from_outcome (Ok p) h = refusal_meets p.0
from_outcome (Err refusal) h = record { meets = h }

fault_meets : (bytes : List ℕ) → MayMeet (fault bytes)
unfolding pieces_in
fault_meets bytes = from_outcome (scop (record { number = 1; lines = lines bytes })) (scop_meets (record { number = 1; lines = lines bytes }))

pub fault_is_of_text_law : FaultIsOfText
fault_is_of_text_law bytes refusal e = (subst MayMeet e (fault_meets bytes)).meets

pub fault_is_not_too_long_law : FaultIsNotTooLong
fault_is_not_too_long_law bytes e = fault_is_of_text_law bytes TooLong e
