-- What is assembled of the pieces of a text.
use Rattle.std.proofs.Common.{◌≡◌, ℕ, List, sym, ap, ◌∙◌, None, Result, Ok, Err, subst}
use Rattle.std.specs.Prelude.{IfOk, OnOk, IfErr}
use Rattle.suite_base.specs.declared.refusals.Fail.{Fail}
use Rattle.suite_base.specs.declared.refusals.Fail.TheVariants as fail
use Rattle.suite_base.specs.declared.refusals.Refusal.{Refusal}
use Rattle.scop_data.specs.declared.raw_pieces.ScopPieces.{ScopPieces}
use Rattle.scop_core.specs.Assembly.{refusal_of, scop_of, HasCause}
use Rattle.scop_core.specs.ScopData.{ScopData}
use Rattle.scop_reader.specs.Texts.{IsScopText, GivesScop, pieces_in, fault_from, fault}
use Rattle.scop_reader.proofs.GrammarProper.{read_text}

pub text_is : (bytes : List ℕ) (pieces : ScopPieces) (r : Result ScopData Fail) → pieces_in bytes ≡ Ok pieces → OnOk r (refusal_of pieces ≡ None) → IfOk r (λ S. S ≡ scop_of pieces) → IfOk r (IsScopText bytes)
text_is bytes pieces (Ok S) e none is = record { pieces = pieces; text = read_text bytes pieces e; accepted = none; scop_is = is }
text_is bytes pieces (Err e) f none is = tt

pub scop_is : (bytes : List ℕ) (pieces : ScopPieces) (r : Result ScopData Fail) → pieces_in bytes ≡ Ok pieces → OnOk r (refusal_of pieces ≡ None) → IfOk r (λ S. S ≡ scop_of pieces) → IfOk r (GivesScop (pieces_in bytes))
scop_is bytes pieces (Ok S) e none is =
    let P : Result ScopPieces Refusal → Type 0 = λ found. GivesScop found S in
    subst P (sym e) (none, is)
scop_is bytes pieces (Err e) f none is = tt

pub none_is : (bytes : List ℕ) (pieces : ScopPieces) (r : Result ScopData Fail) → pieces_in bytes ≡ Ok pieces → OnOk r (refusal_of pieces ≡ None) → OnOk r (fault bytes ≡ None)
none_is bytes pieces (Ok S) e none = ap fault_from e ∙ none
none_is bytes pieces (Err e) f none = tt

cause_of : (bytes : List ℕ) (pieces : ScopPieces) (e : Fail) → pieces_in bytes ≡ Ok pieces → HasCause (refusal_of pieces) e → HasCause (fault bytes) e
cause_of bytes pieces fail.Memory f cause = tt
cause_of bytes pieces (fail.Refused refusal) f cause = ap fault_from f ∙ cause

pub cause_is : (bytes : List ℕ) (pieces : ScopPieces) (r : Result ScopData Fail) → pieces_in bytes ≡ Ok pieces → IfErr r (HasCause (refusal_of pieces)) → IfErr r (HasCause (fault bytes))
cause_is bytes pieces (Ok S) e cause = tt
cause_is bytes pieces (Err e) f cause = cause_of bytes pieces e f cause
