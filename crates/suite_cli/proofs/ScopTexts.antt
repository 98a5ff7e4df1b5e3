-- A text that stands for a SCoP has no fault.
use Rattle.std.proofs.Common.{◌≡◌, ◌∙◌, ℕ, List, None, Ok, ap}
use Rattle.scop_core.specs.ScopData.{ScopData}
use Rattle.scop_reader.specs.Texts.{IsScopText, fault, fault_from, pieces_in}
use Rattle.scop_reader.proofs.GrammarProper.{reads_exactly_law}

pub text_has_no_fault : (bytes : List ℕ) (S : ScopData) → IsScopText bytes S → fault bytes ≡ None
text_has_no_fault bytes S t =
    let read : pieces_in bytes ≡ Ok t.pieces = (reads_exactly_law bytes t.pieces).1 t.text in
    ap fault_from read ∙ t.accepted
