-- What is printed of a SCoP is a text of that SCoP.
use Rattle.std.proofs.Common.{sym, subst}
use Rattle.scop_core.specs.Layouts.{layout}
use Rattle.scop_core.specs.ScopData.{ScopData}
use Rattle.scop_core.specs.Assembly.{scop_of}
use Rattle.scop_reader.specs.Texts.{IsScopText, LayoutReadsBack, TextsReadBack}
use Rattle.scop_reader.proofs.GrammarProper.{text_read, read_printable}
use Rattle.scop_reader.proofs.GrammarHeld.{scop_held}
use Rattle.scop_reader.proofs.GrammarRanges.{text_held}
use Rattle.scop_reader.proofs.GrammarLayout.{layout_read}

pub layout_reads_back_law : LayoutReadsBack
layout_reads_back_law scop valid =
    let a = valid.assembled in
    let made = scop_held a.pieces a.printable a.accepted a.held in
    subst (λ (s : ScopData). IsScopText (layout s) s) (sym a.is_theirs) (layout_read (scop_of a.pieces) made.valid made.held)

pub texts_read_back_law : TextsReadBack
texts_read_back_law bytes scop short t =
    let printable = read_printable bytes t.pieces (text_read bytes t.pieces t.text) in
    let made = scop_held t.pieces printable t.accepted (text_held bytes t.pieces short t.text) in
    subst (λ (s : ScopData). IsScopText (layout s) s) (sym t.scop_is) (layout_read (scop_of t.pieces) made.valid made.held)
