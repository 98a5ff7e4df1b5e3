use Rattle.std.proofs.Common.{◌∙◌, ap}
use Rattle.c_lexer.specs.Input.{here}
use Rattle.c_lexer.proofs.ReadingLemmas.{Ahead}
use Rattle.c_lexer.proofs.NextTokens.{next_here}
use Rattle.c_lexer.proofs.cursors.Tokens.place.Goals as goal

pub returns : goal.returns
returns c =
    let h : Ahead c.self.inside.text.now c.self.inside.at c.ahead.result.0.now c.ahead.result.1.now = record { gap_is = c.ahead.ensures.gap; rest_is = c.ahead.ensures.rest; whole = c.ahead.ensures.whole } in
    c.after_bytes.ensures ∙ (next_here _ _ _ _ h ∙ ap here c.self.view_is)
