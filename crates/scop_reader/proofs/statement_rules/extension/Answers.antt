use Rattle.std.proofs.Common.{◌∙◌, sym, ap}
use Rattle.std.specs.Str.{bytes_eq}
use Rattle.scop_core.specs.Printable.{body_name}
use Rattle.scop_reader.specs.Rules.{body, extensions_of}
use Rattle.scop_reader.proofs.SpecialTwice.{refused_again}
use Rattle.scop_reader.proofs.statement_rules.extension.Goals as goal

pub returns-then-is_some : goal.returns-then-is_some
returns-then-is_some c =
    refused_again body_name (body c.args.iterators) (extensions_of c.args.special.now c.args.others.now) c.args.cursor.now c.said_line.new.self
    c.in_ok-line.line c.content-text.result.now c.opened_name-name.result.now c.number-then-is_some.result c.bad_line-then-is_some.result
    c.in_ok-line.ensures c.content-text.ensures (sym c.is_opening.ensures ∙ c.if-not-is_opening.false) c.opened_name-name.ensures
    (ap (λ w. bytes_eq c.opened_name-name.result.now w) (sym c.as_slice.ensures) ∙ (sym c.eq.ensures ∙ c.if-eq.true))
    (sym c.is_some.ensures ∙ c.if-is_some.true) c.number-then-is_some.ensures c.bad_line-then-is_some.ensures
