use Rattle.std.proofs.Common.{◌∙◌, ◌+◌, ap, length, arith}
use Rattle.c_lexer.proofs.ReadingLemmas.{bounded, place_then, place_behind, none_left, some_left, Ahead, answer_some, answer_bad}
use Rattle.suite_base.specs.Places.{place_at}
use Rattle.c_lexer.proofs.lexers.Lexer.next.Goals as goal

pub after_bytes-place-requires-clause-line : goal.after_bytes-place-requires-clause-line
after_bytes-place-requires-clause-line c =
    let b = bounded c.self.inside.text.now c.self.inside.at c.self.inside.place c.self.invariant.2 in
    omega (arith, b.line, c.self.invariant.1, c.ahead.ensures.whole)

pub after_bytes-place-requires-clause-column : goal.after_bytes-place-requires-clause-column
after_bytes-place-requires-clause-column c =
    let b = bounded c.self.inside.text.now c.self.inside.at c.self.inside.place c.self.invariant.2 in
    omega (arith, b.column, c.self.invariant.1, c.ahead.ensures.whole)

pub invariant_of-self : goal.invariant_of-self
invariant_of-self c =
    let p = place_then c.self.inside.text.now c.self.inside.at c.self.inside.place c.after_bytes-place.result c.ahead.result.0.now c.self.invariant.2 c.ahead.ensures.blank c.after_bytes-place.ensures in
    let none = none_left _ _ c.is_empty.ensures c.if-is_empty.true in
    (omega arith, c.self.invariant.1, p ∙ ap (place_at c.self.inside.text.now) (omega (arith, none, c.ahead.ensures.whole)))

pub returns-in_default-clause-answer : goal.returns-in_default-clause-answer
returns-in_default-clause-answer c =
    let p = place_then c.self.inside.text.now c.self.inside.at c.self.inside.place c.after_bytes-place.result c.ahead.result.0.now c.self.invariant.2 c.ahead.ensures.blank c.after_bytes-place.ensures in
    let h : Ahead c.self.inside.text.now c.self.inside.at c.ahead.result.0.now c.ahead.result.1.now =
    record { gap_is = c.ahead.ensures.gap; rest_is = c.ahead.ensures.rest; whole = c.ahead.ensures.whole } in
    answer_bad c.args.self.now _ _ _ _ _ c.self.view_is h c.in_default.ensures.value (some_left _ _ c.is_empty.ensures c.if-is_empty.false) p

pub after_bytes-self-inside-requires-clause-line : goal.after_bytes-self-inside-requires-clause-line
after_bytes-self-inside-requires-clause-line c =
    let p = place_then c.self.inside.text.now c.self.inside.at c.self.inside.place c.after_bytes-place.result c.ahead.result.0.now c.self.invariant.2 c.ahead.ensures.blank c.after_bytes-place.ensures in
    let b = bounded c.self.inside.text.now (c.self.inside.at + length c.ahead.result.0.now) c.after_bytes-place.result p in
    omega (arith, b.line, c.self.invariant.1, c.ahead.ensures.whole)

pub after_bytes-self-inside-requires-clause-column : goal.after_bytes-self-inside-requires-clause-column
after_bytes-self-inside-requires-clause-column c =
    let p = place_then c.self.inside.text.now c.self.inside.at c.self.inside.place c.after_bytes-place.result c.ahead.result.0.now c.self.invariant.2 c.ahead.ensures.blank c.after_bytes-place.ensures in
    let b = bounded c.self.inside.text.now (c.self.inside.at + length c.ahead.result.0.now) c.after_bytes-place.result p in
    omega (arith, b.column, c.self.invariant.1, c.ahead.ensures.whole)

pub invariant_of-self-2 : goal.invariant_of-self-2
invariant_of-self-2 c =
    let p = place_then c.self.inside.text.now c.self.inside.at c.self.inside.place c.after_bytes-place.result c.ahead.result.0.now c.self.invariant.2 c.ahead.ensures.blank c.after_bytes-place.ensures in
    let h : Ahead c.self.inside.text.now c.self.inside.at c.ahead.result.0.now c.ahead.result.1.now =
    record { gap_is = c.ahead.ensures.gap; rest_is = c.ahead.ensures.rest; whole = c.ahead.ensures.whole } in (
      omega arith,
      c.self.invariant.1,
      place_behind c.self.inside.text.now c.self.inside.at c.in-Some.length c.after_bytes-place.result _ c.ahead.result.0.now c.ahead.result.1.now c.split_at.result.0.now h p
          c.split_at.ensures.front c.in-Some.ensures.within.1 c.after_bytes-self-inside.ensures,
    )

pub returns-clause-answer : goal.returns-clause-answer
returns-clause-answer c =
    let p = place_then c.self.inside.text.now c.self.inside.at c.self.inside.place c.after_bytes-place.result c.ahead.result.0.now c.self.invariant.2 c.ahead.ensures.blank c.after_bytes-place.ensures in
    let h : Ahead c.self.inside.text.now c.self.inside.at c.ahead.result.0.now c.ahead.result.1.now =
    record { gap_is = c.ahead.ensures.gap; rest_is = c.ahead.ensures.rest; whole = c.ahead.ensures.whole } in
    answer_some c.args.self.now _ _ c.in-Some.length _ _ (record { kind = c.in-Some.kind; text = c.split_at.result.0; place = c.after_bytes-place.result }) c.self.view_is h
    c.in-Some.ensures.value c.in-Some.ensures.within.0 c.in-Some.ensures.within.1 c.split_at.ensures.front p
