use Rattle.std.proofs.Common.{arith}
use Rattle.c_lexer.proofs.ReadingLemmas.{Ahead, none_left, some_left}
use Rattle.c_lexer.proofs.NextTokens.{nothing_left, no_token, a_token}
use Rattle.c_lexer.proofs.cursors.fetch.Goals as goal

pub returns-then-is_empty-clause-symbol : goal.returns-then-is_empty-clause-symbol
returns-then-is_empty-clause-symbol c =
    let h : Ahead c.args.text.now c.args.at c.ahead.result.0.now c.ahead.result.1.now = record { gap_is = c.ahead.ensures.gap; rest_is = c.ahead.ensures.rest; whole = c.ahead.ensures.whole } in
    let none = none_left _ _ c.is_empty.ensures c.if-is_empty.true in
    (nothing_left _ _ _ _ h (omega (arith, none))).symbol_is

pub returns-then-is_empty-clause-from : goal.returns-then-is_empty-clause-from
returns-then-is_empty-clause-from c =
    let h : Ahead c.args.text.now c.args.at c.ahead.result.0.now c.ahead.result.1.now = record { gap_is = c.ahead.ensures.gap; rest_is = c.ahead.ensures.rest; whole = c.ahead.ensures.whole } in
    let none = none_left _ _ c.is_empty.ensures c.if-is_empty.true in
    (nothing_left _ _ _ _ h (omega (arith, none))).from_is

pub returns-then-is_empty-clause-to : goal.returns-then-is_empty-clause-to
returns-then-is_empty-clause-to c =
    let h : Ahead c.args.text.now c.args.at c.ahead.result.0.now c.ahead.result.1.now = record { gap_is = c.ahead.ensures.gap; rest_is = c.ahead.ensures.rest; whole = c.ahead.ensures.whole } in
    let none = none_left _ _ c.is_empty.ensures c.if-is_empty.true in
    (nothing_left _ _ _ _ h (omega (arith, none))).to_is

pub returns-in-None-clause-symbol : goal.returns-in-None-clause-symbol
returns-in-None-clause-symbol c =
    let h : Ahead c.args.text.now c.args.at c.ahead.result.0.now c.ahead.result.1.now = record { gap_is = c.ahead.ensures.gap; rest_is = c.ahead.ensures.rest; whole = c.ahead.ensures.whole } in
    (no_token _ _ _ _ h (some_left _ _ c.is_empty.ensures c.if-is_empty.false) c.in-None.ensures.value).symbol_is

pub returns-in-None-clause-from : goal.returns-in-None-clause-from
returns-in-None-clause-from c =
    let h : Ahead c.args.text.now c.args.at c.ahead.result.0.now c.ahead.result.1.now = record { gap_is = c.ahead.ensures.gap; rest_is = c.ahead.ensures.rest; whole = c.ahead.ensures.whole } in
    (no_token _ _ _ _ h (some_left _ _ c.is_empty.ensures c.if-is_empty.false) c.in-None.ensures.value).from_is

pub returns-in-None-clause-to : goal.returns-in-None-clause-to
returns-in-None-clause-to c =
    let h : Ahead c.args.text.now c.args.at c.ahead.result.0.now c.ahead.result.1.now = record { gap_is = c.ahead.ensures.gap; rest_is = c.ahead.ensures.rest; whole = c.ahead.ensures.whole } in
    (no_token _ _ _ _ h (some_left _ _ c.is_empty.ensures c.if-is_empty.false) c.in-None.ensures.value).to_is

pub returns-in-Some-clause-symbol : goal.returns-in-Some-clause-symbol
returns-in-Some-clause-symbol c =
    let h : Ahead c.args.text.now c.args.at c.ahead.result.0.now c.ahead.result.1.now = record { gap_is = c.ahead.ensures.gap; rest_is = c.ahead.ensures.rest; whole = c.ahead.ensures.whole } in
    (a_token _ _ _ _ _ _ _ h (some_left _ _ c.is_empty.ensures c.if-is_empty.false) c.in-Some.ensures.value c.symbol_of.ensures).symbol_is

pub returns-in-Some-clause-from : goal.returns-in-Some-clause-from
returns-in-Some-clause-from c =
    let h : Ahead c.args.text.now c.args.at c.ahead.result.0.now c.ahead.result.1.now = record { gap_is = c.ahead.ensures.gap; rest_is = c.ahead.ensures.rest; whole = c.ahead.ensures.whole } in
    (a_token _ _ _ _ _ _ _ h (some_left _ _ c.is_empty.ensures c.if-is_empty.false) c.in-Some.ensures.value c.symbol_of.ensures).from_is

pub returns-in-Some-clause-to : goal.returns-in-Some-clause-to
returns-in-Some-clause-to c =
    let h : Ahead c.args.text.now c.args.at c.ahead.result.0.now c.ahead.result.1.now = record { gap_is = c.ahead.ensures.gap; rest_is = c.ahead.ensures.rest; whole = c.ahead.ensures.whole } in
    (a_token _ _ _ _ _ _ _ h (some_left _ _ c.is_empty.ensures c.if-is_empty.false) c.in-Some.ensures.value c.symbol_of.ensures).to_is
