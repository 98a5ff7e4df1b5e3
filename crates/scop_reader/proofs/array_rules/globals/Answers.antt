use Rattle.std.proofs.Common.{◌≡◌, ◌∙◌, sym, false}
use Rattle.std.proofs.lemmas.Result.{err_from_is_err_and}
use Rattle.std.specs.Str.{bytes_eq}
use Rattle.suite_base.specs.Words.{content}
use Rattle.scop_reader.specs.Reading.{next_said, literal}
use Rattle.scop_reader.specs.Rules.{extensions_of, close_word, globals}
use Rattle.scop_reader.proofs.GlobalTurns.{Globals, begins, closes, closed, one_more_global, fails}
use Rattle.scop_reader.proofs.FewerLines.{global_fewer}
use Rattle.scop_reader.proofs.array_rules.globals.Goals as goal

pub loop-alloc-init : goal.loop-alloc-init
loop-alloc-init c = begins c.args.cursor.now (extensions_of c.args.special.now c.args.others.now) c.requires

pub loop-alloc-preserved : goal.loop-alloc-preserved
loop-alloc-preserved c =
    let other : bytes_eq (content (next_said c.loop-alloc.cursor)) close_word ≡ false = sym c.sees.ensures ∙ c.loop-alloc-test.true in
    let read = c.in_ok-global.ensures in
    one_more_global c.args.cursor.now (extensions_of c.loop-alloc.special c.loop-alloc.others) (extensions_of c.global.new.special c.global.new.others) c.loop-alloc.cursor c.global.new.cursor
    c.loop-alloc.invariant other read
    (global_fewer (extensions_of c.loop-alloc.special c.loop-alloc.others) (extensions_of c.global.new.special c.global.new.others) c.loop-alloc.cursor c.global.new.cursor read)

pub loop-alloc-smaller : goal.loop-alloc-smaller
loop-alloc-smaller c =
    global_fewer (extensions_of c.loop-alloc.special c.loop-alloc.others) (extensions_of c.global.new.special c.global.new.others) c.loop-alloc.cursor c.global.new.cursor c.in_ok-global.ensures

pub returns-in_err-global : goal.returns-in_err-global
returns-in_err-global c =
    let other : bytes_eq (content (next_said c.loop-alloc.cursor)) close_word ≡ false = sym c.sees.ensures ∙ c.loop-alloc-test.true in
    let p = err_from_is_err_and c.from_residual.result c.from_residual.ensures.1 in
    rw (p.1, p.2) (fails c.args.cursor.now (extensions_of c.loop-alloc.special c.loop-alloc.others) (extensions_of c.global.new.special c.global.new.others) c.loop-alloc.cursor c.global.new.cursor
    c.in_err-global.field-0.0 c.loop-alloc.invariant other c.in_err-global.ensures)

pub returns : goal.returns
returns c =
    let found : Globals = extensions_of c.loop-alloc.special c.loop-alloc.others in
    closed (literal close_word c.loop-alloc.cursor) (globals c.args.cursor.now) found c.literal.result c.literal.new.cursor
    (closes c.args.cursor.now found c.loop-alloc.cursor c.loop-alloc.invariant (sym c.sees.ensures ∙ c.loop-alloc-test.false)) c.literal.ensures
