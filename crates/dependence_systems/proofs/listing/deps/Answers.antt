use Rattle.std.proofs.Common.{◌≡◌, ◌<◌, ◌+◌, ◌++◌, ◌-◌, length, refl, ap, sym, ◌∙◌, subst, arith, append-nil}
use Rattle.std.specs.List.{flat_map, range_with_len}
use Rattle.std.proofs.lemmas.Result.{err_from_is_err_and}
use Rattle.dependence_systems.specs.Sides.{sides}
use Rattle.dependence_systems.specs.Entries.{entries_of_source, entries_by_number, entries, IsTooMany}
use Rattle.dependence_systems.proofs.NamedSides.{number_counts, member_below, length_sides}
use Rattle.dependence_systems.proofs.Pushes.{range_step, range_too_many, entries_are}
use Rattle.dependence_systems.proofs.listing.deps.Goals as goal

pub overflow_cast-j : goal.overflow_cast-j
overflow_cast-j c =
    let below : c.loop-j.j < length c.args.now.now.statements = omega (arith, c.loop-j-test.true, c.statement_count-count.ensures.count) in
    let few = number_counts c.args.now.now c.statement_count-count.ensures.valid in
    omega (arith, few)

pub push_source-requires-clause-source : goal.push_source-requires-clause-source
push_source-requires-clause-source c =
    let below : c.loop-j.j < length c.args.now.now.statements = omega (arith, c.loop-j-test.true, c.statement_count-count.ensures.count) in
    member_below c.args.now.now.statements c.loop-j.j (c.loop-j.j + 1) below refl

all_entries : (c : goal.After-drop-spans-inside) → entries_by_number (sides c.args.old.now c.args.now.now c.args.pieces.now) (length c.args.now.now.statements) ≡ entries (sides c.args.old.now c.args.now.now c.args.pieces.now)
all_entries c = ap (λ n. entries_by_number (sides c.args.old.now c.args.now.now c.args.pieces.now) n) (sym (length_sides c.args.old.now.statements c.args.now.now.statements c.args.pieces.now c.requires.pieces)) ∙ entries_are (sides c.args.old.now c.args.now.now c.args.pieces.now)

pub returns-in_err-push_source-clause-cause : goal.returns-in_err-push_source-clause-cause
returns-in_err-push_source-clause-cause c =
    let below : c.loop-j.j < length c.args.now.now.statements = omega (arith, c.loop-j-test.true, c.statement_count-count.ensures.count) in
    let p = err_from_is_err_and c.from_residual.result c.from_residual.ensures.1 in
    rw (p.1, p.2) (subst (λ t. IsTooMany t c.in_err-push_source.field-0.0) (all_entries c) (range_too_many (λ j. entries_of_source (sides c.args.old.now c.args.now.now c.args.pieces.now) (length c.args.now.now.statements) j) c.loop-j.list (entries_by_number (sides c.args.old.now c.args.now.now c.args.pieces.now) (length c.args.now.now.statements)) c.loop-j.j (length c.args.now.now.statements) _ below c.loop-j.invariant.rest c.in_err-push_source.ensures.cause))

pub loop-j-preserved : goal.loop-j-preserved
loop-j-preserved c =
    let below : c.loop-j.j < length c.args.now.now.statements = omega (arith, c.loop-j-test.true, c.statement_count-count.ensures.count) in
    record {
      rest = range_step (λ j. entries_of_source (sides c.args.old.now c.args.now.now c.args.pieces.now) (length c.args.now.now.statements) j) c.loop-j.list c.push_source.new.list _ c.loop-j.j (length c.args.now.now.statements) below c.loop-j.invariant.rest c.in_ok-push_source.ensures.entries;
      few = c.in_ok-push_source.ensures.few;
    }

pub returns-clause-list : goal.returns-clause-list
returns-clause-list c =
    let count : length c.args.now.now.statements ≡ c.loop-j.j = omega (arith, c.loop-j-test.false, c.loop-j.auto.j-end, c.statement_count-count.ensures.count) in
    let none : length c.args.now.now.statements - c.loop-j.j ≡ 0 = omega (arith, count) in
    let all : entries_by_number (sides c.args.old.now c.args.now.now c.args.pieces.now) (length c.args.now.now.statements) ≡ entries (sides c.args.old.now c.args.now.now c.args.pieces.now)
    = ap (λ n. entries_by_number (sides c.args.old.now c.args.now.now c.args.pieces.now) n) (sym (length_sides c.args.old.now.statements c.args.now.now.statements c.args.pieces.now c.requires.pieces)) ∙ entries_are (sides c.args.old.now c.args.now.now c.args.pieces.now) in
    sym (append-nil c.loop-j.list) ∙ sym (ap (λ n. c.loop-j.list ++ flat_map (λ j. entries_of_source (sides c.args.old.now c.args.now.now c.args.pieces.now) (length c.args.now.now.statements) j) (range_with_len (c.loop-j.j + 1) n)) none) ∙ c.loop-j.invariant.rest ∙ all
