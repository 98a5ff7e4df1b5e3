use Rattle.std.proofs.Common.{◌<◌, ◌+◌, ◌++◌, length, refl, arith}
use Rattle.std.proofs.lemmas.Result.{err_from_is_err_and}
use Rattle.dependence_systems.specs.Sides.{sides}
use Rattle.dependence_systems.specs.Entries.{between, side_at, entries_of_source}
use Rattle.dependence_systems.proofs.NamedSides.{number_counts, member_below}
use Rattle.dependence_systems.proofs.Pushes.{range_step, range_too_many}
use Rattle.dependence_systems.proofs.listing.push_source.Goals as goal

pub overflow_cast-k : goal.overflow_cast-k
overflow_cast-k c =
    let below : c.loop-k.k < length c.args.now.now.statements = omega (arith, c.loop-k-test.true, c.statement_count-count.ensures.count) in
    let few = number_counts c.args.now.now c.statement_count-count.ensures.valid in
    omega (arith, few)

pub push_pair-requires-clause-target : goal.push_pair-requires-clause-target
push_pair-requires-clause-target c =
    let below : c.loop-k.k < length c.args.now.now.statements = omega (arith, c.loop-k-test.true, c.statement_count-count.ensures.count) in
    member_below c.args.now.now.statements c.loop-k.k (c.loop-k.k + 1) below refl

pub returns-in_err-push_pair-clause-cause : goal.returns-in_err-push_pair-clause-cause
returns-in_err-push_pair-clause-cause c =
    let below : c.loop-k.k < length c.args.now.now.statements = omega (arith, c.loop-k-test.true, c.statement_count-count.ensures.count) in
    let p = err_from_is_err_and c.from_residual.result c.from_residual.ensures.1 in
    rw (p.1, p.2) (range_too_many (λ k. between (side_at (sides c.args.old.now c.args.now.now c.args.pieces.now) c.args.source) (side_at (sides c.args.old.now c.args.now.now c.args.pieces.now) k)) c.loop-k.list (c.args.list.now ++ entries_of_source (sides c.args.old.now c.args.now.now c.args.pieces.now) (length c.args.now.now.statements) c.args.source) c.loop-k.k (length c.args.now.now.statements) _ below c.loop-k.invariant.rest c.in_err-push_pair.ensures.cause)

pub loop-k-preserved : goal.loop-k-preserved
loop-k-preserved c =
    let below : c.loop-k.k < length c.args.now.now.statements = omega (arith, c.loop-k-test.true, c.statement_count-count.ensures.count) in
    record {
      rest = range_step (λ k. between (side_at (sides c.args.old.now c.args.now.now c.args.pieces.now) c.args.source) (side_at (sides c.args.old.now c.args.now.now c.args.pieces.now) k)) c.loop-k.list c.push_pair.new.list _ c.loop-k.k (length c.args.now.now.statements) below c.loop-k.invariant.rest c.in_ok-push_pair.ensures.entries;
      few = c.in_ok-push_pair.ensures.few;
    }
