use Rattle.std.proofs.Common.{◌≡◌, ◌++◌, OnOk, IfErr, ap, sym, ◌∙◌, subst}
use Rattle.dependence_systems.specs.Sides.{sides, under}
use Rattle.dependence_systems.specs.Entries.{between, side_at, IsTooMany}
use Rattle.dependence_systems.proofs.ApartPairs.{span_there, apart_pair}
use Rattle.dependence_systems.proofs.NamedSides.{number_of_some, old_of_some, is_counted, side_found}
use Rattle.dependence_systems.proofs.listing.push_pair.Goals as goal

pub original_of-requires : goal.original_of-requires
original_of-requires c =
    number_of_some c.args.old.now c.args.now.now c.args.pieces.now c.args.source c.requires.originals c.requires.source

pub original_of-requires-2 : goal.original_of-requires-2
original_of-requires-2 c =
    number_of_some c.args.old.now c.args.now.now c.args.pieces.now c.args.target c.requires.originals c.requires.target

pub numbered-before-requires : goal.numbered-before-requires
numbered-before-requires c =
    old_of_some c.args.old.now c.args.now.now c.args.pieces.now c.args.source c.original_of.result c.statements-3.result.now c.requires.originals c.requires.source c.original_of.ensures c.statements-3.ensures.answer

pub numbered-after-requires : goal.numbered-after-requires
numbered-after-requires c =
    old_of_some c.args.old.now c.args.now.now c.args.pieces.now c.args.target c.original_of-2.result c.statements-4.result.now c.requires.originals c.requires.target c.original_of-2.ensures c.statements-4.ensures.answer

pub push_between-requires-clause-first_count : goal.push_between-requires-clause-first_count
push_between-requires-clause-first_count c =
    is_counted c.args.old.now c.args.now.now c.statements-3.ensures.valid c.statements.ensures.valid c.args.source c.original_of.result c.statements.result.now c.statements-3.result.now c.numbered-first.result.now c.numbered-before.result.now
    c.statements.ensures.answer c.numbered-first.ensures c.statements-3.ensures.answer c.numbered-before.ensures

pub push_between-requires-clause-second_count : goal.push_between-requires-clause-second_count
push_between-requires-clause-second_count c =
    is_counted c.args.old.now c.args.now.now c.statements-4.ensures.valid c.statements-2.ensures.valid c.args.target c.original_of-2.result c.statements-2.result.now c.statements-4.result.now c.numbered-second.result.now c.numbered-after.result.now
    c.statements-2.ensures.answer c.numbered-second.ensures c.statements-4.ensures.answer c.numbered-after.ensures

same_pair : (c : goal.After-push_between) → between (c.args.source, under c.numbered-first.result.now c.numbered-before.result.now.schedule) (c.args.target, under c.numbered-second.result.now c.numbered-after.result.now.schedule)
    ≡ between (side_at (sides c.args.old.now c.args.now.now c.args.pieces.now) c.args.source) (side_at (sides c.args.old.now c.args.now.now c.args.pieces.now) c.args.target)
same_pair c =
    sym (ap (λ s. between s (side_at (sides c.args.old.now c.args.now.now c.args.pieces.now) c.args.target)) (side_found c.args.old.now c.args.now.now c.args.pieces.now c.requires.originals c.args.source c.original_of.result c.statements.result.now c.statements-3.result.now c.numbered-first.result.now c.numbered-before.result.now
    c.statements.ensures.answer c.numbered-first.ensures c.original_of.ensures c.statements-3.ensures.answer c.numbered-before.ensures)
    ∙ ap (λ t. between (c.args.source, under c.numbered-first.result.now c.numbered-before.result.now.schedule) t) (side_found c.args.old.now c.args.now.now c.args.pieces.now c.requires.originals c.args.target c.original_of-2.result c.statements-2.result.now c.statements-4.result.now c.numbered-second.result.now c.numbered-after.result.now
    c.statements-2.ensures.answer c.numbered-second.ensures c.original_of-2.ensures c.statements-4.ensures.answer c.numbered-after.ensures))

pub returns-clause-entries : goal.returns-clause-entries
returns-clause-entries c =
    subst (λ t. OnOk c.push_between.result (c.push_between.new.list ≡ c.args.list.now ++ t)) (same_pair c) c.push_between.ensures.entries

pub returns-clause-cause : goal.returns-clause-cause
returns-clause-cause c =
    subst (λ t. IfErr c.push_between.result (IsTooMany (c.args.list.now ++ t))) (same_pair c) c.push_between.ensures.cause

pub numbered-requires : goal.numbered-requires
numbered-requires c =
    span_there c.args.spans.now c.args.now.now.statements c.statements.result.now c.args.source c.numbered-first.result.now c.requires.spans c.statements.ensures.answer c.numbered-first.ensures

pub numbered-requires-2 : goal.numbered-requires-2
numbered-requires-2 c =
    span_there c.args.spans.now c.args.now.now.statements c.statements-2.result.now c.args.target c.numbered-second.result.now c.requires.spans c.statements-2.ensures.answer c.numbered-second.ensures

pub returns-then-are_apart-clause-entries : goal.returns-then-are_apart-clause-entries
returns-then-are_apart-clause-entries c =
    apart_pair c.args.old.now c.args.now.now c.args.pieces.now c.args.spans.now c.args.list.now c.requires.originals c.requires.spans c.args.source c.args.target
    c.statements.result.now c.statements-2.result.now c.numbered-first.result.now c.numbered-second.result.now c.numbered.result.now c.numbered-2.result.now
    c.statements.ensures.answer c.numbered-first.ensures c.statements-2.ensures.answer c.numbered-second.ensures c.numbered.ensures c.numbered-2.ensures (c.are_apart.ensures c.if-are_apart.true)
