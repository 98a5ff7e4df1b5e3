use Rattle.std.proofs.Common.{arith}
use Rattle.c_lexer.proofs.RegionBounds.{one_bound, two_bounds, region_is, region_placed}
use Rattle.c_lexer.proofs.regions.find_region.Goals as goal

pub first_line-requires-2 : goal.first_line-requires-2
first_line-requires-2 c =
    let b = one_bound c.args.bytes.now _ c.in-Some.scop c.new.ensures c.in-Some.ensures.found in omega (arith, b.rest)

pub overflow_add-result : goal.overflow_add-result
overflow_add-result c =
    let b = one_bound c.args.bytes.now _ c.in-Some.scop c.new.ensures c.in-Some.ensures.found in omega (arith, b.line)

pub first_line-requires-3 : goal.first_line-requires-3
first_line-requires-3 c =
    let b = one_bound c.args.bytes.now _ c.in-Some.scop c.new.ensures c.in-Some.ensures.found in omega (arith, b.rest)

pub overflow_add-result-in-Some-first_line-2 : goal.overflow_add-result-in-Some-first_line-2
overflow_add-result-in-Some-first_line-2 c =
    let b = two_bounds _ c.args.bytes.now _ c.in-Some.scop c.in-Some-first_line-2.second c.new.ensures c.in-Some.ensures.found c.in-Some-first_line-2.ensures.found in
    omega (arith, b.line)

pub overflow_add-result-in-Some-first_line-2-2 : goal.overflow_add-result-in-Some-first_line-2-2
overflow_add-result-in-Some-first_line-2-2 c =
    let b = two_bounds _ c.args.bytes.now _ c.in-Some.scop c.in-Some-first_line-2.second c.new.ensures c.in-Some.ensures.found c.in-Some-first_line-2.ensures.found in
    omega (arith, b.line)

pub overflow_add-first : goal.overflow_add-first
overflow_add-first c =
    let b = two_bounds _ c.args.bytes.now _ c.in-Some.scop c.in-Some-first_line.endscop c.new.ensures c.in-Some.ensures.found c.in-Some-first_line.ensures.found in
    omega (arith, b.first)

pub overflow_add-result-2 : goal.overflow_add-result-2
overflow_add-result-2 c =
    let b = two_bounds _ c.args.bytes.now _ c.in-Some.scop c.in-Some-first_line.endscop c.new.ensures c.in-Some.ensures.found c.in-Some-first_line.ensures.found in
    omega (arith, b.to)

pub returns-clause-value : goal.returns-clause-value
returns-clause-value c =
    region_is c.args.bytes.now _ c.in-Some.scop c.in-Some-first_line.endscop c.new.ensures c.in-Some.ensures.found c.in-Some-first_line.ensures.found c.in_default-first_line-2.ensures.none

pub returns-clause-within : goal.returns-clause-within
returns-clause-within c =
    let b = two_bounds _ c.args.bytes.now _ c.in-Some.scop c.in-Some-first_line.endscop c.new.ensures c.in-Some.ensures.found c.in-Some-first_line.ensures.found in
    (omega arith, b.to)

pub returns-clause-placed : goal.returns-clause-placed
returns-clause-placed c =
    let b = two_bounds _ c.args.bytes.now _ c.in-Some.scop c.in-Some-first_line.endscop c.new.ensures c.in-Some.ensures.found c.in-Some-first_line.ensures.found in
    region_placed c.args.bytes.now _ c.in-Some.scop c.new.ensures c.in-Some.ensures.found b.from
