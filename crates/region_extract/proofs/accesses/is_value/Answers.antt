use Rattle.std.proofs.Common.{rules}
use Rattle.region_extract.proofs.Naming.{is_no_value}
use Rattle.region_extract.proofs.accesses.is_value.Goals as goal

pub returns-then-not-is_empty : goal.returns-then-not-is_empty
returns-then-not-is_empty c = is_no_value c.args.source.now c.args.target.now c.args.place.now (λ none. absurd (search (c.if-not-is_empty.ensures.1 none, rules)))
