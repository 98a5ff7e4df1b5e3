use Rattle.std.proofs.Common.{◌∙◌, ◌++◌, ap}
use Rattle.std.specs.Prelude.{cond, Some, bytes_eq}
use Rattle.clan_walk.specs.Places.{numbered_as}
use Rattle.clan_walk.proofs.Numbers.{put_in}
use Rattle.clan_walk.proofs.array_names.set_number.Goals as goal

pub returns : goal.returns
returns c other =
    ap (numbered_as other) c.in_ok-insert.ensures.entries
    ∙ put_in c.args.numbers.now.entries c.extend_from_slice.new.self c.args.number other
    ∙ ap (λ key. cond (bytes_eq key other) (Some c.args.number) (numbered_as other c.args.numbers.now.entries))
    (c.in_ok-extend_from_slice.ensures.items ∙ ap (λ xs. xs ++ c.args.name.now) c.new-key.ensures.items)
