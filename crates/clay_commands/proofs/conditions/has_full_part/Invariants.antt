use Rattle.std.proofs.Common.{◌≡◌, drop, nat_le, length}
use Rattle.std.specs.List.{list_any}
use Rattle.clay_commands.proofs.conditions.has_full_part.Given as goal

abbrev pub invariant-loop-part : goal.invariant-loop-part
invariant-loop-part l = list_any (λ part. nat_le 256 (length part.rows)) (drop l.part-index l.parts) ≡ list_any (λ part. nat_le 256 (length part.rows)) l.parts
