use Rattle.std.proofs.Common.{◌≡◌, drop, length, ◌==◌}
use Rattle.clay_commands.specs.Refusals.{all_under}
use Rattle.clay_commands.proofs.conditions.have_iterators.Given as goal

abbrev pub invariant-loop-leaf : goal.invariant-loop-leaf
invariant-loop-leaf l = all_under l.prefix (λ s. l.n == length s.body.iterators) (drop l.leaf-index l.leaves) ≡ all_under l.prefix (λ s. l.n == length s.body.iterators) l.leaves
