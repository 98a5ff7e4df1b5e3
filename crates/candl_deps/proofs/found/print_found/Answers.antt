use Rattle.std.proofs.Common.{◌≡◌, ◌++◌, [], drop, ap, sym, ◌∙◌, arith}
use Rattle.std.proofs.lemmas.List.{append-nil}
use Rattle.candl_deps.specs.Found.{found_lines}
use Rattle.candl_deps.proofs.DecidedLists.{none_found}
use Rattle.candl_deps.proofs.found.print_found.Goals as goal

pub returns-in-empty-clause-lines : goal.returns-in-empty-clause-lines
returns-in-empty-clause-lines c =
    let none : found_lines (drop c.loop-entry.entry-index c.args.deps.now) c.loop-entry.left.now ≡ [] =
    none_found (drop c.loop-entry.entry-index c.args.deps.now) c.loop-entry.left.now (omega (arith, c.in-empty.len_below)) in
    sym (append-nil c.loop-entry.lines) ∙ (ap (λ t. c.loop-entry.lines ++ t) (sym none) ∙ c.loop-entry.invariant.lines)
