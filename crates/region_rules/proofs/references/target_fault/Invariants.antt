use Rattle.std.proofs.Common.{◌≡◌, None, drop}
use Rattle.region_trees.specs.Terms.{sum_of}
use Rattle.region_rules.proofs.Faults.{faults_from, subscript_fault}
use Rattle.region_rules.proofs.references.target_fault.Given as goal

abbrev pub invariant-loop-subscript : goal.invariant-loop-subscript
invariant-loop-subscript l =
    faults_from (λ s. subscript_fault (sum_of l.source s)) l.fault (drop l.subscript-index l.subscript-items)
    ≡ faults_from (λ s. subscript_fault (sum_of l.source s)) None l.subscript-items
