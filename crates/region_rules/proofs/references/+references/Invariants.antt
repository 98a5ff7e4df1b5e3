use Rattle.std.proofs.Common.{◌≡◌, None, drop}
use Rattle.region_rules.proofs.Faults.{faults_from, operands_from, sum_reads, product_reads, unary_reads, compare_reads, equal_reads, and_reads, value_reads}
use Rattle.region_rules.proofs.references.+references.Given as goal

abbrev pub invariant-or_fault-loop-item : goal.invariant-or_fault-loop-item
invariant-or_fault-loop-item l = faults_from (and_reads l.source) l.fault (drop l.item-index l.item-items) ≡ faults_from (and_reads l.source) None l.item-items

abbrev pub invariant-and_fault-loop-item : goal.invariant-and_fault-loop-item
invariant-and_fault-loop-item l = faults_from (equal_reads l.source) l.fault (drop l.item-index l.item-items) ≡ faults_from (equal_reads l.source) None l.item-items

abbrev pub invariant-equal_fault-loop-operand : goal.invariant-equal_fault-loop-operand
invariant-equal_fault-loop-operand l =
    operands_from (compare_reads l.source) l.fault (drop l.operand-index l.operand-items) ≡ operands_from (compare_reads l.source) l.initial.fault l.operand-items

abbrev pub invariant-compare_fault-loop-operand : goal.invariant-compare_fault-loop-operand
invariant-compare_fault-loop-operand l =
    operands_from (sum_reads l.source) l.fault (drop l.operand-index l.operand-items) ≡ operands_from (sum_reads l.source) l.initial.fault l.operand-items

abbrev pub invariant-sum_fault-loop-operand : goal.invariant-sum_fault-loop-operand
invariant-sum_fault-loop-operand l =
    operands_from (product_reads l.source) l.fault (drop l.operand-index l.operand-items) ≡ operands_from (product_reads l.source) l.initial.fault l.operand-items

abbrev pub invariant-product_fault-loop-operand : goal.invariant-product_fault-loop-operand
invariant-product_fault-loop-operand l =
    operands_from (unary_reads l.source) l.fault (drop l.operand-index l.operand-items) ≡ operands_from (unary_reads l.source) l.initial.fault l.operand-items

abbrev pub invariant-arguments_fault-loop-argument : goal.invariant-arguments_fault-loop-argument
invariant-arguments_fault-loop-argument l = faults_from (value_reads l.source) l.fault (drop l.argument-index l.arguments) ≡ faults_from (value_reads l.source) None l.arguments
