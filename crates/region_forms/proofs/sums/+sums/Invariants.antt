use Rattle.std.proofs.Common.{take}
use Rattle.c_parser.specs.declared.tree.Product.{out-Product}
use Rattle.c_parser.specs.declared.tree.Sum.{out-Sum}
use Rattle.region_forms.specs.Evaluations.{IsValueAt, told}
use Rattle.region_trees.specs.Layers.{joined_by}
use Rattle.region_trees.specs.Terms.{of_product, of_sum, product_of, unary_of}
use Rattle.region_forms.proofs.sums.+sums.Given as goal

abbrev pub invariant-product_value-loop-sign : goal.invariant-product_value-loop-sign
invariant-product_value-loop-sign l = let source = l.scope.source.now in let x = out-Product l.product in
    IsValueAt l.scope (joined_by of_product (unary_of source) (unary_of source x.first) (take l.sign-index x.rest)) (told l.value)

abbrev pub invariant-sum_value-loop-sign : goal.invariant-sum_value-loop-sign
invariant-sum_value-loop-sign l = let source = l.scope.source.now in let x = out-Sum l.sum in
    IsValueAt l.scope (joined_by of_sum (product_of source) (product_of source x.first) (take l.sign-index x.rest)) (told l.value)
