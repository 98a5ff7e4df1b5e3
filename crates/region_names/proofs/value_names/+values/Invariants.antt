use Rattle.std.proofs.Common.{◌≡◌, take}
use Rattle.std.specs.Prelude.{true}
use Rattle.std.specs.List.{flat_map}
use Rattle.c_parser.specs.declared.tree.EqualSign.{EqualSign}
use Rattle.c_parser.specs.declared.tree.Rel.{Rel}
use Rattle.c_parser.specs.declared.tree.SumSign.{SumSign}
use Rattle.c_parser.specs.declared.tree.ProductSign.{ProductSign}
use Rattle.c_parser.specs.declared.tree.Compare.{Compare}
use Rattle.c_parser.specs.declared.tree.Sum.{Sum}
use Rattle.c_parser.specs.declared.tree.Product.{Product}
use Rattle.c_parser.specs.declared.tree.Unary.{Unary, out-Unary}
use Rattle.region_names.specs.Registers.{after}
use Rattle.region_names.specs.Walks.{value_names, and_names, equal_names, compare_names, sum_names, product_names, primary_names}
use Rattle.region_names.proofs.value_names.+values.Given as goal

abbrev pub invariant-tell_or-loop-item : goal.invariant-tell_or-loop-item
invariant-tell_or-loop-item l = l.register ≡ after l.initial.register (flat_map (and_names l.source l.scope l.control) (take l.item-index l.item-items))

abbrev pub invariant-tell_and-loop-item : goal.invariant-tell_and-loop-item
invariant-tell_and-loop-item l = l.register ≡ after l.initial.register (flat_map (equal_names l.source l.scope l.control) (take l.item-index l.item-items))

abbrev pub invariant-tell_equal-loop-item : goal.invariant-tell_equal-loop-item
invariant-tell_equal-loop-item l = l.register ≡ after l.initial.register (flat_map (λ (p : EqualSign × Compare). compare_names l.source l.scope l.control p.1) (take l.item-index l.item-items))

abbrev pub invariant-tell_compare-loop-item : goal.invariant-tell_compare-loop-item
invariant-tell_compare-loop-item l = l.register ≡ after l.initial.register (flat_map (λ (p : Rel × Sum). sum_names l.source l.scope l.control p.1) (take l.item-index l.item-items))

abbrev pub invariant-tell_sum-loop-item : goal.invariant-tell_sum-loop-item
invariant-tell_sum-loop-item l = l.register ≡ after l.initial.register (flat_map (λ (p : SumSign × Product). product_names l.source l.scope l.control p.1) (take l.item-index l.item-items))

abbrev pub invariant-tell_product-loop-item : goal.invariant-tell_product-loop-item
invariant-tell_product-loop-item l = l.register ≡ after l.initial.register (flat_map (λ (p : ProductSign × Unary). primary_names l.source l.scope l.control (out-Unary p.1).primary) (take l.item-index l.item-items))

abbrev pub invariant-tell_arguments-loop-item : goal.invariant-tell_arguments-loop-item
invariant-tell_arguments-loop-item l = l.register ≡ after l.initial.register (flat_map (value_names l.source l.scope l.control) (take l.item-index l.arguments))

abbrev pub invariant-tell_subscripts-loop-item : goal.invariant-tell_subscripts-loop-item
invariant-tell_subscripts-loop-item l = l.register ≡ after l.initial.register (flat_map (sum_names l.source l.scope true) (take l.item-index l.item-items))
