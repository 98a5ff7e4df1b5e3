use Rattle.std.proofs.Common.{take}
use Rattle.c_parser.specs.declared.tree.Compare.{out-Compare}
use Rattle.c_parser.specs.declared.tree.Equal.{out-Equal}
use Rattle.c_parser.specs.declared.tree.Product.{out-Product}
use Rattle.c_parser.specs.declared.tree.Sum.{out-Sum}
use Rattle.region_trees.specs.Layers.{joined_by, some_by, term_of_sum}
use Rattle.region_trees.specs.Terms.{Conjunction, Disjunction, and_of, compare_of, equal_of, of_equal, of_product, of_rel, of_sum, product_of, unary_of, value_of}
use Rattle.region_extract.specs.Walks.{Reads}
use Rattle.region_extract.proofs.Reading.{ReadsRest}
use Rattle.region_extract.proofs.reads.+reads.Given as goal

abbrev pub invariant-read_or-loop-item : goal.invariant-read_or-loop-item
invariant-read_or-loop-item l = Reads (some_by Disjunction (and_of l.source) (take l.item-index l.item-items)) l.initial.place l.place

abbrev pub invariant-read_and-loop-item : goal.invariant-read_and-loop-item
invariant-read_and-loop-item l = Reads (some_by Conjunction (equal_of l.source) (take l.item-index l.item-items)) l.initial.place l.place

abbrev pub invariant-read_equal-loop-item : goal.invariant-read_equal-loop-item
invariant-read_equal-loop-item l = Reads (joined_by of_equal (compare_of l.source) (compare_of l.source (out-Equal l.equal).first) (take l.item-index l.item-items)) l.fn.place l.place

abbrev pub invariant-read_compare-loop-item : goal.invariant-read_compare-loop-item
invariant-read_compare-loop-item l = Reads (joined_by of_rel (term_of_sum l.source) (term_of_sum l.source (out-Compare l.compare).first) (take l.item-index l.item-items)) l.fn.place l.place

abbrev pub invariant-read_sum-loop-item : goal.invariant-read_sum-loop-item
invariant-read_sum-loop-item l = Reads (joined_by of_sum (product_of l.source) (product_of l.source (out-Sum l.sum).first) (take l.item-index l.item-items)) l.fn.place l.place

abbrev pub invariant-read_product-loop-item : goal.invariant-read_product-loop-item
invariant-read_product-loop-item l = Reads (joined_by of_product (unary_of l.source) (unary_of l.source (out-Product l.product).first) (take l.item-index l.item-items)) l.fn.place l.place

abbrev pub invariant-read_arguments-loop-item : goal.invariant-read_arguments-loop-item
invariant-read_arguments-loop-item l = ReadsRest (value_of l.source) l.arguments l.initial.place l.item-index l.place
