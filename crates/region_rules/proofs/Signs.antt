-- What a comparison has by its sign.
use Rattle.std.proofs.Common.{◌≡◌, refl}
use Rattle.c_parser.specs.declared.tree.Rel.{Rel}
use Rattle.c_parser.specs.declared.tree.Rel.TheVariants as rl
use Rattle.c_parser.specs.declared.tree.EqualSign.{EqualSign}
use Rattle.c_parser.specs.declared.tree.EqualSign.TheVariants as eq
use Rattle.region_trees.specs.Terms.{of_rel, of_equal}
use Rattle.region_rules.specs.declared.facts.Affinity.TheVariants as aff
use Rattle.region_rules.specs.declared.facts.Facts.{Facts}
use Rattle.region_rules.specs.Facts.{with_condition, are_affine, are_equated, join}

pub ordered_is : (rel : Rel) (left right : Facts) → with_condition aff.NotAffine (are_affine left right) ≡ join (of_rel rel) left right
ordered_is rl.Less left right = refl
ordered_is rl.LessEqual left right = refl
ordered_is rl.Greater left right = refl
ordered_is rl.GreaterEqual left right = refl

pub equated_is : (sign : EqualSign) (left right : Facts) → with_condition aff.NotAffine (are_equated left right) ≡ join (of_equal sign) left right
equated_is eq.Same left right = refl
equated_is eq.Differ left right = refl
