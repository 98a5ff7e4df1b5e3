-- Trees of the parser, and what they say.
use Rattle.std.proofs.Common.{◌≡◌, List, [], ◌∷◌, ℕ, rules}
use Rattle.std.specs.Prelude.{codes}
use Rattle.c_lexer.specs.declared.pieces.Piece.{Piece}
use Rattle.c_parser.specs.declared.tree.SumSign.TheVariants as sm
use Rattle.c_parser.specs.declared.tree.Sum.{Sum, roll-Sum}
use Rattle.c_parser.specs.declared.tree.Product.{Product, roll-Product}
use Rattle.c_parser.specs.declared.tree.Unary.{roll-Unary}
use Rattle.c_parser.specs.declared.tree.Primary.{Primary}
use Rattle.c_parser.specs.declared.tree.Primary.TheVariants as pri
use Rattle.c_parser.specs.declared.tree.Target.{roll-Target}
use Rattle.c_parser.specs.declared.tree.Primary.TheFolds.{the_lemmas}
use Rattle.region_trees.specs.Terms.{Plus, Integer, Named, Joined, NoTerms, More, sum_of}

abbrev piece : ℕ → ℕ → Piece
piece from to = record { from = from; to = to }

abbrev factor : Primary → Product
factor p = roll-Product (record { first = roll-Unary (record { signs = []; primary = p }); rest = [] })

abbrev sum : ℕ → Primary → Sum
sum at p = roll-Sum (record { at = at; first = factor p; rest = [] })

abbrev scalar : ℕ → ℕ → Primary
scalar from to = pri.Target (roll-Target (record { name = piece from to; subscripts = [] }))

abbrev source : List ℕ
source = codes "12 + A[i] * -max(N, 3)"

-- A[i] * -max(N, 3), behind 12
abbrev second : Product
second = roll-Product (record {
  first = roll-Unary (record { signs = []; primary = pri.Target (roll-Target (record { name = piece 5 6; subscripts = sum 7 (scalar 7 8) ∷ [] })) });
  rest = [];
})

small : sum_of source (sum 0 (pri.Integer (piece 0 2))) ≡ record { at = 0; term = Integer 12 }
small = search (rules, the_lemmas)

some : sum_of source (roll-Sum (record { at = 0; first = factor (pri.Integer (piece 0 2)); rest = (sm.Plus, second) ∷ [] }))
    ≡ record { at = 0; term = Joined Plus (Integer 12) (Named (codes "A") 5 (More 7 (Named (codes "i") 7 NoTerms) NoTerms)) }
some = search (rules, the_lemmas)
