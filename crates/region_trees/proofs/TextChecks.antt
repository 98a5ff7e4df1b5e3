-- Texts that the parser's rules read, and what their trees say.
use Rattle.std.proofs.Common.{◌≡◌, refl, List, [], ◌∷◌, ℕ, ◌+◌, None, Ok}
use Rattle.std.specs.Prelude.{codes, false, pos}
use Rattle.c_lexer.specs.declared.pieces.Piece.{Piece}
use Rattle.c_lexer.specs.Input.{symbol, start, behind, here, after, piece, refusal, sees, after_if, expect, open_nest, sees_name, same_name, open_loop}
use Rattle.c_lexer.specs.Symbols.{same_symbol, name_symbol}
use Rattle.c_parser.specs.declared.tree.Rel.TheVariants as rl
use Rattle.c_parser.specs.declared.tree.SumSign.{SumSign}
use Rattle.c_parser.specs.declared.tree.SumSign.TheVariants as sm
use Rattle.c_parser.specs.declared.tree.ProductSign.{ProductSign}
use Rattle.c_parser.specs.declared.tree.ProductSign.TheVariants as pr
use Rattle.c_parser.specs.declared.tree.AssignSign.TheVariants as sign
use Rattle.c_parser.specs.declared.tree.Step.TheVariants as st
use Rattle.c_parser.specs.declared.tree.Value.{Value, roll-Value}
use Rattle.c_parser.specs.declared.tree.Or.{roll-Or}
use Rattle.c_parser.specs.declared.tree.And.{roll-And}
use Rattle.c_parser.specs.declared.tree.Equal.{roll-Equal}
use Rattle.c_parser.specs.declared.tree.Compare.{roll-Compare}
use Rattle.c_parser.specs.declared.tree.Sum.{Sum, roll-Sum}
use Rattle.c_parser.specs.declared.tree.Product.{Product, roll-Product}
use Rattle.c_parser.specs.declared.tree.Unary.{Unary, roll-Unary}
use Rattle.c_parser.specs.declared.tree.Primary.{Primary, roll-Primary}
use Rattle.c_parser.specs.declared.tree.Target.{Target, roll-Target}
use Rattle.c_parser.specs.declared.tree.Node.{Node, roll-Node}
use Rattle.c_parser.specs.declared.tree.Loop.{roll-Loop}
use Rattle.c_parser.specs.declared.tree.Primary.TheOpen.{Primary-F}
use Rattle.c_parser.specs.declared.tree.Primary.TheFolds.{fold-roll-Primary, fold-roll-And, fold-roll-Compare, fold-roll-Equal, fold-roll-Or, fold-roll-Product, fold-roll-Sum, fold-roll-Target, fold-roll-Unary, fold-roll-Value}
use Rattle.c_parser.specs.declared.tree.Node.TheOpen.{Node-F}
use Rattle.c_parser.specs.declared.tree.Node.TheFolds.{fold-roll-Node, fold-roll-Loop}
use Rattle.c_parser.specs.Values.{value, below, signed_from, separated_from, subscript, subscripts_from, subscripts, target, arguments, call, named, operator, bracket, primary, operand, unary, product_rest, product, sum_rest, sum, compare_rest, compare, equal_rest, equal, and_value, or_value, arms}
use Rattle.c_parser.specs.Statements.{rel, assigned, step_behind, step, open_round, head_rest, head, assign, block_from, for_loop, branch, else_branch, if_branch, block_nodes, block, statement_rule, level, statement, inner, body, region_from, region}
use Rattle.clan_extract.specs.Regions.{IsLess}
use Rattle.region_trees.specs.Terms.{Plus, Times, Integer, Named, Joined, NoTerms, More, Term}
use Rattle.region_trees.specs.Statements.{NoStatements, Next, Loop, Assignment, statements_of}

abbrev bytes : ℕ → ℕ → Piece
bytes from to = record { from = from; to = to }

abbrev operand_of : Primary → Unary
operand_of p = roll-Unary (record { signs = []; primary = p })

abbrev product_of : Primary → List (ProductSign × Unary) → Product
product_of p rest = roll-Product (record { first = operand_of p; rest = rest })

abbrev sum_at : ℕ → Primary → List (SumSign × Product) → Sum
sum_at at p rest = roll-Sum (record { at = at; first = product_of p []; rest = rest })

abbrev alone : Product → Value
alone p = roll-Value (record {
  at = 33;
  test = roll-Or (record {
    items = roll-And (record {
      items = roll-Equal (record {
        first = roll-Compare (record { first = roll-Sum (record { at = 33; first = p; rest = [] }); rest = [] });
        rest = [];
      }) ∷ [];
    }) ∷ [];
  });
  arms = None;
})

abbrev integer : ℕ → Primary
integer at = roll-Primary (Primary-F.Integer (bytes at (at + 1)))

abbrev element : ℕ → List Sum → Target
element at subscripts = roll-Target (record { name = bytes at (at + 1); subscripts = subscripts })

abbrev scalar : ℕ → Primary
scalar at = roll-Primary (Primary-F.Target (element at []))

abbrev text : List ℕ
text = codes "for (i = 0; i < N; i++)\n  A[i] = B[i + 1] * 2;"

abbrev tree : List Node
tree = roll-Node (Node-F.For (roll-Loop (record {
  name = bytes 5 6;
  start = sum_at 9 (integer 9) [];
  rel = rl.Less;
  bound = sum_at 16 (scalar 16) [];
  step = st.PostUp;
  step_at = 19;
  body = roll-Node (Node-F.Assign (record {
    body = bytes 26 45;
    target = element 26 (sum_at 28 (scalar 28) [] ∷ []);
    sign = sign.Plain;
    value = alone (
        product_of (roll-Primary (Primary-F.Target (element 33 (sum_at 35 (scalar 35) ((sm.Plus, product_of (integer 39) []) ∷ []) ∷ []))))
        ((pr.Times, operand_of (integer 44)) ∷ [])
        );
  }));
}))) ∷ []

-- the parser's rules read this tree
is_read : region (record { text = text; at = 0 }) ≡ Ok (tree, record { text = text; at = 46 })
unfolding symbol start behind here after piece refusal sees after_if expect open_nest same_symbol name_symbol value below signed_from separated_from subscript subscripts_from subscripts target arguments call named operator bracket primary operand unary product_rest product sum_rest sum compare_rest compare equal_rest equal and_value or_value arms sees_name same_name rel assigned step_behind step open_round head_rest head assign open_loop block_from for_loop branch else_branch if_branch block_nodes block statement_rule level statement inner body region_from region roll-Node roll-Primary denote.Hole.Carrier.roll
is_read = refl

abbrev name : List ℕ → ℕ → Term
name said at = Named said at NoTerms

says : statements_of text tree
    ≡ Next (
    Loop (codes "i") 5 (record { at = 9; term = Integer 0 }) IsLess (record { at = 16; term = name (codes "N") 16 }) (pos 1) 19
    (Next (
    Assignment (codes "A[i] = B[i + 1] * 2;") (record { name = codes "A"; at = 26; subscripts = More 28 (name (codes "i") 28) NoTerms }) false (
    record { at = 33; term = Joined Times (Named (codes "B") 33 (More 35 (Joined Plus (name (codes "i") 35) (Integer 1)) NoTerms)) (Integer 2) }
    )
    ) NoStatements)
    ) NoStatements
says = simp (fold-roll-Node, fold-roll-Loop, fold-roll-Primary, fold-roll-And, fold-roll-Compare, fold-roll-Equal, fold-roll-Or, fold-roll-Product, fold-roll-Sum, fold-roll-Target, fold-roll-Unary, fold-roll-Value) refl
