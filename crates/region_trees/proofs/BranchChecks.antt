-- A text of branches, with the tree that the parser's rules read, and what it says.
use Rattle.std.proofs.Common.{◌≡◌, refl, List, [], ◌∷◌, ℕ, ◌+◌, Option, None, Some, Ok}
use Rattle.std.specs.Prelude.{codes, false, true, negsuc}
use Rattle.c_lexer.specs.declared.pieces.Piece.{Piece}
use Rattle.c_lexer.specs.Input.{symbol, start, behind, here, after, piece, refusal, sees, after_if, expect, open_nest, sees_name, same_name, open_loop}
use Rattle.c_lexer.specs.Symbols.{same_symbol, name_symbol}
use Rattle.c_parser.specs.declared.tree.Rel.TheVariants as rl
use Rattle.c_parser.specs.declared.tree.EqualSign.{EqualSign}
use Rattle.c_parser.specs.declared.tree.EqualSign.TheVariants as eq
use Rattle.c_parser.specs.declared.tree.ProductSign.{ProductSign}
use Rattle.c_parser.specs.declared.tree.ProductSign.TheVariants as pr
use Rattle.c_parser.specs.declared.tree.UnarySign.{UnarySign}
use Rattle.c_parser.specs.declared.tree.UnarySign.TheVariants as un
use Rattle.c_parser.specs.declared.tree.AssignSign.TheVariants as sign
use Rattle.c_parser.specs.declared.tree.Step.TheVariants as st
use Rattle.c_parser.specs.declared.tree.Value.{Value, roll-Value}
use Rattle.c_parser.specs.declared.tree.Arms.{Arms, roll-Arms}
use Rattle.c_parser.specs.declared.tree.Or.{roll-Or}
use Rattle.c_parser.specs.declared.tree.And.{roll-And}
use Rattle.c_parser.specs.declared.tree.Equal.{roll-Equal}
use Rattle.c_parser.specs.declared.tree.Compare.{Compare, roll-Compare}
use Rattle.c_parser.specs.declared.tree.Sum.{Sum, roll-Sum}
use Rattle.c_parser.specs.declared.tree.Product.{roll-Product}
use Rattle.c_parser.specs.declared.tree.Unary.{Unary, roll-Unary}
use Rattle.c_parser.specs.declared.tree.Primary.{Primary, roll-Primary}
use Rattle.c_parser.specs.declared.tree.Target.{Target, roll-Target}
use Rattle.c_parser.specs.declared.tree.Node.{Node, roll-Node}
use Rattle.c_parser.specs.declared.tree.Loop.{roll-Loop}
use Rattle.c_parser.specs.declared.tree.Branch.{roll-Branch}
use Rattle.c_parser.specs.declared.tree.Primary.TheOpen.{Primary-F}
use Rattle.c_parser.specs.declared.tree.Primary.TheFolds.{fold-roll-Primary, fold-roll-And, fold-roll-Arms, fold-roll-Compare, fold-roll-Equal, fold-roll-Or, fold-roll-Product, fold-roll-Sum, fold-roll-Target, fold-roll-Unary, fold-roll-Value}
use Rattle.c_parser.specs.declared.tree.Node.TheOpen.{Node-F}
use Rattle.c_parser.specs.declared.tree.Node.TheFolds.{fold-roll-Node, fold-roll-Branch, fold-roll-Loop}
use Rattle.c_parser.specs.Values.{value, below, signed_from, separated_from, subscript, subscripts_from, subscripts, target, arguments, call, named, operator, bracket, primary, operand, unary, product_rest, product, sum_rest, sum, compare_rest, compare, equal_rest, equal, and_value, or_value, arms}
use Rattle.c_parser.specs.Statements.{rel, assigned, step_behind, step, open_round, head_rest, head, assign, block_from, for_loop, branch, else_branch, if_branch, block_nodes, block, statement_rule, level, statement, inner, body, region_from, region}
use Rattle.clan_extract.specs.Regions.{IsEqual, IsGreater}
use Rattle.region_trees.specs.Terms.{Modulo, Compares, Integer, Literal, Named, Call, Bracket, Signed, Joined, Choice, NoTerms, More, Term, Element}
use Rattle.region_trees.specs.Statements.{NoStatements, Next, Loop, Branch, Block, Assignment, statements_of}

abbrev bytes : ℕ → ℕ → Piece
bytes from to = record { from = from; to = to }

abbrev unary_of : List UnarySign → Primary → Unary
unary_of signs p = roll-Unary (record { signs = signs; primary = p })

abbrev sum_of_one : ℕ → List UnarySign → Primary → List (ProductSign × Unary) → Sum
sum_of_one at signs p rest = roll-Sum (record { at = at; first = roll-Product (record { first = unary_of signs p; rest = rest }); rest = [] })

abbrev compare_of : Sum → Compare
compare_of s = roll-Compare (record { first = s; rest = [] })

abbrev value_of_one : ℕ → Sum → List (EqualSign × Compare) → Option Arms → Value
value_of_one at s rest found = roll-Value (record {
  at = at;
  test = roll-Or (record { items = roll-And (record { items = roll-Equal (record { first = compare_of s; rest = rest }) ∷ [] }) ∷ [] });
  arms = found;
})

abbrev integer : ℕ → Primary
integer at = roll-Primary (Primary-F.Integer (bytes at (at + 1)))

abbrev element : ℕ → Target
element at = roll-Target (record { name = bytes at (at + 1); subscripts = [] })

abbrev scalar : ℕ → Primary
scalar at = roll-Primary (Primary-F.Target (element at))

abbrev text : List ℕ
text = codes "if (!(i % 2 == 0)) { A = f(1) ? 1.5 : -N; ; } else for (int j = N; j > M; j -= 2) B /= /* x */ j ;"

abbrev condition : Value
condition = value_of_one 4 (
    sum_of_one 4 (un.Not ∷ []) (
    roll-Primary (Primary-F.Bracket (value_of_one 6 (sum_of_one 6 [] (scalar 6) ((pr.Remainder, unary_of [] (integer 10)) ∷ [])) ((eq.Same, compare_of (sum_of_one 15 [] (integer 15) [])) ∷ []) None))
    ) []
    ) [] None

abbrev choice : Value
choice = value_of_one 25 (
    sum_of_one 25 [] (roll-Primary (Primary-F.Call (bytes 25 26) (value_of_one 27 (sum_of_one 27 [] (integer 27) []) [] None ∷ []))) []
    ) [] (
    Some (roll-Arms (record {
      yes = value_of_one 32 (sum_of_one 32 [] (roll-Primary (Primary-F.Literal (bytes 32 35))) []) [] None;
      no = value_of_one 38 (sum_of_one 38 (un.Minus ∷ []) (scalar 39) []) [] None;
    }))
    )

abbrev first_branch : Node
first_branch = roll-Node (Node-F.Block (
    roll-Node (Node-F.Assign (record { body = bytes 21 40; target = element 21; sign = sign.Plain; value = choice }))
    ∷ (roll-Node Node-F.Empty ∷ [])
    ))

abbrev other_branch : Node
other_branch = roll-Node (Node-F.For (roll-Loop (record {
  name = bytes 60 61;
  start = sum_of_one 64 [] (scalar 64) [];
  rel = rl.Greater;
  bound = sum_of_one 71 [] (scalar 71) [];
  step = st.SubDown (bytes 79 80);
  step_at = 74;
  body = roll-Node (Node-F.Assign (record {
    body = bytes 82 97;
    target = element 82;
    sign = sign.Divide;
    value = value_of_one 95 (sum_of_one 95 [] (scalar 95) []) [] None;
  }));
})))

abbrev tree : List Node
tree = roll-Node (Node-F.If (roll-Branch (record { condition = condition; then = first_branch; other = Some other_branch }))) ∷ []

-- the parser's rules read this tree
is_read : region (record { text = text; at = 0 }) ≡ Ok (tree, record { text = text; at = 98 })
unfolding symbol start behind here after piece refusal sees after_if expect open_nest same_symbol name_symbol value below signed_from separated_from subscript subscripts_from subscripts target arguments call named operator bracket primary operand unary product_rest product sum_rest sum compare_rest compare equal_rest equal and_value or_value arms sees_name same_name rel assigned step_behind step open_round head_rest head assign open_loop block_from for_loop branch else_branch if_branch block_nodes block statement_rule level statement inner body region_from region roll-Node roll-Primary denote.Hole.Carrier.roll
is_read = refl

abbrev name : List ℕ → ℕ → Term
name said at = Named said at NoTerms

abbrev plain : List ℕ → ℕ → Element
plain said at = record { name = said; at = at; subscripts = NoTerms }

says : statements_of text tree
    ≡ Next (
    Branch (record { at = 4; term = Signed un.Not (Bracket (Joined (Compares IsEqual) (Joined Modulo (name (codes "i") 6) (Integer 2)) (Integer 0))) })
    (Next (
    Block (
    Next (
    Assignment (codes "A = f(1) ? 1.5 : -N;") (plain (codes "A") 21) false (
    record { at = 25; term = Choice (Call (codes "f") 25 (More 27 (Integer 1) NoTerms)) Literal (Signed un.Minus (name (codes "N") 39)) }
    )
    ) (Next (Block NoStatements) NoStatements)
    )
    ) NoStatements)
    (Next (
    Loop (codes "j") 60 (record { at = 64; term = name (codes "N") 64 }) IsGreater (record { at = 71; term = name (codes "M") 71 }) (negsuc 1) 74
    (Next (Assignment (codes "B /= j ;") (plain (codes "B") 82) true (record { at = 95; term = name (codes "j") 95 })) NoStatements)
    ) NoStatements)
    ) NoStatements
says = simp (fold-roll-Node, fold-roll-Branch, fold-roll-Loop, fold-roll-Primary, fold-roll-And, fold-roll-Arms, fold-roll-Compare, fold-roll-Equal, fold-roll-Or, fold-roll-Product, fold-roll-Sum, fold-roll-Target, fold-roll-Unary, fold-roll-Value) refl
