-- A statement by its rule, over those of one nest and of one loop more.
use Rattle.std.proofs.Common.{◌≡◌, ℕ, zero, suc, ◌-◌, ◌<◌, refl}
use Rattle.c_parser.specs.Statements.{statement, level, statement_rule, inner, body}
use Rattle.c_parser.proofs.Turns.{deeper}

pub statement_is : (nests loops : ℕ) → statement nests loops ≡ statement_rule nests loops (inner nests loops) (body nests loops)
unfolding statement level inner body
statement_is zero zero = refl
statement_is zero (suc loops) = refl
statement_is (suc nests) zero = refl
statement_is (suc nests) (suc loops) = refl

pub inner_is : (nests loops : ℕ) → 0 < nests → inner nests loops ≡ statement (nests - 1) loops
unfolding inner
inner_is nests loops some = deeper (λ n. inner n loops) nests some

pub body_is : (nests loops : ℕ) → 0 < loops → body nests loops ≡ statement nests (loops - 1)
unfolding body
body_is nests loops some = deeper (λ n. body nests n) loops some
