-- A sign before an operand, over the rules of one nest more.
use Rattle.std.proofs.Common.{◌≡◌, inl, inr, ℕ, ◌-◌, ◌<◌, ◌==◌, false, List, [], ◌∷◌, ◌++◌, Some, ap, sym, ◌∙◌, arith}
use Rattle.std.proofs.lemmas.Bool.Decides.{eqb_tells}
use Rattle.c_lexer.specs.Readings.{Reading}
use Rattle.c_lexer.specs.Input.{symbol, after, open_nest}
use Rattle.c_parser.specs.declared.tree.UnarySign.{UnarySign}
use Rattle.c_parser.specs.Values.{below, unary, unary_by, unary_sign}
use Rattle.c_parser.proofs.Turns.{deeper}

pub not_zero : (n : ℕ) → 0 < n → (n == 0) ≡ false
not_zero n h = elim (eqb_tells n 0) [ inl (p, q) ↦ absurd (omega arith) | inr (p, q) ↦ p ]

pub unary_goes : (nests : ℕ) (signs more : List UnarySign) (sign : UnarySign) (old new : Reading) → 0 < nests → Some sign ≡ unary_sign (symbol old)
    → more ≡ signs ++ sign ∷ [] → new ≡ after old → unary nests (below nests) signs old ≡ unary (nests - 1) (below (nests - 1)) more new
unfolding unary below open_nest
unary_goes nests signs more sign old new some e f g =
    let deep : (below nests).unary (signs ++ sign ∷ []) (after old) ≡ unary (nests - 1) (below (nests - 1)) (signs ++ sign ∷ []) (after old) =
    deeper (λ n. (below n).unary (signs ++ sign ∷ []) (after old)) nests some in
    let mid : unary_by nests (below nests) signs (Some sign) old ≡ unary (nests - 1) (below (nests - 1)) (signs ++ sign ∷ []) (after old) =
    rw (not_zero nests some) deep in
    ap (λ x. unary_by nests (below nests) signs x old) (sym e)
    ∙ (mid ∙ (ap (λ m. unary (nests - 1) (below (nests - 1)) m (after old)) (sym f) ∙ ap (unary (nests - 1) (below (nests - 1)) more) (sym g)))
