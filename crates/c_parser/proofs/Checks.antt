-- Worked cases of the definitions.
use Rattle.std.proofs.Common.{◌≡◌, ℕ, false, List, [], ◌∷◌, refl, arith}
use Rattle.std.specs.Prelude.{codes}
use Rattle.c_lexer.specs.Readings.{Reading}
use Rattle.c_lexer.specs.Symbols.{name_symbol, is_sound}
use Rattle.c_lexer.specs.Input.{symbol, start, behind, piece, after}
use Rattle.c_parser.specs.declared.tree.Step.TheVariants as st
use Rattle.c_parser.specs.declared.tree.Node.TheVariants as node
use Rattle.c_parser.specs.Derivations.{step, Derived, IsStatement}
use Rattle.c_parser.specs.Prefixes.{later, nests_among, loops_among}

abbrev text : List ℕ → Reading
text bytes = record { text = bytes; at = 0 }

-- of the eight tokens before `1`, three open a nest and one a loop
nests : nests_among 8 (text (codes "for (a[0] = -1")) ≡ 3
unfolding symbol after behind name_symbol
nests = refl

loops : loops_among 8 (text (codes "for (a[0] = -1")) ≡ 1
unfolding symbol after behind name_symbol
loops = refl

-- the end stands behind the last token, and is none of them
end : is_sound (symbol (later 2 (text (codes "; ;")))) ≡ false
unfolding symbol after behind
end = refl

-- two empty statements, the second in a block
blanks : Derived 1 0 (node.Empty ∷ node.Block (node.Empty ∷ []) ∷ []) (text (codes "; { ; }"))
unfolding symbol after behind
blanks =
    let r : Reading = text (codes "; { ; }") in
    let empty = later 1 r in
    let block = later 4 r in (
      block,
      (
        empty,
        IsStatement.blank refl (refl, refl),
        (
          block,
          IsStatement.block (node.Empty ∷ []) refl (
            omega arith,
            (
              later 2 r,
              (refl, refl),
              (later 3 r, (later 3 r, IsStatement.blank refl (refl, refl), refl), (refl, refl)),
            ),
          ),
          refl,
        ),
      ),
      refl,
    )

-- the step `i++` of a loop over the name that stands first
steps : step (record { from = 0; to = 1 }) st.PostUp (later 1 (text (codes "i i++"))) (later 3 (text (codes "i i++")))
unfolding symbol after behind name_symbol piece start
steps = (later 2 (text (codes "i i++")), (refl, refl, refl), (refl, refl))
