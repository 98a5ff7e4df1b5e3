use Rattle.std.proofs.Common.{◌≡◌, ◌<◌, List, [], ◌∷◌, ℕ, length, None, sym, ◌∙◌, refl, arith, length-drop}
use Rattle.c_lexer.specs.Pragmas.{after}
use Rattle.c_lexer.proofs.pragmas.after.Goals as goal

after_ended : (word text : List ℕ) → 0 < length word → length text < 1 → after word text ≡ None
after_ended [] text h g = absurd (omega arith)
after_ended (w ∷ word) [] h g = refl
after_ended (w ∷ word) (b ∷ text) h g = absurd (omega arith)

pub returns-in_default : goal.returns-in_default
returns-in_default c = sym c.loop-wanted.invariant ∙ after_ended _ _ (omega (arith, length-drop {A = ℕ})) c.in_default.len_below
