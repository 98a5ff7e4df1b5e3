-- The lines of a text take no more bytes than the text.
use Rattle.std.proofs.Common.{ℕ, List, [], ◌∷◌, ◌+◌, ◌==◌, inl, inr, length, ◌≤◌, arith}
use Rattle.suite_base.specs.Lines.{lines, put}
use Rattle.suite_base.proofs.LineCuts.{bool_tells}
use Rattle.scop_reader.specs.Lines.{extent}

extent_put : (b : ℕ) (ls : List (List ℕ)) → extent (put b ls) ≤ 1 + extent ls
extent_put b [] = omega arith
extent_put b (line ∷ more) = omega arith

pub extent_lines : (bytes : List ℕ) → extent (lines bytes) ≤ length bytes
extent_lines [] = omega arith
extent_lines (b ∷ bytes) =
    elim (bool_tells (b == 10)) [
      | inl e ↦ simp e (omega (arith, extent_lines bytes))
      | inr e ↦ simp e (omega (arith, extent_lines bytes, extent_put b (lines bytes)))
    ]
