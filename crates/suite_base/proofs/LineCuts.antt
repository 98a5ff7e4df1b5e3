use Rattle.std.proofs.Common.{◌≡◌, ℕ, Bool, true, false, List, [], ◌∷◌, ◌+◌, ◌==◌, ◌⊎◌, inl, inr, not, take, drop, refl, ap, suc, length, ◌≤◌, ◌<◌, ◌-◌, ◌∙◌, arith}
use Rattle.std.proofs.lemmas.List.{take_all}
use Rattle.std.specs.List.{prefix_len}
use Rattle.suite_base.specs.Lines.{lines, put}

-- a byte that does not end a line
abbrev pub in_line : ℕ → Bool
in_line b = not (b == 10)

-- the lines of a text whose first line is `line`, where `rest` begins with the newline or is empty
abbrev pub lines_after : List ℕ → List ℕ → List (List ℕ)
lines_after line (c ∷ rest) = line ∷ lines rest
lines_after [] [] = []
lines_after (b ∷ line) [] = (b ∷ line) ∷ []

pub bool_tells : (b : Bool) → (b ≡ true) ⊎ (b ≡ false)
bool_tells true = inl refl
bool_tells false = inr refl

put-lines_after : (b : ℕ) (line rest : List ℕ) → put b (lines_after line rest) ≡ lines_after (b ∷ line) rest
put-lines_after b line (c ∷ rest) = refl
put-lines_after b [] [] = refl
put-lines_after b (x ∷ line) [] = refl

-- what the first line of a text is, and what follows it
pub lines_cut : (s : List ℕ) → lines s ≡ lines_after (take (prefix_len in_line s) s) (drop (prefix_len in_line s) s)
lines_cut [] = refl
lines_cut (b ∷ s) =
    elim (bool_tells (b == 10)) [
      | inl e ↦ simp e refl
      | inr e ↦
          let more : 1 + prefix_len in_line s ≡ suc (prefix_len in_line s) = omega arith in
          simp (e, more) (ap (put b) (lines_cut s) ∙ put-lines_after b (take (prefix_len in_line s) s) (drop (prefix_len in_line s) s))
    ]

pub cut_is : (s line rest : List ℕ) (n : ℕ) → n ≡ prefix_len in_line s → line ≡ take n s → rest ≡ drop n s → lines s ≡ lines_after line rest
cut_is s line rest n e f g = rw (f, g, e) (lines_cut s)

pub more_lines : (line rest : List ℕ) → 1 ≤ length rest → lines_after line rest ≡ line ∷ lines (take (length rest - 1) (drop 1 rest))
more_lines line [] h = absurd (omega arith)
more_lines line (c ∷ rest) h = rw (take_all (suc (length rest) - 1) rest (omega arith)) refl

pub last_line : (line rest : List ℕ) → length rest < 1 → false ≡ (length line == 0) → lines_after line rest ≡ line ∷ lines rest
last_line line (c ∷ rest) h e = absurd (omega arith)
last_line [] [] h e = cc
last_line (b ∷ line) [] h e = refl
