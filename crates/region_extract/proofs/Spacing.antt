-- What spaces out a text, byte by byte and gap by gap.
use Rattle.std.proofs.Common.{◌≡◌, ◌∙◌, ℕ, zero, suc, ◌-◌, inl, inr, true, false, List, [], ◌∷◌, ◌++◌, length, take, drop, refl, ap, sym, arith, append_assoc}
use Rattle.std.specs.Prelude.{◌==◌, if◌then◌else◌}
use Rattle.std.specs.List.{prefix_len}
use Rattle.std.proofs.Math.Dec.{eqb-suc-zero}
use Rattle.std.proofs.lemmas.List.{length-drop, take_all}
use Rattle.suite_base.proofs.LineCuts.{bool_tells}
use Rattle.c_lexer.specs.Tokens.{gap, is_space, separator_len}
use Rattle.region_trees.specs.Statements.{spaced_from}
use Rattle.region_extract.specs.Spaces.{is_plain}

-- what is passed over is dropped
spaced_behind : (left : ℕ) (text : List ℕ) → spaced_from left text ≡ spaced_from 0 (drop left text)
spaced_behind zero text = refl
spaced_behind (suc left) [] = refl
spaced_behind (suc left) (b ∷ text) = spaced_behind left text

gap_spaced : (b : ℕ) (rest : List ℕ) (n : ℕ) → gap (b ∷ rest) ≡ n → ¬ (n ≡ 0) → spaced_from 0 (b ∷ rest) ≡ 32 ∷ spaced_from 0 (drop n (b ∷ rest))
gap_spaced b rest zero e some = absurd (some refl)
gap_spaced b rest (suc n) e some =
    ap (λ g. (if g == 0 then b else 32) ∷ spaced_from (g - 1) rest) e
    ∙ ap (λ t. (if t then b else 32) ∷ spaced_from (suc n - 1) rest) (eqb-suc-zero n)
    ∙ ap (λ k. 32 ∷ spaced_from k rest) (let less : suc n - 1 ≡ n = omega arith in less)
    ∙ ap (λ text. 32 ∷ text) (spaced_behind n rest)

rest_is : (n : ℕ) (xs : List ℕ) → take (length xs - n) (drop n xs) ≡ drop n xs
rest_is n xs = take_all (length xs - n) (drop n xs) (omega (arith, length-drop n xs))

-- a gap more
pub gap_more : (out new text all : List ℕ) (n : ℕ) → new ≡ out ++ 32 ∷ [] → n ≡ gap text → ¬ (n ≡ 0) → out ++ spaced_from 0 text ≡ spaced_from 0 all
    → new ++ spaced_from 0 (take (length text - n) (drop n text)) ≡ spaced_from 0 all
gap_more out new [] all n pushed is some p = absurd (some is)
gap_more out new (b ∷ text) all n pushed is some p =
    ap (λ rest. new ++ spaced_from 0 rest) (rest_is n (b ∷ text))
    ∙ ap (λ s. s ++ spaced_from 0 (drop n (b ∷ text))) pushed
    ∙ append_assoc out (32 ∷ []) (spaced_from 0 (drop n (b ∷ text)))
    ∙ ap (λ s. out ++ s) (sym (gap_spaced b text n (sym is) some)) ∙ p

-- nothing that separates begins with a plain byte
no_gap : (b : ℕ) (text : List ℕ) → is_plain b ≡ true → gap (b ∷ text) ≡ 0
no_gap b text e = elim (bool_tells (is_space b)) [
  | inl s ↦ absurd (let k : false ≡ true = (rw s at e) in cc)
  | inr s ↦ elim (bool_tells (b == 47)) [
    | inl t ↦ absurd (let k : false ≡ true = (rw t at (rw s at e)) in cc)
    | inr t ↦
        let none : separator_len (b ∷ text) ≡ 0 = simp s (simp t refl) in
        simp none refl
  ]
]

plain_spaced : (text : List ℕ) → spaced_from 0 text ≡ take (prefix_len is_plain text) text ++ spaced_from 0 (drop (prefix_len is_plain text) text)
plain_spaced [] = refl
plain_spaced (b ∷ text) = elim (bool_tells (is_plain b)) [
  | inl e ↦
      let n : prefix_len is_plain (b ∷ text) ≡ suc (prefix_len is_plain text) = simp e (omega arith) in
      ap (λ g. (if g == 0 then b else 32) ∷ spaced_from (g - 1) text) (no_gap b text e) ∙ ap (λ s. b ∷ s) (plain_spaced text)
      ∙ sym (ap (λ k. take k (b ∷ text) ++ spaced_from 0 (drop k (b ∷ text))) n)
  | inr e ↦ simp e refl
]

-- plain bytes more
pub plain_more : (out new text all : List ℕ) (n : ℕ) → new ≡ out ++ take n text → n ≡ prefix_len is_plain text → out ++ spaced_from 0 text ≡ spaced_from 0 all
    → new ++ spaced_from 0 (take (length text - n) (drop n text)) ≡ spaced_from 0 all
plain_more out new text all n pushed is p =
    ap (λ rest. new ++ spaced_from 0 rest) (rest_is n text)
    ∙ ap (λ s. s ++ spaced_from 0 (drop n text)) pushed
    ∙ append_assoc out (take n text) (spaced_from 0 (drop n text))
    ∙ ap (λ s. out ++ s) (ap (λ k. take k text ++ spaced_from 0 (drop k text)) is ∙ sym (plain_spaced text)) ∙ p
