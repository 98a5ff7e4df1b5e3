-- What finding a line keeps, and where the lines of a text lie in its bytes.
use Rattle.std.proofs.Common.{◌≡◌, ℕ, ◌+◌, ◌≤◌, ◌==◌, inl, inr, Bool, true, false, List, [], ◌∷◌, length, Option, Some, None, refl, ap, subst, ◌∙◌, suc, arith}
use Rattle.suite_base.specs.Lines.{lines, put}
use Rattle.suite_base.proofs.LineCuts.{bool_tells}
use Rattle.c_lexer.specs.Regions.{Standing, behind, first_line}

-- the bytes of these lines, each with its newline
abbrev pub bytes_of : List (List ℕ) → ℕ
bytes_of [] = 0
bytes_of (line ∷ more) = length line + 1 + bytes_of more

abbrev pub standing : ℕ → ℕ → ℕ → List (List ℕ) → Standing
standing n k p rest = record { lines_before = n; at = k; past = p; rest = rest }

pub standing_is : (rest : List (List ℕ)) (n m k j p q : ℕ) → n ≡ m → k ≡ j → p ≡ q → standing n k p rest ≡ standing m j q rest
standing_is rest n m k j p q e f g = ap (λ x. standing x k p rest) e ∙ (ap (λ x. standing m x p rest) f ∙ ap (λ x. standing m j x rest) g)

-- the same, seen from n lines and k bytes before
abbrev pub shifted : ℕ → ℕ → Option Standing → Option Standing
shifted n k None = None
shifted n k (Some s) = Some (standing (n + s.lines_before) (k + s.at) (k + s.past) s.rest)

pub shifted_none : (x : Option Standing) → shifted 0 0 x ≡ x
shifted_none None = refl
shifted_none (Some s) = ap Some (standing_is s.rest _ _ _ _ _ _ (omega arith) (omega arith) (omega arith))

pub shifted_more : (n k : ℕ) (line : List ℕ) (x : Option Standing) → shifted (n + 1) (k + length line + 1) x ≡ shifted n k (behind line x)
shifted_more n k line None = refl
shifted_more n k line (Some s) = ap Some (standing_is s.rest _ _ _ _ _ _ (omega arith) (omega arith) (omega arith))

pub shifted_here : (n k p : ℕ) (line : List ℕ) (rest : List (List ℕ)) → p ≡ k + length line + 1 → shifted n k (Some (standing 0 0 (length line + 1) rest)) ≡ Some (standing n k p rest)
shifted_here n k p line rest e = ap Some (standing_is rest _ _ _ _ _ _ (omega arith) (omega arith) (omega arith))

-- one more line that passes, or that does not
pub goes_by : (passes : List ℕ → Bool) (line : List ℕ) (more : List (List ℕ)) → passes line ≡ false → first_line passes (line ∷ more) ≡ behind line (first_line passes more)
goes_by passes line more e = simp e refl

pub stops_at : (passes : List ℕ → Bool) (line : List ℕ) (more : List (List ℕ)) → passes line ≡ true → first_line passes (line ∷ more) ≡ Some (standing 0 0 (length line + 1) more)
stops_at passes line more e = simp e refl

-- the lines of a text have its bytes, and the last of them maybe a newline more
put_within : (b n : ℕ) (ls : List (List ℕ)) → bytes_of ls ≤ n + 1 → bytes_of (put b ls) ≤ suc n + 1
put_within b n [] h = omega arith
put_within b n (line ∷ more) h = omega arith

pub bytes_within : (s : List ℕ) → bytes_of (lines s) ≤ length s + 1
bytes_within [] = omega arith
bytes_within (b ∷ s) =
    elim (bool_tells (b == 10)) [
      | inl e ↦ simp e (omega (arith, bytes_within s))
      | inr e ↦ simp e (put_within b (length s) (lines s) (bytes_within s))
    ]

put_over : (b n : ℕ) (ls : List (List ℕ)) → n ≤ bytes_of ls → suc n ≤ bytes_of (put b ls)
put_over b n [] h = omega arith
put_over b n (line ∷ more) h = omega arith

pub bytes_over : (s : List ℕ) → length s ≤ bytes_of (lines s)
bytes_over [] = omega arith
bytes_over (b ∷ s) =
    elim (bool_tells (b == 10)) [
      | inl e ↦ simp e (omega (arith, bytes_over s))
      | inr e ↦ simp e (put_over b (length s) (lines s) (bytes_over s))
    ]

-- how the numbers of a line that passes lie among the lines
pub record Counts (ls : List (List ℕ)) (t : Standing) : Type 0 where
  pub few : t.lines_before ≤ t.at
  pub before : t.at + 1 ≤ t.past
  pub whole : t.past + bytes_of t.rest ≡ bytes_of ls

counts_in : (line : List ℕ) (more : List (List ℕ)) (x : Option Standing) (t : Standing) → behind line x ≡ Some t
    → ((u : Standing) → x ≡ Some u → Counts more u) → Counts (line ∷ more) t
counts_in line more None t e ih = absurd (cc)
counts_in line more (Some u) t e ih =
    let g : standing (1 + u.lines_before) (length line + 1 + u.at) (length line + 1 + u.past) u.rest ≡ t = cc in
    let P : Standing → Type 0 = λ v. Counts (line ∷ more) v in
    let k = ih u refl in
    subst P g (record { few = omega arith; before = omega arith; whole = omega arith })

pub counts : (passes : List ℕ → Bool) (ls : List (List ℕ)) (t : Standing) → first_line passes ls ≡ Some t → Counts ls t
counts passes [] t e = absurd (cc)
counts passes (line ∷ more) t e =
    elim (bool_tells (passes line)) [
      | inl p ↦
          let g : standing 0 0 (length line + 1) more ≡ t = (let k = (stops_at passes line more p) in cc) in
          let P : Standing → Type 0 = λ v. Counts (line ∷ more) v in
          subst P g (record { few = omega arith; before = omega arith; whole = omega arith })
      | inr p ↦
          counts_in line more (first_line passes more) t (let k = (goes_by passes line more p) in cc) (λ u h. counts passes more u h)
    ]
