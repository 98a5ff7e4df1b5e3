-- Places add up, and the places of the lines that finding tells.
use Rattle.std.proofs.Common.{◌≡◌, ℕ, ◌+◌, ◌≤◌, ◌==◌, ◌⊎◌, inl, inr, Bool, true, false, List, [], ◌∷◌, ◌++◌, length, take, Option, Some, None, refl, ap, subst, sym, ◌∙◌, suc, arith, length-append, append_assoc}
use Rattle.std.specs.List.{list_all}
use Rattle.std.proofs.lemmas.Bool.{eqb-true}
use Rattle.std.proofs.Math.Seq.{take-append-add}
use Rattle.suite_base.specs.Lines.{lines, put}
use Rattle.suite_base.specs.declared.places.Place.{Place}
use Rattle.suite_base.proofs.LineCuts.{bool_tells, in_line}
use Rattle.suite_base.specs.Places.{after_byte, after_bytes}
use Rattle.c_lexer.specs.Regions.{Standing, behind, first_line}
use Rattle.c_lexer.proofs.RegionLemmas.{standing, goes_by, stops_at}

abbrev pub place_of : ℕ → ℕ → Place
place_of line column = record { line = line; column = column }

pub place_is : (l m c d : ℕ) → l ≡ m → c ≡ d → place_of l c ≡ place_of m d
place_is l m c d e f = ap (λ x. place_of x c) e ∙ ap (λ x. place_of m x) f

-- the place after two pieces is that after the second from that after the first
pub after_append : (place : Place) (a b : List ℕ) → after_bytes place (a ++ b) ≡ after_bytes (after_bytes place a) b
after_append place [] b = refl
after_append place (x ∷ a) b = after_append (after_byte place x) a b

-- bytes of one line move the column alone
in_one_line : (l c : ℕ) (line : List ℕ) → list_all in_line line ≡ true → after_bytes (place_of l c) line ≡ place_of l (c + length line)
in_one_line l c [] h = place_is l l _ _ refl (omega arith)
in_one_line l c (b ∷ line) h = elim (bool_tells (b == 10)) [
  | inl e ↦ let n : in_line b ≡ false = simp e refl in (let k : false ≡ true = (rw n at h) in cc)
  | inr e ↦
      let n : in_line b ≡ true = simp e refl in
      let rest : list_all in_line line ≡ true = (rw n at h) in
      simp e (in_one_line l (c + 1) line rest ∙ place_is l l _ _ refl (omega arith))
]

-- the first line of a text, and what follows its newline
pub record Cut (s line : List ℕ) (more : List (List ℕ)) (rest : List ℕ) : Type 0 where
  pub plain : list_all in_line line ≡ true
  pub more_is : lines rest ≡ more
  pub whole : (s ≡ line ++ (10 ∷ rest)) ⊎ ((s ≡ line) × (rest ≡ []))

abbrev pub HasCut : List ℕ → List ℕ → List (List ℕ) → Type 0
HasCut s line more = (rest : List ℕ) × Cut s line more rest

put_cons : (b : ℕ) (ls : List (List ℕ)) (line : List ℕ) (more : List (List ℕ)) → put b ls ≡ line ∷ more
    → ((ls ≡ []) × (line ≡ b ∷ []) × (more ≡ [])) ⊎ ((first : List ℕ) × (ls ≡ first ∷ more) × (line ≡ b ∷ first))
put_cons b [] line more e = inl (refl, cc, cc)
put_cons b (first ∷ others) line more e = inr (first, cc, cc)

put_some : (b : ℕ) (ls : List (List ℕ)) → put b ls ≡ [] → (x : Type 0) → x
put_some b [] e x = absurd (cc)
put_some b (l ∷ ls) e x = absurd (cc)

no_lines : (s : List ℕ) → lines s ≡ [] → s ≡ []
no_lines [] e = refl
no_lines (b ∷ s) e = elim (bool_tells (b == 10)) [
  | inl t ↦ let f : ([] ∷ lines s) ≡ [] = (simp t at e) in absurd (cc)
  | inr t ↦ let f : put b (lines s) ≡ [] = (simp t at e) in put_some b (lines s) f (b ∷ s ≡ [])
]

cut_here : (b : ℕ) (s line : List ℕ) (more : List (List ℕ)) → b ≡ 10 → ([] ∷ lines s) ≡ line ∷ more → HasCut (b ∷ s) line more
cut_here b s [] more e f = (s, record { plain = refl; more_is = cc; whole = inl (ap (λ x. x ∷ s) e) })
cut_here b s (x ∷ line) more e f = absurd (cc)

cut_alone : (b : ℕ) (s line : List ℕ) (more : List (List ℕ)) → (b == 10) ≡ false → s ≡ [] → line ≡ b ∷ [] → more ≡ [] → HasCut (b ∷ s) line more
cut_alone b s line more t e f g =
    let n : in_line b ≡ true = simp t refl in
    ([], record { plain = rw f (rw n refl); more_is = sym g; whole = inr (rw (e, f) refl, refl) })

cut_further : (b : ℕ) (s first line : List ℕ) (more : List (List ℕ)) → (b == 10) ≡ false → line ≡ b ∷ first → HasCut s first more → HasCut (b ∷ s) line more
cut_further b s first line more t f (rest, cut) =
    let n : in_line b ≡ true = simp t refl in (
      rest,
      record {
        plain = rw f (rw n cut.plain);
        more_is = cut.more_is;
        whole = elim cut.whole [
          | inl w ↦ inl (rw f (ap (λ x. b ∷ x) w))
          | inr w ↦ inr (rw f (ap (λ x. b ∷ x) w.0), w.1)
        ];
      },
    )

pub cut_of : (s line : List ℕ) (more : List (List ℕ)) → lines s ≡ line ∷ more → HasCut s line more
cut_of [] line more e = absurd (cc)
cut_of (b ∷ s) line more e = elim (bool_tells (b == 10)) [
  | inl t ↦ cut_here b s line more (eqb-true b 10 t) (simp t at e)
  | inr t ↦ elim (put_cons b (lines s) line more (simp t at e)) [
    | inl p ↦ cut_alone b s line more t (no_lines s p.0) p.1 p.2
    | inr p ↦ cut_further b s p.0 line more t p.2 (cut_of s p.0 more p.1)
  ]
]

-- the place after a line and its newline
past_line : (l : ℕ) (line : List ℕ) → list_all in_line line ≡ true → after_bytes (place_of l 1) (line ++ (10 ∷ [])) ≡ place_of (l + 1) 1
past_line l line h = after_append (place_of l 1) line (10 ∷ []) ∙ ap (λ p. after_bytes p (10 ∷ [])) (in_one_line l 1 line h)

-- what is told of a line that passes: the place after it
abbrev pub IsPlaced : ℕ → List ℕ → Standing → Type 0
IsPlaced l s t = t.past ≤ length s → after_bytes (place_of l 1) (take t.past s) ≡ place_of (l + t.lines_before + 1) 1

placed_here : (l : ℕ) (s line rest : List ℕ) (more : List (List ℕ)) → Cut s line more rest → length line + 1 ≤ length s → after_bytes (place_of l 1) (take (length line + 1) s) ≡ place_of (l + 0 + 1) 1
placed_here l s line rest more cut h = elim cut.whole [
  | inl w ↦
      rw (w, take-append-add line (10 ∷ rest) 1)
      (past_line l line cut.plain ∙ place_is _ _ 1 1 (omega arith) refl)
  | inr w ↦ absurd (let n = ap length w.0 in omega arith)
]

placed_further : (l k past : ℕ) (s line rest : List ℕ) (more : List (List ℕ)) → Cut s line more rest → length line + 1 + past ≤ length s
    → (past ≤ length rest → after_bytes (place_of (l + 1) 1) (take past rest) ≡ place_of (l + 1 + k + 1) 1)
    → after_bytes (place_of l 1) (take (length line + 1 + past) s) ≡ place_of (l + (1 + k) + 1) 1
placed_further l k past s line rest more cut h ih = elim cut.whole [
  | inl w ↦
      let n : length s ≡ length line + suc (length rest) = ap length w ∙ length-append line (10 ∷ rest) in
      let m : length line + 1 + past ≡ length line + suc past = omega arith in
      rw (w, m, take-append-add line (10 ∷ rest) (suc past))
      (ap (λ x. after_bytes (place_of l 1) x) (sym (append_assoc line (10 ∷ []) (take past rest)))
      ∙ after_append (place_of l 1) (line ++ (10 ∷ [])) (take past rest)
      ∙ ap (λ p. after_bytes p (take past rest)) (past_line l line cut.plain)
      ∙ ih (omega arith)
      ∙ place_is _ _ 1 1 (omega arith) refl)
  | inr w ↦ absurd (let n = ap length w.0 in omega arith)
]

placed_in : (passes : List ℕ → Bool) (line : List ℕ) (more : List (List ℕ)) (l : ℕ) (s rest : List ℕ) (t : Standing) → Cut s line more rest
    → (x : Option Standing) → first_line passes more ≡ x → behind line x ≡ Some t
    → ((u : Standing) → x ≡ Some u → IsPlaced (l + 1) rest u) → IsPlaced l s t
placed_in passes line more l s rest t cut None e f ih = absurd (cc)
placed_in passes line more l s rest t cut (Some u) e f ih =
    let g : standing (1 + u.lines_before) (length line + 1 + u.at) (length line + 1 + u.past) u.rest ≡ t = cc in
    let P : Standing → Type 0 = λ v. IsPlaced l s v in
    subst P g (λ h. placed_further l u.lines_before u.past s line rest more cut h (ih u refl))

pub placed : (passes : List ℕ → Bool) (ls : List (List ℕ)) (l : ℕ) (s : List ℕ) (t : Standing) → lines s ≡ ls → first_line passes ls ≡ Some t → IsPlaced l s t
placed passes [] l s t e f = absurd (cc)
placed passes (line ∷ more) l s t e f =
    let (rest, cut) = cut_of s line more e in
    elim (bool_tells (passes line)) [
      | inl p ↦
          let g : standing 0 0 (length line + 1) more ≡ t = (let k = (stops_at passes line more p) in cc) in
          let P : Standing → Type 0 = λ v. IsPlaced l s v in
          subst P g (λ h. placed_here l s line rest more cut h)
      | inr p ↦
          placed_in passes line more l s rest t cut (first_line passes more) refl (let k = (goes_by passes line more p) in cc)
          (λ u h. placed passes more (l + 1) rest u cut.more_is h)
    ]
