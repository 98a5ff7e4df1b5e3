-- The ranks of places, set from the last place on.
use Rattle.std.proofs.Common.{◌≡◌, ◌≢◌, ℕ, ◌+◌, ◌-◌, ◌<◌, ◌≤◌, ◌==◌, inl, inr, List, [], ◌∷◌, length, drop, get_or, set, replicate, refl, sym, ◌∙◌, ap, subst, arith}
use Rattle.std.proofs.lemmas.Bool.{eqb-true, eqb-false, eq-eqb, ne_eqb}
use Rattle.std.proofs.lemmas.List.{drop_all, drop_more, get_or-set_same, get_or-set_other, get_or-replicate, length-replicate, length-set}
use Rattle.beta_tree.specs.Edits.{place_of}
use Rattle.beta_tree.proofs.Places.{bool_tells}

-- entry p is where p stands among these numbers from place k on, which is their count where it isn't there
abbrev pub AreRanksFrom : ℕ → List ℕ → List ℕ → Type 0
AreRanksFrom k numbers ranks = (p d : ℕ) → p < length ranks → get_or ranks p d ≡ k + place_of p (drop k numbers)

pub ranks_none : (numbers ranks : List ℕ) (n : ℕ) → ranks ≡ replicate n (length numbers) → AreRanksFrom (length numbers) numbers ranks
ranks_none numbers ranks n e =
    subst (AreRanksFrom (length numbers) numbers) (sym e)
    (λ p d l.
    let size = length-replicate n (length numbers) in
    let none : place_of p (drop (length numbers) numbers) ≡ 0 = ap (place_of p) (drop_all (length numbers) numbers (omega arith)) in
    get_or-replicate n p (length numbers) d (omega (arith, l, size)) ∙ omega (arith, none))

-- the number before place left
before : (left x : ℕ) (numbers : List ℕ) → 0 < left → left ≤ length numbers → x ≡ get_or numbers (left - 1) x → drop (left - 1) numbers ≡ x ∷ drop left numbers
before left x numbers some l is =
    let up : left - 1 + 1 ≡ left = omega arith in
    drop_more numbers (left - 1) x (omega arith) ∙ (ap (λ z. z ∷ drop (left - 1 + 1) numbers) (sym is) ∙ ap (λ k. x ∷ drop k numbers) up)

at_first : (left p x : ℕ) (rest : List ℕ) → 0 < left → x ≡ p → left - 1 ≡ left - 1 + place_of p (x ∷ rest)
at_first left p x rest some e = rw (eq-eqb x p e) (omega arith)

at_rest : (left p x : ℕ) (rest : List ℕ) → 0 < left → x ≢ p → left + place_of p rest ≡ left - 1 + place_of p (x ∷ rest)
at_rest left p x rest some ne = rw (ne_eqb x p ne) (omega arith)

pub ranks_set : (left x : ℕ) (numbers ranks : List ℕ) → 0 < left → left ≤ length numbers → x ≡ get_or numbers (left - 1) x → x < length ranks → AreRanksFrom left numbers ranks → AreRanksFrom (left - 1) numbers (set ranks x (left - 1))
ranks_set left x numbers ranks some l is within h p d m =
    let rest : List ℕ = drop left numbers in
    let here : place_of p (drop (left - 1) numbers) ≡ place_of p (x ∷ rest) = ap (place_of p) (before left x numbers some l is) in
    let size = length-set ranks x (left - 1) in
    elim (bool_tells (x == p)) [
      | inl t ↦
          let same = eqb-true x p t in
          ap (λ k. get_or (set ranks x (left - 1)) k d) (sym same) ∙ (get_or-set_same ranks x (left - 1) d within ∙ (at_first left p x rest some same ∙ ap (λ k. left - 1 + k) (sym here)))
      | inr f ↦
          let other = eqb-false x p f in
          get_or-set_other ranks x p (left - 1) d (λ e. other (sym e)) ∙ (h p d (omega (arith, m, size)) ∙ (at_rest left p x rest some other ∙ ap (λ k. left - 1 + k) (sym here)))
    ]

pub ranks_keep : (left x : ℕ) (numbers ranks : List ℕ) → 0 < left → left ≤ length numbers → x ≡ get_or numbers (left - 1) x → length ranks ≤ x → AreRanksFrom left numbers ranks → AreRanksFrom (left - 1) numbers ranks
ranks_keep left x numbers ranks some l is past h p d m =
    let other : x ≢ p = λ e. omega (arith, e, past, m) in
    h p d m ∙ (at_rest left p x (drop left numbers) some other ∙ ap (λ (xs : List ℕ). left - 1 + place_of p xs) (sym (before left x numbers some l is)))
