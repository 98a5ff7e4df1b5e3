-- A name of C is one word of a line, and names of C between spaces do not end a body.
use Rattle.std.proofs.Common.{◌≡◌, ◌⊎◌, inl, inr, ℕ, ◌≤◌, Bool, true, false, ◌&&◌, ◌||◌, ◌==◌, not, nat_le, List, [], ◌∷◌, ◌++◌, refl, ap, arith}
use Rattle.std.proofs.lemmas.Bool.Decides.{nat_tests}
use Rattle.std.specs.List.{list_all}
use Rattle.std.specs.Str.{bytes_eq}
use Rattle.suite_base.specs.Bytes.{is_letter, begins_name, is_name_byte}
use Rattle.suite_base.specs.Lines.{is_blank}
use Rattle.suite_base.specs.Words.{begins_word, unbroken, spaced}
use Rattle.suite_base.specs.Numbers.{is_digit}
use Rattle.c_lexer.specs.TokenForms as c
use Rattle.scop_core.specs.Printable.{has_no, is_name, are_names, end_line, body_name}

-- of three and of four
pub third : (a b c : Bool) → (a && (b && c)) ≡ true → (a ≡ true) × (b ≡ true) × (c ≡ true)
third true true c h = (refl, refl, h)
third true false c h = absurd (cc)
third false b c h = absurd (cc)

pub fourth : (a b c d : Bool) → (a && (b && (c && d))) ≡ true → (a ≡ true) × (b ≡ true) × (c ≡ true) × (d ≡ true)
fourth true true true d h = (refl, refl, refl, h)
fourth true true false d h = absurd (cc)
fourth true false c d h = absurd (cc)
fourth false b c d h = absurd (cc)

pub and_first : (a b : Bool) → (a && b) ≡ true → a ≡ true
and_first true b h = refl
and_first false b h = absurd (cc)

pub and_second : (a b : Bool) → (a && b) ≡ true → b ≡ true
and_second true b h = h
and_second false b h = absurd (cc)

pub both_hold : (a b : Bool) → a ≡ true → b ≡ true → (a && b) ≡ true
both_hold a b e f = rw e f

pub either : (a b : Bool) → (a || b) ≡ true → (a ≡ true) ⊎ (b ≡ true)
either true b h = inl refl
either false b h = inr h

-- a byte that is no blank, no newline and no `#`
high_letter : (b : ℕ) → is_letter b ≡ true → nat_le 36 b ≡ true
high_letter b h =
    elim (either (nat_le 65 b && nat_le b 90) (nat_le 97 b && nat_le b 122) h) [
      | inl u ↦ let e : nat_le 65 b ≡ true = and_first _ _ u in grind (arith, nat_tests)
      | inr u ↦ let e : nat_le 97 b ≡ true = and_first _ _ u in grind (arith, nat_tests)
    ]

pub high_first : (b : ℕ) → begins_name b ≡ true → nat_le 36 b ≡ true
high_first b h = elim (either (is_letter b) (b == 95) h) [ inl l ↦ high_letter b l | inr e ↦ grind (arith, nat_tests) ]

high_digit : (b : ℕ) → is_digit b ≡ true → nat_le 36 b ≡ true
high_digit b h = let e : nat_le 48 b ≡ true = and_first _ _ h in grind (arith, nat_tests)

pub high_name_byte : (b : ℕ) → is_name_byte b ≡ true → nat_le 36 b ≡ true
high_name_byte b h = elim (either (begins_name b) (is_digit b) h) [ inl l ↦ high_first b l | inr d ↦ high_digit b d ]

-- such bytes alone
abbrev pub is_high : List ℕ → Bool
is_high text = list_all (nat_le 36) text

pub is_not_high : (b c : ℕ) → nat_le 36 b ≡ true → c ≤ 35 → (c == b) ≡ false
is_not_high b c h l = grind (arith, nat_tests)

high_is_not : (b c : ℕ) → nat_le 36 b ≡ true → c ≤ 35 → (b == c) ≡ false
high_is_not b c h l = grind (arith, nat_tests)

pub high_unblank : (b : ℕ) → nat_le 36 b ≡ true → is_blank b ≡ false
high_unblank b h = simp (high_is_not b 32 h (omega arith), high_is_not b 9 h (omega arith), high_is_not b 13 h (omega arith)) refl

high_unbroken : (text : List ℕ) → is_high text ≡ true → unbroken text ≡ true
high_unbroken [] h = refl
high_unbroken (b ∷ text) h = simp (high_unblank b (and_first _ _ h)) (high_unbroken text (and_second _ _ h))

pub high_has_no : (c : ℕ) (text : List ℕ) → c ≤ 35 → is_high text ≡ true → has_no c text ≡ true
high_has_no c [] l h = refl
high_has_no c (b ∷ text) l h = simp (is_not_high b c (and_first _ _ h) l) (high_has_no c text l (and_second _ _ h))

bytes_high : (text : List ℕ) → list_all is_name_byte text ≡ true → is_high text ≡ true
bytes_high [] h = refl
bytes_high (b ∷ text) h = both_hold _ _ (high_name_byte b (and_first _ _ h)) (bytes_high text (and_second _ _ h))

pub name_high : (name : List ℕ) → c.is_name name ≡ true → is_high name ≡ true
name_high [] h = absurd (cc)
name_high (b ∷ more) h = both_hold _ _ (high_first b (and_first _ _ h)) (bytes_high more (and_second _ _ h))

pub begins : (b : ℕ) (more : List ℕ) → is_blank b ≡ false → begins_word (b ∷ more) ≡ true
begins b more h = simp h refl

-- a name of C is one word without `#`
pub c_name_is_name : (name : List ℕ) → c.is_name name ≡ true → is_name name ≡ true
c_name_is_name [] h = absurd (cc)
c_name_is_name (b ∷ more) h =
    let high = name_high (b ∷ more) h in
    both_hold _ _ (both_hold _ _ (begins b more (high_unblank b (high_first b (and_first _ _ h)))) (high_unbroken (b ∷ more) high))
    (both_hold _ _ (high_has_no 10 (b ∷ more) (omega arith) high) (high_has_no 35 (b ∷ more) (omega arith) high))

abbrev pub are_c_names : List (List ℕ) → Bool
are_c_names names = list_all c.is_name names

pub c_names_are_names : (names : List (List ℕ)) → are_c_names names ≡ true → are_names names ≡ true
c_names_are_names [] h = refl
c_names_are_names (name ∷ names) h = both_hold _ _ (c_name_is_name name (and_first _ _ h)) (c_names_are_names names (and_second _ _ h))

-- a text that does not begin with `<` is not the line that ends a body
pub other_line : (b : ℕ) (text : List ℕ) → (b == 60) ≡ false → not (bytes_eq (b ∷ text) (end_line body_name)) ≡ true
other_line b text h = simp h refl

pub no_angle : (b : ℕ) → begins_name b ≡ true → (b == 60) ≡ false
no_angle b h = elim (either (is_letter b) (b == 95) h) [
  | inl l ↦ elim (either (nat_le 65 b && nat_le b 90) (nat_le 97 b && nat_le b 122) l) [
    | inl u ↦ let e : nat_le 65 b ≡ true = and_first _ _ u in grind (arith, nat_tests)
    | inr u ↦ let e : nat_le 97 b ≡ true = and_first _ _ u in grind (arith, nat_tests)
  ]
  | inr e ↦ grind (arith, nat_tests)
]

pub name_ends_no_body : (name more : List ℕ) → c.is_name name ≡ true → not (bytes_eq (name ++ more) (end_line body_name)) ≡ true
name_ends_no_body [] more h = absurd (cc)
name_ends_no_body (b ∷ name) more h = other_line b (name ++ more) (no_angle b (and_first _ _ h))

nothing_more : (xs : List ℕ) → xs ++ [] ≡ xs
nothing_more [] = refl
nothing_more (x ∷ xs) = ap (λ ys. x ∷ ys) (nothing_more xs)

pub names_end_no_body : (names : List (List ℕ)) → are_c_names names ≡ true → not (bytes_eq (spaced names) (end_line body_name)) ≡ true
names_end_no_body [] h = refl
names_end_no_body (name ∷ []) h = rw (← nothing_more name) (name_ends_no_body name [] (and_first _ _ h))
names_end_no_body (name ∷ next ∷ more) h = name_ends_no_body name (32 ∷ spaced (next ∷ more)) (and_first _ _ h)
