-- What taking a token does.
use Rattle.std.proofs.Common.{◌≡◌, ℕ, zero, suc, ◌-◌, ◌≤◌, ◌<◌, ◌==◌, Bool, true, false, if◌then◌else◌, List, [], ◌∷◌, length, drop, Option, Some, None, Ok, inl, inr, refl, ap, sym, ◌∙◌, arith, length-drop}
use Rattle.std.specs.Prelude.{◌||◌, ◌&&◌, ◌⊎◌}
use denote.Enum.Bare.{same_true, same_false, true_same, false_same}
use Rattle.c_lexer.specs.contracts.symbols.Symbol.{the_type}
use Rattle.c_lexer.specs.declared.tokens.TokenKind.{TokenKind}
use Rattle.c_lexer.specs.declared.tokens.TokenKind.TheVariants.{Name}
use Rattle.c_lexer.specs.declared.symbols.Symbol.{Symbol}
use Rattle.c_lexer.specs.declared.symbols.Symbol.TheVariants as s
use Rattle.c_lexer.specs.Tokens.{token_at, begins_number, number_len, goes_on, opens_comment, sign_of}
use Rattle.c_lexer.specs.Readings.{Reading, lexeme_at, start}
use Rattle.c_lexer.specs.Symbols.{same_symbol}
use Rattle.c_lexer.specs.Input.{symbol, symbol_from, behind, behind_from, after, left, sees}
use Rattle.c_lexer.proofs.TokenLemmas.{name_moves}
use Rattle.suite_base.specs.Bytes.{begins_name}
use Rattle.suite_base.specs.Numbers.{is_digit}

pub is_same : (a b : Symbol) → same_symbol a b ≡ true → a ≡ b
unfolding same_symbol
is_same a b e = same_true the_type tt a b e

pub not_same : (a b : Symbol) → same_symbol a b ≡ false → a ≡ b → ⊥
unfolding same_symbol
not_same a b e = same_false the_type a b e

pub same_is : (a b : Symbol) → a ≡ b → same_symbol a b ≡ true
unfolding same_symbol
same_is a b e = true_same the_type a b e

pub differs : (a b : Symbol) → (a ≡ b → ⊥) → same_symbol a b ≡ false
unfolding same_symbol
differs a b e = false_same the_type tt a b e

pub seen : (k : Symbol) (r : Reading) → sees k r ≡ true → symbol r ≡ k
unfolding sees
seen k r e = is_same (symbol r) k e

pub not_seen : (k : Symbol) (r : Reading) → sees k r ≡ false → symbol r ≡ k → ⊥
unfolding sees
not_seen k r e = not_same (symbol r) k e

pub sees_it : (k : Symbol) (r : Reading) → symbol r ≡ k → sees k r ≡ true
unfolding sees
sees_it k r e = same_is (symbol r) k e

pub sees_other : (k : Symbol) (r : Reading) → (symbol r ≡ k → ⊥) → sees k r ≡ false
unfolding sees
sees_other k r e = differs (symbol r) k e

pub not_true : {b : Bool} {X : Type 0} → b ≡ true → b ≡ false → X
not_true e f = absurd (let k : true ≡ false = sym e ∙ f in cc)

pub bool_tells : (b : Bool) → (b ≡ true) ⊎ (b ≡ false)
bool_tells true = inl refl
bool_tells false = inr refl

pub some_is : {A : Type 0} {a b : A} → Some a ≡ Some b → a ≡ b
some_is {a = a} e = ap (λ o. elim o [ None ↦ a | Some x ↦ x ]) e

-- ---- a token has a byte at least

abbrev Long : List ℕ → TokenKind × ℕ → Type 0
Long text t = (1 ≤ t.1) × (1 ≤ length text)

goes : (n d p q x : Bool) → (d || (p && q)) ≡ true → ((n || d) || p || x) ≡ true
goes true d p q x e = refl
goes false true p q x e = refl
goes false false true q x e = refl
goes false false false q x e = absurd (cc)

number_goes : (b : ℕ) (more : List ℕ) → begins_number (b ∷ more) ≡ true → 1 ≤ number_len 0 (b ∷ more)
number_goes b more e =
    let g : goes_on 0 b ≡ true = goes (begins_name b) (is_digit b) (b == 46) _ _ e in
    simp g (omega arith)

sign_long : (n : ℕ) (t : TokenKind × ℕ) → sign_of n ≡ Some t → 1 ≤ t.1
sign_long zero t e = absurd (cc)
sign_long (suc n) t e = rw (← some_is e) (omega arith)

sign_cut : (comment : Bool) (n : ℕ) (t : TokenKind × ℕ) → (if comment then None else sign_of n) ≡ Some t → 1 ≤ t.1
sign_cut true n t e = absurd (cc)
sign_cut false n t e = sign_long n t e

token_cut : (name number comment : Bool) (kind : TokenKind) (n m k : ℕ) (t : TokenKind × ℕ) → (name ≡ true → 1 ≤ n) → (number ≡ true → 1 ≤ m)
    → (if name then Some (Name, n) else (if number then Some (kind, m) else (if comment then None else sign_of k))) ≡ Some t → 1 ≤ t.1
token_cut true number comment kind n m k t f g e = rw (← some_is e) (f refl)
token_cut false true comment kind n m k t f g e = rw (← some_is e) (g refl)
token_cut false false comment kind n m k t f g e = sign_cut comment k t e

pub token_long : (text : List ℕ) (t : TokenKind × ℕ) → token_at text ≡ Some t → Long text t
token_long [] t e = absurd (cc)
token_long (b ∷ more) t e =
    (token_cut (begins_name b) (begins_number (b ∷ more)) (opens_comment (b ∷ more)) _ _ _ _ t (λ h. name_moves (b ∷ more) h) (λ h. number_goes b more h) e, omega arith)

-- ---- reading goes forward

back : (len at from : ℕ) (b : Bool) (text : List ℕ) (t : Option (TokenKind × ℕ)) → at ≤ from
    → length text - behind_from (record { text = text; at = at }) (if b then Ok None else lexeme_at from t) ≤ length text - at
back len at from true text t h = omega arith
back len at from false text None h = omega arith
back len at from false text (Some t) h = omega arith

pub left_after : (r : Reading) → left (after r) ≤ left r
unfolding after behind
left_after r = let h = back 0 r.at (start r) (start r == length r.text) r.text (token_at (drop (start r) r.text)) (omega arith) in omega (arith, h)

forth : (at from : ℕ) (b : Bool) (text : List ℕ) (t : Option (TokenKind × ℕ)) → at ≤ from → ((x : TokenKind × ℕ) → t ≡ Some x → Long (drop from text) x)
    → (symbol_from text (if b then Ok None else lexeme_at from t) ≡ s.End → ⊥) → (symbol_from text (if b then Ok None else lexeme_at from t) ≡ s.Bad → ⊥)
    → length text - behind_from (record { text = text; at = at }) (if b then Ok None else lexeme_at from t) < length text - at
forth at from true text t h long f g = absurd (f refl)
forth at from false text None h long f g = absurd (g refl)
forth at from false text (Some t) h long f g = let l = long t refl in omega (arith, l.0, l.1, length-drop from text)

-- a token that is one takes a byte at least
pub left_less : (r : Reading) → (symbol r ≡ s.End → ⊥) → (symbol r ≡ s.Bad → ⊥) → left (after r) < left r
unfolding after behind symbol
left_less r f g =
    let h = forth r.at (start r) (start r == length r.text) r.text (token_at (drop (start r) r.text)) (omega arith) (λ x e. token_long (drop (start r) r.text) x e) f g in
    omega (arith, h)
