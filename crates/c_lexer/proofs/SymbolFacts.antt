-- What stands where no token of the grammar does.
use Rattle.std.proofs.Common.{◌≡◌, ℕ, zero, suc, ◌+◌, ◌-◌, ◌≤◌, ◌==◌, Bool, true, false, if◌then◌else◌, List, [], ◌∷◌, length, take, drop, Option, Some, None, Ok, Err, inl, inr, refl, ap, sym, subst, ◌∙◌, arith}
use Rattle.std.specs.Prelude.{◌||◌, ◌&&◌, ◌⊎◌, slice_index, codes}
use Rattle.std.specs.Str.{bytes_eq}
use Rattle.std.proofs.lemmas.Bool.{eqb-true}
use Rattle.c_lexer.specs.declared.tokens.TokenKind.{TokenKind}
use Rattle.c_lexer.specs.declared.tokens.TokenKind.TheVariants as kind
use Rattle.c_lexer.specs.declared.symbols.Symbol.{Symbol}
use Rattle.c_lexer.specs.declared.symbols.Symbol.TheVariants as s
use Rattle.c_lexer.specs.Tokens.{is_one_of, is_pair, is_single, sign_len, sign_of, token_at, begins_number, number_kind, number_len, is_integer, opens_comment}
use Rattle.c_lexer.specs.Readings.{Reading, Lexeme, slice, next, lexeme_at}
use Rattle.c_lexer.specs.Readings as lexer
use Rattle.c_lexer.specs.Symbols.{lookup, name_symbol, word_symbols, single, assigned, doubled, sign_symbol, symbol_of, is_too_large, is_sound}
use Rattle.c_lexer.specs.Input.{symbol, symbol_from}
use Rattle.c_lexer.proofs.TokenFacts.{some_is}
use Rattle.std.specs.List.{prefix_len}
use Rattle.suite_base.specs.Bytes.{begins_name, is_name_byte}

-- ---- names

abbrev all_sound : List (List ℕ × Symbol) → Bool
all_sound [] = true
all_sound (w ∷ words) = is_sound w.1 && all_sound words

both : (b c : Bool) → (b && c) ≡ true → (b ≡ true) × (c ≡ true)
both true c e = (refl, e)
both false c e = absurd (cc)

found_sound : (b : Bool) (k l : Symbol) → is_sound k ≡ true → is_sound l ≡ true → is_sound (if b then k else l) ≡ true
found_sound true k l e f = e
found_sound false k l e f = f

lookup_sound : (words : List (List ℕ × Symbol)) (text : List ℕ) → all_sound words ≡ true → is_sound (lookup words text) ≡ true
lookup_sound [] text e = refl
lookup_sound (w ∷ words) text e =
    let h = both (is_sound w.1) (all_sound words) e in
    found_sound (bytes_eq w.0 text) w.1 (lookup words text) h.0 (lookup_sound words text h.1)

name_sound : (text : List ℕ) → is_sound (name_symbol text) ≡ true
unfolding name_symbol
name_sound text = lookup_sound word_symbols text refl

-- ---- signs

abbrev Each : (ℕ → Type 0) → List ℕ → Type 0
Each P [] = Unit {0}
Each P (x ∷ xs) = P x × Each P xs

either : (b c : Bool) → (b || c) ≡ true → (b ≡ true) ⊎ (c ≡ true)
either true c e = inl refl
either false c e = inr e

one_of : (P : ℕ → Type 0) (b : ℕ) (bytes : List ℕ) → is_one_of b bytes ≡ true → Each P bytes → P b
one_of P b [] e h = absurd (cc)
one_of P b (x ∷ xs) e h = elim (either (x == b) (is_one_of b xs) e) [
  | inl f ↦ subst P (eqb-true x b f) h.0
  | inr f ↦ one_of P b xs f h.1
]

single_sound : (b : ℕ) → is_single b ≡ true → is_sound (single b) ≡ true
single_sound b e = one_of (λ x. is_sound (single x) ≡ true) b (codes "()[]{};,?:=+-*/%<>!") e
    (refl, (refl, (refl, (refl, (refl, (refl, (refl, (refl, (refl, (refl, (refl, (refl, (refl, (refl, (refl, (refl, (refl, (refl, (refl, tt)))))))))))))))))))

-- a pair is `=` behind a byte, or a byte twice
pair_sound : (a b : ℕ) → is_pair a b ≡ true → is_sound (if b == 61 then assigned a else doubled a) ≡ true
pair_sound a b e = elim (either (b == 61 && is_one_of a (codes "+-*/%<>=!")) (b == a && is_one_of a (codes "+-&|")) e) [
  | inl f ↦ (let h = both (b == 61) (is_one_of a (codes "+-*/%<>=!")) f in
      rw h.0 (one_of (λ x. is_sound (assigned x) ≡ true) a (codes "+-*/%<>=!") h.1 (refl, (refl, (refl, (refl, (refl, (refl, (refl, (refl, (refl, tt)))))))))))
  | inr f ↦ (let h = both (b == a) (is_one_of a (codes "+-&|")) f in
      let same : b ≡ a = eqb-true b a h.0 in
      subst (λ y. is_sound (if y == 61 then assigned a else doubled a) ≡ true) (sym same)
      (one_of (λ x. is_sound (if x == 61 then assigned x else doubled x) ≡ true) a (codes "+-&|") h.1 (refl, (refl, (refl, (refl, tt))))))
]

-- the sign at the front of a text
sign_sound : (text : List ℕ) → 1 ≤ sign_len text → is_sound (sign_symbol (take (sign_len text) text)) ≡ true
sign_sound [] h = absurd (omega arith)
sign_sound (a ∷ text) h = go text (is_pair a (slice_index (a ∷ text) 1)) refl (is_single a) refl h
  where
    go : (text : List ℕ) (p : Bool) → is_pair a (slice_index (a ∷ text) 1) ≡ p → (q : Bool) → is_single a ≡ q → 1 ≤ (if p then 2 else (if q then 1 else 0))
        → is_sound (sign_symbol (take (if p then 2 else (if q then 1 else 0)) (a ∷ text))) ≡ true
    go [] true e q f h = elim (either (0 == 61 && is_one_of a (codes "+-*/%<>=!")) (0 == a && is_one_of a (codes "+-&|")) e) [
      | inl x ↦ absurd (cc)
      | inr x ↦ (let y = both (0 == a) (is_one_of a (codes "+-&|")) x in
          absurd (one_of (λ z. 0 ≡ z → ⊥) a (codes "+-&|") y.1 ((λ z. absurd (omega (arith, z))), ((λ z. absurd (omega (arith, z))), ((λ z. absurd (omega (arith, z))), ((λ z. absurd (omega (arith, z))), tt)))) (eqb-true 0 a y.0)))
    ]
    go (b ∷ text) true e q f h = pair_sound a b e
    go text false e true f h = single_sound a f
    go text false e false f h = absurd (omega arith)

-- ---- tokens

-- a token of the grammar, or an integer that is too large
abbrev Known : List ℕ → TokenKind × ℕ → Type 0
Known body t = (is_sound (symbol_of t.0 (take t.1 body)) ≡ true) ⊎ ((t.0 ≡ kind.Integer) × (is_too_large (take t.1 body) ≡ true))

integer_known : (body : List ℕ) (n : ℕ) (b : Bool) → is_too_large (take n body) ≡ b → Known body (kind.Integer, n)
integer_known body n true e = inr (refl, e)
integer_known body n false e = inl (rw e refl)

number_known : (body : List ℕ) (n : ℕ) (b : Bool) → Known body ((if b then kind.Integer else kind.Literal), n)
number_known body n true = integer_known body n (is_too_large (take n body)) refl
number_known body n false = inl refl

sign_known : (body : List ℕ) (n : ℕ) (t : TokenKind × ℕ) → sign_len body ≡ n → sign_of n ≡ Some t → Known body t
sign_known body zero t e f = absurd (cc)
sign_known body (suc n) t e f =
    let h : is_sound (sign_symbol (take (sign_len body) body)) ≡ true = sign_sound body (omega (arith, e)) in
    let g : is_sound (sign_symbol (take (suc n) body)) ≡ true = subst (λ k. is_sound (sign_symbol (take k body)) ≡ true) e h in
    subst (λ x. Known body x) (some_is f) (inl g)

token_cut : (body : List ℕ) (t : TokenKind × ℕ) (name number comment : Bool) (n m : ℕ)
    → (if name then Some (kind.Name, n) else (if number then Some (number_kind (take m body), m) else (if comment then None else sign_of (sign_len body)))) ≡ Some t → Known body t
token_cut body t true number comment n m e = subst (λ x. Known body x) (some_is e) (inl (name_sound (take n body)))
token_cut body t false true comment n m e = subst (λ x. Known body x) (some_is e) (number_known body m (is_integer (take m body)))
token_cut body t false false true n m e = absurd (cc)
token_cut body t false false false n m e = sign_known body (sign_len body) t refl e

token_known : (body : List ℕ) (t : TokenKind × ℕ) → token_at body ≡ Some t → Known body t
token_known body t e = token_cut body t (begins_name (slice_index body 0)) (begins_number body) (opens_comment body) (prefix_len is_name_byte body) (number_len 0 body) e

-- the same where it stands in a text
standing : (text : List ℕ) (from : ℕ) (t : TokenKind × ℕ) → Known (drop from text) t
    → (is_sound (symbol_of t.0 (slice text from (from + t.1))) ≡ true) ⊎ ((t.0 ≡ kind.Integer) × (is_too_large (slice text from (from + t.1)) ≡ true))
standing text from t h =
    let e : t.1 ≡ from + t.1 - from = omega arith in
    let P : ℕ → Type 0 = λ n. (is_sound (symbol_of t.0 (take n (drop from text))) ≡ true) ⊎ ((t.0 ≡ kind.Integer) × (is_too_large (take n (drop from text)) ≡ true)) in
    subst P e h

bad_cut : (text : List ℕ) (from : ℕ) (b : Bool) (o : Option (TokenKind × ℕ)) → token_at (drop from text) ≡ o → symbol_from text (if b then Ok None else lexeme_at from o) ≡ s.Bad
    → (if b then Ok None else lexeme_at from o) ≡ Err from
bad_cut text from true o e f = absurd (cc)
bad_cut text from false None e f = refl
bad_cut text from false (Some t) e f = elim (standing text from t (token_known (drop from text) t e)) [
  | inl h ↦ (let k : false ≡ true = sym (ap is_sound f) ∙ h in absurd (cc))
  | inr h ↦ (let k : symbol_of kind.Integer (slice text from (from + t.1)) ≡ s.Bad = ap (λ x. symbol_of x (slice text from (from + t.1))) (sym h.0) ∙ f in
      let l : s.TooLarge ≡ s.Bad = rw h.1 at k in absurd (cc))
]

-- where no symbol of a token stands, no token begins
pub no_token : (r : Reading) → symbol r ≡ s.Bad → next r ≡ Err (lexer.start r)
unfolding symbol
no_token r e = bad_cut r.text (lexer.start r) (lexer.start r == length r.text) (token_at (drop (lexer.start r) r.text)) refl e

large_cut : (text : List ℕ) (from : ℕ) (b : Bool) (o : Option (TokenKind × ℕ)) → token_at (drop from text) ≡ o → symbol_from text (if b then Ok None else lexeme_at from o) ≡ s.TooLarge
    → (w : Lexeme) × ((if b then Ok None else lexeme_at from o) ≡ Ok (Some w)) × (w.kind ≡ kind.Integer) × (is_too_large (slice text w.from w.to) ≡ true)
large_cut text from true o e f = absurd (cc)
large_cut text from false None e f = absurd (cc)
large_cut text from false (Some t) e f = elim (standing text from t (token_known (drop from text) t e)) [
  | inl h ↦ (let k : false ≡ true = sym (ap is_sound f) ∙ h in absurd (cc))
  | inr h ↦ (record { kind = t.0; from = from; to = from + t.1 }, refl, h.0, h.1)
]

-- the symbol of a large integer is that of no other token
pub large_integer : (r : Reading) → symbol r ≡ s.TooLarge → (w : Lexeme) × (next r ≡ Ok (Some w)) × (w.kind ≡ kind.Integer) × (is_too_large (slice r.text w.from w.to) ≡ true)
unfolding symbol
large_integer r e = large_cut r.text (lexer.start r) (lexer.start r == length r.text) (token_at (drop (lexer.start r) r.text)) refl e
