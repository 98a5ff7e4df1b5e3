-- What the next token is, by its symbol.
use Rattle.std.proofs.Common.{◌≡◌, ℕ, zero, suc, ◌+◌, ◌-◌, ◌≤◌, ◌==◌, Bool, true, false, if◌then◌else◌, List, [], ◌∷◌, length, take, drop, Some, Ok, refl, sym, ◌∙◌, ap, subst, arith, length-drop}
use Rattle.std.proofs.lemmas.List.{length-take}
use Rattle.c_lexer.specs.declared.tokens.TokenKind.{TokenKind}
use Rattle.c_lexer.specs.declared.tokens.TokenKind.TheVariants as kind
use Rattle.c_lexer.specs.declared.symbols.Symbol.{Symbol}
use Rattle.c_lexer.specs.declared.symbols.Symbol.TheVariants as s
use Rattle.c_lexer.specs.declared.pieces.Piece.{Piece}
use Rattle.c_lexer.specs.Readings.{Reading, Lexeme, next, slice}
use Rattle.c_lexer.specs.TokenForms.{is_name, is_token_of}
use Rattle.c_lexer.specs.Symbols.{symbol_of, is_too_large, sign_symbol, single, operation, assigned, doubled, is_sound}
use Rattle.c_lexer.specs.Input.{symbol, piece}
use Rattle.c_lexer.specs.Pieces.{bytes_of}
use Rattle.c_lexer.proofs.TokenLaws.{tokens_longest}
use Rattle.printable_regions.proofs.Scans.{to_number}
use Rattle.printable_regions.proofs.Clean.{token_is}
use Rattle.printable_regions.proofs.BodyLines.{same_slice}
use Rattle.printable_regions.proofs.Goes.{next_is}

-- the symbol of a name
abbrev pub is_word_symbol : Symbol → Bool
is_word_symbol s.Name = true
is_word_symbol s.Operator = true
is_word_symbol _ = false

pick : (test : Bool) (a b : Symbol) → is_word_symbol a ≡ false → is_word_symbol b ≡ false → is_word_symbol (if test then a else b) ≡ false
pick true a b p q = p
pick false a b p q = q

operation_is : (b : ℕ) → is_word_symbol (operation b) ≡ false
operation_is b =
    pick (b == 43) s.Plus _ refl (pick (b == 45) s.Minus _ refl (pick (b == 42) s.Times _ refl (pick (b == 47) s.Divide _ refl
    (pick (b == 37) s.Remainder _ refl (pick (b == 60) s.Less _ refl (pick (b == 62) s.Greater _ refl (pick (b == 33) s.Not s.Bad refl refl)))))))

single_is : (b : ℕ) → is_word_symbol (single b) ≡ false
single_is b =
    pick (b == 40) s.OpenRound _ refl (pick (b == 41) s.CloseRound _ refl (pick (b == 91) s.OpenSquare _ refl (pick (b == 93) s.CloseSquare _ refl
    (pick (b == 123) s.OpenCurly _ refl (pick (b == 125) s.CloseCurly _ refl (pick (b == 59) s.Semicolon _ refl (pick (b == 44) s.Comma _ refl
    (pick (b == 63) s.Question _ refl (pick (b == 58) s.Colon _ refl (pick (b == 61) s.Assign (operation b) refl (operation_is b)))))))))))

assigned_is : (b : ℕ) → is_word_symbol (assigned b) ≡ false
assigned_is b =
    pick (b == 43) s.PlusAssign _ refl (pick (b == 45) s.MinusAssign _ refl (pick (b == 42) s.TimesAssign _ refl (pick (b == 47) s.DivideAssign _ refl
    (pick (b == 37) s.RemainderAssign _ refl (pick (b == 60) s.LessEqual _ refl (pick (b == 62) s.GreaterEqual _ refl (pick (b == 61) s.Same _ refl
    (pick (b == 33) s.Differ s.Bad refl refl))))))))

doubled_is : (b : ℕ) → is_word_symbol (doubled b) ≡ false
doubled_is b = pick (b == 43) s.Increment _ refl (pick (b == 45) s.Decrement _ refl (pick (b == 38) s.And _ refl (pick (b == 124) s.Or s.Bad refl refl)))

sign_is : (text : List ℕ) → is_word_symbol (sign_symbol text) ≡ false
sign_is [] = refl
sign_is (a ∷ []) = single_is a
sign_is (a ∷ b ∷ []) = pick (b == 61) (assigned a) (doubled a) (assigned_is a) (doubled_is a)
sign_is (a ∷ b ∷ c ∷ more) = refl

false_is_not : (b : Bool) {X : Type 0} → b ≡ false → b ≡ true → X
false_is_not b p q = absurd (let e : false ≡ true = sym p ∙ q in cc)

pub kind_is : (k : TokenKind) (text : List ℕ) → is_word_symbol (symbol_of k text) ≡ true → k ≡ kind.Name
kind_is kind.Name text h = refl
kind_is kind.Integer text h = false_is_not _ (pick (is_too_large text) s.TooLarge s.Integer refl refl) h
kind_is kind.Literal text h = absurd (cc)
kind_is kind.Sign text h = false_is_not _ (sign_is text) h

no_empty : (k : TokenKind) → is_token_of k [] ≡ false
no_empty kind.Name = refl
no_empty kind.Integer = refl
no_empty kind.Literal = refl
no_empty kind.Sign = refl

-- a token lies in the text
pub token_within : (text : List ℕ) (at : ℕ) (w : Lexeme) → next (record { text = text; at = at }) ≡ Ok (Some w) → (w.from ≤ w.to) × (w.to ≤ length text)
token_within text at w e =
    let t = token_is text at w e in
    let longest = ((tokens_longest (drop w.from text) w.kind t.size).0 t.cut).1 in
    (omega (arith, t.to), by_size t.size t.to longest.within longest.token)
  where
    by_size : (n : ℕ) → w.to ≡ w.from + n → n ≤ length (drop w.from text) → is_token_of w.kind (take n (drop w.from text)) ≡ true → w.to ≤ length text
    by_size zero f l h = false_is_not _ (no_empty w.kind) h
    by_size (suc n) f l h = omega (arith, f, l, length-drop w.from text)

pub word_is_sound : (k : Symbol) → is_word_symbol k ≡ true → is_sound k ≡ true
word_is_sound s.Name h = refl
word_is_sound s.Operator h = refl
word_is_sound k h = absurd (cc)

module _ (bytes : List ℕ) (n : ℕ) where
  -- the text that is read is the front of the source up to there
  abbrev pub Reads : Reading → Type 0
  Reads r = r.text ≡ take n bytes

  pub within_front : (r : Reading) → Reads r → (w : Lexeme) → next r ≡ Ok (Some w) → (w.from ≤ w.to) × (w.to ≤ n)
  within_front r e w f =
      let h = token_within r.text r.at w f in (h.0, omega (arith, h.1, ap length e, length-take n bytes))

  pub slice_is : (r : Reading) → Reads r → (w : Lexeme) → next r ≡ Ok (Some w) → slice r.text w.from w.to ≡ slice bytes w.from w.to
  slice_is r e w f = let h = within_front r e w f in ap (λ t. slice t w.from w.to) e ∙ same_slice n w.from w.to bytes h.0 h.1

  -- a name that stands next
  pub name_at : (r : Reading) → Reads r → is_word_symbol (symbol r) ≡ true → (p : Piece) → piece r ≡ p → is_name (bytes_of bytes p) ≡ true
  name_at r e h p q =
      let x = next_is r (word_is_sound (symbol r) h) in
      let w : Lexeme = x.lexeme in
      let t = token_is r.text r.at w x.is in
      let k : w.kind ≡ kind.Name = kind_is w.kind (slice r.text w.from w.to) (subst (λ y. is_word_symbol y ≡ true) x.symbol_is h) in
      let longest = ((tokens_longest (drop w.from r.text) w.kind t.size).0 t.cut).1 in
      let named : is_name (take t.size (drop w.from r.text)) ≡ true = subst (λ y. is_token_of y (take t.size (drop w.from r.text)) ≡ true) k longest.token in
      let cut : take t.size (drop w.from r.text) ≡ slice bytes w.from w.to =
      to_number t.size (w.to - w.from) (drop w.from r.text) (omega (arith, t.to)) ∙ slice_is r e w x.is in
      subst (λ p. is_name (bytes_of bytes p) ≡ true) (sym x.piece_is ∙ q) (subst (λ y. is_name y ≡ true) cut named)
