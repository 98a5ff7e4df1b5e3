-- Phrases of the grammar go from place to place of a text, token by token.
use Rattle.std.proofs.Common.{◌≡◌, ℕ, true, if◌then◌else◌, List, [], ◌∷◌, Option, Some, None, Result, Ok, Err, refl, sym, ◌∙◌, ap, subst}
use Rattle.c_lexer.specs.declared.symbols.Symbol.{Symbol}
use Rattle.c_lexer.specs.declared.pieces.Piece.{Piece}
use Rattle.c_lexer.specs.Readings.{Reading, Lexeme, next, slice}
use Rattle.c_lexer.specs.Symbols.{symbol_of, is_sound}
use Rattle.c_lexer.specs.Input.{symbol, symbol_from, start, start_from, behind, behind_from, after, piece}
use Rattle.c_parser.specs.Grammar.{Phrase, ◌then◌, token, word, signed, others, each}
use Rattle.printable_regions.proofs.Clean.{Path, stop, token as step}

-- reading went on along a path
pub record Goes (r r' : Reading) : Type 0 where
  pub text : r'.text ≡ r.text
  pub path : Path r.text r'.at r.at

pub stays : (r r' : Reading) → r ≡ r' → Goes r r'
stays r r' e = subst (Goes r) e (record { text = refl; path = stop })

join_path : (text : List ℕ) (b c a : ℕ) → Path text b a → Path text c b → Path text c a
join_path text b c _ stop q = q
join_path text b c _ (step at w e p) q = step at w e (join_path text b c w.to p q)

pub both_go : (a b c : Reading) → Goes a b → Goes b c → Goes a c
both_go a b c f g = record { text = g.text ∙ f.text; path = join_path a.text b.at c.at a.at f.path (subst (λ t. Path t c.at b.at) f.text g.path) }

-- the token that stands next
pub record Next (r : Reading) : Type 0 where
  pub lexeme : Lexeme
  pub is : next r ≡ Ok (Some lexeme)
  pub symbol_is : symbol r ≡ symbol_of lexeme.kind (slice r.text lexeme.from lexeme.to)
  pub start_is : start r ≡ lexeme.from
  pub after_is : after r ≡ record { text = r.text; at = lexeme.to }
  pub piece_is : piece r ≡ record { from = lexeme.from; to = lexeme.to }

next_by : (r : Reading) (x : Result (Option Lexeme) ℕ) → next r ≡ x → is_sound (symbol_from r.text x) ≡ true → Next r
unfolding symbol start behind after piece
next_by r (Err at) e h = absurd (cc)
next_by r (Ok None) e h = absurd (cc)
next_by r (Ok (Some w)) e h = record {
  lexeme = w;
  is = e;
  symbol_is = ap (symbol_from r.text) e;
  start_is = ap (start_from r) e;
  after_is = ap (λ x. record { text = r.text; at = behind_from r x }) e;
  piece_is = ap (λ x. record { from = start_from r x; to = behind_from r x }) e;
}

pub next_is : (r : Reading) → is_sound (symbol r) ≡ true → Next r
unfolding symbol
next_is r h = next_by r (next r) refl h

pub token_goes : (r r' : Reading) → is_sound (symbol r) ≡ true → after r ≡ r' → Goes r r'
token_goes r r' h e =
    let n = next_is r h in
    subst (Goes r) (sym n.after_is ∙ e) (record { text = refl; path = step r.at n.lexeme n.is stop })

pub this_goes : (k : Symbol) → is_sound k ≡ true → (r r' : Reading) → token k r r' → Goes r r'
this_goes k h r r' t = token_goes r r' (subst (λ x. is_sound x ≡ true) (sym t.0) h) t.1

pub word_goes : (k : Symbol) → is_sound k ≡ true → (p : Piece) (r r' : Reading) → word k p r r' → Goes r r'
word_goes k h p r r' t = token_goes r r' (subst (λ x. is_sound x ≡ true) (sym t.0) h) t.2

-- each phrase of this kind goes on
abbrev pub Going : Phrase → Type 0
Going d = (r r' : Reading) → d r r' → Goes r r'

pub then_goes : (d e : Phrase) → Going d → Going e → Going (d then e)
then_goes d e f g r r' t = both_go r t.0 r' (f r t.0 t.1) (g t.0 r' t.2)

pub signed_goes : {S A : Type 0} (sign : S → Symbol) (item : A → Phrase) → ((x : S) → is_sound (sign x) ≡ true) → ((a : A) → Going (item a))
    → (xs : List (S × A)) → Going (signed sign item xs)
signed_goes sign item f g [] r r' t = stays r r' t
signed_goes sign item f g (x ∷ xs) r r' t =
    then_goes (token (sign x.0)) (item x.1 then signed sign item xs) (this_goes (sign x.0) (f x.0))
    (then_goes (item x.1) (signed sign item xs) (g x.1) (signed_goes sign item f g xs)) r r' t

pub others_go : {A : Type 0} (separator : Symbol) (item : A → Phrase) → is_sound separator ≡ true → ((a : A) → Going (item a)) → (xs : List A) → Going (others separator item xs)
others_go separator item f g [] r r' t = stays r r' t
others_go separator item f g (x ∷ xs) r r' t =
    then_goes (token separator) (item x then others separator item xs) (this_goes separator f)
    (then_goes (item x) (others separator item xs) (g x) (others_go separator item f g xs)) r r' t

pub each_goes : {A : Type 0} (item : A → Phrase) → ((a : A) → Going (item a)) → (xs : List A) → Going (each item xs)
each_goes item g [] r r' t = stays r r' t
each_goes item g (x ∷ xs) r r' t = then_goes (item x) (each item xs) (g x) (each_goes item g xs) r r' t
