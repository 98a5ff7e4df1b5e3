-- What stands next in a text, by what separates it from what was read.
use Rattle.std.proofs.Common.{◌≡◌, ℕ, ◌+◌, ◌-◌, ◌≤◌, ◌<◌, inl, inr, List, length, take, drop, Option, Some, None, refl, ap, sym, ◌∙◌, arith}
use Rattle.std.proofs.lemmas.Bool.Decides.{eqb_tells}
use Rattle.suite_base.specs.Places.{place_at}
use Rattle.c_lexer.specs.declared.symbols.Symbol.{Symbol}
use Rattle.c_lexer.specs.declared.symbols.Symbol.TheVariants as s
use Rattle.c_lexer.specs.declared.tokens.TokenKind.{TokenKind}
use Rattle.c_lexer.specs.Tokens.{token_at}
use Rattle.c_lexer.specs.Readings.{lexeme_at, next_from}
use Rattle.c_lexer.specs.Symbols.{symbol_of}
use Rattle.c_lexer.specs.Input.{symbol, start, behind, here, symbol_from, start_from, behind_from, here_from}
use Rattle.c_lexer.proofs.ReadingLemmas.{Ahead, reading, next_token, next_none, start_is}

-- what stands next, and from and up to which byte
pub record IsNext (text : List ℕ) (at : ℕ) (what : Symbol) (from to : ℕ) : Type 0 where
  pub symbol_is : what ≡ symbol (reading text at)
  pub from_is : from ≡ start (reading text at)
  pub to_is : to ≡ behind (reading text at)

pub nothing_left : (text : List ℕ) (at : ℕ) (blank rest : List ℕ) → Ahead text at blank rest → length rest < 1
    → IsNext text at s.End (length text) (length text)
unfolding symbol start behind
nothing_left text at blank rest h none =
    let e = next_none text at blank rest h none in
    record { symbol_is = sym (ap (symbol_from text) e); from_is = sym (ap (start_from (reading text at)) e); to_is = sym (ap (behind_from (reading text at)) e) }

pub no_token : (text : List ℕ) (at : ℕ) (blank rest : List ℕ) → Ahead text at blank rest → 1 ≤ length rest → None ≡ token_at rest
    → IsNext text at s.Bad at at
unfolding symbol start behind
no_token text at blank rest h some t =
    let e = next_token text at blank rest None h some t in
    record { symbol_is = sym (ap (symbol_from text) e); from_is = sym (ap (start_from (reading text at)) e); to_is = sym (ap (behind_from (reading text at)) e) }

pub a_token : (text : List ℕ) (at : ℕ) (blank rest : List ℕ) (kind : TokenKind) (n : ℕ) (what : Symbol) → Ahead text at blank rest → 1 ≤ length rest
    → Some (kind, n) ≡ token_at rest → what ≡ symbol_of kind (take n rest) → IsNext text at what (at + length blank) (at + length blank + n)
unfolding symbol start behind
a_token text at blank rest kind n what h some t is =
    let from = at + length blank in
    let e = next_token text at blank rest (Some (kind, n)) h some t in
    let piece : take n rest ≡ take (from + n - from) (drop from text) = ap (take n) h.rest_is ∙ ap (λ k. take k (drop from text)) (omega arith) in
    record { symbol_is = is ∙ (ap (symbol_of kind) piece ∙ sym (ap (symbol_from text) e)); from_is = sym (ap (start_from (reading text at)) e); to_is = sym (ap (behind_from (reading text at)) e) }

lexeme_here : (text : List ℕ) (from : ℕ) (t : Option (TokenKind × ℕ)) → here_from text (lexeme_at from t) ≡ place_at text from
lexeme_here text from None = refl
lexeme_here text from (Some t) = refl

found_here : (text : List ℕ) (from : ℕ) → here_from text (next_from text from) ≡ place_at text from
found_here text from = elim (eqb_tells from (length text)) [
  | inl (p, q) ↦ simp p (ap (place_at text) (sym q))
  | inr (p, q) ↦ simp p (lexeme_here text from (token_at (drop from text)))
]

-- the place of what stands next is behind what separates
pub next_here : (text : List ℕ) (at : ℕ) (blank rest : List ℕ) → Ahead text at blank rest → place_at text (at + length blank) ≡ here (reading text at)
unfolding here
next_here text at blank rest h = sym (ap (place_at text) (start_is text at blank rest h)) ∙ sym (found_here text _)
