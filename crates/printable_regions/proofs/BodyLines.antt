-- The text of an assignment is a line of a body.
use Rattle.std.proofs.Common.{◌≡◌, ℕ, zero, suc, ◌+◌, ◌-◌, ◌≤◌, ◌==◌, true, not, List, [], ◌∷◌, ◌++◌, take, drop, Some, Ok, refl, sym, ◌∙◌, ap, subst, arith}
use Rattle.std.proofs.lemmas.List.{reverse-append}
use Rattle.std.specs.Prelude.{reverse, codes}
use Rattle.suite_base.specs.Bytes.{begins_name}
use Rattle.suite_base.specs.Words.{begins_word}
use Rattle.c_lexer.specs.declared.tokens.TokenKind.TheVariants.{Name}
use Rattle.c_lexer.specs.Tokens.{gap}
use Rattle.c_lexer.specs.Readings.{Lexeme, next, slice}
use Rattle.c_lexer.specs.TokenForms.{is_name, is_token_of}
use Rattle.c_lexer.proofs.TokenLaws.{tokens_longest}
use Rattle.scop_core.specs.Printable.{has_no, is_body_line}
use Rattle.printable_regions.proofs.Bytes.{and_first, and_second, both_hold, high_first, high_unblank, begins, no_angle, other_line}
use Rattle.printable_regions.proofs.Scans.{taken, drop_take}
use Rattle.printable_regions.proofs.Clean.{spaced, copied, Path, token_is, path_goes, clean_start, no_newline}

has_no_append : (c : ℕ) (p q : List ℕ) → has_no c p ≡ true → has_no c q ≡ true → has_no c (p ++ q) ≡ true
has_no_append c [] q f g = g
has_no_append c (b ∷ p) q f g = both_hold _ _ (and_first (not (c == b)) (has_no c p) f) (has_no_append c p q (and_second (not (c == b)) (has_no c p) f) g)

ends_in_semicolon : (text : List ℕ) → begins_word (reverse (text ++ codes ";")) ≡ true
ends_in_semicolon text = rw (reverse-append text (codes ";")) refl

-- a text that begins with a letter or `_` and copies no `#`
line_of : (b : ℕ) (more : List ℕ) → begins_name b ≡ true → has_no 35 (b ∷ more) ≡ true → has_no 10 (b ∷ more) ≡ true → is_body_line ((b ∷ more) ++ codes ";") ≡ true
line_of b more h p q =
    both_hold _ _ (both_hold _ _ (both_hold _ _ (begins b (more ++ codes ";") (high_unblank b (high_first b h))) (ends_in_semicolon (b ∷ more)))
    (both_hold _ _ (has_no_append 10 (b ∷ more) (codes ";") q refl) (has_no_append 35 (b ∷ more) (codes ";") p refl)))
    (other_line b (more ++ codes ";") (no_angle b h))

pub named_line : (n m : ℕ) (front : List ℕ) → is_name (take n front) ≡ true → n ≤ m → gap (take m front) ≡ 0 → has_no 35 (spaced (take m front)) ≡ true
    → is_body_line (spaced (take m front) ++ codes ";") ≡ true
named_line zero m front h l g c = absurd (cc)
named_line (suc n) m [] h l g c = absurd (cc)
named_line (suc n) zero (b ∷ front) h l g c = absurd (omega arith)
named_line (suc n) (suc m) (b ∷ front) h l g c =
    let more : List ℕ = take m front in
    let e : spaced (b ∷ more) ≡ b ∷ spaced more = copied b more g in
    let p : has_no 35 (b ∷ spaced more) ≡ true = subst (λ xs. has_no 35 xs ≡ true) e c in
    let q : has_no 10 (b ∷ spaced more) ≡ true = subst (λ xs. has_no 10 xs ≡ true) e (no_newline 0 (b ∷ more)) in
    subst (λ xs. is_body_line (xs ++ codes ";") ≡ true) (sym e) (line_of b (spaced more) (and_first (begins_name b) _ h) p q)

-- a piece of a front of the source that lies in the front is that piece of the source
pub same_slice : (n from to : ℕ) (bytes : List ℕ) → from ≤ to → to ≤ n → slice (take n bytes) from to ≡ slice bytes from to
same_slice n from to bytes h l =
    ap (take (to - from)) (drop_take from (n - from) n bytes (omega (arith, h, l))) ∙ taken (to - from) (n - from) (drop from bytes) (omega (arith, l))

-- what stands from a name up to the token behind a path
pub line_is : (text : List ℕ) (to at end : ℕ) (w : Lexeme) → next (record { text = text; at = at }) ≡ Ok (Some w) → w.kind ≡ Name → Path text to w.to
    → end ≡ to + gap (drop to text) → is_body_line (spaced (slice text w.from end) ++ codes ";") ≡ true
line_is text to at end w c k p e =
    let t = token_is text at w c in
    let h = path_goes text to w.to p in
    let s = clean_start text to at end (end - w.from) w c p e (omega (arith, t.to, h, e)) in
    let long : is_token_of w.kind (take t.size (drop w.from text)) ≡ true = ((tokens_longest (drop w.from text) w.kind t.size).0 t.cut).1.token in
    named_line t.size (end - w.from) (drop w.from text) (subst (λ kind. is_token_of kind (take t.size (drop w.from text)) ≡ true) k long)
    (omega (arith, t.to, h, e)) s.1 s.0
