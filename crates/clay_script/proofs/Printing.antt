-- The tokens of a printed script are those of the script.
use Rattle.std.proofs.Common.{◌≡◌, ℕ, zero, suc, ◌-◌, ◌<◌, ◌≤◌, ◌^◌, Bool, true, false, cond, ◌==◌, inl, inr, List, [], ◌∷◌, ◌++◌, map, take, length, Some, ℤ, pos, negsuc, unsigned_abs, nat_le, refl, sym, ap, ◌∙◌, append_assoc, arith}
use Rattle.std.specs.Prelude.{codes}
use Rattle.std.specs.List.{flat_map, prefix_len}
use Rattle.std.specs.Fmt.{decimal, signed_decimal}
use Rattle.suite_base.specs.declared.places.Place.{Place}
use Rattle.suite_base.specs.declared.numbers.NumberRead.TheVariants.{Value}
use Rattle.suite_base.specs.Numbers.{is_digit, all_digits, are_digits, number_read}
use Rattle.suite_base.proofs.LineCuts.{bool_tells}
use Rattle.suite_base.proofs.NumberLaws.{decimal_digits, signed_decimal_reads}
use Rattle.row_core.specs.Rows.{AreCoefficients}
use Rattle.std.proofs.Math.Seq.{take-append_seam}
use Rattle.std.proofs.lemmas.Bool.{leb-true, eqb-true, and_parts}
use Rattle.std.proofs.lemmas.Int.{ints}
use Rattle.clay_script.specs.declared.tokens.Token.{Token}
use Rattle.clay_script.specs.declared.tokens.Token.TheVariants.{Name, Number, OpenRound, CloseRound, OpenSquare, CloseSquare, Comma, Semicolon, End}
use Rattle.clay_script.specs.declared.tokens.Lexeme.{Lexeme}
use Rattle.clay_script.specs.declared.command_names.CommandName.{CommandName}
use Rattle.clay_script.specs.declared.command_names.CommandName.TheVariants.{Fission, Fuse, Reorder, Interchange, Skew, Shift, Reverse, Stripmine, Tile, Iss}
use Rattle.clay_script.specs.declared.commands.Command.{Command}
use Rattle.clay_script.specs.Names.{letters_of}
use Rattle.clay_script.specs.Commands.{Argument, OneNumber, OneVector, name_of, prefix_of, more_of, arguments_of}
use Rattle.suite_base.specs.Bytes.{is_letter}
use Rattle.suite_base.specs.Places.{after_byte, first_place}
use Rattle.clay_script.specs.Lexemes.{is_gap, begins_number, number_token, token_of, token_length, line_length, lexemes}
use Rattle.clay_script.specs.Layout.{behind_comma, comma_joined, vector_text, argument_text, command_text, layout, FitsArgument, FitArguments, FitCommands}
use Rattle.clay_script.specs.Grammar.{after_comma, one_number, separated, vector_tokens, argument_tokens, command_tokens, script_tokens, tokens_of, IsScript}

-- the tokens of a text, without their places; the first bytes belong to what stands before it
abbrev pub plain : ℕ → List ℕ → List Token
plain skip [] = End ∷ []
plain (suc skip) (b ∷ rest) = plain skip rest
plain zero (b ∷ rest) =
    cond (is_gap b) (plain 0 rest)
    (cond (b == 35) (plain (line_length rest) rest)
    (token_of (take (token_length (b ∷ rest)) (b ∷ rest)) ∷ plain (token_length (b ∷ rest) - 1) rest))

tokens_choice : (b : Bool) (x y : List Lexeme) → tokens_of (cond b x y) ≡ cond b (tokens_of x) (tokens_of y)
tokens_choice true x y = refl
tokens_choice false x y = refl

plain_choice : (b : Bool) (x y v w : List Token) → x ≡ v → y ≡ w → cond b x y ≡ cond b v w
plain_choice true x y v w e f = e
plain_choice false x y v w e f = f

pub plain_is : (skip : ℕ) (at : Place) (s : List ℕ) → tokens_of (lexemes skip at s) ≡ plain skip s
plain_is skip at [] = refl
plain_is (suc skip) at (b ∷ rest) = plain_is skip (after_byte at b) rest
plain_is zero at (b ∷ rest) =
    let token : Lexeme = record { token = token_of (take (token_length (b ∷ rest)) (b ∷ rest)); place = at } in
    let later : List Lexeme = token ∷ lexemes (token_length (b ∷ rest) - 1) (after_byte at b) rest in
    tokens_choice (is_gap b) (lexemes 0 (after_byte at b) rest) (cond (b == 35) (lexemes (line_length rest) (after_byte at b) rest) later)
    ∙ plain_choice (is_gap b) _ _ _ _ (plain_is 0 (after_byte at b) rest)
    (tokens_choice (b == 35) (lexemes (line_length rest) (after_byte at b) rest) later
    ∙ plain_choice (b == 35) _ _ _ _ (plain_is (line_length rest) (after_byte at b) rest)
    (ap (λ (l : List Token). token.token ∷ l) (plain_is (token_length (b ∷ rest) - 1) (after_byte at b) rest)))

plain_past : (word rest : List ℕ) → plain (length word) (word ++ rest) ≡ plain 0 rest
plain_past [] rest = refl
plain_past (b ∷ word) rest = plain_past word rest

-- ---- names

pub name_first : (n : CommandName) (rest : List ℕ) → plain 0 (letters_of n ++ codes "(" ++ rest) ≡ Name (Some n) ∷ OpenRound ∷ plain 0 rest
name_first Fission rest = refl
name_first Fuse rest = refl
name_first Reorder rest = refl
name_first Interchange rest = refl
name_first Skew rest = refl
name_first Shift rest = refl
name_first Reverse rest = refl
name_first Stripmine rest = refl
name_first Tile rest = refl
name_first Iss rest = refl

-- ---- signs

comma_first : (rest : List ℕ) → plain 0 (codes ", " ++ rest) ≡ Comma ∷ plain 0 rest
comma_first rest = refl

ending_first : (rest : List ℕ) → plain 0 (codes ");\n" ++ rest) ≡ CloseRound ∷ Semicolon ∷ plain 0 rest
ending_first rest = refl

-- ---- numbers

test_not : (a b : ℕ) → b < a → nat_le a b ≡ false
test_not a b h =
    elim (bool_tells (nat_le a b)) [
      | inl e ↦ absurd (omega (arith, leb-true a b e))
      | inr e ↦ e
    ]

differ : (a b : ℕ) → (a ≡ b → ⊥) → (a == b) ≡ false
differ a b other =
    elim (bool_tells (a == b)) [
      | inl e ↦ absurd (other (eqb-true a b e))
      | inr e ↦ e
    ]

-- what begins a number begins nothing else
record BeginsNumber (b : ℕ) : Type 0 where
  letter : is_letter b ≡ false
  gap : is_gap b ≡ false
  comment : (b == 35) ≡ false
  number : begins_number b ≡ true

digit_begins : (b : ℕ) → is_digit b ≡ true → BeginsNumber b
digit_begins b h =
    let parts = and_parts (nat_le 48 b) (nat_le b 57) h in
    let low : 48 ≤ b = leb-true 48 b parts.0 in
    let high : b ≤ 57 = leb-true b 57 parts.1 in
    record {
      letter = rw (test_not 97 b (omega arith), test_not 65 b (omega arith)) refl;
      gap = rw (differ b 32 (λ e. omega arith), differ b 9 (λ e. omega arith), differ b 13 (λ e. omega arith), differ b 10 (λ e. omega arith)) refl;
      comment = differ b 35 (λ e. omega arith);
      number = rw h refl;
    }

minus_begins : BeginsNumber 45
minus_begins = record { letter = refl; gap = refl; comment = refl; number = refl }

digits_all : (w rest : List ℕ) → all_digits w ≡ true → prefix_len is_digit rest ≡ 0 → prefix_len is_digit (w ++ rest) ≡ length w
digits_all [] rest h e = e
digits_all (b ∷ w) rest h e =
    let parts = and_parts (is_digit b) (all_digits w) h in
    rw parts.0 (omega (arith, digits_all w rest parts.1 e))

word_first : (b : ℕ) (w rest : List ℕ) → is_gap b ≡ false → (b == 35) ≡ false → token_length (b ∷ (w ++ rest)) ≡ suc (length w) → plain 0 (b ∷ (w ++ rest)) ≡ token_of (b ∷ w) ∷ plain 0 rest
word_first b w rest gap comment size =
    let begins : plain 0 (b ∷ (w ++ rest)) ≡ token_of (take (token_length (b ∷ (w ++ rest))) (b ∷ (w ++ rest))) ∷ plain (token_length (b ∷ (w ++ rest)) - 1) (w ++ rest) = rw (gap, comment) refl in
    let less : suc (length w) - 1 ≡ length w = omega arith in
    begins ∙ (ap (λ n. token_of (take n (b ∷ (w ++ rest))) ∷ plain (n - 1) (w ++ rest)) size
    ∙ (ap (λ (l : List ℕ). token_of (b ∷ l) ∷ plain (suc (length w) - 1) (w ++ rest)) (take-append_seam w rest)
    ∙ ap (λ (l : List Token). token_of (b ∷ w) ∷ l) (ap (λ n. plain n (w ++ rest)) less ∙ plain_past w rest)))

number_word_first : (b : ℕ) (w rest : List ℕ) (z : ℤ) → BeginsNumber b → all_digits w ≡ true → prefix_len is_digit rest ≡ 0 → number_read (b ∷ w) ≡ Value z
    → plain 0 (b ∷ (w ++ rest)) ≡ Number z ∷ plain 0 rest
number_word_first b w rest z begins digits ends reads =
    let size : token_length (b ∷ (w ++ rest)) ≡ suc (length w) = rw (begins.letter, begins.number) (omega (arith, digits_all w rest digits ends)) in
    let token : token_of (b ∷ w) ≡ Number z = rw (begins.letter, begins.number) (ap number_token reads) in
    word_first b w rest begins.gap begins.comment size ∙ ap (λ (k : Token). k ∷ plain 0 rest) token

unsigned_first : (ds rest : List ℕ) (z : ℤ) → are_digits ds ≡ true → prefix_len is_digit rest ≡ 0 → number_read ds ≡ Value z → plain 0 (ds ++ rest) ≡ Number z ∷ plain 0 rest
unsigned_first [] rest z digits ends reads = absurd (let bad : false ≡ true = digits in cc)
unsigned_first (b ∷ ds) rest z digits ends reads =
    let parts = and_parts (is_digit b) (all_digits ds) digits in
    number_word_first b ds rest z (digit_begins b parts.0) parts.1 ends reads

digits_only : (ds : List ℕ) → are_digits ds ≡ true → all_digits ds ≡ true
digits_only [] h = refl
digits_only (b ∷ ds) h = h

number_first : (z : ℤ) (rest : List ℕ) → unsigned_abs z < 2 ^ 127 → prefix_len is_digit rest ≡ 0 → plain 0 (signed_decimal z ++ rest) ≡ Number z ∷ plain 0 rest
number_first (pos n) rest h ends = unsigned_first (decimal n) rest (pos n) (decimal_digits n (omega (arith, ints))).digits ends (signed_decimal_reads (pos n) h)
number_first (negsuc n) rest h ends =
    number_word_first 45 (decimal (suc n)) rest (negsuc n) minus_begins (digits_only (decimal (suc n)) (decimal_digits (suc n) (omega (arith, ints))).digits) ends (signed_decimal_reads (negsuc n) h)

-- ---- vectors

later_fit : (z : ℤ) (zs : List ℤ) → AreCoefficients (z ∷ zs) → AreCoefficients zs
later_fit z zs fit = record { bound = λ k. fit.bound (suc k) }

numbers_end : (zs : List ℤ) (rest : List ℕ) → prefix_len is_digit (flat_map behind_comma (map signed_decimal zs) ++ 93 ∷ rest) ≡ 0
numbers_end [] rest = refl
numbers_end (z ∷ zs) rest = refl

numbers_first : (zs : List ℤ) (rest : List ℕ) → AreCoefficients zs
    → plain 0 (flat_map behind_comma (map signed_decimal zs) ++ 93 ∷ rest) ≡ flat_map after_comma (map one_number zs) ++ CloseSquare ∷ plain 0 rest
numbers_first [] rest fit = refl
numbers_first (z ∷ zs) rest fit =
    let left : List ℕ = flat_map behind_comma (map signed_decimal zs) ++ 93 ∷ rest in
    let parts : flat_map behind_comma (map signed_decimal (z ∷ zs)) ++ 93 ∷ rest ≡ codes ", " ++ (signed_decimal z ++ left) = simp append_assoc in
    ap (plain 0) parts ∙ (comma_first (signed_decimal z ++ left)
    ∙ ap (λ (l : List Token). Comma ∷ l) (number_first z left (fit.bound 0) (numbers_end zs rest) ∙ ap (λ (l : List Token). Number z ∷ l) (numbers_first zs rest (later_fit z zs fit))))

items_first : (zs : List ℤ) (rest : List ℕ) → AreCoefficients zs → plain 0 (comma_joined (map signed_decimal zs) ++ 93 ∷ rest) ≡ separated (map one_number zs) ++ CloseSquare ∷ plain 0 rest
items_first [] rest fit = refl
items_first (z ∷ zs) rest fit =
    let left : List ℕ = flat_map behind_comma (map signed_decimal zs) ++ 93 ∷ rest in
    ap (plain 0) (append_assoc (signed_decimal z) (flat_map behind_comma (map signed_decimal zs)) (93 ∷ rest))
    ∙ (number_first z left (fit.bound 0) (numbers_end zs rest) ∙ ap (λ (l : List Token). Number z ∷ l) (numbers_first zs rest (later_fit z zs fit)))

vector_first : (zs : List ℤ) (rest : List ℕ) → AreCoefficients zs → plain 0 (vector_text zs ++ rest) ≡ vector_tokens zs ++ plain 0 rest
vector_first zs rest fit =
    let parts : vector_text zs ++ rest ≡ 91 ∷ (comma_joined (map signed_decimal zs) ++ 93 ∷ rest) = simp append_assoc in
    let opened : plain 0 (91 ∷ (comma_joined (map signed_decimal zs) ++ 93 ∷ rest)) ≡ OpenSquare ∷ plain 0 (comma_joined (map signed_decimal zs) ++ 93 ∷ rest) = refl in
    ap (plain 0) parts ∙ (opened ∙ ap (λ (l : List Token). OpenSquare ∷ l) (items_first zs rest fit ∙ sym (append_assoc (separated (map one_number zs)) (CloseSquare ∷ []) (plain 0 rest))))

-- ---- arguments and commands

argument_first : (x : Argument) (rest : List ℕ) → FitsArgument x → prefix_len is_digit rest ≡ 0 → plain 0 (argument_text x ++ rest) ≡ argument_tokens x ++ plain 0 rest
argument_first (OneNumber z) rest fit ends = number_first z rest fit ends
argument_first (OneVector zs) rest fit ends = vector_first zs rest fit

more_end : (xs : List Argument) (rest : List ℕ) → prefix_len is_digit (flat_map behind_comma (map argument_text xs) ++ (codes ");\n" ++ rest)) ≡ 0
more_end [] rest = refl
more_end (x ∷ xs) rest = refl

abbrev ending : List ℕ → List Token
ending rest = CloseRound ∷ Semicolon ∷ plain 0 rest

more_first : (xs : List Argument) (rest : List ℕ) → FitArguments xs
    → plain 0 (flat_map behind_comma (map argument_text xs) ++ (codes ");\n" ++ rest)) ≡ flat_map after_comma (map argument_tokens xs) ++ ending rest
more_first [] rest fit = refl
more_first (x ∷ xs) rest fit =
    let left : List ℕ = flat_map behind_comma (map argument_text xs) ++ (codes ");\n" ++ rest) in
    let parts : flat_map behind_comma (map argument_text (x ∷ xs)) ++ (codes ");\n" ++ rest) ≡ codes ", " ++ (argument_text x ++ left) = append_assoc (behind_comma (argument_text x)) (flat_map behind_comma (map argument_text xs)) (codes ");\n" ++ rest) in
    ap (plain 0) parts ∙ (comma_first (argument_text x ++ left)
    ∙ ap (λ (l : List Token). Comma ∷ l) (argument_first x left fit.0 (more_end xs rest) ∙ (ap (λ (l : List Token). argument_tokens x ++ l) (more_first xs rest fit.1)
    ∙ sym (append_assoc (argument_tokens x) (flat_map after_comma (map argument_tokens xs)) (ending rest)))))

list_first : (x : Argument) (xs : List Argument) (rest : List ℕ) → FitArguments (x ∷ xs)
    → plain 0 (comma_joined (map argument_text (x ∷ xs)) ++ (codes ");\n" ++ rest)) ≡ separated (map argument_tokens (x ∷ xs)) ++ ending rest
list_first x xs rest fit =
    let left : List ℕ = flat_map behind_comma (map argument_text xs) ++ (codes ");\n" ++ rest) in
    ap (plain 0) (append_assoc (argument_text x) (flat_map behind_comma (map argument_text xs)) (codes ");\n" ++ rest))
    ∙ (argument_first x left fit.0 (more_end xs rest) ∙ (ap (λ (l : List Token). argument_tokens x ++ l) (more_first xs rest fit.1)
    ∙ sym (append_assoc (argument_tokens x) (flat_map after_comma (map argument_tokens xs)) (ending rest))))

command_first : (c : Command) (rest : List ℕ) → FitArguments (arguments_of c) → plain 0 (command_text c ++ rest) ≡ command_tokens c ++ plain 0 rest
command_first c rest fit =
    let joined : List ℕ = comma_joined (map argument_text (arguments_of c)) in
    let parts : command_text c ++ rest ≡ letters_of (name_of c) ++ codes "(" ++ (joined ++ (codes ");\n" ++ rest)) =
    append_assoc (letters_of (name_of c) ++ codes "(" ++ joined) (codes ");\n") rest ∙ append_assoc (letters_of (name_of c) ++ codes "(") joined (codes ");\n" ++ rest) in
    ap (plain 0) parts ∙ (name_first (name_of c) (joined ++ (codes ");\n" ++ rest))
    ∙ ap (λ (l : List Token). Name (Some (name_of c)) ∷ OpenRound ∷ l)
    (list_first (OneVector (prefix_of c)) (more_of c) rest fit ∙ sym (append_assoc (separated (map argument_tokens (arguments_of c))) (CloseRound ∷ Semicolon ∷ []) (plain 0 rest))))

script_first : (cs : List Command) → FitCommands cs → plain 0 (layout cs) ≡ script_tokens cs
script_first [] fit = refl
script_first (c ∷ cs) fit =
    command_first c (layout cs) fit.0 ∙ (ap (λ (l : List Token). command_tokens c ++ l) (script_first cs fit.1)
    ∙ sym (append_assoc (command_tokens c) (flat_map command_tokens cs) (End ∷ [])))

-- a printed script is a text of the script
pub printed : (cs : List Command) → FitCommands cs → IsScript (layout cs) cs
printed cs fit = plain_is 0 first_place (layout cs) ∙ script_first cs fit
