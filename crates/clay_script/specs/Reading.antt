-- Reading a script from left to right, with the first fault that is met.
use Rattle.std.specs.Prelude.{◌≡◌, ℕ, zero, suc, Bool, true, false, List, [], ◌∷◌, ◌++◌, Option, Some, None, Result, Ok, Err, ℤ, if◌then◌else◌}
use Rattle.suite_base.specs.Results as results
use Rattle.suite_base.specs.declared.places.Place.{Place}
use Rattle.suite_base.specs.declared.refusals.Refusal.{Refusal}
use Rattle.suite_base.specs.declared.refusals.Refusal.TheVariants.{BadScript, NumberTooLarge, Limit}
use Rattle.suite_base.specs.declared.refusals.Which.TheVariants.{Commands}
use Rattle.suite_base.specs.declared.refusals.Fail.{Fail}
use Rattle.suite_base.specs.declared.refusals.Fail.TheVariants.{Memory, Refused}
use Rattle.clay_script.specs.declared.tokens.Token.{Token}
use Rattle.clay_script.specs.declared.tokens.Token.TheVariants.{Name, Number, TooLarge, OpenRound, CloseRound, OpenSquare, CloseSquare, Comma, Semicolon, End}
use Rattle.clay_script.specs.declared.tokens.Lexeme.{Lexeme}
use Rattle.clay_script.specs.declared.command_names.CommandName.{CommandName}
use Rattle.clay_script.specs.declared.commands.Command.{Command}
use Rattle.clay_script.specs.Commands.{Kind, ANumber, AVector, Argument, OneNumber, OneVector, kinds_of, command_of}

infixl 10 ◌>>=◌
abbrev pub ◌>>=◌ : {A B : Type 0} → Result A Refusal → (A → Result B Refusal) → Result B Refusal
r >>= f = results.and_then r f

-- the refusal for a token that stands at a place where it may not
abbrev pub fault_of : Token → Place → Refusal
fault_of TooLarge at = NumberTooLarge at
fault_of other at = BadScript at

-- the refusal for a text that ends before its end; no text does
abbrev pub ended : Refusal
ended = BadScript (record { line = 0; column = 0 })

-- both are the same sign
abbrev pub same_sign : Token → Token → Bool
same_sign OpenRound OpenRound = true
same_sign CloseRound CloseRound = true
same_sign OpenSquare OpenSquare = true
same_sign CloseSquare CloseSquare = true
same_sign Comma Comma = true
same_sign Semicolon Semicolon = true
same_sign wanted found = false

-- a wanted sign; the tokens after it are left
abbrev pub sign_at : Token → List Lexeme → Result (List Lexeme) Refusal
sign_at wanted [] = Err ended
sign_at wanted (t ∷ ts) = if same_sign wanted t.token then Ok ts else Err (fault_of t.token t.place)

abbrev pub number_of : {X : Type 0} → Token → Place → (ℤ → Result X Refusal) → Result X Refusal
number_of (Number z) at next = next z
number_of other at next = Err (fault_of other at)

-- a number, and the tokens after it
abbrev pub number_at : List Lexeme → Result (ℤ × List Lexeme) Refusal
number_at [] = Err ended
number_at (t ∷ ts) = number_of t.token t.place (λ z. Ok (z, ts))

abbrev pub separator_of : {X : Type 0} → Token → Place → Result X Refusal → Result X Refusal → Result X Refusal
separator_of CloseSquare at done more = done
separator_of Comma at done more = more
separator_of other at done more = Err (fault_of other at)

-- what follows a number of a vector: a comma, after which more comes, or `]`
abbrev pub separator_at : List Lexeme → Result (Bool × List Lexeme) Refusal
separator_at [] = Err ended
separator_at (t ∷ ts) = separator_of t.token t.place (Ok (false, ts)) (Ok (true, ts))

-- what was read before, and what is still read
abbrev pub with_front : List ℤ → Result (List ℤ × List Lexeme) Refusal → Result (List ℤ × List Lexeme) Refusal
with_front front read = read >>= λ x. Ok (front ++ x.0, x.1)

abbrev pub with_number : ℤ → Result (List ℤ × List Lexeme) Refusal → Result (List ℤ × List Lexeme) Refusal
with_number z read = read >>= λ x. Ok (z ∷ x.0, x.1)

-- what follows a number of a vector: `]`, or a comma, a number and what follows that
unfoldable pub numbers_at : List Lexeme → Result (List ℤ × List Lexeme) Refusal
numbers_at [] = Err ended
numbers_at (t ∷ []) = separator_of t.token t.place (Ok ([], [])) (Err ended)
numbers_at (t ∷ u ∷ ts) = separator_of t.token t.place (Ok ([], u ∷ ts)) (number_of u.token u.place (λ z. with_number z (numbers_at ts)))

abbrev pub first_number_of : Token → Place → List Lexeme → Result (List ℤ × List Lexeme) Refusal
first_number_of CloseSquare at ts = Ok ([], ts)
first_number_of (Number z) at ts = with_number z (numbers_at ts)
first_number_of other at ts = Err (fault_of other at)

-- what follows the `[` of a vector
abbrev pub items_at : List Lexeme → Result (List ℤ × List Lexeme) Refusal
items_at [] = Err ended
items_at (t ∷ ts) = first_number_of t.token t.place ts

-- a vector, and the tokens after it
unfoldable pub vector_at : List Lexeme → Result (List ℤ × List Lexeme) Refusal
vector_at ts = sign_at OpenSquare ts >>= items_at

-- a comma and a number
unfoldable pub next_number_at : List Lexeme → Result (ℤ × List Lexeme) Refusal
next_number_at ts = sign_at Comma ts >>= number_at

-- a comma and a vector
unfoldable pub next_vector_at : List Lexeme → Result (List ℤ × List Lexeme) Refusal
next_vector_at ts = sign_at Comma ts >>= vector_at

-- arguments of these kinds, each after a comma
abbrev pub more_at : List Kind → List Lexeme → Result (List Argument × List Lexeme) Refusal
more_at [] ts = Ok ([], ts)
more_at (ANumber ∷ kinds) ts = next_number_at ts >>= λ z. more_at kinds z.1 >>= λ more. Ok (OneNumber z.0 ∷ more.0, more.1)
more_at (AVector ∷ kinds) ts = next_vector_at ts >>= λ v. more_at kinds v.1 >>= λ more. Ok (OneVector v.0 ∷ more.0, more.1)

-- the arguments of a command of this name after its prefix
abbrev pub rest_at : CommandName → List ℤ → List Lexeme → Result (Command × List Lexeme) Refusal
rest_at name p ts = more_at (kinds_of name) ts >>= λ more. Ok (command_of name p more.0, more.1)

-- the arguments of a command of this name
unfoldable pub arguments_at : CommandName → List Lexeme → Result (Command × List Lexeme) Refusal
arguments_at name ts = vector_at ts >>= λ p. rest_at name p.0 p.1

-- what follows the name of a command
unfoldable pub command_at : CommandName → List Lexeme → Result (Command × List Lexeme) Refusal
command_at name ts = sign_at OpenRound ts >>= λ a. arguments_at name a >>= λ c. sign_at CloseRound c.1 >>= λ b. sign_at Semicolon b >>= λ d. Ok (c.0, d)

abbrev pub with_command : Command → Result (List Command) Refusal → Result (List Command) Refusal
with_command c read = read >>= λ cs. Ok (c ∷ cs)

-- the name of the next command, or none at the end of the text
abbrev pub name_of_token : Token → Place → List Lexeme → Result (Option CommandName × List Lexeme) Refusal
name_of_token End at ts = Ok (None, [])
name_of_token (Name (Some name)) at ts = Ok (Some name, ts)
name_of_token other at ts = Err (fault_of other at)

abbrev pub name_at : List Lexeme → Result (Option CommandName × List Lexeme) Refusal
name_at [] = Err ended
name_at (t ∷ ts) = name_of_token t.token t.place ts

-- what a token begins, where a command or the end may come
abbrev pub head_of : Token → Place → (CommandName → Result (List Command) Refusal) → Result (List Command) Refusal
head_of End at next = Ok []
head_of (Name (Some name)) at next = next name
head_of other at next = Err (fault_of other at)

-- a command and those after it, where none is left to come: one too many
abbrev pub too_many : Result (List Command) Refusal
too_many = Err (Limit Commands 0)

-- the commands of a text, of which at most n may come
unfoldable pub commands_at : ℕ → List Lexeme → Result (List Command) Refusal
commands_at zero [] = Err ended
commands_at zero (t ∷ ts) = head_of t.token t.place (λ name. too_many)
commands_at (suc n) [] = Err ended
commands_at (suc n) (t ∷ ts) = head_of t.token t.place (λ name. command_at name ts >>= λ c. with_command c.0 (commands_at n c.1))

-- A call answered what reading gives, and these tokens are left, unless memory ran out.
abbrev pub Fails : {Y : Type 0} → Fail → Result Y Refusal → Type 0
Fails Memory read = Unit {0}
Fails (Refused r) read = read ≡ Err r

abbrev pub Gives : {X : Type 0} → Result X Fail → List Lexeme → Result (X × List Lexeme) Refusal → Type 0
Gives (Ok x) left read = read ≡ Ok (x, left)
Gives (Err e) left read = Fails e read

abbrev pub Passes : {U : Type 0} → Result U Fail → List Lexeme → Result (List Lexeme) Refusal → Type 0
Passes (Ok u) left read = read ≡ Ok left
Passes (Err e) left read = Fails e read

abbrev pub Answers : {X : Type 0} → Result X Fail → Result X Refusal → Type 0
Answers (Ok x) read = read ≡ Ok x
Answers (Err e) read = Fails e read

abbrev pub NextName : Result (Option CommandName) Fail → List Lexeme → Result (Option CommandName × List Lexeme) Refusal → Type 0
NextName (Ok (Some name)) left read = read ≡ Ok (Some name, left)
NextName (Ok None) left read = read ≡ Ok (None, [])
NextName (Err e) left read = Fails e read

-- the commands that were read before, and those that are still read
abbrev pub with_commands : List Command → Result (List Command) Refusal → Result (List Command) Refusal
with_commands front read = read >>= λ cs. Ok (front ++ cs)
