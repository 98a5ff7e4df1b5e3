use Rattle.std.proofs.Common.{◌≡◌, ℕ, ◌+◌, ◌≤◌, Bool, List, [], ◌∷◌, length, slice_get, Option, Some, None, ap, arith, false, true, refl, ◌∙◌, sym, if◌then◌else◌, cond}
use Rattle.std.specs.Prelude.{codes}
use Rattle.std.specs.Fmt.{decimal}
use Rattle.std.specs.Str.{bytes_eq}
use Rattle.std.proofs.lemmas.List.Elements.{All-cons, All-nil}
use Rattle.std.proofs.lemmas.Fmt.{decimal_injective}
use Rattle.suite_cli.specs.Commands.{AreFileWords, Command, Audit, Candl, Chlore, Clan, Clay, Demo, HasLoops, IsLoopWord, IsNoCommand, Scop, Words, is_file_word, is_input, words_of}

some_is : (xs ys : List ℕ) → Some xs ≡ Some ys → xs ≡ ys
some_is xs ys e = cc

-- a list of two by its entries
pub two_words : (ws : List (List ℕ)) (a b : List ℕ) → length ws ≡ 2 → slice_get ws 0 ≡ Some a → slice_get ws 1 ≡ Some b → ws ≡ a ∷ (b ∷ [])
two_words [] a b l e f = absurd (omega arith)
two_words (x ∷ []) a b l e f = absurd (omega arith)
two_words (x ∷ (y ∷ [])) a b l e f = let p : x ≡ a = some_is x a e in let q : y ≡ b = some_is y b f in cc
two_words (x ∷ (y ∷ (z ∷ more))) a b l e f = absurd (omega arith)

pub three_words : (ws : List (List ℕ)) (a b d : List ℕ) → length ws ≡ 3 → slice_get ws 0 ≡ Some a → slice_get ws 1 ≡ Some b → slice_get ws 2 ≡ Some d → ws ≡ a ∷ (b ∷ (d ∷ []))
three_words [] a b d l e f g = absurd (omega arith)
three_words (x ∷ []) a b d l e f g = absurd (omega arith)
three_words (x ∷ (y ∷ [])) a b d l e f g = absurd (omega arith)
three_words (x ∷ (y ∷ (z ∷ []))) a b d l e f g = let p : x ≡ a = some_is x a e in let q : y ≡ b = some_is y b f in let r : z ≡ d = some_is z d g in cc
three_words (x ∷ (y ∷ (z ∷ (w ∷ more)))) a b d l e f g = absurd (omega arith)

-- a word that names a file is one file word
count_one : (b : Bool) → 0 + cond b 1 0 ≤ 1
count_one true = omega arith
count_one false = omega arith

pub one_file : (file : List ℕ) → is_file_word file ≡ true → AreFileWords (file ∷ [])
one_file file e = record {
  each = All-cons (λ word. is_file_word word ≡ true) file [] e (All-nil (λ word. is_file_word word ≡ true));
  once = count_one (is_input file);
}

-- a command without its number of loops
abbrev without_loops : Command → Command
without_loops (Demo loops) = Demo 0
without_loops command = command

-- the command that words are, without its number of loops
command_in : List (List ℕ) → Option Command
command_in (name ∷ (file ∷ [])) = if bytes_eq name (codes "clan") then Some (Clan file) else if bytes_eq name (codes "scop") then Some (Scop file) else if bytes_eq name (codes "candl") then Some (Candl file) else if bytes_eq name (codes "audit") then Some (Audit file) else if bytes_eq name (codes "demo") then Some (Demo 0) else None
command_in (name ∷ (first ∷ (second ∷ []))) = if bytes_eq name (codes "clay") then Some (Clay first second) else if bytes_eq name (codes "chlore") then Some (Chlore first second) else None
command_in words = None

read_back : (command : Command) → command_in (words_of command) ≡ Some (without_loops command)
unfolding command_in
read_back (Clan file) = refl
read_back (Scop file) = refl
read_back (Candl file) = refl
read_back (Audit file) = refl
read_back (Clay script file) = refl
read_back (Chlore original target) = refl
read_back (Demo loops) = refl

some_command : (a b : Command) → Some a ≡ Some b → a ≡ b
some_command a b e = cc

second_word : (a b x y : List ℕ) → a ∷ (x ∷ []) ≡ b ∷ (y ∷ []) → x ≡ y
second_word a b x y e = cc

same_loops : (i j : ℕ) → HasLoops (Demo i) → HasLoops (Demo j) → words_of (Demo i) ≡ words_of (Demo j) → i ≡ j
same_loops i j h g e =
    let le = h.1 in
    let le_too = g.1 in
    decimal_injective i j (omega (arith, le)) (omega (arith, le_too)) (second_word (codes "demo") (codes "demo") (decimal i) (decimal j) e)

-- commands of the same words are the same, their numbers of loops too
same_command : (a b : Command) → HasLoops a → HasLoops b → words_of a ≡ words_of b → without_loops a ≡ without_loops b → a ≡ b
same_command (Demo i) (Demo j) h g words e = ap Demo (same_loops i j h g words)
same_command (Demo i) b h g words e = absurd (cc)
same_command a (Demo j) h g words e = absurd (cc)
same_command a b h g words e = e

-- words are one command
pub one_command : (words : List (List ℕ)) (a b : Command) → Words words a → Words words b → a ≡ b
one_command words a b v w =
    let kind : without_loops a ≡ without_loops b =
    some_command (without_loops a) (without_loops b) (sym (read_back a) ∙ ap command_in (sym v.words_are ∙ w.words_are) ∙ read_back b) in
    same_command a b v.loops w.loops (sym v.words_are ∙ w.words_are) kind

-- the words of a demo without a number of loops
demo_kind : (word : List ℕ) → command_in (codes "demo" ∷ (word ∷ [])) ≡ Some (Demo 0)
unfolding command_in
demo_kind word = refl

no_other : (word : List ℕ) (command : Command) → Demo 0 ≡ without_loops command → ((k : ℕ) → ¬ IsLoopWord word k) → ¬ Words (codes "demo" ∷ (word ∷ [])) command
no_other word (Demo k) e none w = none k (record { count = w.loops; digits = second_word (codes "demo") (codes "demo") word (decimal k) w.words_are })
no_other word command e none w = absurd (cc)

pub no_demo : (word : List ℕ) → ((k : ℕ) → ¬ IsLoopWord word k) → IsNoCommand (codes "demo" ∷ (word ∷ []))
no_demo word none command w =
    no_other word command (some_command (Demo 0) (without_loops command) (sym (demo_kind word) ∙ ap command_in w.words_are ∙ read_back command)) none w

no_command : (words : List (List ℕ)) → command_in words ≡ None → IsNoCommand words
no_command words e command w = let some : command_in words ≡ Some (without_loops command) = ap command_in w.words_are ∙ read_back command in absurd (cc)

none_named : (name file : List ℕ) → bytes_eq name (codes "clan") ≡ false → bytes_eq name (codes "scop") ≡ false → bytes_eq name (codes "candl") ≡ false
    → bytes_eq name (codes "audit") ≡ false → bytes_eq name (codes "demo") ≡ false → command_in (name ∷ (file ∷ [])) ≡ None
unfolding command_in
none_named name file a b c d e = rw (a, b, c, d, e) refl

pub no_named : (name file : List ℕ) → bytes_eq name (codes "clan") ≡ false → bytes_eq name (codes "scop") ≡ false → bytes_eq name (codes "candl") ≡ false
    → bytes_eq name (codes "audit") ≡ false → bytes_eq name (codes "demo") ≡ false → IsNoCommand (name ∷ (file ∷ []))
no_named name file a b c d e = no_command (name ∷ (file ∷ [])) (none_named name file a b c d e)
