-- Worked words: which name a file, which command they are, and how two files are read.
use Rattle.std.proofs.Common.{◌≡◌, inl, inr, ℕ, ◌++◌, true, false, Some, List, [], ◌∷◌, refl, arith}
use Rattle.std.specs.Prelude.{codes}
use Rattle.std.specs.Fmt.{digits}
use Rattle.std.specs.List.{count_by}
use Rattle.std.proofs.lemmas.List.Elements.{All-nil}
use Rattle.suite_cli.specs.Commands.{Clan, Demo, Scop, Words, files_of, has_input, has_no_name, is_file_word, is_input}
use Rattle.suite_cli.specs.Reads.{AreRead, HasReadFault, IsTooLong, ReadWhole}
use Rattle.suite_cli.specs.Worlds.{Inputs}
use Rattle.suite_cli.proofs.WordLists.{one_file}

input_word : is_input (codes "-") ≡ true
input_word = refl

names_input : is_file_word (codes "-") ≡ true
names_input = refl

names_file : is_file_word (codes "a-b.c") ≡ true
names_file = refl

names_nothing : is_file_word [] ≡ false
names_nothing = refl

names_option : is_file_word (codes "-x") ≡ false
names_option = refl

clan_words : Words (codes "clan" ∷ (codes "a.c" ∷ [])) (Clan (codes "a.c"))
clan_words = record { words_are = refl; files = one_file (codes "a.c") refl; loops = tt }

scop_words : Words (codes "scop" ∷ (codes "-" ∷ [])) (Scop (codes "-"))
scop_words = record { words_are = refl; files = one_file (codes "-") refl; loops = tt }

demo_words : Words (codes "demo" ∷ (codes "32" ∷ [])) (Demo 32)
unfolding digits
demo_words = record {
  words_are = refl;
  files = record { each = All-nil (λ word. is_file_word word ≡ true); once = omega arith };
  loops = (omega arith, omega arith);
}

-- no file is at a place of none
none_in_none : (earlier later : List (List ℕ)) (file : List ℕ) → ¬ ([] ≡ earlier ++ file ∷ later)
none_in_none [] later file e = absurd (cc)
none_in_none (x ∷ earlier) later file e = absurd (cc)

-- so a demo has no read fault, and is refused for no file's length
demo_has_no_read_fault : (loops : ℕ) (before now : Inputs) → ¬ HasReadFault before now (files_of (Demo loops))
demo_has_no_read_fault loops before now h = none_in_none h.1.earlier h.1.later h.1.file h.1.files_are

demo_is_never_too_long : (loops place : ℕ) (before now : Inputs) → ¬ IsTooLong before now (files_of (Demo loops)) place
demo_is_never_too_long loops place before now h = none_in_none h.earlier h.later h.file h.files_are

-- standard input twice, which no command may name
input_twice : count_by is_input (codes "-" ∷ (codes "-" ∷ [])) ≡ 2
input_twice = refl

-- one name twice, or standard input behind a name
name_twice : count_by is_input (codes "a" ∷ (codes "a" ∷ [])) ≡ 0
name_twice = refl

input_second : has_input (codes "a" ∷ (codes "-" ∷ [])) ≡ true
input_second = refl

not_all_input : has_no_name (codes "-" ∷ (codes "a" ∷ [])) ≡ false
not_all_input = refl

no_files : has_no_name [] ≡ true
no_files = refl

-- one file is held, and two bytes are left of standard input
one_held : Inputs
one_held = record { held = Some ((codes "a", codes "x") ∷ []); opening = 0; left = Some (codes "yz"); reading = 0 }

-- the same, after standard input was read to its end
input_read : Inputs
input_read = record { held = Some ((codes "a", codes "x") ∷ []); opening = 0; left = Some []; reading = 0 }

file_whole : ReadWhole one_held input_read (codes "a") (codes "x")
unfolding one_held
file_whole = record { whole = inr (refl, refl); took = λ e. absurd (cc); short = omega arith }

input_whole : ReadWhole one_held input_read (codes "-") (codes "yz")
unfolding one_held input_read
input_whole = record { whole = inl (refl, refl); took = λ e. (refl, refl); short = omega arith }

-- a file and standard input, in this order
two_read : AreRead one_held input_read (codes "a" ∷ (codes "-" ∷ [])) (codes "x" ∷ (codes "yz" ∷ []))
two_read = (file_whole, (input_whole, tt))

-- the second of two files is missing, and the first was read
second_missing : HasReadFault one_held input_read (codes "-" ∷ (codes "b" ∷ []))
unfolding one_held input_read
second_missing = (
  2,
  record {
    earlier = codes "-" ∷ [];
    file = codes "b";
    later = [];
    texts = codes "yz" ∷ [];
    files_are = refl;
    place_is = refl;
    read = (input_whole, tt);
    stop = inr (refl, inr refl);
    last = record { held = refl; unread = λ e. absurd (cc); unopened = λ e. absurd (cc); grows = record { opening = omega arith; reading = omega arith } };
  },
)
