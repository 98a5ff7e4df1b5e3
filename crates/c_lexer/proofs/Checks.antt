use Rattle.std.proofs.Common.{◌≡◌, true, false, Some, None, Ok, Err, refl}
use Rattle.std.specs.Prelude.{[], ◌∷◌, codes}
use Rattle.c_lexer.specs.Pragmas.{is_scop_line, is_endscop_line}
use Rattle.c_lexer.specs.Regions.{region_of}
use Rattle.c_lexer.specs.RegionLines.{HasRegion, HasSecond}
use Rattle.c_lexer.specs.Tokens.{gap, token_at}
use Rattle.c_lexer.specs.TokenForms.{is_token_of}
use Rattle.c_lexer.specs.Separators.{has_close, space, line, comment, AreSeparators, none, one}
use Rattle.c_lexer.specs.declared.tokens.TokenKind.TheVariants.{Name, Integer, Literal, Sign}
use Rattle.c_lexer.specs.declared.regions.RegionFail.TheVariants.{NoRegion, OpenRegion, SecondRegion}

plain_line : is_scop_line (codes "#pragma scop") ≡ true
plain_line = refl

blanks_everywhere : is_scop_line (codes "  # \t pragma   scop \r") ≡ true
blanks_everywhere = refl

closing_line : is_endscop_line (codes "#pragma\tendscop") ≡ true
closing_line = refl

blank_wanted : is_scop_line (codes "#pragmascop") ≡ false
blank_wanted = refl

longer_word : is_scop_line (codes "#pragma scops") ≡ false
longer_word = refl

text_behind : is_endscop_line (codes "#pragma endscop // end") ≡ false
text_behind = refl

region_of_two_lines : region_of (codes "x\n#pragma scop\na;\nb;\n#pragma endscop\n") ≡ Ok (record { from = 15; to = 21; first = record { line = 3; column = 1 } })
region_of_two_lines = refl

region_without_lines : region_of (codes "#pragma scop\r\n#pragma endscop") ≡ Ok (record { from = 14; to = 14; first = record { line = 2; column = 1 } })
region_without_lines = refl

no_region : region_of (codes "#pragma endscop\n") ≡ Err NoRegion
no_region = refl

open_region : region_of (codes "#pragma endscop\n#pragma scop\n#pragma scop") ≡ Err (OpenRegion 2)
open_region = refl

second_region : region_of (codes "#pragma scop\n#pragma endscop\n\n#pragma scop\n") ≡ Err (SecondRegion 4)
second_region = refl

-- the lines of a region, where the last line has no newline
region_lines : HasRegion (codes "x\n#pragma scop\na;\nb;\n#pragma endscop") (record { from = 15; to = 21; first = record { line = 3; column = 1 } })
region_lines = record {
  before = codes "x" ∷ [];
  scop = codes "#pragma scop";
  after_scop = codes "a;" ∷ codes "b;" ∷ codes "#pragma endscop" ∷ [];
  inside = codes "a;" ∷ codes "b;" ∷ [];
  endscop = codes "#pragma endscop";
  after_endscop = [];
  opens = record { cut = refl; passed = refl; none_before = refl };
  closes = record { cut = refl; passed = refl; none_before = refl };
  alone = refl;
  from = refl;
  to = refl;
  has = refl;
  first = refl;
}

-- the line of another `scop` line, behind an `endscop` line
second_line : HasSecond (codes "#pragma scop\n#pragma endscop\n\n#pragma scop\n") 4
second_line = record {
  before = [];
  scop = codes "#pragma scop";
  after_scop = codes "#pragma endscop" ∷ [] ∷ codes "#pragma scop" ∷ [];
  between = codes "#pragma endscop" ∷ [] ∷ [];
  second = codes "#pragma scop";
  after_second = [];
  opens = record { cut = refl; passed = refl; none_before = refl };
  closed = refl;
  again = record { cut = refl; passed = refl; none_before = refl };
  number_is = refl;
}

-- what separates: blanks, newlines and both comments; one without end does not
gap_of_all : gap (codes " \t/*a**/// b\n/**/x") ≡ 17
gap_of_all = refl

gap_without_end : gap (codes " /* a") ≡ 1
gap_without_end = refl

-- the longest token
exponent : token_at (codes "1e+5-2") ≡ Some (Literal, 4)
exponent = refl

hexadecimal : token_at (codes "0x1e+2;") ≡ Some (Literal, 6)
hexadecimal = refl

points : token_at (codes "2..3 ") ≡ Some (Literal, 4)
points = refl

zeros : (token_at (codes "007") ≡ Some (Literal, 3)) × (token_at (codes "0)") ≡ Some (Integer, 1)) × (token_at (codes "10;") ≡ Some (Integer, 2))
zeros = (refl, refl, refl)

signs : (token_at (codes "+++") ≡ Some (Sign, 2)) × (token_at (codes "<==") ≡ Some (Sign, 2)) × (token_at (codes "-e") ≡ Some (Sign, 1))
signs = (refl, refl, refl)

none_here : (token_at (codes "&x") ≡ None) × (token_at (codes "/*x") ≡ None) × (token_at (codes ".x") ≡ None) × (token_at (codes "#") ≡ None)
none_here = (refl, refl, refl, refl)

-- what a token is, by its own bytes
names : (is_token_of Name (codes "_x1") ≡ true) × (is_token_of Name (codes "1x") ≡ false) × (is_token_of Name (codes "x+") ≡ false)
names = (refl, refl, refl)

integers : (is_token_of Integer (codes "0") ≡ true) × (is_token_of Integer (codes "10") ≡ true) × (is_token_of Integer (codes "007") ≡ false) × (is_token_of Literal (codes "007") ≡ true)
integers = (refl, refl, refl, refl)

literals : (is_token_of Literal (codes ".5e-1") ≡ true) × (is_token_of Literal (codes "1e+5-") ≡ false) × (is_token_of Literal (codes ".") ≡ false) × (is_token_of Literal (codes "10") ≡ false)
literals = (refl, refl, refl, refl)

listed_signs : (is_token_of Sign (codes "<=") ≡ true) × (is_token_of Sign (codes "<==") ≡ false) × (is_token_of Sign (codes "&") ≡ false)
listed_signs = (refl, refl, refl)

-- what separates: a blank, a comment up to its line's end, the newline, and a comment up to its `*/`
separators_of_all : AreSeparators (codes "x") (codes " // b\n/*a**/")
separators_of_all =
    one (codes " ") (codes "// b\n/*a**/") (space 32 refl refl)
    (one (codes "// b") (codes "\n/*a**/") (line (codes " b") refl refl refl)
    (one (codes "\n") (codes "/*a**/") (space 10 refl refl)
    (one (codes "/*a**/") [] (comment (codes "a*") refl refl) none)))

closed_once : (has_close (codes "a**") ≡ false) × (has_close (codes "a*/ *") ≡ true)
closed_once = (refl, refl)
