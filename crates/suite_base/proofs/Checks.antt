use Rattle.std.proofs.Common.{◌≡◌, [], ◌∷◌, pos, negsuc, refl}
use Rattle.std.specs.Prelude.{codes}
use Rattle.suite_base.specs.Lines.{lines, trim}
use Rattle.suite_base.specs.Numbers.{number_read}
use Rattle.suite_base.specs.Words.{content, words}
use Rattle.suite_base.specs.declared.numbers.NumberRead.TheVariants.{Value, TooLarge, NotNumber}

-- a rest after the last newline is a line, and nothing after it is none
lines_with_rest : lines (codes "ab\n\nc") ≡ codes "ab" ∷ ([] ∷ (codes "c" ∷ []))
lines_with_rest = refl

lines_ended : lines (codes "ab\r\n") ≡ codes "ab\r" ∷ []
lines_ended = refl

blanks_cut : trim (codes " \ta b\r ") ≡ codes "a b"
blanks_cut = refl

number_with_zeros : number_read (codes "007") ≡ Value (pos 7)
number_with_zeros = refl

number_below : number_read (codes "-170141183460469231731687303715884105727") ≡ Value (negsuc 170141183460469231731687303715884105726)
number_below = refl

number_past : number_read (codes "-170141183460469231731687303715884105728") ≡ TooLarge
number_past = refl

number_none : number_read (codes "+1") ≡ NotNumber
number_none = refl

line_said : content (codes " 1 -2\t# three") ≡ codes "1 -2"
line_said = refl

words_of_line : words (codes " 1\t-2 x\r") ≡ codes "1" ∷ (codes "-2" ∷ (codes "x" ∷ []))
words_of_line = refl
