-- Lines of names, which are not there where there are no names.
use Rattle.std.proofs.Common.{◌≡◌, ◌≢◌, ℕ, zero, suc, [], refl, Ok}
use Rattle.scop_reader.specs.Lines.{Rest}
use Rattle.scop_reader.specs.Reading.{word_line, ◌>>◌}
use Rattle.scop_reader.specs.Rules.{names, iterator_names, no_end}

pub no_names : (n : ℕ) (rest : Rest) → n ≡ 0 → names n rest ≡ Ok ([], rest)
unfolding names
no_names zero rest e = refl
no_names (suc n) rest e = absurd cc

pub some_names : (n : ℕ) (rest : Rest) → n ≢ 0 → names n rest ≡ word_line n rest
unfolding names
some_names zero rest e = absurd (e refl)
some_names (suc n) rest e = refl

pub no_iterators : (n : ℕ) (rest : Rest) → n ≡ 0 → iterator_names n rest ≡ Ok ([], rest)
unfolding iterator_names
no_iterators zero rest e = refl
no_iterators (suc n) rest e = absurd cc

pub some_iterators : (n : ℕ) (rest : Rest) → n ≢ 0 → iterator_names n rest ≡ (no_end >> word_line n) rest
unfolding iterator_names
some_iterators zero rest e = absurd (e refl)
some_iterators (suc n) rest e = refl
