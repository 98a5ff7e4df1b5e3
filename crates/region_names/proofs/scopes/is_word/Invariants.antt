use Rattle.std.proofs.Common.{◌≡◌, length, map}
use Rattle.clan_extract.specs.Regions.{is_among}
use Rattle.region_names.proofs.scopes.is_word.Given as goal

abbrev pub invariant-loop-words : goal.invariant-loop-words
invariant-loop-words l = is_among l.name (map (λ word. word.now) l.words) ≡ is_among l.name (map (λ word. word.now) l.fn.words)

abbrev pub decreases-loop-words : goal.decreases-loop-words
decreases-loop-words l = length l.words
