-- The comparison that a sign of the code means.
use Rattle.clan_extract.specs.Regions.{Comparison, IsLess, IsLessOrEqual, IsGreater, IsGreaterOrEqual, IsEqual, IsUnequal}
use Rattle.clan_rows.specs.declared.comparisons.Comparison.{Comparison as Sign}
use Rattle.clan_rows.specs.declared.comparisons.Comparison.TheVariants.{Less, LessOrEqual, Greater, GreaterOrEqual, Equal, Unequal}

abbrev pub meaning_of : Sign → Comparison
meaning_of Less = IsLess
meaning_of LessOrEqual = IsLessOrEqual
meaning_of Greater = IsGreater
meaning_of GreaterOrEqual = IsGreaterOrEqual
meaning_of Equal = IsEqual
meaning_of Unequal = IsUnequal
