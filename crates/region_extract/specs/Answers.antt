-- The SCoP of the region of a C text, or why there is none.
use Rattle.std.specs.Prelude.{◌≡◌, ◌⊎◌, ℕ, List, Result, Ok, Err}
use Rattle.suite_base.specs.declared.refusals.Fail.{Fail}
use Rattle.suite_base.specs.declared.refusals.Fail.TheVariants as fail
use Rattle.suite_base.specs.declared.refusals.Refusal.{Refusal}
use Rattle.suite_base.specs.declared.refusals.Refusal.TheVariants as refused
use Rattle.c_lexer.specs.declared.regions.Span.{Span}
use Rattle.c_lexer.specs.declared.regions.RegionFail.{RegionFail}
use Rattle.c_lexer.specs.declared.regions.RegionFail.TheVariants.{NoRegion, OpenRegion, SecondRegion}
use Rattle.c_lexer.specs.Regions.{region_of}
use Rattle.c_parser.specs.declared.tree.Node.{Node}
use Rattle.c_parser.specs.Regions.{IsRegion, reading_at}
use Rattle.c_parser.specs.Prefixes.{HasCause}
use Rattle.scop_core.specs.ScopData.{ScopData}
use Rattle.region_trees.specs.Translation.{clan_of}

-- the region's answer: want of memory aside, the SCoP or the first refusal
abbrev pub Extracts : Result ScopData Refusal → Result ScopData Fail → Type 0
Extracts wanted (Ok scop) = wanted ≡ Ok scop
Extracts wanted (Err fail.Memory) = Unit {0}
Extracts wanted (Err (fail.Refused refusal)) = wanted ≡ Err refusal

-- a text without one region
abbrev pub refusal_for : RegionFail → Refusal
refusal_for NoRegion = refused.NoRegion
refusal_for (OpenRegion line) = refused.OpenRegion line
refusal_for (SecondRegion line) = refused.SecondRegion line

-- the text's region is derived to these statements
pub record IsParsed (text : List ℕ) (nodes : List Node) : Type 0 where
  pub span : Span
  pub is_region : region_of text ≡ Ok span
  pub derived : IsRegion text span nodes

-- the SCoP is the translation of the text's region
pub record IsTranslation (text : List ℕ) (scop : ScopData) : Type 0 where
  pub nodes : List Node
  pub parsed : IsParsed text nodes
  pub translated : clan_of text nodes ≡ Ok scop

-- the text has no region, or more than one
pub record HasNoRegion (text : List ℕ) (refusal : Refusal) : Type 0 where
  pub fail : RegionFail
  pub is_fail : region_of text ≡ Err fail
  pub says : refusal ≡ refusal_for fail

-- the grammar derives the region to no statements within the depths, and the refusal has its cause in it
pub record IsUnderived (text : List ℕ) (refusal : Refusal) : Type 0 where
  pub span : Span
  pub is_region : region_of text ≡ Ok span
  pub cause : HasCause (reading_at text span) refusal
  pub underived : (nodes : List Node) → ¬ IsRegion text span nodes

-- the statements that the region is derived to, and no others, have this first refusal
pub record IsUntranslated (text : List ℕ) (refusal : Refusal) : Type 0 where
  pub nodes : List Node
  pub parsed : IsParsed text nodes
  pub only : (other : List Node) → IsParsed text other → nodes ≡ other
  pub refused : clan_of text nodes ≡ Err refusal

-- why a text has no translation
abbrev pub Refuses : List ℕ → Refusal → Type 0
Refuses text refusal = HasNoRegion text refusal ⊎ (IsUnderived text refusal ⊎ IsUntranslated text refusal)

-- what the answer for a text says
abbrev pub Translates : List ℕ → Result ScopData Fail → Type 0
Translates text (Ok scop) = IsTranslation text scop
Translates text (Err fail.Memory) = Unit {0}
Translates text (Err (fail.Refused refusal)) = Refuses text refusal
