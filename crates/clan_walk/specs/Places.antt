-- What holds at each place of the walk, and of the table of array numbers.
use Rattle.std.specs.Prelude.{◌≡◌, ◌≤◌, ◌+◌, ℕ, ℤ, pos, List, [], ◌∷◌, length, bytes_eq, Option, None, Some, All}
use Rattle.std.specs.Map.{lookup}
use Rattle.std.specs.Global.{Vec}
use Rattle.suite_base.specs.Limits.{max_statements, max_accesses}
use Rattle.scop_data.specs.SolvedRows.{HasAccessRelation}
use Rattle.clan_extract.specs.Regions.{number_in}
use Rattle.clan_rows.specs.declared.forms.Form.{Form}
use Rattle.clan_walk.specs.declared.gathering.Accesses.{Accesses}
use Rattle.clan_walk.specs.declared.turns.Turn.{Turn}

-- a form over so many loops and parameters, where there is one
abbrev pub IsSizedForm : ℕ → ℕ → Option Form → Type 0
IsSizedForm loops parameters None = Unit {0}
IsSizedForm loops parameters (Some f) = (length f.iterators ≡ loops) × (length f.parameters ≡ parameters)

-- the sum of the betas
abbrev pub children_in : List Turn → ℕ
children_in [] = 0
children_in (t ∷ ts) = t.beta + children_in ts

-- each loop has a turn; children are counted only with statements; no count passes its limit by more than one;
-- and the accesses can be printed
pub record IsPlace (parameters loops : List (List ℕ)) (turns : List Turn) (next number : ℕ) (accesses : Accesses) : Type 0 where
  pub loops_are : length turns ≡ length loops
  pub children : children_in turns + next ≤ number
  pub statements : number ≤ max_statements + 1
  pub accesses_are : accesses.count ≤ max_accesses + 1
  pub printable : All (HasAccessRelation (length loops) (length parameters)) accesses.made

-- the number that a table has for a name; and that number, or another one where there is none
abbrev pub numbered_as : List ℕ → List (Vec ℕ × ℤ) → Option ℤ
numbered_as name entries = lookup (λ key. bytes_eq name key.items) entries

abbrev pub number_or : ℤ → Option ℤ → ℤ
number_or otherwise None = otherwise
number_or otherwise (Some number) = number

-- a table gives each name its number, with the number of names for one that it does not have
abbrev pub IsNumbered : List (List ℕ) → List (Vec ℕ × ℤ) → Type 0
IsNumbered names entries = (name : List ℕ) → number_or (pos (length names)) (numbered_as name entries) ≡ number_in names name
