-- The single commands of a script for one statement, where they change something.
use Rattle.std.specs.Prelude.{◌≡◌, ◌<◌, ℤ, pos, ℕ, ◌+◌, ◌==◌, if◌then◌else◌, ◌&&◌, List, [], ◌∷◌, length, swap}
use Rattle.std.specs.Ordering.{int_eq}
use Rattle.beta_tree.specs.Edits.{place_of}
use Rattle.scop_data.specs.declared.affines.Affine.{Affine}
use Rattle.clay_script.specs.declared.commands.Command.{Command}
use Rattle.clay_script.specs.declared.commands.Command.TheVariants.{Interchange, Skew, Shift}
use Rattle.chlore_recover.specs.Triangles.{is_zero}

-- the skew of level i by level j, where the factor isn't 0
abbrev pub skew_where : List ℤ → ℕ → ℕ → ℤ → List Command
skew_where p i j f = if int_eq f (pos 0) then [] else Skew p (pos i) (pos j) f ∷ []

-- the interchange of the level at place k with the one where row i stands, where that is another one
abbrev pub interchange_where : List ℤ → ℕ → ℕ → List ℕ → List Command
interchange_where p k i standing = if place_of i standing == k then [] else Interchange p (pos (k + 1)) (pos (place_of i standing + 1)) ∷ []

-- where the rows stand after it
abbrev pub standing_after : ℕ → ℕ → List ℕ → List ℕ
standing_after k i standing = if place_of i standing == k then standing else swap standing k (place_of i standing)

-- the shift of level k by the parameters and the constant of a form, where one of them isn't 0
abbrev pub shift_where : List ℤ → ℕ → Affine → List Command
shift_where p k form = if is_zero form.parameters && int_eq form.constant (pos 0) then [] else Shift p (pos k) form.parameters form.constant ∷ []

-- each of these numbers is below d
abbrev pub AreBelow : ℕ → List ℕ → Type 0
AreBelow d [] = Unit {0}
AreBelow d (k ∷ ks) = (k < d) × AreBelow d ks

-- a list of d numbers has each number below d
pub record HasAll (d : ℕ) (standing : List ℕ) : Type 0 where
  pub long : length standing ≡ d
  pub there : (i : ℕ) → i < d → place_of i standing < d
