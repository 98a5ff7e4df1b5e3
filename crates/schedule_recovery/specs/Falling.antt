-- Statements in falling beta order, each behind those that it is before.
use Rattle.std.specs.Prelude.{◌≡◌, true, if◌then◌else◌, List, [], ◌∷◌}
use Rattle.chlore_recover.specs.Strategy.{Placed, is_before}

-- a statement among others in falling order: behind those at the front that it is before
abbrev pub put_behind : Placed → List Placed → List Placed
put_behind e [] = e ∷ []
put_behind e (f ∷ fs) = if is_before e.1 f.1 then f ∷ put_behind e fs else e ∷ (f ∷ fs)

-- each of these is before f
abbrev pub AreBefore : Placed → List Placed → Type 0
AreBefore f [] = Unit {0}
AreBefore f (g ∷ fs) = (is_before g.1 f.1 ≡ true) × AreBefore f fs

-- each is before those in front of it
abbrev pub Falls : List Placed → Type 0
Falls [] = Unit {0}
Falls (f ∷ fs) = AreBefore f fs × Falls fs
