-- Lists: their members, and their order place by place.
use Rattle.std.specs.Prelude.{◌≡◌, ◌⊎◌, List, [], ◌∷◌}

-- a is a member of the list
abbrev pub In : {A : Type 0} → A → List A → Type 0
In a [] = ⊥
In a (x ∷ xs) = (x ≡ a) ⊎ In a xs

-- the lists differ at a place that both have, and p has the lesser entry at the first such place
abbrev pub BeforeBy : {A : Type 0} → (A → A → Type 0) → List A → List A → Type 0
BeforeBy less [] q = ⊥
BeforeBy less (x ∷ p) [] = ⊥
BeforeBy less (x ∷ p) (y ∷ q) = less x y ⊎ ((x ≡ y) × BeforeBy less p q)
