-- The place of a byte in a text: its line and its column, both from 1. Columns count bytes.
use Rattle.std.specs.Prelude.{ℕ, ◌+◌, if◌then◌else◌, ◌==◌, List, [], ◌∷◌, take}
use Rattle.suite_base.specs.declared.places.Place.{Place}

-- where a text begins
abbrev pub first_place : Place
first_place = record { line = 1; column = 1 }

-- the place after a byte that stands at a place
abbrev pub after_byte : Place → ℕ → Place
after_byte place b = if b == 10 then record { line = place.line + 1; column = 1 } else record { line = place.line; column = place.column + 1 }

-- the place after bytes that begin at a place
abbrev pub after_bytes : Place → List ℕ → Place
after_bytes place [] = place
after_bytes place (b ∷ bytes) = after_bytes (after_byte place b) bytes

-- the place of the byte that so many bytes stand before
abbrev pub place_at : List ℕ → ℕ → Place
place_at bytes at = after_bytes first_place (take at bytes)
