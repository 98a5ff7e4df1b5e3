-- A sum of products beside its weight.
use Rattle.std.specs.Prelude.{ℤ, pos, ℕ, ◌≤◌, ◌<◌, ◌^◌, unsigned_abs}

-- a value, and the sum of the absolute values of its summands
pub record Weighed : Type 0 where
  pub value : ℤ
  pub weight : ℕ

-- the sum of nothing
abbrev pub no_weight : Weighed
no_weight = record { value = pos 0; weight = 0 }

-- the weight bounds the value, and is itself below 2^127
pub record IsLight (value : ℤ) (weight : ℕ) : Type 0 where
  pub within : unsigned_abs value ≤ weight
  pub light : weight < 2 ^ 127
