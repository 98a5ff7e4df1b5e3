-- Sizes of matrices and tableaux.
use Rattle.std.specs.Prelude.{ℕ}

pub record Size : Type 0 where
  pub rows : ℕ
  pub columns : ℕ
