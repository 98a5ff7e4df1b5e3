-- Numbers that are read one after the other into a list.
use Rattle.std.proofs.Common.{ℤ, List, ◌++◌, Result, Ok, Err}
use Rattle.suite_base.specs.declared.refusals.Refusal.{Refusal}

-- these numbers, then others
abbrev pub behind_numbers : List ℤ → Result (List ℤ) Refusal → Result (List ℤ) Refusal
behind_numbers found (Ok ns) = Ok (found ++ ns)
behind_numbers found (Err e) = Err e
