-- What goes on from a result: the first refusal ends it.
use Rattle.std.specs.Prelude.{Result, Ok, Err}

-- the answer of f to what was found
abbrev pub and_then : {A B E : Type 0} → Result A E → (A → Result B E) → Result B E
and_then (Ok a) f = f a
and_then (Err e) f = Err e
