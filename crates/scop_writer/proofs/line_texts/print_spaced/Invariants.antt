use Rattle.std.proofs.Common.{◌≡◌, ◌∷◌, ◌++◌, drop}
use Rattle.std.specs.List.{flat_map}
use Rattle.scop_writer.proofs.line_texts.print_spaced.Given as goal

abbrev pub invariant-loop-name : goal.invariant-loop-name
invariant-loop-name l =
    l.text ++ flat_map (λ next. 32 ∷ next) (drop l.name-index l.names) ≡ l.fn.text ++ flat_map (λ next. 32 ∷ next) l.names
