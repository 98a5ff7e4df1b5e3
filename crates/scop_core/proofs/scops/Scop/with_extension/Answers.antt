use Rattle.std.proofs.Common.{◌∙◌, ◌++◌, ◌∷◌, [], ap}
use Rattle.scop_data.specs.ScopData.{others}
use Rattle.scop_core.proofs.Validities.{extended_valid}
use Rattle.scop_core.proofs.scops.Scop.with_extension.Goals as goal

pub invariant_of-result : goal.invariant_of-result
invariant_of-result c =
    extended_valid _ c.args.extension c.in-Ok.extensions
    (c.in-Ok.ensures ∙ ap (λ xs. others c.args.extension.name xs ++ c.args.extension ∷ []) c.as_slice.ensures)
    c.requires.printable c.self.invariant
