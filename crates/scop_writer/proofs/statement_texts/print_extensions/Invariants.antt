use Rattle.std.proofs.Common.{◌≡◌, ◌++◌, drop}
use Rattle.std.specs.List.{flat_map}
use Rattle.scop_core.specs.Layouts.{extension_layout}
use Rattle.scop_writer.proofs.statement_texts.print_extensions.Given as goal

abbrev pub invariant-loop-extension : goal.invariant-loop-extension
invariant-loop-extension l =
    l.text ++ flat_map extension_layout (drop l.extension-index l.extensions)
    ≡ l.fn.text ++ flat_map extension_layout l.extensions
