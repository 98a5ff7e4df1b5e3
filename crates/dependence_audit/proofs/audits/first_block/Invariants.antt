use Rattle.std.proofs.Common.{◌≡◌, drop}
use Rattle.dependence_blocks.specs.Blocks.{block_name}
use Rattle.dependence_audit.specs.Audits.{first_named}
use Rattle.dependence_audit.proofs.audits.first_block.Given as goal

abbrev pub invariant-loop-extension : goal.invariant-loop-extension
invariant-loop-extension l = first_named block_name (drop l.extension-index l.extensions) ≡ first_named block_name l.fn.extensions
