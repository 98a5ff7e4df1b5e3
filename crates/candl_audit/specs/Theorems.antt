-- The block of a SCoP's dependences passes the audit.
use Rattle.std.specs.Prelude.{◌≡◌, Ok}
use Rattle.scop_core.specs.ScopData.{ScopData}
use Rattle.candl_deps.specs.Decisions.{WithDependences}
use Rattle.dependence_audit.specs.Audits.{verdicts_in, counts_of, audited}

-- a SCoP with the block of its dependences states the verdicts of this block, and passes with their counts
abbrev pub DependencesPass : Type 0
DependencesPass = (S made : ScopData) (printed : WithDependences S made)
    → (verdicts_in made ≡ Ok printed.is_block.verdicts) × (audited made ≡ Ok (counts_of printed.is_block.verdicts))
