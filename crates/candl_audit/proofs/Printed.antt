-- Verdicts that are light, right and readable are printable ones.
use Rattle.std.proofs.Common.{◌≡◌, ℤ, List, [], ◌∷◌, ap, sym, ◌∙◌, subst}
use Rattle.std.specs.Prelude.{Option, Some, None, Ok}
use Rattle.relation_core.specs.Systems.{System}
use Rattle.scop_core.specs.ScopData.{ScopData, extended}
use Rattle.dependence_systems.specs.declared.dependences.Dep.{Dep}
use Rattle.dependence_systems.specs.Sides.{Side, own_sides}
use Rattle.dependence_systems.specs.Entries.{entries}
use Rattle.candl_deps.specs.Decisions.{AreLight, AreRight, AreReadable, WithDependences}
use Rattle.dependence_audit.specs.Audits.{Verdicts, verdicts_in, counts_of, audited}
use Rattle.dependence_audit.specs.Theorems.{ArePrintable, with_block}
use Rattle.dependence_audit.proofs.Printed.{printed_blocks_pass}
use Rattle.candl_audit.specs.Theorems.{DependencesPass}

are_printable : (context : System) (sides : List Side) (list : List Dep) (verdicts : Verdicts) → AreLight context sides list
    → AreRight context sides list verdicts → AreReadable context sides list verdicts → ArePrintable context sides list verdicts
are_printable context sides [] [] light right readable = tt
are_printable context sides [] (v ∷ verdicts) light right readable = absurd right
are_printable context sides (e ∷ list) [] light right readable = absurd right
are_printable context sides (e ∷ list) (None ∷ verdicts) light right readable = (
  record { light = light.0; readable = readable.0; certified = tt },
  are_printable context sides list verdicts light.1 right.1 readable.1,
)
are_printable context sides (e ∷ list) (Some certificate ∷ verdicts) light right readable = (
  record { light = light.0; readable = readable.0; certified = (right.0.valid, right.0.light) },
  are_printable context sides list verdicts light.1 right.1 readable.1,
)

-- the SCoP is the one with the block of its verdicts
made_is : (S made : ScopData) (printed : WithDependences S made) → made ≡ with_block S printed.is_block.verdicts
made_is S made printed = printed.made_is ∙ ap (λ block. extended S block) printed.is_block.is

pub dependences_pass : DependencesPass
dependences_pass S made printed =
    let verdicts : Verdicts = printed.is_block.verdicts in
    let are = printed.is_block.are in
    let printable = are_printable S.context (own_sides S) (entries (own_sides S)) verdicts are.light are.right are.readable in
    let passes = printed_blocks_pass S verdicts are.few printable in
    (ap verdicts_in (made_is S made printed) ∙ passes.0, ap audited (made_is S made printed) ∙ passes.1)
