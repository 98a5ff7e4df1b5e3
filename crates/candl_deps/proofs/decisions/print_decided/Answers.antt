use Rattle.std.proofs.Common.{◌∷◌, [], take, arith, subst, sym, ◌∙◌, List, length, ◌≤◌}
use Rattle.suite_base.specs.Limits.{max_systems}
use Rattle.std.specs.Prelude.{slice_index_or}
use Rattle.std.proofs.lemmas.Result.{err_from_is_err_and}
use Rattle.scop_core.specs.Sequences.{In}
use Rattle.dependence_systems.specs.declared.dependences.Dep.{Dep}
use Rattle.dependence_systems.specs.declared.dependences.DepKind.TheVariants.{Raw}
use Rattle.dependence_systems.specs.Sides.{own_sides}
use Rattle.candl_deps.specs.Decisions.{IsPrinted}
use Rattle.candl_deps.proofs.Printing.{in_here, at_place, one_more_taken, one_stops, printed_more}
use Rattle.candl_deps.proofs.decisions.print_decided.Goals as goal

-- what an index answers where there is no entry
abbrev no_entry : Dep
no_entry = record { kind = Raw; source = 0; target = 0; source_access = 0; target_access = 0; source_part = 0; target_part = 0; level = 0 }

pub print_one-requires-clause-listed : goal.print_one-requires-clause-listed
print_one-requires-clause-listed c =
    let items : List Dep = c.as_slice-items.result.now in
    let e : Dep = slice_index_or items c.loop-k.k no_entry in
    subst (λ (xs : List Dep). In e xs) (c.as_slice-items.ensures ∙ c.requires.list) (in_here items c.loop-k.k e (at_place items c.loop-k.k no_entry (omega arith)))

pub returns-in_err-base-clause-cause : goal.returns-in_err-base-clause-cause
returns-in_err-base-clause-cause c =
    let p = err_from_is_err_and c.from_residual.result c.from_residual.ensures.1 in
    let few : length c.as_slice-items.result.now ≤ max_systems = rw c.as_slice-items.ensures c.requires.few in
    rw (p.1, p.2) (one_stops c.args.scop.now c.as_slice-items.result.now c.loop-k.k no_entry c.in_err-base.field-0.0
    (c.as_slice-items.ensures ∙ c.requires.list) few (omega arith) c.loop-k.invariant.printed.light c.in_err-base.ensures.cause)

pub loop-k-preserved : goal.loop-k-preserved
loop-k-preserved c =
    let items : List Dep = c.as_slice-items.result.now in
    record {
      printed = subst (λ (xs : List Dep). IsPrinted c.args.scop.now.context (own_sides c.args.scop.now) xs c.args.lines.now c.print_one.new.lines)
          (sym (one_more_taken items c.loop-k.k no_entry (omega arith)))
          (printed_more c.args.scop.now.context (own_sides c.args.scop.now) (take c.loop-k.k items) (slice_index_or items c.loop-k.k no_entry ∷ [])
          c.args.lines.now c.loop-k.lines c.print_one.new.lines c.loop-k.invariant.printed c.in_ok-base.ensures.printed);
      kept = c.in_ok-base.ensures.kept;
      held = c.in_ok-base.ensures.base;
    }
