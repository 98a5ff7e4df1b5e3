use Rattle.std.proofs.Common.{◌∷◌, [], take, arith, subst, sym, ◌∙◌, List, length, ◌≤◌}
use Rattle.suite_base.specs.Limits.{max_systems}
use Rattle.std.specs.Prelude.{slice_index_or}
use Rattle.std.proofs.lemmas.Result.{err_from_is_err_and}
use Rattle.scop_core.specs.Sequences.{In}
use Rattle.dependence_systems.specs.declared.dependences.Dep.{Dep}
use Rattle.dependence_systems.specs.declared.dependences.DepKind.TheVariants.{Raw}
use Rattle.dependence_systems.specs.Sides.{own_sides}
use Rattle.candl_deps.specs.Found.{AreDecided}
use Rattle.candl_deps.proofs.Printing.{in_here, at_place, one_more_taken, one_stops}
use Rattle.candl_deps.proofs.DecidedLists.{decided_more, decided_light}
use Rattle.candl_deps.proofs.found.decided_entries.Goals as goal

-- what an index answers where there is no entry
abbrev no_entry : Dep
no_entry = record { kind = Raw; source = 0; target = 0; source_access = 0; target_access = 0; source_part = 0; target_part = 0; level = 0 }

pub push_decided-requires-clause-listed : goal.push_decided-requires-clause-listed
push_decided-requires-clause-listed c =
    let items : List Dep = c.as_slice-items.result.now in
    let e : Dep = slice_index_or items c.loop-k.k no_entry in
    subst (λ (xs : List Dep). In e xs) (c.as_slice-items.ensures ∙ c.requires.list) (in_here items c.loop-k.k e (at_place items c.loop-k.k no_entry (omega arith)))

pub returns-in_err-base-clause-cause : goal.returns-in_err-base-clause-cause
returns-in_err-base-clause-cause c =
    let items : List Dep = c.as_slice-items.result.now in
    let p = err_from_is_err_and c.from_residual.result c.from_residual.ensures.1 in
    let few : length items ≤ max_systems = rw c.as_slice-items.ensures c.requires.few in
    let light = decided_light c.args.scop.now.context (own_sides c.args.scop.now) (take c.loop-k.k items) c.loop-k.made c.loop-k.invariant.decided in
    rw (p.1, p.2) (one_stops c.args.scop.now items c.loop-k.k no_entry c.in_err-base.field-0.0
    (c.as_slice-items.ensures ∙ c.requires.list) few (omega arith) light c.in_err-base.ensures.cause)

pub loop-k-preserved : goal.loop-k-preserved
loop-k-preserved c =
    let items : List Dep = c.as_slice-items.result.now in
    record {
      decided = subst (λ (xs : List Dep). AreDecided c.args.scop.now.context (own_sides c.args.scop.now) xs c.push_decided.new.made)
          (sym (one_more_taken items c.loop-k.k no_entry (omega arith)))
          (decided_more c.args.scop.now.context (own_sides c.args.scop.now) (take c.loop-k.k items) (slice_index_or items c.loop-k.k no_entry)
          c.loop-k.made c.push_decided.new.made c.loop-k.invariant.decided c.in_ok-base.ensures.pushed);
      held = c.in_ok-base.ensures.base;
    }
