use Rattle.std.proofs.Common.{◌≡◌, sym, subst, List, ◌<◌, ◌^◌, ◌≤◌, OnOk, IfOk, IfErr}
use Rattle.scop_core.specs.Sequences.{In}
use Rattle.dependence_systems.specs.Sides.{Side}
use Rattle.dependence_systems.specs.Entries.{entries}
use Rattle.dependence_systems.specs.Systems.{system_of, summand_weight}
use Rattle.row_core.specs.declared.arithmetic.RowFail.TheVariants as row
use Rattle.dependence_systems.proofs.OwnSystems.{own_has, own_same}
use Rattle.dependence_systems.proofs.own.own_system.Goals as goal

pub system-requires-clause-originals : goal.system-requires-clause-originals
system-requires-clause-originals c = own_has c.args.scop.now c.args.pieces.now c.requires.own

pub system-requires-clause-listed : goal.system-requires-clause-listed
system-requires-clause-listed c =
    subst (λ (s : List Side). In c.args.entry.now (entries s)) (sym (own_same c.args.scop.now c.args.pieces.now c.requires.own)) c.requires.listed

pub returns-clause-rows : goal.returns-clause-rows
returns-clause-rows c =
    subst (λ (s : List Side). IfOk c.system.result (λ part. part ≡ system_of c.args.scop.now.context s c.args.entry.now))
    (own_same c.args.scop.now c.args.pieces.now c.requires.own) c.system.ensures.part

pub returns-clause-light : goal.returns-clause-light
returns-clause-light c =
    subst (λ (s : List Side). OnOk c.system.result (summand_weight c.args.scop.now.context s c.args.entry.now < 2 ^ 127))
    (own_same c.args.scop.now c.args.pieces.now c.requires.own) c.system.ensures.light

pub returns-clause-overflow : goal.returns-clause-overflow
returns-clause-overflow c =
    subst (λ (s : List Side). IfErr c.system.result (λ fail. fail ≡ row.Overflow → 2 ^ 127 ≤ summand_weight c.args.scop.now.context s c.args.entry.now))
    (own_same c.args.scop.now c.args.pieces.now c.requires.own) c.system.ensures.heavy
