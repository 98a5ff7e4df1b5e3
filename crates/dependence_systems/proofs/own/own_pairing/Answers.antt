use Rattle.std.proofs.Common.{◌≡◌, List, ap, sym, ◌∙◌, subst}
use Rattle.scop_core.specs.Sequences.{In}
use Rattle.dependence_systems.specs.Sides.{Side}
use Rattle.dependence_systems.specs.Entries.{entries}
use Rattle.dependence_systems.specs.Systems.{pairing_of}
use Rattle.dependence_systems.proofs.OwnSystems.{own_has, own_same}
use Rattle.dependence_systems.proofs.own.own_pairing.Goals as goal

pub pairing_for-requires-clause-originals : goal.pairing_for-requires-clause-originals
pairing_for-requires-clause-originals c = own_has c.args.scop.now c.args.pieces.now c.requires.own

pub pairing_for-requires-clause-listed : goal.pairing_for-requires-clause-listed
pairing_for-requires-clause-listed c =
    subst (λ (s : List Side). In c.args.entry.now (entries s)) (sym (own_same c.args.scop.now c.args.pieces.now c.requires.own)) c.requires.listed

pub returns-clause-pairing : goal.returns-clause-pairing
returns-clause-pairing c =
    c.pairing_for.ensures.pairing ∙ ap (λ (s : List Side). pairing_of c.args.scop.now.context s c.args.entry.now) (own_same c.args.scop.now c.args.pieces.now c.requires.own)
