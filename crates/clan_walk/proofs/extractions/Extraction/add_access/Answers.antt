use Rattle.std.proofs.Common.{◌∙◌, ap, sym, subst, length}
use Rattle.std.specs.Prelude.{All}
use Rattle.clan_walk.specs.Places.{IsSizedForm}
use Rattle.clan_walk.specs.Walk.{is_making}
use Rattle.clan_walk.specs.contracts.extractions.Extraction.{the_view}
use Rattle.clan_walk.proofs.Placed.{making_limits, place_added}
use Rattle.clan_walk.proofs.extractions.Extraction.add_access.Goals as goal

pub invariant_of-self : goal.invariant_of-self
invariant_of-self c = (
  place_added c.add.result c.is_making-making.result c.self.inside.arrays c.args.kind c.args.name.now c.args.subscripts.now
      c.self.inside.parameters c.self.inside.loops c.self.inside.turns c.self.inside.next c.self.inside.number c.self.inside.accesses c.add.new.self
      (λ e. making_limits (the_view c.self.inside) (ap is_making c.self.view_is ∙ sym c.is_making-making.ensures ∙ e))
      (subst (λ s. All (IsSizedForm (length s.loops) (length s.parameters)) c.args.subscripts.now) (sym c.self.view_is) c.requires.sizes)
      c.add.ensures.ok
      c.add.ensures.err
      c.self.invariant.0,
  c.self.invariant.1,
)
