use Rattle.std.proofs.Common.{◌∙◌, ap, arith, sym, subst, length}
use Rattle.std.specs.Prelude.{All}
use Rattle.std.proofs.lemmas.List.{length-append}
use Rattle.std.proofs.lemmas.List.Elements.{All-nil}
use Rattle.scop_data.specs.SolvedRows.{HasAccessRelation}
use Rattle.clan_walk.specs.Places.{children_in}
use Rattle.clan_walk.proofs.Placed.{children_more}
use Rattle.clan_walk.proofs.extractions.Extraction.enter_loop.Goals as goal

pub invariant_of-self-in-Ok : goal.invariant_of-self-in-Ok
invariant_of-self-in-Ok c = (
  record {
    loops_are = omega (
      arith,
      c.self.invariant.0.loops_are,
      ap length c.in-Ok.ensures.ok ∙ length-append c.self.inside.loops _,
      ap length c.in_ok-push-2.ensures.ok ∙ length-append c.self.inside.turns _,
    );
    children = omega (arith, c.self.invariant.0.children, ap children_in c.in_ok-push-2.ensures.ok ∙ children_more c.self.inside.turns (record { direction = c.args.direction; beta = c.self.inside.next }));
    statements = c.self.invariant.0.statements;
    accesses_are = omega (arith, ap (λ a. a.count) c.new.ensures);
    printable = subst (λ a. All (HasAccessRelation (length c.push-3.new.self) (length c.self.inside.parameters)) a.made) (sym c.new.ensures) (All-nil _);
  },
  c.self.invariant.1,
)
