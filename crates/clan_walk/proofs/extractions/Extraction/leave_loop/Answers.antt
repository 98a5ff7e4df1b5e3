use Rattle.std.proofs.Common.{◌∙◌, ap, arith, map, sym, subst, length, ◌+◌}
use Rattle.std.specs.Prelude.{All}
use Rattle.std.proofs.lemmas.List.{length-append}
use Rattle.std.proofs.lemmas.List.Elements.{All-nil}
use Rattle.scop_data.specs.SolvedRows.{HasAccessRelation}
use Rattle.clan_rows.specs.Contents.{said}
use Rattle.clan_walk.specs.Walk.{left_loop, next_behind}
use Rattle.clan_walk.specs.Places.{children_in}
use Rattle.clan_walk.specs.contracts.extractions.Extraction.{the_view}
use Rattle.clan_walk.proofs.Placed.{popped_is, popped_length, without_map, children_more, loop_ends, behind_turn}
use Rattle.clan_walk.proofs.extractions.Extraction.leave_loop.Goals as goal

pub overflow_add-self : goal.overflow_add-self
overflow_add-self c =
    omega (
      arith,
      c.self.invariant.0.children,
      c.self.invariant.0.statements,
      ap children_in c.in-Some.ensures ∙ children_more c.pop-3.new.self c.in-Some.turn,
      c.min.ensures,
    )

pub invariant_of-self-in-Some : goal.invariant_of-self-in-Some
invariant_of-self-in-Some c = (
  record {
    loops_are = omega (
      arith,
      c.self.invariant.0.loops_are,
      popped_length c.pop.result c.self.inside.loops c.pop.new.self c.pop.ensures,
      ap length c.in-Some.ensures ∙ length-append c.pop-3.new.self _,
    );
    children = omega (
      arith,
      c.self.invariant.0.children,
      ap children_in c.in-Some.ensures ∙ children_more c.pop-3.new.self c.in-Some.turn,
      c.min.ensures,
    );
    statements = c.self.invariant.0.statements;
    accesses_are = omega (arith, ap (λ a. a.count) c.new.ensures);
    printable = subst (λ a. All (HasAccessRelation (length c.pop.new.self) (length c.self.inside.parameters)) a.made) (sym c.new.ensures) (All-nil _);
  },
  c.self.invariant.1,
)

pub returns-in-None : goal.returns-in-None
returns-in-None c =
    loop_ends (the_view c.self.inside) c.pop.new.self c.pop-3.new.self c.self.inside.next (map said c.pop-2.new.self) c.new.result
    (popped_is c.pop.result c.self.inside.loops c.pop.new.self c.pop.ensures)
    (popped_is c.pop-3.result c.self.inside.turns c.pop-3.new.self c.pop-3.ensures)
    (sym (ap (next_behind c.self.inside.next) c.in-None.ensures.0))
    (ap (map said) (popped_is c.pop-2.result c.self.inside.layers c.pop-2.new.self c.pop-2.ensures) ∙ without_map said c.self.inside.layers)
    c.new.ensures
    ∙ ap left_loop c.self.view_is

pub returns-in-Some : goal.returns-in-Some
returns-in-Some c =
    loop_ends (the_view c.self.inside) c.pop.new.self c.pop-3.new.self (c.in-Some.turn.beta + c.min.result) (map said c.pop-2.new.self) c.new.result
    (popped_is c.pop.result c.self.inside.loops c.pop.new.self c.pop.ensures)
    (popped_is c.pop-3.result c.self.inside.turns c.pop-3.new.self c.pop-3.ensures)
    (ap (λ n. c.in-Some.turn.beta + n) c.min.ensures ∙ behind_turn c.self.inside.turns c.pop-3.new.self c.in-Some.turn c.self.inside.next c.in-Some.ensures)
    (ap (map said) (popped_is c.pop-2.result c.self.inside.layers c.pop-2.new.self c.pop-2.ensures) ∙ without_map said c.self.inside.layers)
    c.new.ensures
    ∙ ap left_loop c.self.view_is
