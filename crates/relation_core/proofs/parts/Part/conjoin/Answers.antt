use Rattle.std.specs.Prelude.{◌≡◌}
use Rattle.std.proofs.Common.{sym, ◌∙◌, ap, subst}
use Rattle.relation_core.specs.declared.shapes.Shape.{Shape}
use Rattle.relation_core.specs.Systems.{System, IsWellFormed}
use Rattle.relation_core.proofs.Systems.{form_append}
use Rattle.relation_core.proofs.parts.Part.conjoin.Goals as goal

pub invariant_of-self-2 : goal.invariant_of-self-2
invariant_of-self-2 c =
    let shape : c.other.inside.shape ≡ c.self.inside.shape =
    ap (λ (p : System). p.shape) c.other.view_is ∙ sym c.requires ∙ sym (ap (λ (p : System). p.shape) c.self.view_is) in
    let other : IsWellFormed c.self.inside.shape c.other.inside.rows.items =
    subst (λ (s : Shape). IsWellFormed s c.other.inside.rows.items) shape c.other.invariant in
    rw (c.in_ok-append.ensures.items, c.in_ok-added.ensures, c.as_slice.ensures.value)
    (form_append _ _ _ c.self.invariant other)
