use Rattle.std.specs.Prelude.{◌≡◌, ◌<◌, ◌≤◌}
use Rattle.std.proofs.Common.{ap, arith}
use Rattle.relation_core.specs.Systems.{System}
use Rattle.relation_core.proofs.Systems.{form_with_local}
use Rattle.relation_core.proofs.parts.Part.with_column.Goals as goal

pub invariant_of-result : goal.invariant_of-result
invariant_of-result c =
    let part : System = record { shape = c.self.inside.shape; rows = c.self.inside.rows.items } in
    let locals : part.shape.locals ≡ c.args.self.now.shape.locals = ap (λ (p : System). p.shape.locals) c.self.view_is in
    let place : c.args.at ≤ part.shape.locals = omega arith in
    let room : part.shape.locals < 65536 = omega arith in
    rw (c.in_ok-rows.ensures, c.as_slice.ensures.value) (form_with_local part c.args.at place room c.self.invariant)
