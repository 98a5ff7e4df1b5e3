use Rattle.std.proofs.Common.{◌≡◌, ◌<◌, ◌^◌, ◌∙◌, sym, ap, subst, length}
use Rattle.beta_tree.specs.Vectors.{NoneEmpty, PrefixFree}
use Rattle.scop_core.specs.ScopData.{betas_in}
use Rattle.clay_commands.proofs.Closings.{can_number}
use Rattle.clay_commands.proofs.drafting.dense_vectors.Goals as goal

pub dense-requires-clause-few : goal.dense-requires-clause-few
dense-requires-clause-few c =
    let is : c.in_ok-vectors.vectors ≡ betas_in c.args.scop.now.statements = c.in_ok-vectors.ensures ∙ ap (λ s. betas_in s) c.statements-statements.ensures.answer in
    subst (λ V. length V < 2 ^ 32) (sym is) (can_number c.args.scop.now c.statements-statements.ensures.valid).few

pub dense-requires-clause-filled : goal.dense-requires-clause-filled
dense-requires-clause-filled c =
    let is : c.in_ok-vectors.vectors ≡ betas_in c.args.scop.now.statements = c.in_ok-vectors.ensures ∙ ap (λ s. betas_in s) c.statements-statements.ensures.answer in
    subst (λ V. NoneEmpty V) (sym is) (can_number c.args.scop.now c.statements-statements.ensures.valid).filled

pub dense-requires-clause-free : goal.dense-requires-clause-free
dense-requires-clause-free c =
    let is : c.in_ok-vectors.vectors ≡ betas_in c.args.scop.now.statements = c.in_ok-vectors.ensures ∙ ap (λ s. betas_in s) c.statements-statements.ensures.answer in
    subst (λ V. PrefixFree V) (sym is) (can_number c.args.scop.now c.statements-statements.ensures.valid).free
