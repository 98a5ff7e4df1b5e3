use Rattle.std.proofs.Common.{arith}
use Rattle.std.proofs.lemmas.Nat.Gcd.{IsGcd-from_zero, IsGcd-from_mod, same_from_IsGcd}
use Rattle.elim_core.proofs.Quotients.{gcd_is}
use Rattle.elim_core.proofs.division.gcd.Goals as goal

pub loop-b-preserved : goal.loop-b-preserved
loop-b-preserved c = record {
  left = c.loop-b.invariant.right;
  right = omega (arith, c.loop-b.invariant.right);
  kept = λ g h. c.loop-b.invariant.kept g (IsGcd-from_mod _ _ g h);
}

pub returns-clause-value : goal.returns-clause-value
returns-clause-value c =
    same_from_IsGcd c.args.first c.args.second _ _
    (c.loop-b.invariant.kept c.loop-b.a (IsGcd-from_zero c.loop-b.a c.loop-b.b (omega arith)))
    (gcd_is c.args.first c.args.second)
