use Rattle.std.proofs.Common.{◌≡◌, ◌++◌, ◌+◌, ◌≤◌, drop, map, cond}
use Rattle.std.specs.Prelude.{neg_ℤ}
use Rattle.elim_core.proofs.refutations.certificate_of.Given as goal

abbrev pub invariant-loop-k : goal.invariant-loop-k
invariant-loop-k g l = record {
  left : l.certificate ++ cond l.negate (map neg_ℤ (drop l.k l.w.entries)) (drop l.k l.w.entries) ≡ cond l.negate (map neg_ℤ (drop (l.n + 1) l.w.entries)) (drop (l.n + 1) l.w.entries);
  above : l.n + 1 ≤ l.k;
}
