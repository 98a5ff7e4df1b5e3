use Rattle.std.proofs.Common.{◌≡◌, ◌<◌, ◌+◌, ◌∙◌, ℕ, List, cond, length, take, arith}
use Rattle.std.specs.List.{count_by}
use Rattle.candl_deps.specs.declared.held.Decided.{Decided}
use Rattle.candl_deps.specs.Found.{certificate_at, verdicts_of}
use Rattle.demo.specs.Demonstrations.{is_kept}
use Rattle.demo.proofs.Kept.{kept_in_all, kept_more}
use Rattle.demo.proofs.counting.count_kept.Goals as goal

pub loop-k-preserved : goal.loop-k-preserved
loop-k-preserved c =
    let decided : List Decided = c.args.found.now.decided in
    let k : ℕ = c.loop-k.k in
    let below : k < length decided = let test = c.loop-k-test.true in let many = c.requires in omega (arith, test, many) in
    let more : count_by is_kept (take (k + 1) (verdicts_of decided)) ≡ count_by is_kept (take k (verdicts_of decided)) + cond (is_kept (certificate_at decided k)) 1 0
    = kept_more decided k below in
    let before : c.loop-k.kept ≡ count_by is_kept (take k (verdicts_of decided)) = c.loop-k.invariant.kept in
    let this : c.kept_at-kept.result ≡ cond (is_kept (certificate_at decided k)) 1 0 = c.kept_at-kept.ensures.answer in
    let within = c.loop-k.invariant.within in
    let one = c.kept_at-kept.ensures.within in
    record { kept = omega (arith, more, before, this); within = omega (arith, within, one) }

pub returns-clause-kept : goal.returns-clause-kept
returns-clause-kept c =
    let decided : List Decided = c.args.found.now.decided in
    let k : ℕ = c.loop-k.k in
    let all : k ≡ length decided = let test = c.loop-k-test.false in let end = c.loop-k.auto.k-end in let many = c.requires in omega (arith, test, end, many) in
    c.loop-k.invariant.kept ∙ kept_in_all decided k all
