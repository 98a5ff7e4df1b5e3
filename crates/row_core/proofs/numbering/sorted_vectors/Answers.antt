use Rattle.std.proofs.Common.{◌≡◌, ℕ, ℤ, Bor, List, rules, ap, is_lt}
use Rattle.std.specs.Prelude.{slice_get, Some}
use Rattle.std.proofs.lemmas.List.Sorted.{IsPermutation-map, Contains-permutation, All-permutation, ranks_by, answers_always}
use Rattle.std.specs.Cmp.Lexicographic.{lists_total}
use Rattle.std.proofs.lemmas.Cmp.{int_cmp_total}
use Rattle.row_core.proofs.numbering.sorted_vectors.Goals as goal

pub returns-clause-each : goal.returns-clause-each
returns-clause-each c = All-permutation (λ (p : ℕ × Bor (List ℤ)). slice_get c.args.vectors.now p.0 ≡ Some p.1.now) c.in_ok-placed.placed.items c.sort_by.new.self.items c.sort_by.ensures.permutation c.in_ok-placed.ensures.each

pub returns-clause-all : goal.returns-clause-all
returns-clause-all c = λ k b. Contains-permutation _ _ k (IsPermutation-map (λ (p : ℕ × Bor (List ℤ)). p.0) c.in_ok-placed.placed.items c.sort_by.new.self.items c.sort_by.ensures.permutation) (c.in_ok-placed.ensures.all k b)

pub returns-clause-sorted : goal.returns-clause-sorted
returns-clause-sorted c = c.in_ok-sort_by.ensures.sorted _ (ranks_by (lists_total int_cmp_total) (λ (p : ℕ × Bor (List ℤ)). p.1.now)) (answers_always _ _ _ (λ f a r f' k. ap is_lt (search rules)))
