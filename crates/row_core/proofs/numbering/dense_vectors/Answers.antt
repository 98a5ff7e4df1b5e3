use Rattle.std.proofs.Common.{◌≡◌, ℕ, ℤ, ◌<◌, ◌^◌, Bor, ◌∙◌, ap, sym, subst, List, length, map, slice_get, Some, rules, arith}
use Rattle.std.specs.List.{All, Contains}
use Rattle.std.specs.List.Sorted.{IsSortedBy}
use Rattle.std.proofs.lemmas.Option.{slice_get_within}
use Rattle.std.proofs.lemmas.List.{length-set}
use Rattle.row_core.specs.Dense.{dense_among}
use Rattle.row_core.specs.DenseOrder.{numbered_after}
use Rattle.row_core.proofs.DenseOrder.{below}
use Rattle.row_core.proofs.DensePlaces.{below_none, next_at, few_at, at_item, known_at, before_item, after_item, done_item, made_all}
use Rattle.row_core.proofs.numbering.dense_vectors.Goals as goal

pub loop-pair-init : goal.loop-pair-init
loop-pair-init c = record {
  count = search rules;
  numbers = search rules;
  known = tt;
  before = λ k d l. absurd (omega arith);
  after = λ k d l m. below_none _;
  done = λ k d l. absurd (omega arith);
}

pub next_numbers-requires : goal.next_numbers-requires
next_numbers-requires c =
    let inv = c.loop-pair.invariant in
    let V = c.args.vectors.now in
    let p : ℕ × Bor (List ℤ) = c.pair-item.result in
    let items : List (ℕ × Bor (List ℤ)) = c.as_slice-pair-items.result.now in
    let same : c.in_ok-placed.placed.items ≡ items = search rules in
    let each = subst (All (λ (q : ℕ × Bor (List ℤ)). slice_get V q.0 ≡ Some q.1.now)) same c.in_ok-placed.ensures.each in
    let all = subst (λ (ps : List (ℕ × Bor (List ℤ))). (k : ℕ) → k < length V → Contains (map (λ (q : ℕ × Bor (List ℤ)). q.0) ps) k) same c.in_ok-placed.ensures.all in
    let up = subst (IsSortedBy (λ (p q : ℕ × Bor (List ℤ)). below p.1.now q.1.now)) same c.in_ok-placed.ensures.sorted in
    let next = next_at V items c.loop-pair.pair-index p c.loop-pair.former.now each all up c.loop-pair-test.true c.pair-item.is inv.known inv.before inv.after in
    let numbers : c.as_slice.result.now ≡ dense_among V c.loop-pair.former.now = c.as_slice.ensures ∙ inv.numbers in
    subst (λ ns. All (λ n. n < 2 ^ 32) (numbered_after c.loop-pair.former.now ns p.1.now)) (sym numbers) (few_at V p.1.now _ next c.requires)

pub set-requires : goal.set-requires
set-requires c =
    let inv = c.loop-pair.invariant in
    let V = c.args.vectors.now in
    let p : ℕ × Bor (List ℤ) = c.pair-item.result in
    let items : List (ℕ × Bor (List ℤ)) = c.as_slice-pair-items.result.now in
    let same : c.in_ok-placed.placed.items ≡ items = search rules in
    let each = subst (All (λ (q : ℕ × Bor (List ℤ)). slice_get V q.0 ≡ Some q.1.now)) same c.in_ok-placed.ensures.each in
    let here = at_item V items c.loop-pair.pair-index p each c.loop-pair-test.true c.pair-item.is in
    let within : p.0 < length V = slice_get_within V p.0 p.1.now here in
    let count : length c.loop-pair.made ≡ length V = inv.count in
    omega arith

pub loop-pair-preserved : goal.loop-pair-preserved
loop-pair-preserved c =
    let inv = c.loop-pair.invariant in
    let V = c.args.vectors.now in
    let p : ℕ × Bor (List ℤ) = c.pair-item.result in
    let items : List (ℕ × Bor (List ℤ)) = c.as_slice-pair-items.result.now in
    let same : c.in_ok-placed.placed.items ≡ items = search rules in
    let each = subst (All (λ (q : ℕ × Bor (List ℤ)). slice_get V q.0 ≡ Some q.1.now)) same c.in_ok-placed.ensures.each in
    let all = subst (λ (ps : List (ℕ × Bor (List ℤ))). (k : ℕ) → k < length V → Contains (map (λ (q : ℕ × Bor (List ℤ)). q.0) ps) k) same c.in_ok-placed.ensures.all in
    let up = subst (IsSortedBy (λ (p q : ℕ × Bor (List ℤ)). below p.1.now q.1.now)) same c.in_ok-placed.ensures.sorted in
    let next = next_at V items c.loop-pair.pair-index p c.loop-pair.former.now each all up c.loop-pair-test.true c.pair-item.is inv.known inv.before inv.after in
    let numbers : c.as_slice.result.now ≡ dense_among V c.loop-pair.former.now = c.as_slice.ensures ∙ inv.numbers in
    let here = at_item V items c.loop-pair.pair-index p each c.loop-pair-test.true c.pair-item.is in
    let made : c.in_ok-numbers.numbers ≡ numbered_after c.loop-pair.former.now c.as_slice.result.now p.1.now = c.in_ok-numbers.ensures in
    let number : c.in_ok-numbers.numbers ≡ dense_among V p.1.now = made ∙ (ap (λ ns. numbered_after c.loop-pair.former.now ns p.1.now) numbers ∙ next) in
    let copy : c.in_ok-copied.field-0 ≡ c.in_ok-numbers.numbers = search rules in
    record {
      count = ap length c.set.ensures.items ∙ (length-set _ _ _ ∙ inv.count);
      numbers = number;
      known = known_at V p.0 p.1.now here;
      before = before_item items c.loop-pair.pair-index p up c.loop-pair-test.true c.pair-item.is;
      after = after_item items c.loop-pair.pair-index p up c.loop-pair-test.true c.pair-item.is;
      done = done_item V c.loop-pair.made items c.loop-pair.pair-index p inv.count here c.loop-pair-test.true c.pair-item.is inv.done c.in_ok-copied.field-0 (copy ∙ number) c.set.new.self c.set.ensures.items;
    }

pub returns : goal.returns
returns c =
    let inv = c.loop-pair.invariant in
    let V = c.args.vectors.now in
    let same : c.in_ok-placed.placed.items ≡ c.as_slice-pair-items.result.now = search rules in
    let each = subst (All (λ (q : ℕ × Bor (List ℤ)). slice_get V q.0 ≡ Some q.1.now)) same c.in_ok-placed.ensures.each in
    let all = subst (λ (ps : List (ℕ × Bor (List ℤ))). (k : ℕ) → k < length V → Contains (map (λ (q : ℕ × Bor (List ℤ)). q.0) ps) k) same c.in_ok-placed.ensures.all in
    made_all V c.loop-pair.made c.as_slice-pair-items.result.now c.loop-pair.pair-index inv.count c.loop-pair-test.false each all inv.done (0, c.loop-pair.former)
