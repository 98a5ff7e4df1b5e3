use Rattle.std.proofs.Common.{◌≡◌, ◌<◌, ◌≤◌, ℕ, sym, ◌∙◌, true, false, pos, arith}
use Rattle.row_core.specs.Rows.{entry}
use Rattle.elim_core.proofs.CodeSteps.{same_cells_test, not_same_cells}
use Rattle.elim_core.proofs.Entries.{apart_by_places, same_rest}
use Rattle.elim_core.proofs.pruning.have_same_variables.Goals as goal

pub returns-then-k-next_place : goal.returns-then-k-next_place
returns-then-k-next_place g c =
    let d : ¬ (c.next_place-k.result ≡ c.next_place.result) = λ e. absurd (omega (arith, e, c.if-k-next_place.true)) in
    sym (apart_by_places c.args.n c.loop-start.start c.next_place-k.result c.next_place.result c.args.a.now.entries c.args.b.now.entries
    c.next_place-k.ensures.from c.next_place.ensures.from c.next_place-k.ensures.to c.next_place.ensures.to d
    (λ i a b. c.next_place-k.ensures.zeros i a b) (λ i a b. c.next_place.ensures.zeros i a b) c.next_place-k.ensures.found c.next_place.ensures.found)

pub returns-then-k-n : goal.returns-then-k-n
returns-then-k-n g c =
    let e : c.next_place-k.result ≡ c.next_place.result = omega (arith, c.if-k-next_place.false) in
    let f : c.next_place-k.result ≡ c.args.n = omega (arith, c.if-k-n.true) in
    let za : (i : ℕ) → c.loop-start.start ≤ i → i < c.args.n → entry c.args.a.now.entries i ≡ pos 0 = λ i a b. c.next_place-k.ensures.zeros i a (omega arith) in
    let zb : (i : ℕ) → c.loop-start.start ≤ i → i < c.args.n → entry c.args.b.now.entries i ≡ pos 0 = λ i a b. c.next_place.ensures.zeros i a (omega arith) in
    sym (same_cells_test c.args.n c.args.a.now.entries c.args.b.now.entries c.requires.left c.requires.right
    (same_rest c.loop-start.start c.args.n c.args.a.now.entries c.args.b.now.entries c.loop-start.invariant.same za zb))

pub returns-then-not-are_equal : goal.returns-then-not-are_equal
returns-then-not-are_equal g c =
    let l : c.next_place-k.result < c.args.n = omega (arith, c.if-k-n.false, c.next_place-k.ensures.to) in
    sym (not_same_cells c.args.n c.args.a.now.entries c.args.b.now.entries c.next_place-k.result l
    (λ e.
    let h : c.entry.result ≡ c.entry-in-loop-start.result = rw (c.entry.ensures, c.entry-in-loop-start.ensures) e in
    let t : c.are_equal.result ≡ true = c.are_equal.ensures.1 h in
    let f : true ≡ false = sym t ∙ c.if-not-are_equal.true in
    cc))

pub returns : goal.returns
returns g c =
    sym (same_cells_test c.args.n c.args.a.now.entries c.args.b.now.entries c.requires.left c.requires.right (λ i l. c.loop-start.invariant.same i (omega (arith, l, c.loop-start-test.false))))
