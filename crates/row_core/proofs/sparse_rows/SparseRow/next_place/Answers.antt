use Rattle.std.specs.Prelude.{true, false}
use Rattle.std.proofs.Common.{◌≡◌, arith}
use Rattle.row_core.specs.Sparse.{nonzeros, place_from}
use Rattle.row_core.proofs.Places.{IsNext, next_is}
use Rattle.row_core.proofs.sparse_rows.SparseRow.next_place.Goals as goal

pub returns-clause-from : goal.returns-clause-from
returns-clause-from c =
    let e : c.place_from.result ≡ place_from c.args.start c.args.end (nonzeros 0 c.args.self.now) = rw c.entries.ensures at c.place_from.ensures in
    let n : IsNext 0 c.args.start c.args.end c.args.self.now c.place_from.result = rw e (next_is 0 c.args.start c.args.end c.args.self.now) in
    n.from c.requires.range

pub returns-clause-to : goal.returns-clause-to
returns-clause-to c =
    let e : c.place_from.result ≡ place_from c.args.start c.args.end (nonzeros 0 c.args.self.now) = rw c.entries.ensures at c.place_from.ensures in
    let n : IsNext 0 c.args.start c.args.end c.args.self.now c.place_from.result = rw e (next_is 0 c.args.start c.args.end c.args.self.now) in
    n.to

pub returns-clause-zeros : goal.returns-clause-zeros
returns-clause-zeros c =
    let e : c.place_from.result ≡ place_from c.args.start c.args.end (nonzeros 0 c.args.self.now) = rw c.entries.ensures at c.place_from.ensures in
    let n : IsNext 0 c.args.start c.args.end c.args.self.now c.place_from.result = rw e (next_is 0 c.args.start c.args.end c.args.self.now) in
    λ k a b. n.zeros k (omega arith) (omega arith)

pub returns-clause-found : goal.returns-clause-found
returns-clause-found c =
    let e : c.place_from.result ≡ place_from c.args.start c.args.end (nonzeros 0 c.args.self.now) = rw c.entries.ensures at c.place_from.ensures in
    let n : IsNext 0 c.args.start c.args.end c.args.self.now c.place_from.result = rw e (next_is 0 c.args.start c.args.end c.args.self.now) in
    λ l z.
    let f = n.found c.place_from.result (omega arith) l in
    let g : true ≡ false = rw z at f in
    cc
