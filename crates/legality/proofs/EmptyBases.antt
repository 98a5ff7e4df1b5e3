-- Where the rows that several systems share have no rational point, none of the systems has one.
use Rattle.std.proofs.Common.{◌≡◌, refl, ◌++◌, ◌∙◌, ℕ, List, length, take, drop, sym, ap, subst}
use Rattle.std.proofs.lemmas.List.{take-append-drop}
use Rattle.std.proofs.Math.Seq.{take-length}
use Rattle.relation_core.specs.Systems.{System, columns}
use Rattle.relation_core.specs.declared.part_rows.PartRow.{PartRow}
use Rattle.relation_core.proofs.Points.{meets_front}
use Rattle.farkas_cert.specs.Certificates.{HasNoPoint}
use Rattle.elim_core.specs.Reductions.{BeginsWith}

-- rows without a point have none with more rows behind them
no_more : (n : ℕ) (front behind : List PartRow) → HasNoPoint n front → HasNoPoint n (front ++ behind)
no_more n front behind none x q long point = none x q long (record { positive = point.positive; meets = meets_front front behind _ point.meets })

-- where a base has no rational point, a system that begins with its rows has none
pub none_behind : (system base : System) → BeginsWith system base → HasNoPoint (columns base.shape) base.rows → HasNoPoint (columns system.shape) system.rows
none_behind system base begins none =
    let k = length base.rows in
    let same : base.rows ++ drop k system.rows ≡ system.rows = ap (λ front. front ++ drop k system.rows) (sym begins.rows) ∙ take-append-drop k system.rows in
    subst (λ shape. HasNoPoint (columns shape) system.rows) (sym begins.shape)
    (subst (λ rows. HasNoPoint (columns base.shape) rows) same (no_more (columns base.shape) base.rows (drop k system.rows) none))

-- a system begins with its own rows
pub begins_itself : (system base : System) → base ≡ system → BeginsWith system base
begins_itself system base is = subst (λ s. BeginsWith s base) is (record { shape = refl; rows = take-length base.rows })
