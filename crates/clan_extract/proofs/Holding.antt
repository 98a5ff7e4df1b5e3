-- Where rows, constraints and parts hold.
use Rattle.std.proofs.Common.{◌⊎◌, List, [], ◌∷◌, ◌++◌, ℤ, pos, ◌+ℤ◌, ◌*ℤ◌, Bool, true, false}
use Rattle.std.specs.Prelude.{◌↔◌}
use Rattle.relation_core.specs.Points.{Meets}
use Rattle.scop_core.specs.Meaning.{affine_at}
use Rattle.clan_extract.specs.Constraints.{FormRow, Constraint}

-- the rows hold at iterators x, parameters n and the local l
abbrev pub RowsHold : List FormRow → ℤ → List ℤ → List ℤ → Type 0
RowsHold [] l x n = Unit {0}
RowsHold (r ∷ rs) l x n = Meets r.kind (affine_at r.form x [] n +ℤ (r.local *ℤ l)) × RowsHold rs l x n

-- the rows hold: with some local, where they have one
abbrev pub HoldsBy : Bool → List FormRow → List ℤ → List ℤ → Type 0
HoldsBy true rows x n = (l : ℤ) × RowsHold rows l x n
HoldsBy false rows x n = RowsHold rows (pos 0) x n

-- the constraint holds
abbrev pub Holds : Constraint → List ℤ → List ℤ → Type 0
Holds c x n = HoldsBy c.has_local c.rows x n

-- all constraints of a part hold
abbrev pub AllHold : List Constraint → List ℤ → List ℤ → Type 0
AllHold [] x n = Unit {0}
AllHold (c ∷ cs) x n = Holds c x n × AllHold cs x n

-- some part holds
abbrev pub SomeHolds : List (List Constraint) → List ℤ → List ℤ → Type 0
SomeHolds [] x n = ⊥
SomeHolds (p ∷ ps) x n = AllHold p x n ⊎ SomeHolds ps x n

pub rows_append : (a b : List FormRow) (l : ℤ) (x n : List ℤ) → RowsHold (a ++ b) l x n ↔ (RowsHold a l x n × RowsHold b l x n)
rows_append [] b l x n = (λ h. (tt, h), λ h. h.1)
rows_append (r ∷ a) b l x n =
    let rest = rows_append a b l x n in
    (λ h. (let t = rest.0 h.1 in ((h.0, t.0), t.1)), λ h. (h.0.0, rest.1 (h.0.1, h.1)))
