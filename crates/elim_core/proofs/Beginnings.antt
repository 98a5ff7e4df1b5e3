-- Systems that begin with others, for callers that make a system from its base.
use Rattle.std.proofs.Common.{◌≡◌, refl, ◌∙◌, List, [], ◌∷◌, length, take}
use Rattle.relation_core.specs.declared.part_rows.PartRow.{PartRow}
use Rattle.relation_core.specs.Systems.{System}
use Rattle.elim_core.specs.Reductions.{BeginsWith}

take_begins : (a b c : List PartRow) → take (length a) b ≡ a → take (length b) c ≡ b → take (length a) c ≡ a
take_begins [] b c e f = refl
take_begins (x ∷ a) [] c e f = cc
take_begins (x ∷ a) (y ∷ b) [] e f = cc
take_begins (x ∷ a) (y ∷ b) (z ∷ c) e f =
    let e1 : y ∷ take (length a) b ≡ x ∷ a = e in
    let f1 : z ∷ take (length b) c ≡ y ∷ b = f in
    let h : y ≡ x = cc in
    let k : z ≡ y = cc in
    let t : take (length a) b ≡ a = cc in
    let u : take (length b) c ≡ b = cc in
    let r : take (length a) c ≡ a = take_begins a b c t u in
    cc

-- one system after the other
pub begins_on : (base middle system : System) → BeginsWith middle base → BeginsWith system middle → BeginsWith system base
begins_on base middle system f g = record { shape = g.shape ∙ f.shape; rows = take_begins base.rows middle.rows system.rows f.rows g.rows }
