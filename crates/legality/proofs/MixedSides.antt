-- The statements of an edited SCoP under the order of their originals.
use Rattle.std.proofs.Common.{◌≡◌, ℕ, zero, suc, List, [], ◌∷◌, length, slice_get, All, Option, Some, None, IsSomeAnd, refl, ap, sym, subst}
use Rattle.std.proofs.lemmas.List.Elements.{All-head, All-tail, All-cons, All-nil}
use Rattle.scop_data.specs.declared.statements.Statement.{Statement}
use Rattle.scop_core.specs.ReadBack.{IsSolvedSchedule}
use Rattle.scop_core.specs.Shapes.{IsShapedStatement, IsFormedStatement}
use Rattle.dependence_systems.specs.Sides.{Side, member, schedule_in, under}
use Rattle.dependence_systems.specs.Sides.{member_or}
use Rattle.dependence_systems.specs.Fits.{SideFits}
use Rattle.dependence_systems.specs.Originals.{ArePieces}
use Rattle.dependence_systems.proofs.Pairs.{all_member}
use Rattle.dependence_systems.proofs.ScopPairs.{Matches, side_fits}
use Rattle.legality.specs.Mixed.{mixed, mixed_originals, mixed_at}
use Rattle.legality.specs.Edits.{IsPieceOf, ArePiecesOf}
use Rattle.legality.proofs.MixedStamps.{mixed_solved}

same_value : {X : Type 0} {a b : X} → Some a ≡ Some b → a ≡ b
same_value e = cc

mixed_into : (old now : List Statement) (of : List ℕ) → ArePiecesOf old now of → (j : ℕ) (s : Statement) → slice_get now j ≡ Some s
    → slice_get (mixed_originals old now of) j ≡ Some (under s (mixed_at old now of (suc j)))
mixed_into old [] of h j s e = absurd (cc)
mixed_into old (t ∷ now) [] h j s e = absurd h
mixed_into old (t ∷ now) (k ∷ of) h zero s e = ap (λ u. Some (under u (mixed (schedule_in (member old k)) t.schedule))) (same_value e)
mixed_into old (t ∷ now) (k ∷ of) h (suc j) s e = mixed_into old now of h.1 j s e

mixed_back : (old now : List Statement) (of : List ℕ) → ArePiecesOf old now of → (j : ℕ) (side : Side) → slice_get (mixed_originals old now of) j ≡ Some side
    → (s : Statement) × (slice_get now j ≡ Some s) × (side ≡ under s (mixed_at old now of (suc j)))
mixed_back old [] of h j side e = absurd (cc)
mixed_back old (t ∷ now) [] h j side e = absurd h
mixed_back old (t ∷ now) (k ∷ of) h zero side e = (t, refl, sym (same_value e))
mixed_back old (t ∷ now) (k ∷ of) h (suc j) side e = mixed_back old now of h.1 j side e

pub mixed_match : (old now : List Statement) (of : List ℕ) → ArePiecesOf old now of → Matches now (mixed_originals old now of) (mixed_at old now of)
mixed_match old now of h = record { into = λ k s e. into k s e; back = λ k side e. back k side e }
  where
    into : (k : ℕ) (s : Statement) → member now k ≡ Some s → member (mixed_originals old now of) k ≡ Some (under s (mixed_at old now of k))
    into zero s e = absurd (cc)
    into (suc j) s e = mixed_into old now of h j s e

    back : (k : ℕ) (side : Side) → member (mixed_originals old now of) k ≡ Some side
        → (s : Statement) × (member now k ≡ Some s) × (side ≡ under s (mixed_at old now of k))
    back zero side e = absurd (cc)
    back (suc j) side e = mixed_back old now of h j side e

-- the original of a statement, and that the statement is a piece of it
pub record HasOriginal (old : List Statement) (of : List ℕ) (k : ℕ) (s : Statement) : Type 0 where
  pub original : Statement
  pub original_is : member old (member_or 0 (member of k)) ≡ Some original
  pub piece : IsPieceOf original s

piece_of : (found : Option Statement) (s : Statement) → IsSomeAnd found (λ original. IsPieceOf original s) → (o : Statement) × (found ≡ Some o) × IsPieceOf o s
piece_of None s h = absurd h
piece_of (Some o) s h = (o, refl, h)

original_at : (old now : List Statement) (of : List ℕ) → ArePiecesOf old now of → (j : ℕ) (s : Statement) → slice_get now j ≡ Some s → HasOriginal old of (suc j) s
original_at old [] of h j s e = absurd (cc)
original_at old (t ∷ now) [] h j s e = absurd h
original_at old (t ∷ now) (k ∷ of) h zero s e =
    let p = piece_of (member old k) t h.0 in
    record { original = p.0; original_is = p.1; piece = subst (λ u. IsPieceOf p.0 u) (same_value e) p.2 }
original_at old (t ∷ now) (k ∷ of) h (suc j) s e =
    let r = original_at old now of h.1 j s e in record { original = r.original; original_is = r.original_is; piece = r.piece }

pub original_of : (old now : List Statement) (of : List ℕ) → ArePiecesOf old now of → (k : ℕ) (s : Statement) → member now k ≡ Some s → HasOriginal old of k s
original_of old now of h zero s e = absurd (cc)
original_of old now of h (suc j) s e = original_at old now of h j s e

-- pieces have as many iterators as their originals
pub pieces_are : (old now : List Statement) (of : List ℕ) → ArePiecesOf old now of → ArePieces old now of
pieces_are old [] [] h = tt
pieces_are old [] (k ∷ of) h = absurd h
pieces_are old (s ∷ now) [] h = absurd h
pieces_are old (s ∷ now) (k ∷ of) h =
    let p = piece_of (member old k) s h.0 in
    (subst (λ found. IsSomeAnd found (λ original. length original.body.iterators ≡ length s.body.iterators)) (sym p.1) p.2.iterators, pieces_are old now of h.1)

-- the mixed sides fit
pub mixed_fit : (N : ℕ) (old now : List Statement) (of : List ℕ) → All (IsShapedStatement N) old → All (IsShapedStatement N) now → All IsFormedStatement now
    → ArePiecesOf old now of → All (SideFits N) (mixed_originals old now of)
mixed_fit N old [] of a b c h = All-nil (SideFits N)
mixed_fit N old (s ∷ now) [] a b c h = absurd h
mixed_fit N old (s ∷ now) (k ∷ of) a b c h =
    let p = piece_of (member old k) s h.0 in
    let shaped : IsShapedStatement N s = All-head (IsShapedStatement N) s now b in
    let before : IsSolvedSchedule (length s.body.iterators) N p.0.schedule
    = subst (λ i. IsSolvedSchedule i N p.0.schedule) p.2.iterators (all_member (IsShapedStatement N) old k p.0 p.1 a).schedule in
    let solved : IsSolvedSchedule (length s.body.iterators) N (mixed (schedule_in (member old k)) s.schedule)
    = subst (λ found. IsSolvedSchedule (length s.body.iterators) N (mixed (schedule_in found) s.schedule)) (sym p.1)
    (mixed_solved (length s.body.iterators) N p.0.schedule s.schedule before shaped.schedule p.2.floors) in
    All-cons (SideFits N) (under s (mixed (schedule_in (member old k)) s.schedule)) (mixed_originals old now of)
    (side_fits N s (mixed (schedule_in (member old k)) s.schedule) shaped (All-head IsFormedStatement s now c) solved)
    (mixed_fit N old now of a (All-tail (IsShapedStatement N) s now b) (All-tail IsFormedStatement s now c) h.1)
