-- Two statements whose spans are apart have no entries.
use Rattle.std.proofs.Common.{◌≡◌, ℕ, List, ◌++◌, IsSome, is_some, Some, ap, sym, ◌∙◌, subst, append-nil}
use Rattle.scop_data.specs.declared.statements.Statement.{Statement}
use Rattle.scop_core.specs.ScopData.{ScopData}
use Rattle.dependence_systems.specs.declared.dependences.Dep.{Dep}
use Rattle.dependence_systems.specs.declared.spans.Span.{Span}
use Rattle.dependence_systems.specs.Sides.{member, member_or, no_side, sides}
use Rattle.dependence_systems.specs.Entries.{side_at, ends_of, between}
use Rattle.dependence_systems.specs.Originals.{HasOriginals}
use Rattle.dependence_systems.specs.Spans.{Covers, CoverEach, AreApart}
use Rattle.dependence_systems.proofs.ScopPairs.{originals_match}
use Rattle.dependence_systems.proofs.SpanLaws.{span_of_number, apart_among}

same_span : {p q : Span} → Some p ≡ Some q → p ≡ q
same_span e = cc

-- a statement of a number has a span
pub span_there : (spans : List Span) (now xs : List Statement) (k : ℕ) (s : Statement) → CoverEach spans now → xs ≡ now → member xs k ≡ Some s → IsSome (member spans k)
span_there spans now xs k s c e n = ap (λ z. is_some z) (span_of_number spans now c k s (ap (λ z. member z k) (sym e) ∙ n)).span_is

-- which covers its accesses
covered : (spans : List Span) (now xs : List Statement) (k : ℕ) (s : Statement) (p : Span) → CoverEach spans now → xs ≡ now → member xs k ≡ Some s → member spans k ≡ Some p → Covers p s.accesses
covered spans now xs k s p c e n m =
    let h = span_of_number spans now c k s (ap (λ z. member z k) (sym e) ∙ n) in
    subst (λ z. Covers z s.accesses) (same_span (sym h.span_is ∙ m)) h.covers

-- the accesses of a side are those of its statement
accesses_at : (old now : ScopData) (originals : List ℕ) → HasOriginals old now originals → (xs : List Statement) (k : ℕ) (s : Statement) → xs ≡ now.statements → member xs k ≡ Some s
    → (side_at (sides old now originals) k).1.accesses ≡ s.accesses
accesses_at old now originals has xs k s e n =
    ap (λ found. (member_or no_side found).accesses) ((originals_match old.statements now.statements originals has.pieces).into k s (ap (λ z. member z k) (sym e) ∙ n))

pub apart_pair : (old now : ScopData) (originals : List ℕ) (spans : List Span) (list : List Dep) → HasOriginals old now originals → CoverEach spans now.statements
    → (j k : ℕ) (xs ys : List Statement) (s t : Statement) (p q : Span) → xs ≡ now.statements → member xs j ≡ Some s → ys ≡ now.statements → member ys k ≡ Some t
    → member spans j ≡ Some p → member spans k ≡ Some q → AreApart p q → list ≡ list ++ between (side_at (sides old now originals) j) (side_at (sides old now originals) k)
apart_pair old now originals spans list has c j k xs ys s t p q ex es ey et ep eq apart =
    let first = side_at (sides old now originals) j in
    let second = side_at (sides old now originals) k in
    let cs : Covers p first.1.accesses = subst (λ z. Covers p z) (sym (accesses_at old now originals has xs j s ex es)) (covered spans now.statements xs j s p c ex es ep) in
    let ct : Covers q second.1.accesses = subst (λ z. Covers q z) (sym (accesses_at old now originals has ys k t ey et)) (covered spans now.statements ys k t q c ey et eq) in
    sym (ap (λ z. list ++ z) (apart_among (ends_of first second) p q first.1.accesses second.1.accesses apart cs ct) ∙ append-nil list)
