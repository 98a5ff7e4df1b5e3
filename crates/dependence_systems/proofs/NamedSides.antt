-- What an entry of the list of two SCoPs names is there, and its system can be built.
use Rattle.std.proofs.Common.{◌≡◌, ℕ, zero, suc, ◌+◌, ◌^◌, ◌<◌, ◌≤◌, List, [], ◌∷◌, length, slice_get, All, Option, Some, None, IsSomeAnd, IsSome, is_some, refl, ap, sym, ◌∙◌, subst, arith}
use Rattle.std.proofs.lemmas.List.Elements.{All-head, All-tail, All-cons, All-nil}
use Rattle.relation_core.specs.Systems.{System, HasLimits}
use Rattle.scop_data.specs.declared.accesses.Access.{Access}
use Rattle.scop_data.specs.declared.statements.Statement.{Statement}
use Rattle.scop_core.specs.ScopData.{ScopData}
use Rattle.scop_core.specs.Sequences.{In}
use Rattle.scop_core.specs.KeptLimits.{StatementKeepsLimits}
use Rattle.scop_core.specs.Printable.{IsDomainPart}
use Rattle.scop_core.specs.Shapes.{IsShapedStatement}
use Rattle.scop_core.specs.Validity.{IsValid}
use Rattle.scop_core.proofs.KeptLimits.{keeps_limits}
use Rattle.scop_core.proofs.ScopShapes.{scops_are_formed, scops_are_shaped}
use Rattle.dependence_systems.specs.declared.dependences.Dep.{Dep}
use Rattle.dependence_systems.specs.Sides.{Side, member, schedule_in, under, under_originals, sides, member_or, no_side}
use Rattle.dependence_systems.specs.Entries.{side_at, entries}
use Rattle.dependence_systems.specs.Fits.{SideFits}
use Rattle.dependence_systems.specs.Originals.{IsPiece, ArePieces, HasOriginals}
use Rattle.dependence_systems.specs.Systems.{Pairing, pairing, pairing_of, no_part, no_access, system_shape}
use Rattle.dependence_systems.specs.Lookups.{HasSide, IsReady, IsCounted}
use Rattle.dependence_systems.proofs.EntryFound.{IsEntry, listed_entry}
use Rattle.dependence_systems.proofs.Pairs.{all_member, named, is_named, named_fits}
use Rattle.dependence_systems.proofs.ScopPairs.{originals_match, originals_fit}

is_there : {X : Type 0} (found : Option X) (x : X) → found ≡ Some x → IsSome found
is_there found x e = ap (λ z. is_some z) e

-- the original of a piece
piece_at : (old now : List Statement) (originals : List ℕ) → ArePieces old now originals → (j : ℕ) (s : Statement) → slice_get now j ≡ Some s
    → IsSomeAnd (slice_get originals j) (λ k. IsPiece old s k)
piece_at old [] originals h j s e = absurd (cc)
piece_at old (t ∷ now) [] h j s e = absurd h
piece_at old (t ∷ now) (k ∷ originals) h zero s e = subst (λ z. IsPiece old z k) (let same : t ≡ s = cc in same) h.0
piece_at old (t ∷ now) (k ∷ originals) h (suc j) s e = piece_at old now originals h.1 j s e

piece_member : (old now : List Statement) (originals : List ℕ) → ArePieces old now originals → (k : ℕ) (s : Statement) → member now k ≡ Some s
    → IsSomeAnd (member originals k) (λ j. IsPiece old s j)
piece_member old now originals h zero s e = absurd (cc)
piece_member old now originals h (suc k) s e = piece_at old now originals h k s e

piece_is_there : (old : List Statement) (s : Statement) (found : Option ℕ) → IsSomeAnd found (λ j. IsPiece old s j) → IsSomeAnd found (λ j. IsSome (member old j))
piece_is_there old s None h = absurd h
piece_is_there old s (Some j) h = by (member old j) h
  where
    by : (o : Option Statement) → IsSomeAnd o (λ original. length original.body.iterators ≡ length s.body.iterators) → IsSome o
    by None g = absurd g
    by (Some original) g = refl

-- the side of a number, and its access and part, are in the SCoPs
has_side : (old now : List Statement) (originals : List ℕ) → ArePieces old now originals → (k access part : ℕ) (side : Side) (a : Access) (p : System)
    → member (under_originals old now originals) k ≡ Some side → member side.accesses access ≡ Some a → member side.domain part ≡ Some p → HasSide old now originals k access part
has_side old now originals h k access part side a p es ea ep =
    let s = (originals_match old now originals h).back k side es in
    let accesses : IsSome (member s.0.accesses access) = is_there (member s.0.accesses access) a (sym (ap (λ u. member u.accesses access) s.2) ∙ ea) in
    let parts : IsSome (member s.0.domain part) = is_there (member s.0.domain part) p (sym (ap (λ u. member u.domain part) s.2) ∙ ep) in record {
      statement = subst (λ found. IsSomeAnd found (λ t. IsSome (member t.accesses access) × IsSome (member t.domain part))) (sym s.1) (accesses, parts);
      original = piece_is_there old s.0 (member originals k) (piece_member old now originals h k s.0 s.1);
    }

pub has_source : (old now : ScopData) (originals : List ℕ) (e : Dep) → HasOriginals old now originals → In e (entries (sides old now originals))
    → HasSide old.statements now.statements originals e.source e.source_access e.source_part
has_source old now originals e has listed =
    let i = listed_entry (sides old now originals) e listed in
    has_side old.statements now.statements originals has.pieces e.source e.source_access e.source_part i.source i.first i.source_domain i.source_is i.first_is i.source_domain_is

pub has_target : (old now : ScopData) (originals : List ℕ) (e : Dep) → HasOriginals old now originals → In e (entries (sides old now originals))
    → HasSide old.statements now.statements originals e.target e.target_access e.target_part
has_target old now originals e has listed =
    let i = listed_entry (sides old now originals) e listed in
    has_side old.statements now.statements originals has.pieces e.target e.target_access e.target_part i.target i.second i.target_domain i.target_is i.second_is i.target_domain_is

-- what was found for one side
pub record Found (old now : List Statement) (originals : List ℕ) (k access part : ℕ) (s original : Statement) (j : ℕ) (a : Access) (p : System) : Type 0 where
  pub statement_is : member now k ≡ Some s
  pub number_is : member originals k ≡ Some j
  pub original_is : member old j ≡ Some original
  pub access_is : member s.accesses access ≡ Some a
  pub part_is : member s.domain part ≡ Some p

-- the side is the statement under its original's schedule
found_side : (old now : List Statement) (originals : List ℕ) → ArePieces old now originals → (k access part : ℕ) (s original : Statement) (j : ℕ) (a : Access) (p : System)
    → Found old now originals k access part s original j a p → member (under_originals old now originals) k ≡ Some (under s original.schedule)
found_side old now originals h k access part s original j a p f =
    (originals_match old now originals h).into k s f.statement_is
    ∙ ap (λ i. Some (under s (schedule_in (member old (member_or 0 i))))) f.number_is ∙ ap (λ o. Some (under s (schedule_in o))) f.original_is

-- what was found for both sides is what the entry's system is made of
pub pairing_found : (old now : ScopData) (originals : List ℕ) (e : Dep) → HasOriginals old now originals
    → (s os t ot : Statement) (i j : ℕ) (a b : Access) (p q : System)
    → Found old.statements now.statements originals e.source e.source_access e.source_part s os i a p
    → Found old.statements now.statements originals e.target e.target_access e.target_part t ot j b q
    → pairing_of now.context (sides old now originals) e ≡ pairing now.context p q a b os.schedule ot.schedule
pairing_found old now originals e has s os t ot i j a b p q f g =
    let P : Side → Side → Pairing = λ u v. pairing now.context (member_or no_part (member u.domain e.source_part)) (member_or no_part (member v.domain e.target_part))
    (member_or no_access (member u.accesses e.source_access)) (member_or no_access (member v.accesses e.target_access)) u.schedule v.schedule in
    let Q : Option System → Option System → Option Access → Option Access → Pairing = λ x y c d.
    pairing now.context (member_or no_part x) (member_or no_part y) (member_or no_access c) (member_or no_access d) os.schedule ot.schedule in
    let su = found_side old.statements now.statements originals has.pieces e.source e.source_access e.source_part s os i a p f in
    let tv = found_side old.statements now.statements originals has.pieces e.target e.target_access e.target_part t ot j b q g in
    let one : pairing_of now.context (sides old now originals) e ≡ P (under s os.schedule) (under t ot.schedule)
    = ap (λ z. P (member_or no_side z) (member_or no_side (member (sides old now originals) e.target))) su ∙ ap (λ z. P (under s os.schedule) (member_or no_side z)) tv in
    let y = member t.domain e.target_part in
    let c = member s.accesses e.source_access in
    let d = member t.accesses e.target_access in
    one ∙ (ap (λ z. Q z y c d) f.part_is ∙ (ap (λ z. Q (Some p) z c d) g.part_is ∙ (ap (λ z. Q (Some p) (Some q) z d) f.access_is ∙ ap (λ z. Q (Some p) (Some q) (Some a) z) g.access_is)))

-- sides of few columns
record IsSmall (side : Side) : Type 0 where
  iterators : side.iterators ≤ 12
  locals : All (λ part. part.shape.locals ≤ 24) side.domain
  floors : length side.schedule.floors ≤ 24

few_floors : (old : List Statement) (j : ℕ) → All StatementKeepsLimits old → length (schedule_in (member old j)).floors ≤ 24
few_floors old j all = by (member old j) refl
  where
    by : (found : Option Statement) → member old j ≡ found → length (schedule_in found).floors ≤ 24
    by None e = omega arith
    by (Some s) e = (all_member StatementKeepsLimits old j s e all).floors

small_sides : (old now : List Statement) (originals : List ℕ) → All StatementKeepsLimits old → All StatementKeepsLimits now → All IsSmall (under_originals old now originals)
small_sides old [] originals a b = All-nil IsSmall
small_sides old (s ∷ now) [] a b = All-nil IsSmall
small_sides old (s ∷ now) (k ∷ originals) a b =
    let small = All-head StatementKeepsLimits s now b in
    All-cons IsSmall (under s (schedule_in (member old k))) (under_originals old now originals)
    (record { iterators = small.iterators; locals = small.locals; floors = few_floors old k a })
    (small_sides old now originals a (All-tail StatementKeepsLimits s now b))

named_limits : (context : System) (sides : List Side) (e : Dep) (h : IsEntry sides e) → context.shape.parameters ≤ 16 → All (SideFits context.shape.parameters) sides → All IsSmall sides
    → HasLimits (system_shape (named context sides e h))
named_limits context sides e h few fits small =
    let N = context.shape.parameters in
    let s = all_member IsSmall sides e.source h.source h.source_is small in
    let t = all_member IsSmall sides e.target h.target h.target_is small in
    let p = all_member (IsDomainPart h.source.iterators N) h.source.domain e.source_part h.source_domain h.source_domain_is (all_member (SideFits N) sides e.source h.source h.source_is fits).domain in
    let q = all_member (IsDomainPart h.target.iterators N) h.target.domain e.target_part h.target_domain h.target_domain_is (all_member (SideFits N) sides e.target h.target h.target_is fits).domain in
    let l : h.source_domain.shape.locals ≤ 24 = all_member (λ part. part.shape.locals ≤ 24) h.source.domain e.source_part h.source_domain h.source_domain_is s.locals in
    let k : h.target_domain.shape.locals ≤ 24 = all_member (λ part. part.shape.locals ≤ 24) h.target.domain e.target_part h.target_domain h.target_domain_is t.locals in record {
      outputs = omega (arith, p.outputs, s.iterators);
      inputs = omega (arith, q.outputs, t.iterators);
      locals = omega (arith, l, k, s.floors, t.floors);
      parameters = omega (arith, few);
    }

pub is_ready : (old now : ScopData) (originals : List ℕ) (e : Dep) → IsValid old → IsValid now → HasOriginals old now originals → In e (entries (sides old now originals))
    → IsReady (pairing_of now.context (sides old now originals) e) e.level
is_ready old now originals e valid_old valid_now has listed =
    let i = listed_entry (sides old now originals) e listed in
    let N = now.context.shape.parameters in
    let old_shaped : All (IsShapedStatement N) old.statements = subst (λ c. All (IsShapedStatement c.shape.parameters) old.statements) has.context (scops_are_shaped old valid_old).statements in
    let fits = originals_fit N old.statements now.statements originals old_shaped (scops_are_shaped now valid_now).statements (scops_are_formed now valid_now).statements has.pieces in
    let small = small_sides old.statements now.statements originals (keeps_limits old valid_old).each (keeps_limits now valid_now).each in
    let ready : IsReady (named now.context (sides old now originals) e i) e.level = record {
      limits = named_limits now.context (sides old now originals) e i (keeps_limits now valid_now).parameters fits small;
      fits = named_fits now.context (sides old now originals) e i (scops_are_shaped now valid_now).context fits;
      is_level = i.level;
    } in
    subst (λ m. IsReady m e.level) (sym (is_named now.context (sides old now originals) e i)) ready

-- for what was found
pub found_ready : (old now : ScopData) (originals : List ℕ) (e : Dep) → IsValid old → IsValid now → HasOriginals old now originals → In e (entries (sides old now originals))
    → (m : Pairing) → pairing_of now.context (sides old now originals) e ≡ m → IsReady m e.level
found_ready old now originals e valid_old valid_now has listed m same = subst (λ z. IsReady z e.level) same (is_ready old now originals e valid_old valid_now has listed)

-- each look-up finds something
and_some : {X : Type 0} (P : X → Type 0) (found : Option X) (x : X) → found ≡ Some x → IsSomeAnd found P → P x
and_some P found x e h = subst (λ z. IsSomeAnd z P) e h

some_of : {X : Type 0} (P : X → Type 0) (found : Option X) → IsSomeAnd found P → IsSome found
some_of P None h = absurd h
some_of P (Some x) h = refl

pub statement_there : (old now : List Statement) (originals : List ℕ) (k access part : ℕ) (xs : List Statement) → HasSide old now originals k access part → xs ≡ now → IsSome (member xs k)
statement_there old now originals k access part xs h e =
    subst (λ z. IsSome (member z k)) (sym e) (some_of (λ s. IsSome (member s.accesses access) × IsSome (member s.domain part)) (member now k) h.statement)

pub number_there : (old now : List Statement) (originals : List ℕ) (k access part : ℕ) → HasSide old now originals k access part → IsSome (member originals k)
number_there old now originals k access part h = some_of (λ j. IsSome (member old j)) (member originals k) h.original

pub original_there : (old now : List Statement) (originals : List ℕ) (k access part j : ℕ) (xs : List Statement) → HasSide old now originals k access part → xs ≡ old
    → member originals k ≡ Some j → IsSome (member xs j)
original_there old now originals k access part j xs h e n =
    subst (λ z. IsSome (member z j)) (sym e) (and_some (λ i. IsSome (member old i)) (member originals k) j n h.original)

inside : (old now : List Statement) (originals : List ℕ) (k access part : ℕ) (xs : List Statement) (s : Statement) → HasSide old now originals k access part → xs ≡ now
    → member xs k ≡ Some s → IsSome (member s.accesses access) × IsSome (member s.domain part)
inside old now originals k access part xs s h e n =
    and_some (λ t. IsSome (member t.accesses access) × IsSome (member t.domain part)) (member now k) s (ap (λ z. member z k) (sym e) ∙ n) h.statement

pub access_there : (old now : List Statement) (originals : List ℕ) (k access part : ℕ) (xs : List Statement) (s : Statement) (ys : List Access) → HasSide old now originals k access part
    → xs ≡ now → member xs k ≡ Some s → ys ≡ s.accesses → IsSome (member ys access)
access_there old now originals k access part xs s ys h e n y = subst (λ z. IsSome (member z access)) (sym y) (inside old now originals k access part xs s h e n).0

pub part_there : (old now : List Statement) (originals : List ℕ) (k access part : ℕ) (xs : List Statement) (s : Statement) (ys : List System) → HasSide old now originals k access part
    → xs ≡ now → member xs k ≡ Some s → ys ≡ s.domain → IsSome (member ys part)
part_there old now originals k access part xs s ys h e n y = subst (λ z. IsSome (member z part)) (sym y) (inside old now originals k access part xs s h e n).1

-- what the look-ups found
pub found_by : (old now : List Statement) (originals : List ℕ) (k access part j : ℕ) (xs zs : List Statement) (s original : Statement) (ys : List Access) (a : Access) (ps : List System) (p : System)
    → xs ≡ now → member xs k ≡ Some s → member originals k ≡ Some j → zs ≡ old → member zs j ≡ Some original → ys ≡ s.accesses → member ys access ≡ Some a → ps ≡ s.domain → member ps part ≡ Some p
    → Found old now originals k access part s original j a p
found_by old now originals k access part j xs zs s original ys a ps p ex s_is j_is ez o_is ey a_is ep p_is = record {
  statement_is = ap (λ z. member z k) (sym ex) ∙ s_is;
  number_is = j_is;
  original_is = ap (λ z. member z j) (sym ez) ∙ o_is;
  access_is = ap (λ z. member z access) (sym ey) ∙ a_is;
  part_is = ap (λ z. member z part) (sym ep) ∙ p_is;
}

-- the side of a number, from look-ups alone
side_is : (old now : List Statement) (originals : List ℕ) → ArePieces old now originals → (k j : ℕ) (s original : Statement)
    → member now k ≡ Some s → member originals k ≡ Some j → member old j ≡ Some original → member (under_originals old now originals) k ≡ Some (under s original.schedule)
side_is old now originals h k j s original se je oe =
    (originals_match old now originals h).into k s se
    ∙ ap (λ i. Some (under s (schedule_in (member old (member_or 0 i))))) je ∙ ap (λ o. Some (under s (schedule_in o))) oe

pub side_found : (old now : ScopData) (originals : List ℕ) → HasOriginals old now originals → (k j : ℕ) (xs zs : List Statement) (s original : Statement)
    → xs ≡ now.statements → member xs k ≡ Some s → member originals k ≡ Some j → zs ≡ old.statements → member zs j ≡ Some original
    → side_at (sides old now originals) k ≡ (k, under s original.schedule)
side_found old now originals has k j xs zs s original ex se je ez oe =
    ap (λ found. (k, member_or no_side found))
    (side_is old.statements now.statements originals has.pieces k j s original (ap (λ z. member z k) (sym ex) ∙ se) je (ap (λ z. member z j) (sym ez) ∙ oe))

-- each piece has an original, whatever its number
some_member : {X : Type 0} (found : Option X) → IsSome found → (x : X) × (found ≡ Some x)
some_member None h = absurd (cc)
some_member (Some x) h = (x, refl)

original_of_some : (old now : ScopData) (originals : List ℕ) (k : ℕ) → HasOriginals old now originals → IsSome (member now.statements k)
    → IsSomeAnd (member originals k) (λ j. IsSome (member old.statements j))
original_of_some old now originals k has some =
    let s = some_member (member now.statements k) some in
    piece_is_there old.statements s.0 (member originals k) (piece_member old.statements now.statements originals has.pieces k s.0 s.1)

pub number_of_some : (old now : ScopData) (originals : List ℕ) (k : ℕ) → HasOriginals old now originals → IsSome (member now.statements k) → IsSome (member originals k)
number_of_some old now originals k has some = some_of (λ j. IsSome (member old.statements j)) (member originals k) (original_of_some old now originals k has some)

pub old_of_some : (old now : ScopData) (originals : List ℕ) (k j : ℕ) (xs : List Statement) → HasOriginals old now originals → IsSome (member now.statements k)
    → member originals k ≡ Some j → xs ≡ old.statements → IsSome (member xs j)
old_of_some old now originals k j xs has some je ex =
    subst (λ z. IsSome (member z j)) (sym ex) (and_some (λ i. IsSome (member old.statements i)) (member originals k) j je (original_of_some old now originals k has some))

-- what was found can be counted
pub is_counted : (old now : ScopData) → IsValid old → IsValid now → (k j : ℕ) (xs zs : List Statement) (s original : Statement)
    → xs ≡ now.statements → member xs k ≡ Some s → zs ≡ old.statements → member zs j ≡ Some original → IsCounted s original.schedule
is_counted old now valid_old valid_now k j xs zs s original ex se ez oe =
    let here = all_member StatementKeepsLimits now.statements k s (ap (λ z. member z k) (sym ex) ∙ se) (keeps_limits now valid_now).each in
    let there = all_member StatementKeepsLimits old.statements j original (ap (λ z. member z j) (sym ez) ∙ oe) (keeps_limits old valid_old).each in
    let shaped = all_member (IsShapedStatement old.context.shape.parameters) old.statements j original (ap (λ z. member z j) (sym ez) ∙ oe) (scops_are_shaped old valid_old).statements in
    record { parts = omega (arith, here.parts); accesses = omega (arith, here.accesses); betas = omega (arith, there.levels, shaped.schedule.relation.betas) }

-- a number from 1 to the count is that of a statement, and fits 32 bits
pub number_counts : (now : ScopData) → IsValid now → length now.statements < 2 ^ 32
number_counts now valid = omega (arith, (keeps_limits now valid).statements)

some_slice : {X : Type 0} (xs : List X) (k : ℕ) → k < length xs → IsSome (slice_get xs k)
some_slice [] k h = absurd (omega arith)
some_slice (x ∷ xs) zero h = refl
some_slice (x ∷ xs) (suc k) h = some_slice xs k (omega arith)

pub member_below : {X : Type 0} (xs : List X) (k n : ℕ) → k < length xs → n ≡ k + 1 → IsSome (member xs n)
member_below xs k n h e = subst (λ i. IsSome (member xs i)) (let number : suc k ≡ n = omega (arith, e) in number) (some_slice xs k h)

-- as many sides as statements
pub length_sides : (old now : List Statement) (originals : List ℕ) → ArePieces old now originals → length (under_originals old now originals) ≡ length now
length_sides old [] originals h = refl
length_sides old (s ∷ now) [] h = absurd h
length_sides old (s ∷ now) (k ∷ originals) h = omega (arith, length_sides old now originals h.1)
